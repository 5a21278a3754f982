-- The predicates of a condition, what refuses each, and the kinds of its parameters.
use Rattle.std.specs.Prelude.{◌≡◌, ℕ, ◌+◌, length, List, [], ◌∷◌, ◌++◌, Option, Some, None, if◌then◌else◌, flat_map, map}
use Rattle.std.specs.Option.{option_or}
use Rattle.query_block.specs.declared.kind.Kind.{Kind}
use Rattle.sql_parse.specs.declared.tree.Cond.{Cond}
use Rattle.sql_parse.specs.declared.tree.Term.{Term}
use Rattle.sql_parse.specs.declared.tree.Term.TheVariants.{Column}
use Rattle.sql_parse.specs.Trees.{ConditionTree, ConditionTrees, Compare, Between, OneOf, IsNull, Not, And, Or, NoMore, More, condition_tree, operands}
use Rattle.sql_bind.specs.declared.fault.BindFault.{BindFault}
use Rattle.sql_bind.specs.declared.fault.BindFault.TheVariants.{TypeMismatch}
use Rattle.sql_bind.specs.Named.{NamedTable}
use Rattle.sql_bind.specs.Names.{written_column_fault, first_fault_among, first_fault_from}
use Rattle.sql_bind.specs.declared.walk.Walk.{Walk}
use Rattle.sql_bind.specs.Located.{is_same_kind, kinds_of, first_kind, parameters_among}

abbrev mutual
  -- each comparison, BETWEEN, IN and IS NULL of a condition, in written order
  pub predicates : ConditionTree → List ConditionTree
  predicates (Not inner) = predicates inner
  predicates (And parts) = predicates_of_all parts
  predicates (Or parts) = predicates_of_all parts
  predicates predicate = predicate ∷ []

  pub predicates_of_all : ConditionTrees → List ConditionTree
  predicates_of_all NoMore = []
  predicates_of_all (More part parts) = predicates part ++ predicates_of_all parts

-- those of the operands of a chain
abbrev pub all_predicates : List Cond → List ConditionTree
all_predicates parts = predicates_of_all (operands (map condition_tree parts))

-- the operands of a predicate, in written order
abbrev pub terms_of : ConditionTree → List Term
terms_of (Compare op left right) = left ∷ right ∷ []
terms_of (Between negated of low high) = of ∷ low ∷ high ∷ []
terms_of (OneOf negated of terms) = of ∷ terms
terms_of (IsNull negated column) = Column column ∷ []
terms_of other = []

-- an operand: a column of it names exactly one
abbrev pub term_fault : List NamedTable → Term → Option BindFault
term_fault tables (Column written) = written_column_fault tables written
term_fault tables other = None

-- an operand of a predicate of this kind, by its own: that is the same, or it is a parameter
abbrev pub own_fault : ℕ → Kind → Option Kind → Option BindFault
own_fault number kind None = None
own_fault number kind (Some own) = if is_same_kind kind own then None else Some (TypeMismatch number)

-- operands of a predicate of a kind; it has none if all of them are parameters
abbrev pub alike_fault : ℕ → Option Kind → List (Option Kind) → Option BindFault
alike_fault number None kinds = Some (TypeMismatch number)
alike_fault number (Some kind) kinds = first_fault_among (own_fault number kind) kinds

-- a predicate, by its number: its columns from left to right, then the kinds of its operands
abbrev pub predicate_fault : List NamedTable → ℕ → ConditionTree → Option BindFault
predicate_fault tables number predicate =
    let terms = terms_of predicate in
    let kinds = kinds_of tables terms in
    option_or (first_fault_among (term_fault tables) terms) (alike_fault number (first_kind kinds) kinds)

-- predicates, numbered from this number on
abbrev pub predicates_fault : List NamedTable → ℕ → List ConditionTree → Option BindFault
predicates_fault tables number predicates = first_fault_from (predicate_fault tables) number predicates

-- the kinds of the parameters of predicates, in written order
abbrev pub parameters_of : List NamedTable → List ConditionTree → List Kind
parameters_of tables predicates = flat_map (λ predicate. parameters_among (kinds_of tables (terms_of predicate))) predicates

-- these predicates were walked over
pub record Walks (tables : List NamedTable) (predicates : List ConditionTree) (old new : Walk) : Type 0 where
  pub next : new.next ≡ old.next + length predicates
  pub parameters : new.parameters.items ≡ old.parameters.items ++ parameters_of tables predicates
