-- A condition has a kind for each of its parameters, at the place of its number.
use Rattle.std.proofs.Common.{◌≡◌, ◌∙◌, ℕ, ◌+◌, ◌<◌, List, [], ◌∷◌, ◌++◌, Option, Some, None, length, drop, get_or, slice_index_or, refl, sym, ap, subst, arith, append-nil, length-append, flat_map}
use Rattle.std.specs.List.{filter_map}
use Rattle.std.specs.Prelude.{unwrap_or}
use Rattle.std.proofs.lemmas.List.{at_drop_more}
use Rattle.std.proofs.lemmas.Grind.{flat_map-append}
use Rattle.query_block.specs.declared.kind.Kind.{Kind}
use Rattle.query_block.specs.declared.kind.Kind.TheVariants as kind
use Rattle.sql_parse.specs.declared.tree.Term.{Term}
use Rattle.sql_parse.specs.declared.tree.Term.TheVariants as term
use Rattle.sql_parse.specs.Trees.{ConditionTree, ConditionTrees, Compare, Between, OneOf, IsNull, Not, And, Or, NoMore, More}
use Rattle.sql_parse.specs.Parameters.{parameter_of, parameters_in, parameters_in_all, parameters_of_condition, AreNumberedFrom}
use Rattle.sql_bind.specs.Named.{NamedTable}
use Rattle.query_block.specs.declared.edge.ColumnAt.{ColumnAt}
use Rattle.sql_bind.specs.Names.{place_of}
use Rattle.sql_bind.specs.Located.{located_at, kinds_of, first_kind, given_kind, parameters_among}
use Rattle.sql_bind.specs.Predicates.{predicates, predicates_of_all, terms_of, parameters_of}
use Rattle.sql_bind.specs.Binding.{parameter_kinds}

-- a column is given none
pub column-count : (tables : List NamedTable) (of : Kind) (place : Option ColumnAt) (kinds : List Kind) → given_kind of (located_at tables place).kind ++ kinds ≡ kinds
column-count tables of None kinds = refl
column-count tables of (Some place) kinds = refl

given-count : (tables : List NamedTable) (of : Kind) (terms : List Term) → length (flat_map (given_kind of) (kinds_of tables terms)) ≡ length (filter_map parameter_of terms)
given-count tables of [] = refl
given-count tables of (term.Column written ∷ terms) =
    ap length (column-count tables of (place_of tables written) (flat_map (given_kind of) (kinds_of tables terms))) ∙ given-count tables of terms
given-count tables of (term.Literal literal ∷ terms) = given-count tables of terms
given-count tables of (term.Parameter number ∷ terms) = omega (arith, given-count tables of terms)

alone-count : (tables : List NamedTable) (terms : List Term) → length (parameters_among (kinds_of tables terms) ++ []) ≡ length (filter_map parameter_of terms)
alone-count tables terms =
    ap length (append-nil (parameters_among (kinds_of tables terms))) ∙ given-count tables (unwrap_or (first_kind (kinds_of tables terms)) kind.Integer) terms

mutual
  parameters-count : (tables : List NamedTable) (tree : ConditionTree) → length (parameters_of tables (predicates tree)) ≡ length (parameters_in tree)
  parameters-count tables (Compare op left right) = alone-count tables (left ∷ right ∷ [])
  parameters-count tables (Between negated of low high) = alone-count tables (of ∷ low ∷ high ∷ [])
  parameters-count tables (OneOf negated of terms) = alone-count tables (of ∷ terms)
  parameters-count tables (IsNull negated column) = alone-count tables (term.Column column ∷ [])
  parameters-count tables (Not inner) = parameters-count tables inner
  parameters-count tables (And parts) = parameters-count_all tables parts
  parameters-count tables (Or parts) = parameters-count_all tables parts

  parameters-count_all : (tables : List NamedTable) (parts : ConditionTrees)
      → length (parameters_of tables (predicates_of_all parts)) ≡ length (parameters_in_all parts)
  parameters-count_all tables NoMore = refl
  parameters-count_all tables (More part parts) =
      omega (
        arith,
        ap length (flat_map-append (λ predicate. parameters_among (kinds_of tables (terms_of predicate))) (predicates part) (predicates_of_all parts)),
        length-append (parameters_of tables (predicates part)) (parameters_of tables (predicates_of_all parts)),
        length-append (parameters_in part) (parameters_in_all parts),
        parameters-count tables part,
        parameters-count_all tables parts,
      )

pub parameter_kinds-count : (tables : List NamedTable) (condition : Option ConditionTree) → length (parameter_kinds tables condition) ≡ length (parameters_of_condition condition)
parameter_kinds-count tables None = refl
parameter_kinds-count tables (Some tree) = parameters-count tables tree

-- the parameter of this number is there, and of this kind
abbrev pub HasKind : List Kind → Kind → ℕ → Type 0
HasKind parameters of number = (number < length parameters) × (slice_index_or parameters number kind.Integer ≡ of)

-- the parameters of these numbers are of these kinds
abbrev pub HaveKinds : List Kind → List ℕ → List Kind → Type 0
HaveKinds parameters [] kinds = Unit {0}
HaveKinds parameters (number ∷ numbers) [] = Unit {0}
HaveKinds parameters (number ∷ numbers) (of ∷ kinds) = HasKind parameters of number × HaveKinds parameters numbers kinds

have-both : (parameters : List Kind) (numbers others : List ℕ) (kinds more : List Kind) → length kinds ≡ length numbers → HaveKinds parameters (numbers ++ others) (kinds ++ more)
    → HaveKinds parameters numbers kinds × HaveKinds parameters others more
have-both parameters [] others [] more count have = (tt, have)
have-both parameters [] others (of ∷ kinds) more count have = absurd (omega (arith, count))
have-both parameters (number ∷ numbers) others [] more count have = absurd (omega (arith, count))
have-both parameters (number ∷ numbers) others (of ∷ kinds) more count have =
    let rest = have-both parameters numbers others kinds more (omega (arith, count)) have.1 in
    ((have.0, rest.0), rest.1)

-- those of a part of a chain, and those of the parts behind it
pub have-parts : (parameters : List Kind) (tables : List NamedTable) (part : ConditionTree) (parts : ConditionTrees)
    → HaveKinds parameters (parameters_in_all (More part parts)) (parameters_of tables (predicates_of_all (More part parts)))
    → HaveKinds parameters (parameters_in part) (parameters_of tables (predicates part))
    × HaveKinds parameters (parameters_in_all parts) (parameters_of tables (predicates_of_all parts))
have-parts parameters tables part parts have =
    have-both parameters (parameters_in part) (parameters_in_all parts) (parameters_of tables (predicates part)) (parameters_of tables (predicates_of_all parts))
    (parameters-count tables part)
    (subst (HaveKinds parameters (parameters_in_all (More part parts))) (flat_map-append (λ predicate. parameters_among (kinds_of tables (terms_of predicate))) (predicates part) (predicates_of_all parts)) have)

abbrev first_of : List Kind → Kind
first_of [] = kind.Integer
first_of (of ∷ kinds) = of

have-from : (parameters : List Kind) (first : ℕ) (numbers : List ℕ) (kinds : List Kind) → AreNumberedFrom first numbers → drop first parameters ≡ kinds
    → first + length kinds ≡ length parameters → HaveKinds parameters numbers kinds
have-from parameters first [] kinds numbered left count = tt
have-from parameters first (number ∷ numbers) [] numbered left count = tt
have-from parameters first (number ∷ numbers) (of ∷ kinds) numbered left count =
    let here : first < length parameters = omega (arith, count) in
    let is : get_or parameters first kind.Integer ∷ drop (first + 1) parameters ≡ of ∷ kinds = sym (at_drop_more (λ some. some) parameters first kind.Integer here) ∙ left in (
      (subst (λ n. n < length parameters) (sym numbered.0) here, ap (λ n. get_or parameters n kind.Integer) numbered.0 ∙ ap first_of is),
      have-from parameters (first + 1) numbers kinds numbered.1 (ap (drop 1) is) (omega (arith, count)),
    )

-- parameters that are numbered from 0 are of their own kinds
pub have-own : (parameters : List Kind) (numbers : List ℕ) → AreNumberedFrom 0 numbers → HaveKinds parameters numbers parameters
have-own parameters numbers numbered = have-from parameters 0 numbers parameters numbered refl (omega arith)
