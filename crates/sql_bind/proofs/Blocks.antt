-- A query that nothing refuses binds to a block of which holds what is always so of blocks.
use Rattle.std.proofs.Common.{◌≡◌, ◌≢◌, ◌∙◌, ℕ, zero, suc, ◌+◌, ◌<◌, ◌≤◌, ◌^◌, Bool, true, false, nat_lt, ◌==◌, if◌then◌else◌, List, [], ◌∷◌, ◌++◌, length, map, filter, slice_index_or, All, IfSome, Option, Some, None, refl, sym, ap, subst, arith, append-nil, ltb-true, ltb-false, eqb-true, true≢false, flat_map}
use Rattle.std.proofs.lemmas.Grind.{common_steps}
use Rattle.std.specs.Prelude.{unwrap_or}
use Rattle.std.specs.List.{AllByRecursion, cons_option, filter_map}
use Rattle.std.specs.Option.{option_or}
use Rattle.std.proofs.lemmas.Bool.{eqb-false}
use Rattle.std.proofs.lemmas.List.{length-map}
use Rattle.std.proofs.lemmas.List.Elements.{All-nil, All-cons, All-head, All-tail, All-map, All-append, All-weaker}
use Rattle.sql_values.specs.declared.limit.LimitName.{LimitName}
use Rattle.sql_values.specs.declared.limit.LimitName.TheVariants as limit
use Rattle.sql_values.specs.declared.column.ColumnType.{ColumnType}
use Rattle.sql_values.specs.declared.column.ColumnDef.{ColumnDef}
use Rattle.sql_values.specs.declared.op.Op.{Op}
use Rattle.sql_values.specs.declared.op.Op.TheVariants.{Eq, Ne, Lt, Le, Gt, Ge}
use Rattle.sql_values.specs.declared.value.Value.{Value}
use Rattle.sql_values.specs.declared.value.Value.TheVariants as value
use Rattle.sql_values.specs.Limits.{max_relations, max_projection, max_axes}
use Rattle.query_block.specs.declared.edge.ColumnAt.{ColumnAt}
use Rattle.query_block.specs.declared.edge.Edge.{Edge}
use Rattle.query_block.specs.declared.kind.Kind.{Kind}
use Rattle.query_block.specs.declared.kind.Kind.TheVariants as kind
use Rattle.query_block.specs.Conditions.{FilterTree}
use Rattle.query_block.specs.Blocks.{RelationTree, relation_at, kind_at, holds_texts, is_text, is_text_kind, is_text_operand, IsOperand, AreOperands, FitsColumns, FitColumns, IsRelation, IsPlace, kind_of, IsEdge, IsBlock, axes_of}
use Rattle.sql_parse.specs.declared.tree.ColRef.{ColRef}
use Rattle.sql_parse.specs.declared.tree.Term.{Term}
use Rattle.sql_parse.specs.declared.tree.Term.TheVariants as term
use Rattle.sql_parse.specs.Trees.{ConditionTree, ConditionTrees, Compare, Between, OneOf, IsNull, Not, And, Or, NoMore, More, QueryTree}
use Rattle.sql_parse.specs.Parameters.{parameter_of, parameters_in, parameters_in_all, parameters_of_condition}
use Rattle.sql_parse.specs.WellFormed.{IsNotNull, AreNotNull, IsWellFormedCondition, AreWellFormedConditions, IsWellFormedQuery}
use Rattle.db_catalog.specs.Database.{DatabaseState}
use Rattle.sql_bind.specs.declared.reach.Reach.{Reach}
use Rattle.sql_bind.specs.declared.reach.Reach.TheVariants.{Nothing, One, Several}
use Rattle.sql_bind.specs.Named.{NamedTable, IsNamed}
use Rattle.sql_bind.specs.Names.{places_among, places_from, named_once, the_one, written_column_fault, place_of, first_fault_among, first_fault_from}
use Rattle.sql_bind.specs.Located.{kind_in, kind_if, located, located_at, kinds_of, first_kind, given_kind, parameters_among}
use Rattle.sql_bind.specs.Predicates.{predicates, predicates_of_all, term_fault, own_fault, alike_fault, predicate_fault, predicates_fault, parameters_of}
use Rattle.sql_bind.specs.Conjuncts.{Conjunct, conjuncts, conjuncts_of_all, conjunct_of, conjunct_fault, joined_reach, reach_at, reach_of_term, reach_of_terms, reach_of, reach_of_all, edge_between, equality_between, equality_of, is_filter_of, edge_in, negated_if, is_null_at, bound_condition, bound_conditions}
use Rattle.sql_bind.specs.Binding.{named_table, named_tables, past_limit, projection_fault, conjuncts_in, condition_fault, edges_of, filter_of, columns_from, every_column, projection_of, relations_from, parameter_kinds, block_of, bind_fault}
use Rattle.sql_bind.proofs.Faults.{first_fault-append, neither}
use Rattle.sql_bind.proofs.Parameters.{HasKind, HaveKinds, column-count, have-own, have-parts, parameter_kinds-count}

-- a number within its limit
within : (name : LimitName) (most value : ℕ) → past_limit name most value ≡ None → value ≤ most
within name most value h = grind (arith, common_steps, nat_lt, ltb-false)

kept-if : {X : Type 0} (P : X → Type 0) (b : Bool) (x : X) (xs : List X) → (b ≡ true → P x) → All P xs → All P (if b then x ∷ xs else xs)
kept-if P true x xs p h = All-cons P x xs (p refl) h
kept-if P false x xs p h = h

kept-tree : (P : FilterTree → Type 0) (b : Bool) (conjunct : Conjunct) (conjuncts : List Conjunct) → (b ≡ true → P conjunct.tree) → All P (map (λ one. one.tree) conjuncts)
    → All P (map (λ one. one.tree) (if b then conjunct ∷ conjuncts else conjuncts))
kept-tree P true conjunct conjuncts p h = All-cons P conjunct.tree (map (λ one. one.tree) conjuncts) (p refl) h
kept-tree P false conjunct conjuncts p h = h

all-if : {X : Type 0} (P : X → Type 0) (b : Bool) (xs : List X) → All P xs → All P (if b then xs else [])
all-if P true xs h = h
all-if P false xs h = All-nil P

all-one : {X : Type 0} (P : X → Type 0) (x : X) → P x → All P (x ∷ [])
all-one P x h = All-cons P x [] h (All-nil P)

-- what the columns of a table hold
abbrev kinds : NamedTable → List ColumnType
kinds table = map (λ column. column.kind) table.columns

abbrev table_named : List NamedTable → ℕ → NamedTable
table_named tables relation = slice_index_or tables relation (record { alias = []; number = 0; columns = []; indexed = [] })

-- the table and its column exist
abbrev IsThere : List NamedTable → ColumnAt → Type 0
IsThere tables place = (place.relation < length tables) × (place.column < length (table_named tables place.relation).columns)

-- a column of this relation, below this number
abbrev IsOf : (relation most : ℕ) → ColumnAt → Type 0
IsOf relation most place = (place.relation ≡ relation) × (place.column < most)

every-of : (relation number most : ℕ) (columns : List ColumnDef) → number + length columns ≤ most → All (IsOf relation most) (columns_from relation number columns)
every-of relation number most [] h = All-nil (IsOf relation most)
every-of relation number most (column ∷ columns) h =
    grind (arith, common_steps, All-cons, every-of relation (number + 1) most columns (omega (arith, h)))

named-of : (relation number most : ℕ) (columns : List ColumnDef) (name : List ℕ) → number + length columns ≤ most
    → All (IsOf relation most) (places_among relation number columns name)
named-of relation number most [] name h = All-nil (IsOf relation most)
named-of relation number most (column ∷ columns) name h =
    grind (arith, common_steps, kept-if, named-of relation (number + 1) most columns name (omega (arith, h)))

-- a column of these tables, of which the first is this relation
abbrev IsFrom : ℕ → List NamedTable → ColumnAt → Type 0
IsFrom relation tables place =
    (k : ℕ) × (place.relation ≡ relation + k) × (k < length tables) × (place.column < length (table_named tables k).columns)

of-first : (relation : ℕ) (table : NamedTable) (tables : List NamedTable) (place : ColumnAt)
    → IsOf relation (length table.columns) place → IsFrom relation (table ∷ tables) place
of-first relation table tables place h = (0, omega (arith, h.0), omega arith, h.1)

of-rest : (relation : ℕ) (table : NamedTable) (tables : List NamedTable) (place : ColumnAt)
    → IsFrom (relation + 1) tables place → IsFrom relation (table ∷ tables) place
of-rest relation table tables place h = (suc h.0, omega (arith, h.1), omega (arith, h.2), h.3)

-- the columns of the first table, and those of the others
of-all : (relation : ℕ) (table : NamedTable) (tables : List NamedTable) (first rest : List ColumnAt)
    → All (IsOf relation (length table.columns)) first → All (IsFrom (relation + 1) tables) rest → All (IsFrom relation (table ∷ tables)) (first ++ rest)
of-all relation table tables first rest h more =
    All-append (IsFrom relation (table ∷ tables)) first rest
    (All-weaker (IsOf relation (length table.columns)) (IsFrom relation (table ∷ tables)) (of-first relation table tables) first h)
    (All-weaker (IsFrom (relation + 1) tables) (IsFrom relation (table ∷ tables)) (of-rest relation table tables) rest more)

every-from : (relation : ℕ) (tables : List NamedTable) → All (IsFrom relation tables) (every_column relation tables)
every-from relation [] = All-nil (IsFrom relation [])
every-from relation (table ∷ tables) = grind (arith, common_steps, of-all, every-of, every-from (relation + 1) tables)

named-from : (relation : ℕ) (tables : List NamedTable) (written : ColRef) → All (IsFrom relation tables) (places_from relation tables written)
named-from relation [] written = All-nil (IsFrom relation [])
named-from relation (table ∷ tables) written =
    grind (arith, common_steps, of-all, all-if, named-of, named-from (relation + 1) tables written)

from-there : (tables : List NamedTable) (place : ColumnAt) → IsFrom 0 tables place → IsThere tables place
from-there tables place h = grind (arith, common_steps)

-- the place is there
abbrev IsSomewhere : List NamedTable → Option ColumnAt → Type 0
IsSomewhere tables None = ⊥
IsSomewhere tables (Some place) = IsThere tables place

one-there : (tables : List NamedTable) (written : ColRef) (places : List ColumnAt) → All (IsFrom 0 tables) places → named_once written places ≡ None → IsSomewhere tables (the_one places)
one-there tables written [] h none = cc
one-there tables written (place ∷ []) h none = from-there tables place (All-head (IsFrom 0 tables) place [] h)
one-there tables written (place ∷ other ∷ more) h none = cc

column-there : (tables : List NamedTable) (written : ColRef) → written_column_fault tables written ≡ None → IsSomewhere tables (place_of tables written)
column-there tables written none = one-there tables written (places_from 0 tables written) (named-from 0 tables written) none

-- the relations of a block have the columns of their tables
columns-at : (conjuncts : List Conjunct) (relation : ℕ) (tables : List NamedTable) (k : ℕ)
    → (relation_at (relations_from conjuncts relation tables) k).columns ≡ kinds (table_named tables k)
columns-at conjuncts relation [] k = refl
columns-at conjuncts relation (table ∷ tables) zero = refl
columns-at conjuncts relation (table ∷ tables) (suc k) = columns-at conjuncts (relation + 1) tables k

relations-count : (conjuncts : List Conjunct) (relation : ℕ) (tables : List NamedTable)
    → length (relations_from conjuncts relation tables) ≡ length tables
relations-count conjuncts relation [] = refl
relations-count conjuncts relation (table ∷ tables) = ap suc (relations-count conjuncts (relation + 1) tables)

kinds-count : (table : NamedTable) → length (kinds table) ≡ length table.columns
kinds-count table = length-map table.columns (λ column. column.kind)

place-sound : (tables : List NamedTable) (conjuncts : List Conjunct) (place : ColumnAt) → IsThere tables place → IsPlace (relations_from conjuncts 0 tables) place
place-sound tables conjuncts place h = grind (arith, common_steps, relations-count, columns-at, kinds-count)

kind-there : (tables : List NamedTable) (conjuncts : List Conjunct) (place : ColumnAt)
    → holds_texts (kind_of (relations_from conjuncts 0 tables) place) ≡ holds_texts (kind_in tables place)
kind-there tables conjuncts place = ap (λ columns. holds_texts (kind_at columns place.column)) (columns-at conjuncts 0 tables place.relation)

-- a place that is there, of a column of this kind
abbrev IsPlaced : List NamedTable → Kind → Option ColumnAt → Type 0
IsPlaced tables of None = ⊥
IsPlaced tables of (Some place) = IsThere tables place × (holds_texts (kind_in tables place) ≡ is_text_kind of)

-- an operand of this kind: its column exists, its literal isn't NULL, its parameter is one of these
abbrev IsGood : List NamedTable → List Kind → Kind → Term → Type 0
IsGood tables parameters of (term.Column written) = IsPlaced tables of (place_of tables written)
IsGood tables parameters of (term.Literal literal) = IsNotNull (term.Literal literal) × (is_text literal ≡ is_text_kind of)
IsGood tables parameters of (term.Parameter number) = HasKind parameters of number

-- so it is of all operands of a predicate, which has a kind
record AreGood (tables : List NamedTable) (parameters : List Kind) (terms : List Term) : Type 0 where
  of : Kind
  all : AllByRecursion (IsGood tables parameters of) terms

abbrev mutual
  -- so it is of each predicate of a condition
  IsSound : List NamedTable → List Kind → ConditionTree → Type 0
  IsSound tables parameters (Compare op left right) = AreGood tables parameters (left ∷ right ∷ [])
  IsSound tables parameters (Between negated of low high) = AreGood tables parameters (of ∷ low ∷ high ∷ [])
  IsSound tables parameters (OneOf negated of terms) = AreGood tables parameters (of ∷ terms)
  IsSound tables parameters (IsNull negated column) = AreGood tables parameters (term.Column column ∷ [])
  IsSound tables parameters (Not inner) = IsSound tables parameters inner
  IsSound tables parameters (And parts) = AreSound tables parameters parts
  IsSound tables parameters (Or parts) = AreSound tables parameters parts

  AreSound : List NamedTable → List Kind → ConditionTrees → Type 0
  AreSound tables parameters NoMore = Unit {0}
  AreSound tables parameters (More part parts) = IsSound tables parameters part × AreSound tables parameters parts

-- the operand of this kind isn't refused
kind-is : (number : ℕ) (of : Kind) (text : Bool) → own_fault number of (Some (kind_if text)) ≡ None → text ≡ is_text_kind of
kind-is number kind.Integer false none = refl
kind-is number kind.Integer true none = cc
kind-is number kind.Text false none = cc
kind-is number kind.Text true none = refl

column-good : (tables : List NamedTable) (number : ℕ) (of : Kind) (place : Option ColumnAt) → IsSomewhere tables place → own_fault number of (located_at tables place).kind ≡ None
    → IsPlaced tables of place
column-good tables number of None there none = absurd there
column-good tables number of (Some place) there none = (there, kind-is number of (holds_texts (kind_in tables place)) none)

module _ (tables : List NamedTable) (parameters : List Kind) where
  terms-good : (number : ℕ) (of : Kind) (terms : List Term) → first_fault_among (term_fault tables) terms ≡ None → first_fault_among (own_fault number of) (kinds_of tables terms) ≡ None → AreNotNull terms
      → HaveKinds parameters (filter_map parameter_of terms) (flat_map (given_kind of) (kinds_of tables terms)) → AllByRecursion (IsGood tables parameters of) terms
  terms-good number of [] none alike null have = tt
  terms-good number of (term.Column written ∷ terms) none alike null have =
      let columns = neither (term_fault tables (term.Column written)) (first_fault_among (term_fault tables) terms) none in
      let own = neither (own_fault number of (located tables (term.Column written)).kind) (first_fault_among (own_fault number of) (kinds_of tables terms)) alike in
      let kinds = flat_map (given_kind of) (kinds_of tables terms) in (
        column-good tables number of (place_of tables written) (column-there tables written columns.0) own.0,
        terms-good number of terms columns.1 own.1 null.1
            (subst (HaveKinds parameters (filter_map parameter_of terms)) (column-count tables of (place_of tables written) kinds) have),
      )
  terms-good number of (term.Literal literal ∷ terms) none alike null have =
      let own = neither (own_fault number of (located tables (term.Literal literal)).kind) (first_fault_among (own_fault number of) (kinds_of tables terms)) alike in
      ((null.0, kind-is number of _ own.0), terms-good number of terms none own.1 null.1 have)
  terms-good number of (term.Parameter n ∷ terms) none alike null have = (have.0, terms-good number of terms none alike null.1 have.1)

  operands-good : (number : ℕ) (terms : List Term) → option_or (option_or (first_fault_among (term_fault tables) terms) (alike_fault number (first_kind (kinds_of tables terms)) (kinds_of tables terms))) None ≡ None
      → AreNotNull terms → HaveKinds parameters (filter_map parameter_of terms) (parameters_among (kinds_of tables terms) ++ []) → AreGood tables parameters terms
  operands-good number terms none null have =
      let kinds = kinds_of tables terms in
      let one = neither (option_or (first_fault_among (term_fault tables) terms) (alike_fault number (first_kind kinds) kinds)) None none in
      let both = neither (first_fault_among (term_fault tables) terms) (alike_fault number (first_kind kinds) kinds) one.0 in
      by (first_kind kinds) both.0 both.1 (subst (HaveKinds parameters (filter_map parameter_of terms)) (append-nil (parameters_among kinds)) have)
    where
      by : (of : Option Kind) → first_fault_among (term_fault tables) terms ≡ None → alike_fault number of (kinds_of tables terms) ≡ None
          → HaveKinds parameters (filter_map parameter_of terms) (flat_map (given_kind (unwrap_or of kind.Integer)) (kinds_of tables terms)) → AreGood tables parameters terms
      by None columns alike have = cc
      by (Some of) columns alike have = record { of = of; all = terms-good number of terms columns alike null have }

  mutual
    condition-sound : (number : ℕ) (tree : ConditionTree) → predicates_fault tables number (predicates tree) ≡ None → IsWellFormedCondition tree
        → HaveKinds parameters (parameters_in tree) (parameters_of tables (predicates tree)) → IsSound tables parameters tree
    condition-sound number (Compare op left right) none formed have = operands-good number (left ∷ right ∷ []) none (formed.0, (formed.1, tt)) have
    condition-sound number (Between negated of low high) none formed have =
        operands-good number (of ∷ low ∷ high ∷ []) none (formed.0, (formed.1, (formed.2, tt))) have
    condition-sound number (OneOf negated of terms) none formed have = operands-good number (of ∷ terms) none (formed.0, formed.1) have
    condition-sound number (IsNull negated column) none formed have = operands-good number (term.Column column ∷ []) none (tt, tt) tt
    condition-sound number (Not inner) none formed have = condition-sound number inner none formed have
    condition-sound number (And parts) none formed have = conditions-sound number parts none formed.1 have
    condition-sound number (Or parts) none formed have = conditions-sound number parts none formed.1 have

    conditions-sound : (number : ℕ) (parts : ConditionTrees) → first_fault_from (predicate_fault tables) number (predicates_of_all parts) ≡ None
        → AreWellFormedConditions parts → HaveKinds parameters (parameters_in_all parts) (parameters_of tables (predicates_of_all parts))
        → AreSound tables parameters parts
    conditions-sound number NoMore none formed have = tt
    conditions-sound number (More part parts) none formed have =
        let next = number + length (predicates part) in
        let both = neither (first_fault_from (predicate_fault tables) number (predicates part)) (first_fault_from (predicate_fault tables) next (predicates_of_all parts))
        (sym (first_fault-append (predicate_fault tables) number (predicates part) (predicates_of_all parts)) ∙ none) in
        let kinds = have-parts parameters tables part parts have in
        (condition-sound number part both.0 formed.0 kinds.0, conditions-sound next parts both.1 formed.1 kinds.1)

  mutual
    conjuncts-sound : (tree : ConditionTree) → IsSound tables parameters tree → All (IsSound tables parameters) (conjuncts tree)
    conjuncts-sound (Compare op left right) h = all-one (IsSound tables parameters) (Compare op left right) h
    conjuncts-sound (Between negated of low high) h = all-one (IsSound tables parameters) (Between negated of low high) h
    conjuncts-sound (OneOf negated of terms) h = all-one (IsSound tables parameters) (OneOf negated of terms) h
    conjuncts-sound (IsNull negated column) h = all-one (IsSound tables parameters) (IsNull negated column) h
    conjuncts-sound (Not inner) h = all-one (IsSound tables parameters) (Not inner) h
    conjuncts-sound (And parts) h = all_conjuncts-sound parts h
    conjuncts-sound (Or parts) h = all-one (IsSound tables parameters) (Or parts) h

    all_conjuncts-sound : (parts : ConditionTrees) → AreSound tables parameters parts → All (IsSound tables parameters) (conjuncts_of_all parts)
    all_conjuncts-sound NoMore h = All-nil (IsSound tables parameters)
    all_conjuncts-sound (More part parts) h =
        All-append (IsSound tables parameters) (conjuncts part) (conjuncts_of_all parts) (conjuncts-sound part h.0) (all_conjuncts-sound parts h.1)

-- no column is of another relation
abbrev IsWithin : ℕ → Reach → Type 0
IsWithin relation Nothing = Unit {0}
IsWithin relation (One other) = other ≡ relation
IsWithin relation Several = ⊥

same-within : (relation r s : ℕ) (b : Bool) → (r == s) ≡ b → IsWithin relation (if b then One r else Several) → (r ≡ relation) × (s ≡ relation)
same-within relation r s true e h = (h, sym (eqb-true r s e) ∙ h)
same-within relation r s false e h = absurd h

both-within : (relation : ℕ) (a b : Reach) → IsWithin relation (joined_reach a b) → IsWithin relation a × IsWithin relation b
both-within relation Nothing b h = (tt, h)
both-within relation Several b h = absurd h
both-within relation (One r) Nothing h = (h, tt)
both-within relation (One r) Several h = absurd h
both-within relation (One r) (One s) h = same-within relation r s (r == s) refl h

filtered-within : (relation : ℕ) (reached : Reach) → is_filter_of relation reached ≡ true → IsWithin relation reached
filtered-within relation Nothing e = tt
filtered-within relation (One other) e = eqb-true other relation e
filtered-within relation Several e = absurd (true≢false (sym e))

not_null : (literal : Value) → IsNotNull (term.Literal literal) → literal ≢ value.Null
not_null value.Null h = absurd h
not_null (value.Int number) h = λ e. cc
not_null (value.Text text) h = λ e. cc

module _ (tables : List NamedTable) (parameters : List Kind) (relation : ℕ) where
  -- what the columns of the relation hold
  abbrev columns_here : List ColumnType
  columns_here = kinds (table_named tables relation)

  -- an operand of this kind that, if it is a column, is one of the relation
  abbrev IsHere : Kind → Term → Type 0
  IsHere of t = IsGood tables parameters of t × IsWithin relation (reach_of_term tables t)

  column-fits : (of : Kind) (place : Option ColumnAt) → IsPlaced tables of place → IsWithin relation (reach_at (located_at tables place).place)
      → IsOperand parameters columns_here (located_at tables place).operand
  column-fits of None is here = absurd is
  column-fits of (Some place) is here =
      subst (λ n. place.column < length (kinds (table_named tables n))) here (omega (arith, is.0.1, kinds-count (table_named tables place.relation)))

  column-kind : (of : Kind) (place : Option ColumnAt) → IsPlaced tables of place → IsWithin relation (reach_at (located_at tables place).place)
      → is_text_operand parameters columns_here (located_at tables place).operand ≡ is_text_kind of
  column-kind of None is here = absurd is
  column-kind of (Some place) is here = ap (λ n. holds_texts (kind_at (kinds (table_named tables n)) place.column)) (sym here) ∙ is.1

  null-fits : (of : Kind) (place : Option ColumnAt) → IsPlaced tables of place → IsWithin relation (reach_at (located_at tables place).place)
      → FitsColumns parameters columns_here (is_null_at (located_at tables place).place)
  null-fits of None is here = absurd is
  null-fits of (Some place) is here = column-fits of (Some place) is here

  operand-fits : (of : Kind) (t : Term) → IsHere of t → IsOperand parameters columns_here (located tables t).operand
  operand-fits of (term.Column written) is = column-fits of (place_of tables written) is.0 is.1
  operand-fits of (term.Literal literal) is = not_null literal is.0.0
  operand-fits of (term.Parameter number) is = is.0.0

  operand-kind : (of : Kind) (t : Term) → IsHere of t → is_text_operand parameters columns_here (located tables t).operand ≡ is_text_kind of
  operand-kind of (term.Column written) is = column-kind of (place_of tables written) is.0 is.1
  operand-kind of (term.Literal literal) is = is.0.1
  operand-kind of (term.Parameter number) is = ap is_text_kind is.0.1

  operands-fit : (of : Kind) (a b : Term) → IsHere of a → IsHere of b → AreOperands parameters columns_here (located tables a).operand (located tables b).operand
  operands-fit of a b is_a is_b = (operand-fits of a is_a, operand-fits of b is_b, operand-kind of a is_a ∙ sym (operand-kind of b is_b))

  terms-fit : (of : Kind) (first : Term) (terms : List Term) → IsHere of first → AllByRecursion (IsGood tables parameters of) terms
      → IsWithin relation (reach_of_terms tables terms)
      → All (AreOperands parameters columns_here (located tables first).operand) (map (λ term. (located tables term).operand) terms)
  terms-fit of first [] is goods heres = All-nil (AreOperands parameters columns_here (located tables first).operand)
  terms-fit of first (t ∷ terms) is goods heres =
      let reached = both-within relation (reach_of_term tables t) (reach_of_terms tables terms) heres in
      All-cons (AreOperands parameters columns_here (located tables first).operand) (located tables t).operand (map (λ term. (located tables term).operand) terms)
      (operands-fit of first t is (goods.0, reached.0)) (terms-fit of first terms is goods.1 reached.1)

  negated-fits : (negated : Bool) (tree : FilterTree) → FitsColumns parameters columns_here tree → FitsColumns parameters columns_here (negated_if negated tree)
  negated-fits true tree h = h
  negated-fits false tree h = h

  mutual
    condition-fits : (tree : ConditionTree) → IsSound tables parameters tree → IsWithin relation (reach_of tables tree)
        → FitsColumns parameters columns_here (bound_condition tables tree)
    condition-fits (Compare op left right) h here =
        let heres = both-within relation (reach_of_term tables left) (reach_of_term tables right) here in
        operands-fit h.of left right (h.all.0, heres.0) (h.all.1.0, heres.1)
    condition-fits (Between negated of low high) h here =
        let heres = both-within relation (reach_of_term tables of) (joined_reach (reach_of_term tables low) (reach_of_term tables high)) here in
        let others = both-within relation (reach_of_term tables low) (reach_of_term tables high) heres.1 in
        negated-fits negated _ (
          operands-fit h.of of low (h.all.0, heres.0) (h.all.1.0, others.0),
          operands-fit h.of of high (h.all.0, heres.0) (h.all.1.1.0, others.1),
        )
    condition-fits (OneOf negated of terms) h here =
        let heres = both-within relation (reach_of_term tables of) (reach_of_terms tables terms) here in
        negated-fits negated _ (operand-fits h.of of (h.all.0, heres.0), terms-fit h.of of terms (h.all.0, heres.0) h.all.1 heres.1)
    condition-fits (IsNull negated column) h here = negated-fits negated _ (null-fits h.of (place_of tables column) h.all.0 here)
    condition-fits (Not inner) h here = condition-fits inner h here
    condition-fits (And parts) h here = conditions-fit parts h here
    condition-fits (Or parts) h here = conditions-fit parts h here

    conditions-fit : (parts : ConditionTrees) → AreSound tables parameters parts → IsWithin relation (reach_of_all tables parts)
        → FitColumns parameters columns_here (bound_conditions tables parts)
    conditions-fit NoMore h here = tt
    conditions-fit (More part parts) h here =
        let heres = both-within relation (reach_of tables part) (reach_of_all tables parts) here in
        (condition-fits part h.0 heres.0, conditions-fit parts h.1 heres.1)

-- the edge between two columns that exist, of one kind and of different relations
between-sound : (relations : List RelationTree) (a b : ColumnAt) → IsPlace relations a → IsPlace relations b
    → holds_texts (kind_of relations a) ≡ holds_texts (kind_of relations b) → (a.relation == b.relation) ≡ false → IsEdge relations (edge_between a b)
between-sound relations a b here_a here_b alike apart =
    grind (arith, common_steps, nat_lt, ltb-true, ltb-false, eqb-false)

-- no edge is none, whatever is reached
no_edge : (reached : Reach) (edge : Edge) → edge_in reached None ≡ Some edge → ⊥
no_edge Nothing edge e = cc
no_edge (One r) edge e = cc
no_edge Several edge e = cc

-- an edge is one between columns of different relations
edge-apart : (r : ℕ) (same : Bool) (edge found : Edge) → edge_in (if same then One r else Several) (Some edge) ≡ Some found → (same ≡ false) × (edge ≡ found)
edge-apart r true edge found e = cc
edge-apart r false edge found e = (refl, cc)

equality-sound : (tables : List NamedTable) (conjuncts : List Conjunct) (of : Kind) (a b : ColumnAt) (found : Edge) → IsPlaced tables of (Some a) → IsPlaced tables of (Some b)
    → edge_in (joined_reach (One a.relation) (One b.relation)) (Some (edge_between a b)) ≡ Some found → IsEdge (relations_from conjuncts 0 tables) found
equality-sound tables conjuncts of a b found here_a here_b e =
    let apart = edge-apart a.relation (a.relation == b.relation) (edge_between a b) found e in
    subst (IsEdge (relations_from conjuncts 0 tables)) apart.1
    (between-sound (relations_from conjuncts 0 tables) a b (place-sound tables conjuncts a here_a.0) (place-sound tables conjuncts b here_b.0)
    (kind-there tables conjuncts a ∙ here_a.1 ∙ sym here_b.1 ∙ sym (kind-there tables conjuncts b)) apart.0)

-- an operand's place, if it has one, is there
abbrev IsPlacedIf : List NamedTable → Kind → Option ColumnAt → Type 0
IsPlacedIf tables of None = Unit {0}
IsPlacedIf tables of (Some place) = IsPlaced tables of (Some place)

term-placed : (tables : List NamedTable) (parameters : List Kind) (of : Kind) (t : Term) → IsGood tables parameters of t → IsPlacedIf tables of (located tables t).place
term-placed tables parameters of (term.Column written) h = grind (arith, common_steps)
term-placed tables parameters of (term.Literal literal) h = tt
term-placed tables parameters of (term.Parameter number) h = tt

compare-sound : (tables : List NamedTable) (conjuncts : List Conjunct) (of : Kind) (op : Op) (a b : Option ColumnAt) (found : Edge) → IsPlacedIf tables of a → IsPlacedIf tables of b
    → edge_in (joined_reach (reach_at a) (reach_at b)) (equality_between op a b) ≡ Some found → IsEdge (relations_from conjuncts 0 tables) found
compare-sound tables conjuncts of Eq (Some a) (Some b) found here_a here_b e = equality-sound tables conjuncts of a b found here_a here_b e
compare-sound tables conjuncts of Eq (Some a) None found here_a here_b e = absurd (no_edge (joined_reach (reach_at (Some a)) Nothing) found e)
compare-sound tables conjuncts of Eq None b found here_a here_b e = absurd (no_edge (joined_reach Nothing (reach_at b)) found e)
compare-sound tables conjuncts of Ne a b found here_a here_b e = absurd (no_edge (joined_reach (reach_at a) (reach_at b)) found e)
compare-sound tables conjuncts of Lt a b found here_a here_b e = absurd (no_edge (joined_reach (reach_at a) (reach_at b)) found e)
compare-sound tables conjuncts of Le a b found here_a here_b e = absurd (no_edge (joined_reach (reach_at a) (reach_at b)) found e)
compare-sound tables conjuncts of Gt a b found here_a here_b e = absurd (no_edge (joined_reach (reach_at a) (reach_at b)) found e)
compare-sound tables conjuncts of Ge a b found here_a here_b e = absurd (no_edge (joined_reach (reach_at a) (reach_at b)) found e)

edge-sound : (tables : List NamedTable) (parameters : List Kind) (conjuncts : List Conjunct) (tree : ConditionTree) (found : Edge) → IsSound tables parameters tree
    → edge_in (reach_of tables tree) (equality_of tables tree) ≡ Some found → IsEdge (relations_from conjuncts 0 tables) found
edge-sound tables parameters conjuncts (Compare op left right) found h e =
    compare-sound tables conjuncts h.of op (located tables left).place (located tables right).place found
    (term-placed tables parameters h.of left h.all.0) (term-placed tables parameters h.of right h.all.1.0) e
edge-sound tables parameters conjuncts (Between negated of low high) found h e = absurd (no_edge (reach_of tables (Between negated of low high)) found e)
edge-sound tables parameters conjuncts (OneOf negated of terms) found h e = absurd (no_edge (reach_of tables (OneOf negated of terms)) found e)
edge-sound tables parameters conjuncts (IsNull negated column) found h e = absurd (no_edge (reach_of tables (IsNull negated column)) found e)
edge-sound tables parameters conjuncts (Not inner) found h e = absurd (no_edge (reach_of tables (Not inner)) found e)
edge-sound tables parameters conjuncts (And inner) found h e = absurd (no_edge (reach_of tables (And inner)) found e)
edge-sound tables parameters conjuncts (Or inner) found h e = absurd (no_edge (reach_of tables (Or inner)) found e)

-- a conjunct fits the relation that it filters, or is an edge of these
record Suits (tables : List NamedTable) (parameters : List Kind) (conjunct : Conjunct) : Type 0 where
  filter : (relation : ℕ) → is_filter_of relation conjunct.reach ≡ true → FitsColumns parameters (kinds (table_named tables relation)) conjunct.tree
  edge : (conjuncts : List Conjunct) (found : Edge) → edge_in conjunct.reach conjunct.equality ≡ Some found → IsEdge (relations_from conjuncts 0 tables) found

suits : (tables : List NamedTable) (parameters : List Kind) (tree : ConditionTree) → IsSound tables parameters tree → Suits tables parameters (conjunct_of tables tree)
suits tables parameters tree h = record {
  filter = λ relation one. condition-fits tables parameters relation tree h (filtered-within relation (reach_of tables tree) one);
  edge = λ conjuncts found e. edge-sound tables parameters conjuncts tree found h e;
}

parts-sound : (tables : List NamedTable) (parameters : List Kind) (condition : Option ConditionTree) → condition_fault tables condition ≡ None → IfSome condition IsWellFormedCondition
    → HaveKinds parameters (parameters_of_condition condition) (parameter_kinds tables condition) → All (Suits tables parameters) (conjuncts_in tables condition)
parts-sound tables parameters None none formed have = All-nil (Suits tables parameters)
parts-sound tables parameters (Some tree) none formed have =
    let both = neither (predicates_fault tables 1 (predicates tree)) (first_fault_from conjunct_fault 1 (map (conjunct_of tables) (conjuncts tree))) none in
    All-map (Suits tables parameters) (conjunct_of tables) (conjuncts tree)
    (All-weaker (IsSound tables parameters) (λ one. Suits tables parameters (conjunct_of tables one)) (suits tables parameters) (conjuncts tree)
    (conjuncts-sound tables parameters tree (condition-sound tables parameters 1 tree both.0 formed have)))

filter-fits : (tables : List NamedTable) (parameters : List Kind) (relation : ℕ) (conjuncts : List Conjunct) → All (Suits tables parameters) conjuncts
    → All (FitsColumns parameters (kinds (table_named tables relation))) (filter_of conjuncts relation)
filter-fits tables parameters relation [] h = All-nil (FitsColumns parameters (kinds (table_named tables relation)))
filter-fits tables parameters relation (conjunct ∷ conjuncts) h =
    kept-tree (FitsColumns parameters (kinds (table_named tables relation))) (is_filter_of relation conjunct.reach) conjunct
    (filter (λ one. is_filter_of relation one.reach) conjuncts)
    ((All-head (Suits tables parameters) conjunct conjuncts h).filter relation) (filter-fits tables parameters relation conjuncts (All-tail (Suits tables parameters) conjunct conjuncts h))

all-with : {X : Type 0} (P : X → Type 0) (o : Option X) (xs : List X) → ((x : X) → o ≡ Some x → P x) → All P xs → All P (cons_option o xs)
all-with P None xs p h = h
all-with P (Some x) xs p h = All-cons P x xs (p x refl) h

edges-sound : (tables : List NamedTable) (parameters : List Kind) (all some : List Conjunct) → All (Suits tables parameters) some
    → All (IsEdge (relations_from all 0 tables)) (edges_of some)
edges-sound tables parameters all [] h = All-nil (IsEdge (relations_from all 0 tables))
edges-sound tables parameters all (conjunct ∷ some) h =
    all-with (IsEdge (relations_from all 0 tables)) (edge_in conjunct.reach conjunct.equality) (edges_of some)
    ((All-head (Suits tables parameters) conjunct some h).edge all) (edges-sound tables parameters all some (All-tail (Suits tables parameters) conjunct some h))

relation-sound : (tables : List NamedTable) (parameters : List Kind) (conjuncts : List Conjunct) (relation : ℕ) (table : NamedTable) → table_named tables relation ≡ table → IsNamed table
    → All (Suits tables parameters) conjuncts
    → IsRelation parameters (record { table = table.number; columns = kinds table; filter = filter_of conjuncts relation; indexes = table.indexed })
relation-sound tables parameters conjuncts relation table same named h =
    grind (arith, common_steps, kinds-count, filter-fits)

relations-sound : (tables : List NamedTable) (parameters : List Kind) (conjuncts : List Conjunct) (relation : ℕ) (rest : List NamedTable)
    → ((k : ℕ) → table_named tables (relation + k) ≡ table_named rest k) → All IsNamed rest → All (Suits tables parameters) conjuncts
    → All (IsRelation parameters) (relations_from conjuncts relation rest)
relations-sound tables parameters conjuncts relation [] same named h = All-nil (IsRelation parameters)
relations-sound tables parameters conjuncts relation (table ∷ rest) same named h =
    let first : relation ≡ relation + 0 = omega arith in
    let next : (k : ℕ) → relation + 1 + k ≡ relation + suc k = λ k. omega arith in
    All-cons (IsRelation parameters) _ (relations_from conjuncts (relation + 1) rest)
    (relation-sound tables parameters conjuncts relation table (ap (table_named tables) first ∙ same 0) (All-head IsNamed table rest named) h)
    (relations-sound tables parameters conjuncts (relation + 1) rest (λ k. ap (table_named tables) (next k) ∙ same (suc k)) (All-tail IsNamed table rest named) h)

with-place : (tables : List NamedTable) (conjuncts : List Conjunct) (place : Option ColumnAt) (places : List ColumnAt) → IsSomewhere tables place
    → All (IsPlace (relations_from conjuncts 0 tables)) places → All (IsPlace (relations_from conjuncts 0 tables)) (cons_option place places)
with-place tables conjuncts None places there h = h
with-place tables conjuncts (Some place) places there h = All-cons (IsPlace (relations_from conjuncts 0 tables)) place places (place-sound tables conjuncts place there) h

columns-sound : (tables : List NamedTable) (conjuncts : List Conjunct) (columns : List ColRef) → first_fault_among (written_column_fault tables) columns ≡ None
    → All (IsPlace (relations_from conjuncts 0 tables)) (filter_map (place_of tables) columns)
columns-sound tables conjuncts [] none = All-nil (IsPlace (relations_from conjuncts 0 tables))
columns-sound tables conjuncts (written ∷ columns) none =
    let both = neither (written_column_fault tables written) (first_fault_among (written_column_fault tables) columns) none in
    with-place tables conjuncts (place_of tables written) (filter_map (place_of tables) columns) (column-there tables written both.0) (columns-sound tables conjuncts columns both.1)

projection-sound : (tables : List NamedTable) (conjuncts : List Conjunct) (columns : Option (List ColRef)) → projection_fault tables columns ≡ None
    → All (IsPlace (relations_from conjuncts 0 tables)) (projection_of tables columns)
projection-sound tables conjuncts None none =
    All-weaker (IsFrom 0 tables) (IsPlace (relations_from conjuncts 0 tables))
    (λ place h. place-sound tables conjuncts place (from-there tables place h)) (every_column 0 tables) (every-from 0 tables)
projection-sound tables conjuncts (Some columns) none =
    columns-sound tables conjuncts columns (neither (past_limit limit.Projection max_projection (length columns)) (first_fault_among (written_column_fault tables) columns) none).1

-- what holds of a query that nothing refuses
record IsFree (database : DatabaseState) (query : QueryTree) : Type 0 where
  tables : length query.from ≤ max_relations
  projection : projection_fault (named_tables database query.from) query.columns ≡ None
  condition : condition_fault (named_tables database query.from) query.condition ≡ None
  axes : axes_of (block_of database query) ≤ max_axes

free : (database : DatabaseState) (query : QueryTree) → bind_fault database query ≡ None → IsFree database query
free database query none = grind (arith, common_steps, within)

pub block-sound : (database : DatabaseState) (query : QueryTree) → IsWellFormedQuery query → All IsNamed (named_tables database query.from)
    → bind_fault database query ≡ None → IsBlock (block_of database query)
block-sound database query formed named none =
    let tables = named_tables database query.from in
    let conjuncts = conjuncts_in tables query.condition in
    let parameters = parameter_kinds tables query.condition in
    let h = free database query none in
    let have = have-own parameters (parameters_of_condition query.condition) formed.numbered in
    let sound = parts-sound tables parameters query.condition h.condition formed.condition have in
    let count : length (relations_from conjuncts 0 tables) ≡ length query.from =
    relations-count conjuncts 0 tables ∙ length-map query.from (named_table database) in
    let here : (k : ℕ) → 0 + k ≡ k = λ k. omega arith in
    record {
      some = omega (arith, count, formed.tables);
      few = omega (arith, count, h.tables);
      relations = relations-sound tables parameters conjuncts 0 tables (λ k. ap (table_named tables) (here k)) named sound;
      axes = h.axes;
      edges = edges-sound tables parameters conjuncts conjuncts sound;
      projection = projection-sound tables conjuncts query.columns h.projection;
      parameters = subst (λ n. n < 2 ^ 32) (sym (parameter_kinds-count tables query.condition)) formed.few_parameters;
    }
