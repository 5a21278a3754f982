-- Conditions, relations and blocks with values in place of their parameters: they fit, no parameter is left, and where
-- there was none nothing changes.
use Rattle.std.proofs.Common.{◌≡◌, ◌≢◌, ◌∙◌, ℕ, ◌<◌, ◌||◌, Bool, true, false, cond, List, [], ◌∷◌, All, length, map, get_or, refl, sym, ap, subst, arith, lit<}
use Rattle.std.proofs.lemmas.Grind.{common_steps}
use Rattle.std.specs.List.{count_by}
use Rattle.std.proofs.Math.ListN.{get_or-map}
use Rattle.std.proofs.lemmas.List.{length-map}
use Rattle.std.proofs.lemmas.List.Elements.{All-head, All-tail, All-map, All-weaker}
use Rattle.std.proofs.lemmas.List.Folds.{list_any_none}
use Rattle.std.proofs.lemmas.List.Sums.{sum_by-cons}
use Rattle.sql_values.specs.declared.column.ColumnType.{ColumnType}
use Rattle.sql_values.specs.declared.value.Value.{Value}
use Rattle.sql_values.specs.declared.value.Value.TheVariants as value
use Rattle.query_block.specs.declared.kind.Kind.{Kind}
use Rattle.query_block.specs.declared.kind.Kind.TheVariants as kind
use Rattle.query_block.specs.declared.edge.Edge.{Edge}
use Rattle.query_block.specs.declared.edge.ColumnAt.{ColumnAt}
use Rattle.query_block.specs.declared.condition.Condition.{Condition}
use Rattle.query_block.specs.declared.condition.Operand.{Operand}
use Rattle.query_block.specs.declared.condition.Operand.TheVariants.{Column, Literal, Parameter}
use Rattle.query_block.specs.Conditions.{FilterTree, FilterTrees, Compare, Between, OneOf, IsNull, Not, And, Or, NoMore, More, chain, filter_tree}
use Rattle.query_block.specs.Parameters.{is_parameter, is_open, is_any_open, put_operand, put_condition, put_conditions}
use Rattle.query_block.specs.Values.{is_of_kind, FitValues}
use Rattle.query_block.specs.Blocks.{RelationTree, BlockTree, relation_at, kind_at, kind_of, is_text, is_text_kind, is_text_operand, IsOperand, AreOperands, FitsColumns, FitColumns, IsRelation, IsPlace, IsEdge, IsBlock, left_of, right_of, has_parameter, put_relation, put_of, IsPutOf}
use Rattle.query_block.proofs.Fitting.{as-many, fitting}

-- values of the parameters' kinds
abbrev AreFitting : List Kind → List Value → Type 0
AreFitting kinds values = (n : ℕ) → n < length kinds → is_of_kind (get_or kinds n kind.Integer) (get_or values n value.Null) ≡ true

some-value : (of : Kind) (v : Value) → is_of_kind of v ≡ true → v ≢ value.Null
some-value of value.Null is = cc
some-value of (value.Int _) is = λ e. cc
some-value of (value.Text _) is = λ e. cc

text-value : (of : Kind) (v : Value) → is_of_kind of v ≡ true → is_text v ≡ is_text_kind of
text-value of value.Null is = cc
text-value kind.Integer (value.Int _) is = refl
text-value kind.Integer (value.Text _) is = cc
text-value kind.Text (value.Int _) is = cc
text-value kind.Text (value.Text _) is = refl

module _ (kinds : List Kind) (values : List Value) (fit : AreFitting kinds values) (columns : List ColumnType) where
  put-operand : (operand : Operand) → IsOperand kinds columns operand → IsOperand [] columns (put_operand values operand)
  put-operand (Column column) is = is
  put-operand (Literal literal) is = is
  put-operand (Parameter number) is = some-value (get_or kinds number kind.Integer) (get_or values number value.Null) (fit number is)

  put-text : (operand : Operand) → IsOperand kinds columns operand → is_text_operand [] columns (put_operand values operand) ≡ is_text_operand kinds columns operand
  put-text (Column column) is = refl
  put-text (Literal literal) is = refl
  put-text (Parameter number) is = text-value (get_or kinds number kind.Integer) (get_or values number value.Null) (fit number is)

  put-operands : (a b : Operand) → AreOperands kinds columns a b → AreOperands [] columns (put_operand values a) (put_operand values b)
  put-operands a b are = (put-operand a are.0, put-operand b are.1, put-text a are.0 ∙ are.2 ∙ sym (put-text b are.1))

  mutual
    put-fits : (tree : FilterTree) → FitsColumns kinds columns tree → FitsColumns [] columns (put_condition values tree)
    put-fits (Compare op left right) fits = put-operands left right fits
    put-fits (Between of low high) fits = (put-operands of low fits.0, put-operands of high fits.1)
    put-fits (OneOf of operands) fits = (
      put-operand of fits.0,
      All-map (AreOperands [] columns (put_operand values of)) (put_operand values) operands
          (All-weaker (AreOperands kinds columns of) (λ operand. AreOperands [] columns (put_operand values of) (put_operand values operand)) (put-operands of) operands fits.1),
    )
    put-fits (IsNull column) fits = fits
    put-fits (Not inner) fits = put-fits inner fits
    put-fits (And parts) fits = puts-fit parts fits
    put-fits (Or parts) fits = puts-fit parts fits

    puts-fit : (parts : FilterTrees) → FitColumns kinds columns parts → FitColumns [] columns (put_conditions values parts)
    puts-fit NoMore fits = tt
    puts-fit (More part parts) fits = (put-fits part fits.0, puts-fit parts fits.1)

neither : (a b : Bool) → a ≡ false → b ≡ false → (a || b) ≡ false
neither false false is_a is_b = refl
neither false true is_a is_b = cc
neither true b is_a is_b = cc

-- no parameter is left
module _ (values : List Value) where
  closed-operand : (operand : Operand) → is_parameter (put_operand values operand) ≡ false
  closed-operand (Column column) = refl
  closed-operand (Literal literal) = refl
  closed-operand (Parameter number) = refl

  mutual
    closed : (tree : FilterTree) → is_open (put_condition values tree) ≡ false
    closed (Compare op left right) = neither _ _ (closed-operand left) (closed-operand right)
    closed (Between of low high) = neither _ _ (neither _ _ (closed-operand of) (closed-operand low)) (closed-operand high)
    closed (OneOf of operands) =
        let none = λ (operand : Operand). is_parameter operand ≡ false in
        neither _ _ (closed-operand of)
        (list_any_none is_parameter (map (put_operand values) operands) (All-map none (put_operand values) operands (λ k d below. closed-operand (get_or operands k d))))
    closed (IsNull column) = refl
    closed (Not inner) = closed inner
    closed (And parts) = all-closed parts
    closed (Or parts) = all-closed parts

    all-closed : (parts : FilterTrees) → is_any_open (put_conditions values parts) ≡ false
    all-closed NoMore = refl
    all-closed (More part parts) = neither _ _ (closed part) (all-closed parts)

  closed-relation : (relation : RelationTree) → has_parameter (put_relation values relation) ≡ false
  closed-relation relation =
      let none = λ (tree : FilterTree). is_open tree ≡ false in
      list_any_none is_open (map (put_condition values) relation.filter)
      (All-map none (put_condition values) relation.filter (λ k d below. closed (get_or relation.filter k d)))

  pub none-left : (relations : List RelationTree) → count_by has_parameter (map (put_relation values) relations) ≡ 0
  none-left [] = refl
  none-left (relation ∷ relations) =
      let one : Bool → ℕ = λ b. cond b 1 0 in
      omega (
        arith,
        sum_by-cons (λ put. one (has_parameter put)) (put_relation values relation) (map (put_relation values) relations),
        ap one (closed-relation relation),
        none-left relations,
      )

  -- places of columns, and edges
  module _ (relations : List RelationTree) where
    put-at : (number : ℕ) → relation_at (map (put_relation values) relations) number ≡ put_relation values (relation_at relations number)
    put-at number = get_or-map (put_relation values) relations number (record { table = 0; columns = []; filter = []; indexes = [] })

    put-place : (at : ColumnAt) → IsPlace relations at → IsPlace (map (put_relation values) relations) at
    put-place at is = (
      simp length-map is.0,
      subst (λ relation. at.column < length relation.columns) (sym (put-at at.relation)) is.1,
    )

    put-kind : (at : ColumnAt) → kind_of (map (put_relation values) relations) at ≡ kind_of relations at
    put-kind at = ap (λ relation. kind_at relation.columns at.column) (put-at at.relation)

    put-edge : (edge : Edge) → IsEdge relations edge → IsEdge (map (put_relation values) relations) edge
    put-edge edge is = record {
      left = put-place (left_of edge) is.left;
      right = put-place (right_of edge) is.right;
      lower = is.lower;
      one_kind = rw (put-kind (left_of edge), put-kind (right_of edge)) is.one_kind;
    }

put-relation : (kinds : List Kind) (values : List Value) → AreFitting kinds values → (relation : RelationTree) → IsRelation kinds relation → IsRelation [] (put_relation values relation)
put-relation kinds values fit relation is = record {
  some = is.some;
  few = is.few;
  filter =
      All-map (FitsColumns [] relation.columns) (put_condition values) relation.filter
      (All-weaker (FitsColumns kinds relation.columns) (λ tree. FitsColumns [] relation.columns (put_condition values tree))
      (put-fits kinds values fit relation.columns) relation.filter is.filter);
  indexes = is.indexes;
  different = is.different;
}

-- the operands of a chain, one after another
pub put-chain : (values : List Value) (parts : List Condition) → chain (map (λ part. put_condition values (filter_tree part)) parts) ≡ put_conditions values (chain (map filter_tree parts))
put-chain values [] = refl
put-chain values (part ∷ parts) = ap (More (put_condition values (filter_tree part))) (put-chain values parts)

-- a block with values that fit is a block
pub put-block : (values : List Value) (block : BlockTree) → IsBlock block → FitValues block.parameters values → IsBlock (put_of values block)
put-block values block is fit =
    let put = map (put_relation values) block.relations in
    record {
      some = simp length-map is.some;
      few = simp length-map is.few;
      relations =
          All-map (IsRelation []) (put_relation values) block.relations
          (All-weaker (IsRelation block.parameters) (λ relation. IsRelation [] (put_relation values relation))
          (put-relation block.parameters values (fitting block.parameters values fit)) block.relations is.relations);
      axes = omega (arith, is.axes, none-left values block.relations);
      edges = All-weaker (IsEdge block.relations) (IsEdge put) (put-edge values block.relations) block.edges is.edges;
      projection = All-weaker (IsPlace block.relations) (IsPlace put) (put-place values block.relations) block.projection is.projection;
      parameters = lit< tt;
    }

-- where there are no parameters, nothing changes
module _ (values : List Value) (columns : List ColumnType) where
  same-operand : (operand : Operand) → IsOperand [] columns operand → put_operand values operand ≡ operand
  same-operand (Column column) is = refl
  same-operand (Literal literal) is = refl
  same-operand (Parameter number) is = absurd (omega (arith, is))

  same-operands : (of : Operand) (operands : List Operand) → All (AreOperands [] columns of) operands → map (put_operand values) operands ≡ operands
  same-operands of [] all = refl
  same-operands of (operand ∷ operands) all =
      let one = same-operand operand (All-head (AreOperands [] columns of) operand operands all).1 in
      let more = same-operands of operands (All-tail (AreOperands [] columns of) operand operands all) in
      ap (λ first. first ∷ map (put_operand values) operands) one ∙ ap (λ rest. operand ∷ rest) more

  mutual
    same : (tree : FilterTree) → FitsColumns [] columns tree → put_condition values tree ≡ tree
    same (Compare op left right) fits =
        ap (λ one. Compare op one (put_operand values right)) (same-operand left fits.0) ∙ ap (Compare op left) (same-operand right fits.1)
    same (Between of low high) fits =
        ap (λ one. Between one (put_operand values low) (put_operand values high)) (same-operand of fits.0.0)
        ∙ ap (λ one. Between of one (put_operand values high)) (same-operand low fits.0.1) ∙ ap (Between of low) (same-operand high fits.1.1)
    same (OneOf of operands) fits =
        ap (λ one. OneOf one (map (put_operand values) operands)) (same-operand of fits.0) ∙ ap (OneOf of) (same-operands of operands fits.1)
    same (IsNull column) fits = refl
    same (Not inner) fits = ap Not (same inner fits)
    same (And parts) fits = ap And (all-same parts fits)
    same (Or parts) fits = ap Or (all-same parts fits)

    all-same : (parts : FilterTrees) → FitColumns [] columns parts → put_conditions values parts ≡ parts
    all-same NoMore fits = refl
    all-same (More part parts) fits =
        ap (λ one. More one (put_conditions values parts)) (same part fits.0) ∙ ap (More part) (all-same parts fits.1)

  same-filter : (filter : List FilterTree) → All (FitsColumns [] columns) filter → map (put_condition values) filter ≡ filter
  same-filter [] all = refl
  same-filter (tree ∷ trees) all =
      ap (λ first. first ∷ map (put_condition values) trees) (same tree (All-head (FitsColumns [] columns) tree trees all))
      ∙ ap (λ rest. tree ∷ rest) (same-filter trees (All-tail (FitsColumns [] columns) tree trees all))

same-relations : (values : List Value) (relations : List RelationTree) → All (IsRelation []) relations → map (put_relation values) relations ≡ relations
same-relations values [] all = refl
same-relations values (relation ∷ relations) all =
    let one : List FilterTree → RelationTree = λ filter. record { table = relation.table; columns = relation.columns; filter = filter; indexes = relation.indexes } in
    let first : put_relation values relation ≡ relation = ap one (same-filter values relation.columns relation.filter (All-head (IsRelation []) relation relations all).filter) in
    ap (λ put. put ∷ map (put_relation values) relations) first
    ∙ ap (λ rest. relation ∷ rest) (same-relations values relations (All-tail (IsRelation []) relation relations all))

pub put-none : (block : BlockTree) → IsBlock block → block.parameters ≡ [] → put_of [] block ≡ block
put-none block is none = grind (arith, common_steps, same-relations)

-- so a block without parameters is what it is with no values put in
pub own-put : (block : BlockTree) → IsBlock block → block.parameters ≡ [] → IsPutOf block block
own-put block is none = record { values = []; fit = subst (λ kinds. FitValues kinds []) (sym none) refl; is = sym (put-none block is none) }

-- no values fit only where there are no parameters
pub no-parameters : (kinds : List Kind) → FitValues kinds [] → kinds ≡ []
no-parameters [] fit = refl
no-parameters (of ∷ kinds) fit = absurd (omega (arith, as-many (of ∷ kinds) [] fit))
