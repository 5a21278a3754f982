-- The plans of a block are those of the block with any values in place of its parameters; and of conditions without
-- parameters an index can use the fixed ones.
use Rattle.std.proofs.Common.{◌≡◌, ◌↔◌, ◌∙◌, ℕ, ◌<◌, false, List, [], ◌∷◌, IsTrue, length, map, refl, sym, ap, subst, arith}
use Rattle.std.specs.List.{list_any}
use Rattle.std.proofs.Math.ListN.{get_or-map}
use Rattle.std.proofs.lemmas.List.{length-map}
use Rattle.std.proofs.Math.Bool.{and-true}
use Rattle.sql_values.specs.declared.column.ColumnType.{ColumnType}
use Rattle.sql_values.specs.declared.value.Value.{Value}
use Rattle.query_block.specs.declared.condition.Operand.{Operand}
use Rattle.query_block.specs.declared.condition.Operand.TheVariants.{Column, Literal, Parameter}
use Rattle.query_block.specs.Conditions.{FilterTree, Compare, Between, OneOf, IsNull, Not, And, Or}
use Rattle.query_block.specs.Parameters.{is_parameter, put_operand, put_condition}
use Rattle.query_block.specs.Blocks.{BlockTree, IsOperand, FitsColumns, relation_at, put_relation, put_of}
use Rattle.plan_tree.specs.Plans.{PlanTree, Scan, IndexScan, Nest, Hash, Merge, IndexLoop, has_leaf}
use Rattle.plan_tree.specs.Usable.{is_column, is_value, is_usable, is_fixed_usable}
use Rattle.plan_tree.specs.Enumerated.{IsIndexed, HasUsable, IsScannable, IsLookUp, IsSubPlan, IsPlan, has_usable, column_on, edge_at}

module _ (values : List Value) where
  same-column : (column : ℕ) (operand : Operand) → is_column column (put_operand values operand) ≡ is_column column operand
  same-column column (Column other) = refl
  same-column column (Literal literal) = refl
  same-column column (Parameter number) = refl

  same-value : (operand : Operand) → is_value (put_operand values operand) ≡ is_value operand
  same-value (Column column) = refl
  same-value (Literal literal) = refl
  same-value (Parameter number) = refl

  pub put-usable : (columns : List ColumnType) (column : ℕ) (conjunct : FilterTree) → is_usable columns column (put_condition values conjunct) ≡ is_usable columns column conjunct
  put-usable columns column (Compare op left right) = rw (same-column column left, same-column column right, same-value left, same-value right) refl
  put-usable columns column (Between of low high) = rw (same-column column of, same-value low, same-value high) refl
  put-usable columns column (OneOf of operands) = refl
  put-usable columns column (IsNull of) = refl
  put-usable columns column (Not inner) = refl
  put-usable columns column (And parts) = refl
  put-usable columns column (Or parts) = refl

  pub put-any-usable : (columns : List ColumnType) (column : ℕ) (conjuncts : List FilterTree)
      → list_any (is_usable columns column) (map (put_condition values) conjuncts) ≡ list_any (is_usable columns column) conjuncts
  put-any-usable columns column [] = refl
  put-any-usable columns column (conjunct ∷ conjuncts) = rw (put-usable columns column conjunct, put-any-usable columns column conjuncts) refl

  module _ (block : BlockTree) where
    put-at : (number : ℕ) → relation_at (put_of values block).relations number ≡ put_relation values (relation_at block.relations number)
    put-at number = get_or-map (put_relation values) block.relations number (record { table = 0; columns = []; filter = []; indexes = [] })

    same-indexed : (number column : ℕ) → IsIndexed (relation_at (put_of values block).relations number) column ↔ IsIndexed (relation_at block.relations number) column
    same-indexed number column = rw (put-at number) (λ is. is, λ is. is)

    same-usable : (number column : ℕ) → HasUsable (relation_at (put_of values block).relations number) column ↔ HasUsable (relation_at block.relations number) column
    same-usable number column =
        let relation = relation_at block.relations number in
        let same : has_usable (relation_at (put_of values block).relations number) column ≡ has_usable relation column =
        ap (λ one. has_usable one column) (put-at number) ∙ put-any-usable relation.columns column relation.filter in
        (subst IsTrue same, subst IsTrue (sym same))

    same-below : (number : ℕ) → (number < length (put_of values block).relations) ↔ (number < length block.relations)
    same-below number =
        let same : length (put_of values block).relations ≡ length block.relations = length-map block.relations (put_relation values) in
        (subst (λ n. number < n) same, subst (λ n. number < n) (sym same))

    put-scannable : (relation column : ℕ) → IsScannable (put_of values block) relation column ↔ IsScannable block relation column
    put-scannable relation column = (
      λ is. record { exists = (same-below relation).0 is.exists; indexed = (same-indexed relation column).0 is.indexed; usable = (same-usable relation column).0 is.usable },
      λ is. record { exists = (same-below relation).1 is.exists; indexed = (same-indexed relation column).1 is.indexed; usable = (same-usable relation column).1 is.usable },
    )

    put-look-up : (edge : ℕ) (left : PlanTree) (relation : ℕ) → IsLookUp (put_of values block) edge left relation ↔ IsLookUp block edge left relation
    put-look-up edge left relation =
        let column = column_on (edge_at block.edges edge) relation in (
          λ is. record { exists = (same-below relation).0 is.exists; apart = is.apart; crosses = is.crosses; indexed = (same-indexed relation column).0 is.indexed },
          λ is. record { exists = (same-below relation).1 is.exists; apart = is.apart; crosses = is.crosses; indexed = (same-indexed relation column).1 is.indexed },
        )

    put-sub-plan : (p : PlanTree) → IsSubPlan (put_of values block) p ↔ IsSubPlan block p
    put-sub-plan (Scan relation) = same-below relation
    put-sub-plan (IndexScan relation column) = put-scannable relation column
    put-sub-plan (Nest left right) =
        let l = put-sub-plan left in
        let r = put-sub-plan right in
        (λ is. (l.0 is.0, r.0 is.1, is.2), λ is. (l.1 is.0, r.1 is.1, is.2))
    put-sub-plan (Hash edge left right) =
        let l = put-sub-plan left in
        let r = put-sub-plan right in
        (λ is. (l.0 is.0, r.0 is.1, is.2, is.3), λ is. (l.1 is.0, r.1 is.1, is.2, is.3))
    put-sub-plan (Merge edge left right) =
        let l = put-sub-plan left in
        let r = put-sub-plan right in
        (λ is. (l.0 is.0, r.0 is.1, is.2, is.3), λ is. (l.1 is.0, r.1 is.1, is.2, is.3))
    put-sub-plan (IndexLoop edge left relation) =
        let l = put-sub-plan left in
        let look_up = put-look-up edge left relation in
        (λ is. (l.0 is.0, look_up.0 is.1), λ is. (l.1 is.0, look_up.1 is.1))

    pub put-plan : (p : PlanTree) → IsPlan (put_of values block) p ↔ IsPlan block p
    put-plan p =
        let nodes = put-sub-plan p in
        let same : length (put_of values block).relations ≡ length block.relations = length-map block.relations (put_relation values) in (
          λ is. record { nodes = nodes.0 is.nodes; whole = subst (λ (count : ℕ). (r : ℕ) → r < count → IsTrue (has_leaf p r)) same is.whole },
          λ is. record { nodes = nodes.1 is.nodes; whole = subst (λ (count : ℕ). (r : ℕ) → r < count → IsTrue (has_leaf p r)) (sym same) is.whole },
        )

-- a condition without parameters isn't open where an index can use it
closed-operand : (columns : List ColumnType) (operand : Operand) → IsOperand [] columns operand → is_parameter operand ≡ false
closed-operand columns (Column column) is = refl
closed-operand columns (Literal literal) is = refl
closed-operand columns (Parameter number) is = grind arith

pub all-fixed : (columns : List ColumnType) (column : ℕ) (conjunct : FilterTree) → FitsColumns [] columns conjunct → is_usable columns column conjunct ≡ is_fixed_usable columns column conjunct
all-fixed columns column (Compare op left right) fits =
    rw (closed-operand columns left fits.0, closed-operand columns right fits.1) (sym (and-true (is_usable columns column (Compare op left right))))
all-fixed columns column (Between of low high) fits =
    rw (closed-operand columns of fits.0.0, closed-operand columns low fits.0.1, closed-operand columns high fits.1.1) (sym (and-true (is_usable columns column (Between of low high))))
all-fixed columns column (OneOf of operands) fits = refl
all-fixed columns column (IsNull of) fits = refl
all-fixed columns column (Not inner) fits = refl
all-fixed columns column (And parts) fits = refl
all-fixed columns column (Or parts) fits = refl
