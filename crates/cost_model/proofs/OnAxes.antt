-- The axes of relations and of indexes: they are axes of the block's grid, and a column that isn't there has none.
use Rattle.std.proofs.Common.{◌≡◌, ◌≢◌, ℕ, ◌+◌, ◌<◌, ◌≤◌, cond, List, [], ◌∷◌, All, length, take, get_or, get_or-set_other, get_or-set_same, below_more, None, Some, Option, refl, sym, ap, subst, ◌∙◌, arith}
use Rattle.std.specs.Prelude.{Bool, true, false, ◌&&◌, ◌||◌, IfSome, is_some, slice_set}
use Rattle.std.specs.List.{count_by, list_any}
use Rattle.std.proofs.lemmas.List.Elements.{All-head, All-tail, All-get_or}
use Rattle.std.proofs.lemmas.List.Sums.{count_by_more_yes, sum_by-take-le}
use Rattle.std.proofs.lemmas.Bool.Decides.{nat_tests}
use Rattle.std.proofs.lemmas.List.{get_or-map}
use Rattle.std.proofs.Math.ListN.{length-map, length-set}
use Rattle.query_block.specs.Parameters.{is_open}
use Rattle.sql_values.specs.declared.column.ColumnType.{ColumnType}
use Rattle.query_block.specs.declared.kind.Kind.{Kind}
use Rattle.query_block.specs.declared.condition.Operand.{Operand}
use Rattle.query_block.specs.declared.condition.Operand.TheVariants.{Column, Literal, Parameter}
use Rattle.query_block.specs.Conditions.{FilterTree, Compare, Between, OneOf, IsNull, Not, And, Or}
use Rattle.query_block.specs.declared.block.Relation.{Relation}
use Rattle.query_block.specs.Shape.{BlockShape}
use Rattle.query_block.specs.Blocks.{RelationTree, BlockTree, relation_tree, block_tree, IsOperand, FitsColumns, IsRelation, IsBlock, relation_at, has_parameter, axes_of, axis_of}
use Rattle.plan_tree.specs.Usable.{is_column, is_usable}
use Rattle.cost_model.specs.AtPoint.{has_open_usable, axis_of_index}
use Rattle.cost_model.specs.Axes.{AreAxes, AreOpenColumns, AreOpen, KeepsAxes}
use Rattle.cost_model.specs.Costing.{CostingShape, costing_tree}
use Rattle.cost_model.proofs.Sets.{relation-small}

-- ---- below those of the grid

first-below : {X : Type 0} (test : X → Bool) (xs : List X) (place : ℕ) (none : X) → place < length xs → test (get_or xs place none) ≡ true → count_by test (take place xs) < count_by test xs
first-below test xs place none below is =
    omega (arith, count_by_more_yes test xs place none below is, sum_by-take-le (λ x. cond (test x) 1 0) xs (place + 1))

some-below : (b : Bool) (axis top : ℕ) → (b ≡ true → axis < top) → IfSome (cond b (Some axis) None) (λ one. one < top)
some-below true axis top below = below refl
some-below false axis top below = tt

pub axis-below : (block : BlockTree) (relation : ℕ) → relation < length block.relations → IfSome (axis_of block relation) (λ axis. axis < axes_of block)
axis-below block relation there =
    some-below (has_parameter (relation_at block.relations relation)) (length block.edges + count_by has_parameter (take relation block.relations)) (axes_of block)
    (λ is. omega (arith, first-below has_parameter block.relations relation _ there is))

in-tree : (block : BlockShape) (relation : ℕ) → relation < length block.relations → relation < length (block_tree block).relations
in-tree block relation there = simp length-map there

-- the kept axis of a relation
module _ (costing : CostingShape) (axes : List (Option ℕ)) (columns : List (List Bool)) (relation : ℕ) (keeps : KeepsAxes (costing_tree costing) axes columns) (there : relation < length costing.block.relations) where
  pub kept-axis : get_or axes relation None ≡ axis_of (block_tree costing.block) relation
  kept-axis = keeps.of_block relation (in-tree costing.block relation there)

  pub kept-below : IfSome (get_or axes relation None) (λ axis. axis < costing.grid.axes)
  kept-below =
      let block = block_tree costing.block in
      let below = subst (λ axis. IfSome axis (λ one. one < axes_of block)) (sym kept-axis) (axis-below block relation (in-tree costing.block relation there)) in
      subst (λ many. IfSome (get_or axes relation None) (λ axis. axis < many)) (sym keeps.is_costing.axes) below

-- a table whose first places are told, and one place more
pub next-told : {X : Type 0} (Is : ℕ → X → Type 0) (table : List X) (end many : ℕ) (one none : X) → end < many → Is end one
    → ((place : ℕ) → place < end → Is place (get_or table place none)) × (length table ≡ many)
    → ((place : ℕ) → place < end + 1 → Is place (get_or (slice_set table end one) place none)) × (length (slice_set table end one) ≡ many)
next-told Is table end many one none small is before =
    let lt : end < length table = omega (arith, before.1, small) in (
      below_more (λ place. Is place (get_or (slice_set table end one) place none)) end
          (λ k h. let ne : k ≢ end = omega arith in rw get_or-set_other (before.0 k h)) (rw get_or-set_same is),
      length-set table end one ∙ before.1,
    )

pub all-axes : (block : BlockShape) (lent : List Relation) (axes : List (Option ℕ)) (end : ℕ) → lent ≡ block.relations → length lent ≤ end
    → ((relation : ℕ) → relation < end → get_or axes relation None ≡ axis_of (block_tree block) relation) → AreAxes (block_tree block) axes
all-axes block lent axes end same all before relation below =
    before relation (omega (arith, below, all, ap length same, length-map block.relations relation_tree))

-- ---- the open columns

pub all-columns : (relation : Relation) (lent : List ColumnType) (table : List Bool) (end : ℕ) → lent ≡ relation.columns → length lent ≤ end
    → ((column : ℕ) → column < end → get_or table column false ≡ has_open_usable (relation_tree relation) column) → AreOpenColumns (relation_tree relation) table
all-columns relation lent table end same all before column below = before column (omega (arith, below, all, ap length same))

module _ (block : BlockShape) (lent : List Relation) (block-is : IsBlock (block_tree block)) (lent-is : lent ≡ block.relations) where
  -- a relation that is lent
  lent-relation : (relation : ℕ) (counted : Relation) → relation < length lent → counted ≡ get_or lent relation counted
      → relation_at (block_tree block).relations relation ≡ relation_tree counted
  lent-relation relation counted there counted-is =
      let below : relation < length block.relations = omega (arith, there, ap length lent-is) in
      get_or-map relation_tree block.relations relation counted _ below ∙ ap relation_tree (sym (counted-is ∙ ap (λ all. get_or all relation counted) lent-is))

  pub few-columns : (relation : ℕ) (counted : Relation) → relation < length lent → counted ≡ get_or lent relation counted → length counted.columns ≤ 32
  few-columns relation counted there counted-is =
      let tree = block_tree block in
      let below : relation < length tree.relations = in-tree block relation (omega (arith, there, ap length lent-is)) in
      let fits : IsRelation tree.parameters (relation_at tree.relations relation) = All-get_or (IsRelation tree.parameters) tree.relations relation _ below block-is.relations in
      omega (arith, ap (λ (one : RelationTree). length one.columns) (lent-relation relation counted there counted-is), fits.few)

  -- one relation more
  pub next-open : (table : List (List Bool)) (relation : ℕ) (counted : Relation) (columns : List Bool) → relation < length lent → counted ≡ get_or lent relation counted
      → AreOpenColumns (relation_tree counted) columns
      → ((one : ℕ) → one < relation → AreOpenColumns (relation_at (block_tree block).relations one) (get_or table one [])) × (length table ≡ 6)
      → ((one : ℕ) → one < relation + 1 → AreOpenColumns (relation_at (block_tree block).relations one) (get_or (slice_set table relation columns) one [])) × (length (slice_set table relation columns) ≡ 6)
  next-open table relation counted columns there counted-is are before =
      next-told (λ one. AreOpenColumns (relation_at (block_tree block).relations one)) table relation 6 columns [] (relation-small block lent relation block-is lent-is there)
      (subst (λ one. AreOpenColumns one columns) (sym (lent-relation relation counted there counted-is)) are) before

  pub all-open : (table : List (List Bool)) (end : ℕ) → length lent ≤ end
      → ((one : ℕ) → one < end → AreOpenColumns (relation_at (block_tree block).relations one) (get_or table one [])) → AreOpen (block_tree block) table
  all-open table end all before relation below = before relation (omega (arith, below, all, ap length lent-is, length-map block.relations relation_tree))

-- ---- columns that aren't there

other-column : (kinds : List Kind) (columns : List ColumnType) (column : ℕ) (operand : Operand) → length columns ≤ column → IsOperand kinds columns operand → is_column column operand ≡ false
other-column kinds columns column (Column other) beyond is = let differ : other < column = omega (arith, beyond, is) in grind (arith, nat_tests)
other-column kinds columns column (Literal literal) beyond is = refl
other-column kinds columns column (Parameter number) beyond is = refl

neither-side : (range left value other right : Bool) → left ≡ false → right ≡ false → (range && ((left && value) || (other && right))) ≡ false
neither-side range left value other right out also = grind arith

no-left : (range left low high : Bool) → left ≡ false → (range && left && low && high) ≡ false
no-left range left low high out = grind arith

no-usable : (kinds : List Kind) (columns : List ColumnType) (column : ℕ) (conjunct : FilterTree) → length columns ≤ column → FitsColumns kinds columns conjunct → is_usable columns column conjunct ≡ false
no-usable kinds columns column (Compare op left right) beyond fits =
    neither-side _ _ _ _ _ (other-column kinds columns column left beyond fits.0) (other-column kinds columns column right beyond fits.1)
no-usable kinds columns column (Between of low high) beyond fits = no-left _ _ _ _ (other-column kinds columns column of beyond fits.0.0)
no-usable kinds columns column (OneOf of operands) beyond fits = refl
no-usable kinds columns column (IsNull of) beyond fits = refl
no-usable kinds columns column (Not inner) beyond fits = refl
no-usable kinds columns column (And parts) beyond fits = refl
no-usable kinds columns column (Or parts) beyond fits = refl

neither : (usable other rest : Bool) → usable ≡ false → rest ≡ false → ((usable && other) || rest) ≡ false
neither usable other rest none more = grind arith

none-usable : (kinds : List Kind) (columns : List ColumnType) (column : ℕ) (filter : List FilterTree) → length columns ≤ column → All (FitsColumns kinds columns) filter
    → list_any (λ conjunct. is_usable columns column conjunct && is_open conjunct) filter ≡ false
none-usable kinds columns column [] beyond fits = refl
none-usable kinds columns column (conjunct ∷ more) beyond fits =
    neither (is_usable columns column conjunct) (is_open conjunct) _ (no-usable kinds columns column conjunct beyond (All-head (FitsColumns kinds columns) conjunct more fits))
    (none-usable kinds columns column more beyond (All-tail (FitsColumns kinds columns) conjunct more fits))

no-axis : (kinds : List Kind) (relation : RelationTree) (axis : Option ℕ) (column : ℕ) → IsRelation kinds relation → length relation.columns ≤ column
    → cond (has_open_usable relation column) axis None ≡ None
no-axis kinds relation axis column is beyond =
    ap (λ b. cond b axis None) (none-usable kinds relation.columns column relation.filter beyond is.filter)

-- ---- without an axis

pub none-is : (axis : Option ℕ) → is_some axis ≡ false → axis ≡ None
none-is None none = refl
none-is (Some axis) none = cc

of-none : (b : Bool) (axis : Option ℕ) → axis ≡ None → cond b axis None ≡ None
of-none true axis none = none
of-none false axis none = refl

-- ---- the axis of an index of a relation of a block

module _ (block : BlockShape) (relation column : ℕ) (counted : Relation) (is : IsBlock (block_tree block)) (there : relation < length block.relations) (counted-is : counted ≡ get_or block.relations relation counted) where
  same : relation_at (block_tree block).relations relation ≡ relation_tree counted
  same = get_or-map relation_tree block.relations relation counted _ there ∙ ap relation_tree (sym counted-is)

  pub axis-if : (columns : List (List Bool)) (found : Bool) (axis : Option ℕ) → AreOpen (block_tree block) columns → column < length counted.columns
      → get_or (get_or columns relation []) column false ≡ found → axis ≡ axis_of (block_tree block) relation → cond found axis None ≡ axis_of_index (block_tree block) relation column
  axis-if columns found axis are below found-is axis-is =
      let here = are relation (in-tree block relation there) column (omega (arith, below, ap (λ (relation : RelationTree). length relation.columns) same)) in
      λ i. cond ((sym found-is ∙ here) i) (axis-is i) None

  pub axis-beyond : length counted.columns ≤ column → axis_of_index (block_tree block) relation column ≡ None
  axis-beyond beyond =
      let tree = block_tree block in
      let fits : IsRelation tree.parameters (relation_at tree.relations relation) = All-get_or (IsRelation tree.parameters) tree.relations relation _ (in-tree block relation there) is.relations in
      no-axis tree.parameters (relation_at tree.relations relation) (axis_of tree relation) column fits
      (omega (arith, ap (λ (relation : RelationTree). length relation.columns) same, beyond))

pub axis-without : (block : BlockTree) (relation column : ℕ) (axis : Option ℕ) → axis ≡ axis_of block relation → axis ≡ None → axis_of_index block relation column ≡ None
axis-without block relation column axis is none =
    of-none (has_open_usable (relation_at block.relations relation) column) (axis_of block relation) (sym is ∙ none)
