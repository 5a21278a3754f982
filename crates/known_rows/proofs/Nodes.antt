-- The least rows and the least work of a plan, by numbers that are capped of its sides.
use Rattle.std.proofs.Common.{◌≡◌, ℕ, ◌*◌, ◌^◌, ◌<◌, Bool, List, cond, max, ap, sym, ◌∙◌}
use Rattle.sql_values.specs.Stored.{StoredTable}
use Rattle.query_block.specs.Blocks.{BlockTree, relation_at}
use Rattle.plan_tree.specs.Plans.{PlanTree, IndexScan, Nest, IndexLoop, covers_of, has_leaf}
use Rattle.plan_tree.specs.Enumerated.{column_on, edge_at}
use Rattle.plan_tree.specs.Work.{capped, height_in, index_scan_line, nest_work, index_loop_work}
use Rattle.known_rows.specs.Known.{KnownState, known_entries, known_rows_of}
use Rattle.known_rows.specs.LeastWork.{are_joined, least_own, least_rows}
use Rattle.known_rows.proofs.Capped.{index_loop-capped, index_scan-capped, nest-capped, pairs-capped}

module _ (tables : List StoredTable) (block : BlockTree) (known : KnownState) where
  abbrev Rows : PlanTree → ℕ → Type 0
  Rows p n = n ≡ capped (least_rows tables block known p)

  pub nest-rows : (p left right : PlanTree) (joined : Bool) (k l r : ℕ) → p ≡ Nest left right → joined ≡ are_joined block.edges (has_leaf left) (has_leaf right)
      → k ≡ known_rows_of known (covers_of p) → k < 2 ^ 64 → Rows left l → Rows right r → capped (cond joined k (max k (l * r))) ≡ capped (least_rows tables block known p)
  nest-rows p left right joined k l r is between some small few few' =
      let pairs = least_rows tables block known left * least_rows tables block known right in
      (λ i. capped (cond (between i) k (max k (few i * few' i))))
      ∙ pairs-capped (are_joined block.edges (has_leaf left) (has_leaf right)) k (least_rows tables block known left) (least_rows tables block known right) small
      ∙ ap (λ n. capped (cond (are_joined block.edges (has_leaf left) (has_leaf right)) n (max n pairs))) (some ∙ ap (λ q. known_rows_of known (covers_of q)) is)
      ∙ ap (λ q. capped (least_rows tables block known q)) (sym is)

  -- ---- the node by itself

  pub own-index_scan : (p : PlanTree) (relation column height out : ℕ) → p ≡ IndexScan relation column → height ≡ height_in tables (relation_at block.relations relation) column → Rows p out
      → capped (index_scan_line height out out) ≡ capped (least_own tables block known p)
  own-index_scan p relation column height out is levels few =
      let given = few ∙ ap (λ q. capped (least_rows tables block known q)) is in
      (λ i. capped (index_scan_line (levels i) (given i) (given i)))
      ∙ index_scan-capped (height_in tables (relation_at block.relations relation) column) (least_rows tables block known (IndexScan relation column))
      ∙ ap (λ q. capped (least_own tables block known q)) (sym is)

  module _ (p left right : PlanTree) (l r out : ℕ) (few : Rows left l) (few' : Rows right r) (some : Rows p out) where
    abbrev L : ℕ
    L = least_rows tables block known left

    abbrev R : ℕ
    R = least_rows tables block known right

    abbrev O : PlanTree → ℕ
    O q = least_rows tables block known q

    pub own-nest : p ≡ Nest left right → capped (nest_work l r out) ≡ capped (least_own tables block known p)
    own-nest is =
        (λ i. capped (nest_work (few i) (few' i) (some i))) ∙ nest-capped L R (O p) ∙ (λ i. capped (nest_work L R (O (is i))))
        ∙ ap (λ q. capped (least_own tables block known q)) (sym is)

  pub own-index_loop : (p left : PlanTree) (edge relation height found l out : ℕ) → Rows left l → Rows p out → p ≡ IndexLoop edge left relation
      → height ≡ height_in tables (relation_at block.relations relation) (column_on (edge_at block.edges edge) relation)
      → found ≡ known_entries known edge (covers_of left) → found < 2 ^ 64
      → capped (index_loop_work height l (max out found) out) ≡ capped (least_own tables block known p)
  own-index_loop p left edge relation height found l out few some is levels entries small =
      let tall = height_in tables (relation_at block.relations relation) (column_on (edge_at block.edges edge) relation) in
      let rows = λ (q : PlanTree). least_rows tables block known q in
      (λ i. capped (index_loop_work (levels i) (few i) (max (some i) found) (some i))) ∙ index_loop-capped tall (rows left) found (rows p) small
      ∙ (λ i. capped (index_loop_work tall (rows left) (max (rows (is i)) (entries i)) (rows (is i))))
      ∙ ap (λ q. capped (least_own tables block known q)) (sym is)
