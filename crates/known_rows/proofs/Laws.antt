-- What is known stays so as more is learned, and no plan works less than the least.
use Rattle.std.proofs.Common.{◌≡◌, ℕ, ◌*◌, ◌^◌, ◌<◌, ◌≤◌, Bool, true, false, List, [], ◌∷◌, zero, suc, cond, length, nat_eq, count_by, refl, subst, arith}
use Rattle.std.specs.Prelude.{max, replicate, slice_index_or, slice_set}
use Rattle.std.proofs.lemmas.List.Sums.{sum_by-cons}
use Rattle.std.proofs.lemmas.Nat.{mul-le}
use Rattle.sql_values.specs.Limits.{max_axes}
use Rattle.sql_values.specs.Stored.{StoredTable, ValueRow}
use Rattle.query_block.specs.Conditions.{FilterTree}
use Rattle.query_block.specs.Blocks.{BlockTree, IsBlock, relation_at}
use Rattle.query_block.specs.Meaning.{meets_filter, rows_of}
use Rattle.plan_tree.specs.Plans.{PlanTree, Scan, IndexScan, Nest, Hash, Merge, IndexLoop, covers_of, has_leaf}
use Rattle.plan_tree.specs.Enumerated.{AreApart, Crosses, IsLookUp, column_on, edge_at, IsSubPlan}
use Rattle.plan_tree.specs.Sets.{set_of}
use Rattle.plan_tree.specs.Work.{candidates, height_in, loop_candidates, out_of, table_rows, work_of}
use Rattle.plan_tree.proofs.Digits.{sort-le}
use Rattle.plan_tree.proofs.LeafSets.{set-of-plan}
use Rattle.exec_join.proofs.Sets.{leaf-apart}
use Rattle.known_rows.specs.Entries.{entries_found}
use Rattle.known_rows.specs.Known.{AreKnown, KnownState, allowed, known_entries, known_rows_of, learned, learned_entries, listed_units, nothing_known}
use Rattle.known_rows.specs.LeastWork.{are_joined, least_of_leaf, least_rows, least_work}
use Rattle.known_rows.proofs.Outs.{candidates-loop, found-loop, out-candidates, out-leaf, out-matches, out-product}

-- ---- learning

-- the number at a place; 0 outside
abbrev number_at : List ℕ → ℕ → ℕ
number_at numbers place = slice_index_or numbers place 0

none-known : (n set : ℕ) → number_at (replicate n 0) set ≡ 0
none-known zero set = refl
none-known (suc n) zero = refl
none-known (suc n) (suc set) = none-known n set

none-found : (n edge set : ℕ) → number_at (slice_index_or (replicate n (replicate 64 0)) edge []) set ≡ 0
none-found zero edge set = refl
none-found (suc n) zero set = none-known 64 set
none-found (suc n) (suc edge) set = none-found n edge set

pub nothing-known : (tables : List StoredTable) (block : BlockTree) → AreKnown tables block nothing_known
nothing-known tables block = record { rows = λ set. omega (arith, none-known 64 set); entries = λ edge set. omega (arith, none-found max_axes edge set) }

-- what holds at each place, and of what is put at one, holds at each place then
pub once-set : {X : Type 0} (d : X) (xs : List X) (place : ℕ) (x : X) (P : ℕ → X → Type 0) → ((other : ℕ) → P other (slice_index_or xs other d)) → P place x → (other : ℕ) → P other (slice_index_or (slice_set xs place x) other d)
once-set d [] place x P each here other = each other
once-set d (y ∷ xs) zero x P each here zero = here
once-set d (y ∷ xs) zero x P each here (suc other) = each (suc other)
once-set d (y ∷ xs) (suc place) x P each here zero = each zero
once-set d (y ∷ xs) (suc place) x P each here (suc other) = once-set d xs place x (λ n. P (suc n)) (λ n. each (suc n)) here other

-- what a set has at least is known once it is learned
pub learned-known : (tables : List StoredTable) (block : BlockTree) (known : KnownState) (set rows : ℕ) → AreKnown tables block known → rows ≤ length (rows_of tables block (set_of set))
    → AreKnown tables block (learned known set rows)
learned-known tables block known set rows is few =
    record { rows = once-set 0 known.rows set (max (known_rows_of known set) rows) (λ one n. n ≤ length (rows_of tables block (set_of one))) is.rows (omega (arith, is.rows set, few)); entries = is.entries }

-- and what an edge finds at least
pub found-known : (tables : List StoredTable) (block : BlockTree) (known : KnownState) (edge set entries : ℕ) → AreKnown tables block known → entries ≤ entries_found tables block edge (set_of set)
    → AreKnown tables block (learned_entries known edge set entries)
found-known tables block known edge set entries is few =
    let Are = λ (one : ℕ) (numbers : List ℕ). (other : ℕ) → number_at numbers other ≤ entries_found tables block one (set_of other) in
    let of_edge = slice_index_or known.entries edge [] in
    let more = max (known_entries known edge set) entries in
    record {
      rows = is.rows;
      entries = once-set [] known.entries edge (slice_set of_edge set more) Are is.entries
          (once-set 0 of_edge set more (λ other n. n ≤ entries_found tables block edge (set_of other)) (is.entries edge) (omega (arith, is.entries edge set, few)));
    }

-- what may be listed, and was, is no part of it
pub allowed-known : (tables : List StoredTable) (block : BlockTree) (known : KnownState) (units : ℕ) → AreKnown tables block known → AreKnown tables block (allowed known units) × AreKnown tables block (listed_units known units)
allowed-known tables block known units is = (record { rows = is.rows; entries = is.entries }, record { rows = is.rows; entries = is.entries })

-- ---- rows

module _ (tables : List StoredTable) (block : BlockTree) (known : KnownState) (is : IsBlock block) (are : AreKnown tables block known) where
  -- a plan gives no fewer rows than are known of its set
  known-le : (p : PlanTree) → known_rows_of known (covers_of p) ≤ out_of tables block p
  known-le p = subst (λ set. known_rows_of known (covers_of p) ≤ length (rows_of tables block set)) (set-of-plan p) (are.rows (covers_of p))

  every : (rows : List ValueRow) → length rows ≤ count_by (meets_filter []) rows
  every [] = omega arith
  every (row ∷ rows) = omega (arith, sum_by-cons (λ (r : ValueRow). 1) row rows, every rows)

  kept-le : (filter : List FilterTree) (rows : List ValueRow) (least : ℕ) → least ≤ count_by (meets_filter filter) rows → cond (nat_eq (length filter) 0) (length rows) least ≤ count_by (meets_filter filter) rows
  kept-le [] rows least some = every rows
  kept-le (conjunct ∷ conjuncts) rows least some =
      let none : nat_eq (length (conjunct ∷ conjuncts)) 0 ≡ false = grind arith in
      rw none some

  leaf-le : (relation : ℕ) → relation < length block.relations → least_of_leaf tables block known relation ≤ out_of tables block (Scan relation)
  leaf-le relation there =
      let own = relation_at block.relations relation in
      let out = out-leaf tables block is relation there in
      let some : known_rows_of known (2 ^ relation) ≤ count_by (meets_filter own.filter) (table_rows tables own) = omega (arith, out, known-le (Scan relation)) in
      omega (arith, out, kept-le own.filter (table_rows tables own) (known_rows_of known (2 ^ relation)) some)

  -- each row of one side goes with each of the other, where no edge joins them
  pairs-le : (left right : PlanTree) (l r : ℕ) → AreApart left right → l ≤ out_of tables block left → r ≤ out_of tables block right
      → cond (are_joined block.edges (has_leaf left) (has_leaf right)) (known_rows_of known (covers_of (Nest left right))) (max (known_rows_of known (covers_of (Nest left right))) (l * r)) ≤ out_of tables block (Nest left right)
  pairs-le left right l r apart few few' = by (are_joined block.edges (has_leaf left) (has_leaf right)) refl
    where
      least : ℕ
      least = known_rows_of known (covers_of (Nest left right))

      by : (joined : Bool) → are_joined block.edges (has_leaf left) (has_leaf right) ≡ joined → cond joined least (max least (l * r)) ≤ out_of tables block (Nest left right)
      by true is = known-le (Nest left right)
      by false none =
          omega (arith, known-le (Nest left right), out-product tables block left right apart none, mul-le l r (out_of tables block left) (out_of tables block right) few few')

  pub rows-le : (p : PlanTree) → IsSubPlan block p → least_rows tables block known p ≤ out_of tables block p
  rows-le (Scan relation) plan = leaf-le relation plan
  rows-le (IndexScan relation column) plan = leaf-le relation plan.exists
  rows-le (Nest left right) plan =
      pairs-le left right (least_rows tables block known left) (least_rows tables block known right) plan.2 (rows-le left plan.0) (rows-le right plan.1)
  rows-le (Hash edge left right) plan = known-le (Hash edge left right)
  rows-le (Merge edge left right) plan = known-le (Merge edge left right)
  rows-le (IndexLoop edge left relation) plan = known-le (IndexLoop edge left relation)

  -- ---- entries

  -- an index loop finds no fewer entries than its edge is known to find for its left side
  entries-le : (edge : ℕ) (left : PlanTree) (relation : ℕ) → IsLookUp block edge left relation → known_entries known edge (covers_of left) ≤ loop_candidates tables block edge left relation
  entries-le edge left relation look =
      let some : known_entries known edge (covers_of left) ≤ entries_found tables block edge (has_leaf left) =
      subst (λ set. known_entries known edge (covers_of left) ≤ entries_found tables block edge set) (set-of-plan left) (are.entries edge (covers_of left)) in
      omega (arith, some, found-loop tables block edge left relation look)

  -- ---- work

  of-join : (edge : ℕ) (left right : PlanTree) → AreApart left right → Crosses block.edges edge left right → out_of tables block (Nest left right) ≤ candidates tables block edge left right
  of-join edge left right apart crosses = out-candidates tables block left right apart edge crosses

  pub least-le : (p : PlanTree) → IsSubPlan block p → least_work tables block known p ≤ work_of tables block p
  least-le (Scan relation) plan = omega (arith, rows-le (Scan relation) plan)
  least-le (IndexScan relation column) plan =
      omega (arith, rows-le (IndexScan relation column) plan, out-matches tables block is relation plan.exists column plan.usable)
  least-le (Nest left right) plan =
      let l = rows-le left plan.0 in
      let r = rows-le right plan.1 in
      omega (arith, least-le left plan.0, least-le right plan.1, r, mul-le _ _ _ _ l r, rows-le (Nest left right) plan)
  least-le (Hash edge left right) plan =
      omega (
        arith,
        least-le left plan.0,
        least-le right plan.1,
        rows-le left plan.0,
        rows-le right plan.1,
        known-le (Hash edge left right),
        of-join edge left right plan.2 plan.3,
      )
  least-le (Merge edge left right) plan =
      let l = rows-le left plan.0 in
      let r = rows-le right plan.1 in
      omega (
        arith,
        least-le left plan.0,
        least-le right plan.1,
        l,
        r,
        sort-le _ _ l,
        sort-le _ _ r,
        known-le (Merge edge left right),
        of-join edge left right plan.2 plan.3,
      )
  least-le (IndexLoop edge left relation) plan =
      let l = rows-le left plan.0 in
      let look = plan.1 in
      let levels = 2 * height_in tables (relation_at block.relations relation) (column_on (edge_at block.edges edge) relation) in
      let descents : levels * least_rows tables block known left ≤ levels * out_of tables block left = mul-le _ _ _ _ (omega arith) l in
      omega (
        arith,
        least-le left plan.0,
        l,
        descents,
        known-le (IndexLoop edge left relation),
        of-join edge left (Scan relation) (leaf-apart left relation look.apart) look.crosses,
        candidates-loop tables block is relation look.exists edge left look.crosses,
        entries-le edge left relation look,
      )

pub work-le : (tables : List StoredTable) (block : BlockTree) (known : KnownState) (p : PlanTree) → IsBlock block → IsSubPlan block p → AreKnown tables block known → least_work tables block known p ≤ work_of tables block p
work-le tables block known p is plan are = least-le tables block known is are p plan
