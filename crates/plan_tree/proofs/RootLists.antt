-- The list of a set's outermost nodes has each node that may stand over the set, and no other.
use Rattle.std.proofs.Common.{◌≡◌, ◌↔◌, inl, inr, ℕ, ◌+◌, ◌-◌, ◌^◌, ◌<◌, Bool, true, false, ◌&&◌, List, [], ◌∷◌, ◌++◌, IsTrue, filter, length, bit_and, nat_eq, nat_le, nat_lt, refl, sym, ap, subst, ◌∙◌, if◌then◌else◌, arith}
use Rattle.std.proofs.lemmas.Grind.{common_steps}
use Rattle.std.specs.List.{list_any, range_with_len, flat_map}
use Rattle.std.proofs.lemmas.Bool.{and_parts, and_from, eqb-true, eq-eqb, leb-true, le-leb, ltb-true, lt-ltb}
use Rattle.std.proofs.lemmas.List.{append_assoc}
use Rattle.std.proofs.lemmas.List.Elements.{filter-append}
use Rattle.query_block.specs.declared.edge.Edge.{Edge}
use Rattle.query_block.specs.Blocks.{BlockTree, relation_at}
use Rattle.plan_tree.specs.declared.roots.Root.{Root}
use Rattle.plan_tree.specs.declared.roots.Root.TheVariants as root
use Rattle.plan_tree.specs.Enumerated.{edge_at, is_indexed, IsScannable, column_on, has_usable}
use Rattle.plan_tree.specs.Sets.{set_of, is_between}
use Rattle.plan_tree.specs.Roots.{IsSplit, IsCrossed, IsLookedUp, Stands, is_split, is_joined, stands}
use Rattle.plan_tree.specs.AllPlans.{one_each, end_of_columns, far_end, scans_of, column_scans, index_scans_of, nests_of, joins_by, index_loop_by, standing, roots_of}
use Rattle.plan_tree.proofs.Bits.{relation-alone}
use Rattle.plan_tree.proofs.RangeLists.{pieces-more}
use Rattle.plan_tree.proofs.Members.{IsIn, in-left, in-right, of-flat, in-flat, in-range, of-range, in-filter, of-filter}

-- ---- the tests say whether a node may stand over a set

pub of-split : (left set : ℕ) → is_split left set ≡ true → IsSplit left set
of-split left set is = grind (arith, common_steps, and_parts, nat_le, nat_lt, leb-true, ltb-true, eqb-true, bit_and)

pub to-split : (left set : ℕ) → IsSplit left set → is_split left set ≡ true
to-split left set split = grind (arith, common_steps, and_from, nat_le, nat_lt, le-leb, lt-ltb, eq-eqb, bit_and)

-- the tests of what stands, by their parts
abbrev is_crossed : List Edge → (edge left right : ℕ) → Bool
is_crossed edges edge left right = nat_lt edge (length edges) && is_between (set_of left) (set_of right) (edge_at edges edge)

abbrev is_scannable : BlockTree → (relation column : ℕ) → Bool
is_scannable block relation column =
    let tree = relation_at block.relations relation in
    nat_lt relation (length block.relations) && is_indexed tree column && has_usable tree column

abbrev is_looked_up : BlockTree → (edge right relation : ℕ) → Bool
is_looked_up block edge right relation =
    nat_lt relation (length block.relations) && nat_eq right (2 ^ relation)
    && is_indexed (relation_at block.relations relation) (column_on (edge_at block.edges edge) relation)

of-crossed : (edges : List Edge) (edge left right : ℕ) → is_crossed edges edge left right ≡ true → IsCrossed edges edge left right
of-crossed edges edge left right is = grind (arith, common_steps, and_parts, nat_lt, ltb-true)

to-crossed : (edges : List Edge) (edge left right : ℕ) → IsCrossed edges edge left right → is_crossed edges edge left right ≡ true
to-crossed edges edge left right crossed =
    and_from (nat_lt edge (length edges)) _ (lt-ltb edge (length edges) crossed.exists) crossed.crosses

-- the nodes that are tried for a set
abbrev pub tried_nodes : BlockTree → (set : ℕ) → List Root
tried_nodes block set =
    scans_of block ++ index_scans_of block ++ nests_of set
    ++ joins_by block (λ edge left. root.Hash edge left) set
    ++ joins_by block (λ edge left. root.Merge edge left) set
    ++ joins_by block (index_loop_by block) set

module _ (block : BlockTree) where
  abbrev relations : ℕ
  relations = length block.relations

  of-joined : (set edge left : ℕ) → is_joined block set edge left ≡ true → IsSplit left set × IsCrossed block.edges edge left (set - left)
  of-joined set edge left is =
      let parts = and_parts (is_split left set) _ is in
      (of-split left set parts.0, of-crossed block.edges edge left (set - left) parts.1)

  to-joined : (set edge left : ℕ) → IsSplit left set → IsCrossed block.edges edge left (set - left) → is_joined block set edge left ≡ true
  to-joined set edge left split crossed =
      and_from (is_split left set) _ (to-split left set split) (to-crossed block.edges edge left (set - left) crossed)

  of-scannable : (relation column : ℕ) → is_scannable block relation column ≡ true → IsScannable block relation column
  of-scannable relation column is =
      let tree = relation_at block.relations relation in
      let parts = and_parts (nat_lt relation relations && is_indexed tree column) _ is in
      let first = and_parts (nat_lt relation relations) _ parts.0 in
      record { exists = ltb-true relation relations first.0; indexed = first.1; usable = parts.1 }

  to-scannable : (relation column : ℕ) → IsScannable block relation column → is_scannable block relation column ≡ true
  to-scannable relation column is =
      let tree = relation_at block.relations relation in
      and_from (nat_lt relation relations && is_indexed tree column) _
      (and_from (nat_lt relation relations) _ (lt-ltb relation relations is.exists) is.indexed) is.usable

  of-look : (edge right relation : ℕ) → is_looked_up block edge right relation ≡ true → IsLookedUp block edge right relation
  of-look edge right relation is =
      let parts = and_parts (nat_lt relation relations && nat_eq right (2 ^ relation)) _ is in
      let first = and_parts (nat_lt relation relations) _ parts.0 in
      record { one = eqb-true right (2 ^ relation) first.1; exists = ltb-true relation relations first.0; indexed = parts.1 }

  to-look : (edge right relation : ℕ) → IsLookedUp block edge right relation → is_looked_up block edge right relation ≡ true
  to-look edge right relation look =
      and_from (nat_lt relation relations && nat_eq right (2 ^ relation)) _
      (and_from (nat_lt relation relations) _ (lt-ltb relation relations look.exists) (eq-eqb right (2 ^ relation) look.one)) look.indexed

  pub of-stands : (set : ℕ) (node : Root) → stands block set node ≡ true → Stands block node set
  of-stands set (root.Scan relation) is =
      let parts = and_parts (nat_lt relation relations) _ is in
      (ltb-true relation relations parts.0, eqb-true set (2 ^ relation) parts.1)
  of-stands set (root.IndexScan relation column) is =
      let parts = and_parts (is_scannable block relation column) _ is in
      (of-scannable relation column parts.0, eqb-true set (2 ^ relation) parts.1)
  of-stands set (root.Nest left) is = of-split left set is
  of-stands set (root.Hash edge left) is = of-joined set edge left is
  of-stands set (root.Merge edge left) is = of-joined set edge left is
  of-stands set (root.IndexLoop edge left relation) is =
      let parts = and_parts (is_joined block set edge left) _ is in
      let sides = of-joined set edge left parts.0 in
      (sides.0, sides.1, of-look edge (set - left) relation parts.1)

  pub to-stands : (set : ℕ) (node : Root) → Stands block node set → stands block set node ≡ true
  to-stands set (root.Scan relation) (below, alone) =
      and_from (nat_lt relation relations) _ (lt-ltb relation relations below) (eq-eqb set (2 ^ relation) alone)
  to-stands set (root.IndexScan relation column) (is, alone) =
      and_from (is_scannable block relation column) _ (to-scannable relation column is) (eq-eqb set (2 ^ relation) alone)
  to-stands set (root.Nest left) split = to-split left set split
  to-stands set (root.Hash edge left) (split, crossed) = to-joined set edge left split crossed
  to-stands set (root.Merge edge left) (split, crossed) = to-joined set edge left split crossed
  to-stands set (root.IndexLoop edge left relation) (split, crossed, look) =
      and_from (is_joined block set edge left) _ (to-joined set edge left split crossed) (to-look edge (set - left) relation look)

-- ---- by each number below an end

pub of-each : (nodes : ℕ → List Root) (end : ℕ) (node : Root) → IsIn node (flat_map nodes (range_with_len 0 end)) → (i : ℕ) × (i < end) × IsIn node (nodes i)
of-each nodes end node is = grind (arith, common_steps, of-flat, of-range)

in-each : (nodes : ℕ → List Root) (end i : ℕ) (node : Root) → i < end → IsIn node (nodes i) → IsIn node (flat_map nodes (range_with_len 0 end))
in-each nodes end i node below is = in-flat nodes i node (range_with_len 0 end) (in-range i 0 end (omega arith) (omega (arith, below))) is

in-one_each : (make : ℕ → Root) (end i : ℕ) → i < end → IsIn (make i) (one_each make end)
in-one_each make end i below = in-each (λ j. make j ∷ []) end i (make i) below (inl refl)

pub of-one : (node other : Root) → IsIn node (other ∷ []) → other ≡ node
of-one node other (inl same) = same
of-one node other (inr none) = absurd none

pub of-one_each : (make : ℕ → Root) (end : ℕ) (node : Root) → IsIn node (one_each make end) → (i : ℕ) × (make i ≡ node)
of-one_each make end node is = grind (arith, common_steps, of-each, of-one)

indexed-below : (indexes : List ℕ) (column : ℕ) → list_any (λ other. nat_eq other column) indexes ≡ true → column < end_of_columns indexes
indexed-below [] column indexed = grind arith
indexed-below (index ∷ indexes) column indexed =
    grind (arith, common_steps, nat_eq, eqb-true, indexed-below indexes column)

-- no relation is in both sides
not-both : (left right relation other : ℕ) → bit_and left right ≡ 0 → right ≡ 2 ^ relation → other ≡ relation → set_of left other ≡ true → ⊥
not-both left right relation other apart one same is = grind (arith, common_steps, bit_and, nat_eq)

-- where the right side is one relation, it is the far end of an edge that crosses the sides
far-end : (edge : Edge) (left right relation : ℕ) → bit_and left right ≡ 0 → right ≡ 2 ^ relation
    → is_between (set_of left) (set_of right) edge ≡ true → relation ≡ far_end edge (set_of left)
far-end edge left right relation apart one crosses = grind (arith, common_steps, relation-alone, not-both)

-- ---- a node that may stand over a set is tried

module _ (block : BlockTree) (set : ℕ) where
  abbrev pub hashes : List Root
  hashes = joins_by block (λ edge left. root.Hash edge left) set

  abbrev pub merges : List Root
  merges = joins_by block (λ edge left. root.Merge edge left) set

  abbrev pub index_loops : List Root
  index_loops = joins_by block (index_loop_by block) set

  -- the kinds one after another
  abbrev pub until_index_scans : List Root
  until_index_scans = scans_of block ++ index_scans_of block

  abbrev pub until_nests : List Root
  until_nests = until_index_scans ++ nests_of set

  abbrev pub until_hashes : List Root
  until_hashes = until_nests ++ hashes

  abbrev pub until_merges : List Root
  until_merges = until_hashes ++ merges

  in-joins : (join : (edge left : ℕ) → Root) (edge left : ℕ) → IsSplit left set → edge < length block.edges
      → IsIn (join edge left) (joins_by block join set)
  in-joins join edge left split exists =
      in-each (λ other. one_each (join other) set) (length block.edges) edge (join edge left) exists (in-one_each (join edge) set left split.less)

  from-hashes : (node : Root) → IsIn node until_hashes → IsIn node (tried_nodes block set)
  from-hashes node is = in-left node until_merges index_loops (in-left node until_hashes merges is)

  from-index_scans : (node : Root) → IsIn node until_index_scans → IsIn node (tried_nodes block set)
  from-index_scans node is = from-hashes node (in-left node until_nests hashes (in-left node until_index_scans (nests_of set) is))

  from-merges : (node : Root) → IsIn node merges → IsIn node (tried_nodes block set)
  from-merges node is = in-left node until_merges index_loops (in-right node until_hashes merges is)

  from-index_loops : (node : Root) → IsIn node index_loops → IsIn node (tried_nodes block set)
  from-index_loops node is = in-right node until_merges index_loops is

  tried : (node : Root) → Stands block node set → IsIn node (tried_nodes block set)
  tried (root.Scan relation) (below, alone) =
      let node = root.Scan relation in
      from-index_scans node
      (in-left node (scans_of block) (index_scans_of block) (in-one_each (λ one. root.Scan one) (length block.relations) relation below))
  tried (root.IndexScan relation column) (is, alone) =
      let node = root.IndexScan relation column in
      let indexes = (relation_at block.relations relation).indexes in
      from-index_scans node
      (in-right node (scans_of block) (index_scans_of block)
      (in-each (column_scans block) (length block.relations) relation node is.exists
      (in-one_each (λ one. root.IndexScan relation one) (end_of_columns indexes) column (indexed-below indexes column is.indexed))))
  tried (root.Nest left) split =
      let node = root.Nest left in
      from-hashes node
      (in-left node until_nests hashes
      (in-right node until_index_scans (nests_of set) (in-one_each (λ one. root.Nest one) set left split.less)))
  tried (root.Hash edge left) (split, crossed) =
      let node = root.Hash edge left in
      from-hashes node (in-right node until_nests hashes (in-joins (λ e l. root.Hash e l) edge left split crossed.exists))
  tried (root.Merge edge left) (split, crossed) =
      from-merges (root.Merge edge left) (in-joins (λ e l. root.Merge e l) edge left split crossed.exists)
  tried (root.IndexLoop edge left relation) (split, crossed, look) =
      let far = far-end (edge_at block.edges edge) left (set - left) relation split.apart look.one crossed.crosses in
      from-index_loops (root.IndexLoop edge left relation)
      (subst (λ one. IsIn (root.IndexLoop edge left one) index_loops) (sym far) (in-joins (index_loop_by block) edge left split crossed.exists))

  -- ---- the nodes that may stand over a set are those that are listed

  pub of-roots : (node : Root) → IsIn node (roots_of block set) → Stands block node set
  unfolding roots_of
  of-roots node is = of-stands block set node (of-filter (stands block set) node (tried_nodes block set) is).1

  pub in-roots : (node : Root) → Stands block node set → IsIn node (roots_of block set)
  unfolding roots_of
  in-roots node is = in-filter (stands block set) node (tried_nodes block set) (tried node is) (to-stands block set node is)

  -- one node, where a test says that it may stand over the set
  pub put-one : (node : Root) (is : Bool) → IsTrue is ↔ Stands block node set → standing block set (node ∷ []) ≡ (if is then node ∷ [] else [])
  put-one node is iff = ap (λ (b : Bool). if b then node ∷ [] else []) (same (stands block set node) is refl iff)
    where
      same : (test is : Bool) → stands block set node ≡ test → IsTrue is ↔ Stands block node set → test ≡ is
      same true true so iff = refl
      same false false so iff = refl
      same true false so iff = sym (iff.1 (of-stands block set node so))
      same false true so iff = sym so ∙ to-stands block set node (iff.0 refl)

  -- ---- the list is put together from pieces

  -- one more piece
  pub each-more : (nodes : ℕ → List Root) (before now next : List Root) (n : ℕ)
      → now ≡ before ++ standing block set (flat_map nodes (range_with_len 0 n)) → next ≡ now ++ standing block set (nodes n)
      → next ≡ before ++ standing block set (flat_map nodes (range_with_len 0 (n + 1)))
  each-more nodes before now next n so is =
      let test = stands block set in
      is ∙ ap (λ (xs : List Root). xs ++ filter test (nodes n)) so ∙ append_assoc before (filter test (flat_map nodes (range_with_len 0 n))) (filter test (nodes n))
      ∙ ap (λ (xs : List Root). before ++ xs) (sym (filter-append test (flat_map nodes (range_with_len 0 n)) (nodes n)) ∙ ap (filter test) (pieces-more nodes n))

  -- one more node
  pub one-more : (make : ℕ → Root) (before now next : List Root) (node : Root) (n : ℕ)
      → now ≡ before ++ standing block set (one_each make n) → next ≡ now ++ standing block set (node ∷ []) → node ≡ make n
      → next ≡ before ++ standing block set (one_each make (n + 1))
  one-more make before now next node n so is of =
      each-more (λ i. make i ∷ []) before now next n so (is ∙ ap (λ (one : Root). now ++ standing block set (one ∷ [])) of)

  pub roots-by-kind : roots_of block set ≡ ((((standing block set (scans_of block) ++ standing block set (index_scans_of block))
      ++ standing block set (nests_of set)) ++ standing block set hashes) ++ standing block set merges) ++ standing block set index_loops
  unfolding roots_of
  roots-by-kind =
      let test = stands block set in
      let before : (more kinds : List Root) (others : List Root) → filter test kinds ≡ others → filter test (kinds ++ more) ≡ others ++ filter test more =
      λ more kinds others so. filter-append test kinds more ∙ ap (λ (xs : List Root). xs ++ filter test more) so in
      before index_loops until_merges _
      (before merges until_hashes _ (before hashes until_nests _ (before (nests_of set) until_index_scans _ (filter-append test (scans_of block) (index_scans_of block)))))
