-- The outermost nodes of a set's plans ascend by what plan order compares of them.
use Rattle.std.proofs.Common.{◌≡◌, inl, inr, ℕ, suc, ◌<◌, List, [], ◌∷◌, ◌++◌, length, refl, sym, ap, ap₂, ◌∙◌, arith}
use Rattle.std.proofs.lemmas.Grind.{common_steps}
use Rattle.std.specs.Prelude.{slice_index_or}
use Rattle.std.specs.List.{range_with_len, flat_map}
use Rattle.std.specs.Ordering.{nat_cmp, ordering_then}
use Rattle.std.specs.Cmp.{tied_itself}
use Rattle.std.specs.Cmp.Lexicographic.{slice_cmp}
use Rattle.std.specs.declared.cmp.Ordering.TheVariants.{Less}
use Rattle.std.proofs.lemmas.Bool.{cond-true, lt-ltb}
use Rattle.std.proofs.lemmas.Cmp.{nat_cmp_total}
use Rattle.query_block.specs.Blocks.{BlockTree, relation_at}
use Rattle.plan_tree.specs.declared.roots.Root.{Root}
use Rattle.plan_tree.specs.declared.roots.Root.TheVariants as root
use Rattle.plan_tree.specs.Roots.{root_numbers, stands}
use Rattle.plan_tree.specs.AllPlans.{one_each, end_of_columns, scans_of, column_scans, index_scans_of, nests_of, joins_by, index_loop_by, roots_of}
use Rattle.plan_tree.proofs.Members.{IsIn, of-either}
use Rattle.plan_tree.proofs.Ascending.{Ascends, AllBefore, between, ascending-both, ascending-filter, ascending-flat, ascending-range}
use Rattle.plan_tree.proofs.RootLists.{tried_nodes, of-each, of-one, of-one_each, hashes, merges, index_loops, until_index_scans, until_nests, until_hashes, until_merges}

abbrev pub IsEarlier : Root → Root → Type 0
IsEarlier a b = slice_cmp nat_cmp (root_numbers a) (root_numbers b) ≡ Less

first-less : (x y : ℕ) (xs ys : List ℕ) → x < y → slice_cmp nat_cmp (x ∷ xs) (y ∷ ys) ≡ Less
first-less x y xs ys less = ap (λ o. ordering_then o (slice_cmp nat_cmp xs ys)) (cond-true _ Less _ (lt-ltb x y less))

then-less : (x : ℕ) (xs ys : List ℕ) → slice_cmp nat_cmp xs ys ≡ Less → slice_cmp nat_cmp (x ∷ xs) (x ∷ ys) ≡ Less
then-less x xs ys less = ap (λ o. ordering_then o (slice_cmp nat_cmp xs ys)) (tied_itself nat_cmp_total x) ∙ less

-- ---- by each number below an end

ascending-each : (nodes : ℕ → List Root) (end : ℕ) → ((i : ℕ) → Ascends IsEarlier (nodes i))
    → ((i j : ℕ) → i < j → AllBefore IsEarlier (nodes i) (nodes j)) → Ascends IsEarlier (flat_map nodes (range_with_len 0 end))
ascending-each nodes end each apart =
    ascending-flat (λ i j. i < j) IsEarlier nodes (range_with_len 0 end) (ascending-range 0 end)
    (λ i is. each i) (λ i j is is' less. apart i j less)

ascending-one_each : (make : ℕ → Root) (end : ℕ) → ((i j : ℕ) → i < j → IsEarlier (make i) (make j)) → Ascends IsEarlier (one_each make end)
ascending-one_each make end apart = grind (arith, common_steps, ascending-each, of-one)

-- ---- one kind after another

abbrev kind_number : Root → ℕ
kind_number node = slice_index_or (root_numbers node) 0 0

by-first : (xs ys : List ℕ) → slice_index_or xs 0 0 < slice_index_or ys 0 0 → slice_cmp nat_cmp xs ys ≡ Less
by-first [] [] less = absurd (omega (arith, less))
by-first [] (y ∷ ys) less = refl
by-first (x ∷ xs) [] less = absurd (omega (arith, less))
by-first (x ∷ xs) (y ∷ ys) less = first-less x y xs ys less

record AreOfKind (kind : ℕ) (nodes : List Root) : Type 0 where
  ascends : Ascends IsEarlier nodes
  same : (node : Root) → IsIn node nodes → kind_number node ≡ kind

record AreBeforeKind (kind : ℕ) (nodes : List Root) : Type 0 where
  ascends : Ascends IsEarlier nodes
  less : (node : Root) → IsIn node nodes → kind_number node < kind

and-next : (kind : ℕ) (nodes more : List Root) → AreBeforeKind kind nodes → AreOfKind kind more → AreBeforeKind (suc kind) (nodes ++ more)
and-next kind nodes more before next = record {
  ascends = ascending-both IsEarlier nodes more before.ascends next.ascends
      (λ x y here there. by-first (root_numbers x) (root_numbers y) (omega (arith, before.less x here, next.same y there)));
  less = λ node is. elim (of-either node nodes more is) [
    | inl here ↦ omega (arith, before.less node here)
    | inr there ↦ omega (arith, next.same node there)
  ];
}

module _ (block : BlockTree) (set : ℕ) where
  scans-ascend : AreOfKind 0 (scans_of block)
  scans-ascend = record {
    ascends = ascending-one_each (λ relation. root.Scan relation) (length block.relations)
        (λ i j less. first-less i j (0 ∷ 0 ∷ []) (0 ∷ 0 ∷ []) less);
    same = λ node is. let found = of-one_each (λ relation. root.Scan relation) (length block.relations) node is in ap kind_number (sym found.1);
  }

  of-column : (relation : ℕ) (node : Root) → IsIn node (column_scans block relation) → (column : ℕ) × (root.IndexScan relation column ≡ node)
  of-column relation node is =
      of-one_each (λ column. root.IndexScan relation column) (end_of_columns (relation_at block.relations relation).indexes) node is

  index-scans-ascend : AreOfKind 1 (index_scans_of block)
  index-scans-ascend = record {
    ascends = ascending-each (column_scans block) (length block.relations)
        (λ relation. ascending-one_each (λ column. root.IndexScan relation column) (end_of_columns (relation_at block.relations relation).indexes)
        (λ i j less. then-less relation (i ∷ 0 ∷ []) (j ∷ 0 ∷ []) (first-less i j (0 ∷ []) (0 ∷ []) less)))
        (λ i j less x y here there.
        let one = of-column i x here in
        let other = of-column j y there in
        between IsEarlier (root.IndexScan i one.0) (root.IndexScan j other.0) one.1 other.1
        (first-less i j (one.0 ∷ 0 ∷ []) (other.0 ∷ 0 ∷ []) less));
    same = λ node is.
        let each = of-each (column_scans block) (length block.relations) node is in
        ap kind_number (sym (of-column each.0 node each.2).1);
  }

  nests-ascend : AreOfKind 2 (nests_of set)
  nests-ascend = record {
    ascends = ascending-one_each (λ left. root.Nest left) set (λ i j less. first-less i j [] [] less);
    same = λ node is. let found = of-one_each (λ left. root.Nest left) set node is in ap kind_number (sym found.1);
  }

  -- joins of a kind by an edge: an edge, then a left side
  joins-ascend : (kind : ℕ) (join : (edge left : ℕ) → Root) → ((edge left : ℕ) → root_numbers (join edge left) ≡ kind ∷ edge ∷ 0 ∷ 0 ∷ left ∷ [])
      → AreOfKind kind (joins_by block join set)
  joins-ascend kind join numbers =
      let earlier : (i j left left' : ℕ) → slice_cmp nat_cmp (i ∷ 0 ∷ 0 ∷ left ∷ []) (j ∷ 0 ∷ 0 ∷ left' ∷ []) ≡ Less → IsEarlier (join i left) (join j left') =
      λ i j left left' less. ap₂ (slice_cmp nat_cmp) (numbers i left) (numbers j left')
      ∙ then-less kind (i ∷ 0 ∷ 0 ∷ left ∷ []) (j ∷ 0 ∷ 0 ∷ left' ∷ []) less in
      record {
        ascends = ascending-each (λ edge. one_each (join edge) set) (length block.edges)
            (λ edge. ascending-one_each (join edge) set (λ i j less.
            earlier edge edge i j (then-less edge (0 ∷ 0 ∷ i ∷ []) (0 ∷ 0 ∷ j ∷ []) (first-less i j [] [] less))))
            (λ i j less x y here there.
            let one = of-one_each (join i) set x here in
            let other = of-one_each (join j) set y there in
            between IsEarlier (join i one.0) (join j other.0) one.1 other.1
            (earlier i j one.0 other.0 (first-less i j (0 ∷ 0 ∷ one.0 ∷ []) (0 ∷ 0 ∷ other.0 ∷ []) less)));
        same = λ node is.
            let each = of-each (λ edge. one_each (join edge) set) (length block.edges) node is in
            let found = of-one_each (join each.0) set node each.2 in
            ap kind_number (sym found.1) ∙ ap (λ (xs : List ℕ). slice_index_or xs 0 0) (numbers each.0 found.0);
      }

  candidates-ascend : Ascends IsEarlier (tried_nodes block set)
  candidates-ascend =
      let none : AreBeforeKind 0 [] = record { ascends = tt; less = λ node is. absurd is } in
      let scans = and-next 0 [] (scans_of block) none scans-ascend in
      let readings = and-next 1 (scans_of block) (index_scans_of block) scans index-scans-ascend in
      let nests = and-next 2 (until_index_scans block set) (nests_of set) readings nests-ascend in
      let by_hash = and-next 3 (until_nests block set) (hashes block set) nests (joins-ascend 3 (λ edge left. root.Hash edge left) (λ edge left. refl)) in
      let by_merge = and-next 4 (until_hashes block set) (merges block set) by_hash (joins-ascend 4 (λ edge left. root.Merge edge left) (λ edge left. refl)) in
      (and-next 5 (until_merges block set) (index_loops block set) by_merge (joins-ascend 5 (index_loop_by block) (λ edge left. refl))).ascends

  pub roots-ascend : Ascends IsEarlier (roots_of block set)
  unfolding roots_of
  roots-ascend = ascending-filter IsEarlier (stands block set) (tried_nodes block set) candidates-ascend
