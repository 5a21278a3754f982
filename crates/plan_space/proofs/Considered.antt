-- How the steps of the search for an entry follow one another.
use Rattle.std.proofs.Common.{IsTrue, ◌≡◌, ◌⊎◌, inl, inr, Bool, true, false, nat_lt, nat_eq, ◌||◌, [], ◌∷◌, ◌++◌, ℕ, ◌+◌, ◌-◌, ◌^◌, ◌<◌, ◌≤◌, List, length, refl, sym, ap, ap₂, subst, ◌∙◌, arith}
use Rattle.std.specs.List.{list_any}
use Rattle.std.proofs.lemmas.List.Folds.{list_any-append}
use Rattle.query_block.specs.Blocks.{relation_at}
use Rattle.plan_tree.specs.Enumerated.{IsIndexed}
use Rattle.std.specs.Cmp.{upto, tied_itself}
use Rattle.std.specs.Ordering.{is_gt}
use Rattle.std.proofs.lemmas.Cmp.{nat_list_cmp_total}
use Rattle.plan_tree.specs.declared.roots.Root.{Root}
use Rattle.plan_tree.specs.declared.roots.Root.TheVariants as root
use Rattle.plan_space.specs.declared.entry.Entry.{Entry}
use Rattle.plan_tree.specs.Roots.{Stands}
use Rattle.plan_space.specs.Table.{entry_at, side_costs, offered, rank, NotLater}
use Rattle.plan_space.specs.Search.{SearchShape, IsFound}
use Rattle.cost_model.specs.Prices.{own_at, block_at}
use Rattle.plan_tree.proofs.Bits.{same-relation}
use Rattle.plan_space.specs.Steps.{Group, Considers, HasEdge, HasLeft, IsLookUpBy, ReadsRelation}

pub not-later-then : (a b c : Entry) → NotLater a b → NotLater b c → NotLater a c
not-later-then a b c = upto nat_list_cmp_total (rank a) (rank b) (rank c)

pub not-later-itself : (a : Entry) → NotLater a a
not-later-itself a = ap is_gt (tied_itself nat_list_cmp_total (rank a))

-- an entry is the node that it names over the entries of its sides
pub is-offered : (sought : SearchShape) (entry : Entry) → IsFound sought entry → offered (own_at sought.at) sought.table entry.root sought.set ≡ entry
is-offered sought entry kept i = record { cost = sym kept.cost i; root = entry.root }

-- scans of a relation by one of these columns
abbrev pub IsScanBy : (relation : ℕ) → (columns : List ℕ) → Group
IsScanBy relation columns (root.Scan other) = ⊥
IsScanBy relation columns (root.IndexScan other column) = (other ≡ relation) × IsTrue (list_any (λ one. nat_eq one column) columns)
IsScanBy relation columns (root.Nest side) = ⊥
IsScanBy relation columns (root.Hash number side) = ⊥
IsScanBy relation columns (root.Merge number side) = ⊥
IsScanBy relation columns (root.IndexLoop number side other) = ⊥

module _ (sought : SearchShape) where
  pub nothing : (group : Group) (a : Entry) → ((node : Root) → group node → Stands (block_at sought.at) node sought.set → ⊥) → Considers sought group a a
  nothing group a none = record { kept = λ kept. kept; found = not-later-itself a; all = λ node in-group stands. absurd (none node in-group stands) }

  pub chosen : (a b entry : Entry) (node : Root) → IsFound sought entry → entry.root ≡ node → (b ≡ a) ⊎ (b ≡ entry) → NotLater b a → NotLater b entry → Considers sought (λ other. other ≡ node) a b
  chosen a b entry node offers same either to_found to_offered = record {
    kept = λ kept. elim either [
      | inl one ↦ subst (IsFound sought) (sym one) kept
      | inr one ↦ subst (IsFound sought) (sym one) offers
    ];
    found = to_found;
    all = λ other is stands.
        subst (NotLater b) (sym (ap (λ one. offered (own_at sought.at) sought.table one sought.set) (is ∙ sym same) ∙ is-offered sought entry offers)) to_offered;
  }

  pub and-then : (G H K : Group) (a b c : Entry) → Considers sought G a b → Considers sought H b c → ((node : Root) → K node → Stands (block_at sought.at) node sought.set → G node ⊎ H node)
      → Considers sought K a c
  and-then G H K a b c first second covers = record {
    kept = λ kept. second.kept (first.kept kept);
    found = not-later-then c b a second.found first.found;
    all = λ node in-group stands. elim (covers node in-group stands) [
      | inl one ↦ not-later-then c b (offered (own_at sought.at) sought.table node sought.set) second.found (first.all node one stands)
      | inr one ↦ second.all node one stands
    ];
  }

  pub narrow : (G K : Group) (a b : Entry) → Considers sought G a b → ((node : Root) → K node → Stands (block_at sought.at) node sought.set → G node) → Considers sought K a b
  narrow G K a b first covers = record { kept = first.kept; found = first.found; all = λ node in-group stands. first.all node (covers node in-group stands) stands }

  -- ---- the groups of joins

  -- a look-up by this edge over this left side is of the one relation on the right
  pub looked-up : (edge left relation : ℕ) → sought.set - left ≡ 2 ^ relation → (node : Root) → IsLookUpBy edge left node → Stands (block_at sought.at) node sought.set → node ≡ root.IndexLoop edge left relation
  looked-up edge left relation right (root.Scan r) group stands = absurd group
  looked-up edge left relation right (root.IndexScan r c) group stands = absurd group
  looked-up edge left relation right (root.Nest s) group stands = absurd group
  looked-up edge left relation right (root.Hash n s) group stands = absurd group
  looked-up edge left relation right (root.Merge n s) group stands = absurd group
  looked-up edge left relation right (root.IndexLoop n s r) group stands =
      let same = same-relation r relation (sym stands.2.one ∙ ap (λ side. sought.set - side) group.1 ∙ right) in
      λ i. root.IndexLoop (group.0 i) (group.1 i) (same i)

  pub no-look-up : (edge left : ℕ) → ((relation : ℕ) → sought.set - left ≡ 2 ^ relation → ⊥) → (node : Root) → IsLookUpBy edge left node → Stands (block_at sought.at) node sought.set → ⊥
  no-look-up edge left none (root.Scan r) group stands = group
  no-look-up edge left none (root.IndexScan r c) group stands = group
  no-look-up edge left none (root.Nest s) group stands = group
  no-look-up edge left none (root.Hash n s) group stands = group
  no-look-up edge left none (root.Merge n s) group stands = group
  no-look-up edge left none (root.IndexLoop n s r) group stands = none r (ap (λ side. sought.set - side) (sym group.1) ∙ stands.2.one)

  pub of-edge : (edge left : ℕ) (node : Root) → HasEdge (λ number. number ≡ edge) left node → ((node ≡ root.Hash edge left) ⊎ (node ≡ root.Merge edge left)) ⊎ IsLookUpBy edge left node
  of-edge edge left (root.Scan r) group = absurd group
  of-edge edge left (root.IndexScan r c) group = absurd group
  of-edge edge left (root.Nest s) group = absurd group
  of-edge edge left (root.Hash n s) group = inl (inl (ap₂ root.Hash group.0 group.1))
  of-edge edge left (root.Merge n s) group = inl (inr (ap₂ root.Merge group.0 group.1))
  of-edge edge left (root.IndexLoop n s r) group = inr group

  before : (number edge side left : ℕ) → (number < edge + 1) × (side ≡ left) → ((number < edge) × (side ≡ left)) ⊎ ((number ≡ edge) × (side ≡ left))
  before number edge side left (less, same) = by (nat_lt number edge) refl
    where
      by : (t : Bool) → nat_lt number edge ≡ t → ((number < edge) × (side ≡ left)) ⊎ ((number ≡ edge) × (side ≡ left))
      by true is = inl (grind arith, same)
      by false is = inr (grind arith, same)

  pub no-edge : (left : ℕ) (node : Root) → HasEdge (λ number. number < 0) left node → ⊥
  no-edge left (root.Scan r) group = group
  no-edge left (root.IndexScan r c) group = group
  no-edge left (root.Nest s) group = group
  no-edge left (root.Hash n s) group = omega (arith, group.0)
  no-edge left (root.Merge n s) group = omega (arith, group.0)
  no-edge left (root.IndexLoop n s r) group = omega (arith, group.0)

  pub next-edge : (edge left : ℕ) (node : Root) → HasEdge (λ number. number < (edge + 1)) left node → HasEdge (λ number. number < edge) left node ⊎ HasEdge (λ number. number ≡ edge) left node
  next-edge edge left (root.Scan r) group = absurd group
  next-edge edge left (root.IndexScan r c) group = absurd group
  next-edge edge left (root.Nest s) group = absurd group
  next-edge edge left (root.Hash n s) group = before n edge s left group
  next-edge edge left (root.Merge n s) group = before n edge s left group
  next-edge edge left (root.IndexLoop n s r) group = before n edge s left group

  pub of-left : (left : ℕ) (node : Root) → HasLeft (λ side. side ≡ left) node → Stands (block_at sought.at) node sought.set → (node ≡ root.Nest left) ⊎ HasEdge (λ number. number < length sought.at.costing.block.edges) left node
  of-left left (root.Scan r) group stands = absurd group
  of-left left (root.IndexScan r c) group stands = absurd group
  of-left left (root.Nest s) group stands = inl (ap root.Nest group)
  of-left left (root.Hash n s) group stands = inr (stands.1.exists, group)
  of-left left (root.Merge n s) group stands = inr (stands.1.exists, group)
  of-left left (root.IndexLoop n s r) group stands = inr (stands.1.exists, group)

  before-left : (side left : ℕ) → side < left + 1 → (side < left) ⊎ (side ≡ left)
  before-left side left less = by (nat_lt side left) refl
    where
      by : (t : Bool) → nat_lt side left ≡ t → (side < left) ⊎ (side ≡ left)
      by true is = inl (grind arith)
      by false is = inr (grind arith)

  pub no-left : (node : Root) → HasLeft (λ side. side < 1) node → Stands (block_at sought.at) node sought.set → ⊥
  no-left (root.Scan r) group stands = group
  no-left (root.IndexScan r c) group stands = group
  no-left (root.Nest s) group stands = omega (arith, group, stands.some)
  no-left (root.Hash n s) group stands = omega (arith, group, stands.0.some)
  no-left (root.Merge n s) group stands = omega (arith, group, stands.0.some)
  no-left (root.IndexLoop n s r) group stands = omega (arith, group, stands.0.some)

  pub next-left : (left : ℕ) (node : Root) → HasLeft (λ side. side < (left + 1)) node → HasLeft (λ side. side < left) node ⊎ HasLeft (λ side. side ≡ left) node
  next-left left (root.Scan r) group = absurd group
  next-left left (root.IndexScan r c) group = absurd group
  next-left left (root.Nest s) group = before-left s left group
  next-left left (root.Hash n s) group = before-left s left group
  next-left left (root.Merge n s) group = before-left s left group
  next-left left (root.IndexLoop n s r) group = before-left s left group

  -- ---- what joins cost at the least

  same-sides : (left side cost : ℕ) → cost ≡ (entry_at sought.table left).cost + (entry_at sought.table (sought.set - left)).cost → side ≡ left → cost ≤ (entry_at sought.table side).cost + (entry_at sought.table (sought.set - side)).cost
  same-sides left side cost is same = omega (arith, is, ap (λ one. (entry_at sought.table one).cost + (entry_at sought.table (sought.set - one)).cost) same)

  pub both-least : (left cost : ℕ) → cost ≡ (entry_at sought.table left).cost + (entry_at sought.table (sought.set - left)).cost → ((relation : ℕ) → sought.set - left ≡ 2 ^ relation → ⊥)
      → (node : Root) → HasLeft (λ side. side ≡ left) node → Stands (block_at sought.at) node sought.set → cost ≤ side_costs sought.table node sought.set
  both-least left cost is none (root.Scan r) group stands = absurd group
  both-least left cost is none (root.IndexScan r c) group stands = absurd group
  both-least left cost is none (root.Nest s) group stands = same-sides left s cost is group
  both-least left cost is none (root.Hash n s) group stands = same-sides left s cost is group
  both-least left cost is none (root.Merge n s) group stands = same-sides left s cost is group
  both-least left cost is none (root.IndexLoop n s r) group stands = absurd (none r (ap (λ side. sought.set - side) (sym group) ∙ stands.2.one))

  -- ---- the ways to read a relation

  pub next-column : (relation column : ℕ) (done all : List ℕ) → all ≡ done ++ column ∷ [] → (node : Root) → IsScanBy relation all node
      → IsScanBy relation done node ⊎ (node ≡ root.IndexScan relation column)
  next-column relation column done all is (root.Scan r) group = absurd group
  next-column relation column done all is (root.IndexScan r c) group = by (list_any (λ one. nat_eq one c) done) (nat_eq column c) refl refl
    where
      whole : (list_any (λ one. nat_eq one c) done || (nat_eq column c || false)) ≡ true
      whole = sym (ap (list_any (λ one. nat_eq one c)) is ∙ list_any-append (λ one. nat_eq one c) done (column ∷ [])) ∙ group.1

      by : (before here : Bool) → list_any (λ one. nat_eq one c) done ≡ before → nat_eq column c ≡ here
          → IsScanBy relation done (root.IndexScan r c) ⊎ (root.IndexScan r c ≡ root.IndexScan relation column)
      by true here e f = inl (group.0, e)
      by false true e f = inr (let same : c ≡ column = grind arith in ap₂ root.IndexScan group.0 same)
      by false false e f = let none : false ≡ true = sym (ap₂ (λ a b. a || (b || false)) e f) ∙ whole in cc
  next-column relation column done all is (root.Nest s) group = absurd group
  next-column relation column done all is (root.Hash n s) group = absurd group
  next-column relation column done all is (root.Merge n s) group = absurd group
  next-column relation column done all is (root.IndexLoop n s r) group = absurd group

  -- after a scan that is offered, the scans by all indexes
  pub read-all : (relation : ℕ) (start result : Entry) → sought.set ≡ 2 ^ relation → IsFound sought start → start.root ≡ root.Scan relation
      → Considers sought (IsScanBy relation (relation_at (block_at sought.at).relations relation).indexes) start result → Considers sought ReadsRelation result result
  read-all relation start result is kept scans considers = record {
    kept = λ found. found;
    found = not-later-itself result;
    all = read;
  }
    where
      read : (node : Root) → ReadsRelation node → Stands (block_at sought.at) node sought.set → NotLater result (offered (own_at sought.at) sought.table node sought.set)
      read (root.Scan r) group stands =
          let same : r ≡ relation = same-relation r relation (sym stands.1 ∙ is) in
          let scan : offered (own_at sought.at) sought.table (root.Scan r) sought.set ≡ start =
          ap (λ node. offered (own_at sought.at) sought.table node sought.set) (ap root.Scan same ∙ sym scans) ∙ is-offered sought start kept in
          subst (NotLater result) (sym scan) considers.found
      read (root.IndexScan r c) group stands =
          let same : r ≡ relation = same-relation r relation (sym stands.1 ∙ is) in
          considers.all (root.IndexScan r c) (same, subst (λ n. IsIndexed (relation_at (block_at sought.at).relations n) c) same stands.0.indexed) stands
      read (root.Nest s) group stands = absurd group
      read (root.Hash n s) group stands = absurd group
      read (root.Merge n s) group stands = absurd group
      read (root.IndexLoop n s r) group stands = absurd group
