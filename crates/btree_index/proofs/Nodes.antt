-- What a search in the nodes of a tree finds.
use Rattle.std.proofs.Common.{◌≡◌, ℕ, zero, suc, ◌+◌, ◌-◌, ◌*◌, ◌/◌, ◌<◌, ◌≤◌, ◌∙◌, List, length, take, drop, map, refl, sym, ap, subst, arith, get_or, min}
use Rattle.std.proofs.lemmas.Grind.{common_steps}
use Rattle.std.specs.Prelude.{ℤ, Bool, true, false, if◌then◌else◌}
use Rattle.std.specs.List.{AllWithin}
use Rattle.std.specs.List.Sorted.{IsPartitionPoint, IsPartitionedBy}
use Rattle.std.proofs.Math.Logic.{⊎_elim}
use Rattle.std.proofs.Math.Nat.{mul-le-mul_right}
use Rattle.std.proofs.lemmas.Bool.{both_ways, cases_lt, cases_Bool}
use Rattle.std.proofs.lemmas.List.{get_or_default, get_or-map, length-map}
use Rattle.btree_index.specs.Entries.{IndexEntry}
use Rattle.btree_index.specs.Nodes.{node_count, AreLastWords, AreLevels, IsAround, IsCounted, IsTree, entry_word}
use Rattle.btree_index.proofs.Height.{height_some}

-- one more place is counted where it passes, and so did all before it
pub counted_pass : (passes : ℕ → Bool) (below count : ℕ) → ((i : ℕ) → i ≤ count → passes i ≡ true)
    → IsCounted passes below count → IsCounted passes (below + 1) (count + 1)
counted_pass passes below count rising so = grind (arith, common_steps, both_ways)

-- and no more where it fails
pub counted_fail : (passes : ℕ → Bool) (below count : ℕ) → passes count ≡ false
    → IsCounted passes below count → IsCounted passes below (count + 1)
counted_fail passes below count here so = grind (arith, common_steps)

-- what a test says of an element, it says at each default
pub at_default : {A : Type 0} (p : A → Bool) (xs : List A) (k : ℕ) (d e : A) (b : Bool) → k < length xs
    → p (get_or xs k e) ≡ b → p (get_or xs k d) ≡ b
at_default p xs k d e b l h = ap p (get_or_default xs k d e l) ∙ h

-- an element fails where one before it does
falls : {A : Type 0} (p : A → Bool) (xs : List A) → IsPartitionedBy p xs → (i j : ℕ) (d e : A) → i ≤ j → j < length xs
    → p (get_or xs i e) ≡ false → p (get_or xs j d) ≡ false
falls p xs rising i j d e l m h =
    ⊎_elim (λ t. absurd (both_ways (p (get_or xs i d)) (at_default p xs i d e false (omega arith) h) (rising i j d l m t))) (λ f. f) (cases_Bool (p (get_or xs j d)))

-- the count of those that pass in a stretch, all before which pass and all behind which fail, gives the first that fails
pub point_of_counted : {A : Type 0} (p : A → Bool) (xs : List A) (e : A) (from size below : ℕ) → from + size ≤ length xs
    → AllWithin (λ x. p x ≡ true) xs 0 from → AllWithin (λ x. p x ≡ false) xs (from + size) (length xs)
    → IsCounted (λ i. p (get_or xs (from + i * 1) e)) below size
    → IsPartitionPoint (λ x. p x ≡ true) (λ x. p x ≡ false) xs (from + below)
point_of_counted p xs e from size below there before behind so =
    let place : (k : ℕ) (d : _) (c : Bool) → from ≤ k → k < from + size → p (get_or xs (from + (k - from) * 1) e) ≡ c → p (get_or xs k d) ≡ c
    = λ k d c l m h. let same : from + (k - from) * 1 ≡ k = omega arith in at_default p xs k d e c (omega arith) (subst (λ n. p (get_or xs n e) ≡ c) same h) in (
      λ k d l m. ⊎_elim (λ n. before k d l n)
          (λ n. place k d true n (omega (arith, so.most)) (so.before (k - from) (omega arith))) (cases_lt k from),
      λ k d l m. ⊎_elim (λ n. place k d false (omega arith) n (so.behind (k - from) (omega arith) (omega arith)))
          (λ n. behind k d n m) (cases_lt k (from + size)),
    )

-- all before a place pass, where what stands right before it does
pub before_place : {A : Type 0} (p : A → Bool) (xs : List A) (e : A) (begin from : ℕ) → IsPartitionedBy p xs → from ≤ length xs
    → AllWithin (λ x. p x ≡ true) xs 0 begin → (begin < from → p (get_or xs (from - 1) e) ≡ true) → AllWithin (λ x. p x ≡ true) xs 0 from
before_place p xs e begin from rising l before last k d m n =
    ⊎_elim (λ o. before k d m o)
    (λ o. rising k (from - 1) d (omega arith) (omega arith) (at_default p xs (from - 1) d e true (omega arith) (last (omega arith)))) (cases_lt k begin)

-- and all from a place on fail, where what stands right before it does
pub behind_place : {A : Type 0} (p : A → Bool) (xs : List A) (e : A) (to end : ℕ) → IsPartitionedBy p xs → end ≤ length xs
    → AllWithin (λ x. p x ≡ false) xs end (length xs) → (to < end → p (get_or xs (to - 1) e) ≡ false) → AllWithin (λ x. p x ≡ false) xs to (length xs)
behind_place p xs e to end rising l behind last k d m n =
    ⊎_elim (λ o. falls p xs rising (to - 1) k d e (omega arith) n (last (omega arith))) (λ o. behind k d o n) (cases_lt k end)

-- the level above says which node comes into question
pub around_node : (p : ℤ → Bool) (words above : List ℤ) (node : ℕ) → AreLastWords words above → IsPartitionedBy p words
    → IsPartitionPoint (λ w. p w ≡ true) (λ w. p w ≡ false) above node → node ≤ length above → IsAround p words node
around_node p words above node last rising point there =
    let count = last.count in record {
      before = λ k d l m.
          let child : k / 64 < node = omega arith in
          let known : p (get_or above (k / 64) d) ≡ true = point.0 (k / 64) d (omega arith) child in
          rising k (min (k / 64 * 64 + 63) (length words - 1)) d (omega arith) (omega arith)
          (subst (λ w. p w ≡ true) (last.each (k / 64) d (omega arith)) known);
      behind = λ k d l m.
          let known : p (get_or above node d) ≡ false = point.1 node d (omega arith) (omega arith) in
          falls p words rising (min (node * 64 + 63) (length words - 1)) k d d (omega arith) m
          (subst (λ w. p w ≡ false) (last.each node d (omega arith)) known);
    }

-- the words of the level above rise as those below
pub rising_above : (p : ℤ → Bool) (words above : List ℤ) → AreLastWords words above → IsPartitionedBy p words → IsPartitionedBy p above
rising_above p words above last rising i j d l m passes = grind (arith, common_steps)

-- what is known of the words of entries is known of the entries
pub around_mapped : {A B : Type 0} (f : A → B) (p : B → Bool) (xs : List A) (node : ℕ) (e : B) → IsAround p (map f xs) node → IsAround (λ x. p (f x)) xs node
around_mapped f p xs node e around =
    let long = length-map xs f in record {
      before = λ k d l m. subst (λ w. p w ≡ true) (get_or-map f xs k d e (omega arith)) (around.before k e l (omega arith));
      behind = λ k d l m. subst (λ w. p w ≡ false) (get_or-map f xs k d e (omega arith)) (around.behind k e l (omega arith));
    }

pub rising_mapped : {A B : Type 0} (f : A → B) (p : B → Bool) (xs : List A) (e : A) → IsPartitionedBy (λ x. p (f x)) xs → IsPartitionedBy p (map f xs)
rising_mapped f p xs e rising i j d l m passes =
    let long = length-map xs f in
    subst (λ w. p w ≡ true) (sym (get_or-map f xs i e d (omega arith)))
    (rising i j e l (omega arith) (subst (λ w. p w ≡ true) (get_or-map f xs j e d (omega arith)) passes))

-- what stands right before a line passes, where a line before it was counted
line_before : {A : Type 0} (p : A → Bool) (xs : List A) (e : A) (begin wide lines line : ℕ) → 0 < wide
    → IsCounted (λ i. p (get_or xs (begin + (wide - 1) + i * wide) e)) line lines → begin < begin + line * wide
    → p (get_or xs (begin + line * wide - 1) e) ≡ true
line_before p xs e begin wide lines zero some so more = absurd (omega arith)
line_before p xs e begin wide lines (suc m) some so more =
    let same : begin + (wide - 1) + m * wide ≡ begin + suc m * wide - 1 = omega arith in
    subst (λ n. p (get_or xs n e) ≡ true) same (so.before m (omega arith))

-- a search in a stretch: the lines but the last are counted whose last element passes, then so many elements as a line
-- has, from the next line on or up to the stretch's end
pub record IsSearched {A : Type 0} (p : A → Bool) (xs : List A) (e : A) (begin end wide lines line size from below : ℕ) : Type 0 where
  pub rising : IsPartitionedBy p xs
  pub up : begin ≤ end
  pub there : end ≤ length xs
  pub none_before : AllWithin (λ x. p x ≡ true) xs 0 begin
  pub none_behind : AllWithin (λ x. p x ≡ false) xs end (length xs)
  pub some : 0 < wide
  pub low : lines * wide ≤ end - begin
  pub high : end - begin ≤ lines * wide + wide
  pub so : IsCounted (λ i. p (get_or xs (begin + (wide - 1) + i * wide) e)) line lines
  pub s : size ≡ min wide (end - begin)
  pub f : from ≡ min (begin + line * wide) (end - size)
  pub last : IsCounted (λ i. p (get_or xs (from + i * 1) e)) below size

pub point_between : {A : Type 0} {p : A → Bool} {xs : List A} {e : A} {begin end wide lines line size from below : ℕ}
    → IsSearched p xs e begin end wide lines line size from below → IsPartitionPoint (λ x. p x ≡ true) (λ x. p x ≡ false) xs (from + below)
point_between {p = p} {xs = xs} {e = e} {begin = begin} {end = end} {wide = wide} {lines = lines} {line = line} {size = size} {from = from} {below = below} searched =
    let rising = searched.rising in
    let up = searched.up in
    let there = searched.there in
    let none_before = searched.none_before in
    let none_behind = searched.none_behind in
    let some = searched.some in
    let low = searched.low in
    let high = searched.high in
    let so = searched.so in
    let s = searched.s in
    let f = searched.f in
    let last = searched.last in
    let most = mul-le-mul_right wide so.most in
    let inside : begin + line * wide ≤ end = omega arith in
    let passed = before_place p xs e begin (begin + line * wide) rising (omega arith) none_before (line_before p xs e begin wide lines line some so) in
    point_of_counted p xs e from size below (omega arith) (λ k d l m. passed k d l (omega arith))
    (behind_place p xs e (from + size) end rising there none_behind (λ less.
    ⊎_elim (λ (l : line < lines).
    let more = mul-le-mul_right wide l in
    let same : begin + (wide - 1) + line * wide ≡ from + size - 1 = omega arith in
    subst (λ k. p (get_or xs k e) ≡ false) same (so.behind line (omega arith) l))
    (λ (l : lines ≤ line). let all = mul-le-mul_right wide l in absurd (omega arith)) (cases_lt line lines))) last

-- the count of those that pass, among all, is the first that fails
pub point_of_all : {A : Type 0} (p : A → Bool) (xs : List A) (e : A) (below : ℕ) → IsCounted (λ i. p (get_or xs i e)) below (length xs)
    → IsPartitionPoint (λ x. p x ≡ true) (λ x. p x ≡ false) xs below
point_of_all p xs e below so =
    (λ k d l m. at_default p xs k d e true (omega (arith, so.most)) (so.before k m), λ k d l m. at_default p xs k d e false m (so.behind k l m))

-- a count goes on by one where the next place passes
pub counted_next : {A : Type 0} (p : A → Bool) (xs : List A) (e : A) (below count : ℕ) → IsPartitionedBy p xs → count < length xs
    → IsCounted (λ i. p (get_or xs i e)) below count → IsCounted (λ i. p (get_or xs i e)) (if p (get_or xs count e) then below + 1 else below) (count + 1)
counted_next p xs e below count rising there so =
    ⊎_elim (λ t. rw t (counted_pass (λ i. p (get_or xs i e)) below count (λ i l. rising i count e l there t) so))
    (λ f. rw f (counted_fail (λ i. p (get_or xs i e)) below count f so)) (cases_Bool (p (get_or xs count e)))

-- the next level above one, and the levels above that
pub levels_above : (more : ℕ) (words above level rest : List ℤ) (count : ℕ) → (more ≡ 0 → ⊥) → AreLevels more words above
    → count ≡ node_count (length words) → level ≡ take count above → rest ≡ drop count above → AreLastWords words level × AreLevels (more - 1) level rest
levels_above zero words above level rest count some levels n l r = absurd (some refl)
levels_above (suc more) words above level rest count some levels n l r =
    let less : suc more - 1 ≡ more = omega arith in rw (l, r, n, less) levels

-- the level above the leaves, and the levels above that
pub level_above_leaves : (entries items : List IndexEntry) (inner held level rest : List ℤ) (height count : ℕ) → IsTree entries inner height
    → items ≡ entries → held ≡ inner → (height ≡ 1 → ⊥) → count ≡ node_count (length items) → level ≡ take count held → rest ≡ drop count held
    → AreLastWords (map entry_word items) level × AreLevels (height - 2) level rest
level_above_leaves entries items inner held level rest height count tree same all more n l r =
    let least = height_some (length entries) in
    let stated = tree.as_stated in
    let long = length-map entries entry_word in
    let counted : count ≡ node_count (length (map entry_word entries)) = n ∙ ap (λ xs. node_count (length xs)) same ∙ ap node_count (sym long) in
    let above = levels_above (height - 1) (map entry_word entries) inner level rest count (λ one. more (omega arith)) tree.levels counted
    (l ∙ ap (take count) all) (r ∙ ap (drop count) all) in
    let less : height - 1 - 1 ≡ height - 2 = omega arith in
    (subst (λ xs. AreLastWords (map entry_word xs) level) (sym same) above.0, subst (λ n. AreLevels n level rest) less above.1)

-- a count of the next few finds the first that fails, where it ends before them or there are no more
pub point_nearby : {A : Type 0} (p : A → Bool) (xs : List A) (e : A) (from size below : ℕ) → IsPartitionedBy p xs → from + size ≤ length xs
    → AllWithin (λ x. p x ≡ true) xs 0 from → IsCounted (λ i. p (get_or xs (from + i * 1) e)) below size
    → (from + below ≡ from + size → length xs ≤ from + below) → IsPartitionPoint (λ x. p x ≡ true) (λ x. p x ≡ false) xs (from + below)
point_nearby p xs e from size below rising there before so last =
    point_of_counted p xs e from size below there before
    (λ k d l m. ⊎_elim (λ (n : below < size).
    let same : from + below * 1 ≡ from + below = omega arith in
    falls p xs rising (from + below) k d e (omega arith) m (subst (λ n. p (get_or xs n e) ≡ false) same (so.behind below (omega arith) n)))
    (λ (n : size ≤ below). let end : from + below ≡ from + size = omega (arith, so.most) in let all = last end in absurd (omega arith)) (cases_lt below size)) so
