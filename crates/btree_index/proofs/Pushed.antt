-- How the levels above the leaves are made.
use Rattle.std.proofs.Common.{◌≡◌, ℕ, suc, ◌+◌, ◌-◌, ◌*◌, ◌^◌, ◌<◌, ◌≤◌, ◌∙◌, List, [], ◌∷◌, ◌++◌, length, take, drop, sym, ap, subst, arith, get_or, min, length-take, length-drop}
use Rattle.std.proofs.lemmas.Grind.{common_steps}
use Rattle.std.specs.Prelude.{ℤ}
use Rattle.std.proofs.lemmas.List.{get_or_append_left, get_or_push, get_or-take, get_or-drop, get_or_default, take_at, drop_at, take-append-drop, append_assoc, append-nil}
use Rattle.std.specs.Int.{div_ceil}
use Rattle.btree_index.specs.Nodes.{AreLastWords, AreLevels, node_count, nodes_up_to}
use Rattle.btree_index.proofs.Height.{nodes_more, root_size}

-- one more node has its last word
pub each_more : (old inner new : List ℤ) (begin end node last : ℕ) (word : ℤ) → length old ≡ end → length inner ≡ end + node → take end inner ≡ old
    → ((k : ℕ) (d : ℤ) → k < node → get_or inner (end + k) d ≡ get_or old (min (begin + k * 64 + 63) (end - 1)) d)
    → new ≡ inner ++ word ∷ [] → word ≡ get_or inner last word → last ≡ min (begin + node * 64 + 63) (end - 1) → last < end
    → (k : ℕ) (d : ℤ) → k < node + 1 → get_or new (end + k) d ≡ get_or old (min (begin + k * 64 + 63) (end - 1)) d
each_more old inner new begin end node last word size long kept each more read place there k d l =
    grind (arith, common_steps, get_or, get_or_append_left, get_or_push, get_or-take, get_or_default)

-- what was pushed is the level above what stood from a place on
pub last_pushed : (old inner : List ℤ) (begin end nodes : ℕ) → length old ≡ end → begin ≤ end → length inner ≡ end + nodes → nodes ≡ node_count (end - begin)
    → ((k : ℕ) (d : ℤ) → k < nodes → get_or inner (end + k) d ≡ get_or old (min (begin + k * 64 + 63) (end - 1)) d)
    → AreLastWords (drop begin old) (drop end inner)
last_pushed old inner begin end nodes size there long count each =
    grind (arith, common_steps, length-drop, get_or-drop, get_or)

-- a level put before the levels above it
levels_begin : (more : ℕ) (words above rest : List ℤ) → AreLastWords words above → AreLevels more above rest → AreLevels (suc more) words (above ++ rest)
levels_begin more words above rest last levels =
    rw (take_at above rest (node_count (length words)) last.count, drop_at above rest (node_count (length words)) last.count) (last, levels)

-- the level above the leaves and those above it are all
pub levels_begun : (height : ℕ) (words above rest : List ℤ) → 2 ≤ height → AreLastWords words above → AreLevels (height - 2) above rest
    → AreLevels (height - 1) words (above ++ rest)
levels_begun height words above rest some last levels = grind (arith, common_steps, levels_begin)

-- where a level is put behind the last, what completes it completes them all
pub levels_more : (height level begin : ℕ) (words inner more : List ℤ) → level < height → take (length inner) more ≡ inner
    → AreLastWords (drop begin inner) (drop (length inner) more)
    → ((rest : List ℤ) → AreLevels (height - level) (drop begin inner) rest → AreLevels (height - 1) words (inner ++ rest))
    → (rest : List ℤ) → AreLevels (height - (level + 1)) (drop (length inner) more) rest → AreLevels (height - 1) words (more ++ rest)
levels_more height level begin words inner more less kept last completes rest levels =
    let above = drop (length inner) more in
    let whole : more ≡ inner ++ above = sym (take-append-drop (length inner) more) ∙ ap (λ xs. xs ++ above) kept in
    let same : suc (height - (level + 1)) ≡ height - level = omega arith in
    let all = completes (above ++ rest) (subst (λ n. AreLevels n (drop begin inner) (above ++ rest)) same (levels_begin (height - (level + 1)) (drop begin inner) above rest last levels)) in
    subst (λ xs. AreLevels (height - 1) words xs) (sym (append_assoc inner above rest) ∙ ap (λ xs. xs ++ rest) (sym whole)) all

-- the root has no level above it
pub levels_end : (height level n : ℕ) (words root inner rest : List ℤ) → 1 ≤ height → level ≡ height → n ≤ 64 ^ height
    → length root ≡ div_ceil n (64 ^ (level - 1))
    → ((rest : List ℤ) → AreLevels (height - level) root rest → AreLevels (height - 1) words (inner ++ rest)) → AreLevels (height - 1) words inner
levels_end height level n words root inner rest some last room size completes =
    let none : height - level ≡ 0 = omega arith in
    let fits = root_size n height some room in
    let same = ap (λ k. div_ceil n (64 ^ (k - 1))) last in
    let low : length root ≤ 64 = omega arith in
    subst (AreLevels (height - 1) words) (append-nil inner) (completes [] (subst (λ k. AreLevels k root []) (sym none) low))

-- one leaf has no level above it
pub levels_none : (height n : ℕ) (words inner : List ℤ) → height ≡ 1 → n ≤ 64 ^ height → length words ≡ n → AreLevels (height - 1) words inner
levels_none height n words inner one room size = grind (arith, common_steps)

-- the words so far, and those of one more level
pub nodes_pushed : (n level : ℕ) (inner more : List ℤ) → 1 ≤ level → 0 < n → take (length inner) more ≡ inner
    → length more - length inner ≡ div_ceil n (64 ^ level) → length inner ≡ nodes_up_to n (level - 1) → length more ≡ nodes_up_to n (level + 1 - 1)
nodes_pushed n level inner more some entries kept size counted = grind (arith, common_steps, length-take, nodes_more)
