-- Words on pages of one size.
use Rattle.std.proofs.Common.{◌≡◌, ℕ, ℤ, zero, suc, min, ◌+◌, ◌-◌, ◌*◌, ◌<◌, ◌≤◌, List, [], ◌∷◌, ◌++◌, length, take, drop, get_or, set, sym, refl, ap, subst, ◌∙◌, arith, append_assoc, Vec, Global}
use Rattle.std.proofs.lemmas.List.{append-nil, nil_from_length, length-append, length-drop, take-append-le, drop-append-le, drop_at, drop-drop}
use Rattle.heap_pages.specs.Layout.{words_of_pages, AreFilled, ArePackedPages}

-- as many words as stand on the pages
length-filled : (size n : ℕ) (pages : List (Vec ℤ Global)) → AreFilled size n pages → length (words_of_pages pages) ≡ n
length-filled size n [] are = sym are
length-filled size n (page ∷ pages) are =
    let rest = length-filled size (n - size) pages are.2 in
    omega (arith, length-append page.items (words_of_pages pages), rest, are.0)

-- a page is there where the words before it aren't all
there_in : (size n number : ℕ) (pages : List (Vec ℤ Global)) → AreFilled size n pages → number * size < n → number < length pages
there_in size n number [] are more = absurd (omega (arith, are))
there_in size n zero (page ∷ pages) are more = omega arith
there_in size n (suc number) (page ∷ pages) are more =
    let left : number * size < n - size = omega arith in
    let below : number < length pages = there_in size (n - size) number pages are.2 left in omega arith

-- how much stands on a page, and for how much it has memory
filled_in : (size n number : ℕ) (pages : List (Vec ℤ Global)) (page : Vec ℤ Global) → AreFilled size n pages → number < length pages →
    page ≡ get_or pages number page → (length page.items ≡ min size (n - number * size)) × (size ≤ page.cap)
filled_in size n number [] page are low is = absurd (omega arith)
filled_in size n zero (first ∷ pages) page are low is =
    let same : length page.items ≡ length first.items = ap (λ (p : Vec ℤ Global). length p.items) is in
    let room : page.cap ≡ first.cap = ap (λ (p : Vec ℤ Global). p.cap) is in
    (let e : length page.items ≡ min size (n - 0 * size) = omega (arith, are.0) in e, let l : size ≤ page.cap = omega (arith, are.1) in l)
filled_in size n (suc number) (first ∷ pages) page are low is =
    let below : number < length pages = omega arith in
    let rest = filled_in size (n - size) number pages page are.2 below is in
    (let e : length page.items ≡ min size (n - suc number * size) = omega (arith, rest.0) in e, rest.1)

-- words of one page are words of all pages
words_in : (size n number start width : ℕ) (pages : List (Vec ℤ Global)) (page : Vec ℤ Global) → AreFilled size n pages → number < length pages →
    page ≡ get_or pages number page → start + width ≤ size → number * size + start + width ≤ n →
    take width (drop start page.items) ≡ take width (drop (number * size + start) (words_of_pages pages))
words_in size n number start width [] page are low is within there = absurd (omega arith)
words_in size n zero start width (first ∷ pages) page are low is within there =
    let none : 0 * size + start ≡ start = omega arith in
    let upto : start ≤ length first.items = omega (arith, are.0) in
    let enough : width ≤ length (drop start first.items) = omega (arith, are.0, length-drop start first.items) in
    ap (λ (p : Vec ℤ Global). take width (drop start p.items)) is
    ∙ rw (none, drop-append-le start first.items (words_of_pages pages) upto, take-append-le width (drop start first.items) (words_of_pages pages) enough) refl
words_in size n (suc number) start width (first ∷ pages) page are low is within there =
    let below : number < length pages = omega arith in
    let full : length first.items ≡ size = omega (arith, are.0) in
    let left : number * size + start + width ≤ n - size = omega arith in
    let place : suc number * size + start ≡ size + (number * size + start) = omega arith in
    words_in size (n - size) number start width pages page are.2 below is within left
    ∙ ap (λ ws. take width (drop (number * size + start) ws)) (sym (drop_at first.items (words_of_pages pages) size full))
    ∙ ap (take width) (drop-drop (number * size + start) size (first.items ++ words_of_pages pages))
    ∙ ap (λ k. take width (drop k (first.items ++ words_of_pages pages))) (sym place)

-- pages without words have none
none_left : (size n : ℕ) (pages : List (Vec ℤ Global)) → AreFilled size n pages → n ≡ 0 → words_of_pages pages ≡ []
none_left size n pages are none = nil_from_length (words_of_pages pages) (length-filled size n pages are ∙ none)

-- words behind those of the last page that has any
appended_in : (size n number : ℕ) (pages : List (Vec ℤ Global)) (page next : Vec ℤ Global) (more : List ℤ) → AreFilled size n pages →
    page ≡ get_or pages number page → next.items ≡ page.items ++ more → number < length pages → number * size ≤ n → n ≤ number * size + size →
    words_of_pages (set pages number next) ≡ words_of_pages pages ++ more
appended_in size n number [] page next more are is grown low begun last = absurd (omega arith)
appended_in size n zero (first ∷ pages) page next more are is grown low begun last =
    let none = none_left size (n - size) pages are.2 (omega arith) in
    rw (none, append-nil next.items, append-nil first.items) (grown ∙ ap (λ (p : Vec ℤ Global). p.items ++ more) is)
appended_in size n (suc number) (first ∷ pages) page next more are is grown low begun last =
    let below : number < length pages = omega arith in
    let rest = appended_in size (n - size) number pages page next more are.2 is grown below (omega arith) (omega arith) in
    ap (λ ws. first.items ++ ws) rest ∙ sym (append_assoc first.items (words_of_pages pages) more)

-- and each page is full until the words end
filled-appended : (size n number m : ℕ) (pages : List (Vec ℤ Global)) (next : Vec ℤ Global) → AreFilled size n pages →
    number < length pages → number * size ≤ n → n ≤ m → m ≤ number * size + size → length next.items + number * size ≡ m → size ≤ next.cap →
    AreFilled size m (set pages number next)
filled-appended size n number m [] next are low begun more fits filled room = absurd (omega arith)
filled-appended size n zero m (first ∷ pages) next are low begun more fits filled room = (
  let e : length next.items ≡ min size m = omega arith in e,
  room,
  let left : n - size ≡ m - size = omega arith in subst (λ k. AreFilled size k pages) left are.2,
)
filled-appended size n (suc number) m (first ∷ pages) next are low begun more fits filled room =
    let below : number < length pages = omega arith in (
      let e : length first.items ≡ min size m = omega (arith, are.0) in e,
      are.1,
      filled-appended size (n - size) number (m - size) pages next are.2 below (omega arith) (omega arith) (omega arith) (omega arith) room,
    )

-- an empty page behind all others
pub words-added : (pages : List (Vec ℤ Global)) (page : Vec ℤ Global) → page.items ≡ [] → words_of_pages (pages ++ page ∷ []) ≡ words_of_pages pages
words-added [] page none = rw none refl
words-added (first ∷ pages) page none = ap (λ ws. first.items ++ ws) (words-added pages page none)

filled-added : (size n : ℕ) (pages : List (Vec ℤ Global)) (page : Vec ℤ Global) → AreFilled size n pages → page.items ≡ [] → size ≤ page.cap →
    AreFilled size n (pages ++ page ∷ [])
filled-added size n [] page are none room =
    (let e : length page.items ≡ min size n = rw (none, are) (let z : 0 ≡ min size 0 = omega arith in z) in e, room, let z : n - size ≡ 0 = omega (arith, are) in z)
filled-added size n (first ∷ pages) page are none room = (are.0, are.1, filled-added size (n - size) pages page are.2 none room)

pub ArePackedPages-added : (size : ℕ) (pages : List (Vec ℤ Global)) (page : Vec ℤ Global) → page.items ≡ [] → size ≤ page.cap →
    ArePackedPages size pages → ArePackedPages size (pages ++ page ∷ [])
ArePackedPages-added size pages page none room are =
    let P : ℕ → Type 0 = λ n. AreFilled size n (pages ++ page ∷ []) in
    let full = filled-added size (length (words_of_pages pages)) pages page are.filled none room in
    record { some_words = are.some_words; few_words = are.few_words; filled = subst P (sym (ap length (words-added pages page none))) full }

-- what the laws above say of packed pages and one of them
module _ (size : ℕ) (pages : List (Vec ℤ Global)) (are : ArePackedPages size pages) (number : ℕ) where
  pub page_there : number * size < length (words_of_pages pages) → number < length pages
  page_there = there_in size (length (words_of_pages pages)) number pages are.filled

  module _ (page : Vec ℤ Global) (is : page ≡ get_or pages number page) (there : number < length pages) where
    pub words_on_page : length page.items ≡ min size (length (words_of_pages pages) - number * size)
    words_on_page = (filled_in size (length (words_of_pages pages)) number pages page are.filled there is).0

    pub memory_of_page : size ≤ page.cap
    memory_of_page = (filled_in size (length (words_of_pages pages)) number pages page are.filled there is).1

    pub words_at_place : (start width : ℕ) → start + width ≤ size → number * size + start + width ≤ length (words_of_pages pages) →
        take width (drop start page.items) ≡ take width (drop (number * size + start) (words_of_pages pages))
    words_at_place start width within upto = words_in size (length (words_of_pages pages)) number start width pages page are.filled there is within upto

    module _ (next : Vec ℤ Global) (more : List ℤ) (grown : next.items ≡ page.items ++ more) (begun : number * size ≤ length (words_of_pages pages))
        (fits : length (words_of_pages pages) + length more ≤ number * size + size) where
      pub words-appended : words_of_pages (set pages number next) ≡ words_of_pages pages ++ more
      words-appended = appended_in size (length (words_of_pages pages)) number pages page next more are.filled is grown there begun (omega (arith, fits))

      pub ArePackedPages-appended : page.cap ≤ next.cap → ArePackedPages size (set pages number next)
      ArePackedPages-appended room =
          let n = length (words_of_pages pages) in
          let all = ap length words-appended ∙ length-append (words_of_pages pages) more in
          let here = ap length grown ∙ length-append page.items more in
          let count : length next.items + number * size ≡ n + length more = omega (arith, here, words_on_page, begun, fits) in
          let large : size ≤ next.cap = omega (arith, memory_of_page, room) in
          let more_words : n ≤ n + length more = omega arith in
          let full = filled-appended size n number (n + length more) pages next are.filled there begun more_words fits count large in
          let P : ℕ → Type 0 = λ k. AreFilled size k (set pages number next) in
          record { some_words = are.some_words; few_words = are.few_words; filled = subst P (sym all) full }
