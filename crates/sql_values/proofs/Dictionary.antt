-- A set of vectors of bytes, read as a list of texts; and what becomes of the codes of texts where more come.
use Rattle.std.proofs.Common.{◌≡◌, ℕ, zero, suc, ◌+◌, ◌<◌, ◌≤◌, Bool, true, false, not, cond, ◌||◌, List, [], ◌∷◌, ◌++◌, length, map, take, Option, Some, None, option_map, ℤ, pos, refl, sym, ap, ◌∙◌, true≢false, arith, length-append, position, Vec, if◌then◌else◌, nat_lt, add-zero, append-nil, lt-ltb, le-ltb, Global, append_assoc}
use Rattle.std.specs.List.{list_any, position_or_len, IsDistinct, AllByRecursion}
use Rattle.std.specs.Str.{bytes_eq}
use Rattle.std.proofs.lemmas.List.{length-map, map-append}
use Rattle.std.proofs.lemmas.List.Folds.{list_any-append}
use Rattle.std.proofs.lemmas.List.Sums.{fold-append}
use Rattle.std.proofs.lemmas.Slice.Eq.{bytes_eq-Decides}
use Rattle.std.proofs.Math.Seq.{take-append_seam}
use Rattle.indexmap.specs.IndexSet.{insert_key}
use Rattle.sql_values.specs.Dictionary.{code_of, has_text, with_text, with_texts, Begins}

module _ {X Y : Type 0} (f : X → Y) where
  pub list_any-map : (p : Y → Bool) (xs : List X) → list_any p (map f xs) ≡ list_any (λ x. p (f x)) xs
  list_any-map p [] = refl
  list_any-map p (x ∷ xs) = ap (λ b. p (f x) || b) (list_any-map p xs)

  pub position_or_len-map : (p : Y → Bool) (xs : List X) → position_or_len p (map f xs) ≡ position_or_len (λ x. p (f x)) xs
  position_or_len-map p [] = refl
  position_or_len-map p (x ∷ xs) = ap (λ n. cond (not (p (f x))) (1 + n) 0) (position_or_len-map p xs)

  pub position-map : (p : Y → Bool) (xs : List X) → position p (map f xs) ≡ position (λ x. p (f x)) xs
  position-map p xs =
      ap (λ n. cond (nat_lt n (length (map f xs))) (Some n) None) (position_or_len-map p xs)
      ∙ ap (λ n. cond (nat_lt (position_or_len (λ x. p (f x)) xs) n) (Some (position_or_len (λ x. p (f x)) xs)) None) (length-map xs f)

  each-map : (P : Y → Type 0) (xs : List X) → AllByRecursion (λ x. P (f x)) xs → AllByRecursion P (map f xs)
  each-map P [] h = h
  each-map P (x ∷ xs) h = (h.0, each-map P xs h.1)

  pub IsDistinct-map : (eq : Y → Y → Bool) (xs : List X) → IsDistinct (λ a b. eq (f a) (f b)) xs → IsDistinct eq (map f xs)
  unfolding IsDistinct
  IsDistinct-map eq [] h = h
  IsDistinct-map eq (x ∷ xs) h = (each-map (λ y. eq (f x) y ≡ false) xs h.0, IsDistinct-map eq xs h.1)

module _ {X : Type 0} (p : X → Bool) where
  -- where an element passes, the first that does stands in the list
  pub place_below : (xs : List X) → list_any p xs ≡ true → position_or_len p xs < length xs
  place_below [] h = absurd (true≢false (sym h))
  place_below (x ∷ xs) h = by (p x) refl (λ e. place_below xs (sym (ap (λ b. b || list_any p xs) e) ∙ h))
    where
      by : (b : Bool) → p x ≡ b → (p x ≡ false → position_or_len p xs < length xs) → cond (not (p x)) (1 + position_or_len p xs) 0 < suc (length xs)
      by true e rest = rw e (omega arith)
      by false e rest = rw e (omega (arith, rest e))

  -- and else its place is the end, where it stays if one that passes comes there
  pub place_at_end : (xs more : List X) → list_any p xs ≡ false → position_or_len p (xs ++ more) ≡ length xs + position_or_len p more
  place_at_end [] more h = omega arith
  place_at_end (x ∷ xs) more h = by (p x) refl (λ e. place_at_end xs more (sym (ap (λ b. b || list_any p xs) e) ∙ h))
    where
      by : (b : Bool) → p x ≡ b → (p x ≡ false → position_or_len p (xs ++ more) ≡ length xs + position_or_len p more) → cond (not (p x)) (1 + position_or_len p (xs ++ more)) 0 ≡ suc (length xs) + position_or_len p more
      by true e rest = absurd (true≢false (sym (ap (λ b. b || list_any p xs) e) ∙ h))
      by false e rest = rw e (omega (arith, rest e))

  -- more behind leave the place of one that stands before
  pub place_kept : (xs more : List X) → list_any p xs ≡ true → position_or_len p (xs ++ more) ≡ position_or_len p xs
  place_kept [] more h = absurd (true≢false (sym h))
  place_kept (x ∷ xs) more h = by (p x) refl (λ e. place_kept xs more (sym (ap (λ b. b || list_any p xs) e) ∙ h))
    where
      by : (b : Bool) → p x ≡ b → (p x ≡ false → position_or_len p (xs ++ more) ≡ position_or_len p xs) → cond (not (p x)) (1 + position_or_len p (xs ++ more)) 0 ≡ cond (not (p x)) (1 + position_or_len p xs) 0
      by true e rest = rw e refl
      by false e rest = rw e (ap (λ n. 1 + n) (rest e))

  pub position-below : (xs : List X) → list_any p xs ≡ true → position p xs ≡ Some (position_or_len p xs)
  position-below xs h = ap (λ b. cond b (Some (position_or_len p xs)) None) (lt-ltb (position_or_len p xs) (length xs) (place_below xs h))

  pub position_none : (xs : List X) → list_any p xs ≡ false → position p xs ≡ None
  position_none xs h =
      let end : position_or_len p xs ≡ length xs = ap (position_or_len p) (sym (append-nil xs)) ∙ place_at_end xs [] h ∙ add-zero (length xs) in
      ap (λ b. cond b (Some (position_or_len p xs)) None) (le-ltb _ _ (omega arith))

module _ (t : List ℕ) (texts : List (List ℕ)) where
  same_text : bytes_eq t t ≡ true
  same_text = (bytes_eq-Decides t t).1 refl

  pub has-last : has_text (texts ++ t ∷ []) t ≡ true
  has-last = by (has_text texts t) (list_any-append (bytes_eq t) texts (t ∷ []) ∙ ap (λ b. has_text texts t || (b || false)) same_text)
    where
      by : (b : Bool) → has_text (texts ++ t ∷ []) t ≡ (b || true) → has_text (texts ++ t ∷ []) t ≡ true
      by true e = e
      by false e = e

  -- a text that was put has a code: that which it had, or else the end
  pub code_of-with_text : code_of (with_text texts t) t ≡ Some (pos (position_or_len (bytes_eq t) texts))
  code_of-with_text = by (has_text texts t) refl
    where
      by : (b : Bool) → has_text texts t ≡ b → code_of (if b then texts else texts ++ t ∷ []) t ≡ Some (pos (position_or_len (bytes_eq t) texts))
      by true e = ap (option_map pos) (position-below (bytes_eq t) texts e)
      by false e =
          let first : position_or_len (bytes_eq t) (t ∷ []) ≡ 0 = ap (λ b. cond (not b) 1 0) same_text in
          let after : position_or_len (bytes_eq t) (texts ++ t ∷ []) ≡ length texts + position_or_len (bytes_eq t) (t ∷ []) = place_at_end (bytes_eq t) texts (t ∷ []) e in
          let before : position_or_len (bytes_eq t) (texts ++ []) ≡ length texts + 0 = place_at_end (bytes_eq t) texts [] e in
          let before_is : position_or_len (bytes_eq t) texts ≡ length texts + 0 = ap (position_or_len (bytes_eq t)) (sym (append-nil texts)) ∙ before in
          ap (option_map pos) (position-below (bytes_eq t) (texts ++ t ∷ []) has-last ∙ ap Some (omega arith))

  -- another text keeps the code that it had
  pub code_kept : (u : List ℕ) (code : ℤ) → code_of texts u ≡ Some code → code_of (with_text texts t) u ≡ Some code
  code_kept u code h = by (has_text texts t) (has_text texts u) refl
    where
      by : (b there : Bool) → has_text texts u ≡ there → code_of (if b then texts else texts ++ t ∷ []) u ≡ Some code
      by true there e = h
      by false true e =
          let now : has_text (texts ++ t ∷ []) u ≡ true = list_any-append (bytes_eq u) texts (t ∷ []) ∙ ap (λ b. b || (bytes_eq u t || false)) e in
          ap (option_map pos) (position-below (bytes_eq u) (texts ++ t ∷ []) now ∙ ap Some (place_kept (bytes_eq u) texts (t ∷ []) e) ∙ sym (position-below (bytes_eq u) texts e)) ∙ h
      by false false e = let gone : None ≡ Some code = sym (ap (option_map pos) (position_none (bytes_eq u) texts e)) ∙ h in cc

-- a text that has a code is there
pub with_text-there : (texts : List (List ℕ)) (t : List ℕ) (code : ℤ) → code_of texts t ≡ Some code → with_text texts t ≡ texts
with_text-there texts t code h = by (has_text texts t) refl
  where
    by : (b : Bool) → has_text texts t ≡ b → (if b then texts else texts ++ t ∷ []) ≡ texts
    by true e = refl
    by false e = let gone : None ≡ Some code = sym (ap (option_map pos) (position_none (bytes_eq t) texts e)) ∙ h in cc

-- texts that are put come behind those that are there
pub Begins-with_text : (old texts : List (List ℕ)) (t : List ℕ) → Begins old texts → Begins old (with_text texts t)
Begins-with_text old texts t (more, is) = by (has_text texts t)
  where
    by : (b : Bool) → Begins old (if b then texts else texts ++ t ∷ [])
    by true = (more, is)
    by false = (more ++ t ∷ [], ap (λ l. l ++ t ∷ []) is ∙ append_assoc old more (t ∷ []))

pub Begins-with_texts : (old texts ts : List (List ℕ)) → Begins old texts → Begins old (with_texts texts ts)
Begins-with_texts old texts [] h = h
Begins-with_texts old texts (t ∷ ts) h = Begins-with_texts old (with_text texts t) ts (Begins-with_text old texts t h)

pub Begins_itself : (texts : List (List ℕ)) → Begins texts texts
Begins_itself texts = ([], sym (append-nil texts))

pub take-Begins : (old new : List (List ℕ)) → Begins old new → take (length old) new ≡ old
take-Begins old new (more, is) = ap (take (length old)) is ∙ take-append_seam old more

pub length-Begins : (old new : List (List ℕ)) → Begins old new → length old ≤ length new
length-Begins old new (more, is) = omega (arith, ap length is, length-append old more)

-- a code stays where more texts come
pub code_of-with_texts : (texts ts : List (List ℕ)) (u : List ℕ) (code : ℤ) → code_of texts u ≡ Some code → code_of (with_texts texts ts) u ≡ Some code
code_of-with_texts texts [] u code h = h
code_of-with_texts texts (t ∷ ts) u code h = code_of-with_texts (with_text texts t) ts u code (code_kept t texts u code h)

-- the set's vectors as texts
abbrev pub texts_of : List (Vec ℕ Global) → List (List ℕ)
texts_of keys = map (λ v. v.items) keys

abbrev pub vec_eq : Vec ℕ Global → Vec ℕ Global → Bool
vec_eq x y = bytes_eq x.items y.items

pub texts_of-insert_key : (keys : List (Vec ℕ Global)) (v : Vec ℕ Global) → texts_of (insert_key vec_eq keys v) ≡ with_text (texts_of keys) v.items
texts_of-insert_key keys v = by (list_any (vec_eq v) keys) (list_any-map (λ v. v.items) (bytes_eq v.items) keys)
  where
    by : (b : Bool) → has_text (texts_of keys) v.items ≡ b → texts_of (if b then keys else keys ++ v ∷ []) ≡ with_text (texts_of keys) v.items
    by true e = ap (λ b. if b then texts_of keys else texts_of keys ++ v.items ∷ []) (sym e)
    by false e = map-append (λ v. v.items) keys (v ∷ []) ∙ ap (λ b. if b then texts_of keys else texts_of keys ++ v.items ∷ []) (sym e)

pub texts_of-take : (n : ℕ) (keys : List (Vec ℕ Global)) → texts_of (take n keys) ≡ take n (texts_of keys)
texts_of-take zero keys = refl
texts_of-take (suc n) [] = refl
texts_of-take (suc n) (v ∷ keys) = ap (λ l. v.items ∷ l) (texts_of-take n keys)

-- the next text of a set is put: what is known of all texts, and of the codes so far and those to come
pub next_put : (self new : List (List ℕ)) (keys rest : List (Vec ℕ Global)) (v : Vec ℕ Global) (codes pushed : List ℤ) (code : ℤ) (all : List (List ℕ)) (coded : List (Option ℤ)) →
    keys ≡ v ∷ rest → new ≡ with_text self v.items → code_of new v.items ≡ Some code → pushed ≡ codes ++ code ∷ [] →
    with_texts self (texts_of keys) ≡ all → map Some codes ++ map (code_of all) (texts_of keys) ≡ coded →
    (with_texts new (texts_of rest) ≡ all) × (map Some pushed ++ map (code_of all) (texts_of rest) ≡ coded)
next_put self new keys rest v codes pushed code all coded first put has_code push whole before =
    let whole_now : with_texts new (texts_of rest) ≡ all =
    ap (λ s. with_texts s (texts_of rest)) put ∙ ap (λ k. with_texts self (texts_of k)) (sym first) ∙ whole in
    let known : code_of all v.items ≡ Some code =
    ap (λ s. code_of s v.items) (sym whole_now) ∙ code_of-with_texts new (texts_of rest) v.items code has_code in
    let coming : List (Option ℤ) = map (code_of all) (texts_of rest) in (
      whole_now,
      ap (λ l. map Some l ++ coming) push
          ∙ ap (λ l. l ++ coming) (map-append Some codes (code ∷ []))
          ∙ append_assoc (map Some codes) (Some code ∷ []) coming
          ∙ ap (λ o. map Some codes ++ (o ∷ coming)) (sym known)
          ∙ ap (λ k. map Some codes ++ map (code_of all) (texts_of k)) (sym first)
          ∙ before,
    )

-- a text that is there, or comes, is there afterwards
pub has_text-with_texts : (texts ts : List (List ℕ)) (u : List ℕ) → has_text texts u ≡ true → has_text (with_texts texts ts) u ≡ true
has_text-with_texts texts ts u h =
    let (more, is) = Begins-with_texts texts texts ts (Begins_itself texts) in
    ap (λ l. has_text l u) is ∙ list_any-append (bytes_eq u) texts more ∙ ap (λ b. b || has_text more u) h

has_text-with_text : (texts : List (List ℕ)) (t : List ℕ) → has_text (with_text texts t) t ≡ true
has_text-with_text texts t = by (has_text texts t) refl
  where
    by : (b : Bool) → has_text texts t ≡ b → has_text (if b then texts else texts ++ t ∷ []) t ≡ true
    by true e = e
    by false e = has-last t texts

has_text-came : (texts ts : List (List ℕ)) (t : List ℕ) → has_text ts t ≡ true → has_text (with_texts texts ts) t ≡ true
has_text-came texts [] t h = absurd (true≢false (sym h))
has_text-came texts (u ∷ us) t h = by (bytes_eq t u) refl (λ e. has_text-came (with_text texts u) us t (sym (ap (λ b. b || has_text us t) e) ∙ h))
  where
    by : (b : Bool) → bytes_eq t u ≡ b → (bytes_eq t u ≡ false → has_text (with_texts (with_text texts u) us) t ≡ true) → has_text (with_texts (with_text texts u) us) t ≡ true
    by true e rest =
        let same : t ≡ u = (bytes_eq-Decides t u).0 e in
        has_text-with_texts (with_text texts u) us t (ap (has_text (with_text texts u)) same ∙ has_text-with_text texts u)
    by false e rest = rest e

-- the texts of a dictionary are put as those of which it was made
pub with_texts-with_texts : (old mid ts : List (List ℕ)) → with_texts old (with_texts mid ts) ≡ with_texts (with_texts old mid) ts
with_texts-with_texts old mid [] = refl
with_texts-with_texts old mid (t ∷ ts) = with_texts-with_texts old (with_text mid t) ts ∙ ap (λ l. with_texts l ts) (by (has_text mid t) refl)
  where
    by : (b : Bool) → has_text mid t ≡ b → with_texts old (if b then mid else mid ++ t ∷ []) ≡ with_text (with_texts old mid) t
    by true e = ap (λ b. if b then with_texts old mid else with_texts old mid ++ t ∷ []) (sym (has_text-came old mid t e))
    by false e = fold-append with_text old mid (t ∷ [])

pub ruleset of_texts = (position-map, IsDistinct-map, with_text-there, take-Begins, length-Begins)
