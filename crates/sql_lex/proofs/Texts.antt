-- Text literals, whose quotes are doubled.
use Rattle.std.proofs.Common.{◌≡◌, ◌≢◌, ◌↔◌, ℕ, ◌+◌, ◌<◌, Bool, true, false, cond, nat_eq, List, [], ◌∷◌, ◌++◌, length, get_or, take, drop, arith, sym, ◌∙◌, ap, subst, refl, inl, inr, append_assoc}
use Rattle.std.specs.Prelude.{Option, Some, None}
use Rattle.std.specs.Str.{IsUtf8}
use Rattle.std.proofs.lemmas.Bool.{cases_eq, ne_eqb}
use Rattle.std.proofs.lemmas.Bool.Decides.{nat_tests}
use Rattle.std.proofs.lemmas.Grind.{common_steps}
use Rattle.std.proofs.lemmas.List.{get_or_at}
use Rattle.std.proofs.lemmas.Str.Ascii.{IsAscii-cons, IsAscii-nil}
use Rattle.std.proofs.lemmas.Str.{IsUtf8-nil, IsUtf8-from_ascii, IsUtf8-append, IsUtf8-take, IsUtf8-drop, IsCharBoundary-before_ascii, IsCharBoundary-after_ascii}
use Rattle.sql_lex.specs.Forms.{HasForm, KeepsTokenLimit}
use Rattle.sql_lex.specs.declared.token.TokenKind.{TokenKind}
use Rattle.sql_lex.specs.declared.token.TokenKind.TheVariants.{Text}
use Rattle.sql_lex.specs.Values.{doubled, quoted, halved, between_quotes, text_value_of}

-- a byte that is no quote stays alone
pub doubled_byte : (b : ℕ) (v : List ℕ) → b ≢ 39 → doubled (b ∷ v) ≡ b ∷ doubled v
doubled_byte b v other = grind (arith, nat_tests)

-- one quote for two gives the value back
halved-doubled : (v : List ℕ) → halved false (doubled v) ≡ v
halved-doubled [] = refl
halved-doubled (b ∷ v) = grind (arith, nat_tests, halved-doubled v)

between_quotes-quoted : (v : List ℕ) → between_quotes (quoted v) ≡ doubled v
between_quotes-quoted v = grind (arith, common_steps)

text_value_of-quoted : (v : List ℕ) → text_value_of (quoted v) ≡ v
text_value_of-quoted v = ap (halved false) (between_quotes-quoted v) ∙ halved-doubled v

pub quoted-value : (text value : List ℕ) → value ≡ text_value_of text → (v : List ℕ) × (text ≡ quoted v) → text ≡ quoted value
quoted-value text value same (v, spelled) = spelled ∙ ap quoted (sym (same ∙ ap text_value_of spelled ∙ text_value_of-quoted v))

-- what follows a text, its opening quote apart, if it ends; `closed` says that a quote stands just before
abbrev pub after_text : (closed : Bool) → List ℕ → Option (List ℕ)
after_text false [] = None
after_text true [] = Some []
after_text false (b ∷ l) = after_text (nat_eq b 39) l
after_text true (b ∷ l) = cond (nat_eq b 39) (after_text false l) (Some (b ∷ l))

pub after_text-append : (v l : List ℕ) → after_text false (doubled v ++ l) ≡ after_text false l
after_text-append [] l = refl
after_text-append (b ∷ v) l = grind (arith, nat_tests, after_text-append v l)

pub after_text-closed : (l : List ℕ) → nat_eq (get_or l 0 0) 39 ≡ false → after_text true l ≡ Some l
after_text-closed [] stops = refl
after_text-closed (b ∷ l) stops = grind (arith, nat_tests)

-- bytes are a text's inside, and then its closing quote and this rest, if it ends
abbrev pub SplitsAt : List ℕ → Option (List ℕ) → Type 0
SplitsAt l None = (v : List ℕ) × (l ≡ doubled v)
SplitsAt l (Some rest) = (v : List ℕ) × (l ≡ doubled v ++ 39 ∷ rest) × (nat_eq (get_or rest 0 0) 39 ≡ false)

SplitsAt-byte : (b : ℕ) (l : List ℕ) (rest : Option (List ℕ)) → b ≢ 39 → SplitsAt l rest → SplitsAt (b ∷ l) rest
SplitsAt-byte b l None other (v, same) = (b ∷ v, grind (arith, nat_tests))
SplitsAt-byte b l (Some rest) other (v, same, stops) = (b ∷ v, grind (arith, nat_tests), stops)

SplitsAt-quotes : (l : List ℕ) (rest : Option (List ℕ)) → SplitsAt l rest → SplitsAt (39 ∷ 39 ∷ l) rest
SplitsAt-quotes l None (v, same) = (39 ∷ v, cc)
SplitsAt-quotes l (Some rest) (v, same, stops) = (39 ∷ v, cc, stops)

text_splits : (closed : Bool) (l : List ℕ) → SplitsAt (cond closed (39 ∷ l) l) (after_text closed l)
text_splits false [] = ([], refl)
text_splits true [] = ([], refl, refl)
text_splits false (b ∷ l) =
    elim (cases_eq b 39) [
      | inl quote ↦ subst (λ (c : ℕ). SplitsAt (c ∷ l) (after_text (nat_eq c 39) l)) (sym quote) (text_splits true l)
      | inr other ↦ subst (λ (t : Bool). SplitsAt (b ∷ l) (after_text t l)) (sym (ne_eqb b 39 other)) (SplitsAt-byte b l (after_text false l) other (text_splits false l))
    ]
text_splits true (b ∷ l) =
    elim (cases_eq b 39) [
      | inl quote ↦ subst (λ (c : ℕ). SplitsAt (39 ∷ c ∷ l) (after_text true (c ∷ l))) (sym quote) (SplitsAt-quotes l (after_text false l) (text_splits false l))
      | inr other ↦ subst (λ (t : Bool). SplitsAt (39 ∷ b ∷ l) (cond t (after_text false l) (Some (b ∷ l)))) (sym (ne_eqb b 39 other)) ([], refl, ne_eqb b 39 other)
    ]

pub SplitsAt-after : (l : List ℕ) (rest : Option (List ℕ)) → after_text false l ≡ rest → SplitsAt l rest
SplitsAt-after l rest same = subst (SplitsAt l) same (text_splits false l)

-- UTF-8 may be cut at a quote, and joined there
utf8_around_quote : (front rest : List ℕ) → IsUtf8 (front ++ 39 ∷ rest) → IsUtf8 front × IsUtf8 rest
utf8_around_quote front rest h =
    let bs = front ++ 39 ∷ rest in
    let at : length front < length bs = grind (arith, common_steps) in
    let ascii : get_or bs (length front) 0 < 128 = grind (arith, get_or_at front 39 rest 0 (length front) refl) in
    let before : take (length front) bs ≡ front = grind (arith, common_steps) in
    let later : drop (length front + 1) bs ≡ rest = grind (arith, common_steps) in (
      subst IsUtf8 before (IsUtf8-take bs (length front) h (IsCharBoundary-before_ascii bs (length front) at ascii)),
      subst IsUtf8 later (IsUtf8-drop bs (length front + 1) h (IsCharBoundary-after_ascii bs (length front) h at ascii)),
    )

utf8_with_quote : (front rest : List ℕ) → IsUtf8 front → IsUtf8 rest → IsUtf8 (front ++ 39 ∷ rest)
utf8_with_quote front rest before later =
    let quote : IsUtf8 (39 ∷ []) = IsUtf8-from_ascii (39 ∷ []) (IsAscii-cons 39 [] (omega arith) IsAscii-nil) in
    IsUtf8-append front (39 ∷ rest) before (IsUtf8-append (39 ∷ []) rest quote later)

-- a value is UTF-8 exactly where it is with its quotes doubled
doubled_utf8 : (v front : List ℕ) → IsUtf8 (front ++ v) ↔ IsUtf8 (front ++ doubled v)
doubled_utf8 [] front = (λ h. h, λ h. h)
doubled_utf8 (b ∷ v) front =
    elim (cases_eq b 39) [
      | inl quote ↦ subst (λ (c : ℕ). IsUtf8 (front ++ c ∷ v) ↔ IsUtf8 (front ++ doubled (c ∷ v))) (sym quote) (
        λ h. let parts = utf8_around_quote front v h in
            utf8_with_quote front (39 ∷ doubled v) parts.0 (utf8_with_quote [] (doubled v) IsUtf8-nil ((doubled_utf8 v []).0 parts.1)),
        λ h. let parts = utf8_around_quote front (39 ∷ doubled v) h in
            utf8_with_quote front v parts.0 ((doubled_utf8 v []).1 (utf8_around_quote [] (doubled v) parts.1).1),
      )
      | inr other ↦ rw (doubled_byte b v other)
          (rw (← append_assoc front (b ∷ []) v) (rw (← append_assoc front (b ∷ []) (doubled v)) (doubled_utf8 v (front ++ b ∷ []))))
    ]

-- so a text keeps its limit exactly where what is between its quotes is UTF-8
pub text_limit : (kind : TokenKind) (text : List ℕ) → kind ≡ Text → HasForm kind text
    → KeepsTokenLimit kind text ↔ IsUtf8 (between_quotes text)
text_limit kind text is_text form =
    let literal = subst (λ (k : TokenKind). HasForm k text) is_text form in
    let v = literal.0 in
    rw (is_text, literal.1, text_value_of-quoted v, between_quotes-quoted v) (doubled_utf8 v [])
