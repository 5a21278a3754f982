-- A script has exactly one lexing: it never has two (`.._once`), and it has one (`some_..`).
use Rattle.std.proofs.Common.{◌≡◌, ℕ, ◌+◌, ◌<◌, Bool, true, false, cond, nat_eq, ◌&&◌, List, [], ◌∷◌, ◌++◌, length, get_or, drop, arith, sym, ◌∙◌, ap, subst, refl, inl, inr, append_assoc, length-drop, ◌≤◌, ◌⊎◌, zero, suc, ◌-◌}
use Rattle.std.specs.Prelude.{Option, Some, None, Result, Ok, Err}
use Rattle.std.specs.List.{slice_range, AllPass, All, prefix_len}
use Rattle.std.specs.Char.{is_ascii_digit}
use Rattle.std.proofs.lemmas.Bool.{false≢true, both_ways, or_left, or_right, cases_lt, cases_Bool}
use Rattle.std.proofs.lemmas.Bool.Decides.{nat_tests}
use Rattle.std.proofs.lemmas.List.{append-nil, get_or_past, drop_more, drop_all, get_or-drop}
use Rattle.std.proofs.lemmas.List.Edits.{length-between}
use Rattle.std.proofs.lemmas.List.Elements.{All-nil, All-cons, All-head, All-tail}
use Rattle.std.proofs.lemmas.List.Folds.{drop_split}
use Rattle.sql_lex.specs.Bytes.{is_white, starts_word, is_word_byte, is_sign, starts_comparison, is_second}
use Rattle.sql_lex.specs.declared.byte.Run.TheVariants.{Comment}
use Rattle.sql_lex.specs.Run.{belongs, IsRun}
use Rattle.sql_lex.specs.Gap.{gap_begins, IsGap, comment_begins}
use Rattle.sql_lex.specs.Gap.IsGap.{nothing, white, comment}
use Rattle.sql_lex.specs.Values.{doubled, number_value_of, text_value_of}
use Rattle.sql_lex.specs.Forms.{HasForm, KeepsTokenLimit, limit_fault, is_comparison, goes_on}
use Rattle.sql_lex.specs.Tokens.{IsWhole, IsToken, StandsAt, ComesNext, IsReading, IsLexing}
use Rattle.sql_lex.specs.Tokens.StandsAt.{token_here, end_here, strange_byte, open_text, past_limit}
use Rattle.sql_lex.specs.declared.token.Token.{Token}
use Rattle.sql_lex.specs.declared.token.TokenKind.{TokenKind}
use Rattle.sql_lex.specs.declared.token.TokenKind.TheVariants.{Word, Number, Text, Sign, Comparison}
use Rattle.sql_lex.specs.declared.fault.LexFault.{LexFault}
use Rattle.sql_lex.proofs.Texts.{after_text, after_text-append, after_text-closed, SplitsAt, SplitsAt-after}
use Rattle.sql_lex.proofs.Wholes.{first-between, first-drop, drop_past, IsRun-moves, IsWhole-word, IsWhole-number, IsWhole-byte, IsWhole-pair, IsWhole-text, open_text_stands}
use Rattle.std.specs.Str.{is_utf8}
use Rattle.std.proofs.lemmas.Grind.{common_steps}
use Rattle.std.proofs.lemmas.Str.{IsUtf8-from_is_utf8, is_utf8-from_IsUtf8}
use Rattle.std.proofs.lemmas.List.Sums.{prefix_len-le-length, prefix_len_passes, prefix_len_stops}
use Rattle.sql_lex.specs.Limits.{max_word_bytes, max_number}
use Rattle.sql_lex.specs.declared.fault.LexKind.{LexKind}
use Rattle.sql_lex.specs.declared.fault.LexKind.TheVariants as faults

-- what comes next in a script
abbrev Next : Type 0
Next = Result (Option Token) LexFault

-- the kind of the token that a byte begins
abbrev pub first_kind : ℕ → Option TokenKind
first_kind b =
    cond (starts_word b) (Some Word)
    (cond (is_ascii_digit b) (Some Number)
    (cond (nat_eq b 39) (Some Text)
    (cond (starts_comparison b) (Some Comparison)
    (cond (is_sign b) (Some Sign) None))))

pub form_first : (kind : TokenKind) (bytes : List ℕ) → HasForm kind bytes → first_kind (get_or bytes 0 0) ≡ Some kind
form_first Word bytes form = let letter = form.0 in grind (arith, nat_tests)
form_first Number [] form = absurd (omega (arith, form.0))
form_first Number (b ∷ bs) form = let digit : is_ascii_digit b ≡ true = form.1 0 0 (omega arith) in grind (arith, nat_tests)
form_first Text bytes form = ap (λ l. first_kind (get_or l 0 0)) form.1
form_first Sign bytes (b, sign, same) = let first : first_kind b ≡ Some Sign = grind (arith, nat_tests) in ap (λ l. first_kind (get_or l 0 0)) same ∙ first
form_first Comparison [] form = absurd (false≢true form)
form_first Comparison (b ∷ []) form = grind (arith, nat_tests)
form_first Comparison (b ∷ c ∷ []) form = grind (arith, nat_tests)
form_first Comparison (b ∷ c ∷ d ∷ bs) form = absurd (false≢true form)

run-append : (p : ℕ → Bool) (xs l : List ℕ) → AllPass p xs → p (get_or l 0 0) ≡ false → drop (prefix_len p (xs ++ l)) (xs ++ l) ≡ l
run-append p [] [] all stops = refl
run-append p [] (b ∷ l) all stops = grind (arith, nat_tests)
run-append p (b ∷ xs) l all stops =
    let more : prefix_len p (b ∷ xs ++ l) ≡ suc (prefix_len p (xs ++ l)) = grind (arith, All-head (λ c. p c ≡ true) b xs all) in
    ap (λ n. drop n (b ∷ xs ++ l)) more ∙ run-append p xs l (All-tail (λ c. p c ≡ true) b xs all) stops

comparison-append : (xs l : List ℕ) → is_comparison xs ≡ true → is_comparison (xs ++ get_or l 0 0 ∷ []) ≡ false
    → drop (cond (is_second (get_or (xs ++ l) 0 0) (get_or (xs ++ l) 1 0)) 2 1) (xs ++ l) ≡ l
comparison-append (b ∷ []) (c ∷ l) form longest = grind (arith, nat_tests)
comparison-append (b ∷ c ∷ []) l form longest = grind (arith, nat_tests)
comparison-append xs l form longest = grind (arith, nat_tests)

-- what follows the token of a kind that begins here, if it ends
abbrev after : TokenKind → List ℕ → Option (List ℕ)
after Word l = Some (drop (prefix_len is_word_byte l) l)
after Number l = Some (drop (prefix_len is_ascii_digit l) l)
after Text l = after_text false (drop 1 l)
after Sign l = Some (drop 1 l)
after Comparison l = Some (drop (cond (is_second (get_or l 0 0) (get_or l 1 0)) 2 1) l)

after-append : (kind : TokenKind) (xs l : List ℕ) → HasForm kind xs → goes_on kind xs (get_or l 0 0) ≡ false → after kind (xs ++ l) ≡ Some l
after-append Word xs l form longest = ap Some (run-append is_word_byte xs l form.1 longest)
after-append Number xs l form longest = ap Some (run-append is_ascii_digit xs l form.1 longest)
after-append Text xs l (v, same) longest =
    grind (arith, common_steps, after_text, append_assoc, after_text-append, after_text-closed)
after-append Sign xs l (b, sign, same) longest = ap (λ ys. Some (drop 1 (ys ++ l))) same
after-append Comparison xs l form longest = ap Some (comparison-append xs l form longest)

-- what begins here: nothing more, nothing with this byte, or a kind's form with what follows it, if it ends
data Begun : Type 0 where
  no_more : Begun
  no_form : Begun
  form_of : TokenKind → Option (List ℕ) → Begun

abbrev begun_by : Option TokenKind → List ℕ → Begun
begun_by None l = no_form
begun_by (Some kind) l = form_of kind (after kind l)

abbrev begun : List ℕ → Begun
begun [] = no_more
begun (b ∷ l) = begun_by (first_kind b) (b ∷ l)

begun-append : (kind : TokenKind) (xs l : List ℕ) → HasForm kind xs → goes_on kind xs (get_or l 0 0) ≡ false
    → begun (xs ++ l) ≡ form_of kind (Some l)
begun-append kind [] l form longest = let none : None ≡ Some kind = form_first kind [] form in absurd (cc none)
begun-append kind (b ∷ xs) l form longest =
    ap (λ first. begun_by first (b ∷ xs ++ l)) (form_first kind (b ∷ xs) form) ∙ ap (form_of kind) (after-append kind (b ∷ xs) l form longest)

whole_begun : (s : List ℕ) (kind : TokenKind) (place end : ℕ) → IsWhole s kind place end → begun (drop place s) ≡ form_of kind (Some (drop end s))
whole_begun s kind place end whole =
    ap begun (drop_split s place end (omega (arith, whole.in_order)))
    ∙ begun-append kind (slice_range s place end) (drop end s) whole.form (ap (goes_on kind (slice_range s place end)) (first-drop s end) ∙ whole.longest)

-- one form begins at a place, and it has one end
whole_once : (s : List ℕ) (k l : TokenKind) (place d e : ℕ) → IsWhole s k place d → IsWhole s l place e → (k ≡ l) × (d ≡ e)
whole_once s k l place d e one other =
    let same = sym (whole_begun s k place d one) ∙ whole_begun s l place e other in
    let rests : drop d s ≡ drop e s = cc same in
    (cc same, omega (arith, ap length rests, length-drop d s, length-drop e s, one.in_script, other.in_script))

-- a form doesn't both keep and break its kind's limit
not_kept_and_broken : (s : List ℕ) (k l : TokenKind) (place d e : ℕ) → IsToken s (record { kind = k; start = place; end = d }) → IsWhole s l place e
    → ¬ (KeepsTokenLimit l (slice_range s place e)) → ⊥
not_kept_and_broken s k l place d e one other breaks = grind (arith, common_steps, whole_once)

abbrev what_begins : (s : List ℕ) (place : ℕ) (next : Next) → StandsAt s place next → Begun
what_begins s place next (token_here kind end _) = form_of kind (Some (drop end s))
what_begins s place next (end_here _) = no_more
what_begins s place next (strange_byte _ _) = no_form
what_begins s place next (open_text _ _) = form_of Text None
what_begins s place next (past_limit kind end _ _ _ _) = form_of kind (Some (drop end s))

begun-place : (s : List ℕ) (place : ℕ) (next : Next) (stands : StandsAt s place next)
    → begun (drop place s) ≡ what_begins s place next stands
begun-place s place next (token_here kind end one) = whole_begun s kind place end one.whole
begun-place s place next (end_here end) = ap begun (drop_all place s (omega (arith, end)))
begun-place s place next (strange_byte inside none) = grind (arith, common_steps, get_or, nat_tests, drop_more)
begun-place s place next (open_text v same) =
    ap begun same ∙ ap (form_of Text) (ap (after_text false) (sym (append-nil (doubled v))) ∙ after_text-append v [])
begun-place s place next (past_limit kind end _ one _ _) = whole_begun s kind place end one

stands_once : (s : List ℕ) (place : ℕ) (one other : Next) → StandsAt s place one → StandsAt s place other → one ≡ other
stands_once s place one other (token_here k d a) (token_here l e b) = let once = whole_once s k l place d e a.whole b.whole in cc (once.0, once.1)
stands_once s place one other (token_here k d a) (past_limit l e _ b breaks _) = absurd (not_kept_and_broken s k l place d e a b breaks)
stands_once s place one other (past_limit k d _ a breaks _) (token_here l e b) = absurd (not_kept_and_broken s l k place e d b a breaks)
stands_once s place one other (past_limit k d f a _ fault) (past_limit l e g b _ same) =
    grind (arith, common_steps, whole_once)
stands_once s place one other (end_here _) (end_here _) = refl
stands_once s place one other (strange_byte _ _) (strange_byte _ _) = refl
stands_once s place one other (open_text _ _) (open_text _ _) = refl
stands_once s place one other a b = let same = sym (begun-place s place one a) ∙ begun-place s place other b in cc same

whole_first : (s : List ℕ) (kind : TokenKind) (place end : ℕ) → IsWhole s kind place end → first_kind (get_or s place 0) ≡ Some kind
whole_first s kind place end whole =
    ap first_kind (sym (first-between s place end whole.in_order)) ∙ form_first kind (slice_range s place end) whole.form

-- where a form begins there is neither white space nor a comment
whole_no_gap : (s : List ℕ) (kind : TokenKind) (place end : ℕ) → first_kind (get_or s place 0) ≡ Some kind → IsWhole s kind place end → gap_begins s place ≡ false
whole_no_gap s Sign place end first whole =
    let len = length-between s place end whole.in_script in
    let one : length (slice_range s place end) ≡ 1 = ap length whole.form.2 in
    let next : end ≡ place + 1 = let in_order = whole.in_order in omega (arith, len, one) in
    let same = first-between s place end whole.in_order in
    let stops = whole.longest in
    grind (arith, nat_tests)
whole_no_gap s kind place end first whole = grind (arith, nat_tests)

stands_no_gap : (s : List ℕ) (place : ℕ) (next : Next) → StandsAt s place next → gap_begins s place ≡ false
stands_no_gap s place next (token_here kind end one) = whole_no_gap s kind place end (whole_first s kind place end one.whole) one.whole
stands_no_gap s place next (end_here last) = let none : get_or s place 0 ≡ 0 = get_or_past s place 0 (omega (arith, last)) in grind (arith, nat_tests)
stands_no_gap s place next (strange_byte _ none) = grind (arith, nat_tests)
stands_no_gap s place next (open_text v same) = grind (arith, common_steps, get_or, first-drop, nat_tests)
stands_no_gap s place next (past_limit kind end _ one _ _) = whole_no_gap s kind place end (whole_first s kind place end one) one

-- a run has one end
run_once : (p : ℕ → Bool) (s : List ℕ) (start d e : ℕ) → IsRun p s start d → IsRun p s start e → d ≡ e
run_once p s start d e one other =
    grind (arith, nat_tests, one.inside e, other.inside d, one.stops, other.stops, one.in_order, other.in_order, one.in_script, other.in_script)

white_no_comment : (b c : ℕ) → is_white b ≡ true → (nat_eq b 45 && nat_eq c 45) ≡ true → ⊥
white_no_comment b c space minus = grind (arith, nat_tests)

gap_once : (s : List ℕ) (from p q : ℕ) → IsGap s from p → IsGap s from q → gap_begins s p ≡ false → gap_begins s q ≡ false → p ≡ q
gap_once s from p q (nothing _) (nothing _) a b = refl
gap_once s from p q (nothing _) (white _ _ space _) a b = absurd (both_ways _ a (or_left _ _ space))
gap_once s from p q (nothing _) (comment _ _ _ begins line _) a b = absurd (both_ways _ a (or_right _ _ begins))
gap_once s from p q (white _ _ space _) (nothing _) a b = absurd (both_ways _ b (or_left _ _ space))
gap_once s from p q (comment _ _ _ begins line _) (nothing _) a b = absurd (both_ways _ b (or_right _ _ begins))
gap_once s from p q (white _ _ _ one) (white _ _ _ other) a b = gap_once s (from + 1) p q one other a b
gap_once s from p q (white _ _ space _) (comment _ _ _ begins line _) a b = absurd (white_no_comment (get_or s from 0) (get_or s (from + 1) 0) space begins)
gap_once s from p q (comment _ _ _ begins line _) (white _ _ space _) a b = absurd (white_no_comment (get_or s from 0) (get_or s (from + 1) 0) space begins)
gap_once s from p q (comment _ d _ _ line one) (comment _ e _ _ row other) a b =
    let ends = run_once (belongs Comment) s from d e line row in
    gap_once s e p q (subst (λ (k : ℕ). IsGap s k p) ends one) other a b

comes_once : (s : List ℕ) (from : ℕ) (one other : Next) → ComesNext s from one → ComesNext s from other → one ≡ other
comes_once s from one other (p, gap_p, a) (q, gap_q, b) =
    grind (arith, common_steps, gap_once, stands_no_gap, stands_once)

-- what ends a list of tokens: no token
abbrev IsLast : Next → Type 0
IsLast (Ok None) = Unit {0}
IsLast (Ok (Some token)) = ⊥
IsLast (Err fault) = Unit {0}

reads_once : (s : List ℕ) (one other : Next) → IsLast one → IsLast other → (from : ℕ) (ts us : List Token)
    → IsReading s from ts one → IsReading s from us other → (ts ≡ us) × (one ≡ other)
reads_once s one other last_one last_other from [] [] a b = (refl, comes_once s from one other a b)
reads_once s one other last_one last_other from [] (u ∷ us) a b = absurd (subst IsLast (comes_once s from one (Ok (Some u)) a b.0) last_one)
reads_once s one other last_one last_other from (t ∷ ts) [] a b = absurd (subst IsLast (comes_once s from other (Ok (Some t)) b a.0) last_other)
reads_once s one other last_one last_other from (t ∷ ts) (u ∷ us) a b =
    let next = comes_once s from (Ok (Some t)) (Ok (Some u)) a.0 b.0 in
    let same : t ≡ u = cc next in
    let rest = reads_once s one other last_one last_other u.end ts us (subst (λ (v : Token). IsReading s v.end ts one) same a.1) b.1 in
    (cc (same, rest.0), rest.1)

pub lexing_once : (s : List ℕ) (one other : Result (List Token) LexFault) → IsLexing s one → IsLexing s other → one ≡ other
lexing_once s (Ok ts) (Ok us) a b = ap Ok (reads_once s (Ok None) (Ok None) tt tt 0 ts us a b).0
lexing_once s (Ok ts) (Err g) a b = let same = (reads_once s (Ok None) (Err g) tt tt 0 ts b.0 a b.1).1 in cc same
lexing_once s (Err f) (Ok us) a b = let same = (reads_once s (Err f) (Ok None) tt tt 0 a.0 us a.1 b).1 in cc same
lexing_once s (Err f) (Err g) a b = let same = (reads_once s (Err f) (Err g) tt tt 0 a.0 b.0 a.1 b.1).1 in cc same

IsGap-in_order : (script : List ℕ) (from end : ℕ) → IsGap script from end → from ≤ end
IsGap-in_order script from end (nothing _) = omega arith
IsGap-in_order script from end (white _ _ _ rest) = let later = IsGap-in_order script (from + 1) end rest in omega arith
IsGap-in_order script from end (comment _ stop _ _ line rest) =
    let later = IsGap-in_order script stop end rest in
    omega (arith, line.in_order)

-- what comes next is a token, and lies further on
pub ComesNext-token : (script : List ℕ) (from : ℕ) (next : Token) → ComesNext script from (Ok (Some next))
    → (from ≤ next.start) × IsToken script next
ComesNext-token script from next (place, gap, token_here kind end one) = (IsGap-in_order script from place gap, one)

-- each token that was read is one
pub each_read : (s : List ℕ) (last : Next) (from : ℕ) (tokens : List Token) → IsReading s from tokens last → All (IsToken s) tokens
each_read s last from [] read = All-nil (IsToken s)
each_read s last from (first ∷ tokens) (next, rest) =
    All-cons (IsToken s) first tokens (ComesNext-token s from first next).1 (each_read s last first.end tokens rest)

some_run : (p : ℕ → Bool) (s : List ℕ) (start : ℕ) → start ≤ length s → (end : ℕ) × IsRun p s start end
some_run p s start in_script =
    let n = prefix_len p (drop start s) in
    let some = prefix_len-le-length p (drop start s) in
    let len = length-drop start s in (
      start + n,
      record {
        in_order = omega arith;
        in_script = omega (arith, some, len);
        inside = λ k low high. grind (arith, get_or-drop start s (k - start) 0, prefix_len_passes p (drop start s) (k - start) 0);
        stops = λ inside. grind (arith, get_or-drop start s n 0, prefix_len_stops p (drop start s) 0);
      },
    )

some_limit : (kind : TokenKind) (bytes : List ℕ) → KeepsTokenLimit kind bytes ⊎ ((fault : LexKind) × (¬ (KeepsTokenLimit kind bytes)) × (limit_fault kind ≡ Some fault))
some_limit Word bytes = elim (cases_lt max_word_bytes (length bytes)) [ inl more ↦ inr (faults.Name, λ keeps. omega arith, refl) | inr keeps ↦ inl keeps ]
some_limit Number bytes = elim (cases_lt max_number (number_value_of bytes)) [ inl more ↦ inr (faults.Number, λ keeps. omega arith, refl) | inr keeps ↦ inl keeps ]
some_limit Text bytes =
    elim (cases_Bool (is_utf8 (text_value_of bytes))) [
      | inl utf8 ↦ inl (IsUtf8-from_is_utf8 (text_value_of bytes) utf8)
      | inr other ↦ inr (faults.Utf8, λ keeps. both_ways _ other (is_utf8-from_IsUtf8 (text_value_of bytes) keeps), refl)
    ]
some_limit Sign bytes = inl tt
some_limit Comparison bytes = inl tt

whole_stands : (s : List ℕ) (kind : TokenKind) (place end : ℕ) → IsWhole s kind place end → (next : Next) × StandsAt s place next
whole_stands s kind place end whole =
    elim (some_limit kind (slice_range s place end)) [
      | inl keeps ↦ (_, token_here kind end (record { whole = whole; limit = keeps }))
      | inr (fault, breaks, same) ↦ (_, past_limit kind end fault whole breaks same)
    ]

text_stands : (s : List ℕ) (place : ℕ) (rest : Option (List ℕ)) → place < length s → get_or s place 0 ≡ 39 → SplitsAt (drop (place + 1) s) rest
    → (next : Next) × StandsAt s place next
text_stands s place None inside quote splits = (_, open_text_stands s place inside quote splits)
text_stands s place (Some rest) inside quote (v, same, stops) =
    let closed : drop (place + 1) s ≡ (doubled v ++ 39 ∷ []) ++ rest = same ∙ sym (append_assoc (doubled v) (39 ∷ []) rest) in
    let later = drop_past s (doubled v ++ 39 ∷ []) rest (place + 1) closed in
    let end = place + 1 + length (doubled v ++ 39 ∷ []) in
    let len : length s - (place + 1) ≡ length (doubled v ++ 39 ∷ []) + length rest = grind (arith, common_steps, length-drop (place + 1) s) in
    whole_stands s Text place end (IsWhole-text s place end (omega arith) (grind (arith, common_steps)) quote (rw later (v, same, stops)))

comparison_stands : (s : List ℕ) (place : ℕ) → place < length s → starts_comparison (get_or s place 0) ≡ true → (next : Next) × StandsAt s place next
comparison_stands s place inside first =
    elim (cases_Bool (is_second (get_or s place 0) (get_or s (place + 1) 0))) [
      | inl pair ↦ whole_stands s Comparison place (place + 2) (IsWhole-pair s place inside pair)
      | inr one ↦ whole_stands s Comparison place (place + 1) (IsWhole-byte s Comparison place inside first one)
    ]

stands_by : (s : List ℕ) (place : ℕ) (kind : Option TokenKind) → place < length s → gap_begins s place ≡ false → first_kind (get_or s place 0) ≡ kind
    → (next : Next) × StandsAt s place next
stands_by s place None inside no_gap first = (_, strange_byte inside (grind (arith, nat_tests)))
stands_by s place (Some Word) inside no_gap first =
    let run = some_run is_word_byte s place (omega arith) in
    whole_stands s Word place run.0 (IsWhole-word s place run.0 run.1 inside (grind (arith, nat_tests)))
stands_by s place (Some Number) inside no_gap first =
    let run = some_run is_ascii_digit s place (omega arith) in
    whole_stands s Number place run.0 (IsWhole-number s place run.0 run.1 inside (grind (arith, nat_tests)))
stands_by s place (Some Text) inside no_gap first =
    text_stands s place (after_text false (drop (place + 1) s)) inside (grind (arith, nat_tests)) (SplitsAt-after (drop (place + 1) s) _ refl)
stands_by s place (Some Comparison) inside no_gap first = comparison_stands s place inside (grind (arith, nat_tests))
stands_by s place (Some Sign) inside no_gap first =
    whole_stands s Sign place (place + 1) (IsWhole-byte s Sign place inside (get_or s place 0, grind (arith, nat_tests), refl) (grind (arith, nat_tests)))

some_gap : (n : ℕ) (s : List ℕ) (from : ℕ) → length s ≤ from + n → from ≤ length s
    → (end : ℕ) × IsGap s from end × (end ≤ length s) × (end < length s → gap_begins s end ≡ false)
some_gap zero s from enough in_script = (from, nothing from, in_script, λ inside. absurd (omega arith))
some_gap (suc n) s from enough in_script =
    let none = get_or_past s from 0 in
    elim (cases_Bool (is_white (get_or s from 0))) [
      | inl space ↦
          let inside : from < length s = grind (arith, nat_tests) in
          let rest = some_gap n s (from + 1) (omega arith) (omega arith) in
          (rest.0, white from rest.0 space rest.1, rest.2, rest.3)
      | inr no_white ↦ elim (cases_Bool (comment_begins s from)) [
        | inl begins ↦
            let run = some_run (belongs Comment) s from in_script in
            let moves = IsRun-moves (belongs Comment) s from run.0 run.1 (grind (arith, nat_tests)) (grind (arith, nat_tests)) in
            let rest = some_gap n s run.0 (omega arith) run.1.in_script in
            (rest.0, comment from run.0 rest.0 begins run.1 rest.1, rest.2, rest.3)
        | inr no_comment ↦ (from, nothing from, in_script, λ _. grind (arith, nat_tests))
      ]
    ]

some_next : (s : List ℕ) (from : ℕ) → from ≤ length s → (next : Next) × ComesNext s from next
some_next s from in_script =
    let gap = some_gap (length s) s from (omega arith) in_script in
    elim (cases_lt gap.0 (length s)) [
      | inl inside ↦ let stands = stands_by s gap.0 _ inside (gap.3 inside) refl in (stands.0, (gap.0, gap.1, stands.1))
      | inr past ↦ (Ok None, (gap.0, gap.1, end_here (omega (arith, gap.2))))
    ]

abbrev HasReading : List ℕ → ℕ → Type 0
HasReading s from = (tokens : List Token) × (last : Next) × IsLast last × IsReading s from tokens last

reading_after : (s : List ℕ) (from : ℕ) (next : Next) → ComesNext s from next → ((t : Token) → from < t.end → t.end ≤ length s → HasReading s t.end) → HasReading s from
reading_after s from (Ok None) comes later = ([], Ok None, tt, comes)
reading_after s from (Err fault) comes later = ([], Err fault, tt, comes)
reading_after s from (Ok (Some t)) comes later =
    let token = ComesNext-token s from t comes in
    let rest = later t (omega (arith, token.0, token.1.whole.in_order)) token.1.whole.in_script in
    (t ∷ rest.0, rest.1, rest.2, (comes, rest.3))

some_reading : (n : ℕ) (s : List ℕ) (from : ℕ) → length s ≤ from + n → from ≤ length s → HasReading s from
some_reading zero s from enough in_script = let next = some_next s from in_script in reading_after s from next.0 next.1 (λ t more inside. absurd (omega arith))
some_reading (suc n) s from enough in_script =
    let next = some_next s from in_script in
    reading_after s from next.0 next.1 (λ t more inside. some_reading n s t.end (omega arith) inside)

lexing_of : (s : List ℕ) (tokens : List Token) (last : Next) → IsLast last → IsReading s 0 tokens last → (lexing : Result (List Token) LexFault) × IsLexing s lexing
lexing_of s tokens (Ok None) is_last read = (Ok tokens, read)
lexing_of s tokens (Ok (Some t)) is_last read = absurd is_last
lexing_of s tokens (Err fault) is_last read = (Err fault, (tokens, read))

pub some_lexing : (s : List ℕ) → (lexing : Result (List Token) LexFault) × IsLexing s lexing
some_lexing s = let read = some_reading (length s) s 0 (omega arith) (omega arith) in lexing_of s read.0 read.1 read.2 read.3
