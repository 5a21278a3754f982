-- Written tokens are read as these tokens.
use Rattle.std.proofs.Common.{◌≡◌, ℕ, ◌+◌, ◌-◌, ◌<◌, ◌≤◌, suc, true, List, [], ◌∷◌, ◌++◌, length, get_or, drop, arith, sym, ◌∙◌, ap, subst, refl, length-append, length-drop, add-zero}
use Rattle.std.specs.Prelude.{Ok, None, Some}
use Rattle.std.specs.List.{AllPass}
use Rattle.std.proofs.lemmas.List.Elements.{All-head, All-tail}
use Rattle.sql_lex.specs.Bytes.{is_white}
use Rattle.sql_lex.specs.Gap.{IsGap}
use Rattle.sql_lex.specs.Gap.IsGap.{nothing, white}
use Rattle.sql_lex.specs.Forms.{HasForm}
use Rattle.sql_lex.specs.Tokens.{IsToken, IsReading, Tokens}
use Rattle.sql_lex.specs.Written.{Written, written_text, written_tokens, MayBeWritten}
use Rattle.sql_lex.specs.declared.token.TokenKind.{TokenKind}
use Rattle.sql_lex.specs.Tokens.StandsAt.{token_here, end_here}
use Rattle.sql_lex.proofs.Wholes.{between_is_front, drop_past, first-drop, IsWhole-front}
use Rattle.sql_lex.proofs.Lexings.{form_first}

-- a form has a byte
form_length : (kind : TokenKind) (bytes : List ℕ) → HasForm kind bytes → 0 < length bytes
form_length kind [] form = let none : None ≡ Some kind = form_first kind [] form in absurd (cc none)
form_length kind (b ∷ bs) form = omega arith

IsGap-white : (s space rest : List ℕ) (from : ℕ) → drop from s ≡ space ++ rest → AllPass is_white space → IsGap s from (from + length space)
IsGap-white s [] rest from same all = subst (λ (end : ℕ). IsGap s from end) (sym (add-zero from)) (nothing from)
IsGap-white s (b ∷ space) rest from same all =
    let here : is_white (get_or s from 0) ≡ true =
    ap is_white (sym (first-drop s from) ∙ ap (λ l. get_or l 0 0) same) ∙ All-head (λ c. is_white c ≡ true) b space all in
    let later = IsGap-white s space rest (from + 1) (drop_past s (b ∷ []) (space ++ rest) from same) (All-tail (λ c. is_white c ≡ true) b space all) in
    let ends : from + 1 + length space ≡ from + suc (length space) = omega arith in
    white from (from + length (b ∷ space)) here (subst (λ (end : ℕ). IsGap s (from + 1) end) ends later)

reads_written : (s : List ℕ) (from : ℕ) (tokens : List Written) → from ≤ length s → drop from s ≡ written_text tokens
    → MayBeWritten tokens → IsReading s from (written_tokens from tokens) (Ok None)
reads_written s from [] in_script same may = (from, nothing from, end_here (let len = ap length same in omega (arith, len, length-drop from s)))
reads_written s from (this ∷ tokens) in_script same (space, form, keeps, stops, others) =
    let rest = written_text tokens in
    let start = from + length this.space in
    let end = start + length this.bytes in
    let at_start : drop start s ≡ this.bytes ++ rest = drop_past s this.space (this.bytes ++ rest) from same in
    let at_end : drop end s ≡ rest = drop_past s this.bytes rest start at_start in
    let some = form_length this.kind this.bytes form in
    let len : length s - start ≡ length this.bytes + length rest =
    sym (length-drop start s) ∙ ap length at_start ∙ length-append this.bytes rest in
    let in_order : start < end = omega arith in
    let inside : end ≤ length s = omega (arith, len) in
    let here : drop start s ≡ this.bytes ++ drop end s = at_start ∙ ap (λ l. this.bytes ++ l) (sym at_end) in
    let next : get_or s end 0 ≡ get_or rest 0 0 = sym (first-drop s end) ∙ ap (λ l. get_or l 0 0) at_end in
    let one : IsToken s (record { kind = this.kind; start = start; end = end }) = record {
      whole = IsWhole-front s this.kind this.bytes start end in_order inside here form (rw next stops);
      limit = rw (between_is_front s this.bytes start end in_order inside here) keeps;
    } in
    ((start, IsGap-white s this.space (this.bytes ++ rest) from same space, token_here this.kind end one), reads_written s end tokens inside at_end others)

pub written_once : (tokens : List Written) → MayBeWritten tokens → Tokens (written_text tokens) (written_tokens 0 tokens)
written_once tokens may = reads_written (written_text tokens) 0 tokens (omega arith) refl may
