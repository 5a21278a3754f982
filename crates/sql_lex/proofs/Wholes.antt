-- Bytes that have a kind's form and go no further.
use Rattle.std.proofs.Common.{◌≡◌, ℕ, ◌+◌, ◌<◌, ◌≤◌, Bool, true, false, List, [], ◌∷◌, ◌++◌, length, get_or, drop, arith, sym, ◌∙◌, ap, refl, length-append, length-drop, add-zero}
use Rattle.std.specs.Prelude.{Some, None, Err}
use Rattle.std.specs.List.{slice_range, AllPass}
use Rattle.std.specs.Char.{is_ascii_digit}
use Rattle.std.proofs.lemmas.Bool.Decides.{nat_tests}
use Rattle.std.proofs.lemmas.Grind.{common_steps}
use Rattle.std.proofs.lemmas.List.{get_or_past, take_at, drop_more, drop_at, drop-drop, get_or-drop}
use Rattle.std.proofs.lemmas.List.Edits.{length-between, get_or-between}
use Rattle.std.proofs.lemmas.List.Elements.{All-from_get_or}
use Rattle.std.proofs.lemmas.List.Folds.{drop_split}
use Rattle.sql_lex.specs.Bytes.{starts_word, is_word_byte, is_second}
use Rattle.sql_lex.specs.Run.{IsRun}
use Rattle.sql_lex.specs.Values.{quoted}
use Rattle.sql_lex.specs.Forms.{HasForm, goes_on}
use Rattle.sql_lex.specs.Tokens.{IsWhole, StandsAt}
use Rattle.sql_lex.specs.Tokens.StandsAt.{open_text}
use Rattle.sql_lex.specs.declared.fault.LexKind.TheVariants.{OpenText}
use Rattle.sql_lex.specs.declared.token.TokenKind.{TokenKind}
use Rattle.sql_lex.specs.declared.token.TokenKind.TheVariants.{Word, Number, Text, Comparison}
use Rattle.sql_lex.proofs.Texts.{SplitsAt}

-- the run goes on over a byte that passes
pub IsRun-moves : (p : ℕ → Bool) (s : List ℕ) (start end : ℕ) → IsRun p s start end
    → start < length s → p (get_or s start 0) ≡ true → start < end
IsRun-moves p s start end run inside passes = let h = run.in_order in let stops = run.stops in grind (arith, nat_tests)

-- the script's end stops each run of bytes that are not 0
IsRun-stops : (p : ℕ → Bool) → p 0 ≡ false → (s : List ℕ) (start end : ℕ) → IsRun p s start end → p (get_or s end 0) ≡ false
IsRun-stops p none s start end run = let stops = run.stops in grind (arith, nat_tests, get_or_past s end 0)

IsRun-passes : (p : ℕ → Bool) (s : List ℕ) (start end : ℕ) → IsRun p s start end → AllPass p (slice_range s start end)
IsRun-passes p s start end run =
    All-from_get_or (λ b. p b ≡ true) (slice_range s start end) 0 (λ i below.
    grind (arith, length-between s start end run.in_script, get_or-between s start end i 0, run.inside (start + i)))

pub first-between : (s : List ℕ) (start end : ℕ) → start < end → get_or (slice_range s start end) 0 0 ≡ get_or s start 0
first-between s start end some = get_or-between s start end 0 0 (omega arith) ∙ ap (λ k. get_or s k 0) (add-zero start)

pub first-drop : (s : List ℕ) (from : ℕ) → get_or (drop from s) 0 0 ≡ get_or s from 0
first-drop s from = get_or-drop from s 0 0 ∙ ap (λ k. get_or s k 0) (add-zero from)

-- past the front the rest stands
pub drop_past : (s front rest : List ℕ) (from : ℕ) → drop from s ≡ front ++ rest → drop (from + length front) s ≡ rest
drop_past s front rest from same = sym (drop-drop (length front) from s) ∙ ap (drop (length front)) same ∙ drop_at front rest (length front) refl

-- where these bytes lie and the rest follows, they are the slice
pub between_is_front : (s bytes : List ℕ) (start end : ℕ) → start < end → end ≤ length s → drop start s ≡ bytes ++ drop end s
    → slice_range s start end ≡ bytes
between_is_front s bytes start end in_order in_script same =
    grind (arith, common_steps, take_at, length-drop, length-append)

pub IsWhole-front : (s : List ℕ) (kind : TokenKind) (bytes : List ℕ) (start end : ℕ) → start < end → end ≤ length s
    → drop start s ≡ bytes ++ drop end s → HasForm kind bytes → goes_on kind bytes (get_or s end 0) ≡ false → IsWhole s kind start end
IsWhole-front s kind bytes start end in_order in_script same form longest =
    grind (arith, common_steps, between_is_front, get_or)

pub IsWhole-word : (s : List ℕ) (start end : ℕ) → IsRun is_word_byte s start end
    → start < length s → starts_word (get_or s start 0) ≡ true → IsWhole s Word start end
IsWhole-word s start end run inside letter =
    let moves = IsRun-moves is_word_byte s start end run inside (grind (arith, nat_tests)) in
    let form : HasForm Word (slice_range s start end) = (ap starts_word (first-between s start end moves) ∙ letter, IsRun-passes is_word_byte s start end run) in
    IsWhole-front s Word (slice_range s start end) start end moves run.in_script (drop_split s start end run.in_order) form (IsRun-stops is_word_byte refl s start end run)

pub IsWhole-number : (s : List ℕ) (start end : ℕ) → IsRun is_ascii_digit s start end
    → start < length s → is_ascii_digit (get_or s start 0) ≡ true → IsWhole s Number start end
IsWhole-number s start end run inside digit =
    let moves = IsRun-moves is_ascii_digit s start end run inside digit in
    let form : HasForm Number (slice_range s start end) = (omega (arith, length-between s start end run.in_script), IsRun-passes is_ascii_digit s start end run) in
    IsWhole-front s Number (slice_range s start end) start end moves run.in_script (drop_split s start end run.in_order) form (IsRun-stops is_ascii_digit refl s start end run)

pub IsWhole-byte : (s : List ℕ) (kind : TokenKind) (start : ℕ) → start < length s → HasForm kind (get_or s start 0 ∷ [])
    → goes_on kind (get_or s start 0 ∷ []) (get_or s (start + 1) 0) ≡ false → IsWhole s kind start (start + 1)
IsWhole-byte s kind start inside form longest =
    IsWhole-front s kind (get_or s start 0 ∷ []) start (start + 1) (omega arith) (omega arith) (drop_more s start 0 inside) form longest

pub IsWhole-pair : (s : List ℕ) (start : ℕ) → start < length s → is_second (get_or s start 0) (get_or s (start + 1) 0) ≡ true
    → IsWhole s Comparison start (start + 2)
IsWhole-pair s start inside pair =
    let further : start + 1 < length s = grind (arith, nat_tests, get_or_past s (start + 1) 0) in
    IsWhole-front s Comparison (get_or s start 0 ∷ get_or s (start + 1) 0 ∷ []) start (start + 2) (omega arith) (omega arith)
    (grind (arith, common_steps, drop_more s start 0 inside, drop_more s (start + 1) 0 further)) pair refl

-- a text that ends, and one that doesn't
pub IsWhole-text : (s : List ℕ) (start end : ℕ) → start < end → end ≤ length s → get_or s start 0 ≡ 39
    → SplitsAt (drop (start + 1) s) (Some (drop end s)) → IsWhole s Text start end
IsWhole-text s start end in_order in_script quote (v, same, stops) =
    let begins : start < length s = omega arith in
    let whole : drop start s ≡ quoted v ++ drop end s = grind (arith, common_steps, drop_more s start 0 begins) in
    IsWhole-front s Text (quoted v) start end in_order in_script whole (v, refl) (rw (first-drop s end) at stops)

pub open_text_stands : (s : List ℕ) (start : ℕ) → start < length s → get_or s start 0 ≡ 39 → SplitsAt (drop (start + 1) s) None
    → StandsAt s start (Err (record { place = start; kind = OpenText }))
open_text_stands s start inside quote (v, same) = open_text v (grind (arith, drop_more s start 0 inside))
