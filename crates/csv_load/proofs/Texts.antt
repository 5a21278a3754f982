-- Texts that are UTF-8, and how many characters they have.
use Rattle.std.proofs.Common.{◌≡◌, ℕ, ◌≤◌, Bool, true, false, List, length, refl}
use Rattle.std.specs.Str.{IsUtf8, is_utf8}
use Rattle.std.proofs.lemmas.Str.{IsUtf8-from_is_utf8, is_utf8-from_IsUtf8}
use Rattle.std.proofs.lemmas.List.Sums.{count_by-le-length}
use Rattle.sql_values.specs.Stored.{characters}

pub is_utf8-true : (bytes : List ℕ) → IsUtf8 bytes → is_utf8 bytes ≡ true
is_utf8-true bytes h = is_utf8-from_IsUtf8 bytes h

pub is_utf8-false : (bytes : List ℕ) → ¬ (IsUtf8 bytes) → is_utf8 bytes ≡ false
is_utf8-false bytes other = by (is_utf8 bytes) refl
  where
    by : (b : Bool) → is_utf8 bytes ≡ b → b ≡ false
    by true e = absurd (other (IsUtf8-from_is_utf8 bytes e))
    by false e = refl

pub characters-le : (text : List ℕ) → characters text ≤ length text
characters-le text = count_by-le-length _ text

pub ruleset of_utf8 = (is_utf8-true, is_utf8-false)

pub ruleset of_lengths = (characters-le)
