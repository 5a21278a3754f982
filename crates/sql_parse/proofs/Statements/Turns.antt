-- What is written by the grammar for TURNS, what is read and what is printed are the same.
use Rattle.std.proofs.Common.{codes, ◌≡◌, ◌∙◌, ℕ, List, [], ◌∷◌, ◌++◌, Some, None, refl, sym, ap, append-nil, subst}
use Rattle.sql_parse.proofs.Productions.{Lexeme, Word, after_word, after_mark, list_at, statement_at, IsAfter, Reads, then_read, also, list-reads, list-again, tokens_of, tokens-append, IsPrintedBy, separated-printed, word-sound, EachSound, IsWritable, sound-front, listed-writable, writable-append, Holds, no_terms, hold-after}
use Rattle.sql_parse.specs.declared.mark.Mark.TheVariants as m
use Rattle.sql_parse.specs.declared.tree.TurnsDef.{TurnsDef}
use Rattle.sql_parse.specs.Trees.{Turns}
use Rattle.sql_parse.specs.Canonical.{listed}
use Rattle.sql_parse.specs.Statements.BouquetUse.{IsBouquetUse, bouquet_use_at, bouquet_use_parts}
use Rattle.sql_parse.specs.Statements.Numbers.{IsNumbers, numbers_at, numbers_parts}
use Rattle.sql_parse.specs.Statements.{statement_parts}
use Rattle.sql_parse.specs.Statements.Turns.{IsTurns, turns_at}
use Rattle.sql_parse.proofs.SoundForms.{sound-back}
use Rattle.sql_parse.proofs.Operands.{hold-append, list-held}
use Rattle.sql_parse.proofs.Statements.BouquetUse.{bouquet_use-reads, bouquet_use-read_again, bouquet_use-printed, bouquet_use-writable, bouquet_use-held}
use Rattle.sql_parse.proofs.Statements.Numbers.{numbers-reads, numbers-again, numbers-printed, numbers-writable, numbers-held}

abbrev by : List ℕ
by = codes "BY"

pub turns-reads : Reads (IsAfter (Word (codes "TURNS") ∷ [])) turns_at
unfolding turns_at
turns-reads = record {
  each = λ tokens.
      then_read (list-reads bouquet_use-reads m.Comma) tokens _ _ (λ uses a.
      then_read (numbers-reads by) uses.1 _ _ (λ numbers b.
      (a.0 ++ b.0, also _ _ _ a.1 b.1, (a.0, b.0, refl, a.2, b.2))));
}

-- neither USING nor a comma stands before BY
by-begins : (tokens : List Lexeme) (ns : List ℕ) → IsNumbers by tokens ns → (after_mark m.Using tokens ≡ None) × (after_mark m.Comma tokens ≡ None)
unfolding after_mark
by-begins tokens [] form = rw form (refl, refl)
by-begins tokens (n ∷ ns) form = rw form.1 (refl, refl)

pub turns-again : (tokens : List Lexeme) (turns : TurnsDef) → IsTurns tokens turns → statement_at tokens ≡ Some (Turns turns, [])
unfolding statement_at turns_at after_mark after_word
turns-again tokens turns form =
    let uses : list_at bouquet_use_at m.Comma (form.0 ++ form.1) ≡ Some (turns.uses, form.1) =
    list-again m.Comma IsBouquetUse bouquet_use_at (λ rest. after_mark m.Using rest ≡ None) (λ rest. refl) (λ rest. refl) bouquet_use-read_again form.0 turns.uses form.1 form.3 (by-begins form.1 turns.by form.4) in
    let numbers : numbers_at by form.1 ≡ Some (turns.by, []) =
    ap (numbers_at by) (sym (append-nil form.1)) ∙ numbers-again by form.1 turns.by [] form.4 (refl, refl) in
    rw (form.2, uses, numbers) refl

pub turns-printed : IsPrintedBy IsTurns (λ turns. statement_parts (Turns turns))
turns-printed tokens turns form = (
  tokens_of (listed bouquet_use_parts turns.uses),
  tokens_of (numbers_parts by turns.by),
  ap (λ ts. Word (codes "TURNS") ∷ ts) (tokens-append (listed bouquet_use_parts turns.uses) (numbers_parts by turns.by)),
  separated-printed IsBouquetUse bouquet_use_parts bouquet_use-printed form.0 turns.uses form.3,
  numbers-printed by form.1 turns.by form.4,
)

pub turns-writable : IsWritable IsTurns (λ turns. statement_parts (Turns turns))
turns-writable tokens turns sound form =
    let all : EachSound (Word (codes "TURNS") ∷ (form.0 ++ form.1)) = subst EachSound form.2 sound in (
      word-sound (codes "TURNS") refl refl refl refl,
      tt,
      writable-append (listed bouquet_use_parts turns.uses) (numbers_parts by turns.by)
          (listed-writable IsBouquetUse bouquet_use_parts bouquet_use-writable form.0 turns.uses (sound-front form.0 form.1 all.1) form.3)
          (numbers-writable by (word-sound by refl refl refl refl) form.1 turns.by (sound-back form.0 form.1 all.1) form.4),
    )

pub turns-held : Holds IsTurns no_terms
turns-held tokens turns form =
    rw form.2 (hold-after (Word (codes "TURNS")) _ [] refl
    (hold-append form.0 form.1 [] [] (list-held m.Comma IsBouquetUse bouquet_use-held form.0 turns.uses form.3) (numbers-held by form.1 turns.by form.4)))
