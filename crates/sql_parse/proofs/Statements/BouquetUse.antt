-- What is written by the grammar for a bouquet and its values, what is read and what is printed are the same.
use Rattle.std.proofs.Common.{◌≡◌, List, [], ◌++◌, Some, None, refl, arith}
use Rattle.std.proofs.lemmas.Grind.{common_steps}
use Rattle.sql_parse.proofs.Productions.{Lexeme, Word, after_mark, name_at, IsReadAgain, read_to_end, Reads, then_read, also, name-reads, tokens_of, IsPrintedBy, IsWritable, Holds, no_terms, hold-after}
use Rattle.sql_parse.specs.declared.mark.Mark.TheVariants as m
use Rattle.sql_parse.specs.declared.tree.RunDef.{RunDef}
use Rattle.sql_parse.specs.Statements.Using.{using_parts}
use Rattle.sql_parse.specs.Statements.BouquetUse.{IsBouquetUse, bouquet_use_at, bouquet_use_parts}
use Rattle.sql_parse.proofs.Statements.Using.{using-reads, using-read_again, using-printed, using-writable, using-held}

pub bouquet_use-reads : Reads IsBouquetUse bouquet_use_at
unfolding bouquet_use_at
bouquet_use-reads = record {
  each = λ tokens.
      then_read name-reads tokens _ _ (λ name a.
      then_read using-reads name.1 _ _ (λ values b. (a.0 ++ b.0, also _ _ _ a.1 b.1, (b.0, rw a.2.0 refl, a.2.1, b.2))));
}

pub bouquet_use-read_again : IsReadAgain IsBouquetUse bouquet_use_at (λ rest. after_mark m.Using rest ≡ None)
unfolding bouquet_use_at name_at
bouquet_use-read_again tokens run rest form follows =
    rw (form.1, form.2, using-read_again form.0 run.values rest form.3 follows) refl

pub bouquet_use-again : (tokens : List Lexeme) (run : RunDef) → IsBouquetUse tokens run → bouquet_use_at tokens ≡ Some (run, [])
unfolding after_mark
bouquet_use-again tokens run form =
    read_to_end IsBouquetUse bouquet_use_at (λ rest. after_mark m.Using rest ≡ None) bouquet_use-read_again tokens run form refl

pub bouquet_use-printed : IsPrintedBy IsBouquetUse bouquet_use_parts
bouquet_use-printed tokens run form = (tokens_of (using_parts run.values), refl, form.2, using-printed form.0 run.values form.3)

pub bouquet_use-writable : IsWritable IsBouquetUse bouquet_use_parts
bouquet_use-writable tokens run sound form = grind (arith, common_steps, using-writable)

pub bouquet_use-held : Holds IsBouquetUse no_terms
bouquet_use-held tokens run form =
    rw form.1 (hold-after (Word run.name) form.0 [] refl (using-held form.0 run.values form.3))
