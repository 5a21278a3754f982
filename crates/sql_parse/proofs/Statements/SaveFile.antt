-- What is written by the grammar for SAVE, what is read and what is printed are the same.
use Rattle.std.proofs.Common.{codes, ◌≡◌, ◌∙◌, List, [], ◌∷◌, ◌++◌, Some, refl, ap, subst, arith}
use Rattle.std.proofs.lemmas.Grind.{common_steps}
use Rattle.sql_parse.proofs.Productions.{IsUtf8, Word, Lexeme, mark, after_word, after_mark, name_at, text_token_at, statement_at, IsAfter, Reads, then_read, also, then_after, name-reads, text-reads, IsPrintedBy, word-sound, EachSound, mark-sound, IsWritable, Holds, no_terms, hold-none}
use Rattle.sql_parse.specs.declared.mark.Mark.TheVariants as m
use Rattle.sql_parse.specs.declared.tree.FileDef.{FileDef}
use Rattle.sql_parse.specs.Trees.{SaveFile}
use Rattle.sql_parse.specs.Statements.{statement_parts}
use Rattle.sql_parse.specs.Statements.SaveFile.{IsSaveFile, save_file_at}

pub save_file-reads : Reads (IsAfter (Word (codes "SAVE") ∷ [])) save_file_at
unfolding save_file_at
save_file-reads = record {
  each = λ tokens.
      then_read name-reads tokens _ _ (λ name a.
      then_after m.To name.1 _ _ (λ rest to.
      then_read text-reads rest _ _ (λ file b.
      (a.0 ++ mark m.To ∷ b.0, also _ (mark m.To ∷ b.0) _ a.1 (to ∙ ap (λ all. mark m.To ∷ all) b.1), (rw (a.2.0, b.2) refl, a.2.1)))));
}

pub save_file-again : (tokens : List Lexeme) (save : FileDef) → IsSaveFile tokens save → statement_at tokens ≡ Some (SaveFile save, [])
unfolding statement_at save_file_at name_at text_token_at after_mark after_word
save_file-again tokens save form = rw (form.0, form.1) refl

pub save_file-printed : IsPrintedBy IsSaveFile (λ save. statement_parts (SaveFile save))
save_file-printed tokens save form = (refl, form.1)

pub save_file-writable : IsWritable IsSaveFile (λ save. statement_parts (SaveFile save))
save_file-writable tokens save sound form = grind (arith, common_steps, word-sound, mark-sound)

pub save_file-utf8 : (tokens : List Lexeme) (save : FileDef) → EachSound tokens → IsSaveFile tokens save → IsUtf8 save.file
save_file-utf8 tokens save sound form = (subst EachSound form.0 sound).1.1.1.0

pub save_file-held : Holds IsSaveFile no_terms
save_file-held tokens save form = hold-none tokens (rw form.0 refl)
