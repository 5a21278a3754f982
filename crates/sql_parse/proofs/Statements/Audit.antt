-- What is written by the grammar for AUDIT, what is read and what is printed are the same.
use Rattle.std.proofs.Common.{codes, ◌≡◌, List, [], ◌∷◌, ◌++◌, Some, refl, ap, arith}
use Rattle.std.proofs.lemmas.Grind.{common_steps}
use Rattle.sql_parse.proofs.Productions.{Lexeme, Word, after_word, after_mark, name_at, statement_at, IsAfter, Reads, then_read, also, name-reads, tokens_of, tokens-append, IsPrintedBy, word-sound, IsWritable, sound-front, writable-append, Holds, no_terms, hold-after}
use Rattle.sql_parse.specs.declared.tree.AuditDef.{AuditDef}
use Rattle.sql_parse.specs.Trees.{Audit}
use Rattle.sql_parse.specs.Statements.{statement_parts}
use Rattle.sql_parse.specs.Statements.Audit.{IsAudit, audit_at}
use Rattle.sql_parse.specs.Statements.Numbers.{numbers_parts}
use Rattle.sql_parse.specs.Statements.Using.{using_parts}
use Rattle.sql_parse.proofs.SoundForms.{sound-back}
use Rattle.sql_parse.proofs.Operands.{hold-append}
use Rattle.sql_parse.proofs.Statements.Numbers.{numbers-reads, numbers-again, numbers-printed, numbers-writable, numbers-held}
use Rattle.sql_parse.proofs.Statements.Using.{using-reads, using-again, using-begins, using-printed, using-writable, using-held}

pub audit-reads : Reads (IsAfter (Word (codes "AUDIT") ∷ [])) audit_at
unfolding audit_at
audit-reads = record {
  each = λ tokens.
      then_read name-reads tokens _ _ (λ name a.
      then_read (numbers-reads (codes "AT")) name.1 _ _ (λ levels b.
      then_read using-reads levels.1 _ _ (λ values c.
      (a.0 ++ (b.0 ++ c.0), also _ _ _ a.1 (also _ _ _ b.1 c.1), (b.0, c.0, rw a.2.0 refl, a.2.1, b.2, c.2)))));
}

pub audit-again : (tokens : List Lexeme) (audit : AuditDef) → IsAudit tokens audit → statement_at tokens ≡ Some (Audit audit, [])
unfolding statement_at audit_at name_at after_mark after_word
audit-again tokens audit form = grind (arith, common_steps, numbers-again, using-begins, using-again)

pub audit-printed : IsPrintedBy IsAudit (λ audit. statement_parts (Audit audit))
audit-printed tokens audit form = (
  tokens_of (numbers_parts (codes "AT") audit.levels),
  tokens_of (using_parts audit.values),
  ap (λ ts. Word (codes "AUDIT") ∷ Word audit.name ∷ ts) (tokens-append (numbers_parts (codes "AT") audit.levels) (using_parts audit.values)),
  form.3,
  numbers-printed (codes "AT") form.0 audit.levels form.4,
  using-printed form.1 audit.values form.5,
)

pub audit-writable : IsWritable IsAudit (λ audit. statement_parts (Audit audit))
audit-writable tokens audit sound form =
    grind (arith, common_steps, word-sound, writable-append, numbers-writable, sound-front, using-writable, sound-back)

pub audit-held : Holds IsAudit no_terms
audit-held tokens audit form =
    rw form.2 (hold-after (Word (codes "AUDIT")) _ [] refl (hold-after (Word audit.name) _ [] refl
    (hold-append form.0 form.1 [] [] (numbers-held (codes "AT") form.0 audit.levels form.4) (using-held form.1 audit.values form.5))))
