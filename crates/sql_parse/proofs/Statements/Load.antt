-- What is written by the grammar for LOAD, what is read and what is printed are the same.
use Rattle.std.proofs.Common.{codes, ◌≡◌, ◌∙◌, List, [], ◌∷◌, ◌++◌, Some, refl, ap, subst, arith}
use Rattle.std.proofs.lemmas.Grind.{common_steps}
use Rattle.sql_parse.proofs.Productions.{IsUtf8, Word, Lexeme, mark, after_word, after_mark, name_at, text_token_at, statement_at, IsAfter, Reads, then_read, also, then_after, name-reads, text-reads, IsPrintedBy, word-sound, EachSound, mark-sound, IsWritable, Holds, no_terms, hold-none}
use Rattle.sql_parse.specs.declared.mark.Mark.TheVariants as m
use Rattle.sql_parse.specs.declared.tree.LoadDef.{LoadDef}
use Rattle.sql_parse.specs.Trees.{Load}
use Rattle.sql_parse.specs.Statements.{statement_parts}
use Rattle.sql_parse.specs.Statements.Load.{IsLoad, load_at}

pub load-reads : Reads (IsAfter (Word (codes "LOAD") ∷ [])) load_at
unfolding load_at
load-reads = record {
  each = λ tokens.
      then_read text-reads tokens _ _ (λ file a.
      then_after m.Into file.1 _ _ (λ rest into.
      then_read name-reads rest _ _ (λ table b.
      (a.0 ++ mark m.Into ∷ b.0, also _ (mark m.Into ∷ b.0) _ a.1 (into ∙ ap (λ all. mark m.Into ∷ all) b.1), (rw (a.2, b.2.0) refl, b.2.1)))));
}

pub load-again : (tokens : List Lexeme) (load : LoadDef) → IsLoad tokens load → statement_at tokens ≡ Some (Load load, [])
unfolding statement_at load_at name_at text_token_at after_mark after_word
load-again tokens load form = rw (form.0, form.1) refl

pub load-printed : IsPrintedBy IsLoad (λ load. statement_parts (Load load))
load-printed tokens load form = (refl, form.1)

pub load-writable : IsWritable IsLoad (λ load. statement_parts (Load load))
load-writable tokens load sound form = grind (arith, common_steps, word-sound, mark-sound)

pub load-utf8 : (tokens : List Lexeme) (load : LoadDef) → EachSound tokens → IsLoad tokens load → IsUtf8 load.file
load-utf8 tokens load sound form = (subst EachSound form.0 sound).1.0

pub load-held : Holds IsLoad no_terms
load-held tokens load form = hold-none tokens (rw form.0 refl)
