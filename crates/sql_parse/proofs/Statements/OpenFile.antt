-- What is written by the grammar for OPEN, what is read and what is printed are the same.
use Rattle.std.proofs.Common.{codes, ◌≡◌, ◌∙◌, ℕ, List, [], ◌∷◌, ◌++◌, Some, refl, ap, subst, arith}
use Rattle.std.proofs.lemmas.Grind.{common_steps}
use Rattle.sql_parse.proofs.Productions.{IsUtf8, Lexeme, Word, mark, after_word, after_mark, name_at, text_token_at, statement_at, IsAfter, Reads, then_read, also, then_after, name-reads, text-reads, select-reads, select-again, tokens_of, IsPrintedBy, select-printed, word-sound, EachSound, mark-sound, IsWritable, select-writable, Holds, hold-after, select-held, query-utf8, AreNumbered, query-well_formed}
use Rattle.sql_parse.specs.declared.mark.Mark.TheVariants as m
use Rattle.sql_parse.specs.Lexemes.{Text as TextToken}
use Rattle.sql_parse.specs.Trees.{QueryTree, OpenFile}
use Rattle.sql_parse.specs.WellFormed.{IsWellFormedQuery}
use Rattle.sql_parse.specs.Canonical.{query_parts, canonical_query}
use Rattle.sql_parse.specs.Statements.{statement_parts}
use Rattle.sql_parse.specs.Statements.OpenFile.{IsOpenFile, open_file_at}
use Rattle.sql_parse.proofs.Operands.{terms_of_condition, hold-after_mark}

pub open_file-reads : Reads (IsAfter (Word (codes "OPEN") ∷ [])) open_file_at
unfolding open_file_at
open_file-reads = record {
  each = λ tokens.
      then_read name-reads tokens _ _ (λ name a.
      then_after m.From name.1 _ _ (λ rest from.
      then_read text-reads rest _ _ (λ file b.
      then_after m.As file.1 _ _ (λ later keyword.
      then_read select-reads later _ _ (λ query c.
      let last = also b.0 (mark m.As ∷ c.0) query.1 b.1 (keyword ∙ ap (λ all. mark m.As ∷ all) c.1) in (
        a.0 ++ mark m.From ∷ (b.0 ++ mark m.As ∷ c.0),
        also _ (mark m.From ∷ (b.0 ++ mark m.As ∷ c.0)) _ a.1 (from ∙ ap (λ all. mark m.From ∷ all) last),
        (c.0, rw (a.2.0, b.2) refl, a.2.1, c.2),
      ))))));
}

pub open_file-again : (name file : List ℕ) (query : QueryTree) (tokens : List Lexeme) → IsOpenFile name file tokens query → statement_at tokens ≡ Some (OpenFile name file query, [])
unfolding statement_at open_file_at name_at text_token_at after_mark after_word
open_file-again name file query tokens form = rw (form.1, form.2, select-again form.0 query form.3) refl

pub open_file-printed : (name file : List ℕ) → IsPrintedBy (IsOpenFile name file) (λ query. statement_parts (OpenFile name file query))
open_file-printed name file tokens query form = (tokens_of (query_parts query), refl, form.2, select-printed form.0 query form.3)

pub open_file-writable : (name file : List ℕ) → IsWritable (IsOpenFile name file) (λ query. statement_parts (OpenFile name file query))
open_file-writable name file tokens query sound form =
    grind (arith, common_steps, word-sound, mark-sound, select-writable)

pub open_file-held : (name file : List ℕ) → Holds (IsOpenFile name file) (λ query. terms_of_condition query.condition)
open_file-held name file tokens query form =
    rw form.1 (hold-after (Word (codes "OPEN")) _ _ refl (hold-after (Word name) _ _ refl
    (hold-after_mark m.From _ _ (hold-after (TextToken file) _ _ refl (hold-after_mark m.As form.0 _ (select-held form.0 query form.3))))))

pub open_file-well_formed : (name file : List ℕ) (tokens : List Lexeme) (query : QueryTree) → EachSound tokens → AreNumbered query.condition
    → IsOpenFile name file tokens query → IsUtf8 file × IsWellFormedQuery query × IsUtf8 (canonical_query query)
open_file-well_formed name file tokens query sound numbered form =
    let all = subst EachSound form.1 sound in
    (all.1.1.1.0, query-well_formed form.0 query numbered form.3, query-utf8 form.0 query all.1.1.1.1.1 form.3)
