-- What is written by the grammar for CREATE INDEX, what is read and what is printed are the same.
use Rattle.std.proofs.Common.{codes, ◌≡◌, ◌∙◌, ℕ, List, [], ◌∷◌, ◌++◌, Some, refl, ap, arith}
use Rattle.std.proofs.lemmas.Grind.{common_steps}
use Rattle.sql_parse.proofs.Productions.{Lexeme, Word, mark, IsName, after_word, after_mark, name_at, in_parentheses_at, create_at, statement_at, IsAfter, Reads, then_read, also, then_after, name-reads, in_parentheses-reads, IsPrintedBy, word-sound, mark-sound, IsWritable, Holds, no_terms, hold-none}
use Rattle.sql_parse.specs.declared.mark.Mark.TheVariants as m
use Rattle.sql_parse.specs.declared.tree.IndexDef.{IndexDef}
use Rattle.sql_parse.specs.Trees.{CreateIndex}
use Rattle.sql_parse.specs.Statements.{statement_parts}
use Rattle.sql_parse.specs.Statements.CreateIndex.{IsCreateIndex, create_index_at}
use Rattle.sql_parse.proofs.SoundForms.{group-writable}

pub create_index-reads : Reads (IsAfter (Word (codes "CREATE") ∷ Word (codes "INDEX") ∷ [])) create_index_at
unfolding create_index_at
create_index-reads = record {
  each = λ tokens.
      then_read name-reads tokens _ _ (λ name a.
      then_after m.On name.1 _ _ (λ rest on.
      then_read name-reads rest _ _ (λ table b.
      then_read (in_parentheses-reads name-reads) table.1 _ _ (λ column c. (
        a.0 ++ mark m.On ∷ (b.0 ++ c.0),
        also _ (mark m.On ∷ (b.0 ++ c.0)) _ a.1 (on ∙ ap (λ all. mark m.On ∷ all) (also _ _ _ b.1 c.1)),
        (rw (a.2.0, b.2.0, c.2.1, c.2.2.0) refl, a.2.1, b.2.1, c.2.2.1),
      )))));
}

index-again : (name table column : List ℕ) → IsName name → IsName table → IsName column
    → create_at (Word (codes "INDEX") ∷ Word name ∷ mark m.On ∷ Word table ∷ mark m.OpenParen ∷ Word column ∷ mark m.CloseParen ∷ [])
    ≡ Some (CreateIndex (record { name = name; table = table; column = column }), [])
unfolding create_at create_index_at in_parentheses_at name_at after_mark after_word
index-again name table column is_name is_table is_column = rw (is_name, is_table, is_column) refl

pub create_index-again : (tokens : List Lexeme) (index : IndexDef) → IsCreateIndex tokens index → statement_at tokens ≡ Some (CreateIndex index, [])
unfolding statement_at after_mark after_word
create_index-again tokens index form = rw form.0 (index-again index.name index.table index.column form.1 form.2 form.3)

pub create_index-printed : IsPrintedBy IsCreateIndex (λ index. statement_parts (CreateIndex index))
create_index-printed tokens index form = (refl, form.1, form.2, form.3)

pub create_index-writable : IsWritable IsCreateIndex (λ index. statement_parts (CreateIndex index))
create_index-writable tokens index sound form = grind (arith, common_steps, word-sound, mark-sound, group-writable)

pub create_index-held : Holds IsCreateIndex no_terms
create_index-held tokens index form = hold-none tokens (rw form.0 refl)
