-- What is written by the grammar for CREATE TABLE, what is read and what is printed are the same.
use Rattle.std.proofs.Common.{codes, ◌≡◌, ◌∙◌, ℕ, List, [], ◌∷◌, ◌++◌, length, Some, None, refl, ap, subst, ◌<◌, inl, inr, Bool, true, false, append_assoc, arith}
use Rattle.std.proofs.lemmas.Grind.{common_steps}
use Rattle.sql_parse.proofs.Productions.{Lexeme, Word, mark, IsName, Separated, after_word, after_mark, name_at, number_at, list_at, in_parentheses_at, create_at, statement_at, IsAfter, Reads, then_read, also, then_after, name-reads, number-reads, list-reads, in_parentheses-reads, IsReadAgain, list-again, read_to_end, tokens_of, tokens-append, IsPrintedBy, separated-printed, word-sound, EachSound, mark-sound, IsWritable, sound-front, listed-writable, Writable, writable-append, Holds, no_terms, hold-none, hold-after}
use Rattle.std.proofs.lemmas.List.{append-nil}
use Rattle.sql_values.specs.declared.column.ColumnType.{ColumnType}
use Rattle.sql_values.specs.declared.column.ColumnType.TheVariants as types
use Rattle.sql_parse.specs.declared.mark.Mark.TheVariants as m
use Rattle.sql_parse.specs.declared.tree.TableDef.{TableDef}
use Rattle.sql_parse.specs.Trees.{CreateTable}
use Rattle.sql_parse.specs.Grammar.{InParentheses, written_if}
use Rattle.sql_parse.specs.Canonical.{listed, in_parentheses, kept_if}
use Rattle.sql_parse.specs.Statements.{statement_parts}
use Rattle.sql_parse.specs.Statements.CreateTable.{IsColumnType, IsColumn, IsCreateTable, varchar_at, column_type_at, column_at, create_table_at, type_parts, definition_parts}
use Rattle.sql_parse.proofs.Read.{either_after}
use Rattle.sql_parse.proofs.Again.{in_parentheses-again}
use Rattle.sql_parse.proofs.PrintedForms.{kept-printed, in_parentheses-printed}
use Rattle.sql_parse.proofs.SoundForms.{in_parentheses-writable}
use Rattle.sql_parse.proofs.WellFormedQueries.{separated-some}
use Rattle.sql_parse.proofs.Operands.{Hold, hold-after_mark, hold-append, list-held, in_parentheses-held}

varchar-reads : Reads IsColumnType varchar_at
unfolding varchar_at
varchar-reads = record {
  each = λ tokens.
      then_after m.Varchar tokens _ _ (λ rest first.
      then_read (in_parentheses-reads number-reads) rest _ _ (λ n form. (
        mark m.Varchar ∷ form.0,
        first ∙ ap (λ all. mark m.Varchar ∷ all) form.1,
        ap (λ all. mark m.Varchar ∷ all) (form.2.1 ∙ ap (λ inside. mark m.OpenParen ∷ (inside ++ mark m.CloseParen ∷ [])) form.2.2),
      )));
}

column_type-reads : Reads IsColumnType column_type_at
unfolding column_type_at
column_type-reads = record {
  each = λ tokens.
      either_after m.Integer tokens _ _ _
      (either_after m.Int tokens _ _ _ (varchar-reads.each tokens) (λ rest is. (mark m.Int ∷ [], is, inr refl)))
      (λ rest is. (mark m.Integer ∷ [], is, inl refl));
}

column-reads : Reads IsColumn column_at
unfolding column_at
column-reads = record {
  each = λ tokens.
      then_read name-reads tokens _ _ (λ name a.
      then_read column_type-reads name.1 _ _ (λ kind b.
      let front = also a.0 b.0 kind.1 a.1 b.1 in
      either_after m.Not kind.1 _ _ _
      (a.0 ++ b.0, front, (b.0, rw (a.2.0, append-nil) refl, a.2.1, b.2))
      (λ rest not. then_after m.Null rest _ _ (λ end null.
      let written = mark m.Not ∷ mark m.Null ∷ [] in
      ((a.0 ++ b.0) ++ written, also _ written _ front (not ∙ ap (λ all. mark m.Not ∷ all) null), (b.0, rw a.2.0 refl, a.2.1, b.2))))));
}

pub create_table-reads : Reads (IsAfter (Word (codes "CREATE") ∷ mark m.Table ∷ [])) create_table_at
unfolding create_table_at
create_table-reads = record {
  each = λ tokens.
      then_read name-reads tokens _ _ (λ name a.
      then_read (in_parentheses-reads (list-reads column-reads m.Comma)) name.1 _ _ (λ columns b.
      (a.0 ++ b.0, also _ _ _ a.1 b.1, (b.0, rw a.2.0 refl, a.2.1, b.2))));
}

column_type-again : IsReadAgain IsColumnType column_type_at (λ rest. Unit {0})
unfolding column_type_at varchar_at in_parentheses_at number_at after_mark
column_type-again tokens types.Integer rest (inl form) follows = rw form refl
column_type-again tokens types.Integer rest (inr form) follows = rw form refl
column_type-again tokens (types.Varchar n) rest form follows = rw form refl

column_of-again : (not_null : Bool) (name : List ℕ) (kind : ColumnType) (type rest : List Lexeme) → IsName name → IsColumnType type kind → after_mark m.Not rest ≡ None
    → column_at (Word name ∷ ((type ++ written_if not_null (m.Not ∷ m.Null ∷ [])) ++ rest)) ≡ Some (record { name = name; kind = kind; not_null = not_null }, rest)
unfolding column_at name_at after_mark
column_of-again false name kind type rest is_name form follows =
    rw (is_name, append_assoc type [] rest, column_type-again type kind rest form tt, follows) refl
column_of-again true name kind type rest is_name form follows =
    rw (is_name, append_assoc type (mark m.Not ∷ mark m.Null ∷ []) rest, column_type-again type kind (mark m.Not ∷ mark m.Null ∷ rest) form tt) refl

column-again : IsReadAgain IsColumn column_at (λ rest. after_mark m.Not rest ≡ None)
column-again tokens column rest form follows =
    ap (λ all. column_at (all ++ rest)) form.1 ∙ column_of-again column.not_null column.name column.kind form.0 rest form.2 form.3 follows

columns-again : IsReadAgain (InParentheses (Separated m.Comma IsColumn)) (in_parentheses_at (list_at column_at m.Comma)) (λ rest. Unit {0})
unfolding after_mark after_word
columns-again =
    in_parentheses-again (Separated m.Comma IsColumn) (list_at column_at m.Comma) (λ rest. (after_mark m.Not rest ≡ None) × (after_mark m.Comma rest ≡ None)) (λ rest. (refl, refl))
    (list-again m.Comma IsColumn column_at (λ rest. after_mark m.Not rest ≡ None) (λ rest. refl) (λ rest. refl) column-again)

pub create_table-again : (tokens : List Lexeme) (table : TableDef) → IsCreateTable tokens table → statement_at tokens ≡ Some (CreateTable table, [])
unfolding statement_at create_at create_table_at name_at after_mark after_word
create_table-again tokens table form =
    let found : in_parentheses_at (list_at column_at m.Comma) form.0 ≡ Some (table.columns, []) =
    read_to_end (InParentheses (Separated m.Comma IsColumn)) (in_parentheses_at (list_at column_at m.Comma)) (λ rest. Unit {0}) columns-again form.0 table.columns form.3 tt in
    rw (form.1, form.2, found) refl

type-printed : IsPrintedBy IsColumnType type_parts
type-printed tokens types.Integer form = inl refl
type-printed tokens (types.Varchar n) form = refl

definition-printed : IsPrintedBy IsColumn definition_parts
definition-printed tokens column form = (
  tokens_of (type_parts column.kind),
  ap (λ ts. Word column.name ∷ ts) (tokens-append (type_parts column.kind) (kept_if column.not_null (m.Not ∷ m.Null ∷ []))
      ∙ ap (λ ts. tokens_of (type_parts column.kind) ++ ts) (kept-printed column.not_null (m.Not ∷ m.Null ∷ []))),
  form.2,
  type-printed form.0 column.kind form.3,
)

pub create_table-printed : IsPrintedBy IsCreateTable (λ table. statement_parts (CreateTable table))
create_table-printed tokens table form = (
  tokens_of (in_parentheses (listed definition_parts table.columns)),
  refl,
  form.2,
  in_parentheses-printed (Separated m.Comma IsColumn) (listed definition_parts) (separated-printed IsColumn definition_parts definition-printed) form.0 table.columns form.3,
)

type-writable : IsWritable IsColumnType type_parts
type-writable tokens types.Integer sound form = (mark-sound m.Integer, tt, tt)
type-writable tokens (types.Varchar n) sound form = grind (arith, common_steps, mark-sound)

nulls-writable : (kept : Bool) → Writable (kept_if kept (m.Not ∷ m.Null ∷ []))
nulls-writable false = tt
nulls-writable true = (mark-sound m.Not, tt, (mark-sound m.Null, tt, tt))

definition-writable : IsWritable IsColumn definition_parts
definition-writable tokens column sound form =
    grind (arith, common_steps, writable-append, type-writable, sound-front, nulls-writable)

pub create_table-writable : IsWritable IsCreateTable (λ table. statement_parts (CreateTable table))
create_table-writable tokens table sound form =
    let all : EachSound (Word (codes "CREATE") ∷ mark m.Table ∷ Word table.name ∷ form.0) = subst EachSound form.1 sound in (
      word-sound (codes "CREATE") refl refl refl refl,
      tt,
      (
        mark-sound m.Table,
        tt,
        (
          all.1.1.0,
          tt,
          in_parentheses-writable (Separated m.Comma IsColumn) (listed definition_parts) (listed-writable IsColumn definition_parts definition-writable) form.0 table.columns all.1.1.1 form.3,
        ),
      ),
    )

pub create_table-some : (tokens : List Lexeme) (table : TableDef) → IsCreateTable tokens table → 0 < length table.columns
create_table-some tokens table form = separated-some m.Comma _ form.3.0 table.columns form.3.2

type-held : Holds IsColumnType no_terms
type-held tokens types.Integer (inl form) = hold-none tokens (rw form refl)
type-held tokens types.Integer (inr form) = hold-none tokens (rw form refl)
type-held tokens (types.Varchar n) form = hold-none tokens (rw form refl)

nulls-held : (written : Bool) → Hold (written_if written (m.Not ∷ m.Null ∷ [])) []
nulls-held false = hold-none [] refl
nulls-held true = hold-none (mark m.Not ∷ mark m.Null ∷ []) refl

column-held : Holds IsColumn no_terms
column-held tokens column form =
    rw form.1 (hold-after (Word column.name) _ [] refl (hold-append form.0 _ [] [] (type-held form.0 column.kind form.3) (nulls-held column.not_null)))

pub create_table-held : Holds IsCreateTable no_terms
create_table-held tokens table form =
    rw form.1 (hold-after (Word (codes "CREATE")) _ [] refl (hold-after_mark m.Table _ [] (hold-after (Word table.name) form.0 [] refl
    (in_parentheses-held (Separated m.Comma IsColumn) no_terms (list-held m.Comma IsColumn column-held) form.0 table.columns form.3))))
