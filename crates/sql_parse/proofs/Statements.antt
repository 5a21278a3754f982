-- What is written by the grammar, what is read and what is printed are the same: each production's part of that, in a file
-- of its name, and the whole.
pub mod Audit
pub mod BouquetUse
pub mod Compile
pub mod CreateIndex
pub mod CreateTable
pub mod Load
pub mod Numbers
pub mod OpenFile
pub mod SaveFile
pub mod Turns
pub mod Using
use Rattle.std.proofs.Common.{ℕ, codes, ◌≡◌, cond, eqb, List, [], ◌∷◌, ◌++◌, length, Option, Some, None, refl, sym, ap, subst, ◌∙◌, arith}
use Rattle.std.proofs.lemmas.Grind.{common_steps}
use Rattle.std.proofs.Math.Dec.{eqb-suc-zero}
use Rattle.std.proofs.lemmas.List.{append-nil}
use Rattle.sql_parse.specs.declared.mark.Mark.{Mark}
use Rattle.sql_parse.specs.declared.mark.Mark.TheVariants as m
use Rattle.sql_parse.specs.Lexemes.{Word, Lexeme, mark}
use Rattle.sql_parse.specs.Trees as tree
use Rattle.sql_parse.specs.Trees.{QueryTree, StatementTree}
use Rattle.sql_parse.specs.declared.tree.Term.{Term}
use Rattle.sql_parse.specs.Counts.{condition_of}
use Rattle.sql_parse.specs.WellFormed.{IsWellFormed}
use Rattle.sql_parse.specs.Grammar.{Rule, IsNameToken, After}
use Rattle.sql_parse.specs.Canonical.{Part, Keyword, Name}
use Rattle.sql_parse.specs.Reading.{after_word, Reader, ◌>>=◌, after_mark, name_at, select_at}
use Rattle.sql_parse.specs.Statements.{IsStatement, create_at, as_statement, productions, among, statement_at, statement_of, statement_parts}
use Rattle.sql_parse.specs.Statements.BouquetUse.{bouquet_use_parts}
use Rattle.sql_parse.specs.Statements.CreateTable.{create_table_at}
use Rattle.sql_parse.specs.Statements.CreateIndex.{create_index_at}
use Rattle.sql_parse.proofs.Read.{name-reads, either_word, then_word, IfFound, found_weaker, IsRead, IsAfter, Reads, then_read, then_after, either_after}
use Rattle.sql_parse.proofs.ReadQueries.{select-reads}
use Rattle.sql_parse.proofs.AgainQueries.{select-again}
use Rattle.sql_parse.proofs.PrintedForms.{tokens_of, IsPrintedBy}
use Rattle.sql_parse.proofs.PrintedQueries.{select-printed}
use Rattle.sql_parse.proofs.Sound.{IsSound, word-sound, EachSound}
use Rattle.sql_parse.proofs.SoundForms.{IsWritable, select-writable}
use Rattle.sql_parse.proofs.Operands.{Holds, no_terms, hold-none, hold-after, terms_of_condition, select-held}
use Rattle.sql_parse.proofs.WellFormedQueries.{AreNumbered, query-well_formed}
use Rattle.sql_parse.proofs.Statements.Audit.{audit-reads, audit-again, audit-printed, audit-writable, audit-held}
use Rattle.sql_parse.proofs.Statements.BouquetUse.{bouquet_use-reads, bouquet_use-again, bouquet_use-printed, bouquet_use-writable, bouquet_use-held}
use Rattle.sql_parse.proofs.Statements.Compile.{compile-reads, compile-again, compile-printed, compile-writable, compile-held, compile-well_formed}
use Rattle.sql_parse.proofs.Statements.CreateIndex.{create_index-reads, create_index-again, create_index-printed, create_index-writable, create_index-held}
use Rattle.sql_parse.proofs.Statements.CreateTable.{create_table-reads, create_table-again, create_table-printed, create_table-writable, create_table-held, create_table-some}
use Rattle.sql_parse.proofs.Statements.Load.{load-reads, load-again, load-printed, load-writable, load-held, load-utf8}
use Rattle.sql_parse.proofs.Statements.OpenFile.{open_file-reads, open_file-again, open_file-printed, open_file-writable, open_file-held, open_file-well_formed}
use Rattle.sql_parse.proofs.Statements.SaveFile.{save_file-reads, save_file-again, save_file-printed, save_file-writable, save_file-held, save_file-utf8}
use Rattle.sql_parse.proofs.Statements.Turns.{turns-reads, turns-again, turns-printed, turns-writable, turns-held}

-- what is read is written by the grammar

create-reads : Reads (IsAfter (Word (codes "CREATE") ∷ [])) create_at
unfolding create_at
create-reads = record {
  each = λ tokens.
      either_after m.Table tokens _ _ _
      (then_word (codes "INDEX") tokens _ _ (λ rest index.
      found_weaker (IsRead (IsAfter (Word (codes "CREATE") ∷ Word (codes "INDEX") ∷ [])) rest) _ (create_index_at rest)
      (λ statement form. (Word (codes "INDEX") ∷ form.0, index ∙ ap (λ all. Word (codes "INDEX") ∷ all) form.1, form.2)) (create_index-reads.each rest)))
      (λ rest table. found_weaker (IsRead (IsAfter (Word (codes "CREATE") ∷ mark m.Table ∷ [])) rest) _ (create_table_at rest)
      (λ statement form. (mark m.Table ∷ form.0, table ∙ ap (λ all. mark m.Table ∷ all) form.1, form.2)) (create_table-reads.each rest));
}

abbrev AreRead : List (List ℕ × Reader StatementTree) → Type 0
AreRead [] = Unit {0}
AreRead (production ∷ others) = Reads (IsAfter (Word production.0 ∷ [])) production.1 × AreRead others

-- each production with what is known of the others
infixr 5 ◌&◌
◌&◌ : {A B : Type 0} → A → B → A × B
a & b = (a, b)

-- a statement that is a word and what is written after it
made-reads : {A : Type 0} {IsForm : Rule A} {read : Reader A} (word : List ℕ) (make : A → StatementTree) → Reads IsForm read
    → ((tokens : List Lexeme) (x : A) → IsForm tokens x → IsStatement (Word word ∷ tokens) (make x)) → Reads (IsAfter (Word word ∷ [])) (as_statement make read)
made-reads word make reads is = record { each = λ tokens. then_read reads tokens _ _ (λ found a. (a.0, a.1, is a.0 found.0 a.2)) }

each-read : AreRead productions
each-read =
    grind (arith, common_steps, create-reads, load-reads, compile-reads, made-reads, bouquet_use-reads, name-reads, save_file-reads, open_file-reads, audit-reads, turns-reads)

after_keyword : (word : List ℕ) (tokens rest : List Lexeme) (read : Option (StatementTree × List Lexeme)) → tokens ≡ Word word ∷ rest
    → IfFound (IsRead (IsAfter (Word word ∷ [])) rest) read → IfFound (IsRead IsStatement tokens) read
after_keyword word tokens rest read first found =
    found_weaker (IsRead (IsAfter (Word word ∷ [])) rest) (IsRead IsStatement tokens) read
    (λ statement form. (Word word ∷ form.0, first ∙ ap (λ all. Word word ∷ all) form.1, form.2)) found

among-reads : (all : List (List ℕ × Reader StatementTree)) → AreRead all → (tokens : List Lexeme) → IfFound (IsRead IsStatement tokens) (among all tokens)
among-reads [] known tokens = then_read select-reads tokens _ _ (λ query form. form)
among-reads (production ∷ others) known tokens =
    either_word production.0 tokens _ _ _ (among-reads others known.1 tokens)
    (λ rest first. after_keyword production.0 tokens rest _ first (known.0.each rest))

statement-reads : Reads IsStatement statement_at
unfolding statement_at after_word
statement-reads = record { each = among-reads productions each-read }

ended_by : (tokens : List Lexeme) (statement : StatementTree) (rest : List Lexeme) → IsRead IsStatement tokens (statement, rest)
    → IfFound (IsStatement tokens) (cond (eqb (length rest) 0) (Some statement) None)
ended_by tokens statement [] form = subst (λ (all : List Lexeme). IsStatement all statement) (sym (form.1 ∙ append-nil form.0)) form.2
ended_by tokens statement (token ∷ rest) form = rw (eqb-suc-zero (length rest)) tt

ended : (tokens : List Lexeme) (found : StatementTree × List Lexeme) → IsRead IsStatement tokens found
    → IfFound (IsStatement tokens) (cond (eqb (length found.1) 0) (Some found.0) None)
ended tokens found form = ended_by tokens found.0 found.1 form

-- all the tokens are the statement that is read
pub statement_of-reads : (tokens : List Lexeme) → IfFound (IsStatement tokens) (statement_of tokens)
unfolding statement_of
statement_of-reads tokens = then_read statement-reads tokens _ _ (ended tokens)

-- what is written by the grammar is read again

select-first : (tokens : List Lexeme) (query : QueryTree) → select_at tokens ≡ Some (query, []) → (rest : List Lexeme) → tokens ≡ mark m.Select ∷ rest
    → statement_at tokens ≡ Some (tree.Select query, [])
unfolding statement_at after_mark after_word
select-first tokens query found rest first = rw first (ap (λ read. read >>= λ query. Some (tree.Select query.0, query.1)) (ap select_at (sym first) ∙ found))

statement-again : (tokens : List Lexeme) (statement : StatementTree) → IsStatement tokens statement → statement_at tokens ≡ Some (statement, [])
unfolding statement_at after_mark after_word name_at
statement-again tokens (tree.CreateTable table) form = create_table-again tokens table form
statement-again tokens (tree.CreateIndex index) form = create_index-again tokens index form
statement-again tokens (tree.Load load) form = load-again tokens load form
statement-again tokens (tree.Select query) form = select-first tokens query (select-again tokens query form) _ form.3
statement-again tokens (tree.Compile name levels threshold query) form = compile-again name levels threshold query tokens form
statement-again tokens (tree.Run run) form = rw (form.1, bouquet_use-again form.0 run form.2) refl
statement-again tokens (tree.Explain name) form = rw (form.1, form.2.0, form.2.1) refl
statement-again tokens (tree.SaveFile save) form = save_file-again tokens save form
statement-again tokens (tree.OpenFile name file query) form = open_file-again name file query tokens form
statement-again tokens (tree.Audit audit) form = audit-again tokens audit form
statement-again tokens (tree.Check name) form = rw (form.1, form.2.0, form.2.1) refl
statement-again tokens (tree.Learn run) form = rw (form.1, bouquet_use-again form.0 run form.2) refl
statement-again tokens (tree.Turns turns) form = turns-again tokens turns form

-- the statement of the tokens is the one that reading gives
pub statement_of-again : (tokens : List Lexeme) (statement : StatementTree) → IsStatement tokens statement → statement_of tokens ≡ Some statement
unfolding statement_of
statement_of-again tokens statement form = rw (statement-again tokens statement form) refl

pub statements-same : (tokens : List Lexeme) (one other : StatementTree) → IsStatement tokens one → IsStatement tokens other → one ≡ other
statements-same tokens one other first second =
    let same : Some one ≡ Some other = sym (statement_of-again tokens one first) ∙ statement_of-again tokens other second in cc

-- a statement that is written somehow is also written as it is printed, in parts that can be written
pub statement-printed : IsPrintedBy IsStatement statement_parts
statement-printed tokens (tree.CreateTable table) form = create_table-printed tokens table form
statement-printed tokens (tree.CreateIndex index) form = create_index-printed tokens index form
statement-printed tokens (tree.Load load) form = load-printed tokens load form
statement-printed tokens (tree.Select query) form = select-printed tokens query form
statement-printed tokens (tree.Compile name levels threshold query) form = compile-printed name levels threshold tokens query form
statement-printed tokens (tree.Run run) form = (tokens_of (bouquet_use_parts run), refl, bouquet_use-printed form.0 run form.2)
statement-printed tokens (tree.Explain name) form = (Word name ∷ [], refl, (refl, form.2.1))
statement-printed tokens (tree.SaveFile save) form = save_file-printed tokens save form
statement-printed tokens (tree.OpenFile name file query) form = open_file-printed name file tokens query form
statement-printed tokens (tree.Audit audit) form = audit-printed tokens audit form
statement-printed tokens (tree.Check name) form = (Word name ∷ [], refl, (refl, form.2.1))
statement-printed tokens (tree.Learn run) form = (tokens_of (bouquet_use_parts run), refl, bouquet_use-printed form.0 run form.2)
statement-printed tokens (tree.Turns turns) form = turns-printed tokens turns form

name-writable : IsWritable IsNameToken (λ name. Name name ∷ [])
name-writable tokens name sound form = let all : EachSound (Word name ∷ []) = subst EachSound form.0 sound in (all.0, tt, tt)

after-writable : {A : Type 0} {IsForm : Rule A} (parts : A → List Part) (word : List ℕ) → IsSound (Word word) → IsWritable IsForm parts
    → IsWritable (After (Word word) IsForm) (λ x. Keyword word ∷ parts x)
after-writable parts word is writable tokens x sound form = grind (arith, common_steps)

pub statement-writable : IsWritable IsStatement statement_parts
statement-writable tokens (tree.CreateTable table) sound form = create_table-writable tokens table sound form
statement-writable tokens (tree.CreateIndex index) sound form = create_index-writable tokens index sound form
statement-writable tokens (tree.Load load) sound form = load-writable tokens load sound form
statement-writable tokens (tree.Select query) sound form = select-writable tokens query sound form
statement-writable tokens (tree.Compile name levels threshold query) sound form = compile-writable name levels threshold tokens query sound form
statement-writable tokens (tree.Run run) sound form = after-writable bouquet_use_parts (codes "RUN") (word-sound (codes "RUN") refl refl refl refl) bouquet_use-writable tokens run sound form
statement-writable tokens (tree.Explain name) sound form = after-writable (λ name. Name name ∷ []) (codes "EXPLAIN") (word-sound (codes "EXPLAIN") refl refl refl refl) name-writable tokens name sound form
statement-writable tokens (tree.SaveFile save) sound form = save_file-writable tokens save sound form
statement-writable tokens (tree.OpenFile name file query) sound form = open_file-writable name file tokens query sound form
statement-writable tokens (tree.Audit audit) sound form = audit-writable tokens audit sound form
statement-writable tokens (tree.Check name) sound form = after-writable (λ name. Name name ∷ []) (codes "CHECK") (word-sound (codes "CHECK") refl refl refl refl) name-writable tokens name sound form
statement-writable tokens (tree.Learn run) sound form = after-writable bouquet_use_parts (codes "LEARN") (word-sound (codes "LEARN") refl refl refl refl) bouquet_use-writable tokens run sound form
statement-writable tokens (tree.Turns turns) sound form = turns-writable tokens turns sound form

-- the operands of a statement
abbrev pub terms_of : StatementTree → List Term
terms_of statement = terms_of_condition (condition_of statement)

name-held : Holds IsNameToken no_terms
name-held tokens name form = hold-none tokens (rw form.0 refl)

after-held : {A : Type 0} {IsForm : Rule A} {terms : A → List Term} (word : List ℕ) → Holds IsForm terms → Holds (After (Word word) IsForm) terms
after-held {terms = terms} word held tokens x form = rw form.1 (hold-after (Word word) form.0 (terms x) refl (held form.0 x form.2))

pub statement-held : Holds IsStatement terms_of
statement-held tokens (tree.CreateTable table) form = create_table-held tokens table form
statement-held tokens (tree.CreateIndex index) form = create_index-held tokens index form
statement-held tokens (tree.Load load) form = load-held tokens load form
statement-held tokens (tree.Select query) form = select-held tokens query form
statement-held tokens (tree.Compile name levels threshold query) form = compile-held name levels threshold tokens query form
statement-held tokens (tree.Run run) form = after-held (codes "RUN") bouquet_use-held tokens run form
statement-held tokens (tree.Explain name) form = after-held (codes "EXPLAIN") name-held tokens name form
statement-held tokens (tree.SaveFile save) form = save_file-held tokens save form
statement-held tokens (tree.OpenFile name file query) form = open_file-held name file tokens query form
statement-held tokens (tree.Audit audit) form = audit-held tokens audit form
statement-held tokens (tree.Check name) form = after-held (codes "CHECK") name-held tokens name form
statement-held tokens (tree.Learn run) form = after-held (codes "LEARN") bouquet_use-held tokens run form
statement-held tokens (tree.Turns turns) form = turns-held tokens turns form

-- a statement has the parts that the layers above rely on
pub statement-well_formed : (tokens : List Lexeme) (statement : StatementTree) → EachSound tokens → AreNumbered (condition_of statement) → IsStatement tokens statement
    → IsWellFormed statement
statement-well_formed tokens (tree.CreateTable table) sound numbered form = create_table-some tokens table form
statement-well_formed tokens (tree.Load load) sound numbered form = load-utf8 tokens load sound form
statement-well_formed tokens (tree.Select query) sound numbered form = query-well_formed tokens query numbered form
statement-well_formed tokens (tree.Compile name levels threshold query) sound numbered form = compile-well_formed name levels threshold tokens query sound numbered form
statement-well_formed tokens (tree.SaveFile save) sound numbered form = save_file-utf8 tokens save sound form
statement-well_formed tokens (tree.OpenFile name file query) sound numbered form = open_file-well_formed name file tokens query sound numbered form
statement-well_formed tokens other sound numbered form = tt
