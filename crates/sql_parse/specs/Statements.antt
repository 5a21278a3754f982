-- The statements of the language. Each has a production, in a file of its name: which tokens are written for it, and how
-- it is read. Here they are put together, with their canonical texts, and with the statements that are a word and a name,
-- or a word and a bouquet with its values.
pub mod Audit
pub mod BouquetUse
pub mod Compile
pub mod CreateIndex
pub mod CreateTable
pub mod Load
pub mod Numbers
pub mod OpenFile
pub mod SaveFile
pub mod Turns
pub mod Using
use Rattle.std.specs.Prelude.{codes, ℕ, List, [], ◌∷◌, ◌++◌, length, Option, Some, None, if◌then◌else◌, ◌==◌}
use Rattle.sql_parse.specs.declared.mark.Mark.{Mark}
use Rattle.sql_parse.specs.declared.mark.Mark.TheVariants as m
use Rattle.sql_parse.specs.Lexemes.{Lexeme, Word}
use Rattle.sql_parse.specs.Trees as tree
use Rattle.sql_parse.specs.Trees.{StatementTree}
use Rattle.sql_parse.specs.Grammar.{Rule, IsNameToken, After, IsSelect}
use Rattle.sql_parse.specs.Reading.{after_word, Reader, ◌>>=◌, choose, after_mark, name_at, select_at}
use Rattle.sql_parse.specs.Canonical.{Part, Fixed, Keyword, Name, Text, listed, in_parentheses, query_parts, parts_text}
use Rattle.sql_parse.specs.Statements.Audit.{IsAudit, audit_at}
use Rattle.sql_parse.specs.Statements.BouquetUse.{IsBouquetUse, bouquet_use_at, bouquet_use_parts}
use Rattle.sql_parse.specs.Statements.Compile.{IsCompile, compile_at, option_parts}
use Rattle.sql_parse.specs.Statements.CreateIndex.{IsCreateIndex, create_index_at}
use Rattle.sql_parse.specs.Statements.CreateTable.{IsCreateTable, create_table_at, definition_parts}
use Rattle.sql_parse.specs.Statements.Load.{IsLoad, load_at}
use Rattle.sql_parse.specs.Statements.Numbers.{numbers_parts}
use Rattle.sql_parse.specs.Statements.OpenFile.{IsOpenFile, open_file_at}
use Rattle.sql_parse.specs.Statements.SaveFile.{IsSaveFile, save_file_at}
use Rattle.sql_parse.specs.Statements.Turns.{IsTurns, turns_at}
use Rattle.sql_parse.specs.Statements.Using.{using_parts}

-- a statement, by its form
abbrev pub IsStatement : Rule StatementTree
IsStatement tokens (tree.CreateTable table) = IsCreateTable tokens table
IsStatement tokens (tree.CreateIndex index) = IsCreateIndex tokens index
IsStatement tokens (tree.Load load) = IsLoad tokens load
IsStatement tokens (tree.Select query) = IsSelect tokens query
IsStatement tokens (tree.Compile name levels threshold query) = IsCompile name levels threshold tokens query
IsStatement tokens (tree.Run run) = After (Word (codes "RUN")) IsBouquetUse tokens run
IsStatement tokens (tree.Explain name) = After (Word (codes "EXPLAIN")) IsNameToken tokens name
IsStatement tokens (tree.SaveFile save) = IsSaveFile tokens save
IsStatement tokens (tree.OpenFile name file query) = IsOpenFile name file tokens query
IsStatement tokens (tree.Audit audit) = IsAudit tokens audit
IsStatement tokens (tree.Check name) = After (Word (codes "CHECK")) IsNameToken tokens name
IsStatement tokens (tree.Learn run) = After (Word (codes "LEARN")) IsBouquetUse tokens run
IsStatement tokens (tree.Turns turns) = IsTurns tokens turns

unfoldable pub create_at : Reader StatementTree
create_at tokens =
    choose (after_mark m.Table tokens)
    (do
      rest ← after_word (codes "INDEX") tokens
      create_index_at rest)
    create_table_at

-- the statement that is made of what is found
abbrev pub as_statement : {A : Type 0} → (A → StatementTree) → Reader A → Reader StatementTree
as_statement make read tokens = do
  found ← read tokens
  Some (make found.0, found.1)

-- the statements that begin with a keyword, each with how it is read after that
abbrev pub productions : List (List ℕ × Reader StatementTree)
productions =
    (codes "CREATE", create_at)
    ∷ (codes "LOAD", load_at)
    ∷ (codes "COMPILE", compile_at)
    ∷ (codes "RUN", as_statement tree.Run bouquet_use_at)
    ∷ (codes "EXPLAIN", as_statement tree.Explain name_at)
    ∷ (codes "SAVE", save_file_at)
    ∷ (codes "OPEN", open_file_at)
    ∷ (codes "AUDIT", audit_at)
    ∷ (codes "CHECK", as_statement tree.Check name_at)
    ∷ (codes "LEARN", as_statement tree.Learn bouquet_use_at)
    ∷ (codes "TURNS", turns_at)
    ∷ []

-- the statement of the first keyword that stands here, or a query
abbrev pub among : List (List ℕ × Reader StatementTree) → Reader StatementTree
among [] tokens = as_statement tree.Select select_at tokens
among (production ∷ others) tokens = choose (after_word production.0 tokens) (among others tokens) production.1

unfoldable pub statement_at : Reader StatementTree
statement_at tokens = among productions tokens

-- the statement of all these tokens
unfoldable pub statement_of : List Lexeme → Option StatementTree
statement_of tokens = do
  statement ← statement_at tokens
  if length statement.1 == 0 then Some statement.0 else None

-- the parts of its canonical text
abbrev pub statement_parts : StatementTree → List Part
statement_parts (tree.CreateTable table) =
    Keyword (codes "CREATE") ∷ Fixed m.Table ∷ Name table.name ∷ in_parentheses (listed definition_parts table.columns)
statement_parts (tree.CreateIndex index) =
    Keyword (codes "CREATE") ∷ Keyword (codes "INDEX") ∷ Name index.name ∷ Fixed m.On ∷ Name index.table
    ∷ in_parentheses (Name index.column ∷ [])
statement_parts (tree.Load load) = Keyword (codes "LOAD") ∷ Text load.file ∷ Fixed m.Into ∷ Name load.table ∷ []
statement_parts (tree.Select query) = query_parts query
statement_parts (tree.Compile name levels threshold query) =
    Keyword (codes "COMPILE") ∷ Name name
    ∷ (option_parts (codes "LEVELS") levels ++ (option_parts (codes "THRESHOLD") threshold ++ Fixed m.As ∷ query_parts query))
statement_parts (tree.Run run) = Keyword (codes "RUN") ∷ bouquet_use_parts run
statement_parts (tree.Explain name) = Keyword (codes "EXPLAIN") ∷ Name name ∷ []
statement_parts (tree.SaveFile save) = Keyword (codes "SAVE") ∷ Name save.name ∷ Fixed m.To ∷ Text save.file ∷ []
statement_parts (tree.OpenFile name file query) =
    Keyword (codes "OPEN") ∷ Name name ∷ Fixed m.From ∷ Text file ∷ Fixed m.As ∷ query_parts query
statement_parts (tree.Audit audit) =
    Keyword (codes "AUDIT") ∷ Name audit.name ∷ (numbers_parts (codes "AT") audit.levels ++ using_parts audit.values)
statement_parts (tree.Check name) = Keyword (codes "CHECK") ∷ Name name ∷ []
statement_parts (tree.Learn run) = Keyword (codes "LEARN") ∷ bouquet_use_parts run
statement_parts (tree.Turns turns) =
    Keyword (codes "TURNS") ∷ (listed bouquet_use_parts turns.uses ++ numbers_parts (codes "BY") turns.by)

-- the canonical text of a statement
abbrev pub canonical : StatementTree → List ℕ
canonical statement = parts_text (statement_parts statement)
