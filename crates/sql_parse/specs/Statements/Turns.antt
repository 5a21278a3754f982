-- TURNS.
use Rattle.std.specs.Prelude.{codes, ◌≡◌, List, ◌∷◌, ◌++◌, Some}
use Rattle.sql_parse.specs.Productions.{Lexeme, Word, Rule, Separated, Reader, ◌>>=◌, list_at}
use Rattle.sql_parse.specs.declared.mark.Mark.TheVariants as m
use Rattle.sql_parse.specs.declared.tree.TurnsDef.{TurnsDef}
use Rattle.sql_parse.specs.Trees.{StatementTree, Turns}
use Rattle.sql_parse.specs.Statements.BouquetUse.{IsBouquetUse, bouquet_use_at}
use Rattle.sql_parse.specs.Statements.Numbers.{IsNumbers, numbers_at}

-- TURNS use { "," use } [ BY number { "," number } ], each use a bouquet with the values that its query is given
abbrev pub IsTurns : Rule TurnsDef
IsTurns tokens turns =
    (used by : List Lexeme) × (tokens ≡ Word (codes "TURNS") ∷ (used ++ by))
    × Separated m.Comma IsBouquetUse used turns.uses × IsNumbers (codes "BY") by turns.by

-- after TURNS
unfoldable pub turns_at : Reader StatementTree
turns_at tokens = do
  uses ← list_at bouquet_use_at m.Comma tokens
  by ← numbers_at (codes "BY") uses.1
  Some (Turns (record { uses = uses.0; by = by.0 }), by.1)
