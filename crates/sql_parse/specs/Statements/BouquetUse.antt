-- A bouquet with the values that its query is given: what RUN, LEARN and TURNS use.
use Rattle.std.specs.Prelude.{◌≡◌, List, ◌∷◌, Some}
use Rattle.sql_parse.specs.Productions.{Lexeme, Word, Rule, IsName, Reader, ◌>>=◌, name_at, Part, Name}
use Rattle.sql_parse.specs.declared.tree.RunDef.{RunDef}
use Rattle.sql_parse.specs.Statements.Using.{IsUsing, using_at, using_parts}

-- name [ USING "(" literal { "," literal } ")" ]
abbrev pub IsBouquetUse : Rule RunDef
IsBouquetUse tokens run =
    (values : List Lexeme) × (tokens ≡ Word run.name ∷ values) × IsName run.name × IsUsing values run.values

unfoldable pub bouquet_use_at : Reader RunDef
bouquet_use_at tokens = do
  name ← name_at tokens
  values ← using_at name.1
  Some (record { name = name.0; values = values.0 }, values.1)

abbrev pub bouquet_use_parts : RunDef → List Part
bouquet_use_parts run = Name run.name ∷ using_parts run.values
