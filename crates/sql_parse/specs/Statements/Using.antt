-- The values that a bouquet's query is given.
use Rattle.std.specs.Prelude.{◌≡◌, List, [], ◌∷◌, Some}
use Rattle.sql_values.specs.declared.value.Value.{Value}
use Rattle.sql_parse.specs.Productions.{mark, Rule, After, Separated, Reader, choose, after_mark, list_at, in_parentheses_at, Part, Fixed, listed, in_parentheses}
use Rattle.sql_parse.specs.declared.mark.Mark.TheVariants as m
use Rattle.sql_parse.specs.Grammar.{InParentheses, IsLiteral}
use Rattle.sql_parse.specs.Reading.{literal_at}
use Rattle.sql_parse.specs.Canonical.{value_parts}

-- [ USING "(" literal { "," literal } ")" ]
abbrev pub IsUsing : Rule (List Value)
IsUsing tokens [] = tokens ≡ []
IsUsing tokens (value ∷ values) =
    After (mark m.Using) (InParentheses (Separated m.Comma IsLiteral)) tokens (value ∷ values)

-- the values, where USING stands
unfoldable pub using_at : Reader (List Value)
using_at tokens =
    choose (after_mark m.Using tokens) (Some ([], tokens)) (in_parentheses_at (list_at literal_at m.Comma))

-- USING is written where there are values
abbrev pub using_parts : List Value → List Part
using_parts [] = []
using_parts (value ∷ values) = Fixed m.Using ∷ in_parentheses (listed value_parts (value ∷ values))
