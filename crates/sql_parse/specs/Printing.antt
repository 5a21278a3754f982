-- What each private function of the printer appends. No public clause cites this file.
use Rattle.std.specs.Prelude.{ℕ, zero, suc, ◌≡◌, Bool, true, List, [], ◌∷◌, ◌++◌, fold, Result, OnOk}
use Rattle.sql_parse.specs.declared.mark.Mark.{Mark}
use Rattle.sql_parse.specs.declared.condition.Connective.{Connective}
use Rattle.sql_parse.specs.declared.condition.Connective.TheVariants as connectives
use Rattle.sql_parse.specs.Trees.{ConditionTree}
use Rattle.sql_parse.specs.Canonical.{Part, Fixed, part_lexeme, spelled, joins_next, space_before, is_chain, is_or}

-- a text, and whether its last part joins the next one
pub record Line : Type 0 where
  pub text : List ℕ
  pub joined : Bool

abbrev pub nothing : Line
nothing = record { text = []; joined = true }

unfoldable pub put : Line → Part → Line
put line part =
    record { text = line.text ++ (space_before line.joined part ++ spelled (part_lexeme part)); joined = joins_next part }

abbrev pub put_all : Line → List Part → Line
put_all line parts = fold put line parts

-- the parts are put, unless memory ran out
abbrev pub PutsParts : {T E : Type 0} → Result T E → (old new : Line) → List Part → Type 0
PutsParts result old new parts = OnOk result (new ≡ put_all old parts)

-- the keyword before the operand at a place, which isn't before the first
abbrev pub between : (place : ℕ) → Mark → List Part
between zero keyword = []
between (suc i) keyword = Fixed keyword ∷ []

-- whether a condition is to be a group as an operand of such a chain
abbrev pub is_group_in : Connective → ConditionTree → Bool
is_group_in connectives.And = is_chain
is_group_in connectives.Or = is_or
