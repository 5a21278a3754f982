-- Each query that is read has the parts that the layers above rely on.
use Rattle.std.proofs.Common.{◌<◌, ◌^◌, List, [], ◌∷◌, length, Option, Some, None, IfSome, arith}
use Rattle.std.proofs.lemmas.Grind.{common_steps}
use Rattle.sql_parse.specs.declared.mark.Mark.{Mark}
use Rattle.sql_parse.specs.declared.mark.Mark.TheVariants as m
use Rattle.sql_parse.specs.declared.tree.ColRef.{ColRef}
use Rattle.sql_parse.specs.Lexemes.{Lexeme}
use Rattle.sql_parse.specs.Trees.{ConditionTree, QueryTree}
use Rattle.sql_parse.specs.Grammar.{Rule, Separated, IsSelection, IsSelect}
use Rattle.sql_parse.specs.Parameters.{parameters_of_condition, AreNumberedFrom}
use Rattle.sql_parse.specs.WellFormed.{IsWellFormedQuery}
use Rattle.sql_parse.proofs.Literals.{where-free}

pub separated-some : {A : Type 0} (separator : Mark) (IsPart : Rule A) (tokens : List Lexeme) (xs : List A) → Separated separator IsPart tokens xs → 0 < length xs
separated-some separator IsPart tokens [] form = absurd form
separated-some separator IsPart tokens (x ∷ xs) form = omega arith

selection-some : (tokens : List Lexeme) (columns : Option (List ColRef)) → IsSelection tokens columns → IfSome columns (λ columns. 0 < length columns)
selection-some tokens None form = tt
selection-some tokens (Some columns) form = separated-some m.Comma _ tokens columns form

-- the parameters are numbered from 0, in 32 bits
abbrev pub AreNumbered : Option ConditionTree → Type 0
AreNumbered condition = AreNumberedFrom 0 (parameters_of_condition condition) × (length (parameters_of_condition condition) < 2 ^ 32)

pub query-well_formed : (tokens : List Lexeme) (query : QueryTree) → AreNumbered query.condition → IsSelect tokens query → IsWellFormedQuery query
query-well_formed tokens query numbered form = grind (arith, common_steps, separated-some, selection-some, where-free)
