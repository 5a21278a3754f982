-- A script has no more tokens than bytes.
use Rattle.std.proofs.Common.{ℕ, ◌+◌, ◌≤◌, List, [], ◌∷◌, length, arith}
use Rattle.std.specs.Prelude.{Ok, None}
use Rattle.std.proofs.lemmas.List.Elements.{All-weaker}
use Rattle.sql_values.specs.Limits.{max_script_bytes}
use Rattle.sql_lex.specs.declared.token.Token.{Token}
use Rattle.sql_lex.specs.Tokens.{Tokens, IsReading}
use Rattle.sql_lex.proofs.Lexings.{ComesNext-token}
use Rattle.sql_parse.specs.declared.statement.Statement.{Statement}
use Rattle.sql_parse.specs.Trees.{statement_tree}
use Rattle.sql_parse.specs.Counts.{HasUpTo, HaveUpTo}

few_from : (script : List ℕ) (from : ℕ) (tokens : List Token) → from ≤ length script → IsReading script from tokens (Ok None) → from + length tokens ≤ length script
few_from script from [] inside read = omega arith
few_from script from (token ∷ tokens) inside (next, rest) =
    let here = ComesNext-token script from token next in
    let on = few_from script token.end tokens here.1.whole.in_script rest in
    omega (arith, here.0, here.1.whole.in_order, on)

-- so no statement has more predicates, or more parameters, than a script may have bytes
pub counted_few : (script : List ℕ) (tokens : List Token) (statements : List Statement) → length script ≤ max_script_bytes → Tokens script tokens
    → HaveUpTo (length tokens) statements → HaveUpTo max_script_bytes statements
counted_few script tokens statements within are all =
    let few : 0 + length tokens ≤ length script = few_from script 0 tokens (omega arith) are in
    All-weaker (λ statement. HasUpTo (length tokens) (statement_tree statement)) (λ statement. HasUpTo max_script_bytes (statement_tree statement))
    (λ statement one. record { predicates = omega (arith, one.predicates, few, within); parameters = omega (arith, one.parameters, few, within) }) statements all
