use Rattle.std.proofs.Common.{◌≡◌, ◌⊎◌, inr, [], ◌++◌, subst, sym, arith}
use Rattle.std.specs.Prelude.{Ok, None, Err}
use Rattle.std.proofs.lemmas.List.{append-nil}
use Rattle.std.proofs.lemmas.Result.{err_from_is_err_and}
use Rattle.sql_lex.specs.declared.fault.LexFault.{LexFault}
use Rattle.sql_lex.specs.declared.fault.LexKind.TheVariants.{NoMemory}
use Rattle.sql_lex.specs.Tokens.{IsFirstFault}
use Rattle.sql_lex.proofs.Lexings.{ComesNext-token}
use Rattle.sql_lex.proofs.script.lex.Goals as goal

pub returns-in_err-token-clause-offends : goal.returns-in_err-token-clause-offends
returns-in_err-token-clause-offends c =
    let failed = err_from_is_err_and c.from_residual.result c.from_residual.ensures.1 in
    let fault = c.in_err-token.field-0.0 in
    rw failed.1 (subst (λ (at : LexFault). (at.kind ≡ NoMemory) ⊎ IsFirstFault c.args.text.now at.place at.kind) (sym failed.2) (inr (c.loop-tokens.tokens.items ++ [], c.loop-tokens.invariant.read [] (Err fault) c.in_err-token.ensures)))

pub loop-tokens-smaller : goal.loop-tokens-smaller
loop-tokens-smaller c =
    let next = rw c.in-Some.is at c.in_ok-token.ensures in
    let after = ComesNext-token c.args.text.now c.loop-tokens.end c.in-Some.token next in
    omega (arith, after.0, after.1.whole.in_order, after.1.whole.in_script)

pub returns-clause-found : goal.returns-clause-found
returns-clause-found c =
    let last = rw c.in_default.is at c.in_ok-token.ensures in
    rw append-nil at (c.loop-tokens.invariant.read [] (Ok None) last)
