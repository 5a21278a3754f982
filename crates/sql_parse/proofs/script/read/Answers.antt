use Rattle.std.proofs.Common.{◌≡◌, ◌+◌, ◌<◌, length, List, Some, map, drop, take, sym, ap, subst, ◌∙◌, length-drop, arith}
use Rattle.std.specs.List.{All}
use Rattle.std.proofs.lemmas.Bool.{eqb-false}
use Rattle.std.proofs.lemmas.List.Elements.{All-drop}
use Rattle.sql_lex.specs.declared.token.Token.{Token}
use Rattle.sql_lex.specs.Tokens.{IsToken}
use Rattle.sql_parse.specs.Lexemes.{lexemes}
use Rattle.sql_parse.specs.Trees.{statement_tree}
use Rattle.sql_parse.specs.Statements.{statement_of}
use Rattle.sql_parse.proofs.Scripts.{AreReadSoFar, read_so_far-empty, read_so_far-next, first_refused, added, not_added}
use Rattle.sql_parse.proofs.script.read.Goals as goal
use Rattle.sql_parse.proofs.script.read.Goals.{then-end-gt0+in-Ok, else-end-gt0}

pub returns-in-Err-NotAStatement-clause-refused : goal.returns-in-Err-NotAStatement-clause-refused
returns-in-Err-NotAStatement-clause-refused c =
    let script = c.args.text.now in
    let rest = c.loop-rest.rest.now in
    let end = c.piece_end-end.result in
    let trees = map statement_tree c.loop-rest.statements.items in
    let there : 0 < length rest = omega (arith, eqb-false (length rest) 0 (sym c.loop-rest-test.ensures)) in
    let none = not_added trees (statement_of (lexemes script (take end rest))) (rw c.in-Err-NotAStatement.field-0-is at c.in-Err-NotAStatement.ensures) in
    first_refused script c.args.tokens.now rest end trees _ c.if-end-gt0.true there c.piece_end-end.ensures.split none c.loop-rest.invariant.so_far

pub loop-rest-preserved : goal.loop-rest-preserved
loop-rest-preserved c =
    let script = c.args.text.now in
    let tokens = c.args.tokens.now in
    let rest = c.loop-rest.rest.now in
    let end = c.piece_end-end.result in
    let trees = map statement_tree c.loop-rest.statements.items in
    let there : 0 < length rest = omega (arith, eqb-false (length rest) 0 (sym c.loop-rest-test.ensures)) in
    let new = map statement_tree c.if-end-gt0.statements.items in
    let so_far : AreReadSoFar script tokens (drop (end + 1) rest) new =
    elim c.if-end-gt0.branch [
      | then-end-gt0+in-Ok w ↦
          let more = added trees new (statement_of (lexemes script (take end rest)))
          (w.in-Ok.ensures ∙ ap (λ v. Some (map statement_tree v.items)) (sym w.statements-is)) in
          subst (AreReadSoFar script tokens (drop (end + 1) rest)) more.2
          (read_so_far-next script tokens rest end trees more.0 w.if-end-gt0.true there c.piece_end-end.ensures.split more.1 c.loop-rest.invariant.so_far)
      | else-end-gt0 w ↦
          let none : end ≡ 0 = omega arith in
          subst (AreReadSoFar script tokens (drop (end + 1) rest)) (ap (λ v. map statement_tree v.items) (sym w.statements-is))
          (read_so_far-empty script tokens rest end trees none c.piece_end-end.ensures.split c.loop-rest.invariant.so_far)
    ] in
    record {
      each = subst (All (IsToken script)) (sym c.tokens_after-rest.ensures) (All-drop (IsToken script) (end + 1) rest c.loop-rest.invariant.each);
      few = rw c.tokens_after-rest.ensures (omega (arith, c.loop-rest.invariant.few, length-drop (end + 1) rest));
      so_far = subst (λ (all : List Token). AreReadSoFar script tokens all new) (sym c.tokens_after-rest.ensures) so_far;
    }
