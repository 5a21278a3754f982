use Rattle.std.proofs.Common.{length, map, ◌<◌, ◌^◌}
use Rattle.std.specs.List.{All}
use Rattle.sql_lex.specs.Tokens.{IsToken}
use Rattle.sql_parse.specs.Trees.{statement_tree}
use Rattle.sql_parse.proofs.Scripts.{AreReadSoFar}
use Rattle.sql_parse.proofs.script.read.Given as goal

abbrev pub invariant-loop-rest : goal.invariant-loop-rest
invariant-loop-rest l = record {
  each : All (IsToken l.text) l.rest;
  few : length l.rest < 2 ^ 32;
  so_far : AreReadSoFar l.text l.tokens l.rest (map statement_tree l.statements.items);
}

abbrev pub decreases-loop-rest : goal.decreases-loop-rest
decreases-loop-rest l = length l.rest
