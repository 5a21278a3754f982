use Rattle.std.proofs.Common.{rules}
use Rattle.query_block.specs.Blocks.{block_tree}
use Rattle.audit_run.proofs.Some.{each_listed}
use Rattle.audit_run.proofs.executions.audit_block.Goals as goal

pub audit_plans-requires-clause-plans : goal.audit_plans-requires-clause-plans
audit_plans-requires-clause-plans c = record {
  all = search rules;
  each = each_listed (block_tree c.args.audited.now.block.now) c.as_slice.result.now (search rules);
  few = search rules;
}
