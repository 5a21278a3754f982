use Rattle.std.proofs.Common.{ℕ, subst}
use Rattle.std.specs.Prelude.{IfSome, Option}
use Rattle.bouquet_type.specs.Trees.{bouquet_tree}
use Rattle.learned_run.specs.Covering.{IsMemberOf, member_of}
use Rattle.learned_run.proofs.Stepped.{step-there}
use Rattle.learned_run.proofs.frontiers.Frontiers.skip_point.Goals as goal

pub climb_to-requires-clause-there : goal.climb_to-requires-clause-there
climb_to-requires-clause-there c =
    let b = c.args.self.now.bouquet in
    step-there b c.args.step c.in-Some.budget (subst (λ (budget : Option ℕ). IfSome budget (λ budget. IsMemberOf (bouquet_tree b) (member_of c.args.step budget))) c.in-Some.is c.requires.step)

pub probe-requires-clause-there : goal.probe-requires-clause-there
probe-requires-clause-there c =
    let b = c.args.self.now.bouquet in
    step-there b c.args.step c.in-Some.budget (subst (λ (budget : Option ℕ). IfSome budget (λ budget. IsMemberOf (bouquet_tree b) (member_of c.args.step budget))) c.in-Some.is c.requires.step)
