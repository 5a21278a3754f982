-- A run that skips executions by a rule.
use Rattle.std.specs.Prelude.{◌<◌, ◌++◌, Bool, List, [], ◌∷◌, All, ℕ, if◌then◌else◌}
use Rattle.query_block.specs.Blocks.{BlockTree}
use Rattle.plan_tree.specs.Plans.{PlanTree}
use Rattle.plan_tree.specs.Enumerated.{IsPlan}
use Rattle.bouquet_type.specs.Schedule.{Member}

-- those of some executions that a rule doesn't skip, where these were exhausted before
abbrev pub without_skipped : (skip : List Member → Member → Bool) → (before : List Member) → List Member → List Member
without_skipped skip before [] = []
without_skipped skip before (member ∷ more) =
    if skip before member then without_skipped skip before more
    else member ∷ without_skipped skip (before ++ member ∷ []) more

-- executions of plans of a block, each of which was exhausted
abbrev pub AreExhausted : BlockTree → (work : PlanTree → ℕ) → List Member → Type 0
AreExhausted block work before = All (λ member. IsPlan block member.plan × (member.budget < work member.plan)) before
