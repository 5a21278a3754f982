-- Jobs that don't run stay as they are.
use Rattle.std.proofs.Common.{◌≡◌, ◌∙◌, ℕ, zero, suc, false, List, [], ◌∷◌, get_or, set, ap, subst, sym}
use Rattle.std.specs.Prelude.{Some, unwrap_or}
use Rattle.turns.specs.Jobs.{JobShape, job_tree}
use Rattle.turns.specs.Taking.{IdleStay, is_running}

abbrev pub IsIdle : JobShape → Type 0
IsIdle job = is_running (job_tree job).standing ≡ false

pub idle-same : (jobs : List JobShape) → IdleStay jobs jobs
idle-same jobs = λ number job there idle. there

pub idle-on : (old at new : List JobShape) → IdleStay old at → IdleStay at new → IdleStay old new
idle-on old at new first more = λ number job there idle. more number job (first number job there idle) idle

-- where one job is changed that isn't unless it runs
pub idle-set : (jobs : List JobShape) (place : ℕ) (one other : JobShape) → (IsIdle (get_or jobs place other) → one ≡ get_or jobs place other)
    → IdleStay jobs (set jobs place one)
idle-set [] place one other stays = λ number job there idle. there
idle-set (first ∷ more) zero one other stays = at-first
  where
    at-first : IdleStay (first ∷ more) (one ∷ more)
    at-first zero job there idle =
        let is : first ≡ job = ap (λ found. unwrap_or found first) there in
        ap (λ (job : JobShape). Some job) (stays (subst IsIdle (sym is) idle) ∙ is)
    at-first (suc number) job there idle = there
idle-set (first ∷ more) (suc place) one other stays = further (idle-set more place one other stays)
  where
    further : IdleStay more (set more place one) → IdleStay (first ∷ more) (first ∷ set more place one)
    further others zero job there idle = there
    further others (suc number) job there idle = others number job there idle
