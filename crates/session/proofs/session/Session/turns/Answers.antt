-- There are too many, or one isn't present, or a number is none of theirs, or the answer is due.
use Rattle.std.proofs.Common.{◌≡◌, ◌∙◌, ◌≤◌, ℕ, nat_lt, Bool, true, false, if◌then◌else◌, List, Some, None, length, map, ap, refl, subst, sym, arith}
use Rattle.std.specs.Prelude.{Ok, Err}
use Rattle.std.proofs.lemmas.Bool.{ltb-false}
use Rattle.std.proofs.lemmas.Option.{none-some}
use Rattle.std.proofs.lemmas.Result.{err_from_is_err_and}
use Rattle.sql_parse.specs.declared.tree.RunDef.{RunDef}
use Rattle.turns.specs.Standing.{JobTask}
use Rattle.workspace.specs.Outcome.{Refuses}
use Rattle.workspace.specs.States.{world_of}
use Rattle.workspace.specs.Returns.{ReturnsFree}
use Rattle.workspace.specs.World.{World}
use Rattle.workspace.specs.declared.refusal.Refusal.TheVariants as refusal
use Rattle.sql_values.specs.Limits.{max_jobs}
use Rattle.workspace.proofs.Stopping.{stops_so}
use Rattle.session.specs.Turns.{tasks_due, jobs_refusal, turn_refusal, turns_answer, turns_outcome}
use Rattle.session.specs.Uses.{task_of_use}
use Rattle.session.specs.declared.uses.Used.{Used}
use Rattle.session.proofs.session.Session.turns.Goals as goal

-- so few jobs aren't refused
few_jobs : (count : ℕ) → jobs_refusal count ≡ None → count ≤ max_jobs
few_jobs count none = by (nat_lt max_jobs count) refl none
  where
    by : (b : Bool) → nat_lt max_jobs count ≡ b → (if b then Some (refusal.TooManyJobs count) else None) ≡ None → count ≤ max_jobs
    by false is none = ltb-false max_jobs count is
    by true is none = absurd (none-some (refusal.TooManyJobs count) (sym none))

pub returns-in_err-all-clause-due : goal.returns-in_err-all-clause-due
returns-in_err-all-clause-due c =
    let max_work = c.args.max_work in
    let world : World = world_of c.args.self.now in
    let turns = c.args.turns.now in
    let none : jobs_refusal (length turns.uses) ≡ None =
    ap (λ (runs : List RunDef). jobs_refusal (length runs)) (sym c.as_slice-runs.ensures) ∙ c.in_ok-check_jobs.ensures.answered in
    let stop = err_from_is_err_and c.from_residual-in_err-all.result c.from_residual-in_err-all.ensures.1 in
    rw (stop.1, stop.2) (stops_so (λ found. tasks_due max_work world c.as_slice-runs.result.now ≡ Err found) (λ found. turns_outcome max_work world turns ≡ Refuses found)
    (λ found is. rw (none, ap (tasks_due max_work world) (sym c.as_slice-runs.ensures) ∙ is) refl) _ (c.in_err-all.ensures.due max_work))

pub turns_answer-requires-clause-few : goal.turns_answer-requires-clause-few
turns_answer-requires-clause-few c =
    let few = few_jobs (length c.as_slice-runs.result.now) c.in_ok-check_jobs.ensures.answered in
    omega (arith, few, c.in_ok-all.ensures.used.count, ap (λ (all : List Used). length all) c.deref.ensures.value)

pub turns_answer-requires-clause-right : goal.turns_answer-requires-clause-right
turns_answer-requires-clause-right c =
    let count : length c.deref.result.now ≡ length c.as_slice-runs.result.now = ap (λ (all : List Used). length all) c.deref.ensures.value ∙ c.in_ok-all.ensures.used.count in
    ap (λ count. turn_refusal count c.as_slice-by.result.now) count ∙ c.in_ok-check_turns.ensures.answered

pub returns-clause-due : goal.returns-clause-due
returns-clause-due c =
    let max_work = c.args.max_work in
    let world : World = world_of c.args.self.now in
    let turns = c.args.turns.now in
    let all : List Used = c.in_ok-all.all.items in
    let ask : Used → JobTask = task_of_use max_work world.database in
    let count = length turns.uses in
    let few : jobs_refusal count ≡ None =
    ap (λ (runs : List RunDef). jobs_refusal (length runs)) (sym c.as_slice-runs.ensures) ∙ c.in_ok-check_jobs.ensures.answered in
    let right : turn_refusal count turns.by ≡ None =
    (λ i. turn_refusal (length (sym c.as_slice-runs.ensures i)) (sym c.as_slice-by.ensures i)) ∙ c.in_ok-check_turns.ensures.answered in
    let asked : tasks_due max_work world turns.uses ≡ Ok (map ask all) = ap (tasks_due max_work world) (sym c.as_slice-runs.ensures) ∙ c.in_ok-all.ensures.due max_work in
    let due : turns_outcome max_work world turns ≡ turns_answer max_work world turns.by (map ask all) = rw (few, asked, right) refl in
    let same : turns_answer max_work world c.as_slice-by.result.now (map ask c.deref.result.now) ≡ turns_outcome max_work world turns =
    (λ i. turns_answer max_work world (c.as_slice-by.ensures i) (map ask (c.deref.ensures.value i))) ∙ sym due in
    subst (λ due. ReturnsFree due c.turns_answer.result world) same (rw c.self.view_is at c.turns_answer.ensures)
