-- One job more is that of the next bouquet.
use Rattle.std.proofs.Common.{◌≡◌, ◌∙◌, ℕ, ◌+◌, ◌++◌, List, [], ◌∷◌, map, take, sym, ap}
use Rattle.std.proofs.lemmas.List.{map-append, take_more}
use Rattle.turns.specs.Jobs.{JobShape, JobTree, job_tree, task_of}
use Rattle.turns.specs.Standing.{JobTask, fresh_job}
use Rattle.session.specs.Turns.{fresh_jobs}
use Rattle.session.specs.Uses.{task_of_use}
use Rattle.session.specs.declared.uses.Used.{Used}
use Rattle.session.proofs.by_turns.jobs_of.Goals as goal

pub loop-used-preserved : goal.loop-used-preserved
loop-used-preserved c =
    let all : List Used = c.args.asked.now.all.now in
    let place : ℕ = c.loop-used.used-index in
    let used : Used = c.used-item.result in
    let job : JobShape = c.new.result in
    let ask : Used → JobTask = task_of_use c.args.asked.now.max_work c.args.asked.now.database.now in
    let begin : JobTask → JobTree = λ task. record { task = task; standing = fresh_job task } in
    let task : task_of job ≡ ask used = rw c.block.ensures at c.new.ensures.task in
    let fresh : job_tree job ≡ begin (ask used) =
    λ i. record { task = task i; standing = (c.new.ensures.fresh ∙ ap fresh_job task) i } in
    let taken : take (place + 1) all ≡ take place all ++ used ∷ [] =
    take_more all place used c.loop-used-test.true ∙ ap (λ u. take place all ++ u ∷ []) (sym c.used-item.is) in
    ap (map job_tree) c.in_ok-push.ensures.items ∙ map-append job_tree c.loop-used.jobs.items (job ∷ [])
    ∙ (λ i. c.loop-used.invariant i ++ fresh i ∷ [])
    ∙ sym (ap (λ l. fresh_jobs (map ask l)) taken ∙ ap fresh_jobs (map-append ask (take place all) (used ∷ [])) ∙ map-append begin (map ask (take place all)) (ask used ∷ []))
