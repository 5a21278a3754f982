-- One use more is looked up, or refuses all.
use Rattle.std.proofs.Common.{◌≡◌, ◌∙◌, ℕ, ◌+◌, ◌<◌, ◌≤◌, ◌++◌, List, [], ◌∷◌, drop, length, map, take, ap, subst, sym, refl, append_assoc, append-nil, length-append, arith}
use Rattle.std.specs.Prelude.{All, Ok, Err}
use Rattle.std.proofs.lemmas.List.{drop_all, drop_more, map-append, take_all, take_more}
use Rattle.std.proofs.lemmas.List.Elements.{All-nil, All-cons, All-append}
use Rattle.std.proofs.lemmas.Result.{err_from_is_err_and}
use Rattle.query_block.specs.Blocks.{block_tree}
use Rattle.sql_parse.specs.declared.tree.RunDef.{RunDef}
use Rattle.bouquet_type.specs.Trees.{bouquet_tree}
use Rattle.turns.specs.Standing.{JobTask}
use Rattle.workspace.specs.States.{world_of}
use Rattle.workspace.specs.World.{World}
use Rattle.workspace.specs.declared.refusal.Refusal.{Refusal}
use Rattle.workspace.proofs.Stopping.{stops_so}
use Rattle.session.specs.Answered.{used_due}
use Rattle.session.specs.Bounds.{IsUsedWithin}
use Rattle.session.specs.Turns.{tasks_due}
use Rattle.session.specs.Uses.{IsExecutable, task_of_use}
use Rattle.session.specs.declared.uses.Used.{Used}
use Rattle.session.proofs.session.Session.all_used.Goals as goal

-- those that were looked up, one more, and the others
one_more : (ask : Used → JobTask) (all new : List Used) (used : Used) (tasks : List JobTask) → new ≡ all ++ used ∷ [] → map ask all ++ ask used ∷ tasks ≡ map ask new ++ tasks
one_more ask all new used tasks is =
    sym (ap (λ l. map ask l ++ tasks) is ∙ ap (λ l. l ++ tasks) (map-append ask all (used ∷ [])) ∙ append_assoc (map ask all) (ask used ∷ []) tasks)

module _ (max_work : ℕ) (world : World) (run : RunDef) (more : List RunDef) where
  -- the first can't be used
  unused : (why : Refusal) → used_due world run.name run.values ≡ Err why → tasks_due max_work world (run ∷ more) ≡ Err why
  unused why is = rw is refl

  -- it can, and the others can, or not
  module _ (used : Used) (is : used_due world run.name run.values ≡ Ok (bouquet_tree used.bouquet.now, block_tree used.block)) where
    tasked : (tasks : List JobTask) → tasks_due max_work world more ≡ Ok tasks → tasks_due max_work world (run ∷ more) ≡ Ok (task_of_use max_work world.database used ∷ tasks)
    tasked tasks due = rw (is, due) refl

    refused : (why : Refusal) → tasks_due max_work world more ≡ Err why → tasks_due max_work world (run ∷ more) ≡ Err why
    refused why due = rw (is, due) refl

pub returns-in_err-used-clause-due : goal.returns-in_err-used-clause-due
returns-in_err-used-clause-due c =
    let world : World = world_of c.args.self.now in
    let runs : List RunDef = c.args.runs.now in
    let place : ℕ = c.loop-run.run-index in
    let run : RunDef = c.run-item.result in
    let left : drop place runs ≡ run ∷ drop (place + 1) runs =
    drop_more runs place run c.loop-run-test.true ∙ ap (λ one. one ∷ drop (place + 1) runs) (sym c.run-item.is) in
    let stop = err_from_is_err_and c.from_residual.result c.from_residual.ensures.1 in
    rw (stop.1, stop.2) (λ max_work. stops_so (λ found. used_due world run.name run.values ≡ Err found) (λ found. tasks_due max_work world runs ≡ Err found)
    (λ found is. c.loop-run.invariant.refused max_work found (ap (tasks_due max_work world) left ∙ unused max_work world run (drop (place + 1) runs) found is)) _ c.in_err-used.ensures.due)

pub loop-run-preserved : goal.loop-run-preserved
loop-run-preserved c =
    let world : World = world_of c.args.self.now in
    let runs : List RunDef = c.args.runs.now in
    let place : ℕ = c.loop-run.run-index in
    let run : RunDef = c.run-item.result in
    let more : List RunDef = drop (place + 1) runs in
    let there : place < length runs = c.loop-run-test.true in
    let all : List Used = c.loop-run.all.items in
    let new : List Used = c.push_used.new.all.items in
    let used : Used = c.in_ok-used.used in
    let is = c.in_ok-used.ensures.used in
    let found = c.in_ok-used.ensures.due in
    let pushed : new ≡ all ++ used ∷ [] = c.in_ok-push_used.ensures in
    let left : drop place runs ≡ run ∷ more =
    drop_more runs place run there ∙ ap (λ one. one ∷ more) (sym c.run-item.is) in
    let taken : take (place + 1) runs ≡ take place runs ++ run ∷ [] =
    take_more runs place run there ∙ ap (λ one. take place runs ++ one ∷ []) (sym c.run-item.is) in
    record {
      due = λ max_work tasks due.
          c.loop-run.invariant.due max_work _ (ap (tasks_due max_work world) left ∙ tasked max_work world run more used found tasks due)
          ∙ ap Ok (one_more (task_of_use max_work world.database) all new used tasks pushed);
      refused = λ max_work why due. c.loop-run.invariant.refused max_work why (ap (tasks_due max_work world) left ∙ refused max_work world run more used found why due);
      count = omega (arith, ap (λ (l : List Used). length l) pushed, length-append all (used ∷ []), c.loop-run.invariant.count);
      usable = subst (All (IsExecutable world.database)) (sym pushed)
          (All-append (IsExecutable world.database) all (used ∷ []) c.loop-run.invariant.usable (All-cons (IsExecutable world.database) used [] is.usable (All-nil (IsExecutable world.database))));
      within = subst (All (IsUsedWithin world)) (sym taken)
          (All-append (IsUsedWithin world) (take place runs) (run ∷ []) c.loop-run.invariant.within (All-cons (IsUsedWithin world) run [] is.within (All-nil (IsUsedWithin world))));
    }

pub returns-clause-due : goal.returns-clause-due
returns-clause-due c = λ max_work.
    let world : World = world_of c.args.self.now in
    c.loop-run.invariant.due max_work [] (ap (tasks_due max_work world) (drop_all c.loop-run.run-index c.args.runs.now c.loop-run-test.false))
    ∙ ap Ok (append-nil (map (task_of_use max_work world.database) c.loop-run.all.items))

pub returns-clause-used : goal.returns-clause-used
returns-clause-used c =
    let world : World = world_of c.args.self.now in
    let runs : List RunDef = c.args.runs.now in
    let place : ℕ = c.loop-run.run-index in
    let ended : length runs ≤ place = c.loop-run-test.false in
    record {
      count = c.loop-run.invariant.count ∙ omega (arith, ended, c.loop-run.auto.run-index-end);
      usable = c.loop-run.invariant.usable;
      within = subst (All (IsUsedWithin world)) (take_all place runs ended) c.loop-run.invariant.within;
    }
