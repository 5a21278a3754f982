use Rattle.std.proofs.Common.{◌≡◌, ◌++◌, List, drop, length, map, take}
use Rattle.std.specs.Prelude.{All, ℕ, Ok, Err}
use Rattle.turns.specs.Standing.{JobTask}
use Rattle.workspace.specs.States.{world_of}
use Rattle.workspace.specs.declared.refusal.Refusal.{Refusal}
use Rattle.session.specs.Turns.{tasks_due}
use Rattle.session.specs.Uses.{IsExecutable, task_of_use}
use Rattle.session.specs.Bounds.{IsUsedWithin}
use Rattle.session.proofs.session.Session.all_used.Given as goal

abbrev pub invariant-loop-run : goal.invariant-loop-run
invariant-loop-run l =
    let world = world_of l.self in
    record {
      due : (max_work : ℕ) (tasks : List JobTask) → tasks_due max_work world (drop l.run-index l.runs) ≡ Ok tasks → tasks_due max_work world l.runs ≡ Ok (map (task_of_use max_work world.database) l.all.items ++ tasks);
      refused : (max_work : ℕ) (why : Refusal) → tasks_due max_work world (drop l.run-index l.runs) ≡ Err why → tasks_due max_work world l.runs ≡ Err why;
      count : length l.all.items ≡ l.run-index;
      usable : All (IsExecutable world.database) l.all.items;
      within : All (IsUsedWithin world) (take l.run-index l.runs);
    }
