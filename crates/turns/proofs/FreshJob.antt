-- A job before its first turn.
use Rattle.std.proofs.Common.{◌≡◌, ℕ, refl, ap, sym, subst, arith}
use Rattle.query_block.specs.Blocks.{BlockTree, IsPutOf, width_of}
use Rattle.db_catalog.specs.Database.{DatabaseState}
use Rattle.db_catalog.specs.Fits.{Fits}
use Rattle.bouquet_type.specs.Trees.{BouquetTree}
use Rattle.bouquet_type.specs.Schedule.{final_plan}
use Rattle.bouquet_type.specs.Cursor.{ScheduleState, IsWholeSchedule, members_left}
use Rattle.bouquet_type.specs.Runs.{end_of, run_end}
use Rattle.bouquet_run.specs.Outcomes.{works_over}
use Rattle.bouquet_run.specs.Running.{IsUnderWay, RunState}
use Rattle.bouquet_run.proofs.Stepping.{begun}
use Rattle.turns.specs.Jobs.{IsJobOf, fresh_meter, fresh_space, task_at}
use Rattle.turns.specs.declared.progress.Progress.TheVariants.{Running}

pub fresh : (database : DatabaseState) (bouquet : BouquetTree) (schedule : ScheduleState) (block : BlockTree) (most : ℕ) → IsPutOf bouquet.costing.block block → Fits database block → IsWholeSchedule bouquet schedule
    → IsJobOf (task_at database schedule block most) (fresh_meter database) schedule (fresh_space (width_of block)) (Running 0)
fresh database bouquet schedule block most put fits whole =
    let works = works_over database block in
    let bouquet_is : bouquet ≡ schedule.ladder.whole = sym whole.whole in
    let begins : RunState = record { schedule = schedule; meter = fresh_meter database; space = fresh_space (width_of block); runs = 0 } in
    record {
      block = subst (λ (b : BouquetTree). IsPutOf b.costing.block block) bouquet_is put;
      context = record {
        scene = record { fits = fits; closed = ap (λ (b : BlockTree). b.parameters) put.is; width = refl };
        width = refl;
      };
      leaves = record {
        within = omega arith;
        leaves = record { never_falls = omega arith; database = refl; work = record { rows = refl; width = refl; room = omega arith }; width = refl; room = omega arith };
      };
      has_run = subst (λ (b : BouquetTree). IsUnderWay b block most (run_end b works) (fresh_meter database) (fresh_space (width_of block)) (members_left schedule) begins) bouquet_is
          (begun bouquet block most (run_end bouquet works) (fresh_meter database) (fresh_space (width_of block)) (members_left schedule) schedule
          (ap (λ left. end_of works left (final_plan bouquet)) (sym whole.members)) refl refl whole);
    }
