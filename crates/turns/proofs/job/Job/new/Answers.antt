use Rattle.std.proofs.Common.{rules, ◌≡◌, ◌∙◌, ap, subst, sym, arith}
use Rattle.row_stack.specs.declared.space.Space.{Space}
use Rattle.row_stack.specs.Stack.{new_stack}
use Rattle.query_block.specs.Blocks.{block_tree, width_of}
use Rattle.db_catalog.specs.Meter.{MeterState}
use Rattle.bouquet_type.specs.Trees.{BouquetTree, bouquet_tree}
use Rattle.bouquet_type.specs.Cursor.{IsWholeSchedule, schedule_of}
use Rattle.bouquet_type.specs.Kept.{ladder_of}
use Rattle.bouquet_type.proofs.Wide.{words_some}
use Rattle.known_rows.proofs.Laws.{nothing-known}
use Rattle.turns.specs.Jobs.{IsJobOf, fresh_space, task_at}
use Rattle.turns.specs.declared.progress.Progress.TheVariants.{Running}
use Rattle.turns.proofs.FreshJob.{fresh}
use Rattle.turns.proofs.job.Job.new.Goals as goal

pub new-requires-4 : goal.new-requires-4
new-requires-4 c = record {
  some_words = omega (arith, c.width.ensures.width, words_some (block_tree c.args.block.now) c.relations.ensures.block);
  few_words = search rules;
}

pub invariant_of-result : goal.invariant_of-result
invariant_of-result c =
    let block = block_tree c.args.block.now in
    let most = c.args.max_work in
    let schedule = schedule_of ladder_of c.new-2.result in
    let whole = subst (λ (bouquet : BouquetTree). IsWholeSchedule bouquet schedule) c.new.ensures.whole c.new-2.ensures in
    let width = c.width.ensures.width in
    let space : c.new-4.result ≡ fresh_space (width_of block) =
    λ i. record { work = (c.new-4.ensures.work ∙ ap new_stack width) i; result = (c.new-4.ensures.result ∙ ap new_stack width) i } in
    let is = fresh c.args.db.now (bouquet_tree c.args.b.now) schedule block most c.requires.block c.requires.fits whole in (
      subst (λ (meter : MeterState). IsJobOf (task_at meter.database schedule block most) meter schedule c.new-4.result (Running 0)) (sym c.new-3.ensures)
          (subst (λ (one : Space). IsJobOf (task_at c.args.db.now schedule block most) (record { database = c.args.db.now; account = record { spent = 0; limit = 0 } }) schedule one (Running 0)) (sym space) is),
      rw c.new-5.ensures (nothing-known c.new-3.result.database.tables block),
    )
