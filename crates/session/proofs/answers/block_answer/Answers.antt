-- The space is wide enough, and what is printed is due.
use Rattle.std.proofs.Common.{◌≡◌, ◌∙◌, ℕ, ◌+◌, List, true, false, nat_le, sym, ap, subst, if◌then◌else◌, arith, rules}
use Rattle.std.proofs.lemmas.Bool.{le-leb, lt-leb}
use Rattle.std.specs.Prelude.{Err}
use Rattle.query_block.specs.Blocks.{BlockTree, block_tree}
use Rattle.db_catalog.specs.Database.{DatabaseState}
use Rattle.db_catalog.specs.Meter.{MeterState}
use Rattle.bouquet_type.specs.Runs.{RunEnd, run_end}
use Rattle.bouquet_type.specs.Reports.{told_end}
use Rattle.bouquet_type.proofs.Wide.{words_some}
use Rattle.bouquet_type.specs.Trees.{BouquetTree}
use Rattle.bouquet_type.specs.declared.report.RunFault.{RunFault}
use Rattle.bouquet_type.specs.declared.report.RunFault.TheVariants as runs
use Rattle.bouquet_run.specs.Outcomes.{RefusesRun, works_over}
use Rattle.workspace.specs.Outcome.{Outcome, Prints, Refuses}
use Rattle.workspace.specs.States.{world_of}
use Rattle.workspace.specs.World.{World}
use Rattle.workspace.specs.declared.refusal.Refusal.TheVariants as refusal
use Rattle.session.specs.Answered.{block_answer, stop_of_run}
use Rattle.session.specs.Returns.{ReturnsDue}
use Rattle.session.specs.Printed.{answer_text}
use Rattle.session.proofs.answers.block_answer.Goals as goal

pub new-space-requires : goal.new-space-requires
new-space-requires g c = record {
  some_words = omega (arith, c.width.ensures.width, words_some (block_tree c.args.block.now) c.relations.ensures.block);
  few_words = search rules;
}

pub returns-in-Ok-clause-due : goal.returns-in-Ok-clause-due
returns-in-Ok-clause-due g c =
    let world : World = world_of c.args.workspace.now in
    let is : world.database ≡ c.database-database.result.now = sym c.database-database.ensures in
    let whole = (g.L.Ladder.state c.args.ladder).whole in
    let block = block_tree c.args.block.now in
    let report = c.in-Ok.report in
    let runs = c.in-Ok.ensures.answers.0 in
    let due : DatabaseState → RunEnd → Outcome = λ database end.
    if nat_le end.total c.args.max_work then Prints (answer_text database block end) end.total world else Refuses (refusal.PastWork c.args.max_work true) in
    let seen : world.database ≡ c.new-meter.result.database = is ∙ sym (ap (λ (meter : MeterState). meter.database) c.new-meter.ensures) in
    let end : run_end whole (works_over world.database block) ≡ told_end report = ap (λ (database : DatabaseState). run_end whole (works_over database block)) seen ∙ sym runs.end in
    let within : nat_le report.work c.args.max_work ≡ true = le-leb _ _ runs.fits in (
      report.work,
      (λ i. due (is i) (end i)) ∙ rw within (ap (λ (text : List ℕ). Prints text report.work world) (sym c.in_ok-print_answer-in-Ok.ensures)),
      c.in-Ok.ensures.book ∙ ap (λ n. c.args.book.now + n) runs.paid,
    )

-- a run whose work is past the most is refused, when so much is paid
refused : (most : ℕ) (world : World) (whole : BouquetTree) (block : BlockTree) (old new spent : ℕ) (fault : RunFault) → RefusesRun most (run_end whole (works_over world.database block)) spent fault → new ≡ old + spent
    → ReturnsDue (block_answer most world whole block) (Err (stop_of_run true fault)) world old new
refused most world whole block old new spent (runs.WorkLimit told) is paid =
    let past : nat_le (run_end whole (works_over world.database block)).total most ≡ false = lt-leb _ _ is.0 in
    (rw past (ap (λ n. Refuses (refusal.PastWork n true)) (sym is.1)), paid ∙ ap (λ n. old + n) (is.2 ∙ sym is.1))
refused most world whole block old new spent runs.NoMemory is paid = tt

pub returns-clause-due : goal.returns-clause-due
returns-clause-due g c =
    let world : World = world_of c.args.workspace.now in
    let whole = (g.L.Ladder.state c.args.ladder).whole in
    let block = block_tree c.args.block.now in
    let fault : RunFault = c.in-Err.fault in
    let seen : c.new-meter.result.database ≡ world.database = ap (λ (meter : MeterState). meter.database) c.new-meter.ensures ∙ c.database-database.ensures in
    let refuses = subst (λ (database : DatabaseState). RefusesRun c.args.max_work (run_end whole (works_over database block)) c.run_ladder.new.meter.account.spent fault) seen c.in-Err.ensures.answers.0 in
    rw c.stop_of_run.ensures (refused c.args.max_work world whole block c.args.book.now _ _ fault refuses c.in-Err.ensures.book)
