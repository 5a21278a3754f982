-- The space is wide enough, and what is printed is due.
use Rattle.std.proofs.Common.{◌≡◌, ◌∙◌, ℕ, List, true, false, nat_le, refl, sym, ap, subst, if◌then◌else◌, arith, rules}
use Rattle.std.proofs.lemmas.Bool.{le-leb, lt-leb}
use Rattle.query_block.specs.Blocks.{BlockTree, block_tree}
use Rattle.db_catalog.specs.Database.{DatabaseState}
use Rattle.db_catalog.specs.Meter.{MeterState}
use Rattle.bouquet_type.specs.Runs.{RunEnd}
use Rattle.bouquet_type.specs.Reports.{told_end}
use Rattle.bouquet_type.specs.Trees.{BouquetTree, bouquet_tree}
use Rattle.bouquet_type.specs.declared.report.RunFault.{RunFault}
use Rattle.bouquet_type.specs.declared.report.RunFault.TheVariants as runs
use Rattle.bouquet_type.proofs.Wide.{words_some}
use Rattle.bouquet_run.specs.Outcomes.{RefusesRun, works_over}
use Rattle.learned_run.specs.Skips.{learned_end, skips_of}
use Rattle.learned_run.specs.declared.learned.Skip.{Skip}
use Rattle.workspace.specs.Outcome.{Outcome, Prints, Refuses}
use Rattle.workspace.specs.States.{world_of}
use Rattle.workspace.specs.World.{World}
use Rattle.workspace.specs.declared.refusal.Refusal.TheVariants as refusal
use Rattle.workspace.specs.Stop.{StopsAt}
use Rattle.session.specs.Answered.{stop_of_run}
use Rattle.session.specs.Learn.{learned_block_answer}
use Rattle.session.specs.Printed.{learned_text}
use Rattle.session.proofs.learn.learned_answer.Goals as goal

pub new-space-requires : goal.new-space-requires
new-space-requires c = record {
  some_words = omega (arith, c.width.ensures.width, words_some (block_tree c.block-block.result.now) c.relations.ensures.block);
  few_words = search rules;
}

pub returns-in-Ok : goal.returns-in-Ok
returns-in-Ok c =
    let world : World = world_of c.args.workspace.now in
    let is : world.database ≡ c.database-database.result.now = sym c.database-database.ensures in
    let whole = bouquet_tree c.args.used.now.bouquet.now in
    let block = block_tree c.args.used.now.block in
    let learned = c.in-Ok.learned in
    let runs = rw c.block-block.ensures at c.in-Ok.ensures.answers.0 in
    let due : DatabaseState → List Skip → RunEnd → Outcome = λ database skips end.
    if nat_le end.total c.args.max_work then Prints (learned_text database whole block skips end) 0 world else Refuses (refusal.PastWork c.args.max_work false) in
    let seen : world.database ≡ c.new-meter.result.database = is ∙ sym (ap (λ (meter : MeterState). meter.database) c.new-meter.ensures) in
    let end : learned_end whole (works_over world.database block) ≡ told_end learned.report = ap (λ (database : DatabaseState). learned_end whole (works_over database block)) seen ∙ sym runs.end in
    let skips : skips_of whole (works_over world.database block) ≡ learned.skips.items = ap (λ (database : DatabaseState). skips_of whole (works_over database block)) seen ∙ sym runs.skips in
    let within : nat_le learned.report.work c.args.max_work ≡ true = le-leb _ _ runs.fits in
    (λ i. due (is i) (skips i) (end i)) ∙ rw within (ap (λ (text : List ℕ). Prints text 0 world) (sym c.in_ok-print_learned-in-Ok.ensures))

-- a run whose work is past the most is refused
refused : (most : ℕ) (world : World) (whole : BouquetTree) (block : BlockTree) (spent : ℕ) (fault : RunFault) → RefusesRun most (learned_end whole (works_over world.database block)) spent fault
    → StopsAt (learned_block_answer most world whole block) (stop_of_run false fault)
refused most world whole block spent (runs.WorkLimit told) is =
    let past : nat_le (learned_end whole (works_over world.database block)).total most ≡ false = lt-leb _ _ is.0 in
    (rw past (ap (λ n. Refuses (refusal.PastWork n false)) (sym is.1)), refl)
refused most world whole block spent runs.NoMemory is = tt

pub returns : goal.returns
returns c =
    let world : World = world_of c.args.workspace.now in
    let whole = bouquet_tree c.args.used.now.bouquet.now in
    let block = block_tree c.args.used.now.block in
    let fault : RunFault = c.in-Err.fault in
    let seen : c.new-meter.result.database ≡ world.database = ap (λ (meter : MeterState). meter.database) c.new-meter.ensures ∙ c.database-database.ensures in
    let refuses = subst (λ (database : DatabaseState). RefusesRun c.args.max_work (learned_end whole (works_over database block)) c.learn.new.meter.account.spent fault) seen (rw c.block-block.ensures at c.in-Err.ensures.answers.0) in
    rw c.stop_of_run.ensures (refused c.args.max_work world whole block _ fault refuses)
