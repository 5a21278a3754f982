-- What is told of a plan that is done.
use Rattle.std.proofs.Common.{◌≡◌, ◌∙◌, ℕ, ℤ, ◌+◌, min, List, length, map, true, nat_le, sym, ap, subst}
use Rattle.std.specs.Prelude.{Option, None, Some, Ok}
use Rattle.std.proofs.lemmas.Bool.{le-leb, le-ltb}
use Rattle.std.proofs.lemmas.List.{length-map}
use Rattle.std.proofs.lemmas.List.Sorted.{length_permutation}
use Rattle.work_ledger.specs.Account.{Account}
use Rattle.row_stack.specs.declared.space.Space.{Space}
use Rattle.query_block.specs.Blocks.{BlockTree}
use Rattle.query_block.specs.Combined.{combination_of}
use Rattle.query_block.specs.Meaning.{every_relation, meaning_of, projected, rows_of}
use Rattle.plan_tree.specs.Plans.{PlanTree}
use Rattle.db_catalog.specs.Database.{DatabaseState}
use Rattle.exec_pipe.specs.Executions.{AreRowsOf}
use Rattle.exec_pipe.specs.Runs.{RunsWithin}
use Rattle.exec_pipe.specs.declared.budgeted.Outcome.TheVariants.{Done}
use Rattle.bouquet_type.specs.declared.report.Report.{Report}
use Rattle.bouquet_type.specs.Runs.{RunEnd}
use Rattle.bouquet_run.specs.Coming.{Ends, TellsEnd, TellsStep, coming}

-- a block means as many rows as were found
meaning_count : (database : DatabaseState) (block : BlockTree) (words : List (List ℤ)) → AreRowsOf database block words
    → length (meaning_of database.tables block) ≡ length words
meaning_count database block words are =
    let found = rows_of database.tables block every_relation in
    let combine = combination_of database.texts block.relations in
    length-map found (projected block.projection) ∙ length_permutation (map combine words) found are.values ∙ length-map words combine

-- a run that ends with this plan, when so much is spent
abbrev ended : PlanTree → (contour runs spent : ℕ) → RunEnd
ended plan contour runs spent = record { plan = plan; total = spent; runs = runs; contour = contour }

module _ (database : DatabaseState) (block : BlockTree) (plan : PlanTree) (contour runs work most : ℕ) (old new : Account) (results : List (List ℤ)) where
  -- a plan that is done within what is left ends the run, and its work was paid
  comes : (budget : Option ℕ) → RunsWithin database block work budget most old new results Done
      → (coming most old.spent runs work (record { plan = plan; budget = budget; contour = contour }) ≡ Ends (ended plan contour runs new.spent)) × AreRowsOf database block results
  comes None runs_so =
      rw (le-ltb most (old.spent + work) runs_so.0) (ap (λ spent. Ends (ended plan contour runs spent)) (sym runs_so.2), runs_so.3)
  comes (Some budget) runs_so =
      let fits : nat_le work budget ≡ true = le-leb work budget runs_so.1.0 in
      rw (le-ltb most (old.spent + min work budget) runs_so.0) rw fits (ap (λ spent. Ends (ended plan contour runs spent)) (sym runs_so.1.1), runs_so.1.2)

  -- and a report that tells this end tells what comes
  pub told : (budget : Option ℕ) (before after : Space) (report : Report) → RunsWithin database block work budget most old new results Done → before.result.rows ≡ results
      → TellsEnd (ended plan contour runs new.spent) before after (Ok report)
      → TellsStep database block most (coming most old.spent runs work (record { plan = plan; budget = budget; contour = contour })) new.spent after.result.rows (Ok (Some report))
  told budget before after report runs_so same tells =
      let came = comes budget runs_so in (
        came.0 ∙ ap Ends (sym tells.0),
        sym (ap (λ (end : RunEnd). end.total) tells.0),
        tells.1 ∙ ap length same ∙ sym (meaning_count database block results came.1),
        subst (AreRowsOf database block) (sym (tells.2 ∙ same)) came.1,
      )
