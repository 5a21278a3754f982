-- What is due to SELECT, by the block of its query, and how the compiled bouquet of a block without parameters answers.
use Rattle.std.proofs.Common.{◌≡◌, ℕ, [], Some, None, refl, ap}
use Rattle.std.specs.Prelude.{All, Ok}
use Rattle.sql_values.specs.Limits.{default_threshold}
use Rattle.query_block.specs.Blocks.{BlockTree, IsBlock, IsPutOf, put_of}
use Rattle.query_block.specs.Values.{FitValues, value_fault}
use Rattle.query_block.specs.declared.values.ValueFault.{ValueFault}
use Rattle.query_block.proofs.PutIn.{no-parameters, own-put, put-none}
use Rattle.sql_parse.specs.Trees.{QueryTree}
use Rattle.plan_tree.specs.Enumerated.{IsPlan}
use Rattle.db_catalog.specs.Database.{DatabaseState}
use Rattle.bouquet_type.specs.Trees.{BouquetTree}
use Rattle.bouquet_type.specs.Compiled.{compiled}
use Rattle.bouquet_type.specs.Sound.{IsSound}
use Rattle.bouquet_type.proofs.Bound.{bound}
use Rattle.bouquet_run.specs.Outcomes.{works_over}
use Rattle.workspace.specs.Bouquets.{block_due, costing_over, size_refusal}
use Rattle.workspace.specs.Counted.{HasCountsOf}
use Rattle.workspace.specs.Outcome.{Refuses}
use Rattle.workspace.specs.World.{World}
use Rattle.workspace.specs.declared.refusal.Refusal.{Refusal}
use Rattle.workspace.specs.declared.refusal.Refusal.TheVariants as refusal
use Rattle.session.specs.Answered.{block_answer}
use Rattle.session.specs.Bounds.{RunsWithinBound}
use Rattle.session.specs.Select.{select_outcome}

module _ (max_work : ℕ) (world : World) (query : QueryTree) (block : BlockTree) (has : block_due world.database query ≡ Ok block) where
  -- it has a parameter
  pub misfit_due : (fault : ValueFault) → value_fault block.parameters [] ≡ Some fault → select_outcome max_work world query ≡ Refuses (refusal.NotFitting fault)
  misfit_due fault is = rw (has, is) refl

  -- it has none, and its size is refused or not
  module _ (fit : value_fault block.parameters [] ≡ None) where
    pub size_due : (found : Refusal) → size_refusal world.database block None ≡ Some found → select_outcome max_work world query ≡ Refuses found
    size_due found is = rw (has, fit, is) refl

    abbrev made : BouquetTree
    made = compiled (costing_over world.database block None) default_threshold

    pub fitting_due : size_refusal world.database block None ≡ None → select_outcome max_work world query ≡ block_answer max_work world made (put_of [] made.costing.block)
    fitting_due small = rw (has, fit, small) refl

module _ (database : DatabaseState) (block : BlockTree) (is : IsBlock block) (fit : FitValues block.parameters []) where
  abbrev pub tree : BouquetTree
  tree = compiled (costing_over database block None) default_threshold

  -- the bouquet's block is the block itself
  pub own : IsPutOf tree.costing.block block
  unfolding compiled
  own = own-put block is (no-parameters block.parameters fit)

  stays : put_of [] tree.costing.block ≡ block
  unfolding compiled
  stays = put-none block is (no-parameters block.parameters fit)

  pub on_block : (max_work : ℕ) (world : World) → block_answer max_work world tree (put_of [] tree.costing.block) ≡ block_answer max_work world tree block
  on_block max_work world = ap (block_answer max_work world tree) stays

  counts : HasCountsOf database.tables tree
  unfolding compiled
  counts = refl

  pub within : All (λ contour. All (IsPlan tree.costing.block) contour.plans) tree.contours → IsSound tree → RunsWithinBound database [] tree
  within plans sound = record {
    counts = counts;
    bound = bound tree (works_over database (put_of [] tree.costing.block)) plans;
    sound = λ _. sound;
  }
