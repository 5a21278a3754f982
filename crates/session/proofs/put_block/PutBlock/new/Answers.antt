-- Without values the block stays as it is, since it has no parameters.
use Rattle.std.proofs.Common.{◌≡◌, ◌∙◌, List, [], subst, sym}
use Rattle.std.proofs.lemmas.Bool.{eqb-true}
use Rattle.std.proofs.lemmas.List.{nil_from_length}
use Rattle.sql_values.specs.declared.value.Value.{Value}
use Rattle.query_block.specs.Blocks.{block_tree, put_of}
use Rattle.query_block.specs.Values.{FitValues}
use Rattle.query_block.proofs.PutIn.{no-parameters, put-none}
use Rattle.session.proofs.put_block.PutBlock.new.Goals as goal

pub returns-then-is_empty : goal.returns-then-is_empty
returns-then-is_empty c =
    let block = block_tree c.args.own.now in
    let none : c.args.values.now ≡ [] = nil_from_length c.args.values.now (eqb-true _ _ (sym c.is_empty.ensures ∙ c.if-is_empty.true)) in
    sym (subst (λ (values : List Value). put_of values block ≡ block) (sym none)
    (put-none block c.relations.ensures.block (no-parameters block.parameters (subst (FitValues block.parameters) none c.requires))))
