use Rattle.std.proofs.Common.{◌≡◌, sym, subst, arith}
use Rattle.std.proofs.lemmas.Grind.{common_steps}
use Rattle.std.proofs.lemmas.Simd.{map-map}
use Rattle.query_block.specs.Shape.{BlockShape}
use Rattle.query_block.specs.Blocks.{block_tree, IsBlock, put_of}
use Rattle.query_block.proofs.PutIn.{put-block}
use Rattle.query_block.proofs.block.Block.put.Goals as goal
use Rattle.query_block.proofs.block.Block.put.Goals.{After-new}

put-is : (c : After-new)
    → block_tree (record { relations = c.in_ok-relations.relations.items; edges = c.in_ok-edges.edges.items; projection = c.in_ok-projection.projection.items; parameters = c.new.result.items })
    ≡ put_of c.args.values.now (block_tree c.args.self.now)
put-is c = grind (arith, common_steps, map-map)

pub invariant_of-result : goal.invariant_of-result
invariant_of-result c =
    subst IsBlock (sym (put-is c)) (put-block c.args.values.now (block_tree c.args.self.now) (subst (λ (shape : BlockShape). IsBlock (block_tree shape)) c.self.view_is c.self.invariant) c.requires)

pub returns : goal.returns
returns c = put-is c
