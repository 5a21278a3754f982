use Rattle.query_block.proofs.PutIn.{put-none}
use Rattle.query_block.proofs.block.blocks_without_parameters_stay.Goals as goal

pub returns : goal.returns
returns c = put-none
