use mir.Syntax.{w64}
use Rattle.narrow_columns.proofs.BlockMarks.{block-marks}
use Rattle.narrow_columns.proofs.codes.VecU64CodeList.block.Goals as goal

pub returns : goal.returns
returns c = block-marks w64 c.args.range.least c.args.range.greatest c.deref.result.now c.args.self.now.items c.args.first c.deref.ensures.value c.requires.there
