use mir.Syntax.{w8}
use Rattle.narrow_columns.proofs.BlockMarks.{block-marks}
use Rattle.narrow_columns.proofs.codes.VecU8CodeList.block.Goals as goal

pub returns : goal.returns
returns c = block-marks w8 c.args.range.least c.args.range.greatest c.deref.result.now c.args.self.now.items c.args.first c.deref.ensures.value c.requires.there
