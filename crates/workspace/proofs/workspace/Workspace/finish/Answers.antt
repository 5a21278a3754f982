-- The file is missing or too long, or this comes of its bytes.
use Rattle.std.proofs.Common.{◌≡◌, None, refl}
use Rattle.workspace.specs.Load.{load_bytes}
use Rattle.workspace.specs.Open.{open_with}
use Rattle.query_block.specs.Blocks.{block_tree}
use Rattle.workspace.specs.States.{world_of}
use Rattle.workspace.proofs.Given.{long_refused, with_bytes}
use Rattle.workspace.proofs.workspace.Workspace.finish.Goals as goal

pub returns-in-Absent-clause-due : goal.returns-in-Absent-clause-due
returns-in-Absent-clause-due c = λ file stands.
    let none : file ≡ None = rw c.in-Absent.is at stands in
    rw none (refl, refl)

pub returns-in-TooLong-clause-due : goal.returns-in-TooLong-clause-due
returns-in-TooLong-clause-due c = λ file stands.
    rw c.from-value.ensures (long_refused c.args.asked.name _ c.in-TooLong.len file (rw c.in-TooLong.is at stands), refl)

pub returns-in-Load-clause-due : goal.returns-in-Load-clause-due
returns-in-Load-clause-due c = λ file stands.
    rw c.in-Load.is (with_bytes c.args.asked.name (load_bytes (world_of c.args.self.now) c.in-Load.table) c.in-Bytes.bytes file c.load_bytes.result (world_of c.load_bytes.new.self) (rw c.in-Bytes.is at stands) c.load_bytes.ensures.due)

pub returns-clause-due : goal.returns-clause-due
returns-clause-due c = λ file stands.
    let opening = c.in-Open.opening in
    rw c.in-Open.is (with_bytes c.args.asked.name (open_with (world_of c.args.self.now) opening.name opening.query.items (block_tree opening.block) opening.stats) c.in-Bytes.bytes file c.open_bytes.result (world_of c.open_bytes.new.self) (rw c.in-Bytes.is at stands)
    (rw c.deref.ensures.value at c.open_bytes.ensures.due))
