-- The tree is looked up by the bytes of the name.
use Rattle.std.proofs.Common.{Some, None, ap, ◌∙◌}
use Rattle.outside_io.proofs.Named.{found-held_file}
use Rattle.outside_io.proofs.held_files.lend_file.Goals as goal

pub returns-in-Some : goal.returns-in-Some
returns-in-Some c =
    ap Some c.as_slice.ensures.value
    ∙ found-held_file c.args.files.now.entries c.args.name.now c.as_bytes.result.now
    (Some c.in-Some.bytes.now) c.as_bytes.ensures.value c.in-Some.ensures.value

pub returns-in-None : goal.returns-in-None
returns-in-None c =
    found-held_file c.args.files.now.entries c.args.name.now c.as_bytes.result.now
    None c.as_bytes.ensures.value c.in-None.ensures.value
