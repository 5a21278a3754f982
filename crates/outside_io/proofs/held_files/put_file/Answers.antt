-- The tree gets the entry of this name.
use Rattle.std.proofs.Common.{◌∙◌}
use Rattle.outside_io.proofs.Named.{named_files-put}
use Rattle.outside_io.proofs.held_files.put_file.Goals as goal

pub returns-clause-put : goal.returns-clause-put
returns-clause-put c =
    named_files-put c.args.files.now.entries c.insert.new.self.entries
    c.in_ok-key.key c.in_ok-value.value c.args.name.now c.args.bytes.now
    c.in_ok-insert.ensures.entries
    (c.in_ok-key.ensures.items ∙ c.as_bytes.ensures.value)
    c.in_ok-value.ensures.items
