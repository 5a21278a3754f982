use Rattle.std.proofs.Common.{bit_and, ap, sym, ◌∙◌}
use Rattle.std.specs.Int.Bits.{and_self}
use Rattle.std.proofs.lemmas.Nat.{and_assoc}
use Rattle.outside_io.specs.Rights.{read_and_write}
use Rattle.outside_io.proofs.replace.without_running.Goals as goal

pub returns-clause-never : goal.returns-clause-never
returns-clause-never c =
    let mode = c.mode.result in
    ap (λ n. bit_and n read_and_write) c.from_mode.ensures
    ∙ and_assoc read_and_write mode read_and_write ∙ ap (bit_and mode) (and_self read_and_write) ∙ sym c.from_mode.ensures
