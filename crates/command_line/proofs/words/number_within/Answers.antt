use Rattle.command_line.proofs.WordNumbers.{reads_number}
use Rattle.command_line.proofs.words.number_within.Goals as goal

pub returns-in_default-3-clause-number : goal.returns-in_default-3-clause-number
returns-in_default-3-clause-number c = absurd (reads_number c.args.text.now c.is_number.ensures c.if-not-is_number.false c.in_default.ensures.value.0)
