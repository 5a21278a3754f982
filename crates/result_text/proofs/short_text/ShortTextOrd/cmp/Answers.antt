use Rattle.std.proofs.Common.{rules}
use Rattle.result_text.proofs.FirstBytes.{first_decides}
use Rattle.result_text.proofs.short_text.ShortTextOrd.cmp.Goals as goal

pub returns-in_default : goal.returns-in_default
returns-in_default c = search (rules, first_decides c.self.invariant c.other.invariant)
