use Rattle.std.proofs.Common.{rules}
use Rattle.result_text.proofs.SortKeys.{key_decides}
use Rattle.result_text.proofs.sort.SortedRowOrd.cmp.Goals as goal

pub returns-in_default : goal.returns-in_default
returns-in_default c = search (rules, key_decides c.self.invariant c.other.invariant)
