use Rattle.std.proofs.Common.{not, nat_cmp, sym, ap, ◌∙◌}
use Rattle.std.specs.Cmp.Lexicographic.{slice_cmp}
use Rattle.query_block.specs.Cells.{text_at}
use Rattle.query_block.proofs.Equality.{equal_codes, is_ne-not}
use Rattle.query_block.proofs.cell.holds_of_codes.Goals as goal

pub returns-in-Eq : goal.returns-in-Eq
returns-in-Eq c = rw c.in-Eq.is (equal_codes c.args.texts.now c.args.a c.args.b c.len-count.ensures.distinct c.requires.left c.requires.right)

pub returns-in-Ne : goal.returns-in-Ne
returns-in-Ne c = rw c.in-Ne.is (ap not (equal_codes c.args.texts.now c.args.a c.args.b c.len-count.ensures.distinct c.requires.left c.requires.right) ∙ sym (is_ne-not (slice_cmp nat_cmp (text_at c.args.texts.now c.args.a) (text_at c.args.texts.now c.args.b))))
