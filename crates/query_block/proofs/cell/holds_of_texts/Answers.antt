use Rattle.std.proofs.Common.{not, nat_cmp, sym, ap, ◌∙◌}
use Rattle.std.specs.Cmp.Lexicographic.{slice_cmp}
use Rattle.std.proofs.lemmas.Map.Text.{is_eq-slice_cmp}
use Rattle.query_block.proofs.Equality.{is_ne-not}
use Rattle.query_block.proofs.cell.holds_of_texts.Goals as goal

pub returns-in-Eq : goal.returns-in-Eq
returns-in-Eq c = rw c.in-Eq.is (c.eq.ensures ∙ sym (is_eq-slice_cmp c.args.a.now c.args.b.now))

pub returns-in-Ne : goal.returns-in-Ne
returns-in-Ne c = rw c.in-Ne.is (c.ne.ensures ∙ ap not (sym (is_eq-slice_cmp c.args.a.now c.args.b.now)) ∙ sym (is_ne-not (slice_cmp nat_cmp c.args.a.now c.args.b.now)))
