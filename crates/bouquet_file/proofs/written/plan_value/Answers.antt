use Rattle.std.proofs.Common.{true≢false, sym, subst}
use Rattle.std.specs.Prelude.{IsOk}
use Rattle.std.specs.Str.{IsUtf8}
use Rattle.plan_tree.specs.Plans.{plan_tree}
use Rattle.bouquet_file.proofs.Texts.{plan-utf8}
use Rattle.bouquet_file.proofs.written.plan_value.Goals as goal

pub unreachable-requires : goal.unreachable-requires
unreachable-requires c =
    let utf8 = subst IsUtf8 (sym c.in_ok-text.ensures) (plan-utf8 (plan_tree c.args.p.now)) in
    true≢false (sym (subst IsOk c.in-Err.is (c.from_utf8.ensures.succeeds utf8)))
