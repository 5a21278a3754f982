use Rattle.std.proofs.Common.{◌≡◌, ◌+◌, ◌<◌, ℤ, pos, get_or, length, if◌then◌else◌, subst, sym, rules, to_z, of_z, w64}
use Rattle.std.specs.Prelude.{int_le}
use Rattle.btree_index.specs.Nodes.{is_entry_below, IsCounted}
use Rattle.btree_index.proofs.Nodes.{counted_next, point_of_all}
use Rattle.btree_index.proofs.Ranges.{entries_rise, entries_rise_to}
use Rattle.btree_index.proofs.run.stretch_among_few.Goals as goal

pub loop-place-preserved : goal.loop-place-preserved
loop-place-preserved c =
    let entries = c.args.entries.now in
    let at = c.loop-place.place in
    let from : ℤ = to_z w64 (of_z w64 c.args.from) in
    let to : ℤ = to_z w64 (of_z w64 c.args.to) in
    let there : at < length entries = c.loop-place-test.true in
    let next : c.one_more-begin.result ≡ (if is_entry_below from (get_or entries at (pos 0, 0)) then c.loop-place.begin + 1 else c.loop-place.begin) = search rules in
    let end : c.one_more-end.result ≡ (if int_le (get_or entries at (pos 0, 0)).0 to then c.loop-place.end + 1 else c.loop-place.end) = search rules in (
      subst (λ n. IsCounted (λ i. is_entry_below from (get_or entries i (pos 0, 0))) n (at + 1)) (sym next)
          (counted_next (is_entry_below from) entries (pos 0, 0) c.loop-place.begin at (entries_rise entries from c.requires) there c.loop-place.invariant.0),
      subst (λ n. IsCounted (λ i. int_le (get_or entries i (pos 0, 0)).0 to) n (at + 1)) (sym end)
          (counted_next (λ e. int_le e.0 to) entries (pos 0, 0) c.loop-place.end at (entries_rise_to entries to c.requires) there c.loop-place.invariant.1),
    )

pub returns : goal.returns
returns c =
    let entries = c.args.entries.now in
    let so = c.loop-place.invariant in
    let whole : c.loop-place.place ≡ length entries = search rules in
    let from : to_z w64 (of_z w64 c.args.from) ≡ c.args.from = search rules in
    let to : to_z w64 (of_z w64 c.args.to) ≡ c.args.to = search rules in
    let begin = subst (λ n. IsCounted (λ i. is_entry_below c.args.from (get_or entries i (pos 0, 0))) c.loop-place.begin n) whole
    (subst (λ w. IsCounted (λ i. is_entry_below w (get_or entries i (pos 0, 0))) c.loop-place.begin c.loop-place.place) from so.0) in
    let end = subst (λ n. IsCounted (λ i. int_le (get_or entries i (pos 0, 0)).0 c.args.to) c.loop-place.end n) whole
    (subst (λ w. IsCounted (λ i. int_le (get_or entries i (pos 0, 0)).0 w) c.loop-place.end c.loop-place.place) to so.1) in
    record {
      begin_there = begin.most;
      end_there = end.most;
      begins = point_of_all (is_entry_below c.args.from) entries (pos 0, 0) c.loop-place.begin begin;
      ends = point_of_all (λ e. int_le e.0 c.args.to) entries (pos 0, 0) c.loop-place.end end;
    }
