use Rattle.std.proofs.Common.{◌≡◌, ◌-◌, ◌∙◌, arith, get_or, pos, rules, length}
use Rattle.btree_index.proofs.Runs.{alone_next, any_entry, newer_next, not_after, older_next}
use Rattle.btree_index.proofs.both.entry_at.Goals as goal

pub returns-then-is_empty : goal.returns-then-is_empty
returns-then-is_empty c =
    let older = c.args.older.now in
    let newer = c.args.newer.now in
    let none : length newer ≡ 0 = search rules in
    λ d. alone_next older newer c.args.place (pos 0, 0) c.requires.older_order c.requires.newer_order none (omega (arith, none, c.requires.there))
    ∙ any_entry older newer c.args.place (pos 0, 0) d c.requires.there

pub returns-then-is_newer_next : goal.returns-then-is_newer_next
returns-then-is_newer_next c =
    let older = c.args.older.now in
    let newer = c.args.newer.now in
    let next = c.is_newer_next.ensures.newer c.if-is_newer_next.true in
    λ d. newer_next older newer c.args.place c.split_at-first.result (pos 0, 0) c.requires.older_order c.requires.newer_order c.split_at-first.ensures next.there
    (λ some. not_after (get_or older c.split_at-first.result (pos 0, 0)) (get_or newer (c.args.place - c.split_at-first.result) (pos 0, 0)) (next.after (pos 0, 0) some))
    ∙ any_entry older newer c.args.place (pos 0, 0) d c.requires.there

pub returns : goal.returns
returns c =
    let older = c.args.older.now in
    let newer = c.args.newer.now in
    let next = c.is_newer_next.ensures.older c.if-is_newer_next.false in
    λ d. older_next older newer c.args.place c.split_at-first.result (pos 0, 0) c.requires.older_order c.requires.newer_order c.split_at-first.ensures next.there (next.before (pos 0, 0))
    ∙ any_entry older newer c.args.place (pos 0, 0) d c.requires.there
