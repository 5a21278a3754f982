use Rattle.std.proofs.Common.{◌≡◌, ◌+◌, ◌-◌, ◌≤◌, ◌<◌, ◌^◌, ◌∙◌, ℕ, length, drop, map, ap, sym, subst, arith, rules, length-drop, zero-add, []}
use Rattle.std.proofs.lemmas.Grind.{common_steps}
use Rattle.std.specs.Int.{div_ceil}
use Rattle.std.proofs.lemmas.List.{length-map}
use Rattle.btree_index.specs.Height.{height_of}
use Rattle.btree_index.specs.Nodes.{AreLevels, AreLastWords, entry_word}
use Rattle.btree_index.proofs.Height.{height_room, height_some, entries_some, level_size, nodes_more, nodes_counted}
use Rattle.btree_index.proofs.Pushed.{levels_begun, levels_more, levels_end, levels_none, nodes_pushed}
use Rattle.btree_index.proofs.levels.inner_levels.Goals as goal

-- the height has room for the entries
room : (n height : ℕ) → height ≡ height_of n → n ≤ 64 ^ height
room n height stated = subst (λ h. n ≤ 64 ^ h) (sym stated) (height_room n)

-- more than one level has at least two, and some entries
some_levels : (n height : ℕ) → height ≡ height_of n → (height ≡ 1 → ⊥) → (2 ≤ height) × (0 < n)
some_levels n height stated more = grind (arith, common_steps, height_some, entries_some)

pub returns-then-height-eq1-clause-levels : goal.returns-then-height-eq1-clause-levels
returns-then-height-eq1-clause-levels c = grind (arith, common_steps, levels_none, room, length-map)

pub returns-then-height-eq1-clause-count : goal.returns-then-height-eq1-clause-count
returns-then-height-eq1-clause-count c = grind (arith, common_steps, nodes_counted)

pub loop-level-init : goal.loop-level-init
loop-level-init c = grind (arith, common_steps, some_levels, length-map, nodes_more, zero-add, levels_begun)

pub loop-level-preserved : goal.loop-level-preserved
loop-level-preserved c =
    let n = length c.args.entries.now in
    let level = c.loop-level._level in
    let inner = c.loop-level.inner.items in
    let more = c.push_level.new.inner.items in
    let kept = c.loop-level.invariant in
    let some = some_levels n c.args.height c.requires c.if-height-eq1.false in
    let end : length inner ≡ c.len-end.result = search rules in
    let pushed : AreLastWords (drop c.loop-level.begin inner) (drop (length inner) more) = c.in_ok-push_level.ensures.above in
    let below = length-drop c.loop-level.begin inner in
    let above = length-drop (length inner) more in
    let size : length more - length inner ≡ div_ceil n (64 ^ level) =
    sym above ∙ pushed.count ∙ level_size n level (length (drop c.loop-level.begin inner)) (omega arith) (below ∙ kept.size) in
    let next : level ≡ level + 1 - 1 = omega arith in record {
      begins = search rules;
      size = ap (λ k. length more - k) (sym end) ∙ size ∙ ap (λ k. div_ceil n (64 ^ k)) next;
      nodes = nodes_pushed n level inner more (omega arith) some.1 c.in_ok-push_level.ensures.kept size kept.nodes;
      completes = λ rest levels. levels_more c.args.height level c.loop-level.begin (map entry_word c.args.entries.now) inner more c.loop-level-test.true
          c.in_ok-push_level.ensures.kept pushed kept.completes rest (subst (λ k. AreLevels (c.args.height - (level + 1)) (drop k more) rest) (sym end) levels);
    }

pub returns-clause-levels : goal.returns-clause-levels
returns-clause-levels c =
    let entries = c.args.entries.now in
    let kept = c.loop-level.invariant in
    let some = some_levels (length entries) c.args.height c.requires c.if-height-eq1.false in
    let root = drop c.loop-level.begin c.loop-level.inner.items in
    levels_end c.args.height c.loop-level._level (length entries) (map entry_word entries) root c.loop-level.inner.items []
    (omega arith) (omega arith) (room (length entries) c.args.height c.requires) (length-drop c.loop-level.begin c.loop-level.inner.items ∙ kept.size) kept.completes

pub returns-clause-count : goal.returns-clause-count
returns-clause-count c = grind (arith, common_steps, some_levels, nodes_counted)
