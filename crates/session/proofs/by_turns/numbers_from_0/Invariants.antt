use Rattle.std.proofs.Common.{◌≡◌, ◌<◌, drop, take}
use Rattle.std.specs.Prelude.{All, None}
use Rattle.session.specs.Turns.{numbers_from_0, turn_refusal}
use Rattle.session.proofs.by_turns.numbers_from_0.Given as goal

abbrev pub invariant-loop-number : goal.invariant-loop-number
invariant-loop-number l = record {
  right : turn_refusal l.count (drop l.number-index l.by) ≡ None;
  numbers : l.numbers.items ≡ numbers_from_0 (take l.number-index l.by);
  there : All (λ number. number < l.count) l.numbers.items;
}
