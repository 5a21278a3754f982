-- One number more is that of a job.
use Rattle.std.proofs.Common.{◌≡◌, ◌∙◌, ℕ, suc, ◌+◌, ◌-◌, ◌<◌, ◌≤◌, ◌||◌, ◌++◌, Bool, true, false, nat_eq, nat_lt, if◌then◌else◌, List, [], ◌∷◌, Option, Some, None, get_or, drop, take, length, refl, sym, ap, add-one, arith}
use Rattle.std.specs.Prelude.{option_map}
use Rattle.std.specs.List.{find}
use Rattle.std.proofs.Math.Seq.{drop-cons}
use Rattle.std.proofs.lemmas.Bool.Decides.{nat_tests}
use Rattle.std.proofs.lemmas.List.{map-append, take_more}
use Rattle.std.proofs.lemmas.List.Elements.{All-append, All-cons, All-nil}
use Rattle.workspace.specs.declared.refusal.Refusal.{Refusal}
use Rattle.workspace.specs.declared.refusal.Refusal.TheVariants as refusal
use Rattle.session.specs.Turns.{numbers_from_0, turn_refusal}
use Rattle.session.proofs.by_turns.numbers_from_0.Goals as goal

abbrev told : Option ℕ → Option Refusal
told wrong = option_map (λ number. refusal.NoTurn number) wrong

-- where no number is wrong, the first isn't, nor one behind it
unwrong : (wrong : Bool) (n : ℕ) (rest : Option ℕ) → told (if wrong then Some n else rest) ≡ None → (wrong ≡ false) × (told rest ≡ None)
unwrong true n rest none = cc
unwrong false n rest none = (refl, none)

in-range : (count n : ℕ) → (nat_eq n 0 || nat_lt count n) ≡ false → (1 ≤ n) × (n ≤ count)
in-range count n right = grind (arith, nat_tests)

first-right : (count place : ℕ) (by : List ℕ) → place < length by → turn_refusal count (drop place by) ≡ None
    → ((1 ≤ get_or by place 0) × (get_or by place 0 ≤ count)) × (turn_refusal count (drop (place + 1) by) ≡ None)
first-right count place by there none =
    let n = get_or by place 0 in
    let here : turn_refusal count (n ∷ drop (suc place) by) ≡ None = ap (turn_refusal count) (sym (drop-cons by place 0 there)) ∙ none in
    let both = unwrong (nat_eq n 0 || nat_lt count n) n (find (λ number. nat_eq number 0 || nat_lt count number) (drop (suc place) by)) here in
    (in-range count n both.0, rw add-one both.1)

pub overflow_sub-number : goal.overflow_sub-number
overflow_sub-number c =
    (first-right c.args.count c.loop-number.number-index c.args.by.now c.loop-number-test.true c.loop-number.invariant.right).0.0

pub loop-number-preserved : goal.loop-number-preserved
loop-number-preserved c =
    let by : List ℕ = c.args.by.now in
    let place : ℕ = c.loop-number.number-index in
    let n = get_or by place 0 in
    let right = first-right c.args.count place by c.loop-number-test.true c.loop-number.invariant.right in
    let below : n - 1 < c.args.count = omega (arith, right.0) in
    let pushed : c.push.new.self.items ≡ c.loop-number.numbers.items ++ (n - 1) ∷ [] = c.in_ok-push.ensures.items in
    record {
      right = right.1;
      numbers = pushed ∙ (λ i. c.loop-number.invariant.numbers i ++ (n - 1) ∷ []) ∙ sym (ap numbers_from_0 (take_more by place 0 c.loop-number-test.true) ∙ map-append _ (take place by) (n ∷ []));
      there = rw pushed (All-append (λ number. number < c.args.count) c.loop-number.numbers.items ((n - 1) ∷ []) c.loop-number.invariant.there (All-cons (λ number. number < c.args.count) (n - 1) [] below (All-nil (λ number. number < c.args.count))));
    }
