-- The lines of the first turns, then those of the others, then the answers.
use Rattle.std.proofs.Common.{◌≡◌, ◌∙◌, ℕ, ◌++◌, List, map, sym}
use Rattle.std.specs.List.{flat_map}
use Rattle.std.proofs.lemmas.Grind.{flat_map-append}
use Rattle.turns.specs.Jobs.{job_tree}
use Rattle.turns.specs.declared.turn.Turn.{Turn}
use Rattle.session.specs.Printed.{job_text, turn_line}
use Rattle.session.specs.Uses.{bouquets_of}
use Rattle.session.proofs.turn_lines.turns_text.Goals as goal

pub returns : goal.returns
returns c =
    let first : List Turn = c.args.first.now in
    let others : List Turn = c.args.others.now in
    let line : Turn → List ℕ = turn_line (bouquets_of c.args.asked.now.all.now) in
    let lined : c.push_turns-2.new.text.items ≡ flat_map line (first ++ others) =
    c.in_ok-push_turns-2.ensures
    ∙ (λ i. (c.in_ok-push_turns.ensures ∙ (λ j. c.new-text.ensures.items j ++ flat_map line first)) i ++ flat_map line others)
    ∙ sym (flat_map-append line first others) in
    c.in_ok-push_answers.ensures ∙ (λ i. lined i ++ flat_map job_text (map job_tree c.args.jobs.now))
