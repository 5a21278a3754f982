-- The line of one turn more.
use Rattle.std.proofs.Common.{◌≡◌, ◌∙◌, ◌+◌, ◌<◌, ◌++◌, ℕ, List, [], ◌∷◌, length, take, get_or, ap, sym}
use Rattle.std.specs.List.{flat_map}
use Rattle.std.proofs.lemmas.List.{flat_map_more, take_more}
use Rattle.turns.specs.declared.turn.Turn.{Turn}
use Rattle.session.specs.Printed.{turn_line}
use Rattle.session.specs.Uses.{bouquets_of}
use Rattle.session.proofs.turn_lines.push_turns.Goals as goal

-- what stands for a turn past the end
abbrev no_turn : Turn
no_turn = record { job = 0; contour = 0; place = 0; spent = 0 }

pub loop-turn-preserved : goal.loop-turn-preserved
loop-turn-preserved c =
    let line : Turn → List ℕ = turn_line (bouquets_of c.args.all.now) in
    let turns = c.args.turns.now in
    let place : ℕ = c.loop-turn.turn-index in
    let start = c.args.text.now.items in
    let turn : Turn = get_or turns place no_turn in
    let there : place < length turns = c.loop-turn-test.true in
    let more : take (place + 1) turns ≡ take place turns ++ turn ∷ [] =
    take_more turns place no_turn there in
    c.in_ok-push_turn.ensures
    ∙ ap (λ l. l ++ line turn) c.loop-turn.invariant
    ∙ flat_map_more line start (take place turns) turn
    ∙ ap (λ found. start ++ flat_map line found) (sym more)
