use Rattle.std.proofs.Common.{◌≡◌, [], ◌∷◌, ◌-◌, ◌++◌, ◌∙◌, length, map, take, get_or, sym, ap, arith}
use Rattle.std.proofs.lemmas.List.{map-append, length-append, append_assoc, take_more}
use Rattle.narrow_columns.specs.Codes.{word_of_code, word_of_rank, rank_of_code}
use Rattle.narrow_columns.proofs.RanksOfCodes.{rank_of_code-moved}
use Rattle.narrow_columns.proofs.scan.push_codes.Goals as goal

pub loop-place-preserved : goal.loop-place-preserved
loop-place-preserved g c =
    let base = c.args.base in
    let old = c.args.old_base in
    let place = c.loop-place.place in
    let from = g.D.CodeList.codes c.args.codes.now in
    let code = get_or from place 0 in
    let new = c.saturating_sub.result in
    let f = word_of_code base in
    let h = word_of_code old in
    let before = map f (g.C.CodeList.codes c.args.to.now) in
    let codes = g.C.CodeList.codes c.loop-place.to in
    let rank : new ≡ rank_of_code old code - base = c.saturating_sub.ensures ∙ ap (λ r. r - base) (c.rank_at-rank.ensures ∙ ap (rank_of_code old) c.code.ensures.code) in
    let this : f new ≡ h code = ap f rank ∙ ap word_of_rank (rank_of_code-moved base old code c.requires.above) in
    record {
      words = ap (map f) c.push.ensures.codes
          ∙ map-append f codes (new ∷ [])
          ∙ (λ i. c.loop-place.invariant.words i ++ (this i ∷ []))
          ∙ append_assoc before (map h (take place from)) (h code ∷ [])
          ∙ ap (λ l. before ++ l) (sym (map-append h (take place from) (code ∷ [])) ∙ ap (map h) (sym (take_more from place 0 (omega (arith, c.loop-place-test.true, c.len-place-end.ensures.len)))));
      len = omega (arith, ap length c.push.ensures.codes, length-append codes (new ∷ []), c.loop-place.invariant.len);
      held = c.push.ensures.held ∙ c.loop-place.invariant.held;
    }
