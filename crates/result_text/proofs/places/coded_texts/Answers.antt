use Rattle.std.proofs.Common.{All, ◌≡◌, ◌<◌, ◌++◌, ◌∷◌, ◌∙◌, [], List, Some, ap, arith, get_or, length, map, of_z, pos, subst, sym, to_z, w64}
use Rattle.std.proofs.lemmas.Int.{to_z-of_z}
use Rattle.std.proofs.lemmas.List.{map-append, take_more}
use Rattle.std.proofs.lemmas.List.Elements.{All-push}
use Rattle.result_text.specs.declared.places.CodedText.{CodedText}
use Rattle.result_text.specs.Placing.{IsCodedText}
use Rattle.result_text.proofs.places.coded_texts.Goals as goal

pub loop-code-preserved : goal.loop-code-preserved
loop-code-preserved c =
    let codes = c.args.codes.now in
    let at = c.loop-code.code-index in
    let below : at < length codes = omega arith in
    let code = get_or codes at (pos 0) in
    let same : to_z w64 (of_z w64 code) ≡ code = grind (arith, to_z-of_z) in
    let one : CodedText = record { text = c.new-text.result; code = to_z w64 (of_z w64 code) } in
    let pushed : c.push.new.self.items ≡ c.loop-code.coded.items ++ one ∷ [] = c.in_ok-push.ensures.items in
    let code_of = λ (o : CodedText). o.code in
    record {
      codes = ap (map code_of) pushed ∙ map-append code_of c.loop-code.coded.items (one ∷ []) ∙ (λ i. c.loop-code.invariant.codes i ++ same i ∷ []) ∙ sym (take_more codes at (pos 0) below);
      texts = subst (λ (l : List CodedText). All (IsCodedText c.args.texts.now) l) (sym pushed)
          (All-push (IsCodedText c.args.texts.now) c.loop-code.coded.items one c.loop-code.invariant.texts (c.text_of.ensures.text ∙ ap Some (sym c.new-text.ensures)));
    }
