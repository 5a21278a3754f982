use Rattle.std.proofs.Common.{◌≡◌, ◌<◌, ◌∙◌, ◌++◌, ◌+ℤ◌, pos, IfSome, Some, List, ℕ, ap, false, length, get_or, option_map, subst, sym, take, to_z, of_z, w64, arith}
use Rattle.std.proofs.lemmas.Int.{to_z-of_z, to_z_pos}
use Rattle.std.proofs.lemmas.List.{take_more}
use Rattle.std.specs.Cmp.Lexicographic.{slice_cmp}
use Rattle.std.specs.Ordering.{is_gt, nat_cmp}
use Rattle.result_text.specs.declared.places.CodedText.{CodedText}
use Rattle.result_text.specs.Lists.{last_of}
use Rattle.result_text.specs.Placing.{HasPlace}
use Rattle.result_text.proofs.Ascent.{begins_behind, last_of-take, text_of-Begins}
use Rattle.result_text.proofs.Placing.{not_less_than_last, text_of-behind}
use Rattle.result_text.proofs.Zips.{AllZip-more, AllZip-weaker}
use Rattle.result_text.proofs.places.place_all.Goals as goal

pub place_of_last-requires-clause-not_less : goal.place_of_last-requires-clause-not_less
place_of_last-requires-clause-not_less c =
    let one = c.one-item.result in
    let coded = c.args.coded.now in
    let at = c.loop-one.one-index in
    let text : (get_or coded at one).text ≡ c.new.result = ap (λ (o : CodedText). o.text) (sym c.one-item.is) ∙ sym (c.new.ensures ∙ c.bytes.ensures) in
    let told = not_less_than_last coded at one c.requires (omega arith) in
    subst (λ last. IfSome last (λ a. is_gt (slice_cmp nat_cmp a c.new.result) ≡ false)) (sym c.loop-one.invariant.last)
    (subst (λ (t : List ℕ). IfSome (option_map (λ (o : CodedText). o.text) (last_of (take at coded))) (λ a. is_gt (slice_cmp nat_cmp a t) ≡ false)) text told)

pub loop-one-preserved : goal.loop-one-preserved
loop-one-preserved c =
    let one = c.one-item.result in
    let coded = c.args.coded.now in
    let known = c.args.known.now in
    let at = c.loop-one.one-index in
    let below : at < length coded = omega arith in
    let text : (get_or coded at one).text ≡ c.new.result = ap (λ (o : CodedText). o.text) (sym c.one-item.is) ∙ sym (c.new.ensures ∙ c.bytes.ensures) in
    let same : to_z w64 (of_z w64 one.code) ≡ one.code = grind (arith, to_z-of_z) in
    let old = c.loop-one.sorted in
    let new = c.place_of_last.new.self in
    let told = text_of-behind known new c.in_ok-place.place c.new.result c.in_ok-place.ensures.place in
    let count : to_z w64 c.len-count.result ≡ pos (length known) = to_z_pos w64 c.len-count.result c.len-count.ensures.small ∙ ap pos c.len-count.ensures.count in
    let back : to_z w64 (of_z w64 c.in_ok-place.place) ≡ c.in_ok-place.place = grind (arith, to_z-of_z) in
    let fits : to_z w64 (of_z w64 c.in-Some.place) ≡ c.in-Some.place = grind (arith, to_z-of_z) in
    let place : to_z w64 (of_z w64 c.in-Some.place) ≡ pos (length known) +ℤ c.in_ok-place.place = fits ∙ c.in-Some.ensures.1 ∙ (λ i. count i +ℤ back i) in
    record {
      ascending = c.in_ok-place.ensures.ascending;
      placed =
          rw (take_more coded at one below, c.in_ok-push.ensures.items)
          (AllZip-more (HasPlace known new) (take at coded) c.loop-one.placed.items (get_or coded at one) _
          (AllZip-weaker (HasPlace known old) (HasPlace known new) (λ a b h. (h.0, text_of-Begins (known ++ old) (known ++ new) (begins_behind known old new c.in_ok-place.ensures.begins) b.place a.text h.1, h.2)) (take at coded) c.loop-one.placed.items c.loop-one.invariant.placed)
          (same ∙ ap (λ (o : CodedText). o.code) c.one-item.is, rw place told.0 ∙ ap Some (sym text), rw place told.1));
      last = c.in_ok-place.ensures.last ∙ ap Some (sym text) ∙ sym (ap (option_map (λ (o : CodedText). o.text)) (last_of-take coded at one below));
    }
