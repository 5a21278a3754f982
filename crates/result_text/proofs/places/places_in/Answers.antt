use Rattle.std.proofs.Common.{All, Contains, ◌≡◌, ◌∙◌, ℤ, IsSome, length, map, subst, sym}
use Rattle.std.proofs.lemmas.Bool.Decides.{Decides-int_eq}
use Rattle.std.proofs.lemmas.Cmp.{int_eq_equiv}
use Rattle.std.proofs.lemmas.List.Elements.{All-weaker}
use Rattle.std.proofs.lemmas.List.Filters.{dedup_is, All-dedup}
use Rattle.std.proofs.lemmas.List.Kept.{Contains-dedup}
use Rattle.std.proofs.lemmas.List.Sorted.{All-permutation, Contains-permutation, IsPermutation-map}
use Rattle.sql_values.specs.Dictionary.{text_of}
use Rattle.sql_values.specs.Words.{IsWord}
use Rattle.result_text.specs.declared.places.CodedText.{CodedText}
use Rattle.result_text.specs.declared.places.Placed.{Placed}
use Rattle.result_text.specs.Placing.{IsCodedText, IsPlaced}
use Rattle.result_text.specs.Rows.{WordRow}
use Rattle.sql_values.specs.Stored.{AreWordsOf}
use Rattle.result_text.proofs.Placing.{codes_of-placed, HasText-rows, HavePlaces-rows, IsPlaced-placed}
use Rattle.result_text.proofs.Zips.{length-AllZip}
use Rattle.result_text.proofs.places.places_in.Goals as goal

pub codes_in-requires : goal.codes_in-requires
codes_in-requires c =
    let kinds = c.args.kinds.now in
    let texts = c.args.texts.now in
    All-weaker (AreWordsOf texts kinds) (λ (row : WordRow). length row ≡ length kinds) (λ row are. sym (length-AllZip (IsWord texts) kinds row are)) c.args.rows.now c.requires

pub coded_texts-requires : goal.coded_texts-requires
coded_texts-requires c =
    let has = λ (code : ℤ). IsSome (text_of c.args.texts.now code) in
    let all = HasText-rows c.args.texts.now c.args.kinds.now c.args.rows.now c.requires in
    subst (All has) (sym (c.deref.ensures.value ∙ dedup_is _ _ _ c.dedup.ensures.filtered))
    (All-dedup _ has _ (All-permutation has _ _ c.sort_unstable.ensures.permutation (subst (All has) (sym c.in_ok-codes.ensures) all)))

pub returns-clause-same : goal.returns-clause-same
returns-clause-same c =
    let texts = c.args.texts.now in
    let coded = All-permutation (IsCodedText texts) _ _ c.sort_unstable-2.ensures.permutation c.in_ok-coded.ensures.texts in
    All-permutation (IsPlaced texts c.in_ok-places.places.texts.sorted) _ _ c.sort_unstable-3.ensures.permutation
    (IsPlaced-placed texts c.in_ok-places.places.texts.sorted _ _ (subst (All (IsCodedText texts)) (sym c.deref-2.ensures.value) coded) c.in_ok-places.ensures.placed)

pub returns-clause-all : goal.returns-clause-all
returns-clause-all c =
    let kinds = c.args.kinds.now in
    let rows = c.args.rows.now in
    let code_of = λ (one : CodedText). one.code in
    let code_of' = λ (one : Placed). one.code in
    HavePlaces-rows _ kinds rows (λ code there.
    let collected = subst (λ l. Contains l code) (sym c.in_ok-codes.ensures) there in
    let sorted = Contains-permutation _ _ code c.sort_unstable.ensures.permutation collected in
    let once = Contains-dedup int_eq_equiv (λ x y e. (Decides-int_eq x y).0 e) _ code sorted in
    let lent = subst (λ l. Contains l code) (sym (c.in_ok-coded.ensures.codes ∙ c.deref.ensures.value ∙ dedup_is _ _ _ c.dedup.ensures.filtered)) once in
    let by_text = Contains-permutation _ _ code (IsPermutation-map code_of _ _ c.sort_unstable-2.ensures.permutation) lent in
    let placed = subst (λ l. Contains l code) (sym (codes_of-placed c.args.texts.now c.in_ok-places.places.texts.sorted _ _ c.in_ok-places.ensures.placed)) (subst (λ l. Contains (map code_of l) code) (sym c.deref-2.ensures.value) by_text) in
    Contains-permutation _ _ code (IsPermutation-map code_of' _ _ c.sort_unstable-3.ensures.permutation) placed)
