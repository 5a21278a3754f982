use Rattle.std.proofs.Common.{◌≡◌, ◌≢◌, ◌∙◌, Contains, ap, arith, of_z, subst, sym, to_z, w64}
use Rattle.std.proofs.lemmas.Int.{ints, to_z-of_z}
use Rattle.sql_values.specs.Words.{null_word}
use Rattle.result_text.specs.Placing.{text_code, IsPlacedWord}
use Rattle.result_text.proofs.Placing.{Contains-text_code}
use Rattle.result_text.proofs.placed.placed_word.Goals as goal

pub returns-in-Integer : goal.returns-in-Integer
returns-in-Integer c =
    let same : to_z w64 (of_z w64 c.args.word) ≡ c.args.word = grind (arith, to_z-of_z) in
    subst (λ kind. IsPlacedWord c.args.placed.now kind c.args.word (to_z w64 (of_z w64 c.args.word))) (sym c.in-Integer.is) same

pub returns-then-word-eq-NULL_WORD : goal.returns-then-word-eq-NULL_WORD
returns-then-word-eq-NULL_WORD c =
    let same : to_z w64 (of_z w64 c.args.word) ≡ c.args.word = grind (arith, to_z-of_z) in
    let null : c.args.word ≡ null_word = omega (arith, ints) in
    subst (λ kind. IsPlacedWord c.args.placed.now kind c.args.word (to_z w64 (of_z w64 c.args.word))) (sym c.in-Varchar.is)
    (λ _. same ∙ null, λ other. absurd (other null))

pub returns-else-word-eq-NULL_WORD : goal.returns-else-word-eq-NULL_WORD
returns-else-word-eq-NULL_WORD c =
    let same : to_z w64 (of_z w64 c.args.word) ≡ c.args.word = grind (arith, to_z-of_z) in
    let same' : to_z w64 (of_z w64 c.place_of.result) ≡ c.place_of.result = grind (arith, to_z-of_z) in
    subst (λ kind. IsPlacedWord c.args.placed.now kind c.args.word (to_z w64 (of_z w64 c.place_of.result))) (sym c.in-Varchar.is)
    (λ null. absurd (c.if-word-eq-NULL_WORD.false (ap (of_z w64) null)), λ _. rw same' (rw same at c.place_of.ensures))

pub place_of-requires-clause-there : goal.place_of-requires-clause-there
place_of-requires-clause-there c =
    let same : to_z w64 (of_z w64 c.args.word) ≡ c.args.word = grind (arith, to_z-of_z) in
    let other : c.args.word ≢ null_word = λ null. c.if-word-eq-NULL_WORD.false (ap (of_z w64) null) in
    rw same (c.requires.there c.args.word (subst (λ kind. Contains (text_code kind c.args.word) c.args.word) (sym c.in-Varchar.is) (Contains-text_code c.in-Varchar.field-0 c.args.word other)))
