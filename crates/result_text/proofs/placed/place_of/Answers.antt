use Rattle.std.proofs.Common.{rules, ◌≡◌, Ok, Err, arith, get_or, pos, subst, sym, to_z, of_z, w64, ℤ, Contains}
use Rattle.std.proofs.lemmas.Int.{to_z-of_z}
use Rattle.std.proofs.lemmas.List.Sorted.{answers_always}
use Rattle.result_text.specs.declared.places.Placed.{Placed}
use Rattle.result_text.proofs.Placing.{found, Contains-found}
use Rattle.result_text.proofs.placed.place_of.Goals as goal

pub unreachable-requires : goal.unreachable-requires
unreachable-requires c =
    let same : to_z w64 (of_z w64 c.args.code) ≡ c.args.code = grind (arith, to_z-of_z) in
    let told = c.in-Err.ensures.position (λ one. one.code) (answers_always _ _ _ (λ f a r g called. search rules)) in
    found _ _ c.requires.sorted c.requires.there (Err c.in-Err.field-0) (rw same at told)

pub returns : goal.returns
returns c =
    let none : Placed = record { code = pos 0; place = pos 0 } in
    let passed : to_z w64 (of_z w64 c.args.code) ≡ c.args.code = grind (arith, to_z-of_z) in
    let told = c.in-Ok.ensures.position (λ one. one.code) (answers_always _ _ _ (λ f a r g called. search rules)) in
    let is = found _ _ c.requires.sorted c.requires.there (Ok c.in-Ok.at) (rw passed at told) in
    let same : to_z w64 (of_z w64 (get_or c.args.placed.now c.in-Ok.at none).place) ≡ (get_or c.args.placed.now c.in-Ok.at none).place = grind (arith, to_z-of_z) in
    subst (λ (place : ℤ). Contains c.args.placed.now (record { code = c.args.code; place = place })) (sym same)
    (Contains-found c.args.placed.now c.args.code c.in-Ok.at none c.in-Ok.ensures.bound is)
