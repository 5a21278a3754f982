-- A bouquet is as its verdict says.
use Rattle.std.proofs.Common.{◌≡◌, ◌∙◌, inl, inr, ℕ, ◌+◌, ◌<◌, ◌≤◌, cond, List, [], ◌∷◌, length, drop, get_or, refl, ap, sym, subst, arith}
use Rattle.std.proofs.lemmas.Grind.{common_steps}
use Rattle.std.specs.Prelude.{All, Option, Some, None, nat_lt}
use Rattle.std.specs.Option.{option_map_or}
use Rattle.std.proofs.lemmas.Bool.{cases_Bool, cases_lt, ltb-true, ltb-false}
use Rattle.std.proofs.lemmas.List.{drop_more, drop_all}
use Rattle.std.proofs.lemmas.List.Elements.{All-nil, All-cons}
use Rattle.ess_grid.specs.Points.{IsGrid, bottom_of, top_of}
use Rattle.plan_tree.proofs.Members.{contained-in}
use Rattle.cost_model.specs.Costing.{IsCosting}
use Rattle.cost_model.specs.Costs.{cost_of}
use Rattle.cost_model.specs.Optimal.{optimal_cost}
use Rattle.cost_model.specs.Frontier.{frontier}
use Rattle.bouquet_type.specs.Trees.{BouquetTree, ContourTree}
use Rattle.bouquet_type.specs.Budgets.{budget_of}
use Rattle.bouquet_type.specs.Sound.{AreDoubled, IsSound, first_cost, last_cost}
use Rattle.bouquet_type.proofs.FitsBelow.{fits-below, frontier-within}
use Rattle.bouquet_check.specs.Verdicts.{VerdictTree, Step, Last, Uncovered, uncovered_point, cover_verdict, verdict_of, wrong_step}
use Rattle.bouquet_check.specs.Evidence.{IsEvidence, numbered_contour}
use Rattle.bouquet_check.proofs.Fitting.{fits-true, none-fits, frontier-point, uncovered-told, covered-all}
use Rattle.bouquet_check.proofs.Steps.{no_contour, wrong-told, doubled-none}

-- no point of the contour's frontier is uncovered
abbrev pub IsCovered : BouquetTree → ContourTree → Type 0
IsCovered bouquet contour = uncovered_point bouquet.costing contour.cost (budget_of bouquet.threshold contour.cost) contour.plans ≡ None

-- where so it is for each contour, costs double from the bottom's to the top's, the bouquet is sound
sound-by : (bouquet : BouquetTree) → IsGrid bouquet.costing.grid → first_cost bouquet.contours ≤ optimal_cost bouquet.costing (bottom_of bouquet.costing.grid)
    → AreDoubled bouquet.contours → optimal_cost bouquet.costing (top_of bouquet.costing.grid) ≤ last_cost bouquet.contours
    → All (IsCovered bouquet) bouquet.contours → IsSound bouquet
sound-by bouquet is_grid first doubled last covered = record {
  first = first;
  doubled = doubled;
  last = last;
  covered = λ point is_point k d there within.
      let contour = get_or bouquet.contours k d in
      fits-below bouquet.costing bouquet.threshold point contour is_grid is_point (
      λ other on. fits-true bouquet.costing bouquet.threshold other contour
      (covered-all bouquet.costing contour.cost (budget_of bouquet.threshold contour.cost) contour.plans (covered k d there) other on)
      ) within;
}

-- the contour at a place, where some are left from there on
record IsAtPlace (contours : List ContourTree) (place : ℕ) (contour : ContourTree) (more : List ContourTree) : Type 0 where
  there : place < length contours
  here : get_or contours place no_contour ≡ contour
  rest : drop (place + 1) contours ≡ more

at-place : (contours : List ContourTree) (place : ℕ) (contour : ContourTree) (more : List ContourTree) → drop place contours ≡ contour ∷ more → IsAtPlace contours place contour more
at-place contours place contour more left =
    elim (cases_lt place (length contours)) [
      | inl there ↦
          let split : contour ∷ more ≡ get_or contours place no_contour ∷ drop (place + 1) contours = sym left ∙ drop_more contours place no_contour there in
          record { there = there; here = cc; rest = cc }
      | inr past ↦ let none : [] ≡ contour ∷ more = sym (drop_all place contours past) ∙ left in absurd cc
    ]

uncovered-shown : (bouquet : BouquetTree) (place : ℕ) (contour : ContourTree) (point : List ℕ) → IsGrid bouquet.costing.grid → place < length bouquet.contours
    → numbered_contour bouquet (place + 1) ≡ contour → uncovered_point bouquet.costing contour.cost (budget_of bouquet.threshold contour.cost) contour.plans ≡ Some point
    → IsEvidence bouquet (Uncovered (place + 1) point)
uncovered-shown bouquet place contour point is_grid there at told =
    let costing = bouquet.costing in
    let found = uncovered-told costing contour.cost (budget_of bouquet.threshold contour.cost) contour.plans point told in
    let within = frontier-within costing contour.cost point (contained-in point (frontier costing contour.cost) found.0) in
    let dear = none-fits costing (budget_of bouquet.threshold contour.cost) contour.plans point found.1 in (
      omega arith,
      omega (arith, there),
      frontier-point costing contour.cost point is_grid found.0,
      subst (λ (one : ContourTree). optimal_cost costing point ≤ one.cost) (sym at) within,
      subst (λ (one : ContourTree). All (λ p. budget_of bouquet.threshold one.cost < cost_of costing p point) one.plans) (sym at) dear,
    )

-- a verdict that a point may decide
by-point : (bouquet : BouquetTree) (number : ℕ) (found : Option (List ℕ)) (rest : VerdictTree) → ((point : List ℕ) → found ≡ Some point → IsEvidence bouquet (Uncovered number point))
    → (found ≡ None → IsEvidence bouquet rest) → IsEvidence bouquet (option_map_or (Uncovered number) found rest)
by-point bouquet number None rest some none = none refl
by-point bouquet number (Some point) rest some none = some point refl

-- so does a step
by-step : (bouquet : BouquetTree) (found : Option ℕ) (rest : VerdictTree) → ((number : ℕ) → found ≡ Some number → IsEvidence bouquet (Step number))
    → (found ≡ None → IsEvidence bouquet rest) → IsEvidence bouquet (option_map_or Step found rest)
by-step bouquet None rest some none = none refl
by-step bouquet (Some number) rest some none = some number refl

-- the contours from a place on
cover-shown : (bouquet : BouquetTree) (place : ℕ) (left : List ContourTree) → IsGrid bouquet.costing.grid → drop place bouquet.contours ≡ left
    → (All (IsCovered bouquet) left → IsSound bouquet) → IsEvidence bouquet (cover_verdict bouquet.costing bouquet.threshold (place + 1) left)
cover-shown bouquet place [] is_grid at sound = sound (All-nil (IsCovered bouquet))
cover-shown bouquet place (contour ∷ more) is_grid at sound =
    let costing = bouquet.costing in
    let threshold = bouquet.threshold in
    let here = at-place bouquet.contours place contour more at in
    let number : numbered_contour bouquet (place + 1) ≡ contour = ap (λ n. get_or bouquet.contours n no_contour) (omega arith) ∙ here.here in
    by-point bouquet (place + 1) (uncovered_point costing contour.cost (budget_of threshold contour.cost) contour.plans)
    (cover_verdict costing threshold (place + 1 + 1) more)
    (λ point told. uncovered-shown bouquet place contour point is_grid here.there number told)
    (λ none. cover-shown bouquet (place + 1) more is_grid here.rest (λ all. sound (All-cons (IsCovered bouquet) contour more none all)))

step-shown : (bouquet : BouquetTree) (number : ℕ) → wrong_step 1 bouquet.contours ≡ Some number → IsEvidence bouquet (Step number)
step-shown bouquet number told = grind (arith, common_steps, wrong-told, get_or, no_contour)

pub verdict-shown : (bouquet : BouquetTree) → IsCosting bouquet.costing → IsEvidence bouquet (verdict_of bouquet)
unfolding verdict_of
verdict-shown bouquet is =
    let costing = bouquet.costing in
    let contours = bouquet.contours in
    let bottom = optimal_cost costing (bottom_of costing.grid) in
    let top = optimal_cost costing (top_of costing.grid) in
    let covers = cover_verdict costing bouquet.threshold 1 contours in
    elim (cases_Bool (nat_lt bottom (first_cost contours))) [
      | inl dear ↦ rw dear (ltb-true _ _ dear)
      | inr first ↦ rw first (
          by-step bouquet (wrong_step 1 contours) (cond (nat_lt (last_cost contours) top) Last covers) (step-shown bouquet) (
          λ doubled.
          elim (cases_Bool (nat_lt (last_cost contours) top)) [
            | inl cheap ↦ rw cheap (ltb-true _ _ cheap)
            | inr last ↦ rw last (
                cover-shown bouquet 0 contours is.grid refl (
                sound-by bouquet is.grid (ltb-false _ _ first) (doubled-none 1 contours doubled) (ltb-false _ _ last)
                )
                )
          ]
          )
          )
    ]
