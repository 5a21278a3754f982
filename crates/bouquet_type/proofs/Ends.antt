-- How a run over some members ends.
use Rattle.std.proofs.Common.{◌≡◌, ◌⊎◌, inl, inr, ℕ, ◌<◌, ◌≤◌, ◌++◌, List, [], ◌∷◌, length, nat_le, refl, ap, arith}
use Rattle.std.proofs.lemmas.Grind.{common_steps}
use Rattle.std.specs.Prelude.{All, sum_by}
use Rattle.std.proofs.lemmas.Bool.{le-leb, lt-leb, cases_lt}
use Rattle.std.proofs.lemmas.List.Elements.{All-nil, All-cons, All-head, All-tail}
use Rattle.std.proofs.lemmas.List.Sums.{sum_by-cons}
use Rattle.plan_tree.specs.Plans.{PlanTree}
use Rattle.bouquet_type.specs.Schedule.{Member}
use Rattle.bouquet_type.specs.Runs.{RunEnd, end_behind, end_of}

-- what some members spend that aren't done
abbrev pub spent_on : List Member → ℕ
spent_on members = sum_by (λ member. member.budget) members

-- the work of a member's plan passes its budget
abbrev pub IsPast : (work : PlanTree → ℕ) → Member → Type 0
IsPast work member = member.budget < work member.plan

same-end : (plan : PlanTree) (contour total other_total runs other_runs : ℕ) → total ≡ other_total → runs ≡ other_runs
    → (let one : RunEnd = record { plan = plan; total = total; runs = runs; contour = contour } in one) ≡ record { plan = plan; total = other_total; runs = other_runs; contour = contour }
same-end plan contour total other_total runs other_runs totals counts = λ i. record { plan = plan; total = totals i; runs = counts i; contour = contour }

-- they are passed by one after the other
pub end-passed : (work : PlanTree → ℕ) (before after : List Member) (final : PlanTree) → All (IsPast work) before
    → end_of work (before ++ after) final ≡ end_behind (spent_on before) (length before) (end_of work after final)
end-passed work [] after final past = grind (arith, common_steps, same-end)
end-passed work (member ∷ more) after final past =
    grind (arith, common_steps, nat_le, lt-leb, All-head, All-tail, same-end, sum_by-cons, end-passed work more after final (All-tail (IsPast work) member more past))

pub end-fits : (work : PlanTree → ℕ) (member : Member) (after : List Member) (final : PlanTree) → work member.plan ≤ member.budget
    → end_of work (member ∷ after) final ≡ record { plan = member.plan; total = work member.plan; runs = 1; contour = member.contour }
end-fits work member after final fits = grind (arith, common_steps, nat_le, le-leb)

-- the first member that fits, with what stands before and after it; or none fits
pub first-fits : (work : PlanTree → ℕ) (members : List Member)
    → ((before : List Member) × (member : Member) × (after : List Member) × (members ≡ before ++ member ∷ after) × All (IsPast work) before × (work member.plan ≤ member.budget)) ⊎ All (IsPast work) members
first-fits work [] = inr (All-nil (IsPast work))
first-fits work (member ∷ more) =
    elim (cases_lt member.budget (work member.plan)) [
      | inl past ↦ elim (first-fits work more) [
        | inl found ↦
            inl (member ∷ found.0, found.1, found.2, ap (λ others. member ∷ others) found.3, All-cons (IsPast work) member found.0 past found.4, found.5)
        | inr none ↦ inr (All-cons (IsPast work) member more past none)
      ]
      | inr fits ↦ inl ([], member, more, refl, All-nil (IsPast work), fits)
    ]
