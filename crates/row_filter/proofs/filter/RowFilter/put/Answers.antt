use Rattle.std.proofs.Common.{◌≡◌, ◌∷◌, ◌++◌, ◌∙◌, [], set, refl, sym, ap, subst, inl, inr}
use Rattle.std.specs.Bool.{if◌then◌else◌}
use Rattle.std.specs.Result.{is_ok}
use Rattle.row_filter.specs.RowFilters.{FilterRanges, TellAll}
use Rattle.row_filter.proofs.Covers.{both_of}
use Rattle.row_filter.proofs.Narrower.{more-told, narrower-told}
use Rattle.row_filter.proofs.filter.RowFilter.put.Goals as goal

pub returns-in-Some : goal.returns-in-Some
returns-in-Some c =
    let filter = c.args.self.now in
    let narrowed = c.in-Some.narrowed in
    let unions = ap (λ (f : FilterRanges). f.unions) c.self.view_is in
    inl (record {
      tells = λ texts kinds test other all more. subst (TellAll texts kinds (both_of test other)) (λ k. set (sym unions k) narrowed.place narrowed.union)
          (narrower-told texts kinds test other c.args.union more filter narrowed c.in-Some.ensures all);
      exact = ap (λ (f : FilterRanges). f.exact) c.self.view_is;
    })

pub returns-in-Ok : goal.returns-in-Ok
returns-in-Ok c =
    let own = c.self.inside.unions.items in
    let pushed : c.push.new.self.items ≡ own ++ c.args.union ∷ [] = c.push.ensures.items ∙ ap (λ r. if is_ok r then own ++ c.args.union ∷ [] else own) c.in-Ok.is in
    let unions = pushed ∙ ap (λ (f : FilterRanges). f.unions ++ c.args.union ∷ []) c.self.view_is in
    inl (record {
      tells = λ texts kinds test other all more. subst (TellAll texts kinds (both_of test other)) (sym unions) (more-told texts kinds test other c.args.union more c.args.self.now.unions all);
      exact = ap (λ (f : FilterRanges). f.exact) c.self.view_is;
    })
