use Rattle.std.proofs.Common.{◌≡◌, ◌++◌, ◌∷◌, ◌<◌, ◌||◌, [], ℕ, Bool, true, false, suc, length, slice_index_or, refl, subst, sym, ap, ◌∙◌, arith, length-append, inl, inr}
use Rattle.std.proofs.lemmas.Bool.{cases_lt}
use Rattle.std.proofs.lemmas.List.{get_or_append_left, get_or_push}
use Rattle.result_text.specs.Ties.{TieAt}
use Rattle.result_text.proofs.ties.ties.Goals.{then-before, else-before}
use Rattle.result_text.proofs.ties.ties.Goals as goal

or_true : (b : Bool) → (b || true) ≡ true
or_true true = refl
or_true false = refl

pub loop-place-preserved : goal.loop-place-preserved
loop-place-preserved c =
    let place = c.loop-place.place in
    let old = c.loop-place.ties.items in
    let mark = c.if-before.push in
    let either : mark ≡ (c.loop-place.before || c.tie_at-behind.result) =
    elim c.if-before.branch [
      | then-before w ↦ rw (w.push-is, w.if-before.true) refl
      | else-before w ↦ rw (w.push-is, w.if-before.false) refl
    ] in
    let pushed : c.push.new.self.items ≡ old ++ mark ∷ [] = c.in_ok-push.ensures.items in
    let here : (d : Bool) → slice_index_or (old ++ mark ∷ []) place d ≡ mark = λ d. get_or_push old mark d place c.loop-place.invariant.long in
    let before : (k : ℕ) (d : Bool) → k < place → slice_index_or (old ++ mark ∷ []) k d ≡ slice_index_or old k d = λ k d less. get_or_append_left old (mark ∷ []) d k (omega (arith, c.loop-place.invariant.long)) in
    record {
      long = omega (arith, ap length pushed, length-append old (mark ∷ []), c.loop-place.invariant.long);
      before = λ k same tie. let one : k ≡ place = omega arith in c.tie_at-behind.ensures (subst (TieAt c.args.count c.args.rows.now) one tie);
      marked = λ k d less tie. rw pushed (elim (cases_lt k place) [
        | inl below ↦ before k d below ∙ c.loop-place.invariant.marked k d below tie
        | inr past ↦
            let one : place ≡ k = omega arith in
            let yes' : c.tie_at-behind.result ≡ true = c.tie_at-behind.ensures (subst (TieAt c.args.count c.args.rows.now) (sym one) tie) in
            subst (λ n. slice_index_or (old ++ mark ∷ []) n d ≡ true) one (here d ∙ either ∙ ap (λ b. c.loop-place.before || b) yes' ∙ or_true c.loop-place.before)
      ]);
      behind = λ k d less tie. rw pushed (elim (cases_lt (suc k) place) [
        | inl below ↦ before (suc k) d below ∙ c.loop-place.invariant.behind k d below tie
        | inr past ↦
            let one : place ≡ suc k = omega arith in
            let yes' : c.loop-place.before ≡ true = c.loop-place.invariant.before k (sym one) tie in
            subst (λ n. slice_index_or (old ++ mark ∷ []) n d ≡ true) one (here d ∙ either ∙ ap (λ b. b || c.tie_at-behind.result) yes')
      ]);
    }
