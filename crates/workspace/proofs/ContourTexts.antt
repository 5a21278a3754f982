-- The texts of plans and of contours, one more behind the others.
use Rattle.std.proofs.Common.{◌≡◌, ◌∙◌, ℕ, zero, suc, ◌+◌, ◌<◌, List, [], ◌∷◌, ◌++◌, length, map, take, get_or, refl, sym, ap, append_assoc, append-nil, arith}
use Rattle.std.specs.Prelude.{codes}
use Rattle.plan_tree.specs.Plans.{PlanTree, plan_tree}
use Rattle.std.proofs.lemmas.List.{take_more, map-append, length-map, length-take-le}
use Rattle.plan_tree.specs.declared.plan.Plan.{Plan}
use Rattle.plan_tree.specs.Text.{plan_text_of}
use Rattle.bouquet_type.specs.Budgets.{budget_of}
use Rattle.bouquet_type.specs.Trees.{ContourTree, contour_tree}
use Rattle.bouquet_type.specs.declared.contour.Contour.{Contour}
use Rattle.workspace.specs.Printed.{plan_texts, contour_line, contour_lines}

-- a space, behind plans
abbrev pub space_behind : List PlanTree → List ℕ
space_behind [] = []
space_behind (p ∷ more) = codes " "

pub plan_texts-more : (ps : List PlanTree) (p : PlanTree) → plan_texts (ps ++ p ∷ []) ≡ plan_texts ps ++ (space_behind ps ++ plan_text_of p)
plan_texts-more [] p = refl
plan_texts-more (q ∷ []) p = refl
plan_texts-more (q ∷ other ∷ more) p =
    ap (λ l. plan_text_of q ++ (codes " " ++ l)) (plan_texts-more (other ∷ more) p)
    ∙ sym (append_assoc (plan_text_of q) (codes " " ++ plan_texts (other ∷ more)) (codes " " ++ plan_text_of p))

pub contour_lines-more : (threshold number : ℕ) (contours : List ContourTree) (contour : ContourTree)
    → contour_lines threshold number (contours ++ contour ∷ []) ≡ contour_lines threshold number contours ++ contour_line (number + length contours) (budget_of threshold contour.cost) contour
contour_lines-more threshold number [] contour =
    let line = λ (n : ℕ) (one : ContourTree). contour_line n (budget_of threshold one.cost) one in
    let same : number ≡ number + 0 = omega arith in
    append-nil (line number contour) ∙ ap (λ n. line n contour) same
contour_lines-more threshold number (first ∷ more) contour =
    let line = λ (n : ℕ) (one : ContourTree). contour_line n (budget_of threshold one.cost) one in
    let same : number + 1 + length more ≡ number + suc (length more) = omega arith in
    ap (λ l. line number first ++ l) (contour_lines-more threshold (number + 1) more contour)
    ∙ sym (append_assoc (line number first) (contour_lines threshold (number + 1) more) _)
    ∙ ap (λ n. line number first ++ contour_lines threshold (number + 1) more ++ line n contour) same

-- the first plans have none before them, or some
pub unspaced : (place : ℕ) (plans : List Plan) → place ≡ 0 → space_behind (map plan_tree (take place plans)) ≡ []
unspaced zero plans is = refl
unspaced (suc place) plans is = absurd (omega (arith, is))

pub spaced : (place : ℕ) (plans : List Plan) → 0 < place → place < length plans → space_behind (map plan_tree (take place plans)) ≡ codes " "
spaced zero plans some there = absurd (omega (arith, some))
spaced (suc place) [] some there = absurd (omega (arith, there))
spaced (suc place) (p ∷ plans) some there = refl

-- the text of one plan more
pub plans_more : (place : ℕ) (plans : List Plan) (p : Plan) (start before text after : List ℕ) → place < length plans → p ≡ get_or plans place p
    → before ≡ start ++ plan_texts (map plan_tree (take place plans)) → text ≡ before ++ space_behind (map plan_tree (take place plans)) → after ≡ text ++ plan_text_of (plan_tree p)
    → after ≡ start ++ plan_texts (map plan_tree (take (place + 1) plans))
plans_more place plans p start before text after there is begun spaced put =
    let first = map plan_tree (take place plans) in
    let more : map plan_tree (take (place + 1) plans) ≡ first ++ plan_tree p ∷ [] =
    ap (map plan_tree) (take_more plans place p there) ∙ map-append plan_tree (take place plans) (get_or plans place p ∷ [])
    ∙ ap (λ q. first ++ plan_tree q ∷ []) (sym is) in
    let texts : plan_texts (map plan_tree (take (place + 1) plans)) ≡ plan_texts first ++ (space_behind first ++ plan_text_of (plan_tree p)) =
    ap plan_texts more ∙ plan_texts-more first (plan_tree p) in
    put ∙ ap (λ l. l ++ plan_text_of (plan_tree p)) (spaced ∙ ap (λ l. l ++ space_behind first) begun)
    ∙ append_assoc (start ++ plan_texts first) (space_behind first) (plan_text_of (plan_tree p))
    ∙ append_assoc start (plan_texts first) (space_behind first ++ plan_text_of (plan_tree p))
    ∙ ap (λ l. start ++ l) (sym texts)

-- the line of one contour more
pub contours_more : (threshold place : ℕ) (contours : List Contour) (contour : Contour) (before after : List ℕ) → place < length contours → contour ≡ get_or contours place contour
    → before ≡ contour_lines threshold 1 (map contour_tree (take place contours)) → after ≡ before ++ contour_line (place + 1) (budget_of threshold contour.cost) (contour_tree contour)
    → after ≡ contour_lines threshold 1 (map contour_tree (take (place + 1) contours))
contours_more threshold place contours contour before after there is begun put =
    let first = map contour_tree (take place contours) in
    let more : map contour_tree (take (place + 1) contours) ≡ first ++ contour_tree contour ∷ [] =
    ap (map contour_tree) (take_more contours place contour there) ∙ map-append contour_tree (take place contours) (get_or contours place contour ∷ [])
    ∙ ap (λ one. first ++ contour_tree one ∷ []) (sym is) in
    let number : place + 1 ≡ 1 + length first = omega (arith, length-map (take place contours) contour_tree, length-take-le place contours (omega (arith, there))) in
    let line = λ (n : ℕ). contour_line n (budget_of threshold contour.cost) (contour_tree contour) in
    put ∙ ap (λ l. l ++ line (place + 1)) begun ∙ ap (λ n. contour_lines threshold 1 first ++ line n) number
    ∙ sym (contour_lines-more threshold 1 first (contour_tree contour)) ∙ ap (contour_lines threshold 1) (sym more)

pub cost_there : (contours : List Contour) (place : ℕ) (contour : Contour) → place < length contours → contour ≡ get_or contours place contour
    → get_or (map (λ (one : Contour). one.cost) contours) place 0 ≡ contour.cost
cost_there [] place contour there is = absurd (omega (arith, there))
cost_there (first ∷ more) zero contour there is = ap (λ (one : Contour). one.cost) (sym is)
cost_there (first ∷ more) (suc place) contour there is = cost_there more place contour (omega (arith, there)) is
