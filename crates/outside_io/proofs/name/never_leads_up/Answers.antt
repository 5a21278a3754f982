-- Each component was looked at until one led up.
use Rattle.std.proofs.Common.{◌≡◌, ◌≢◌, ◌<◌, ◌↔◌, ℕ, Bool, true, false, List, All, IsTrue}
use Rattle.std.proofs.Common.{length, rules, lit<}
use Rattle.std.specs.Bool.{MatchBool}
use Rattle.std.specs.List.{AllWithin, HoldsAt}
use Rattle.std.specs.Path.{parent_dir}
use Rattle.std.proofs.lemmas.Iterator.{cases_from_all}
use Rattle.std.proofs.lemmas.Iterator.Splits.{YieldsList-from_str_split}
use Rattle.std.proofs.lemmas.List.Elements.{All-from_all_within}
use borrow.Author.Tests.{tests}
use Rattle.outside_io.proofs.name.never_leads_up.Goals as goal

abbrev LeadsUp : List ℕ → Type 0
LeadsUp component = component ≡ parent_dir

abbrev GoesOn : List ℕ → Type 0
GoesOn component = component ≢ parent_dir

decided : (components : List (List ℕ)) (answer : Bool)
    → MatchBool answer (AllWithin GoesOn components 0 (length components))
    ((k : ℕ) × (k < length components) × HoldsAt LeadsUp components k)
    → IsTrue answer ↔ All GoesOn components
decided components true all =
    (λ _. All-from_all_within GoesOn components all, λ _. search rules)
decided components false (k, within, up) =
    (λ wrong. search rules, λ all. search (rules, all k parent_dir within (up parent_dir)))

pub returns : goal.returns
returns c =
    decided _ _ (cases_from_all _ _ _ GoesOn LeadsUp c.all.ensures.ran
    (YieldsList-from_str_split 47 c.args.name.now (lit< tt)
    c.split.ensures.text c.split.ensures.has_more c.split.ensures.pattern)
    (λ x q k. search (rules, tests)) (λ x q k. search (rules, tests)))
