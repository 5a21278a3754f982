-- One conjunct more, and what it adds to the filters and edges.
use Rattle.std.proofs.Common.{◌≡◌, ◌∙◌, ℕ, zero, suc, ◌+◌, ◌<◌, ◌≤◌, Bool, false, cond, List, [], ◌∷◌, ◌++◌, length, map, set, get_or, Some, None, refl, ap, arith, append-nil, append_assoc, filter}
use Rattle.std.proofs.lemmas.Grind.{common_steps}
use Rattle.std.proofs.lemmas.List.{map-append}
use Rattle.std.proofs.lemmas.List.Elements.{filter-append, filter_map-append}
use Rattle.std.specs.declared.alloc.Global.{Global}
use Rattle.std.specs.declared.vec.Vec.{Vec}
use Rattle.query_block.specs.declared.condition.Condition.{Condition}
use Rattle.query_block.specs.declared.edge.Edge.{Edge}
use Rattle.query_block.specs.Conditions.{FilterTree, filter_tree}
use Rattle.sql_bind.specs.declared.conjuncts.WhereParts.{WhereParts}
use Rattle.sql_bind.specs.declared.reach.Reach.{Reach}
use Rattle.sql_bind.specs.declared.reach.Reach.TheVariants.{One, Several}
use Rattle.sql_bind.specs.Conjuncts.{Conjunct, is_filter_of, edge_in}
use Rattle.sql_bind.specs.Binding.{filter_of}
use Rattle.sql_bind.specs.Collected.{AddsConjuncts, HasParts, filter_trees, more_filters, with_condition}

pub pushed : (filters : List (Vec Condition Global)) (at : ℕ) (old new : Vec Condition Global) (condition : FilterTree) → at < length filters
    → old ≡ get_or filters at old → map filter_tree new.items ≡ map filter_tree old.items ++ condition ∷ []
    → filter_trees (set filters at new) ≡ with_condition at condition (filter_trees filters)
pushed [] at old new condition below is push = absurd (omega (arith, below))
pushed (filter ∷ filters) zero old new condition below is push =
    ap (λ trees. trees ∷ filter_trees filters) (push ∙ ap (λ (f : Vec Condition Global). map filter_tree f.items ++ condition ∷ []) is)
pushed (filter ∷ filters) (suc at) old new condition below is push =
    ap (λ trees. map filter_tree filter.items ∷ trees) (pushed filters at old new condition (omega (arith, below)) is push)

pub not_pushed : (filters : List (Vec Condition Global)) (at : ℕ) (condition : FilterTree) → length filters ≤ at
    → filter_trees filters ≡ with_condition at condition (filter_trees filters)
not_pushed [] at condition past = refl
not_pushed (filter ∷ filters) zero condition past = absurd (omega (arith, past))
not_pushed (filter ∷ filters) (suc at) condition past =
    ap (λ trees. map filter_tree filter.items ∷ trees) (not_pushed filters at condition (omega (arith, past)))

-- what one conjunct adds to the filter of a relation, by whether it is one of it
abbrev picked : Conjunct → Bool → List FilterTree
picked conjunct here = map (λ one. one.tree) (cond here (conjunct ∷ []) [])

picks : (conjunct : Conjunct) (relation : ℕ) (reached : Reach) → conjunct.reach ≡ reached
    → filter_of (conjunct ∷ []) relation ≡ picked conjunct (is_filter_of relation reached)
picks conjunct relation reached is = ap (λ r. picked conjunct (is_filter_of relation r)) is

-- it adds nothing where it is a filter of none from here on
adds_none : (conjunct : Conjunct) (relation : ℕ) (reached : Reach) (filters : List (List FilterTree)) → conjunct.reach ≡ reached
    → ((later : ℕ) → relation ≤ later → is_filter_of later reached ≡ false) → more_filters (conjunct ∷ []) relation filters ≡ filters
adds_none conjunct relation reached [] is none = refl
adds_none conjunct relation reached (filter ∷ filters) is none =
    grind (arith, common_steps, picks, append-nil, adds_none conjunct (relation + 1) reached filters is (λ later le. none later (omega (arith, le))))

adds_condition : (conjunct : Conjunct) (start at relation : ℕ) (filters : List (List FilterTree)) → conjunct.reach ≡ One relation
    → relation ≡ start + at → more_filters (conjunct ∷ []) start filters ≡ with_condition at conjunct.tree filters
adds_condition conjunct start at relation [] is where_it_is = refl
adds_condition conjunct start zero relation (filter ∷ filters) is where_it_is =
    grind (arith, common_steps, picks, adds_none)
adds_condition conjunct start (suc at) relation (filter ∷ filters) is where_it_is =
    grind (arith, common_steps, picks, append-nil, adds_condition conjunct (start + 1) at relation filters is (omega (arith, where_it_is)))

-- a filter
pub adds-filter : (conjunct : Conjunct) (relation : ℕ) (old new : WhereParts) → conjunct.reach ≡ One relation → new.edges.items ≡ old.edges.items
    → filter_trees new.filters.items ≡ with_condition relation conjunct.tree (filter_trees old.filters.items) → AddsConjuncts (conjunct ∷ []) old new
adds-filter conjunct relation old new is edges filters = grind (arith, common_steps, append-nil, adds_condition)

-- an edge
pub adds-edge : (conjunct : Conjunct) (edge : Edge) (old new : WhereParts) → conjunct.reach ≡ Several → conjunct.equality ≡ Some edge
    → new.edges.items ≡ old.edges.items ++ edge ∷ [] → filter_trees new.filters.items ≡ filter_trees old.filters.items → AddsConjuncts (conjunct ∷ []) old new
adds-edge conjunct edge old new is equal edges filters = grind (arith, common_steps, adds_none)

-- neither
pub adds-neither : (conjunct : Conjunct) (parts : WhereParts) → edge_in conjunct.reach conjunct.equality ≡ None → ((relation : ℕ) → is_filter_of relation conjunct.reach ≡ false)
    → AddsConjuncts (conjunct ∷ []) parts parts
adds-neither conjunct parts edge filter = grind (arith, common_steps, append-nil, adds_none)

pub filters-nothing : (relation : ℕ) (filters : List (List FilterTree)) → more_filters [] relation filters ≡ filters
filters-nothing relation [] = refl
filters-nothing relation (filter ∷ filters) =
    ap (λ first. first ∷ more_filters [] (relation + 1) filters) (append-nil filter) ∙ ap (λ more. filter ∷ more) (filters-nothing (relation + 1) filters)

filter_of-append : (one other : List Conjunct) (relation : ℕ) → filter_of (one ++ other) relation ≡ filter_of one relation ++ filter_of other relation
filter_of-append one other relation = grind (arith, common_steps, filter-append, map-append)

filters-both : (one other : List Conjunct) (relation : ℕ) (filters : List (List FilterTree))
    → more_filters other relation (more_filters one relation filters) ≡ more_filters (one ++ other) relation filters
filters-both one other relation [] = refl
filters-both one other relation (filter ∷ filters) =
    grind (arith, common_steps, append_assoc, filter_of-append, filters-both one other (relation + 1) filters)

-- parts with one conjunct more
pub has-more : (relations : ℕ) (before conjuncts : List Conjunct) (old new : WhereParts) → HasParts relations before old → AddsConjuncts conjuncts old new
    → HasParts relations (before ++ conjuncts) new
has-more relations before conjuncts old new has adds = grind (arith, common_steps, filter_map-append, filters-both)

pub trees-count : (filters : List (Vec Condition Global)) → length (filter_trees filters) ≡ length filters
trees-count [] = refl
trees-count (filter ∷ filters) = omega (arith, trees-count filters)

pub trees-push : (filters : List (Vec Condition Global)) (filter : Vec Condition Global) → filter_trees (filters ++ filter ∷ []) ≡ filter_trees filters ++ map filter_tree filter.items ∷ []
trees-push [] filter = refl
trees-push (first ∷ filters) filter = ap (λ more. map filter_tree first.items ∷ more) (trees-push filters filter)
