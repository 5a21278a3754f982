use Rattle.std.proofs.Common.{w64, to_z, of_z, ◌≡◌, ◌∙◌, List, ℤ, length, subst, arith}
use Rattle.std.proofs.lemmas.Int.{to_z-of_z}
use Rattle.std.specs.List.Sorted.{IsBinarySearchResult, IsSearchInRange}
use Rattle.std.specs.Ordering.{int_cmp}
use Rattle.row_filter.proofs.Searched.{searched}
use Rattle.row_filter.proofs.in_list.InList.has.Goals as goal

pub returns : goal.returns
returns c =
    let word = c.args.word in
    let words = c.args.self.now.words.items in
    let lent = c.deref.ensures.value in
    let same : to_z w64 (of_z w64 word) ≡ word = grind (arith, to_z-of_z) in
    let told = rw same at c.binary_search.ensures.position in
    c.is_ok.ensures.value
    ∙ searched words word c.binary_search.result c.requires
    (subst (λ (ws : List ℤ). IsSearchInRange c.binary_search.result (length ws)) lent c.binary_search.ensures.bound)
    (subst (λ (ws : List ℤ). IsBinarySearchResult (λ one. int_cmp one word) ws c.binary_search.result) lent told)
