-- The fixed conjuncts of a filter from one on.
use Rattle.std.proofs.Common.{◌≡◌, ℕ, get_or, ◌+◌, ◌&&◌, ◌||◌, ◌<◌, Bool, List, drop, length, map, sym, ap, ◌∙◌}
use Rattle.table_stats.specs.declared.filter.FixedConjunct.{FixedConjunct}
use Rattle.std.specs.List.{list_all, list_any}
use Rattle.std.proofs.lemmas.List.{at_drop_more}
use Rattle.sql_values.specs.Stored.{ValueRow}
use Rattle.query_block.specs.Conditions.{FilterTree}
use Rattle.query_block.specs.Meaning.{is_true, meets_filter}
use Rattle.query_block.specs.Truth.{truth_of}
use Rattle.table_stats.specs.Ready.{own_tree}

-- ---- the conjuncts from one on, where this one is tried

module _ (lent : List FixedConjunct) (i : ℕ) (one : FixedConjunct) (below : i < length lent) (is : one ≡ get_or lent i one) where
  pub any-next : (test : FilterTree → Bool) (b : Bool) → b ≡ test (own_tree one) → list_any test (map own_tree (drop i lent)) ≡ (b || list_any test (map own_tree (drop (i + 1) lent)))
  any-next test b tried =
      at_drop_more (λ (all : List FixedConjunct). list_any test (map own_tree all)) lent i one below
      ∙ ap (λ (here : Bool). here || list_any test (map own_tree (drop (i + 1) lent))) (ap (λ (here : FixedConjunct). test (own_tree here)) (sym is) ∙ sym tried)

  pub all-next : (test : FilterTree → Bool) (b : Bool) → b ≡ test (own_tree one) → list_all test (map own_tree (drop i lent)) ≡ (b && list_all test (map own_tree (drop (i + 1) lent)))
  all-next test b tried =
      at_drop_more (λ (all : List FixedConjunct). list_all test (map own_tree all)) lent i one below
      ∙ ap (λ (here : Bool). here && list_all test (map own_tree (drop (i + 1) lent))) (ap (λ (here : FixedConjunct). test (own_tree here)) (sym is) ∙ sym tried)

  pub met-next : (row : ValueRow) (b : Bool) → b ≡ is_true (truth_of (own_tree one) row)
      → meets_filter (map own_tree (drop i lent)) row ≡ (b && meets_filter (map own_tree (drop (i + 1) lent)) row)
  met-next row b tried =
      at_drop_more (λ (all : List FixedConjunct). meets_filter (map own_tree all) row) lent i one below
      ∙ ap (λ (here : Bool). here && meets_filter (map own_tree (drop (i + 1) lent)) row)
      (ap (λ (here : FixedConjunct). is_true (truth_of (own_tree here) row)) (sym is) ∙ sym tried)
