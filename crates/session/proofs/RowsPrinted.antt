-- The rows that a plan found print as the rows that the block means.
use Rattle.std.proofs.Common.{◌≡◌, ℕ, ℤ, List, [], ◌∷◌, map, refl, sym, ap, subst}
use Rattle.std.specs.List.Sorted.{IsPermutation}
use Rattle.std.proofs.lemmas.List.Sorted.{IsPermutation-map}
use Rattle.sql_values.specs.Stored.{ValueRow}
use Rattle.query_block.specs.Blocks.{BlockTree}
use Rattle.query_block.specs.Combined.{combination_of}
use Rattle.query_block.specs.Meaning.{every_relation, meaning_of, projected, rows_of}
use Rattle.db_catalog.specs.Database.{DatabaseState}
use Rattle.exec_pipe.specs.Executions.{AreRowsOf}
use Rattle.result_text.specs.Combined.{printed, printed_rows}
use Rattle.result_text.specs.Printed.{table_text}
use Rattle.result_text.proofs.TableText.{table_text-permutation}

map-map : {X Y Z : Type 0} (f : X → Y) (g : Y → Z) (xs : List X) → map (λ x. g (f x)) xs ≡ map g (map f xs)
map-map f g [] = refl
map-map f g (x ∷ xs) = ap (λ l. g (f x) ∷ l) (map-map f g xs)

module _ (database : DatabaseState) (block : BlockTree) (words : List (List ℤ)) (are : AreRowsOf database block words) where
  moved : IsPermutation (printed_rows database.texts block words) (meaning_of database.tables block)
  moved =
      let combine = combination_of database.texts block.relations in
      let project = projected block.projection in
      subst (λ (rows : List ValueRow). IsPermutation rows (meaning_of database.tables block)) (sym (map-map combine project words))
      (IsPermutation-map project (map combine words) (rows_of database.tables block every_relation) are.values)

  pub printed_meaning : (names : List (List ℕ)) → table_text names (printed_rows database.texts block words) ≡ printed names database.tables block
  printed_meaning names = table_text-permutation names (printed_rows database.texts block words) (meaning_of database.tables block) moved
