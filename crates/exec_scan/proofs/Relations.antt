-- A relation of a block as it is kept and as it is seen, and the rows of its table: the first of those ahead, once it is read.
use Rattle.std.proofs.Common.{◌≡◌, ℕ, ℤ, Bool, true, cond, IfOk, List, ◌∷◌, filter, Option, Some, None, MatchOption, map, Result, Ok, Err, sym, ap, subst, ◌∙◌}
use Rattle.sql_values.specs.Words.{word_of}
use Rattle.sql_values.specs.Stored.{ValueRow, StandsFor, values_of}
use Rattle.query_block.specs.Blocks.{RelationTree}
use Rattle.db_catalog.specs.Database.{DatabaseState, table_at}
use Rattle.db_catalog.specs.Fits.{FitsTable}
use Rattle.db_catalog.proofs.OfRelations.{relation_words, relation_values}
use Rattle.exec_scan.specs.Reading.{IsFirstRow}

-- so the words of the first of the rows ahead, once it is read, stand for it
pub first-of : (database : DatabaseState) (own : RelationTree) (table : ℕ) (row : ValueRow) (old new : List ValueRow) (words : List ℤ) → FitsTable database own → table ≡ own.table
    → old ≡ row ∷ new → StandsFor database.texts (table_at database table).columns words row → IsFirstRow database.texts own old new words
first-of database own table row old new words fits same is stands =
    let own_stands = subst (λ (t : ℕ). StandsFor database.texts (table_at database t).columns words row) same stands in
    record {
      are = record {
        allowed = relation_words database own fits words row own_stands;
        by_value = own_stands.by_value ∙ ap (map (word_of database.texts)) (sym (relation_values database own fits words row own_stands));
      };
      first = is ∙ ap (λ (first : ValueRow). first ∷ new) (sym (relation_values database own fits words row own_stands));
    }

-- it is the first of those that a test keeps
pub first-kept : (texts : List (List ℕ)) (own : RelationTree) (old new : List ValueRow) (words : List ℤ) → IsFirstRow texts own old new words → (p : ValueRow → Bool) → p (values_of texts own.columns words) ≡ true
    → IsFirstRow texts own (filter p old) (filter p new) words
first-kept texts own old new words is p meets = record { are = is.are; first = ap (filter p) is.first ∙ ap (λ b. cond b (values_of texts own.columns words ∷ filter p new) (filter p new)) meets }

-- what follows of an answer that may give something
pub found-weaker : {T E : Type 0} {P P' : Type 0} {Q Q' : T → Type 0} (result : Result (Option T) E) → (P → P') → ((x : T) → Q x → Q' x) → IfOk result (λ found. MatchOption found P Q) → IfOk result (λ found. MatchOption found P' Q')
found-weaker (Ok None) none some is = none is
found-weaker (Ok (Some x)) none some is = some x is
found-weaker (Err fault) none some is = tt
