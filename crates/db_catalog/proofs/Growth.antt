-- A block that fits a database fits it too once there is more in it.
use Rattle.std.proofs.Common.{◌≡◌, ◌∙◌, ℕ, ◌<◌, List, [], ◌∷◌, length, map, Contains, get_or, set, zero, suc, refl, sym, ap, subst, arith, length-append}
use Rattle.std.proofs.lemmas.List.{length-set, get_or_append_left}
use Rattle.std.proofs.lemmas.List.Elements.{All-weaker, Contains-append_left}
use Rattle.sql_values.specs.Stored.{StoredTable, ValueRow}
use Rattle.query_block.specs.Blocks.{RelationTree, BlockTree}
use Rattle.db_catalog.specs.Database.{DatabaseState, new_table, table_at, more_rows, more_indexed, with_rows, with_index, with_table}
use Rattle.db_catalog.specs.Fits.{FitsTable, Fits}

-- the table that a relation names is still there, with the same columns and all its indexes
record Keeps (old new : DatabaseState) (number : ℕ) : Type 0 where
  there : number < length new.tables
  columns : (table_at new number).columns ≡ (table_at old number).columns
  indexed : (column : ℕ) → Contains (table_at old number).indexed column → Contains (table_at new number).indexed column

still_fits : (old new : DatabaseState) (relation : RelationTree) → Keeps old new relation.table → FitsTable old relation → FitsTable new relation
still_fits old new relation keeps h = record {
  there = keeps.there;
  columns = h.columns ∙ ap (map (λ column. column.kind)) (sym keeps.columns);
  indexes = All-weaker (λ column. Contains (table_at old relation.table).indexed column) (λ column. Contains (table_at new relation.table).indexed column) keeps.indexed relation.indexes h.indexes;
}

-- what a change keeps of a table it keeps of all, where it is made to one of them
kept_of : (P : StoredTable → StoredTable → Type 0) (change : StoredTable → StoredTable) → ((table : StoredTable) → P table table) → ((table : StoredTable) → P table (change table)) →
    (tables : List StoredTable) (number n : ℕ) (d : StoredTable) → P (get_or tables n d) (get_or (set tables number (change (get_or tables number d))) n d)
kept_of P change same made [] number n d = same d
kept_of P change same made (table ∷ tables) zero zero d = made table
kept_of P change same made (table ∷ tables) zero (suc n) d = same (get_or tables n d)
kept_of P change same made (table ∷ tables) (suc number) zero d = same table
kept_of P change same made (table ∷ tables) (suc number) (suc n) d = kept_of P change same made tables number n d

-- the columns and the indexes of a table are kept
abbrev SameColumns : StoredTable → StoredTable → Type 0
SameColumns old new = new.columns ≡ old.columns

abbrev KeepsIndexes : StoredTable → StoredTable → Type 0
KeepsIndexes old new = (column : ℕ) → Contains old.indexed column → Contains new.indexed column

-- where one table of a database is changed so, a block still fits
fits_changed : (old new : DatabaseState) (change : StoredTable → StoredTable) (number : ℕ) (block : BlockTree) → new.tables ≡ set old.tables number (change (table_at old number)) →
    ((table : StoredTable) → SameColumns table (change table)) → ((table : StoredTable) → KeepsIndexes table (change table)) → Fits old block → Fits new block
fits_changed old new change number block tables columns indexed h k d here =
    let n = (get_or block.relations k d).table in
    still_fits old new _ (record {
      there = omega (arith, (h k d here).there, length-set old.tables number (change (table_at old number)), ap length tables);
      columns =
          ap (λ l. (get_or l n (new_table [] [])).columns) tables
          ∙ kept_of SameColumns change (λ table. refl) columns old.tables number n (new_table [] []);
      indexed = subst (λ l. KeepsIndexes (table_at old n) (get_or l n (new_table [] []))) (sym tables) (kept_of KeepsIndexes change (λ table column has. has) indexed old.tables number n (new_table [] []));
    }) (h k d here)

pub fits_with_rows : (database : DatabaseState) (number : ℕ) (rows : List ValueRow) (block : BlockTree) → Fits database block → Fits (with_rows database number rows) block
fits_with_rows database number rows block h =
    fits_changed database (with_rows database number rows) (λ table. more_rows table rows) number block refl (λ table. refl) (λ table column has. has) h

pub fits_with_index : (database : DatabaseState) (name : List ℕ) (number column : ℕ) (block : BlockTree) → Fits database block → Fits (with_index database name number column) block
fits_with_index database name number column block h =
    fits_changed database (with_index database name number column) (λ table. more_indexed table column) number block refl (λ table. refl)
    (λ table other has. Contains-append_left table.indexed (column ∷ []) other has) h

pub fits_with_table : (database : DatabaseState) (table : StoredTable) (block : BlockTree) → Fits database block → Fits (with_table database table) block
fits_with_table database table block h k d here =
    let there = (h k d here).there in
    let same = get_or_append_left database.tables (table ∷ []) (new_table [] []) _ there in
    still_fits database (with_table database table) _ (record {
      there = omega (arith, there, length-append database.tables (table ∷ []));
      columns = ap (λ one. one.columns) same;
      indexed = λ column. subst (λ one. Contains one.indexed column) (sym same);
    }) (h k d here)
