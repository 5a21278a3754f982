-- The counts of a bouquet are those of tables that only grow, so where none of them has more rows they are those of the tables.
use Rattle.std.proofs.Common.{◌≡◌, ◌∙◌, ℕ, zero, suc, ◌+◌, Bool, true, false, List, [], ◌∷◌, ◌++◌, All, length, map, get_or, set, Option, Some, None, refl, sym, ap, append_assoc, append-nil, arith, if◌then◌else◌}
use Rattle.std.specs.Prelude.{nat_eq}
use Rattle.std.specs.Option.{option_or}
use Rattle.std.proofs.lemmas.Bool.{eqb-true}
use Rattle.std.proofs.lemmas.List.{length-append, nil_from_length}
use Rattle.sql_values.specs.Stored.{StoredTable, ValueRow}
use Rattle.query_block.specs.Blocks.{RelationTree}
use Rattle.query_block.specs.Meaning.{rows_at}
use Rattle.plan_tree.specs.Work.{table_rows}
use Rattle.cost_model.specs.Counts.{relation_stats_of}
use Rattle.cost_model.specs.declared.stale.CountName.{CountName}
use Rattle.cost_model.specs.declared.stale.CountName.TheVariants.{Rows}
use Rattle.cost_model.specs.declared.stats.RelationStats.{RelationStats}
use Rattle.cost_model.specs.declared.stale.Stale.{Stale}
use Rattle.cost_model.specs.declared.stats.Stats.{Stats}
use Rattle.cost_model.specs.Staleness.{changed}
use Rattle.table_stats.specs.Fresh.{first_stale, stale_in}
use Rattle.db_catalog.specs.Database.{DatabaseState, more_indexed, more_rows, new_table, with_index, with_rows, with_table}
use Rattle.bouquet_type.specs.Trees.{BouquetTree}
use Rattle.workspace.specs.Counted.{HasCountsOf, HaveGrown, IsCountedBefore}
use Rattle.workspace.specs.Present.{stale_count}

as_before : (rows : List ValueRow) → HaveGrown rows rows
as_before rows = ([], sym (append-nil rows))

grown_again : (old middle new : List ValueRow) → HaveGrown old middle → HaveGrown middle new → HaveGrown old new
grown_again old middle new first second = (first.0 ++ second.0, second.1 ∙ ap (λ rows. rows ++ second.0) first.1 ∙ append_assoc old first.0 second.0)

-- the rows of every table have grown
abbrev pub Grows : (old new : DatabaseState) → Type 0
Grows old new = (number : ℕ) → HaveGrown (rows_at old.tables number) (rows_at new.tables number)

-- where one table is changed so
one_grows : (change : StoredTable → StoredTable) → ((table : StoredTable) → HaveGrown table.rows (change table).rows)
    → (tables : List StoredTable) (place number : ℕ)
    → HaveGrown (rows_at tables number) (rows_at (set tables place (change (get_or tables place (new_table [] [])))) number)
one_grows change grows [] place number = as_before []
one_grows change grows (table ∷ tables) zero zero = grows table
one_grows change grows (table ∷ tables) zero (suc number) = as_before (rows_at tables number)
one_grows change grows (table ∷ tables) (suc place) zero = as_before table.rows
one_grows change grows (table ∷ tables) (suc place) (suc number) = one_grows change grows tables place number

pub grows_with_rows : (database : DatabaseState) (number : ℕ) (rows : List ValueRow) → Grows database (with_rows database number rows)
grows_with_rows database number rows = one_grows (λ table. more_rows table rows) (λ table. (rows, refl)) database.tables number

pub grows_with_index : (database : DatabaseState) (name : List ℕ) (number column : ℕ) → Grows database (with_index database name number column)
grows_with_index database name number column = one_grows (λ table. more_indexed table column) (λ table. as_before table.rows) database.tables number

more_tables : (tables more : List StoredTable) (number : ℕ) → HaveGrown (rows_at tables number) (rows_at (tables ++ more) number)
more_tables [] more number = (rows_at more number, refl)
more_tables (table ∷ tables) more zero = as_before table.rows
more_tables (table ∷ tables) more (suc number) = more_tables tables more number

pub grows_with_table : (database : DatabaseState) (table : StoredTable) → Grows database (with_table database table)
grows_with_table database table = more_tables database.tables (table ∷ [])

-- what was counted once stays so, at first over the same tables
pub counted_before : (old new : DatabaseState) (bouquet : BouquetTree) → Grows old new → IsCountedBefore old bouquet → IsCountedBefore new bouquet
counted_before old new bouquet grows counted = record {
  tables = counted.tables;
  counts = counted.counts;
  grown = λ place other there.
      let relation = get_or bouquet.costing.block.relations place other in
      grown_again (table_rows counted.tables relation) (table_rows old.tables relation) (table_rows new.tables relation)
      (counted.grown place other there) (grows relation.table);
}

pub counted_now : (database : DatabaseState) (bouquet : BouquetTree) → HasCountsOf database.tables bouquet → IsCountedBefore database bouquet
counted_now database bouquet counts = record { tables = database.tables; counts = counts; grown = λ place other there. as_before _ }

-- rows that have grown are the same where they are as many
same_rows : (old new : List ValueRow) → HaveGrown old new → length old ≡ length new → old ≡ new
same_rows old new grown many =
    let none : grown.0 ≡ [] = nil_from_length grown.0 (omega (arith, many, ap length grown.1, length-append old grown.0)) in
    sym (grown.1 ∙ ap (λ more. old ++ more) none ∙ append-nil old)

-- the counts of a relation whose table has these rows
abbrev stats_from : RelationTree → List ValueRow → RelationStats
stats_from relation rows = relation_stats_of (record { name = []; columns = []; indexed = []; rows = rows } ∷ []) (record relation { table = 0 })

first_none : (first second : Option Stale) → option_or first second ≡ None → first ≡ None
first_none None second none = refl
first_none (Some stale) second none = cc none

second_none : (first second : Option Stale) → option_or first second ≡ None → second ≡ None
second_none None second none = none
second_none (Some stale) second none = cc none

unchanged : (relation : ℕ) (count : CountName) (kept present : ℕ) → changed relation count kept present ≡ None → kept ≡ present
unchanged relation count kept present none = by (nat_eq kept present) refl none
  where
    stale : Stale
    stale = record { relation = relation; count = count; kept = kept; present = present }

    by : (same : Bool) → nat_eq kept present ≡ same → (if same then None else Some stale) ≡ None → kept ≡ present
    by true is none = eqb-true kept present is
    by false is none = cc none

-- no count is stale, so each is as it was
same_counts : (tables : List StoredTable) (database : DatabaseState) (number : ℕ) (relations : List RelationTree)
    → All (λ relation. HaveGrown (table_rows tables relation) (table_rows database.tables relation)) relations
    → first_stale database number relations (map (relation_stats_of tables) relations) ≡ None
    → map (relation_stats_of tables) relations ≡ map (relation_stats_of database.tables) relations
same_counts tables database number [] grown fresh = refl
same_counts tables database number (relation ∷ relations) grown fresh =
    let one : Option Stale = stale_in database number relation (relation_stats_of tables relation) in
    let later : Option Stale = first_stale database (number + 1) relations (map (relation_stats_of tables) relations) in
    let before : List ValueRow = table_rows tables relation in
    let now : List ValueRow = table_rows database.tables relation in
    let many : length before ≡ length now = unchanged number Rows (length before) (length now) (first_none _ _ (first_none one later fresh)) in
    let same : before ≡ now = same_rows before now (grown 0 relation (omega arith)) many in
    let rest : map (relation_stats_of tables) relations ≡ map (relation_stats_of database.tables) relations =
    same_counts tables database (number + 1) relations (λ place other there. grown (suc place) other (omega (arith, there))) (second_none one later fresh) in
    ap (λ stats. stats ∷ map (relation_stats_of tables) relations) (ap (stats_from relation) same)
    ∙ ap (λ more. relation_stats_of database.tables relation ∷ more) rest

pub counts_fresh : (database : DatabaseState) (bouquet : BouquetTree) → IsCountedBefore database bouquet → stale_count database bouquet ≡ None
    → HasCountsOf database.tables bouquet
counts_fresh database bouquet counted fresh =
    let relations = bouquet.costing.block.relations in
    let still : first_stale database 0 relations (map (relation_stats_of counted.tables) relations) ≡ None =
    ap (λ (stats : Stats). first_stale database 0 relations stats.relations) (sym counted.counts) ∙ fresh in
    counted.counts ∙ ap (λ (stats : List RelationStats). record { relations = stats }) (same_counts counted.tables database 0 relations counted.grown still)
