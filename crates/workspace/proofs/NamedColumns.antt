-- The number of the column of a name, by looking at one column after another.
use Rattle.std.proofs.Common.{◌≡◌, ℕ, ◌<◌, ◌≤◌, true, false, cond, List, [], All, length, take, get_or, Some, None, ap, subst, ◌∙◌, arith, length-take-le, nat_lt, lt-ltb, le-ltb}
use Rattle.std.specs.List.{position_or_len}
use Rattle.std.specs.Str.{bytes_eq}
use Rattle.std.proofs.lemmas.List.{get_or-take}
use Rattle.std.proofs.lemmas.List.Sums.{position_or_len_is}
use Rattle.sql_values.specs.declared.column.ColumnDef.{ColumnDef}
use Rattle.sql_values.specs.declared.column.ColumnType.TheVariants.{Integer}
use Rattle.sql_values.proofs.Dictionary.{position-map}
use Rattle.workspace.specs.CreateIndex.{column_number}

-- the columns have other names
abbrev pub AreOthers : List ℕ → List ColumnDef → Type 0
AreOthers name columns = All (λ column. bytes_eq name column.name ≡ false) columns

other-at : (name : List ℕ) (columns : List ColumnDef) (i k : ℕ) (d : ColumnDef) → i ≤ length columns → AreOthers name (take i columns) → k < i → bytes_eq name (get_or columns k d).name ≡ false
other-at name columns i k d within others below =
    subst (λ (column : ColumnDef). bytes_eq name column.name ≡ false) (get_or-take i columns k d below)
    (others k d (omega (arith, below, length-take-le i columns within)))

-- it is this one, where those before it have other names
pub column_at : (name : List ℕ) (columns : List ColumnDef) (i : ℕ) (d : ColumnDef) → i < length columns → AreOthers name (take i columns) → bytes_eq name (get_or columns i d).name ≡ true → column_number columns name ≡ Some i
column_at name columns i d there others here =
    let first : position_or_len (λ (column : ColumnDef). bytes_eq name column.name) columns ≡ i =
    position_or_len_is (λ (column : ColumnDef). bytes_eq name column.name) columns i d (omega (arith, there))
    (λ k below. other-at name columns i k d (omega (arith, there)) others below) (λ _. here) in
    position-map (λ (column : ColumnDef). column.name) (bytes_eq name) columns
    ∙ ap (λ n. cond (nat_lt n (length columns)) (Some n) None) first
    ∙ ap (λ b. cond b (Some i) None) (lt-ltb i (length columns) there)

-- there is none, where all have other names
pub column_none : (name : List ℕ) (columns : List ColumnDef) → AreOthers name columns → column_number columns name ≡ None
column_none name columns others =
    let d : ColumnDef = record { name = []; kind = Integer; not_null = false } in
    let end : position_or_len (λ (column : ColumnDef). bytes_eq name column.name) columns ≡ length columns =
    position_or_len_is (λ (column : ColumnDef). bytes_eq name column.name) columns (length columns) d (omega arith)
    (λ k below. others k d below) (λ less. absurd (omega (arith, less))) in
    position-map (λ (column : ColumnDef). column.name) (bytes_eq name) columns
    ∙ ap (λ n. cond (nat_lt n (length columns)) (Some n) None) end
    ∙ ap (λ b. cond b (Some (length columns)) None) (le-ltb (length columns) (length columns) (omega arith))
