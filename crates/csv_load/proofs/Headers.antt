-- Names in any case, and how many of them a header has from the left.
use Rattle.std.proofs.Common.{◌≡◌, ℕ, zero, suc, ◌+◌, ◌<◌, ◌≤◌, true, false, List, [], ◌∷◌, length, drop, get_or, Some, None, refl, ap, arith}
use Rattle.std.specs.Prelude.{Bool, bytes_eq, if◌then◌else◌}
use Rattle.std.specs.Str.{str_to_ascii_uppercase}
use Rattle.std.proofs.lemmas.List.{drop_more, drop_all}
use Rattle.csv.specs.Records.{field_at}
use Rattle.sql_values.specs.declared.column.ColumnDef.{ColumnDef}
use Rattle.csv_load.specs.Header.{names_of, agreeing}

-- the entries from a field on
pub drop-field_at : (fields : List (List ℕ)) (i : ℕ) (field : List ℕ) → Some field ≡ field_at fields i → drop i fields ≡ field ∷ drop (i + 1) fields
unfolding field_at
drop-field_at [] i field e = cc e
drop-field_at (f ∷ rest) zero field e = let same : f ≡ field = cc in ap (λ t. t ∷ rest) same
drop-field_at (f ∷ rest) (suc i) field e = let next : suc i + 1 ≡ suc (i + 1) = omega arith in rw next (drop-field_at rest i field e)

pub field_at-none : (fields : List (List ℕ)) (i : ℕ) → None ≡ field_at fields i → length fields ≤ i
unfolding field_at
field_at-none [] i e = omega arith
field_at-none (f ∷ rest) zero e = cc e
field_at-none (f ∷ rest) (suc i) e = omega (arith, field_at-none rest i e)

-- the names of the columns from i on that stand in a header from there on
pub agreeing_from : List ColumnDef → List (List ℕ) → ℕ → ℕ
agreeing_from columns fields i = i + agreeing (names_of (drop i columns)) (drop i fields)

pub agreeing_from-none : (columns : List ColumnDef) (fields : List (List ℕ)) → agreeing (names_of columns) fields ≡ agreeing_from columns fields 0
unfolding agreeing_from
agreeing_from-none columns fields = let none : 0 + agreeing (names_of columns) fields ≡ agreeing (names_of columns) fields = omega arith in rw none refl

pub agreeing_from-same : (columns : List ColumnDef) (fields : List (List ℕ)) (i : ℕ) (column : ColumnDef) (field : List ℕ) → i < length columns → column ≡ get_or columns i column → Some field ≡ field_at fields i
    → true ≡ bytes_eq (str_to_ascii_uppercase field) column.name → agreeing_from columns fields i ≡ agreeing_from columns fields (i + 1)
unfolding agreeing_from
agreeing_from-same columns fields i column field inside c e same = rw (drop-field_at fields i field e, drop_more columns i column inside, ← c, ← same) (omega arith)

pub agreeing_from-other : (columns : List ColumnDef) (fields : List (List ℕ)) (i : ℕ) (column : ColumnDef) (field : List ℕ) → i < length columns → column ≡ get_or columns i column → Some field ≡ field_at fields i
    → false ≡ bytes_eq (str_to_ascii_uppercase field) column.name → agreeing_from columns fields i ≡ i
unfolding agreeing_from
agreeing_from-other columns fields i column field inside c e other = rw (drop-field_at fields i field e, drop_more columns i column inside, ← c, ← other) (omega arith)

pub agreeing_from-short : (columns : List ColumnDef) (fields : List (List ℕ)) (i : ℕ) (column : ColumnDef) → i < length columns → column ≡ get_or columns i column → None ≡ field_at fields i
    → agreeing_from columns fields i ≡ i
unfolding agreeing_from
agreeing_from-short columns fields i column inside c e = rw (drop_all i fields (field_at-none fields i e), drop_more columns i column inside) (omega arith)

pub agreeing_from-all : (columns : List ColumnDef) (fields : List (List ℕ)) (i : ℕ) → length columns ≤ i → agreeing_from columns fields i ≡ i
unfolding agreeing_from
agreeing_from-all columns fields i last = rw (drop_all i columns last) (omega arith)

pub ruleset of_headers = (agreeing_from-none, agreeing_from-same, agreeing_from-other, agreeing_from-short, agreeing_from-all)

pub length-names_of : (columns : List ColumnDef) → length (names_of columns) ≡ length columns
length-names_of [] = refl
length-names_of (c ∷ cs) = ap suc (length-names_of cs)

agreeing-le : (names fields : List (List ℕ)) → agreeing names fields ≤ length names
agreeing-le [] fields = omega arith
agreeing-le (n ∷ ns) [] = omega arith
agreeing-le (n ∷ ns) (f ∷ fs) = by (bytes_eq (str_to_ascii_uppercase f) n) (agreeing ns fs) (agreeing-le ns fs)
  where
    by : (b : Bool) (more : ℕ) → more ≤ length ns → (if b then suc more else 0) ≤ suc (length ns)
    by true more few = omega arith
    by false more few = omega arith

pub agreeing-le_columns : (columns : List ColumnDef) (fields : List (List ℕ)) → agreeing (names_of columns) fields ≤ length columns
agreeing-le_columns columns fields = omega (arith, agreeing-le (names_of columns) fields, length-names_of columns)

pub ruleset of_lengths = (length-names_of, agreeing-le_columns)
