-- By which conjuncts of a filter an index on a column finds rows.
use Rattle.std.specs.Prelude.{ℕ, ◌&&◌, ◌||◌, not, Bool, true, false, List, nat_eq}
use Rattle.sql_values.specs.declared.op.Op.{Op}
use Rattle.sql_values.specs.declared.op.Op.TheVariants.{Eq, Ne}
use Rattle.sql_values.specs.declared.column.ColumnType.{ColumnType}
use Rattle.sql_values.specs.declared.column.ColumnType.TheVariants.{Integer, Varchar}
use Rattle.query_block.specs.declared.condition.Operand.{Operand}
use Rattle.query_block.specs.declared.condition.Operand.TheVariants.{Column}
use Rattle.query_block.specs.Blocks.{kind_at, holds_texts}
use Rattle.query_block.specs.Conditions.{FilterTree, Compare, Between}
use Rattle.query_block.specs.Parameters.{is_open}

-- whether an operand is this column
abbrev pub is_column : ℕ → Operand → Bool
is_column column (Column other) = nat_eq column other
is_column column other = false

-- whether an operand is a value: a literal, or a parameter, which stands for one
abbrev pub is_value : Operand → Bool
is_value (Column column) = false
is_value other = true

-- whether one range of numbers, or one text, meets the operator
abbrev pub is_range : ColumnType → Op → Bool
is_range Integer Ne = false
is_range Integer op = true
is_range (Varchar most) Eq = true
is_range (Varchar most) op = false

-- whether an index on the column can use the conjunct: the column compared with a value, or an INTEGER column between two
abbrev pub is_usable : List ColumnType → (column : ℕ) → (conjunct : FilterTree) → Bool
is_usable columns column (Compare op left right) =
    is_range (kind_at columns column) op && ((is_column column left && is_value right) || (is_value left && is_column column right))
is_usable columns column (Between of low high) =
    not (holds_texts (kind_at columns column)) && is_column column of && is_value low && is_value high
is_usable columns column other = false

-- the same of the conjuncts that have no parameter
abbrev pub is_fixed_usable : List ColumnType → (column : ℕ) → (conjunct : FilterTree) → Bool
is_fixed_usable columns column conjunct = is_usable columns column conjunct && not (is_open conjunct)
