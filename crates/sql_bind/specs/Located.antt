-- Operands with their columns looked up, and their kinds, numbers or texts.
use Rattle.std.specs.Prelude.{Bool, true, false, List, [], ◌∷◌, Option, Some, None, flat_map, map, slice_index_or, unwrap_or}
use Rattle.std.specs.Option.{option_or}
use Rattle.sql_values.specs.declared.column.ColumnType.{ColumnType}
use Rattle.sql_values.specs.declared.value.Value.TheVariants.{Null}
use Rattle.query_block.specs.declared.edge.ColumnAt.{ColumnAt}
use Rattle.query_block.specs.declared.condition.Operand.TheVariants as operand
use Rattle.query_block.specs.declared.kind.Kind.{Kind}
use Rattle.query_block.specs.declared.kind.Kind.TheVariants as kind
use Rattle.query_block.specs.Blocks.{kind_at, holds_texts, is_text}
use Rattle.sql_parse.specs.declared.tree.Term.{Term}
use Rattle.sql_parse.specs.declared.tree.Term.TheVariants.{Column, Literal, Parameter}
use Rattle.sql_bind.specs.declared.located.Located.{Located}
use Rattle.sql_bind.specs.Named.{NamedTable}
use Rattle.sql_bind.specs.Names.{place_of}

-- what a column of a relation holds
abbrev pub kind_in : List NamedTable → ColumnAt → ColumnType
kind_in tables place =
    kind_at (map (λ column. column.kind) (slice_index_or tables place.relation (record { alias = []; number = 0; columns = []; indexed = [] })).columns) place.column

-- the kind of texts, or of numbers
abbrev pub kind_if : (text : Bool) → Kind
kind_if true = kind.Text
kind_if false = kind.Integer

-- a column at its place; a name that isn't there is of no place, and stands for NULL
abbrev pub located_at : List NamedTable → Option ColumnAt → Located
located_at tables None = record { operand = operand.Literal Null; place = None; kind = Some kind.Integer }
located_at tables (Some place) =
    record { operand = operand.Column place.column; place = Some place; kind = Some (kind_if (holds_texts (kind_in tables place))) }

-- an operand with its column looked up; a parameter has no kind of its own
abbrev pub located : List NamedTable → Term → Located
located tables (Column written) = located_at tables (place_of tables written)
located tables (Literal value) = record { operand = operand.Literal value; place = None; kind = Some (kind_if (is_text value)) }
located tables (Parameter number) = record { operand = operand.Parameter number; place = None; kind = None }

-- the kinds of operands, each by its own
abbrev pub kinds_of : List NamedTable → List Term → List (Option Kind)
kinds_of tables terms = map (λ term. (located tables term).kind) terms

-- whether two kinds are the same
abbrev pub is_same_kind : Kind → Kind → Bool
is_same_kind kind.Integer kind.Integer = true
is_same_kind kind.Text kind.Text = true
is_same_kind one other = false

-- the kind of a predicate: that of its first operand that isn't a parameter
abbrev pub first_kind : List (Option Kind) → Option Kind
first_kind [] = None
first_kind (own ∷ kinds) = option_or own (first_kind kinds)

-- what a predicate of this kind gives an operand, by its own: a parameter that kind, any other none
abbrev pub given_kind : Kind → Option Kind → List Kind
given_kind kind None = kind ∷ []
given_kind kind (Some own) = []

-- the kinds of the parameters among operands, in written order
abbrev pub parameters_among : List (Option Kind) → List Kind
parameters_among kinds = flat_map (given_kind (unwrap_or (first_kind kinds) kind.Integer)) kinds
