-- The canonical text of a statement: the one text in which it is written.
use Rattle.std.specs.Prelude.{ℕ, ℤ, pos, int_lt, unsigned_abs, Bool, true, false, ◌||◌, List, [], ◌∷◌, ◌++◌, map, flat_map, codes, bytes_eq, decimal, Option, Some, None, if◌then◌else◌}
use Rattle.std.specs.Option.{option_map_or}
use Rattle.sql_lex.specs.Values.{quoted, comparison_text}
use Rattle.sql_lex.specs.Written.{Written, written_text}
use Rattle.sql_values.specs.declared.op.Op.{Op}
use Rattle.sql_values.specs.declared.value.Value.{Value}
use Rattle.sql_values.specs.declared.value.Value.TheVariants as value
use Rattle.sql_parse.specs.declared.mark.Mark.{Mark}
use Rattle.sql_parse.specs.declared.mark.Mark.TheVariants as m
use Rattle.sql_parse.specs.declared.tree.Term.{Term}
use Rattle.sql_parse.specs.declared.tree.Term.TheVariants as term
use Rattle.sql_parse.specs.declared.tree.ColRef.{ColRef}
use Rattle.sql_parse.specs.declared.tree.Item.{Item}
use Rattle.sql_parse.specs.Lexemes as lexeme
use Rattle.sql_parse.specs.Lexemes.{Lexeme, lexeme_kind, mark}
use Rattle.sql_parse.specs.Trees.{ConditionTree, ConditionTrees, Compare, Between, OneOf, IsNull, Not, And, Or, NoMore, More, QueryTree}

-- what canonical text is made of
pub data Part : Type 0 where
  -- a sign, or a reserved word within a statement
  Fixed : Mark → Part
  -- another keyword
  Keyword : (upper : List ℕ) → Part
  Name : (upper : List ℕ) → Part
  Number : (value : ℕ) → Part
  Text : (value : List ℕ) → Part
  Operator : Op → Part
  Parameter : (number : ℕ) → Part

-- the token that a part is
abbrev pub part_lexeme : Part → Lexeme
part_lexeme (Fixed keyword) = mark keyword
part_lexeme (Keyword upper) = lexeme.Word upper
part_lexeme (Name upper) = lexeme.Word upper
part_lexeme (Number n) = lexeme.Number n
part_lexeme (Text text) = lexeme.Text text
part_lexeme (Operator op) = lexeme.Comparison op
part_lexeme (Parameter number) = lexeme.Parameter number

-- how a token is spelled: in upper case, with no leading zero, and with quotes doubled; each parameter is `?`
abbrev pub spelled : Lexeme → List ℕ
spelled (lexeme.Word upper) = upper
spelled (lexeme.Number n) = decimal n
spelled (lexeme.Text text) = quoted text
spelled (lexeme.Sign bytes) = bytes
spelled (lexeme.Comparison op) = comparison_text op
spelled (lexeme.Parameter number) = codes "?"

-- no space stands before a closing parenthesis, a comma and a point
abbrev pub joins_previous : Part → Bool
joins_previous (Fixed m.CloseParen) = true
joins_previous (Fixed m.Comma) = true
joins_previous (Fixed m.Dot) = true
joins_previous other = false

-- nor after an opening parenthesis, a point, a minus sign and VARCHAR
abbrev pub joins_next : Part → Bool
joins_next (Fixed m.OpenParen) = true
joins_next (Fixed m.Dot) = true
joins_next (Fixed m.Minus) = true
joins_next (Fixed m.Varchar) = true
joins_next other = false

-- the space before a part; `joined` says that the part before it joins the next one
abbrev pub space_before : (joined : Bool) → Part → List ℕ
space_before joined part = if joined || joins_previous part then [] else codes " "

-- the tokens with one space between each two that aren't joined
abbrev pub with_spaces : (joined : Bool) → List Part → List Written
with_spaces joined [] = []
with_spaces joined (part ∷ parts) =
    record { space = space_before joined part; kind = lexeme_kind (part_lexeme part); bytes = spelled (part_lexeme part) }
    ∷ with_spaces (joins_next part) parts

-- one or more, with a comma between each two
abbrev pub listed : {A : Type 0} → (A → List Part) → List A → List Part
listed parts [] = []
listed parts (x ∷ xs) = parts x ++ flat_map (λ y. Fixed m.Comma ∷ parts y) xs

abbrev pub in_parentheses : List Part → List Part
in_parentheses inside = Fixed m.OpenParen ∷ (inside ++ Fixed m.CloseParen ∷ [])

-- keywords, where they are written
abbrev pub kept_if : Bool → List Mark → List Part
kept_if false marks = []
kept_if true marks = map Fixed marks

abbrev pub column_parts : ColRef → List Part
column_parts column =
    option_map_or (λ alias. Name alias ∷ Fixed m.Dot ∷ Name column.column ∷ []) column.alias (Name column.column ∷ [])

-- no plus sign is written, nor a minus sign before 0
abbrev pub integer_parts : ℤ → List Part
integer_parts n = kept_if (int_lt n (pos 0)) (m.Minus ∷ []) ++ Number (unsigned_abs n) ∷ []

abbrev pub value_parts : Value → List Part
value_parts (value.Int n) = integer_parts n
value_parts (value.Text text) = Text text ∷ []
value_parts value.Null = Fixed m.Null ∷ []

abbrev pub operand_parts : Term → List Part
operand_parts (term.Column column) = column_parts column
operand_parts (term.Literal literal) = value_parts literal
operand_parts (term.Parameter number) = Parameter number ∷ []

-- whether a condition is put in parentheses as an operand of AND, of OR, and of NOT
abbrev pub is_or : ConditionTree → Bool
is_or (Or parts) = true
is_or other = false

abbrev pub is_chain : ConditionTree → Bool
is_chain (And parts) = true
is_chain (Or parts) = true
is_chain other = false

abbrev pub is_no_predicate : ConditionTree → Bool
is_no_predicate (Not inner) = true
is_no_predicate (And parts) = true
is_no_predicate (Or parts) = true
is_no_predicate other = false

abbrev pub grouped_if : Bool → List Part → List Part
grouped_if false parts = parts
grouped_if true parts = in_parentheses parts

abbrev mutual
  pub condition_parts : ConditionTree → List Part
  condition_parts (Compare op left right) = operand_parts left ++ Operator op ∷ operand_parts right
  condition_parts (Between negated of low high) =
      operand_parts of
      ++ (kept_if negated (m.Not ∷ []) ++ Fixed m.Between ∷ (operand_parts low ++ Fixed m.And ∷ operand_parts high))
  condition_parts (OneOf negated of terms) =
      operand_parts of
      ++ (kept_if negated (m.Not ∷ []) ++ Fixed m.In ∷ in_parentheses (listed operand_parts terms))
  condition_parts (IsNull negated column) =
      column_parts column ++ Fixed m.Is ∷ (kept_if negated (m.Not ∷ []) ++ Fixed m.Null ∷ [])
  condition_parts (Not inner) = Fixed m.Not ∷ grouped_if (is_no_predicate inner) (condition_parts inner)
  condition_parts (And parts) = chain_parts m.And is_chain parts
  condition_parts (Or parts) = chain_parts m.Or is_or parts

  -- the operands of a chain, with its keyword between each two, those in parentheses that are to be a group
  pub chain_parts : (keyword : Mark) → (is_group : ConditionTree → Bool) → ConditionTrees → List Part
  chain_parts keyword is_group NoMore = []
  chain_parts keyword is_group (More part parts) =
      grouped_if (is_group part) (condition_parts part) ++ more_parts keyword is_group parts

  pub more_parts : (keyword : Mark) → (is_group : ConditionTree → Bool) → ConditionTrees → List Part
  more_parts keyword is_group NoMore = []
  more_parts keyword is_group (More part parts) =
      Fixed keyword ∷ (grouped_if (is_group part) (condition_parts part) ++ more_parts keyword is_group parts)

-- an alias is written where it isn't the table's name
abbrev pub item_parts : Item → List Part
item_parts item =
    Name item.table ∷ (if bytes_eq item.alias item.table then [] else Fixed m.As ∷ Name item.alias ∷ [])

abbrev pub selection_parts : Option (List ColRef) → List Part
selection_parts None = Fixed m.Star ∷ []
selection_parts (Some columns) = listed column_parts columns

abbrev pub where_parts : Option ConditionTree → List Part
where_parts None = []
where_parts (Some tree) = Fixed m.Where ∷ condition_parts tree

abbrev pub query_parts : QueryTree → List Part
query_parts query =
    Fixed m.Select
    ∷ (selection_parts query.columns ++ Fixed m.From ∷ (listed item_parts query.from ++ where_parts query.condition))

-- the text of parts, the first of which has no space before it
abbrev pub parts_text : List Part → List ℕ
parts_text parts = written_text (with_spaces true parts)

-- the canonical text of a query
abbrev pub canonical_query : QueryTree → List ℕ
canonical_query query = parts_text (query_parts query)
