-- What each private function of the reader returns: the value at the front of the tokens and the tokens after it, or
-- none. No public clause cites this file; the proofs tie it to the grammar in both directions.
use Rattle.std.specs.Prelude.{ℕ, zero, suc, ◌≡◌, Bool, true, false, List, [], ◌∷◌, length, Option, Some, None, option_and_then, Result, Ok, Err, ℤ, pos, neg_ℤ, bytes_eq, if◌then◌else◌}
use Rattle.sql_lex.specs.declared.token.TokenKind.{TokenKind}
use Rattle.sql_lex.specs.declared.token.TokenKind.TheVariants as kinds
use Rattle.sql_values.specs.declared.op.Op.{Op}
use Rattle.sql_values.specs.declared.value.Value.{Value}
use Rattle.sql_values.specs.declared.value.Value.TheVariants as value
use Rattle.sql_parse.specs.declared.fault.ReadFault.{ReadFault}
use Rattle.sql_parse.specs.declared.fault.ReadFault.TheVariants as faults
use Rattle.sql_parse.specs.declared.mark.Mark.{Mark}
use Rattle.sql_parse.specs.declared.mark.Mark.TheVariants as m
use Rattle.sql_parse.specs.declared.tree.Term.{Term}
use Rattle.sql_parse.specs.declared.tree.Term.TheVariants as term
use Rattle.sql_parse.specs.declared.tree.ColRef.{ColRef}
use Rattle.sql_parse.specs.declared.tree.Item.{Item}
use Rattle.sql_parse.specs.declared.tree.Cond.{Cond}
use Rattle.sql_parse.specs.declared.statement.Statement.{Statement}
use Rattle.sql_parse.specs.declared.condition.Connective.{Connective}
use Rattle.sql_parse.specs.declared.condition.Connective.TheVariants as connectives
use Rattle.sql_parse.specs.Limits.{nesting_limit}
use Rattle.sql_parse.specs.Lexemes.{Lexeme, Word, Number, Text, Sign, Comparison, Parameter, lexeme_kind, mark, is_reserved}
use Rattle.sql_parse.specs.Trees.{condition_tree, statement_tree, ConditionTree, Compare, Between, OneOf, IsNull, Not, And, Or, operands, QueryTree, StatementTree}

-- What a function returned, seen by view, is what reading gives, unless memory ran out.
abbrev pub Fails : {Y : Type 0} → ReadFault → Option Y → Type 0
Fails faults.NotAStatement read = read ≡ None
Fails faults.NoMemory read = Unit {0}

abbrev pub Gives : {X Y : Type 0} → (X → Y) → Result X ReadFault → Option Y → Type 0
Gives view (Ok x) read = read ≡ Some (view x)
Gives view (Err fault) read = Fails fault read

-- the same, for what clauses see as it is, and for conditions and statements, each with the tokens after it
abbrev pub GivesValue : {X : Type 0} → Result X ReadFault → Option X → Type 0
GivesValue = Gives (λ x. x)

abbrev pub GivesCondition : Result (Cond × List Lexeme) ReadFault → Option (ConditionTree × List Lexeme) → Type 0
GivesCondition = Gives (λ found. (condition_tree found.0, found.1))

abbrev pub GivesStatement : Result (Statement × List Lexeme) ReadFault → Option (StatementTree × List Lexeme) → Type 0
GivesStatement = Gives (λ found. (statement_tree found.0, found.1))

-- reading from the front of the tokens: a value and the tokens after it
abbrev pub Reader : Type 0 → Type 0
Reader A = List Lexeme → Option (A × List Lexeme)

infixl 10 ◌>>=◌
abbrev pub ◌>>=◌ : {A B : Type 0} → Option A → (A → Option B) → Option B
o >>= f = option_and_then f o

-- one way where there is a value, and another where there is none
abbrev pub choose : {A B : Type 0} → Option A → B → (A → B) → B
choose None otherwise then_it = otherwise
choose (Some x) otherwise then_it = then_it x

-- whether both are the same word or the same sign
abbrev pub same : Lexeme → Lexeme → Bool
same (Word a) (Word b) = bytes_eq a b
same (Sign a) (Sign b) = bytes_eq a b
same one other = false

-- the keyword or the sign that is spelled so
abbrev pub mark_spelled : TokenKind → List ℕ → Lexeme
mark_spelled kinds.Word bytes = Word bytes
mark_spelled other bytes = Sign bytes

-- what follows the mark
unfoldable pub after_mark : Mark → List Lexeme → Option (List Lexeme)
after_mark sign [] = None
after_mark sign (first ∷ rest) = if same first (mark sign) then Some rest else None

-- what follows the word
unfoldable pub after_word : (upper : List ℕ) → List Lexeme → Option (List Lexeme)
after_word word [] = None
after_word word (first ∷ rest) = if same first (Word word) then Some rest else None

unfoldable pub name_at : Reader (List ℕ)
name_at (Word word ∷ rest) = if is_reserved word then None else Some (word, rest)
name_at other = None

unfoldable pub number_at : Reader ℕ
number_at (Number n ∷ rest) = Some (n, rest)
number_at other = None

unfoldable pub text_token_at : Reader (List ℕ)
text_token_at (Text text ∷ rest) = Some (text, rest)
text_token_at other = None

unfoldable pub comparison_at : Reader Op
comparison_at (Comparison op ∷ rest) = Some (op, rest)
comparison_at other = None

unfoldable pub parameter_at : Reader ℕ
parameter_at (Parameter number ∷ rest) = Some (number, rest)
parameter_at other = None

-- the further parts of a list, at most `most`
unfoldable pub more_at : {A : Type 0} → Reader A → Mark → (most : ℕ) → Reader (List A)
more_at part separator zero tokens = Some ([], tokens)
more_at part separator (suc most) tokens =
    choose (after_mark separator tokens) (Some ([], tokens)) (λ rest. do
      x ← part rest
      xs ← more_at part separator most x.1
      Some (x.0 ∷ xs.0, xs.1))

-- a list whose first part is read
unfoldable pub list_with_first : {A : Type 0} → (first : A) → Reader A → Mark → Reader (List A)
list_with_first first part separator tokens = do
  xs ← more_at part separator (length tokens) tokens
  Some (first ∷ xs.0, xs.1)

unfoldable pub list_at : {A : Type 0} → Reader A → Mark → Reader (List A)
list_at part separator tokens = do
  x ← part tokens
  list_with_first x.0 part separator x.1

unfoldable pub in_parentheses_at : {A : Type 0} → Reader A → Reader A
in_parentheses_at inside tokens = do
  rest ← after_mark m.OpenParen tokens
  x ← inside rest
  end ← after_mark m.CloseParen x.1
  Some (x.0, end)

unfoldable pub colref_at : Reader ColRef
colref_at tokens = do
  first ← name_at tokens
  choose (after_mark m.Dot first.1) (Some (record { alias = None; column = first.0 }, first.1)) (λ rest. do
    column ← name_at rest
    Some (record { alias = Some first.0; column = column.0 }, column.1))

unfoldable pub unsigned_at : Reader ℕ
unsigned_at tokens = choose (after_mark m.Plus tokens) (number_at tokens) number_at

unfoldable pub integer_at : Reader ℤ
integer_at tokens =
    choose (after_mark m.Minus tokens)
    (do
      n ← unsigned_at tokens
      Some (pos n.0, n.1))
    (λ rest. do
      n ← number_at rest
      Some (neg_ℤ (pos n.0), n.1))

-- the kind of the first token
abbrev pub token_kind_at : List Lexeme → Option TokenKind
token_kind_at [] = None
token_kind_at (token ∷ rest) = Some (lexeme_kind token)

abbrev pub literal_of_kind : Option TokenKind → Reader Value
literal_of_kind (Some kinds.Text) tokens = do
  text ← text_token_at tokens
  Some (value.Text text.0, text.1)
literal_of_kind other tokens = do
  n ← integer_at tokens
  Some (value.Int n.0, n.1)

unfoldable pub literal_at : Reader Value
literal_at tokens = literal_of_kind (token_kind_at tokens) tokens

abbrev pub operand_of_kind : Option TokenKind → Reader Term
operand_of_kind (Some kinds.Word) tokens = do
  column ← colref_at tokens
  Some (term.Column column.0, column.1)
operand_of_kind other tokens = do
  literal ← literal_at tokens
  Some (term.Literal literal.0, literal.1)

unfoldable pub operand_at : Reader Term
operand_at tokens =
    choose (parameter_at tokens) (operand_of_kind (token_kind_at tokens) tokens)
    (λ parameter. Some (term.Parameter parameter.0, parameter.1))

-- whether NOT stands here, and what follows it
unfoldable pub negation_at : List Lexeme → Bool × List Lexeme
negation_at tokens = choose (after_mark m.Not tokens) (false, tokens) (λ rest. (true, rest))

unfoldable pub null_test_of : Term → Reader ConditionTree
null_test_of (term.Column column) tokens = do
  rest ← after_mark m.Null (negation_at tokens).1
  Some (IsNull (negation_at tokens).0 column, rest)
null_test_of other tokens = None

unfoldable pub between_of : (negated : Bool) → Term → Reader ConditionTree
between_of negated of tokens = do
  low ← operand_at tokens
  rest ← after_mark m.And low.1
  high ← operand_at rest
  Some (Between negated of low.0 high.0, high.1)

unfoldable pub range_or_list_of : Term → Reader ConditionTree
range_or_list_of of tokens =
    choose (after_mark m.Between (negation_at tokens).1)
    (do
      rest ← after_mark m.In (negation_at tokens).1
      terms ← in_parentheses_at (list_at operand_at m.Comma) rest
      Some (OneOf (negation_at tokens).0 of terms.0, terms.1))
    (between_of (negation_at tokens).0 of)

unfoldable pub predicate_of : Term → Reader ConditionTree
predicate_of left tokens =
    choose (comparison_at tokens)
    (choose (after_mark m.Is tokens) (range_or_list_of left tokens) (null_test_of left))
    (λ op. do
      right ← operand_at op.1
      Some (Compare op.0 left right.0, right.1))

unfoldable pub predicate_at : Reader ConditionTree
predicate_at tokens = do
  left ← operand_at tokens
  predicate_of left.0 left.1

-- one condition is itself, several are one node
abbrev pub one_node : (List ConditionTree → ConditionTree) → List ConditionTree → ConditionTree
one_node node [] = node []
one_node node (part ∷ []) = part
one_node node (first ∷ second ∷ more) = node (first ∷ second ∷ more)

abbrev pub separator_of : Connective → Mark
separator_of connectives.And = m.And
separator_of connectives.Or = m.Or

abbrev pub node_of : Connective → List ConditionTree → ConditionTree
node_of connectives.And parts = And (operands parts)
node_of connectives.Or parts = Or (operands parts)

unfoldable pub chain_at : Connective → Reader ConditionTree → Reader ConditionTree
chain_at connective part tokens = do
  parts ← list_at part (separator_of connective) tokens
  Some (one_node (node_of connective) parts.0, parts.1)

-- a predicate, or a condition in parentheses
unfoldable pub plain_factor_at : (group : Reader ConditionTree) → Reader ConditionTree
plain_factor_at group tokens = choose (after_mark m.OpenParen tokens) (predicate_at tokens) (λ rest. group tokens)

unfoldable pub factor_at : (group : Reader ConditionTree) → Reader ConditionTree
factor_at group tokens =
    choose (after_mark m.Not tokens) (plain_factor_at group tokens) (λ rest. do
      inner ← plain_factor_at group rest
      Some (Not inner.0, inner.1))

-- a part of a chain, and a chain
abbrev pub part_at : Connective → (group : Reader ConditionTree) → Reader ConditionTree
part_at connectives.And group = factor_at group
part_at connectives.Or group = chain_at connectives.And (factor_at group)

abbrev pub level_at : Connective → (group : Reader ConditionTree) → Reader ConditionTree
level_at connective group = chain_at connective (part_at connective group)

-- a condition in parentheses, of which so many may still be opened
unfoldable pub group_at : (nesting : ℕ) → Reader ConditionTree
group_at zero tokens = None
group_at (suc nesting) tokens = in_parentheses_at (level_at connectives.Or (group_at nesting)) tokens

unfoldable pub item_at : Reader Item
item_at tokens = do
  table ← name_at tokens
  choose (after_mark m.As table.1)
      (choose (name_at table.1) (Some (record { table = table.0; alias = table.0 }, table.1))
      (λ alias. Some (record { table = table.0; alias = alias.0 }, alias.1)))
      (λ rest. do
        alias ← name_at rest
        Some (record { table = table.0; alias = alias.0 }, alias.1))

unfoldable pub selection_at : Reader (Option (List ColRef))
selection_at tokens =
    choose (after_mark m.Star tokens)
    (do
      columns ← list_at colref_at m.Comma tokens
      Some (Some columns.0, columns.1))
    (λ rest. Some (None, rest))

unfoldable pub where_at : Reader (Option ConditionTree)
where_at tokens =
    choose (after_mark m.Where tokens) (Some (None, tokens)) (λ rest. do
      condition ← level_at connectives.Or (group_at nesting_limit) rest
      Some (Some condition.0, condition.1))

unfoldable pub select_at : Reader QueryTree
select_at tokens = do
  rest ← after_mark m.Select tokens
  columns ← selection_at rest
  later ← after_mark m.From columns.1
  from ← list_at item_at m.Comma later
  condition ← where_at from.1
  Some (record { columns = columns.0; from = from.0; condition = condition.0 }, condition.1)
