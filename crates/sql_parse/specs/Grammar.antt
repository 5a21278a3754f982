-- The grammar: which tokens are written for which statement, production by production.
use Rattle.std.specs.Prelude.{ℕ, zero, suc, ◌≡◌, ◌⊎◌, Bool, true, false, List, [], ◌∷◌, ◌++◌, map, Option, Some, None, ℤ, pos, neg_ℤ}
use Rattle.std.specs.Bool.{IsFalse}
use Rattle.sql_values.specs.declared.value.Value.{Value}
use Rattle.sql_values.specs.declared.value.Value.TheVariants as value
use Rattle.sql_parse.specs.declared.mark.Mark.{Mark}
use Rattle.sql_parse.specs.declared.mark.Mark.TheVariants as m
use Rattle.sql_parse.specs.declared.tree.Term.{Term}
use Rattle.sql_parse.specs.declared.tree.Term.TheVariants as term
use Rattle.sql_parse.specs.declared.tree.ColRef.{ColRef}
use Rattle.sql_parse.specs.declared.tree.Item.{Item}
use Rattle.sql_parse.specs.Limits.{nesting_limit}
use Rattle.sql_parse.specs.Lexemes.{Lexeme, Word, Number, Text, Comparison, Parameter, mark, is_reserved}
use Rattle.sql_parse.specs.Trees.{ConditionTree, Compare, Between, OneOf, IsNull, Not, And, Or, operands, QueryTree}

-- a rule: whether these tokens are written for this value
abbrev pub Rule : Type 0 → Type 1
Rule A = List Lexeme → A → Type 0

-- a name: a word that isn't reserved
abbrev pub IsName : List ℕ → Type 0
IsName word = IsFalse (is_reserved word)

-- a name alone
abbrev pub IsNameToken : Rule (List ℕ)
IsNameToken tokens name = (tokens ≡ Word name ∷ []) × IsName name

-- a token, and what is written after it
abbrev pub After : {A : Type 0} → Lexeme → Rule A → Rule A
After token IsForm tokens x = (rest : List Lexeme) × (tokens ≡ token ∷ rest) × IsForm rest x

-- the keywords, where they are written
abbrev pub written_if : Bool → List Mark → List Lexeme
written_if false marks = []
written_if true marks = map mark marks

-- one or more parts, with the separator between each two
abbrev pub Separated : {A : Type 0} → Mark → Rule A → Rule (List A)
Separated separator IsPart tokens [] = ⊥
Separated separator IsPart tokens (x ∷ []) = IsPart tokens x
Separated separator IsPart tokens (x ∷ y ∷ xs) =
    (part rest : List Lexeme) × (tokens ≡ part ++ mark separator ∷ rest)
    × IsPart part x × Separated separator IsPart rest (y ∷ xs)

-- a list in parentheses
abbrev pub InParentheses : {A : Type 0} → Rule A → Rule A
InParentheses IsInside tokens x =
    (inside : List Lexeme) × (tokens ≡ mark m.OpenParen ∷ (inside ++ mark m.CloseParen ∷ [])) × IsInside inside x

-- [ name "." ] name
abbrev pub IsColumnName : (alias : Option (List ℕ)) → Rule (List ℕ)
IsColumnName None tokens column = IsNameToken tokens column
IsColumnName (Some alias) tokens column =
    (tokens ≡ Word alias ∷ mark m.Dot ∷ Word column ∷ []) × IsName alias × IsName column

-- colref = name [ "." name ]
abbrev pub IsColRef : Rule ColRef
IsColRef tokens column = IsColumnName column.alias tokens column.column

-- [ "+" | "-" ] number
abbrev pub IsInteger : Rule ℤ
IsInteger tokens value =
    (n : ℕ) × (
    ((tokens ≡ Number n ∷ []) × (value ≡ pos n))
    ⊎ ((tokens ≡ mark m.Plus ∷ Number n ∷ []) × (value ≡ pos n))
    ⊎ ((tokens ≡ mark m.Minus ∷ Number n ∷ []) × (value ≡ neg_ℤ (pos n)))
    )

-- literal = [ "+" | "-" ] number | text
abbrev pub IsLiteral : Rule Value
IsLiteral tokens (value.Int n) = IsInteger tokens n
IsLiteral tokens (value.Text text) = tokens ≡ Text text ∷ []
IsLiteral tokens value.Null = ⊥

-- operand = colref | literal | "?"
abbrev pub IsTerm : Rule Term
IsTerm tokens (term.Column column) = IsColRef tokens column
IsTerm tokens (term.Literal literal) = IsLiteral tokens literal
IsTerm tokens (term.Parameter number) = tokens ≡ Parameter number ∷ []

-- operand comparison operand, operand [ NOT ] BETWEEN operand AND operand,
-- operand [ NOT ] IN "(" operand { "," operand } ")", colref IS [ NOT ] NULL
abbrev pub IsPredicate : Rule ConditionTree
IsPredicate tokens (Compare op left right) =
    (a b : List Lexeme) × (tokens ≡ a ++ Comparison op ∷ b) × IsTerm a left × IsTerm b right
IsPredicate tokens (Between negated of low high) =
    (a b c : List Lexeme)
    × (tokens ≡ a ++ (written_if negated (m.Not ∷ []) ++ mark m.Between ∷ (b ++ mark m.And ∷ c)))
    × IsTerm a of × IsTerm b low × IsTerm c high
IsPredicate tokens (OneOf negated of terms) =
    (a b : List Lexeme) × (tokens ≡ a ++ (written_if negated (m.Not ∷ []) ++ mark m.In ∷ b))
    × IsTerm a of × InParentheses (Separated m.Comma IsTerm) b terms
IsPredicate tokens (IsNull negated column) =
    (a : List Lexeme) × (tokens ≡ a ++ mark m.Is ∷ (written_if negated (m.Not ∷ []) ++ mark m.Null ∷ []))
    × IsColRef a column
IsPredicate tokens other = ⊥

-- factor = [ NOT ] ( predicate | "(" cond ")" )
abbrev pub IsFactor : (IsGroup : Rule ConditionTree) → Rule ConditionTree
IsFactor IsGroup tokens tree =
    IsPredicate tokens tree
    ⊎ IsGroup tokens tree
    ⊎ (
    (rest : List Lexeme) × (inner : ConditionTree) × (tokens ≡ mark m.Not ∷ rest) × (tree ≡ Not inner)
    × (IsPredicate rest inner ⊎ IsGroup rest inner)
    )

-- a chain: one part is itself, two or more are one node
abbrev pub IsChain : Mark → (List ConditionTree → ConditionTree) → Rule ConditionTree → Rule ConditionTree
IsChain separator node IsPart tokens tree =
    IsPart tokens tree
    ⊎ (
    (first second : ConditionTree) × (more : List ConditionTree) × (tree ≡ node (first ∷ second ∷ more))
    × Separated separator IsPart tokens (first ∷ second ∷ more)
    )

-- conj = factor { AND factor }
abbrev pub IsConjunction : (IsGroup : Rule ConditionTree) → Rule ConditionTree
IsConjunction IsGroup = IsChain m.And (λ parts. And (operands parts)) (IsFactor IsGroup)

-- cond = conj { OR conj }
abbrev pub IsDisjunction : (IsGroup : Rule ConditionTree) → Rule ConditionTree
IsDisjunction IsGroup = IsChain m.Or (λ parts. Or (operands parts)) (IsConjunction IsGroup)

-- a condition in parentheses, which nest at most so deep
unfoldable pub IsGroup : (nesting : ℕ) → Rule ConditionTree
IsGroup zero tokens tree = ⊥
IsGroup (suc nesting) tokens tree = InParentheses (IsDisjunction (IsGroup nesting)) tokens tree

-- item = name [ [ AS ] name ]
abbrev pub IsItem : Rule Item
IsItem tokens item =
    IsName item.table × IsName item.alias × (
    ((tokens ≡ Word item.table ∷ []) × (item.alias ≡ item.table))
    ⊎ (tokens ≡ Word item.table ∷ Word item.alias ∷ [])
    ⊎ (tokens ≡ Word item.table ∷ mark m.As ∷ Word item.alias ∷ [])
    )

-- "*" | colref { "," colref }
abbrev pub IsSelection : Rule (Option (List ColRef))
IsSelection tokens None = tokens ≡ mark m.Star ∷ []
IsSelection tokens (Some columns) = Separated m.Comma IsColRef tokens columns

-- [ WHERE cond ]; parentheses nest within the limit
abbrev pub IsWhere : Rule (Option ConditionTree)
IsWhere tokens None = tokens ≡ []
IsWhere tokens (Some tree) = After (mark m.Where) (IsDisjunction (IsGroup nesting_limit)) tokens tree

-- select = SELECT ( "*" | colref { "," colref } ) FROM item { "," item } [ WHERE cond ]
abbrev pub IsSelect : Rule QueryTree
IsSelect tokens query =
    (columns items condition : List Lexeme)
    × (tokens ≡ mark m.Select ∷ (columns ++ mark m.From ∷ (items ++ condition)))
    × IsSelection columns query.columns × Separated m.Comma IsItem items query.from
    × IsWhere condition query.condition
