-- What is written by the grammar is read again, whatever follows it.
use Rattle.std.proofs.Common.{◌≡◌, ℕ, zero, suc, ◌≤◌, true, false, List, [], ◌∷◌, ◌++◌, length, Option, Some, None, refl, ap, ◌∙◌, append_assoc, length-append, codes, bytes_eq, arith}
use Rattle.std.proofs.lemmas.Grind.{common_steps}
use Rattle.std.proofs.lemmas.Slice.Eq.{bytes_eq-Decides}
use Rattle.sql_parse.specs.declared.mark.Mark.{Mark}
use Rattle.sql_parse.specs.declared.mark.Mark.TheVariants as m
use Rattle.sql_parse.specs.declared.tree.Term.{Term}
use Rattle.sql_parse.specs.declared.tree.Term.TheVariants as term
use Rattle.sql_values.specs.declared.value.Value.{Value}
use Rattle.sql_values.specs.declared.value.Value.TheVariants as value
use Rattle.sql_parse.specs.Lexemes.{Lexeme, Word, mark, is_reserved}
use Rattle.sql_parse.specs.Grammar.{Rule, IsName, Separated, InParentheses, IsColumnName, IsColRef, IsLiteral, IsTerm}
use Rattle.sql_parse.specs.Reading.{Reader, ◌>>=◌, after_mark, name_at, number_at, text_token_at, parameter_at, more_at, list_with_first, list_at, in_parentheses_at, colref_at, unsigned_at, integer_at, literal_at, operand_at}
use Rattle.sql_parse.proofs.Lists.{more_at-end}

-- each form is read again where Follows holds of what follows it
abbrev pub IsReadAgain : {A : Type 0} → Rule A → Reader A → (Follows : List Lexeme → Type 0) → Type 0
IsReadAgain {A} IsForm read Follows =
    (tokens : List Lexeme) (x : A) (rest : List Lexeme) → IsForm tokens x → Follows rest → read (tokens ++ rest) ≡ Some (x, rest)

-- no dot follows
abbrev pub NoDot : List Lexeme → Type 0
NoDot rest = after_mark m.Dot rest ≡ None

-- a name is no reserved word
pub not_reserved : (word value : List ℕ) → IsName word → is_reserved value ≡ true → bytes_eq word value ≡ false
not_reserved word value name reserved = grind (arith, common_steps, bytes_eq, bytes_eq-Decides)

pub name_at-again : (word : List ℕ) (tokens : List Lexeme) → IsName word → name_at (Word word ∷ tokens) ≡ Some (word, tokens)
unfolding name_at
name_at-again word tokens name = rw name refl

after_dot : (rest : List Lexeme) → after_mark m.Dot (mark m.Dot ∷ rest) ≡ Some rest
unfolding after_mark
after_dot rest = refl

column_name-again : (alias : Option (List ℕ)) (column : List ℕ) (tokens rest : List Lexeme) → IsColumnName alias tokens column → NoDot rest
    → colref_at (tokens ++ rest) ≡ Some (record { alias = alias; column = column }, rest)
unfolding colref_at name_at
column_name-again None column tokens rest form follows = rw (form.0, form.1, follows) refl
column_name-again (Some alias) column tokens rest form follows = rw (form.0, form.1, after_dot (Word column ∷ rest), form.2) refl

pub colref-again : IsReadAgain IsColRef colref_at NoDot
colref-again tokens column rest form follows = column_name-again column.alias column.column tokens rest form follows

-- a literal is read again, whatever follows it
pub literal-again : IsReadAgain IsLiteral literal_at (λ rest. Unit {0})
unfolding literal_at integer_at unsigned_at number_at text_token_at after_mark
literal-again tokens (value.Int n) rest form follows = grind (arith, common_steps)
literal-again tokens (value.Text text) rest form follows = rw form refl
literal-again tokens value.Null rest form follows = absurd form

operand-column : (alias : Option (List ℕ)) (column : List ℕ) (tokens rest : List Lexeme) → IsColumnName alias tokens column
    → operand_at (tokens ++ rest) ≡ (colref_at (tokens ++ rest) >>= λ found. Some (term.Column found.0, found.1))
unfolding operand_at parameter_at
operand-column None column tokens rest form = rw form.0 refl
operand-column (Some alias) column tokens rest form = rw form.0 refl

operand-literal : (tokens : List Lexeme) (literal : Value) (rest : List Lexeme) → IsLiteral tokens literal
    → operand_at (tokens ++ rest) ≡ (literal_at (tokens ++ rest) >>= λ found. Some (term.Literal found.0, found.1))
unfolding operand_at parameter_at
operand-literal tokens (value.Int n) rest form = grind (arith, common_steps)
operand-literal tokens (value.Text text) rest form = rw form refl
operand-literal tokens value.Null rest form = absurd form

pub operand-again : IsReadAgain IsTerm operand_at NoDot
unfolding operand_at parameter_at
operand-again tokens (term.Column column) rest form follows = grind (arith, common_steps, operand-column, colref-again)
operand-again tokens (term.Literal literal) rest form follows =
    operand-literal tokens literal rest form ∙ ap (λ found. found >>= λ found. Some (term.Literal found.0, found.1)) (literal-again tokens literal rest form tt)
operand-again tokens (term.Parameter number) rest form follows = rw form refl

-- neither a parenthesis nor NOT stands first
abbrev pub BeginsOperand : List Lexeme → Type 0
BeginsOperand tokens = (after_mark m.OpenParen tokens ≡ None) × (after_mark m.Not tokens ≡ None)

column-begins : (alias : Option (List ℕ)) (column : List ℕ) (tokens rest : List Lexeme) → IsColumnName alias tokens column → BeginsOperand (tokens ++ rest)
unfolding after_mark
column-begins None column tokens rest form = rw (form.0, not_reserved column (codes "NOT") form.1 refl) (refl, refl)
column-begins (Some alias) column tokens rest form = rw (form.0, not_reserved alias (codes "NOT") form.1 refl) (refl, refl)

pub operand-begins : (tokens : List Lexeme) (operand : Term) (rest : List Lexeme) → IsTerm tokens operand → BeginsOperand (tokens ++ rest)
unfolding after_mark
operand-begins tokens (term.Column column) rest form = column-begins column.alias column.column tokens rest form
operand-begins tokens (term.Literal (value.Int n)) rest form = grind (arith, common_steps)
operand-begins tokens (term.Literal (value.Text text)) rest form = rw form (refl, refl)
operand-begins tokens (term.Literal value.Null) rest form = absurd form
operand-begins tokens (term.Parameter number) rest form = rw form (refl, refl)

-- each separator is a token
separators-counted : {A : Type 0} (separator : Mark) (IsPart : Rule A) (tokens : List Lexeme) (x : A) (xs : List A) → Separated separator IsPart tokens (x ∷ xs)
    → length xs ≤ length tokens
separators-counted separator IsPart tokens x [] form = omega arith
separators-counted separator IsPart tokens x (y ∷ ys) form =
    let counted = separators-counted separator IsPart form.1 y ys form.4 in
    rw form.2 (omega (arith, counted, length-append form.0 (mark separator ∷ form.1)))

more-again : {A : Type 0} (separator : Mark) (IsPart : Rule A) (part : Reader A) (Follows : List Lexeme → Type 0)
    → ((rest : List Lexeme) → after_mark separator (mark separator ∷ rest) ≡ Some rest) → ((rest : List Lexeme) → Follows (mark separator ∷ rest)) → IsReadAgain IsPart part Follows
    → (tokens : List Lexeme) (x : A) (xs : List A) (rest : List Lexeme) (most : ℕ) → length xs ≤ most → Separated separator IsPart tokens (x ∷ xs)
    → Follows rest → after_mark separator rest ≡ None
    → more_at part separator (suc most) (mark separator ∷ (tokens ++ rest)) ≡ Some (x ∷ xs, rest)
unfolding more_at
more-again separator IsPart part Follows it_follows parts_end again tokens x [] rest most room form follows ended =
    rw (it_follows (tokens ++ rest), again tokens x rest form follows, more_at-end part separator most rest ended) refl
more-again separator IsPart part Follows it_follows parts_end again tokens x (y ∷ ys) rest zero room form follows ended = absurd (omega arith)
more-again separator IsPart part Follows it_follows parts_end again tokens x (y ∷ ys) rest (suc most) room form follows ended =
    let next = mark separator ∷ (form.1 ++ rest) in
    let first : part (tokens ++ rest) ≡ Some (x, next) =
    ap (λ all. part (all ++ rest)) form.2 ∙ (ap part (append_assoc form.0 (mark separator ∷ form.1) rest) ∙ again form.0 x next form.3 (parts_end (form.1 ++ rest))) in
    rw (it_follows (tokens ++ rest), first, more-again separator IsPart part Follows it_follows parts_end again form.1 y ys rest most (omega arith) form.4 follows ended) refl

-- items with a separator between them are read again, where no further separator follows
pub list-again : {A : Type 0} (separator : Mark) (IsPart : Rule A) (part : Reader A) (Follows : List Lexeme → Type 0)
    → ((rest : List Lexeme) → after_mark separator (mark separator ∷ rest) ≡ Some rest) → ((rest : List Lexeme) → Follows (mark separator ∷ rest)) → IsReadAgain IsPart part Follows
    → IsReadAgain (Separated separator IsPart) (list_at part separator) (λ rest. Follows rest × (after_mark separator rest ≡ None))
unfolding list_at list_with_first
list-again separator IsPart part Follows it_follows parts_end again tokens [] rest form follows = absurd form
list-again separator IsPart part Follows it_follows parts_end again tokens (x ∷ []) rest form follows =
    rw (again tokens x rest form follows.0, more_at-end part separator (length rest) rest follows.1) refl
list-again separator IsPart part Follows it_follows parts_end again tokens (x ∷ y ∷ ys) rest form follows =
    let next = mark separator ∷ (form.1 ++ rest) in
    let first : part (tokens ++ rest) ≡ Some (x, next) =
    ap (λ all. part (all ++ rest)) form.2 ∙ (ap part (append_assoc form.0 (mark separator ∷ form.1) rest) ∙ again form.0 x next form.3 (parts_end (form.1 ++ rest))) in
    let counted = separators-counted separator IsPart form.1 y ys form.4 in
    let room : length ys ≤ length (form.1 ++ rest) = omega (arith, counted, length-append form.1 rest) in
    rw (first, more-again separator IsPart part Follows it_follows parts_end again form.1 y ys rest (length (form.1 ++ rest)) room form.4 follows.0 follows.1) refl

-- a list in parentheses is read again, whatever follows it
pub in_parentheses-again : {A : Type 0} (IsInside : Rule A) (inside : Reader A) (Follows : List Lexeme → Type 0) → ((rest : List Lexeme) → Follows (mark m.CloseParen ∷ rest))
    → IsReadAgain IsInside inside Follows → IsReadAgain (InParentheses IsInside) (in_parentheses_at inside) (λ rest. Unit {0})
unfolding in_parentheses_at after_mark
in_parentheses-again IsInside inside Follows closes again tokens x rest form follows =
    grind (arith, common_steps, append_assoc)
