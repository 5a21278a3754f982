-- What is printed for a value is written for it by the grammar, wherever anything is.
use Rattle.std.proofs.Common.{◌≡◌, ◌∙◌, ℕ, suc, inl, inr, Bool, true, false, List, [], ◌∷◌, ◌++◌, map, Option, Some, None, ℤ, pos, negsuc, int_lt, bytes_eq, refl, sym, ap, subst, append-nil, rules, arith}
use Rattle.std.proofs.lemmas.Grind.{common_steps}
use Rattle.std.proofs.lemmas.List.{map-append}
use Rattle.std.proofs.lemmas.Slice.Eq.{bytes_eq-Decides}
use Rattle.sql_values.specs.declared.value.Value.TheVariants as value
use Rattle.sql_parse.specs.declared.mark.Mark.{Mark}
use Rattle.sql_parse.specs.declared.mark.Mark.TheVariants as m
use Rattle.sql_parse.specs.declared.tree.Term.TheVariants as term
use Rattle.sql_parse.specs.Lexemes.{Lexeme, mark}
use Rattle.sql_parse.specs.Trees.{Compare, Between, OneOf, IsNull, Not, And, Or}
use Rattle.sql_parse.specs.Grammar.{Rule, written_if, Separated, InParentheses, IsColumnName, IsColRef, IsInteger, IsLiteral, IsTerm, IsPredicate, IsItem, IsSelection}
use Rattle.sql_parse.specs.Canonical.{Part, Fixed, part_lexeme, listed, in_parentheses, kept_if, column_parts, integer_parts, value_parts, operand_parts, condition_parts, item_parts, selection_parts}

abbrev pub tokens_of : List Part → List Lexeme
tokens_of parts = map part_lexeme parts

pub tokens-append : (xs ys : List Part) → tokens_of (xs ++ ys) ≡ tokens_of xs ++ tokens_of ys
tokens-append xs ys = map-append part_lexeme xs ys

-- whatever tokens the rule has for a value, it also has those that are printed for it
abbrev pub IsPrintedBy : {A : Type 0} → Rule A → (A → List Part) → Type 0
IsPrintedBy {A} IsForm parts = (tokens : List Lexeme) (x : A) → IsForm tokens x → IsForm (tokens_of (parts x)) x

fixed-printed : (marks : List Mark) → tokens_of (map Fixed marks) ≡ map mark marks
fixed-printed [] = refl
fixed-printed (keyword ∷ marks) = ap (λ tokens. mark keyword ∷ tokens) (fixed-printed marks)

pub kept-printed : (kept : Bool) (marks : List Mark) → tokens_of (kept_if kept marks) ≡ written_if kept marks
kept-printed false marks = refl
kept-printed true marks = fixed-printed marks

kept-before : (kept : Bool) (marks : List Mark) (parts : List Part) → tokens_of (kept_if kept marks ++ parts) ≡ written_if kept marks ++ tokens_of parts
kept-before kept marks parts = tokens-append (kept_if kept marks) parts ∙ ap (λ tokens. tokens ++ tokens_of parts) (kept-printed kept marks)

pub separated-printed : {A : Type 0} (IsPart : Rule A) (parts : A → List Part) → IsPrintedBy IsPart parts → IsPrintedBy (Separated m.Comma IsPart) (listed parts)
separated-printed IsPart parts printed tokens [] form = absurd form
separated-printed IsPart parts printed tokens (x ∷ []) form = subst (λ ps. IsPart (tokens_of ps) x) (sym (append-nil (parts x))) (printed tokens x form)
separated-printed IsPart parts printed tokens (x ∷ y ∷ ys) form = (
  tokens_of (parts x),
  tokens_of (listed parts (y ∷ ys)),
  tokens-append (parts x) (Fixed m.Comma ∷ listed parts (y ∷ ys)),
  printed form.0 x form.3,
  separated-printed IsPart parts printed form.1 (y ∷ ys) form.4,
)

pub in_parentheses-printed : {A : Type 0} (IsInside : Rule A) (parts : A → List Part) → IsPrintedBy IsInside parts → IsPrintedBy (InParentheses IsInside) (λ x. in_parentheses (parts x))
in_parentheses-printed IsInside parts printed tokens x form =
    (tokens_of (parts x), ap (λ ts. mark m.OpenParen ∷ ts) (tokens-append (parts x) (Fixed m.CloseParen ∷ [])), printed form.0 x form.2)

column_name-printed : (alias : Option (List ℕ)) → IsPrintedBy (IsColumnName alias) (λ column. column_parts (record { alias = alias; column = column }))
column_name-printed None tokens column form = (refl, form.1)
column_name-printed (Some alias) tokens column form = (refl, form.1, form.2)

pub colref-printed : IsPrintedBy IsColRef column_parts
colref-printed tokens column form = column_name-printed column.alias tokens column.column form

pub integer-printed : (n : ℤ) → IsInteger (tokens_of (integer_parts n)) n
integer-printed (pos n) = let not_below : int_lt (pos n) (pos 0) ≡ false = search rules in (n, inl (rw not_below refl, refl))
integer-printed (negsuc n) = (suc n, inr (inr (refl, refl)))

pub literal-printed : IsPrintedBy IsLiteral value_parts
literal-printed tokens (value.Int n) form = integer-printed n
literal-printed tokens (value.Text text) form = refl
literal-printed tokens value.Null form = absurd form

pub operand-printed : IsPrintedBy IsTerm operand_parts
operand-printed tokens (term.Column column) form = colref-printed tokens column form
operand-printed tokens (term.Literal literal) form = literal-printed tokens literal form
operand-printed tokens (term.Parameter number) form = refl

pub predicate-printed : IsPrintedBy IsPredicate condition_parts
predicate-printed tokens (Compare op left right) form = grind (arith, common_steps, tokens-append, operand-printed)
predicate-printed tokens (Between negated of low high) form =
    let range = Fixed m.Between ∷ (operand_parts low ++ Fixed m.And ∷ operand_parts high) in (
      tokens_of (operand_parts of),
      tokens_of (operand_parts low),
      tokens_of (operand_parts high),
      tokens-append (operand_parts of) (kept_if negated (m.Not ∷ []) ++ range)
          ∙ ap (λ ts. tokens_of (operand_parts of) ++ ts) (kept-before negated (m.Not ∷ []) range
          ∙ ap (λ ts. written_if negated (m.Not ∷ []) ++ mark m.Between ∷ ts) (tokens-append (operand_parts low) (Fixed m.And ∷ operand_parts high))),
      operand-printed form.0 of form.4,
      operand-printed form.1 low form.5,
      operand-printed form.2 high form.6,
    )
predicate-printed tokens (OneOf negated of terms) form =
    let values = Fixed m.In ∷ in_parentheses (listed operand_parts terms) in (
      tokens_of (operand_parts of),
      tokens_of (in_parentheses (listed operand_parts terms)),
      tokens-append (operand_parts of) (kept_if negated (m.Not ∷ []) ++ values)
          ∙ ap (λ ts. tokens_of (operand_parts of) ++ ts) (kept-before negated (m.Not ∷ []) values),
      operand-printed form.0 of form.3,
      in_parentheses-printed (Separated m.Comma IsTerm) (listed operand_parts) (separated-printed IsTerm operand_parts operand-printed) form.1 terms form.4,
    )
predicate-printed tokens (IsNull negated column) form =
    grind (arith, common_steps, tokens-append, kept-before, colref-printed)
predicate-printed tokens (Not inner) form = absurd form
predicate-printed tokens (And parts) form = absurd form
predicate-printed tokens (Or parts) form = absurd form

pub item-printed : IsPrintedBy IsItem item_parts
item-printed tokens item form = grind (arith, common_steps, bytes_eq, bytes_eq-Decides)

pub selection-printed : IsPrintedBy IsSelection selection_parts
selection-printed tokens None form = refl
selection-printed tokens (Some columns) form = separated-printed IsColRef column_parts colref-printed tokens columns form
