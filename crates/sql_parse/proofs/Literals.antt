-- No literal of a condition that is read is NULL.
use Rattle.std.proofs.Common.{ℕ, zero, suc, ◌⊎◌, inl, inr, List, [], ◌∷◌, Option, Some, None, IfSome, subst, sym}
use Rattle.sql_values.specs.declared.value.Value.TheVariants as value
use Rattle.sql_parse.specs.declared.mark.Mark.{Mark}
use Rattle.sql_parse.specs.declared.mark.Mark.TheVariants as m
use Rattle.sql_parse.specs.declared.tree.Term.{Term}
use Rattle.sql_parse.specs.declared.tree.Term.TheVariants as term
use Rattle.sql_parse.specs.Limits.{nesting_limit}
use Rattle.sql_parse.specs.Lexemes.{Lexeme}
use Rattle.sql_parse.specs.Trees.{ConditionTree, Compare, Between, OneOf, IsNull, Not, And, Or, operands}
use Rattle.sql_parse.specs.Grammar.{Rule, Separated, IsTerm, IsPredicate, IsFactor, IsConjunction, IsDisjunction, IsGroup, IsWhere}
use Rattle.sql_parse.specs.WellFormed.{IsNotNull, AreNotNull, IsWellFormedCondition, AreWellFormedConditions}

-- what is written by a rule has no NULL
abbrev IsFree : {A : Type 0} → (A → Type 0) → Rule A → Type 0
IsFree {A} HasNone IsForm = (tokens : List Lexeme) (x : A) → IsForm tokens x → HasNone x

operand-free : IsFree IsNotNull IsTerm
operand-free tokens (term.Column column) form = tt
operand-free tokens (term.Literal (value.Int n)) form = tt
operand-free tokens (term.Literal (value.Text text)) form = tt
operand-free tokens (term.Literal value.Null) form = absurd form
operand-free tokens (term.Parameter number) form = tt

operands-free : (tokens : List Lexeme) (terms : List Term) → Separated m.Comma IsTerm tokens terms → AreNotNull terms
operands-free tokens [] form = absurd form
operands-free tokens (one ∷ []) form = (operand-free tokens one form, tt)
operands-free tokens (one ∷ other ∷ more) form = (operand-free form.0 one form.3, operands-free form.1 (other ∷ more) form.4)

predicate-free : IsFree IsWellFormedCondition IsPredicate
predicate-free tokens (Compare op left right) form = (operand-free form.0 left form.3, operand-free form.1 right form.4)
predicate-free tokens (Between negated of low high) form = (operand-free form.0 of form.4, operand-free form.1 low form.5, operand-free form.2 high form.6)
predicate-free tokens (OneOf negated of terms) form = (operand-free form.0 of form.3, operands-free form.4.0 terms form.4.2)
predicate-free tokens (IsNull negated column) form = tt
predicate-free tokens (Not inner) form = absurd form
predicate-free tokens (And parts) form = absurd form
predicate-free tokens (Or parts) form = absurd form

plain-free : (IsGroup : Rule ConditionTree) → IsFree IsWellFormedCondition IsGroup → (tokens : List Lexeme) (tree : ConditionTree)
    → IsPredicate tokens tree ⊎ IsGroup tokens tree → IsWellFormedCondition tree
plain-free IsGroup group tokens tree (inl form) = predicate-free tokens tree form
plain-free IsGroup group tokens tree (inr form) = group tokens tree form

factor-free : (IsGroup : Rule ConditionTree) → IsFree IsWellFormedCondition IsGroup → IsFree IsWellFormedCondition (IsFactor IsGroup)
factor-free IsGroup group tokens tree (inl form) = predicate-free tokens tree form
factor-free IsGroup group tokens tree (inr (inl form)) = group tokens tree form
factor-free IsGroup group tokens tree (inr (inr form)) =
    subst IsWellFormedCondition (sym form.3) (plain-free IsGroup group form.0 form.1 form.4)

parts-free : (separator : Mark) (IsPart : Rule ConditionTree) → IsFree IsWellFormedCondition IsPart → (tokens : List Lexeme) (trees : List ConditionTree)
    → Separated separator IsPart tokens trees → AreWellFormedConditions (operands trees)
parts-free separator IsPart part tokens [] form = tt
parts-free separator IsPart part tokens (one ∷ []) form = (part tokens one form, tt)
parts-free separator IsPart part tokens (one ∷ other ∷ more) form =
    (part form.0 one form.3, parts-free separator IsPart part form.1 (other ∷ more) form.4)

conjunction-free : (IsGroup : Rule ConditionTree) → IsFree IsWellFormedCondition IsGroup → IsFree IsWellFormedCondition (IsConjunction IsGroup)
conjunction-free IsGroup group tokens tree (inl one) = factor-free IsGroup group tokens tree one
conjunction-free IsGroup group tokens tree (inr many) =
    subst IsWellFormedCondition (sym many.3) (tt, parts-free m.And (IsFactor IsGroup) (factor-free IsGroup group) tokens (many.0 ∷ many.1 ∷ many.2) many.4)

disjunction-free : (IsGroup : Rule ConditionTree) → IsFree IsWellFormedCondition IsGroup → IsFree IsWellFormedCondition (IsDisjunction IsGroup)
disjunction-free IsGroup group tokens tree (inl one) = conjunction-free IsGroup group tokens tree one
disjunction-free IsGroup group tokens tree (inr many) =
    subst IsWellFormedCondition (sym many.3) (tt, parts-free m.Or (IsConjunction IsGroup) (conjunction-free IsGroup group) tokens (many.0 ∷ many.1 ∷ many.2) many.4)

group-free : (nesting : ℕ) → IsFree IsWellFormedCondition (IsGroup nesting)
unfolding IsGroup
group-free zero tokens tree form = absurd form
group-free (suc nesting) tokens tree form = disjunction-free (IsGroup nesting) (group-free nesting) form.0 tree form.2

pub where-free : (tokens : List Lexeme) (condition : Option ConditionTree) → IsWhere tokens condition → IfSome condition IsWellFormedCondition
where-free tokens None form = tt
where-free tokens (Some tree) form = disjunction-free (IsGroup nesting_limit) (group-free nesting_limit) form.0 tree form.2
