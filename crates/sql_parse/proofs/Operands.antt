-- Each operand of a query has a token of its own, and its parameters are those among its tokens, in order.
use Rattle.std.proofs.Common.{◌≡◌, ◌∙◌, ℕ, zero, suc, ◌≤◌, ◌⊎◌, inl, inr, Bool, true, false, List, [], ◌∷◌, ◌++◌, length, flat_map, Option, Some, None, refl, sym, ap, subst, length-append, arith}
use Rattle.std.proofs.lemmas.Grind.{common_steps}
use Rattle.std.specs.List.{filter_map}
use Rattle.std.proofs.lemmas.List.{append-nil}
use Rattle.std.proofs.lemmas.List.Elements.{filter_map-append}
use Rattle.sql_values.specs.declared.value.Value.{Value}
use Rattle.sql_values.specs.declared.value.Value.TheVariants as value
use Rattle.sql_parse.specs.declared.mark.Mark.{Mark}
use Rattle.sql_parse.specs.declared.mark.Mark.TheVariants as m
use Rattle.sql_parse.specs.declared.tree.Term.{Term}
use Rattle.sql_parse.specs.declared.tree.Term.TheVariants as term
use Rattle.sql_parse.specs.declared.tree.ColRef.{ColRef}
use Rattle.sql_parse.specs.Limits.{nesting_limit}
use Rattle.sql_parse.specs.Lexemes.{Lexeme, mark}
use Rattle.sql_parse.specs.Trees.{ConditionTree, ConditionTrees, Compare, Between, OneOf, IsNull, Not, And, Or, NoMore, More, operands}
use Rattle.sql_parse.specs.Grammar.{Rule, Separated, InParentheses, IsColumnName, IsLiteral, IsTerm, IsPredicate, IsFactor, IsChain, IsConjunction, IsDisjunction, IsGroup, IsItem, IsSelection, IsWhere, IsSelect, written_if}
use Rattle.sql_parse.specs.Parameters.{parameter_of}
use Rattle.sql_parse.proofs.Numbers.{number_of, numbers_in, mark-no_number}

-- the tokens are enough for the operands, and their parameters are those of the operands
pub record Hold (tokens : List Lexeme) (terms : List Term) : Type 0 where
  pub few : length terms ≤ length tokens
  pub numbers : numbers_in tokens ≡ filter_map parameter_of terms

-- what is written by the rule holds these operands
abbrev pub Holds : {A : Type 0} → Rule A → (A → List Term) → Type 0
Holds {A} IsForm terms = (tokens : List Lexeme) (x : A) → IsForm tokens x → Hold tokens (terms x)

abbrev pub no_terms : {A : Type 0} → A → List Term
no_terms x = []

pub hold-none : (tokens : List Lexeme) → numbers_in tokens ≡ [] → Hold tokens []
hold-none tokens none = record { few = omega arith; numbers = none }

pub hold-after : (token : Lexeme) (tokens : List Lexeme) (terms : List Term) → number_of token ≡ None → Hold tokens terms → Hold (token ∷ tokens) terms
hold-after token tokens terms none held = grind (arith, common_steps, numbers_in)

pub hold-after_mark : (keyword : Mark) (tokens : List Lexeme) (terms : List Term) → Hold tokens terms → Hold (mark keyword ∷ tokens) terms
hold-after_mark keyword tokens terms held = hold-after (mark keyword) tokens terms (mark-no_number keyword) held

pub hold-append : (front back : List Lexeme) (terms more : List Term) → Hold front terms → Hold back more → Hold (front ++ back) (terms ++ more)
hold-append front back terms more one other =
    grind (arith, common_steps, length-append, filter_map-append, number_of, numbers_in)

pub hold-after_not : (negated : Bool) (tokens : List Lexeme) (terms : List Term) → Hold tokens terms → Hold (written_if negated (m.Not ∷ []) ++ tokens) terms
hold-after_not false tokens terms held = held
hold-after_not true tokens terms held = hold-after_mark m.Not tokens terms held

pub separated-held : {A : Type 0} (separator : Mark) (IsPart : Rule A) (terms : A → List Term) → Holds IsPart terms → Holds (Separated separator IsPart) (flat_map terms)
separated-held separator IsPart terms part tokens [] form = absurd form
separated-held separator IsPart terms part tokens (x ∷ []) form = subst (Hold tokens) (sym (append-nil (terms x))) (part tokens x form)
separated-held separator IsPart terms part tokens (x ∷ y ∷ ys) form =
    rw form.2 (hold-append form.0 (mark separator ∷ form.1) (terms x) (flat_map terms (y ∷ ys)) (part form.0 x form.3)
    (hold-after_mark separator form.1 _ (separated-held separator IsPart terms part form.1 (y ∷ ys) form.4)))

flat_map-none : {A : Type 0} (xs : List A) → flat_map no_terms xs ≡ []
flat_map-none [] = refl
flat_map-none (x ∷ xs) = flat_map-none xs

-- a list of what holds no operand
pub list-held : {A : Type 0} (separator : Mark) (IsPart : Rule A) → Holds IsPart no_terms → Holds (Separated separator IsPart) no_terms
list-held separator IsPart part tokens xs form =
    subst (Hold tokens) (flat_map-none xs) (separated-held separator IsPart no_terms part tokens xs form)

pub in_parentheses-held : {A : Type 0} (IsInside : Rule A) (terms : A → List Term) → Holds IsInside terms → Holds (InParentheses IsInside) terms
in_parentheses-held IsInside terms inside tokens x form =
    rw form.1 (hold-after_mark m.OpenParen _ (terms x) (subst (Hold (form.0 ++ mark m.CloseParen ∷ [])) (append-nil (terms x))
    (hold-append form.0 (mark m.CloseParen ∷ []) (terms x) [] (inside form.0 x form.2) (hold-none (mark m.CloseParen ∷ []) refl))))

column_name-numbers : (alias : Option (List ℕ)) (column : List ℕ) (tokens : List Lexeme) → IsColumnName alias tokens column → (1 ≤ length tokens) × (numbers_in tokens ≡ [])
column_name-numbers None column tokens form = rw form.0 (omega arith, refl)
column_name-numbers (Some alias) column tokens form = rw form.0 (omega arith, refl)

literal-numbers : (tokens : List Lexeme) (literal : Value) → IsLiteral tokens literal → (1 ≤ length tokens) × (numbers_in tokens ≡ [])
literal-numbers tokens (value.Int n) form = grind (arith, common_steps)
literal-numbers tokens (value.Text text) form = rw form (omega arith, refl)
literal-numbers tokens value.Null form = absurd form

pub literal-held : Holds IsLiteral no_terms
literal-held tokens literal form = hold-none tokens (literal-numbers tokens literal form).1

column-held : (tokens : List Lexeme) (column : ColRef) → IsColumnName column.alias tokens column.column → Hold tokens (term.Column column ∷ [])
column-held tokens column form = grind (arith, common_steps, column_name-numbers)

operand-held : Holds IsTerm (λ operand. operand ∷ [])
operand-held tokens (term.Column column) form = column-held tokens column form
operand-held tokens (term.Literal literal) form = grind (arith, common_steps, literal-numbers)
operand-held tokens (term.Parameter number) form = rw form (record { few = omega arith; numbers = refl })

flat_map-one : (terms : List Term) → flat_map (λ operand. operand ∷ []) terms ≡ terms
flat_map-one [] = refl
flat_map-one (of ∷ terms) = ap (λ more. of ∷ more) (flat_map-one terms)

operands-held : Holds (Separated m.Comma IsTerm) (λ terms. terms)
operands-held tokens terms form =
    subst (Hold tokens) (flat_map-one terms) (separated-held m.Comma IsTerm (λ operand. operand ∷ []) operand-held tokens terms form)

abbrev mutual
  -- the operands of a condition, in written order
  pub terms_in : ConditionTree → List Term
  terms_in (Compare op left right) = left ∷ right ∷ []
  terms_in (Between negated of low high) = of ∷ low ∷ high ∷ []
  terms_in (OneOf negated of terms) = of ∷ terms
  terms_in (IsNull negated column) = term.Column column ∷ []
  terms_in (Not inner) = terms_in inner
  terms_in (And parts) = terms_in_all parts
  terms_in (Or parts) = terms_in_all parts

  pub terms_in_all : ConditionTrees → List Term
  terms_in_all NoMore = []
  terms_in_all (More part parts) = terms_in part ++ terms_in_all parts

predicate-held : Holds IsPredicate terms_in
predicate-held tokens (Compare op left right) form = grind (arith, common_steps, hold-append, operand-held, hold-after)
predicate-held tokens (Between negated of low high) form =
    grind (arith, common_steps, hold-append, operand-held, hold-after_not, hold-after_mark)
predicate-held tokens (OneOf negated of terms) form =
    rw form.2 (hold-append form.0 _ (of ∷ []) terms (operand-held form.0 of form.3)
    (hold-after_not negated _ _ (hold-after_mark m.In form.1 _
    (in_parentheses-held (Separated m.Comma IsTerm) (λ terms. terms) operands-held form.1 terms form.4))))
predicate-held tokens (IsNull negated column) form =
    grind (arith, common_steps, hold-append, column-held, hold-after_mark, hold-after_not, hold-none)
predicate-held tokens (Not inner) form = absurd form
predicate-held tokens (And parts) form = absurd form
predicate-held tokens (Or parts) form = absurd form

terms-all : (trees : List ConditionTree) → flat_map terms_in trees ≡ terms_in_all (operands trees)
terms-all [] = refl
terms-all (tree ∷ trees) = ap (λ more. terms_in tree ++ more) (terms-all trees)

plain-held : (IsGroup : Rule ConditionTree) → Holds IsGroup terms_in → Holds (λ tokens tree. IsPredicate tokens tree ⊎ IsGroup tokens tree) terms_in
plain-held IsGroup group tokens tree (inl form) = predicate-held tokens tree form
plain-held IsGroup group tokens tree (inr form) = group tokens tree form

factor-held : (IsGroup : Rule ConditionTree) → Holds IsGroup terms_in → Holds (IsFactor IsGroup) terms_in
factor-held IsGroup group tokens tree (inl form) = predicate-held tokens tree form
factor-held IsGroup group tokens tree (inr (inl form)) = group tokens tree form
factor-held IsGroup group tokens tree (inr (inr form)) =
    rw (form.2, form.3) (hold-after_mark m.Not form.0 _ (plain-held IsGroup group form.0 form.1 form.4))

chain-held : (separator : Mark) (node : List ConditionTree → ConditionTree) (IsPart : Rule ConditionTree)
    → ((trees : List ConditionTree) → flat_map terms_in trees ≡ terms_in (node trees)) → Holds IsPart terms_in → Holds (IsChain separator node IsPart) terms_in
chain-held separator node IsPart all part tokens tree (inl one) = part tokens tree one
chain-held separator node IsPart all part tokens tree (inr many) =
    let trees = many.0 ∷ many.1 ∷ many.2 in
    subst (Hold tokens) (all trees ∙ ap terms_in (sym many.3)) (separated-held separator IsPart terms_in part tokens trees many.4)

disjunction-held : (IsGroup : Rule ConditionTree) → Holds IsGroup terms_in → Holds (IsDisjunction IsGroup) terms_in
disjunction-held IsGroup group =
    chain-held m.Or (λ parts. Or (operands parts)) (IsConjunction IsGroup) terms-all
    (chain-held m.And (λ parts. And (operands parts)) (IsFactor IsGroup) terms-all (factor-held IsGroup group))

group-held : (nesting : ℕ) → Holds (IsGroup nesting) terms_in
unfolding IsGroup
group-held zero tokens tree form = absurd form
group-held (suc nesting) tokens tree form =
    in_parentheses-held (IsDisjunction (IsGroup nesting)) terms_in (disjunction-held (IsGroup nesting) (group-held nesting)) tokens tree form

abbrev pub terms_of_condition : Option ConditionTree → List Term
terms_of_condition None = []
terms_of_condition (Some tree) = terms_in tree

where-held : Holds IsWhere terms_of_condition
where-held tokens None form = rw form (hold-none [] refl)
where-held tokens (Some tree) form =
    rw form.1 (hold-after_mark m.Where form.0 _ (disjunction-held (IsGroup nesting_limit) (group-held nesting_limit) form.0 tree form.2))

selection-held : Holds IsSelection no_terms
selection-held tokens None form = rw form (hold-none (mark m.Star ∷ []) refl)
selection-held tokens (Some columns) form =
    list-held m.Comma _ (λ ts column is. hold-none ts (column_name-numbers column.alias column.column ts is).1) tokens columns form

item-held : Holds IsItem no_terms
item-held tokens item form = grind (arith, common_steps, hold-none)

-- the operands of a query are those of its condition
pub select-held : Holds IsSelect (λ query. terms_of_condition query.condition)
select-held tokens query form =
    rw form.3 (hold-after_mark m.Select _ _ (hold-append form.0 _ [] _ (selection-held form.0 query.columns form.4)
    (hold-after_mark m.From _ _ (hold-append form.1 form.2 [] _ (list-held m.Comma IsItem item-held form.1 query.from form.5) (where-held form.2 query.condition form.6)))))
