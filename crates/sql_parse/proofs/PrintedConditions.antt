-- A condition that is written somehow is also written as it is printed, within the same nesting of parentheses.
use Rattle.std.proofs.Common.{◌≡◌, ℕ, zero, suc, ◌⊎◌, inl, inr, Bool, true, false, List, [], ◌∷◌, refl, sym, ap, subst, append-nil, arith}
use Rattle.std.proofs.lemmas.Grind.{common_steps}
use Rattle.sql_parse.specs.declared.mark.Mark.{Mark}
use Rattle.sql_parse.specs.declared.mark.Mark.TheVariants as m
use Rattle.sql_parse.specs.Limits.{nesting_limit}
use Rattle.sql_parse.specs.Lexemes.{Lexeme, mark}
use Rattle.sql_parse.specs.Trees.{ConditionTree, ConditionTrees, Compare, Between, OneOf, IsNull, Not, And, Or, NoMore, More, operands}
use Rattle.sql_parse.specs.Grammar.{Rule, Separated, IsPredicate, IsFactor, IsConjunction, IsDisjunction, IsGroup}
use Rattle.sql_parse.specs.Canonical.{Fixed, in_parentheses, is_or, is_chain, is_no_predicate, grouped_if, condition_parts, chain_parts}
use Rattle.sql_parse.proofs.PrintedForms.{tokens_of, tokens-append, IsPrintedBy, predicate-printed}

-- what may stand at a nesting, where parentheses take one
abbrev AsGroup : (ℕ → Type 0) → (in_group : Bool) → ℕ → Type 0
AsGroup May false n = May n
AsGroup May true zero = ⊥
AsGroup May true (suc n) = May n

as_group-map : (May Other : ℕ → Type 0) → ((n : ℕ) → May n → Other n) → (in_group : Bool) (n : ℕ) → AsGroup May in_group n → AsGroup Other in_group n
as_group-map May Other f false n may = f n may
as_group-map May Other f true zero may = absurd may
as_group-map May Other f true (suc n) may = f n may

as_group-more : (May : ℕ → Type 0) → ((n : ℕ) → May n → May (suc n)) → (in_group : Bool) (n : ℕ) → AsGroup May in_group n → AsGroup May in_group (suc n)
as_group-more May more false n may = more n may
as_group-more May more true zero may = absurd may
as_group-more May more true (suc n) may = more n may

abbrev HasTwo : ConditionTrees → Type 0
HasTwo NoMore = ⊥
HasTwo (More first NoMore) = ⊥
HasTwo (More first (More second more)) = Unit {0}

-- a tree that is written with parentheses nested so deep at most, where only the needed ones are
abbrev mutual
  Stands : ConditionTree → ℕ → Type 0
  Stands (Compare op left right) n = (tokens : List Lexeme) × IsPredicate tokens (Compare op left right)
  Stands (Between negated of low high) n = (tokens : List Lexeme) × IsPredicate tokens (Between negated of low high)
  Stands (OneOf negated of terms) n = (tokens : List Lexeme) × IsPredicate tokens (OneOf negated of terms)
  Stands (IsNull negated column) n = (tokens : List Lexeme) × IsPredicate tokens (IsNull negated column)
  Stands (Not inner) n = AsGroup (Stands inner) (is_no_predicate inner) n
  Stands (And parts) n = HasTwo parts × EachStands is_chain parts n
  Stands (Or parts) n = HasTwo parts × EachStands is_or parts n

  EachStands : (ConditionTree → Bool) → ConditionTrees → ℕ → Type 0
  EachStands in_group NoMore n = Unit {0}
  EachStands in_group (More part parts) n = AsGroup (Stands part) (in_group part) n × EachStands in_group parts n

mutual
  stands-more : (tree : ConditionTree) (n : ℕ) → Stands tree n → Stands tree (suc n)
  stands-more (Compare op left right) n may = may
  stands-more (Between negated of low high) n may = may
  stands-more (OneOf negated of terms) n may = may
  stands-more (IsNull negated column) n may = may
  stands-more (Not inner) n may = as_group-more (Stands inner) (λ k below. stands-more inner k below) (is_no_predicate inner) n may
  stands-more (And parts) n may = (may.0, each_stands-more is_chain parts n may.1)
  stands-more (Or parts) n may = (may.0, each_stands-more is_or parts n may.1)

  each_stands-more : (in_group : ConditionTree → Bool) (parts : ConditionTrees) (n : ℕ) → EachStands in_group parts n → EachStands in_group parts (suc n)
  each_stands-more in_group NoMore n may = tt
  each_stands-more in_group (More part parts) n may =
      (as_group-more (Stands part) (λ k below. stands-more part k below) (in_group part) n may.0, each_stands-more in_group parts n may.1)

-- what stands as a group stands
group-stands_so : (tree : ConditionTree) (in_group : Bool) (n : ℕ) → AsGroup (Stands tree) true n → AsGroup (Stands tree) in_group n
group-stands_so tree true n may = may
group-stands_so tree false zero may = absurd may
group-stands_so tree false (suc n) may = stands-more tree n may

-- what is written stands

predicate-stands_chain : (tokens : List Lexeme) (tree : ConditionTree) (n : ℕ) → IsPredicate tokens tree → AsGroup (Stands tree) (is_chain tree) n
predicate-stands_chain tokens (Compare op left right) n form = (tokens, form)
predicate-stands_chain tokens (Between negated of low high) n form = (tokens, form)
predicate-stands_chain tokens (OneOf negated of terms) n form = (tokens, form)
predicate-stands_chain tokens (IsNull negated column) n form = (tokens, form)
predicate-stands_chain tokens (Not inner) n form = absurd form
predicate-stands_chain tokens (And parts) n form = absurd form
predicate-stands_chain tokens (Or parts) n form = absurd form

predicate-stands_inner : (tokens : List Lexeme) (tree : ConditionTree) (n : ℕ) → IsPredicate tokens tree → AsGroup (Stands tree) (is_no_predicate tree) n
predicate-stands_inner tokens (Compare op left right) n form = (tokens, form)
predicate-stands_inner tokens (Between negated of low high) n form = (tokens, form)
predicate-stands_inner tokens (OneOf negated of terms) n form = (tokens, form)
predicate-stands_inner tokens (IsNull negated column) n form = (tokens, form)
predicate-stands_inner tokens (Not inner) n form = absurd form
predicate-stands_inner tokens (And parts) n form = absurd form
predicate-stands_inner tokens (Or parts) n form = absurd form

-- a group's condition stands one deeper
abbrev GroupsStand : ℕ → Type 0
GroupsStand n = (tokens : List Lexeme) (tree : ConditionTree) → IsGroup n tokens tree → AsGroup (Stands tree) true n

factor-stands : (n : ℕ) → GroupsStand n → (tokens : List Lexeme) (tree : ConditionTree) → IsFactor (IsGroup n) tokens tree → AsGroup (Stands tree) (is_chain tree) n
factor-stands n groups tokens tree form =
    grind (arith, common_steps, predicate-stands_chain, group-stands_so, predicate-stands_inner)

separated-stands : (separator : Mark) (IsPart : Rule ConditionTree) (in_group : ConditionTree → Bool) (n : ℕ)
    → ((tokens : List Lexeme) (tree : ConditionTree) → IsPart tokens tree → AsGroup (Stands tree) (in_group tree) n)
    → (tokens : List Lexeme) (trees : List ConditionTree) → Separated separator IsPart tokens trees → EachStands in_group (operands trees) n
separated-stands separator IsPart in_group n part tokens [] form = tt
separated-stands separator IsPart in_group n part tokens (x ∷ []) form = (part tokens x form, tt)
separated-stands separator IsPart in_group n part tokens (x ∷ y ∷ ys) form =
    (part form.0 x form.3, separated-stands separator IsPart in_group n part form.1 (y ∷ ys) form.4)

chain-is_or : (tree : ConditionTree) (n : ℕ) → AsGroup (Stands tree) (is_chain tree) n → AsGroup (Stands tree) (is_or tree) n
chain-is_or (And parts) n may = group-stands_so (And parts) false n may
chain-is_or (Or parts) n may = may
chain-is_or (Compare op left right) n may = may
chain-is_or (Between negated of low high) n may = may
chain-is_or (OneOf negated of terms) n may = may
chain-is_or (IsNull negated column) n may = may
chain-is_or (Not inner) n may = may

or-stands : (tree : ConditionTree) (n : ℕ) → AsGroup (Stands tree) (is_or tree) n → Stands tree n
or-stands (And parts) n may = may
or-stands (Or parts) n may = group-stands_so (Or parts) false n may
or-stands (Compare op left right) n may = may
or-stands (Between negated of low high) n may = may
or-stands (OneOf negated of terms) n may = may
or-stands (IsNull negated column) n may = may
or-stands (Not inner) n may = may

conjunction-stands : (n : ℕ) → GroupsStand n → (tokens : List Lexeme) (tree : ConditionTree) → IsConjunction (IsGroup n) tokens tree → AsGroup (Stands tree) (is_or tree) n
conjunction-stands n groups tokens tree form = elim form [
  | inl factor ↦ chain-is_or tree n (factor-stands n groups tokens tree factor)
  | inr chain ↦ subst (λ t. AsGroup (Stands t) (is_or t) n) (sym chain.3)
      (tt, separated-stands m.And (IsFactor (IsGroup n)) is_chain n (factor-stands n groups) tokens (chain.0 ∷ chain.1 ∷ chain.2) chain.4)
]

disjunction-stands : (n : ℕ) → GroupsStand n → (tokens : List Lexeme) (tree : ConditionTree) → IsDisjunction (IsGroup n) tokens tree → Stands tree n
disjunction-stands n groups tokens tree form = elim form [
  | inl conjunction ↦ or-stands tree n (conjunction-stands n groups tokens tree conjunction)
  | inr chain ↦ subst (λ t. Stands t n) (sym chain.3)
      (tt, separated-stands m.Or (IsConjunction (IsGroup n)) is_or n (conjunction-stands n groups) tokens (chain.0 ∷ chain.1 ∷ chain.2) chain.4)
]

groups-stand : (n : ℕ) → GroupsStand n
unfolding IsGroup
groups-stand zero tokens tree form = absurd form
groups-stand (suc n) tokens tree form = disjunction-stands n (groups-stand n) form.0 tree form.2

-- what stands is written as it is printed

abbrev Printed : ConditionTree → ℕ → Type 0
Printed (Compare op left right) n = IsPredicate (tokens_of (condition_parts (Compare op left right))) (Compare op left right)
Printed (Between negated of low high) n = IsPredicate (tokens_of (condition_parts (Between negated of low high))) (Between negated of low high)
Printed (OneOf negated of terms) n = IsPredicate (tokens_of (condition_parts (OneOf negated of terms))) (OneOf negated of terms)
Printed (IsNull negated column) n = IsPredicate (tokens_of (condition_parts (IsNull negated column))) (IsNull negated column)
Printed (Not inner) n = IsFactor (IsGroup n) (tokens_of (condition_parts (Not inner))) (Not inner)
Printed (And parts) n = IsConjunction (IsGroup n) (tokens_of (condition_parts (And parts))) (And parts)
Printed (Or parts) n = IsDisjunction (IsGroup n) (tokens_of (condition_parts (Or parts))) (Or parts)

abbrev EachPrinted : (ConditionTree → Bool) → ConditionTrees → ℕ → Type 0
EachPrinted in_group NoMore n = Unit {0}
EachPrinted in_group (More part parts) n = AsGroup (Printed part) (in_group part) n × EachPrinted in_group parts n

printed-disjunction : (tree : ConditionTree) (n : ℕ) → Printed tree n → IsDisjunction (IsGroup n) (tokens_of (condition_parts tree)) tree
printed-disjunction (Compare op left right) n form = inl (inl (inl form))
printed-disjunction (Between negated of low high) n form = inl (inl (inl form))
printed-disjunction (OneOf negated of terms) n form = inl (inl (inl form))
printed-disjunction (IsNull negated column) n form = inl (inl (inl form))
printed-disjunction (Not inner) n form = inl (inl form)
printed-disjunction (And parts) n form = inl form
printed-disjunction (Or parts) n form = form

printed-group : (tree : ConditionTree) (n : ℕ) → Printed tree n → IsGroup (suc n) (tokens_of (in_parentheses (condition_parts tree))) tree
unfolding IsGroup
printed-group tree n form = (
  tokens_of (condition_parts tree),
  ap (λ ts. mark m.OpenParen ∷ ts) (tokens-append (condition_parts tree) (Fixed m.CloseParen ∷ [])),
  printed-disjunction tree n form,
)

printed-factor : (tree : ConditionTree) (n : ℕ) → AsGroup (Printed tree) (is_chain tree) n → IsFactor (IsGroup n) (tokens_of (grouped_if (is_chain tree) (condition_parts tree))) tree
printed-factor (Compare op left right) n form = inl form
printed-factor (Between negated of low high) n form = inl form
printed-factor (OneOf negated of terms) n form = inl form
printed-factor (IsNull negated column) n form = inl form
printed-factor (Not inner) n form = form
printed-factor (And parts) zero form = absurd form
printed-factor (And parts) (suc n) form = inr (inl (printed-group (And parts) n form))
printed-factor (Or parts) zero form = absurd form
printed-factor (Or parts) (suc n) form = inr (inl (printed-group (Or parts) n form))

printed-conjunction : (tree : ConditionTree) (n : ℕ) → AsGroup (Printed tree) (is_or tree) n → IsConjunction (IsGroup n) (tokens_of (grouped_if (is_or tree) (condition_parts tree))) tree
printed-conjunction (Compare op left right) n form = inl (inl form)
printed-conjunction (Between negated of low high) n form = inl (inl form)
printed-conjunction (OneOf negated of terms) n form = inl (inl form)
printed-conjunction (IsNull negated column) n form = inl (inl form)
printed-conjunction (Not inner) n form = inl form
printed-conjunction (And parts) n form = form
printed-conjunction (Or parts) zero form = absurd form
printed-conjunction (Or parts) (suc n) form = inl (inr (inl (printed-group (Or parts) n form)))

-- the condition after NOT
printed-inner : (tree : ConditionTree) (n : ℕ) → AsGroup (Printed tree) (is_no_predicate tree) n
    → IsPredicate (tokens_of (grouped_if (is_no_predicate tree) (condition_parts tree))) tree ⊎ IsGroup n (tokens_of (grouped_if (is_no_predicate tree) (condition_parts tree))) tree
printed-inner (Compare op left right) n form = inl form
printed-inner (Between negated of low high) n form = inl form
printed-inner (OneOf negated of terms) n form = inl form
printed-inner (IsNull negated column) n form = inl form
printed-inner (Not inner) zero form = absurd form
printed-inner (Not inner) (suc n) form = inr (printed-group (Not inner) n form)
printed-inner (And parts) zero form = absurd form
printed-inner (And parts) (suc n) form = inr (printed-group (And parts) n form)
printed-inner (Or parts) zero form = absurd form
printed-inner (Or parts) (suc n) form = inr (printed-group (Or parts) n form)

abbrev list_of : ConditionTrees → List ConditionTree
list_of NoMore = []
list_of (More part parts) = part ∷ list_of parts

operands-list : (parts : ConditionTrees) → operands (list_of parts) ≡ parts
operands-list NoMore = refl
operands-list (More part parts) = ap (λ rest. More part rest) (operands-list parts)

separated-printed_parts : (keyword : Mark) (is_group : ConditionTree → Bool) (IsPart : Rule ConditionTree) (n : ℕ)
    → ((tree : ConditionTree) → AsGroup (Printed tree) (is_group tree) n → IsPart (tokens_of (grouped_if (is_group tree) (condition_parts tree))) tree)
    → (first : ConditionTree) (parts : ConditionTrees) → AsGroup (Printed first) (is_group first) n → EachPrinted is_group parts n
    → Separated keyword IsPart (tokens_of (chain_parts keyword is_group (More first parts))) (first ∷ list_of parts)
separated-printed_parts keyword is_group IsPart n part first NoMore one more =
    subst (λ ps. IsPart (tokens_of ps) first) (sym (append-nil (grouped_if (is_group first) (condition_parts first)))) (part first one)
separated-printed_parts keyword is_group IsPart n part first (More second parts) one more = (
  tokens_of (grouped_if (is_group first) (condition_parts first)),
  tokens_of (chain_parts keyword is_group (More second parts)),
  tokens-append (grouped_if (is_group first) (condition_parts first)) (Fixed keyword ∷ chain_parts keyword is_group (More second parts)),
  part first one,
  separated-printed_parts keyword is_group IsPart n part second parts more.0 more.1,
)

and-printed : (parts : ConditionTrees) (n : ℕ) → HasTwo parts → EachPrinted is_chain parts n → IsConjunction (IsGroup n) (tokens_of (chain_parts m.And is_chain parts)) (And parts)
and-printed NoMore n two each = absurd two
and-printed (More first NoMore) n two each = absurd two
and-printed (More first (More second more)) n two each = inr (
  first,
  second,
  list_of more,
  ap (λ rest. And (More first (More second rest))) (sym (operands-list more)),
  separated-printed_parts m.And is_chain (IsFactor (IsGroup n)) n (λ tree one. printed-factor tree n one) first (More second more) each.0 each.1,
)

or-printed : (parts : ConditionTrees) (n : ℕ) → HasTwo parts → EachPrinted is_or parts n → IsDisjunction (IsGroup n) (tokens_of (chain_parts m.Or is_or parts)) (Or parts)
or-printed NoMore n two each = absurd two
or-printed (More first NoMore) n two each = absurd two
or-printed (More first (More second more)) n two each = inr (
  first,
  second,
  list_of more,
  ap (λ rest. Or (More first (More second rest))) (sym (operands-list more)),
  separated-printed_parts m.Or is_or (IsConjunction (IsGroup n)) n (λ tree one. printed-conjunction tree n one) first (More second more) each.0 each.1,
)

mutual
  stands-printed : (tree : ConditionTree) (n : ℕ) → Stands tree n → Printed tree n
  stands-printed (Compare op left right) n may = predicate-printed may.0 (Compare op left right) may.1
  stands-printed (Between negated of low high) n may = predicate-printed may.0 (Between negated of low high) may.1
  stands-printed (OneOf negated of terms) n may = predicate-printed may.0 (OneOf negated of terms) may.1
  stands-printed (IsNull negated column) n may = predicate-printed may.0 (IsNull negated column) may.1
  stands-printed (Not inner) n may =
      let form = as_group-map (Stands inner) (Printed inner) (λ k below. stands-printed inner k below) (is_no_predicate inner) n may in
      inr (inr (tokens_of (grouped_if (is_no_predicate inner) (condition_parts inner)), inner, refl, refl, printed-inner inner n form))
  stands-printed (And parts) n may = and-printed parts n may.0 (each_stands-printed is_chain parts n may.1)
  stands-printed (Or parts) n may = or-printed parts n may.0 (each_stands-printed is_or parts n may.1)

  each_stands-printed : (in_group : ConditionTree → Bool) (parts : ConditionTrees) (n : ℕ) → EachStands in_group parts n → EachPrinted in_group parts n
  each_stands-printed in_group NoMore n may = tt
  each_stands-printed in_group (More part parts) n may = (
    as_group-map (Stands part) (Printed part) (λ k below. stands-printed part k below) (in_group part) n may.0,
    each_stands-printed in_group parts n may.1,
  )

pub condition-printed : IsPrintedBy (IsDisjunction (IsGroup nesting_limit)) condition_parts
condition-printed tokens tree form =
    printed-disjunction tree nesting_limit (stands-printed tree nesting_limit (disjunction-stands nesting_limit (groups-stand nesting_limit) tokens tree form))
