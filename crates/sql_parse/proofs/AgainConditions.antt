-- Conditions that are written by the grammar are read again.
use Rattle.std.proofs.Common.{◌≡◌, ℕ, zero, suc, ◌⊎◌, inl, inr, Bool, true, false, List, [], ◌∷◌, ◌++◌, Some, None, refl, sym, ap, subst, ◌∙◌, append_assoc, arith}
use Rattle.std.proofs.lemmas.Grind.{common_steps}
use Rattle.sql_values.specs.declared.op.Op.{Op}
use Rattle.sql_parse.specs.declared.condition.Connective.{Connective}
use Rattle.sql_parse.specs.declared.condition.Connective.TheVariants as connectives
use Rattle.sql_parse.specs.declared.mark.Mark.{Mark}
use Rattle.sql_parse.specs.declared.mark.Mark.TheVariants as m
use Rattle.sql_parse.specs.declared.tree.Term.{Term}
use Rattle.sql_parse.specs.declared.tree.Term.TheVariants as term
use Rattle.sql_parse.specs.declared.tree.ColRef.{ColRef}
use Rattle.sql_parse.specs.Lexemes.{Lexeme, Comparison, mark}
use Rattle.sql_parse.specs.Trees.{ConditionTree, Compare, Between, OneOf, IsNull, Not, And, Or}
use Rattle.sql_parse.specs.Grammar.{Rule, written_if, Separated, InParentheses, IsTerm, IsPredicate, IsFactor, IsChain, IsConjunction, IsDisjunction, IsGroup}
use Rattle.sql_parse.specs.Reading.{Reader, after_mark, comparison_at, list_at, in_parentheses_at, operand_at, negation_at, null_test_of, between_of, range_or_list_of, predicate_of, predicate_at, separator_of, node_of, chain_at, plain_factor_at, factor_at, level_at, group_at}
use Rattle.sql_parse.proofs.Again.{IsReadAgain, NoDot, operand-again, BeginsOperand, operand-begins, list-again, in_parentheses-again}

-- a predicate, once its first operand is read
predicate_of-read : (tokens operand tail rest : List Lexeme) (left : Term) → tokens ≡ operand ++ tail → IsTerm operand left → NoDot (tail ++ rest)
    → predicate_at (tokens ++ rest) ≡ predicate_of left (tail ++ rest)
unfolding predicate_at
predicate_of-read tokens operand tail rest left is form no_dot =
    grind (arith, common_steps, append_assoc, operand-again)

compare-again : (op : Op) (left right : Term) (tokens rest : List Lexeme) → IsTerm tokens right → NoDot rest
    → predicate_of left (Comparison op ∷ (tokens ++ rest)) ≡ Some (Compare op left right, rest)
unfolding predicate_of comparison_at
compare-again op left right tokens rest form follows = rw (operand-again tokens right rest form follows) refl

between-again : (negated : Bool) (of low high : Term) (b c rest : List Lexeme) → IsTerm b low → IsTerm c high → NoDot rest
    → between_of negated of ((b ++ mark m.And ∷ c) ++ rest) ≡ Some (Between negated of low high, rest)
unfolding between_of after_mark
between-again negated of low high b c rest first second follows =
    grind (arith, common_steps, append_assoc, operand-again)

range-again : (negated : Bool) (of low high : Term) (b c rest : List Lexeme) → IsTerm b low → IsTerm c high → NoDot rest
    → predicate_of of ((written_if negated (m.Not ∷ []) ++ mark m.Between ∷ (b ++ mark m.And ∷ c)) ++ rest) ≡ Some (Between negated of low high, rest)
unfolding predicate_of comparison_at range_or_list_of negation_at after_mark
range-again false of low high b c rest first second follows = between-again false of low high b c rest first second follows
range-again true of low high b c rest first second follows = between-again true of low high b c rest first second follows

terms-again : IsReadAgain (InParentheses (Separated m.Comma IsTerm)) (in_parentheses_at (list_at operand_at m.Comma)) (λ rest. Unit {0})
unfolding after_mark
terms-again =
    in_parentheses-again (Separated m.Comma IsTerm) (list_at operand_at m.Comma) (λ rest. NoDot rest × (after_mark m.Comma rest ≡ None)) (λ rest. (refl, refl))
    (list-again m.Comma IsTerm operand_at NoDot (λ rest. refl) (λ rest. refl) operand-again)

one_of-again : (negated : Bool) (of : Term) (terms : List Term) (b rest : List Lexeme) → InParentheses (Separated m.Comma IsTerm) b terms
    → predicate_of of ((written_if negated (m.Not ∷ []) ++ mark m.In ∷ b) ++ rest) ≡ Some (OneOf negated of terms, rest)
unfolding predicate_of comparison_at range_or_list_of negation_at after_mark
one_of-again false of terms b rest form = rw (terms-again b terms rest form tt) refl
one_of-again true of terms b rest form = rw (terms-again b terms rest form tt) refl

null-again : (negated : Bool) (column : ColRef) (rest : List Lexeme)
    → predicate_of (term.Column column) ((mark m.Is ∷ (written_if negated (m.Not ∷ []) ++ mark m.Null ∷ [])) ++ rest) ≡ Some (IsNull negated column, rest)
unfolding predicate_of comparison_at null_test_of negation_at after_mark
null-again false column rest = refl
null-again true column rest = refl

no_dot-range : (negated : Bool) (tail rest : List Lexeme) (keyword : Mark) → NoDot (mark keyword ∷ (tail ++ rest)) → NoDot ((written_if negated (m.Not ∷ []) ++ mark keyword ∷ tail) ++ rest)
unfolding after_mark
no_dot-range false tail rest keyword no_dot = no_dot
no_dot-range true tail rest keyword no_dot = refl

pub predicate-again : IsReadAgain IsPredicate predicate_at NoDot
unfolding after_mark
predicate-again tokens (Compare op left right) rest form follows =
    predicate_of-read tokens form.0 (Comparison op ∷ form.1) rest left form.2 form.3 refl ∙ compare-again op left right form.1 rest form.4 follows
predicate-again tokens (Between negated of low high) rest form follows =
    predicate_of-read tokens form.0 _ rest of form.3 form.4 (no_dot-range negated (form.1 ++ mark m.And ∷ form.2) rest m.Between refl)
    ∙ range-again negated of low high form.1 form.2 rest form.5 form.6 follows
predicate-again tokens (OneOf negated of terms) rest form follows =
    predicate_of-read tokens form.0 _ rest of form.2 form.3 (no_dot-range negated form.1 rest m.In refl) ∙ one_of-again negated of terms form.1 rest form.4
predicate-again tokens (IsNull negated column) rest form follows =
    predicate_of-read tokens form.0 _ rest (term.Column column) form.1 form.2 refl ∙ null-again negated column rest
predicate-again tokens (Not inner) rest form follows = absurd form
predicate-again tokens (And parts) rest form follows = absurd form
predicate-again tokens (Or parts) rest form follows = absurd form

begins : (tokens operand tail rest : List Lexeme) (left : Term) → tokens ≡ operand ++ tail → IsTerm operand left → BeginsOperand (tokens ++ rest)
begins tokens operand tail rest left is form =
    subst (λ (all : List Lexeme). BeginsOperand (all ++ rest)) (sym is)
    (subst BeginsOperand (sym (append_assoc operand tail rest)) (operand-begins operand left (tail ++ rest) form))

predicate-begins : (tokens : List Lexeme) (tree : ConditionTree) (rest : List Lexeme) → IsPredicate tokens tree → BeginsOperand (tokens ++ rest)
predicate-begins tokens (Compare op left right) rest form = begins tokens form.0 _ rest left form.2 form.3
predicate-begins tokens (Between negated of low high) rest form = begins tokens form.0 _ rest of form.3 form.4
predicate-begins tokens (OneOf negated of terms) rest form = begins tokens form.0 _ rest of form.2 form.3
predicate-begins tokens (IsNull negated column) rest form = begins tokens form.0 _ rest (term.Column column) form.1 form.2
predicate-begins tokens (Not inner) rest form = absurd form
predicate-begins tokens (And parts) rest form = absurd form
predicate-begins tokens (Or parts) rest form = absurd form

group-opens : (nesting : ℕ) (tokens : List Lexeme) (tree : ConditionTree) → IsGroup nesting tokens tree → (inside : List Lexeme) × (tokens ≡ mark m.OpenParen ∷ inside)
unfolding IsGroup
group-opens zero tokens tree form = absurd form
group-opens (suc nesting) tokens tree form = (form.0 ++ mark m.CloseParen ∷ [], form.1)

-- groups of a nesting are read again, whatever follows them
abbrev IsGroupReadAgain : ℕ → Type 0
IsGroupReadAgain nesting = IsReadAgain (IsGroup nesting) (group_at nesting) (λ rest. Unit {0})

plain_factor-again : (nesting : ℕ) → IsGroupReadAgain nesting
    → IsReadAgain (λ tokens tree. IsPredicate tokens tree ⊎ IsGroup nesting tokens tree) (plain_factor_at (group_at nesting)) NoDot
unfolding plain_factor_at after_mark
plain_factor-again nesting group tokens tree rest (inl form) follows =
    rw (predicate-begins tokens tree rest form).0 (predicate-again tokens tree rest form follows)
plain_factor-again nesting group tokens tree rest (inr form) follows = grind (arith, common_steps, group-opens)

factor-again : (nesting : ℕ) → IsGroupReadAgain nesting → IsReadAgain (IsFactor (IsGroup nesting)) (factor_at (group_at nesting)) NoDot
unfolding factor_at after_mark
factor-again nesting group tokens tree rest (inl form) follows =
    rw (predicate-begins tokens tree rest form).1 (plain_factor-again nesting group tokens tree rest (inl form) follows)
factor-again nesting group tokens tree rest (inr (inl form)) follows =
    let opens = group-opens nesting tokens tree form in
    let no_not : after_mark m.Not (tokens ++ rest) ≡ None = ap (λ all. after_mark m.Not (all ++ rest)) opens.1 in
    rw no_not (plain_factor-again nesting group tokens tree rest (inr form) follows)
factor-again nesting group tokens tree rest (inr (inr form)) follows =
    rw (form.2, form.3, plain_factor-again nesting group form.0 form.1 rest form.4 follows) refl

chain-again : (connective : Connective) (IsPart : Rule ConditionTree) (part : Reader ConditionTree) (Follows : List Lexeme → Type 0)
    → ((rest : List Lexeme) → after_mark (separator_of connective) (mark (separator_of connective) ∷ rest) ≡ Some rest)
    → ((rest : List Lexeme) → Follows (mark (separator_of connective) ∷ rest)) → IsReadAgain IsPart part Follows
    → IsReadAgain (IsChain (separator_of connective) (node_of connective) IsPart) (chain_at connective part) (λ rest. Follows rest × (after_mark (separator_of connective) rest ≡ None))
unfolding chain_at
chain-again connective IsPart part Follows it_follows parts_end again tokens tree rest (inl one) follows =
    rw (list-again (separator_of connective) IsPart part Follows it_follows parts_end again tokens (tree ∷ []) rest one follows) refl
chain-again connective IsPart part Follows it_follows parts_end again tokens tree rest (inr many) follows =
    rw (list-again (separator_of connective) IsPart part Follows it_follows parts_end again tokens (many.0 ∷ many.1 ∷ many.2) rest many.4 follows, many.3) refl

-- neither a dot nor a connective follows
abbrev pub EndsCondition : List Lexeme → Type 0
EndsCondition rest = (NoDot rest × (after_mark m.And rest ≡ None)) × (after_mark m.Or rest ≡ None)

disjunction-again : (nesting : ℕ) → IsGroupReadAgain nesting → IsReadAgain (IsDisjunction (IsGroup nesting)) (level_at connectives.Or (group_at nesting)) EndsCondition
unfolding after_mark
disjunction-again nesting group =
    chain-again connectives.Or (IsConjunction (IsGroup nesting)) (chain_at connectives.And (factor_at (group_at nesting))) (λ rest. NoDot rest × (after_mark m.And rest ≡ None))
    (λ rest. refl) (λ rest. (refl, refl))
    (chain-again connectives.And (IsFactor (IsGroup nesting)) (factor_at (group_at nesting)) NoDot (λ rest. refl) (λ rest. refl) (factor-again nesting group))

group-again : (nesting : ℕ) → IsGroupReadAgain nesting
unfolding group_at after_mark IsGroup
group-again zero tokens tree rest form follows = absurd form
group-again (suc nesting) tokens tree rest form follows =
    in_parentheses-again (IsDisjunction (IsGroup nesting)) (level_at connectives.Or (group_at nesting)) EndsCondition (λ rest. ((refl, refl), refl))
    (disjunction-again nesting (group-again nesting)) tokens tree rest form follows

pub condition-again : (nesting : ℕ) → IsReadAgain (IsDisjunction (IsGroup nesting)) (level_at connectives.Or (group_at nesting)) EndsCondition
condition-again nesting = disjunction-again nesting (group-again nesting)
