-- Conditions that are read are written by the grammar.
use Rattle.std.proofs.Common.{◌≡◌, ℕ, zero, suc, ◌⊎◌, inl, inr, Bool, true, false, List, [], ◌∷◌, ◌++◌, Option, Some, None, refl, ap, ◌∙◌}
use Rattle.sql_parse.specs.declared.condition.Connective.{Connective}
use Rattle.sql_parse.specs.declared.condition.Connective.TheVariants as connectives
use Rattle.sql_parse.specs.declared.mark.Mark.TheVariants as m
use Rattle.sql_parse.specs.declared.tree.Term.{Term}
use Rattle.sql_parse.specs.declared.tree.Term.TheVariants as term
use Rattle.sql_parse.specs.Lexemes.{Lexeme, Comparison, mark}
use Rattle.sql_parse.specs.Trees.{ConditionTree}
use Rattle.sql_parse.specs.Grammar.{Rule, written_if, Separated, IsTerm, IsPredicate, IsFactor, IsChain, IsConjunction, IsDisjunction, IsGroup}
use Rattle.sql_parse.specs.Reading.{Reader, choose, after_mark, comparison_at, negation_at, null_test_of, between_of, range_or_list_of, predicate_of, predicate_at, one_node, separator_of, node_of, chain_at, plain_factor_at, factor_at, level_at, group_at}
use Rattle.sql_parse.proofs.Read.{IfFound, found_weaker, IsRead, Reads, then_read, either_found, also, after_mark-reads, then_after, either_after, operand-reads, list-reads, in_parentheses-reads}

comparison-reads : (tokens : List Lexeme) → IfFound (λ op. tokens ≡ Comparison op.0 ∷ op.1) (comparison_at tokens)
unfolding comparison_at
comparison-reads [] = tt
comparison-reads (Comparison op ∷ rest) = refl
comparison-reads (other ∷ rest) = tt

negation_of : (next : Option (List Lexeme)) (tokens : List Lexeme) → IfFound (λ rest. tokens ≡ mark m.Not ∷ rest) next
    → let negation : Bool × List Lexeme = choose next (false, tokens) (λ rest. (true, rest)) in tokens ≡ written_if negation.0 (m.Not ∷ []) ++ negation.1
negation_of None tokens known = refl
negation_of (Some rest) tokens known = known

negation-reads : (tokens : List Lexeme) → tokens ≡ written_if (negation_at tokens).0 (m.Not ∷ []) ++ (negation_at tokens).1
unfolding negation_at
negation-reads tokens = negation_of (after_mark m.Not tokens) tokens (after_mark-reads m.Not tokens)

null_test-reads : (left : Term) (tokens operand later rest : List Lexeme) → tokens ≡ operand ++ later → IsTerm operand left → later ≡ mark m.Is ∷ rest
    → IfFound (IsRead IsPredicate tokens) (null_test_of left rest)
unfolding null_test_of
null_test-reads (term.Column column) tokens operand later rest is form first =
    then_after m.Null (negation_at rest).1 _ _ (λ end null.
    let negated = written_if (negation_at rest).0 (m.Not ∷ []) in (
      operand ++ mark m.Is ∷ (negated ++ mark m.Null ∷ []),
      also _ _ _ is (first ∙ ap (λ all. mark m.Is ∷ all) (also negated (mark m.Null ∷ []) end (negation-reads rest) null)),
      (operand, refl, form),
    ))
null_test-reads (term.Literal literal) tokens operand later rest is form first = tt
null_test-reads (term.Parameter number) tokens operand later rest is form first = tt

between-reads : (negated : Bool) (of : Term) (tokens operand later rest : List Lexeme) → tokens ≡ operand ++ later → IsTerm operand of
    → later ≡ written_if negated (m.Not ∷ []) ++ mark m.Between ∷ rest → IfFound (IsRead IsPredicate tokens) (between_of negated of rest)
unfolding between_of
between-reads negated of tokens operand later rest is form first =
    then_read operand-reads rest _ _ (λ low b.
    then_after m.And low.1 _ _ (λ next and.
    then_read operand-reads next _ _ (λ high c.
    let inside = also b.0 (mark m.And ∷ c.0) high.1 b.1 (and ∙ ap (λ all. mark m.And ∷ all) c.1) in (
      operand ++ (written_if negated (m.Not ∷ []) ++ mark m.Between ∷ (b.0 ++ mark m.And ∷ c.0)),
      also _ _ _ is (also _ (mark m.Between ∷ (b.0 ++ mark m.And ∷ c.0)) _ first (ap (λ all. mark m.Between ∷ all) inside)),
      (operand, b.0, c.0, refl, form, b.2, c.2),
    ))))

range_or_list-reads : (of : Term) (tokens operand later : List Lexeme) → tokens ≡ operand ++ later → IsTerm operand of
    → IfFound (IsRead IsPredicate tokens) (range_or_list_of of later)
unfolding range_or_list_of
range_or_list-reads of tokens operand later is form =
    let negation = negation_at later in
    let written = negation-reads later in
    either_after m.Between negation.1 _ _ _
    (then_after m.In negation.1 _ _ (λ rest first.
    then_read (in_parentheses-reads (list-reads operand-reads m.Comma)) rest _ _ (λ terms b. (
      operand ++ (written_if negation.0 (m.Not ∷ []) ++ mark m.In ∷ b.0),
      also _ _ _ is (also _ (mark m.In ∷ b.0) _ written (first ∙ ap (λ all. mark m.In ∷ all) b.1)),
      (operand, b.0, refl, form, b.2),
    ))))
    (λ rest first. between-reads negation.0 of tokens operand later rest is form (written ∙ ap (λ all. written_if negation.0 (m.Not ∷ []) ++ all) first))

predicate_of-reads : (left : Term) (tokens operand later : List Lexeme) → tokens ≡ operand ++ later → IsTerm operand left
    → IfFound (IsRead IsPredicate tokens) (predicate_of left later)
unfolding predicate_of
predicate_of-reads left tokens operand later is form =
    either_found (λ op. later ≡ Comparison op.0 ∷ op.1) _ (comparison_at later) _ _ (comparison-reads later)
    (either_after m.Is later _ _ _ (range_or_list-reads left tokens operand later is form)
    (λ rest first. null_test-reads left tokens operand later rest is form first))
    (λ op first. then_read operand-reads op.1 _ _ (λ right b.
    (operand ++ Comparison op.0 ∷ b.0, also _ (Comparison op.0 ∷ b.0) _ is (first ∙ ap (λ all. Comparison op.0 ∷ all) b.1), (operand, b.0, refl, form, b.2))))

predicate-reads : Reads IsPredicate predicate_at
unfolding predicate_at
predicate-reads = record {
  each = λ tokens.
      then_read operand-reads tokens _ _ (λ left a. predicate_of-reads left.0 tokens a.0 left.1 a.1 a.2);
}

-- a predicate or a group
abbrev IsPlainFactor : Rule ConditionTree → Rule ConditionTree
IsPlainFactor IsGroup tokens tree = IsPredicate tokens tree ⊎ IsGroup tokens tree

plain_factor-reads : (nesting : ℕ) → Reads (IsGroup nesting) (group_at nesting) → Reads (IsPlainFactor (IsGroup nesting)) (plain_factor_at (group_at nesting))
unfolding plain_factor_at
plain_factor-reads nesting group = record {
  each = λ tokens.
      either_after m.OpenParen tokens _ _ _
      (found_weaker (IsRead IsPredicate tokens) _ (predicate_at tokens) (λ tree form. (form.0, form.1, inl form.2)) (predicate-reads.each tokens))
      (λ rest opens. found_weaker (IsRead (IsGroup nesting) tokens) _ (group_at nesting tokens) (λ tree form. (form.0, form.1, inr form.2)) (group.each tokens));
}

plain_is_factor : (IsGroup : Rule ConditionTree) (tokens : List Lexeme) (tree : ConditionTree) → IsPlainFactor IsGroup tokens tree → IsFactor IsGroup tokens tree
plain_is_factor IsGroup tokens tree (inl form) = inl form
plain_is_factor IsGroup tokens tree (inr form) = inr (inl form)

factor-reads : (nesting : ℕ) → Reads (IsGroup nesting) (group_at nesting) → Reads (IsFactor (IsGroup nesting)) (factor_at (group_at nesting))
unfolding factor_at
factor-reads nesting group = record {
  each = λ tokens.
      either_after m.Not tokens _ _ _
      (found_weaker (IsRead (IsPlainFactor (IsGroup nesting)) tokens) _ (plain_factor_at (group_at nesting) tokens)
      (λ tree form. (form.0, form.1, plain_is_factor (IsGroup nesting) form.0 tree.0 form.2)) ((plain_factor-reads nesting group).each tokens))
      (λ rest first. then_read (plain_factor-reads nesting group) rest _ _ (λ inner form.
      (mark m.Not ∷ form.0, first ∙ ap (λ all. mark m.Not ∷ all) form.1, inr (inr (form.0, inner.0, refl, refl, form.2)))));
}

chain_of : (connective : Connective) (IsPart : Rule ConditionTree) (tokens : List Lexeme) (parts : List ConditionTree) → Separated (separator_of connective) IsPart tokens parts
    → IsChain (separator_of connective) (node_of connective) IsPart tokens (one_node (node_of connective) parts)
chain_of connective IsPart tokens [] form = absurd form
chain_of connective IsPart tokens (part ∷ []) form = inl form
chain_of connective IsPart tokens (first ∷ second ∷ more) form = inr (first, second, more, refl, form)

chain-reads : (connective : Connective) {IsPart : Rule ConditionTree} {part : Reader ConditionTree} → Reads IsPart part
    → Reads (IsChain (separator_of connective) (node_of connective) IsPart) (chain_at connective part)
unfolding chain_at
chain-reads connective {IsPart = IsPart} reads = record {
  each = λ tokens.
      then_read (list-reads reads (separator_of connective)) tokens _ _ (λ parts form. (form.0, form.1, chain_of connective IsPart form.0 parts.0 form.2));
}

disjunction-reads : (nesting : ℕ) → Reads (IsGroup nesting) (group_at nesting) → Reads (IsDisjunction (IsGroup nesting)) (level_at connectives.Or (group_at nesting))
disjunction-reads nesting group =
    chain-reads connectives.Or {IsPart = IsConjunction (IsGroup nesting)} (chain-reads connectives.And {IsPart = IsFactor (IsGroup nesting)} (factor-reads nesting group))

group-reads : (nesting : ℕ) → Reads (IsGroup nesting) (group_at nesting)
unfolding group_at IsGroup
group-reads zero = record { each = λ tokens. tt }
group-reads (suc nesting) = in_parentheses-reads (disjunction-reads nesting (group-reads nesting))

pub condition-reads : (nesting : ℕ) → Reads (IsDisjunction (IsGroup nesting)) (level_at connectives.Or (group_at nesting))
condition-reads nesting = disjunction-reads nesting (group-reads nesting)
