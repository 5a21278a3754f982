-- What is printed for a value that tokens of a script are written for is sound.
use Rattle.std.proofs.Common.{◌≡◌, ℕ, zero, suc, ◌≤◌, inl, inr, Bool, true, false, cond, List, [], ◌∷◌, ◌++◌, Option, Some, None, pos, int_lt, neg_ℤ, bytes_eq, sym, subst, rules, arith}
use Rattle.std.proofs.lemmas.Grind.{common_steps}
use Rattle.sql_lex.specs.Limits.{max_number}
use Rattle.sql_values.specs.declared.value.Value.TheVariants as value
use Rattle.sql_parse.specs.declared.mark.Mark.{Mark}
use Rattle.sql_parse.specs.declared.mark.Mark.TheVariants as m
use Rattle.sql_parse.specs.declared.tree.Term.TheVariants as term
use Rattle.sql_parse.specs.Limits.{nesting_limit}
use Rattle.sql_parse.specs.Lexemes.{Lexeme, Word, mark}
use Rattle.sql_parse.specs.Trees.{ConditionTree, Compare, Between, OneOf, IsNull, Not, And, Or, operands}
use Rattle.sql_parse.specs.Grammar.{Rule, Separated, InParentheses, IsColumnName, IsColRef, IsInteger, IsLiteral, IsTerm, IsPredicate, IsFactor, IsConjunction, IsDisjunction, IsGroup, IsItem, IsSelection, IsWhere, IsSelect}
use Rattle.sql_parse.specs.Canonical.{Part, Fixed, Name, listed, in_parentheses, kept_if, column_parts, integer_parts, value_parts, operand_parts, is_or, is_chain, grouped_if, condition_parts, chain_parts, item_parts, selection_parts, where_parts, query_parts}
use Rattle.sql_parse.proofs.Sound.{IsSound, EachSound, mark-sound}
use Rattle.sql_parse.proofs.WrittenParts.{Follows, Writable, writable-append}

pub sound-front : (front back : List Lexeme) → EachSound (front ++ back) → EachSound front
sound-front [] back sound = tt
sound-front (token ∷ front) back sound = (sound.0, sound-front front back sound.1)

pub sound-back : (front back : List Lexeme) → EachSound (front ++ back) → EachSound back
sound-back [] back sound = sound
sound-back (token ∷ front) back sound = sound-back front back sound.1

-- what is printed for a value is sound where the tokens of the value are
abbrev pub IsWritable : {A : Type 0} → Rule A → (A → List Part) → Type 0
IsWritable {A} IsForm parts = (tokens : List Lexeme) (x : A) → EachSound tokens → IsForm tokens x → Writable (parts x)

pub listed-writable : {A : Type 0} (IsPart : Rule A) (parts : A → List Part) → IsWritable IsPart parts → IsWritable (Separated m.Comma IsPart) (listed parts)
listed-writable IsPart parts writable tokens [] sound form = absurd form
listed-writable IsPart parts writable tokens (x ∷ []) sound form = writable-append (parts x) [] (writable tokens x sound form) tt
listed-writable IsPart parts writable tokens (x ∷ y ∷ ys) sound form =
    let all = subst EachSound form.2 sound in
    let later : EachSound (mark m.Comma ∷ form.1) = sound-back form.0 (mark m.Comma ∷ form.1) all in
    writable-append (parts x) (Fixed m.Comma ∷ listed parts (y ∷ ys)) (writable form.0 x (sound-front form.0 (mark m.Comma ∷ form.1) all) form.3)
    (mark-sound m.Comma, tt, listed-writable IsPart parts writable form.1 (y ∷ ys) later.1 form.4)

pub group-writable : (parts : List Part) → Writable parts → Writable (in_parentheses parts)
group-writable parts writable =
    (mark-sound m.OpenParen, tt, writable-append parts (Fixed m.CloseParen ∷ []) writable (mark-sound m.CloseParen, tt, tt))

pub in_parentheses-writable : {A : Type 0} (IsInside : Rule A) (parts : A → List Part) → IsWritable IsInside parts → IsWritable (InParentheses IsInside) (λ x. in_parentheses (parts x))
in_parentheses-writable IsInside parts writable tokens x sound form =
    grind (arith, common_steps, group-writable, sound-front)

column_name-writable : (alias : Option (List ℕ)) → IsWritable (IsColumnName alias) (λ column. column_parts (record { alias = alias; column = column }))
column_name-writable None tokens column sound form = let all = subst EachSound form.0 sound in (all.0, tt, tt)
column_name-writable (Some alias) tokens column sound form =
    let all = subst EachSound form.0 sound in (all.0, tt, (mark-sound m.Dot, tt, (all.1.1.0, tt, tt)))

colref-writable : IsWritable IsColRef column_parts
colref-writable tokens column sound form = column_name-writable column.alias tokens column.column sound form

not_negative-writable : (n : ℕ) → n ≤ max_number → Writable (integer_parts (pos n))
not_negative-writable n limit = let not_below : int_lt (pos n) (pos 0) ≡ false = search rules in rw not_below (limit, tt, tt)

negated-number : (n : ℕ) → n ≤ max_number → Writable (integer_parts (neg_ℤ (pos n)))
negated-number zero limit = not_negative-writable 0 limit
negated-number (suc n) limit = (mark-sound m.Minus, tt, (limit, tt, tt))

integer-writable : IsWritable IsInteger integer_parts
integer-writable tokens n sound form = grind (arith, common_steps, not_negative-writable, negated-number)

pub literal-writable : IsWritable IsLiteral value_parts
literal-writable tokens (value.Int n) sound form = integer-writable tokens n sound form
literal-writable tokens (value.Text text) sound form = let all = subst EachSound form sound in (all.0, tt, tt)
literal-writable tokens value.Null sound form = absurd form

operand-writable : IsWritable IsTerm operand_parts
operand-writable tokens (term.Column column) sound form = colref-writable tokens column sound form
operand-writable tokens (term.Literal literal) sound form = literal-writable tokens literal sound form
operand-writable tokens (term.Parameter number) sound form = (tt, tt, tt)

negated-writable : (negated : Bool) (parts : List Part) → Writable parts → Writable (kept_if negated (m.Not ∷ []) ++ parts)
negated-writable false parts writable = writable
negated-writable true parts writable = (mark-sound m.Not, tt, writable)

predicate-writable : IsWritable IsPredicate condition_parts
predicate-writable tokens (Compare op left right) sound form =
    grind (arith, common_steps, sound-back, writable-append, operand-writable, sound-front)
predicate-writable tokens (Between negated of low high) sound form =
    grind (arith, common_steps, sound-back, writable-append, operand-writable, sound-front, negated-writable, mark-sound)
predicate-writable tokens (OneOf negated of terms) sound form =
    grind (arith, common_steps, sound-back, writable-append, operand-writable, sound-front, negated-writable, mark-sound, in_parentheses-writable, listed-writable)
predicate-writable tokens (IsNull negated column) sound form =
    let all = subst EachSound form.1 sound in
    writable-append (column_parts column) (Fixed m.Is ∷ (kept_if negated (m.Not ∷ []) ++ Fixed m.Null ∷ [])) (colref-writable form.0 column (sound-front form.0 _ all) form.2)
    (mark-sound m.Is, tt, negated-writable negated (Fixed m.Null ∷ []) (mark-sound m.Null, tt, tt))
predicate-writable tokens (Not inner) sound form = absurd form
predicate-writable tokens (And parts) sound form = absurd form
predicate-writable tokens (Or parts) sound form = absurd form

grouped-writable : (grouped : Bool) (parts : List Part) → Writable parts → Writable (grouped_if grouped parts)
grouped-writable false parts writable = writable
grouped-writable true parts writable = group-writable parts writable

chain-writable : (keyword : Mark) → ((parts : List Part) → Follows (Fixed keyword) parts) → (is_group : ConditionTree → Bool) (IsPart : Rule ConditionTree) → IsWritable IsPart condition_parts
    → IsWritable (Separated keyword IsPart) (λ trees. chain_parts keyword is_group (operands trees))
chain-writable keyword follows is_group IsPart writable tokens [] sound form = absurd form
chain-writable keyword follows is_group IsPart writable tokens (x ∷ []) sound form =
    writable-append (grouped_if (is_group x) (condition_parts x)) [] (grouped-writable (is_group x) (condition_parts x) (writable tokens x sound form)) tt
chain-writable keyword follows is_group IsPart writable tokens (x ∷ y ∷ ys) sound form =
    let all = subst EachSound form.2 sound in
    let later : EachSound (mark keyword ∷ form.1) = sound-back form.0 (mark keyword ∷ form.1) all in
    writable-append (grouped_if (is_group x) (condition_parts x)) (Fixed keyword ∷ chain_parts keyword is_group (operands (y ∷ ys)))
    (grouped-writable (is_group x) (condition_parts x) (writable form.0 x (sound-front form.0 (mark keyword ∷ form.1) all) form.3))
    (mark-sound keyword, follows (chain_parts keyword is_group (operands (y ∷ ys))), chain-writable keyword follows is_group IsPart writable form.1 (y ∷ ys) later.1 form.4)

factor-writable : (n : ℕ) → IsWritable (IsGroup n) condition_parts → IsWritable (IsFactor (IsGroup n)) condition_parts
factor-writable n groups tokens tree sound form =
    grind (arith, common_steps, predicate-writable, mark-sound, grouped-writable)

conjunction-writable : (n : ℕ) → IsWritable (IsGroup n) condition_parts → IsWritable (IsConjunction (IsGroup n)) condition_parts
conjunction-writable n groups tokens tree sound form = elim form [
  | inl factor ↦ factor-writable n groups tokens tree sound factor
  | inr chain ↦ subst (λ t. Writable (condition_parts t)) (sym chain.3)
      (chain-writable m.And (λ parts. tt) is_chain (IsFactor (IsGroup n)) (factor-writable n groups) tokens (chain.0 ∷ chain.1 ∷ chain.2) sound chain.4)
]

disjunction-writable : (n : ℕ) → IsWritable (IsGroup n) condition_parts → IsWritable (IsDisjunction (IsGroup n)) condition_parts
disjunction-writable n groups tokens tree sound form = elim form [
  | inl conjunction ↦ conjunction-writable n groups tokens tree sound conjunction
  | inr chain ↦ subst (λ t. Writable (condition_parts t)) (sym chain.3)
      (chain-writable m.Or (λ parts. tt) is_or (IsConjunction (IsGroup n)) (conjunction-writable n groups) tokens (chain.0 ∷ chain.1 ∷ chain.2) sound chain.4)
]

groups-writable : (n : ℕ) → IsWritable (IsGroup n) condition_parts
unfolding IsGroup
groups-writable zero tokens tree sound form = absurd form
groups-writable (suc n) tokens tree sound form =
    let all : EachSound (mark m.OpenParen ∷ (form.0 ++ mark m.CloseParen ∷ [])) = subst EachSound form.1 sound in
    disjunction-writable n (groups-writable n) form.0 tree (sound-front form.0 (mark m.CloseParen ∷ []) all.1) form.2

where-writable : IsWritable IsWhere where_parts
where-writable tokens None sound form = tt
where-writable tokens (Some tree) sound form =
    let all : EachSound (mark m.Where ∷ form.0) = subst EachSound form.1 sound in
    (mark-sound m.Where, tt, disjunction-writable nesting_limit (groups-writable nesting_limit) form.0 tree all.1 form.2)

alias-writable : (table alias : List ℕ) (same : Bool) → IsSound (Word table) → IsSound (Word alias) → Writable (Name table ∷ cond same [] (Fixed m.As ∷ Name alias ∷ []))
alias-writable table alias true one other = (one, tt, tt)
alias-writable table alias false one other = (one, tt, (mark-sound m.As, tt, (other, tt, tt)))

item-writable : IsWritable IsItem item_parts
item-writable tokens item sound form = grind (arith, common_steps, bytes_eq, alias-writable)

selection-writable : IsWritable IsSelection selection_parts
selection-writable tokens None sound form = (mark-sound m.Star, tt, tt)
selection-writable tokens (Some columns) sound form = listed-writable IsColRef column_parts colref-writable tokens columns sound form

pub select-writable : IsWritable IsSelect query_parts
select-writable tokens query sound form =
    let all : EachSound (mark m.Select ∷ (form.0 ++ mark m.From ∷ (form.1 ++ form.2))) = subst EachSound form.3 sound in
    let later : EachSound (mark m.From ∷ (form.1 ++ form.2)) = sound-back form.0 (mark m.From ∷ (form.1 ++ form.2)) all.1 in (
      mark-sound m.Select,
      tt,
      writable-append (selection_parts query.columns) (Fixed m.From ∷ (listed item_parts query.from ++ where_parts query.condition))
          (selection-writable form.0 query.columns (sound-front form.0 (mark m.From ∷ (form.1 ++ form.2)) all.1) form.4) (
            mark-sound m.From,
            tt,
            writable-append (listed item_parts query.from) (where_parts query.condition)
                (listed-writable IsItem item_parts item-writable form.1 query.from (sound-front form.1 form.2 later.1) form.5)
                (where-writable form.2 query.condition (sound-back form.1 form.2 later.1) form.6),
          ),
    )
