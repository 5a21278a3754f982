-- What is read is written by the grammar.
use Rattle.std.proofs.Common.{◌≡◌, ℕ, zero, suc, ◌⊎◌, inl, inr, true, false, cond, List, [], ◌∷◌, ◌++◌, Option, Some, None, pos, refl, sym, ap, subst, ◌∙◌, append_assoc, arith}
use Rattle.std.proofs.lemmas.Grind.{common_steps}
use Rattle.std.proofs.lemmas.Slice.Eq.{bytes_eq-Decides}
use Rattle.sql_values.specs.declared.value.Value.TheVariants as value
use Rattle.sql_lex.specs.declared.token.TokenKind.{TokenKind}
use Rattle.sql_lex.specs.declared.token.TokenKind.TheVariants as kinds
use Rattle.sql_parse.specs.declared.mark.Mark.{Mark}
use Rattle.sql_parse.specs.declared.mark.Mark.TheVariants as m
use Rattle.sql_parse.specs.Lexemes.{Lexeme, Word, Number, Text, Sign, Parameter, mark}
use Rattle.sql_parse.specs.Trees.{StatementTree}
use Rattle.sql_parse.specs.Grammar.{Rule, IsNameToken, Separated, InParentheses, IsColRef, IsInteger, IsLiteral, IsTerm}
use Rattle.sql_parse.specs.Reading.{Reader, ◌>>=◌, choose, same, after_mark, after_word, name_at, number_at, text_token_at, more_at, list_with_first, list_at, in_parentheses_at, colref_at, unsigned_at, integer_at, parameter_at, token_kind_at, literal_of_kind, literal_at, operand_of_kind, operand_at}
use Rattle.sql_parse.specs.Statements.{IsStatement}

-- where there is a value, this holds of it
abbrev pub IfFound : {A : Type 0} → (A → Type 0) → Option A → Type 0
IfFound P None = Unit {0}
IfFound P (Some x) = P x

pub found_weaker : {A : Type 0} (P Q : A → Type 0) (o : Option A) → ((x : A) → P x → Q x) → IfFound P o → IfFound Q o
found_weaker P Q None weaker found = tt
found_weaker P Q (Some x) weaker found = weaker x found

pub found_is : {A : Type 0} (P : A → Type 0) (o : Option A) (x : A) → IfFound P o → o ≡ Some x → P x
found_is P o x found is = subst (IfFound P) is found

-- the tokens are what is written for the value, and the rest
abbrev pub IsRead : {A : Type 0} → Rule A → List Lexeme → A × List Lexeme → Type 0
IsRead IsForm tokens found = (front : List Lexeme) × (tokens ≡ front ++ found.1) × IsForm front found.0

-- what a reader reads is written by the rule
pub record Reads {A : Type 0} (IsForm : Rule A) (read : Reader A) : Type 0 where
  pub each : (tokens : List Lexeme) → IfFound (IsRead IsForm tokens) (read tokens)

-- a further step, once this is known of what was found
pub then_found : {A B : Type 0} (Q : A → Type 0) (P : B → Type 0) (o : Option A) (f : A → Option B) → IfFound Q o → ((x : A) → Q x → IfFound P (f x)) → IfFound P (o >>= f)
then_found Q P None f known next = tt
then_found Q P (Some x) f known next = next x known

pub then_read : {A B : Type 0} {IsForm : Rule A} {read : Reader A} → Reads IsForm read → (tokens : List Lexeme) (P : B → Type 0) (f : A × List Lexeme → Option B)
    → ((x : A × List Lexeme) → IsRead IsForm tokens x → IfFound P (f x)) → IfFound P (read tokens >>= f)
then_read {IsForm = IsForm} {read = read} reads tokens P f next = then_found (IsRead IsForm tokens) P (read tokens) f (reads.each tokens) next

-- one way or another, as a value is found
pub either_found : {A B : Type 0} (Q : A → Type 0) (P : B → Type 0) (o : Option A) (otherwise : Option B) (f : A → Option B) → IfFound Q o
    → IfFound P otherwise → ((x : A) → Q x → IfFound P (f x)) → IfFound P (choose o otherwise f)
either_found Q P None otherwise f known none next = none
either_found Q P (Some x) otherwise f known none next = next x known

-- two parts, one after the other
pub also : {tokens later : List Lexeme} (front more rest : List Lexeme) → tokens ≡ front ++ later → later ≡ more ++ rest → tokens ≡ (front ++ more) ++ rest
also front more rest first second = first ∙ (ap (λ all. front ++ all) second ∙ sym (append_assoc front more rest))

same-true : (a b : Lexeme) → same a b ≡ true → a ≡ b
same-true (Word a) (Word b) is = ap Word ((bytes_eq-Decides a b).0 is)
same-true (Sign a) (Sign b) is = ap Sign ((bytes_eq-Decides a b).0 is)
same-true a b is = absurd cc

pub after_mark-reads : (sign : Mark) (tokens : List Lexeme) → IfFound (λ rest. tokens ≡ mark sign ∷ rest) (after_mark sign tokens)
unfolding after_mark
after_mark-reads sign [] = tt
after_mark-reads sign (first ∷ rest) =
    elim (same first (mark sign)) as (λ b. same first (mark sign) ≡ b → IfFound (λ later. first ∷ rest ≡ mark sign ∷ later) (cond b (Some rest) None)) [
      | true ↦ λ equal. ap (λ token. token ∷ rest) (same-true first (mark sign) equal)
      | false ↦ λ other. tt
    ] refl

pub then_after : {B : Type 0} (sign : Mark) (tokens : List Lexeme) (P : B → Type 0) (f : List Lexeme → Option B)
    → ((rest : List Lexeme) → tokens ≡ mark sign ∷ rest → IfFound P (f rest)) → IfFound P (after_mark sign tokens >>= f)
then_after sign tokens P f next = then_found (λ rest. tokens ≡ mark sign ∷ rest) P (after_mark sign tokens) f (after_mark-reads sign tokens) next

pub either_after : {B : Type 0} (sign : Mark) (tokens : List Lexeme) (P : B → Type 0) (otherwise : Option B) (f : List Lexeme → Option B) → IfFound P otherwise
    → ((rest : List Lexeme) → tokens ≡ mark sign ∷ rest → IfFound P (f rest)) → IfFound P (choose (after_mark sign tokens) otherwise f)
either_after sign tokens P otherwise f none next =
    either_found (λ rest. tokens ≡ mark sign ∷ rest) P (after_mark sign tokens) otherwise f (after_mark-reads sign tokens) none next

after_word-reads : (word : List ℕ) (tokens : List Lexeme) → IfFound (λ rest. tokens ≡ Word word ∷ rest) (after_word word tokens)
unfolding after_word
after_word-reads word [] = tt
after_word-reads word (first ∷ rest) =
    elim (same first (Word word)) as (λ b. same first (Word word) ≡ b → IfFound (λ later. first ∷ rest ≡ Word word ∷ later) (cond b (Some rest) None)) [
      | true ↦ λ equal. ap (λ token. token ∷ rest) (same-true first (Word word) equal)
      | false ↦ λ other. tt
    ] refl

pub then_word : {B : Type 0} (word : List ℕ) (tokens : List Lexeme) (P : B → Type 0) (f : List Lexeme → Option B)
    → ((rest : List Lexeme) → tokens ≡ Word word ∷ rest → IfFound P (f rest)) → IfFound P (after_word word tokens >>= f)
then_word word tokens P f next = then_found (λ rest. tokens ≡ Word word ∷ rest) P (after_word word tokens) f (after_word-reads word tokens) next

pub either_word : {B : Type 0} (word : List ℕ) (tokens : List Lexeme) (P : B → Type 0) (otherwise : Option B) (f : List Lexeme → Option B) → IfFound P otherwise
    → ((rest : List Lexeme) → tokens ≡ Word word ∷ rest → IfFound P (f rest)) → IfFound P (choose (after_word word tokens) otherwise f)
either_word word tokens P otherwise f none next =
    either_found (λ rest. tokens ≡ Word word ∷ rest) P (after_word word tokens) otherwise f (after_word-reads word tokens) none next

name_each : (tokens : List Lexeme) → IfFound (IsRead IsNameToken tokens) (name_at tokens)
unfolding name_at
name_each [] = tt
name_each (Word word ∷ rest) = grind (arith, common_steps)
name_each (other ∷ rest) = tt

number_each : (tokens : List Lexeme) → IfFound (IsRead (λ tokens n. tokens ≡ Number n ∷ []) tokens) (number_at tokens)
unfolding number_at
number_each [] = tt
number_each (Number n ∷ rest) = (Number n ∷ [], refl, refl)
number_each (other ∷ rest) = tt

text_each : (tokens : List Lexeme) → IfFound (IsRead (λ tokens text. tokens ≡ Text text ∷ []) tokens) (text_token_at tokens)
unfolding text_token_at
text_each [] = tt
text_each (Text text ∷ rest) = (Text text ∷ [], refl, refl)
text_each (other ∷ rest) = tt

pub name-reads : Reads IsNameToken name_at
name-reads = record { each = name_each }

pub number-reads : Reads (λ tokens n. tokens ≡ Number n ∷ []) number_at
number-reads = record { each = number_each }

pub text-reads : Reads (λ tokens text. tokens ≡ Text text ∷ []) text_token_at
text-reads = record { each = text_each }

pub colref-reads : Reads IsColRef colref_at
unfolding colref_at
colref-reads = record {
  each = λ tokens.
      then_read name-reads tokens _ _ (λ first name.
      either_after m.Dot first.1 _ _ _ (name.0, name.1, name.2)
      (λ rest dot. then_read name-reads rest _ _ (λ column second.
      (name.0 ++ mark m.Dot ∷ second.0, also _ _ _ name.1 (dot ∙ ap (λ all. mark m.Dot ∷ all) second.1), rw (name.2.0, second.2.0) (refl, name.2.1, second.2.1)))));
}

abbrev IsUnsigned : Rule ℕ
IsUnsigned tokens n = (tokens ≡ Number n ∷ []) ⊎ (tokens ≡ mark m.Plus ∷ Number n ∷ [])

unsigned-reads : Reads IsUnsigned unsigned_at
unfolding unsigned_at
unsigned-reads = record {
  each = λ tokens.
      either_after m.Plus tokens _ _ _
      (found_weaker _ (IsRead IsUnsigned tokens) (number_at tokens) (λ x number. (number.0, number.1, inl number.2)) (number-reads.each tokens))
      (λ rest plus. found_weaker _ (IsRead IsUnsigned tokens) (number_at rest)
      (λ x number. (mark m.Plus ∷ number.0, plus ∙ ap (λ all. mark m.Plus ∷ all) number.1, inr (ap (λ all. mark m.Plus ∷ all) number.2))) (number-reads.each rest));
}

integer-unsigned : (tokens : List Lexeme) (n : ℕ) → IsUnsigned tokens n → IsInteger tokens (pos n)
integer-unsigned tokens n (inl bare) = (n, inl (bare, refl))
integer-unsigned tokens n (inr plus) = (n, inr (inl (plus, refl)))

integer-reads : Reads IsInteger integer_at
unfolding integer_at
integer-reads = record {
  each = λ tokens.
      either_after m.Minus tokens _ _ _
      (then_read unsigned-reads tokens _ _ (λ n number. (number.0, number.1, integer-unsigned number.0 n.0 number.2)))
      (λ rest minus. then_read number-reads rest _ _ (λ n number.
      (mark m.Minus ∷ number.0, minus ∙ ap (λ all. mark m.Minus ∷ all) number.1, (n.0, inr (inr (ap (λ all. mark m.Minus ∷ all) number.2, refl))))));
}

literal_of-integer : (tokens : List Lexeme) → IfFound (IsRead IsLiteral tokens) (integer_at tokens >>= λ n. Some (value.Int n.0, n.1))
literal_of-integer tokens = then_read integer-reads tokens _ _ (λ n number. number)

literal_each : (kind : Option TokenKind) (tokens : List Lexeme) → IfFound (IsRead IsLiteral tokens) (literal_of_kind kind tokens)
literal_each (Some kinds.Text) tokens = then_read text-reads tokens _ _ (λ text form. form)
literal_each other tokens = literal_of-integer tokens

pub literal-reads : Reads IsLiteral literal_at
unfolding literal_at
literal-reads = record { each = λ tokens. literal_each (token_kind_at tokens) tokens }

parameter_each : (tokens : List Lexeme) → IfFound (IsRead (λ tokens number. tokens ≡ Parameter number ∷ []) tokens) (parameter_at tokens)
unfolding parameter_at
parameter_each [] = tt
parameter_each (Parameter number ∷ rest) = (Parameter number ∷ [], refl, refl)
parameter_each (other ∷ rest) = tt

operand_each : (kind : Option TokenKind) (tokens : List Lexeme) → IfFound (IsRead IsTerm tokens) (operand_of_kind kind tokens)
operand_each (Some kinds.Word) tokens = then_read colref-reads tokens _ _ (λ column form. form)
operand_each other tokens = then_read literal-reads tokens _ _ (λ literal form. form)

pub operand-reads : Reads IsTerm operand_at
unfolding operand_at
operand-reads = grind (arith, common_steps, either_found, parameter_each, operand_each)

-- the further parts of a list
more-reads : {A : Type 0} {IsPart : Rule A} {part : Reader A} → Reads IsPart part → (separator : Mark) (most : ℕ) (tokens front later : List Lexeme) (x : A)
    → tokens ≡ front ++ later → IsPart front x
    → IfFound (λ found. IsRead (Separated separator IsPart) tokens (x ∷ found.0, found.1)) (more_at part separator most later)
unfolding more_at
more-reads reads separator zero tokens front later x is form = (front, is, form)
more-reads {IsPart = IsPart} reads separator (suc most) tokens front later x is form =
    either_after separator later _ _ _ (front, is, form) (λ rest goes_on.
    then_read reads rest _ _ (λ next part.
    then_found (λ found. IsRead (Separated separator IsPart) rest (next.0 ∷ found.0, found.1)) _ _ _
    (more-reads reads separator most rest part.0 next.1 next.0 part.1 part.2)
    (λ xs more. (front ++ mark separator ∷ more.0, also _ _ _ is (goes_on ∙ ap (λ all. mark separator ∷ all) more.1), (front, more.0, refl, form, more.2)))))

pub list-reads : {A : Type 0} {IsPart : Rule A} {part : Reader A} → Reads IsPart part → (separator : Mark) → Reads (Separated separator IsPart) (list_at part separator)
unfolding list_at list_with_first
list-reads {IsPart = IsPart} reads separator = record {
  each = λ tokens.
      then_read reads tokens _ _ (λ x first.
      then_found (λ found. IsRead (Separated separator IsPart) tokens (x.0 ∷ found.0, found.1)) _ _ _
      (more-reads reads separator _ tokens first.0 x.1 x.0 first.1 first.2) (λ xs more. more));
}

pub in_parentheses-reads : {A : Type 0} {IsInside : Rule A} {inside : Reader A} → Reads IsInside inside → Reads (InParentheses IsInside) (in_parentheses_at inside)
unfolding in_parentheses_at
in_parentheses-reads reads = record {
  each = λ tokens.
      then_after m.OpenParen tokens _ _ (λ rest opens.
      then_read reads rest _ _ (λ x inside.
      then_after m.CloseParen x.1 _ _ (λ end closes.
      (mark m.OpenParen ∷ (inside.0 ++ mark m.CloseParen ∷ []), opens ∙ ap (λ all. mark m.OpenParen ∷ all) (also _ _ _ inside.1 closes), (inside.0, refl, inside.2)))));
}

-- a statement whose first keywords are read
abbrev pub IsAfter : List Lexeme → Rule StatementTree
IsAfter keywords tokens statement = IsStatement (keywords ++ tokens) statement
