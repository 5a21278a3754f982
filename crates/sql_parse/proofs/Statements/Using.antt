-- What is written by the grammar for USING, what is read and what is printed are the same.
use Rattle.std.proofs.Common.{codes, ◌≡◌, ◌∙◌, List, [], ◌∷◌, ◌++◌, Some, None, refl, ap, subst}
use Rattle.sql_values.specs.declared.value.Value.{Value}
use Rattle.sql_parse.proofs.Productions.{Lexeme, mark, Separated, after_word, after_mark, list_at, in_parentheses_at, Reads, list-reads, in_parentheses-reads, IsReadAgain, list-again, read_to_end, tokens_of, IsPrintedBy, separated-printed, EachSound, mark-sound, IsWritable, listed-writable, Holds, no_terms, hold-none}
use Rattle.sql_parse.specs.declared.mark.Mark.TheVariants as m
use Rattle.sql_parse.specs.Grammar.{Rule, InParentheses, IsLiteral}
use Rattle.sql_parse.specs.Reading.{literal_at}
use Rattle.sql_parse.specs.Canonical.{value_parts, listed, in_parentheses}
use Rattle.sql_parse.specs.Statements.Using.{IsUsing, using_at, using_parts}
use Rattle.sql_parse.proofs.Read.{found_weaker, either_after, IsRead, literal-reads}
use Rattle.sql_parse.proofs.Again.{literal-again, in_parentheses-again}
use Rattle.sql_parse.proofs.PrintedForms.{literal-printed, in_parentheses-printed}
use Rattle.sql_parse.proofs.SoundForms.{literal-writable, in_parentheses-writable}
use Rattle.sql_parse.proofs.Operands.{hold-after_mark, list-held, in_parentheses-held, literal-held}

abbrev AreValues : Rule (List Value)
AreValues = InParentheses (Separated m.Comma IsLiteral)

using-of : (values : List Value) (tokens : List Lexeme) → AreValues tokens values → IsUsing (mark m.Using ∷ tokens) values
using-of [] tokens form = absurd form.2
using-of (value ∷ values) tokens form = (tokens, refl, form)

pub using-reads : Reads IsUsing using_at
unfolding using_at
using-reads = record {
  each = λ tokens.
      either_after m.Using tokens _ _ _ ([], refl, refl)
      (λ rest first. found_weaker (IsRead AreValues rest) _ (in_parentheses_at (list_at literal_at m.Comma) rest)
      (λ values form. (mark m.Using ∷ form.0, first ∙ ap (λ all. mark m.Using ∷ all) form.1, using-of values.0 form.0 form.2))
      ((in_parentheses-reads (list-reads literal-reads m.Comma)).each rest));
}

after_using : (rest : List Lexeme) → after_mark m.Using (mark m.Using ∷ rest) ≡ Some rest
unfolding after_mark
after_using rest = refl

none_after : after_mark m.Using [] ≡ None
unfolding after_mark
none_after = refl

values-again : IsReadAgain AreValues (in_parentheses_at (list_at literal_at m.Comma)) (λ rest. Unit {0})
unfolding after_mark
values-again =
    in_parentheses-again (Separated m.Comma IsLiteral) (list_at literal_at m.Comma) (λ rest. Unit {0} × (after_mark m.Comma rest ≡ None)) (λ rest. (tt, refl))
    (list-again m.Comma IsLiteral literal_at (λ rest. Unit {0}) (λ rest. refl) (λ rest. tt) literal-again)

pub using-read_again : IsReadAgain IsUsing using_at (λ rest. after_mark m.Using rest ≡ None)
unfolding using_at
using-read_again tokens [] rest form follows = rw (form, follows) refl
using-read_again tokens (value ∷ values) rest form follows =
    let found = values-again form.0 (value ∷ values) rest form.2 tt in
    rw (form.1, after_using (form.0 ++ rest), found) refl

pub using-again : (tokens : List Lexeme) (values : List Value) → IsUsing tokens values → using_at tokens ≡ Some (values, [])
using-again tokens values form = read_to_end IsUsing using_at (λ rest. after_mark m.Using rest ≡ None) using-read_again tokens values form none_after

-- neither AT nor a comma stands first
pub using-begins : (tokens : List Lexeme) (values : List Value) → IsUsing tokens values → (after_word (codes "AT") tokens ≡ None) × (after_mark m.Comma tokens ≡ None)
unfolding after_word after_mark
using-begins tokens [] form = rw form (refl, refl)
using-begins tokens (value ∷ values) form = rw form.1 (refl, refl)

pub using-printed : IsPrintedBy IsUsing using_parts
using-printed tokens [] form = refl
using-printed tokens (value ∷ values) form = (
  tokens_of (in_parentheses (listed value_parts (value ∷ values))),
  refl,
  in_parentheses-printed (Separated m.Comma IsLiteral) (listed value_parts) (separated-printed IsLiteral value_parts literal-printed) form.0 (value ∷ values) form.2,
)

pub using-writable : IsWritable IsUsing using_parts
using-writable tokens [] sound form = tt
using-writable tokens (value ∷ values) sound form =
    let all : EachSound (mark m.Using ∷ form.0) = subst EachSound form.1 sound in (
      mark-sound m.Using,
      tt,
      in_parentheses-writable (Separated m.Comma IsLiteral) (listed value_parts) (listed-writable IsLiteral value_parts literal-writable) form.0 (value ∷ values) all.1 form.2,
    )

pub using-held : Holds IsUsing no_terms
using-held tokens [] form = hold-none tokens (rw form refl)
using-held tokens (value ∷ values) form =
    rw form.1 (hold-after_mark m.Using form.0 [] (in_parentheses-held (Separated m.Comma IsLiteral) no_terms (list-held m.Comma IsLiteral literal-held) form.0 (value ∷ values) form.2))
