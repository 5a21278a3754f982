-- What a whole command line gives: the command refuses what the definition refuses, and finds the texts of the numbers.
use Rattle.std.proofs.Common.{◌≡◌, ◌∙◌, ◌&&◌, ◌||◌, ℕ, Bool, cond, true, false, List, [], ◌∷◌, length, map, Option, Some, None, option_map, refl, sym, ap, codes, arith}
use Rattle.std.specs.Prelude.{option_and_then, nat_le, unwrap_or, ◌==◌}
use Rattle.std.specs.Option.{option_to_list}
use Rattle.std.specs.List.{list_all}
use Rattle.std.specs.Str.Parse.{digits_value}
use Rattle.clap.specs.declared.error.kind.ErrorKind.{ErrorKind}
use Rattle.demo_data.specs.Demo.{greatest_demo}
use Rattle.command_line.specs.Limits.{max_work}
use Rattle.std.proofs.lemmas.Bool.Decides.{nat_tests}
use Rattle.clap.specs.Words.{Row, Text, Kinds, fault_of, first_of, matches_of}
use Rattle.clap.specs.Kinds.{or_else}
use Rattle.clap.specs.Walk.{default_rows, finished, has_row, is_empty, nothing_held, reading_by, settled, with_default}
use Rattle.clap.specs.Simple.{built}
use Rattle.clap.specs.Faults.{check_fault, default_fault, defaults_fault, given_default_fault, settle_fault, walk_fault}
use Rattle.clap.proofs.FaultLemmas.{leaf_fault}
use Rattle.clap.proofs.WalkLemmas.{both}
use Rattle.std.specs.Char.{is_ascii_digit}
use Rattle.command_line.specs.Words.{Options, at_most_one_within, is_number, number_within, options_of, options_of_numbers, options_of_uses, max_work_name, demo_name, numbers_given}
use Rattle.command_line.proofs.ClapLine.{at, line_app, or_else-none, rule, top}
use Rattle.command_line.proofs.ClapWords.{IsPlain, plain_first}
use Rattle.command_line.proofs.WordsRead.{Fits, Meaning, Pick, Reads, end_of, faults, has_hyphens, meaning, no_uses, pick, rows_at_end, use_of, uses}

-- ---- the end of the parse: no option has a default, and none is required

undefaulted : (which : Bool) (rows : List Row) → with_default rows (rule which) ≡ rows
undefaulted which rows = go which (has_row (rule which).id rows)
  where
    go : (which b : Bool) → cond b rows (default_rows (rule which).id (reading_by (rule which)) (rule which).defaults rows) ≡ rows
    go which true = refl
    go true false = refl
    go false false = refl

undefaulted_fault : (which : Bool) (rows : List Row) → default_fault rows (rule which) ≡ []
undefaulted_fault which rows = go which (has_row (rule which).id rows)
  where
    go : (which b : Bool) → cond (b || is_empty (rule which).defaults) [] (given_default_fault (rule which) (rule which).defaults) ≡ []
    go which true = refl
    go true false = refl
    go false false = refl

no_defaults : (rows : List Row) → defaults_fault rows top.rules ≡ []
unfolding defaults_fault
no_defaults rows = or_else-none _ _ (undefaulted_fault true rows) (or_else-none _ _ (undefaulted_fault false (with_default rows (rule true))) refl)

or_else-end : (kinds : Kinds) → or_else kinds [] ≡ kinds
or_else-end [] = refl
or_else-end (kind ∷ rest) = refl

pub line_fault : (words : List Text) → fault_of line_app words ≡ faults (at [] None) words
line_fault words =
    let end = (end_of (at [] None) words).held in
    let ends : or_else (defaults_fault (settled top.rules end).rows top.rules) (check_fault top (finished top.rules end) false) ≡ [] = rw (no_defaults (settled top.rules end).rows) refl in
    leaf_fault (built line_app) nothing_held words refl
    ∙ ap (λ kinds. or_else (walk_fault top [] (at [] None) words) (or_else (settle_fault top.rules false end) kinds)) ends
    ∙ ap (or_else (walk_fault top [] (at [] None) words)) (or_else-end (settle_fault top.rules false end))

pub line_rows : (words : List Text) → matches_of line_app words ≡ rows_at_end (at [] None) words
line_rows words = ap (λ rows. with_default rows (rule false)) (undefaulted true (rows_at_end (at [] None) words)) ∙ undefaulted false (rows_at_end (at [] None) words)

-- ---- each option at most once

abbrev pub of_rows : List Row → Option Options
of_rows rows = options_of_numbers (option_to_list (first_of (codes "max-work") rows)) (option_to_list (first_of (codes "demo") rows))

some_kind : (kind : ErrorKind) (rest : Kinds) → kind ∷ rest ≡ [] → ⊥
some_kind kind rest e = cc

given_once : (picks : List Pick) (out : List Row) → Reads [] picks out → options_of_uses (map use_of picks) ≡ of_rows out
given_once [] out is = ap of_rows (sym is)
given_once (pick true work ∷ []) out is = ap of_rows (sym is.1)
given_once (pick false demo ∷ []) out is = ap of_rows (sym is.1)
given_once (pick true work ∷ pick true next ∷ rest) out is = absurd (some_kind _ _ is.1.0)
given_once (pick false demo ∷ pick false next ∷ rest) out is = absurd (some_kind _ _ is.1.0)
given_once (pick true work ∷ pick false demo ∷ []) out is = ap of_rows (sym is.1.1)
given_once (pick false demo ∷ pick true work ∷ []) out is = ap of_rows (sym is.1.1)
given_once (pick true work ∷ pick false demo ∷ pick true next ∷ rest) out is = absurd (some_kind _ _ is.1.1.0)
given_once (pick true work ∷ pick false demo ∷ pick false next ∷ rest) out is = absurd (some_kind _ _ is.1.1.0)
given_once (pick false demo ∷ pick true work ∷ pick true next ∷ rest) out is = absurd (some_kind _ _ is.1.1.0)
given_once (pick false demo ∷ pick true work ∷ pick false next ∷ rest) out is = absurd (some_kind _ _ is.1.1.0)

-- ---- what gives options fits

plain_number : (text : Text) → is_number text ≡ true → IsPlain text
plain_number [] e = (refl, refl, refl)
plain_number (byte ∷ rest) e =
    let digits : list_all is_ascii_digit (byte ∷ rest) ≡ true = (both (nat_le 1 (length (byte ∷ rest)) && nat_le (length (byte ∷ rest)) 19) _ e).1 in
    let digit : is_ascii_digit byte ≡ true = (both _ (list_all is_ascii_digit rest) digits).0 in
    let other : (byte == 45) ≡ false = grind (arith, nat_tests) in
    plain_first byte rest other

plain_within : (least most : ℕ) (text : Text) (number : ℕ) → number_within least most text ≡ Some number → IsPlain text
plain_within least most text number e = go (is_number text) refl e
  where
    go : (b : Bool) → is_number text ≡ b → cond (b && nat_le least (digits_value 10 text) && nat_le (digits_value 10 text) most) (Some (digits_value 10 text)) None ≡ Some number → IsPlain text
    go true is e = plain_number text is
    go false is e = cc

plain_work : (work : Text) (demos : List Text) (options : Options) → options_of_numbers (work ∷ []) demos ≡ Some options → IsPlain work
plain_work work demos options e = go (number_within 0 max_work work) refl e
  where
    go : (o : Option ℕ) → number_within 0 max_work work ≡ o
        → option_and_then (λ w. option_map (λ d. record { max_work = unwrap_or w max_work; demo = d }) (at_most_one_within 1 greatest_demo demos)) (option_map (λ n. Some n) o) ≡ Some options → IsPlain work
    go None is e = cc
    go (Some number) is e = plain_within 0 max_work work number is

plain_demo : (works : List Text) (demo : Text) (options : Options) → options_of_numbers works (demo ∷ []) ≡ Some options → IsPlain demo
plain_demo works demo options e = go (at_most_one_within 0 max_work works) (number_within 1 greatest_demo demo) refl e
  where
    go : (w : Option (Option ℕ)) (o : Option ℕ) → number_within 1 greatest_demo demo ≡ o
        → option_and_then (λ w. option_map (λ d. record { max_work = unwrap_or w max_work; demo = d }) (option_map (λ n. Some n) o)) w ≡ Some options → IsPlain demo
    go None o is e = cc
    go (Some w) None is e = cc
    go (Some w) (Some number) is e = plain_within 1 greatest_demo demo number is

work_twice : (first next : Text) (rest demos : List Text) (options : Options) → options_of_numbers (first ∷ next ∷ rest) demos ≡ Some options → ⊥
work_twice first next rest demos options e = cc

demo_twice : (works : List Text) (first next : Text) (rest : List Text) (options : Options) → options_of_numbers works (first ∷ next ∷ rest) ≡ Some options → ⊥
demo_twice works first next rest options e = go (at_most_one_within 0 max_work works) e
  where
    go : (w : Option (Option ℕ)) → option_and_then (λ w. option_map (λ d. record { max_work = unwrap_or w max_work; demo = d }) None) w ≡ Some options → ⊥
    go None e = cc
    go (Some w) e = cc

abbrev works : List Pick → List Text
works picks = numbers_given max_work_name (map use_of picks)

abbrev demos : List Pick → List Text
demos picks = numbers_given demo_name (map use_of picks)

fits_given : (picks : List Pick) (options : Options) → options_of_uses (map use_of picks) ≡ Some options → Fits [] picks
fits_given [] options e = tt
fits_given (pick true work ∷ []) options e = (refl, plain_work work [] options e, tt)
fits_given (pick false demo ∷ []) options e = (refl, plain_demo [] demo options e, tt)
fits_given (pick true work ∷ pick true next ∷ rest) options e = absurd (work_twice work next (works rest) (demos rest) options e)
fits_given (pick false demo ∷ pick false next ∷ rest) options e = absurd (demo_twice (works rest) demo next (demos rest) options e)
fits_given (pick true work ∷ pick false demo ∷ []) options e = (refl, plain_work work (demo ∷ []) options e, (refl, plain_demo (work ∷ []) demo options e, tt))
fits_given (pick false demo ∷ pick true work ∷ []) options e = (refl, plain_demo (work ∷ []) demo options e, (refl, plain_work work (demo ∷ []) options e, tt))
fits_given (pick true work ∷ pick false demo ∷ pick true next ∷ rest) options e = absurd (work_twice work next (works rest) (demo ∷ demos rest) options e)
fits_given (pick true work ∷ pick false demo ∷ pick false next ∷ rest) options e = absurd (demo_twice (work ∷ works rest) demo next (demos rest) options e)
fits_given (pick false demo ∷ pick true work ∷ pick true next ∷ rest) options e = absurd (work_twice work next (works rest) (demo ∷ demos rest) options e)
fits_given (pick false demo ∷ pick true work ∷ pick false next ∷ rest) options e = absurd (demo_twice (work ∷ works rest) demo next (demos rest) options e)

-- ---- the whole line

-- what the command takes, with no `--`, gives the options of its rows
pub takes_line : (words : List Text) → has_hyphens words ≡ false → fault_of line_app words ≡ [] → options_of words ≡ of_rows (matches_of line_app words)
takes_line words clean none = go (meaning words)
  where
    go : Meaning words → options_of words ≡ of_rows (matches_of line_app words)
    go (no_uses is fails) = absurd (fails [] None clean (sym (line_fault words) ∙ none))
    go (uses picks is reads fits) =
        ap (option_and_then options_of_uses) is ∙ given_once picks _ (reads [] None clean (sym (line_fault words) ∙ none)).1 ∙ ap of_rows (sym (line_rows words))

-- what gives options is taken, and has no `--`
gives_line : (words : List Text) (options : Options) → options_of words ≡ Some options → (has_hyphens words ≡ false) × (fault_of line_app words ≡ [])
gives_line words options e = go (meaning words)
  where
    go : Meaning words → (has_hyphens words ≡ false) × (fault_of line_app words ≡ [])
    go (no_uses is fails) = let none : options_of words ≡ None = rw is refl in cc
    go (uses picks is reads fits) =
        let fit = fits [] None refl (fits_given picks options (sym (ap (option_and_then options_of_uses) is) ∙ e)) in
        (fit.0, line_fault words ∙ fit.1)

pub refuses_line : (words : List Text) → ((has_hyphens words ≡ false) × (fault_of line_app words ≡ []) → ⊥) → options_of words ≡ None
refuses_line words refused = go (options_of words) refl
  where
    go : (o : Option Options) → options_of words ≡ o → options_of words ≡ None
    go None is = is
    go (Some options) is = absurd (refused (gives_line words options is))
