-- What the command that reads the arguments makes of each word.
use Rattle.std.proofs.Common.{◌≡◌, ◌∙◌, ◌⊎◌, inl, inr, ◌==◌, ◌&&◌, ◌||◌, ℕ, suc, Bool, cond, true, false, true≢false, List, [], ◌∷◌, ◌++◌, length, Option, Some, None, is_some, refl, sym, ap, subst, arith}
use Rattle.std.specs.Prelude.{slice_get}
use Rattle.std.specs.List.{list_any, before_first}
use Rattle.std.specs.Str.{bytes_eq, chars}
use Rattle.std.proofs.lemmas.Bool.Decides.{nat_tests}
use Rattle.clap.specs.Words.{Rule, Row, Text, Kinds}
use Rattle.clap.specs.Kinds.{or_else}
use Rattle.clap.specs.Lexer.{long_of, short_of}
use Rattle.clap.specs.Walk.{Held, Walk, walked, option, settled_rows, arg_by_long, takes_values, Outcome, Waiting, after_flag, after_step, bundle, idle, plain as plain_outcome}
use Rattle.clap.specs.Faults.{flags_fault, settle_fault, long_fault, bundle_fault, bundle_step_fault, step_fault, option_fault, react_fault}
use Rattle.clap.proofs.WalkLemmas.{bundle_ends}
use Rattle.clap.proofs.FaultLemmas.{fault_ends}
use Rattle.clap.specs.declared.error.kind.ErrorKind.TheVariants.{TooManyValues, UnknownArgument}
use Rattle.command_line.specs.Words.{Use, is_equals, is_option_name, joined_use}
use Rattle.command_line.proofs.ClapLine.{Fails, Pending, at, held, hyphens, id, name, next_walk, none-or_else, or_else-none, settles, top, turn, unwaited, waiting}
use Rattle.command_line.proofs.CutAtEquals.{no_equals, behind_hyphens}

-- ---- the name of an option, and one joined to its number

pub at_name : (which : Bool) (rows : List Row) (pending : Pending) → turn (at rows pending) (name which) ≡ or_else (settles rows pending) []
at_name true rows pending = refl
at_name false rows pending = refl

pub after_name : (which : Bool) (rows : List Row) (pending : Pending) → next_walk (at rows pending) (name which) ≡ waiting which (settled_rows top.rules pending rows)
unfolding walked
after_name true rows pending = refl
after_name false rows pending = refl

pub at_joined : (which : Bool) (number : Text) (rows : List Row) (pending : Pending)
    → turn (at rows pending) (name which ++ 61 ∷ number) ≡ or_else (or_else (settles rows pending) (settles (settled_rows top.rules pending rows) (Some (id which, number ∷ [])))) []
at_joined true number rows pending = refl
at_joined false number rows pending = refl

pub after_joined : (which : Bool) (number : Text) (rows : List Row) (pending : Pending)
    → next_walk (at rows pending) (name which ++ 61 ∷ number) ≡ at (settled_rows top.rules (Some (id which, number ∷ [])) (settled_rows top.rules pending rows)) None
unfolding walked
after_joined true number rows pending = refl
after_joined false number rows pending = refl

-- ---- a word that is no use

pub neither : (a b : Bool) → (a || b) ≡ false → (a ≡ false) × (b ≡ false)
neither true b e = absurd (true≢false e)
neither false b e = (refl, e)

is_joined : (a b : Bool) (one : Use) → cond (a && b) (Some one) None ≡ None → a ≡ true → b ≡ true → ⊥
is_joined true true one e p q = cc
is_joined true false one e p q = true≢false (sym q)
is_joined false b one e p q = true≢false (sym p)

abbrev is_id : List ℕ → Bool
is_id text = bytes_eq (id true) text || bytes_eq (id false) text

-- no rule has the name of a long word that is no use
unknown : (text : List ℕ) → is_option_name (45 ∷ 45 ∷ text) ≡ false → joined_use (45 ∷ 45 ∷ text) ≡ None → arg_by_long top.rules (before_first is_equals text) ≡ None
unknown text plain joined = named (is_id (before_first is_equals text)) refl
  where
    cut : (b : Bool) → list_any is_equals text ≡ b → is_id (before_first is_equals text) ≡ true → ⊥
    cut false none e = true≢false (sym e ∙ ap is_id (no_equals text none) ∙ plain)
    cut true some e = is_joined _ _ _ joined some (ap is_option_name (behind_hyphens text) ∙ e)

    named : (b : Bool) → is_id (before_first is_equals text) ≡ b → arg_by_long top.rules (before_first is_equals text) ≡ None
    named false e = let parts = neither _ (bytes_eq (id false) (before_first is_equals text)) e in rw (parts.0, parts.1) refl
    named true e = absurd (cut (list_any is_equals text) refl e)

-- ---- a word by its first bytes

-- the word is no flag
abbrev pub IsPlain : Text → Type 0
IsPlain word = (long_of word ≡ None) × (short_of word ≡ None) × (bytes_eq word hyphens ≡ false)

pub plain_first : (byte : ℕ) (rest : Text) → (byte == 45) ≡ false → IsPlain (byte ∷ rest)
plain_first byte rest e = (rw e refl, rw e refl, rw e refl)

equal : (a b : ℕ) → (a == b) ≡ true → b ≡ a
equal a b e = grind (arith, nat_tests)

module _ (P : Text → Type 0) (plain : (word : Text) → IsPlain word → P word) (short : (byte : ℕ) (rest : Text) → (byte == 45) ≡ false → P (45 ∷ byte ∷ rest))
    (long : (byte : ℕ) (rest : Text) → P (45 ∷ 45 ∷ byte ∷ rest)) (two : P hyphens) where
  third : (rest : Text) → P (45 ∷ 45 ∷ rest)
  third [] = two
  third (byte ∷ rest) = long byte rest

  second : (rest : Text) → P (45 ∷ rest)
  second [] = plain (45 ∷ []) (refl, refl, refl)
  second (byte ∷ rest) = go (byte == 45) refl
    where
      go : (b : Bool) → (byte == 45) ≡ b → P (45 ∷ byte ∷ rest)
      go false e = short byte rest e
      go true e = subst (λ c. P (45 ∷ c ∷ rest)) (equal byte 45 e) (third rest)

  by_form : (word : Text) → P word
  by_form [] = plain [] (refl, refl, refl)
  by_form (byte ∷ rest) = go (byte == 45) refl
    where
      go : (b : Bool) → (byte == 45) ≡ b → P (byte ∷ rest)
      go false e = plain (byte ∷ rest) (plain_first byte rest e)
      go true e = subst (λ c. P (c ∷ rest)) (equal byte 45 e) (second rest)

-- ---- a short word: no rule has a short name

short_unknown : (k : ℕ) (flags : Text) (h : Held) (c : ℕ) → slice_get (chars flags) 0 ≡ Some c → flags_fault top.rules false (suc k) flags 0 h ≡ UnknownArgument ∷ []
unfolding flags_fault
short_unknown k flags h c first = ap (λ o. bundle_step_fault top.rules false o flags 0 h (flags_fault top.rules false k)) first

is_short : (byte : ℕ) (rest : Text) → (byte == 45) ≡ false
    → (long_of (45 ∷ byte ∷ rest) ≡ None) × (short_of (45 ∷ byte ∷ rest) ≡ Some (byte ∷ rest)) × (bytes_eq (45 ∷ byte ∷ rest) hyphens ≡ false)
is_short byte rest e = (rw e refl, rw e refl, rw e refl)

abbrev step_of_bundle : Waiting → Text → Held × Outcome → Kinds
step_of_bundle waits word met =
    let step = after_flag top.rules waits word met.0 met.1 in
    step_fault top 1 step.0 step.1

-- ---- a word that is no use is refused

pub refused_word : (rows : List Row) (pending : Pending) (word : Text) → is_option_name word ≡ false → joined_use word ≡ None → (word ≡ hyphens → ⊥) → Fails (turn (at rows pending) word)
refused_word rows pending = by_form (λ word. is_option_name word ≡ false → joined_use word ≡ None → (word ≡ hyphens → ⊥) → Fails (turn (at rows pending) word))
    plain short long (λ _ _ no. absurd (no refl))
  where
    plain : (word : Text) → IsPlain word → is_option_name word ≡ false → joined_use word ≡ None → (word ≡ hyphens → ⊥) → Fails (turn (at rows pending) word)
    plain word is _ _ _ e =
        let stray : turn (at rows pending) word ≡ UnknownArgument ∷ [] = rw (is.2, is.0, is.1) refl in
        cc

    short : (byte : ℕ) (rest : Text) → (byte == 45) ≡ false → is_option_name (45 ∷ byte ∷ rest) ≡ false → joined_use (45 ∷ byte ∷ rest) ≡ None → (45 ∷ byte ∷ rest ≡ hyphens → ⊥) → Fails (turn (at rows pending) (45 ∷ byte ∷ rest))
    short byte rest other _ _ _ e = go (slice_get (chars (byte ∷ rest)) 0) refl
      where
        h : Held
        h = held rows pending

        is : turn (at rows pending) (45 ∷ byte ∷ rest) ≡ or_else (bundle_fault top.rules false (byte ∷ rest) h) (step_of_bundle idle (45 ∷ byte ∷ rest) (bundle top.rules (byte ∷ rest) h))
        is = let short = is_short byte rest other in rw (short.2, short.0, short.1) refl

        parts : (bundle_fault top.rules false (byte ∷ rest) h ≡ []) × (step_of_bundle idle (45 ∷ byte ∷ rest) (bundle top.rules (byte ∷ rest) h) ≡ [])
        parts = none-or_else _ _ (sym is ∙ e)

        go : (o : Option ℕ) → slice_get (chars (byte ∷ rest)) 0 ≡ o → ⊥
        go (Some c) first = let bad : UnknownArgument ∷ [] ≡ [] = sym (short_unknown (length rest) (byte ∷ rest) h c first) ∙ parts.0 in cc
        go None none =
            let stray : UnknownArgument ∷ [] ≡ [] = ap (step_of_bundle idle (45 ∷ byte ∷ rest)) (bundle_ends top.rules (length (byte ∷ rest)) (byte ∷ rest) 0 plain_outcome h (sym none)) ∙ parts.1 in
            cc

    long : (byte : ℕ) (rest : Text) → is_option_name (45 ∷ 45 ∷ byte ∷ rest) ≡ false → joined_use (45 ∷ 45 ∷ byte ∷ rest) ≡ None → (45 ∷ 45 ∷ byte ∷ rest ≡ hyphens → ⊥) → Fails (turn (at rows pending) (45 ∷ 45 ∷ byte ∷ rest))
    long byte rest named joined _ e =
        let refused : turn (at rows pending) (45 ∷ 45 ∷ byte ∷ rest) ≡ UnknownArgument ∷ [] = rw (unknown (byte ∷ rest) named joined) refl in
        cc

-- ---- a word behind the name of an option: it is the option's number, or is refused

abbrev pub IsTaken : Bool → List Row → Text → Type 0
IsTaken which rows word = (turn (waiting which rows) word ≡ []) × (next_walk (waiting which rows) word ≡ at rows (Some (id which, word ∷ [])))

pub plain_number : (which : Bool) (rows : List Row) (word : Text) → IsPlain word → IsTaken which rows word
unfolding walked
plain_number true rows word is = (rw (is.2, is.0, is.1) refl, rw (is.2, is.0, is.1) refl)
plain_number false rows word is = (rw (is.2, is.0, is.1) refl, rw (is.2, is.0, is.1) refl)

long_fails : (found : Option Rule) (value : Option Text) (h : Held) → Fails (settle_fault top.rules false h) → Fails (long_fault top.rules false found value h)
long_fails None value h fails e = cc
long_fails (Some a) value h fails e = go (takes_values a) value e
  where
    go : (b : Bool) (value : Option Text) → cond b (option_fault top.rules false a value h) (cond (is_some value) (TooManyValues ∷ []) (react_fault top.rules false a [] h)) ≡ [] → ⊥
    go true None e = fails e
    go true (Some v) e = fails (none-or_else _ _ e).0
    go false None e = fails (none-or_else _ _ e).0
    go false (Some v) e = cc

number_turn : (which : Bool) (rows : List Row) (byte : ℕ) (rest : Text) → (byte == 45) ≡ false
    → turn (waiting which rows) (45 ∷ byte ∷ rest) ≡ or_else (bundle_fault top.rules false (byte ∷ rest) (waiting which rows).held) (step_of_bundle (option (id which)) (45 ∷ byte ∷ rest) (bundle top.rules (byte ∷ rest) (waiting which rows).held))
number_turn which rows byte rest other = let short = is_short byte rest other in rw (short.2, short.0, short.1) refl

abbrev walk_of_bundle : Bool → List Row → Text → Held × Outcome → Walk
walk_of_bundle which rows word met =
    let step = after_flag top.rules (option (id which)) word met.0 met.1 in
    after_step top.rules word (waiting which rows) step.0 step.1

number_walk : (which : Bool) (rows : List Row) (byte : ℕ) (rest : Text) → (byte == 45) ≡ false
    → next_walk (waiting which rows) (45 ∷ byte ∷ rest) ≡ walk_of_bundle which rows (45 ∷ byte ∷ rest) (bundle top.rules (byte ∷ rest) (waiting which rows).held)
unfolding walked
number_walk which rows byte rest other = let short = is_short byte rest other in rw (short.2, short.0, short.1) refl

unflagged : (which : Bool) (rows : List Row) (word : Text) → walk_of_bundle which rows word ((waiting which rows).held, plain_outcome) ≡ at rows (Some (id which, word ∷ []))
unflagged true rows word = refl
unflagged false rows word = refl

short_number : (which : Bool) (rows : List Row) (byte : ℕ) (rest : Text) → (byte == 45) ≡ false → Fails (turn (waiting which rows) (45 ∷ byte ∷ rest)) ⊎ IsTaken which rows (45 ∷ byte ∷ rest)
short_number which rows byte rest other = go (slice_get (chars (byte ∷ rest)) 0) refl
  where
    go : (o : Option ℕ) → slice_get (chars (byte ∷ rest)) 0 ≡ o → Fails (turn (waiting which rows) (45 ∷ byte ∷ rest)) ⊎ IsTaken which rows (45 ∷ byte ∷ rest)
    go (Some c) first = inl (λ e.
        let bad : UnknownArgument ∷ [] ≡ [] = sym (short_unknown (length rest) (byte ∷ rest) (waiting which rows).held c first) ∙ (none-or_else _ _ (sym (number_turn which rows byte rest other) ∙ e)).0 in
        cc)
    go None none =
        let h = (waiting which rows).held in
        let word = 45 ∷ byte ∷ rest in
        let ends = sym (bundle_ends top.rules (length (byte ∷ rest)) (byte ∷ rest) 0 plain_outcome h (sym none)) in
        inr (
          number_turn which rows byte rest other
              ∙ or_else-none _ _ (sym (fault_ends top.rules false (length (byte ∷ rest)) (byte ∷ rest) 0 h (sym none))) (ap (step_of_bundle (option (id which)) word) ends),
          number_walk which rows byte rest other ∙ (ap (walk_of_bundle which rows word) ends ∙ unflagged which rows word),
        )

pub number_word : (which : Bool) (rows : List Row) (word : Text) → (word ≡ hyphens → ⊥) → Fails (turn (waiting which rows) word) ⊎ IsTaken which rows word
number_word which rows = by_form (λ word. (word ≡ hyphens → ⊥) → Fails (turn (waiting which rows) word) ⊎ IsTaken which rows word)
    (λ word is _. inr (plain_number which rows word is)) (λ byte rest other _. short_number which rows byte rest other)
    (λ byte rest _. inl (λ e. long_fails (arg_by_long top.rules (before_first is_equals (byte ∷ rest))) _ (waiting which rows).held (unwaited which rows) (none-or_else _ _ e).0)) (λ no. absurd (no refl))
