-- The words of a command line as uses of options, by its definition and as the command reads them.
use Rattle.std.proofs.Common.{◌≡◌, ◌∙◌, inl, inr, Bool, true, false, true≢false, List, [], ◌∷◌, ◌++◌, map, Some, None, option_map, refl, sym, ap, subst}
use Rattle.std.specs.List.{fold, list_any, before_first, after_first}
use Rattle.std.specs.Str.{bytes_eq}
use Rattle.std.proofs.lemmas.Slice.Eq.{bytes_eq-Decides}
use Rattle.clap.specs.Words.{Row, Text, Kinds}
use Rattle.clap.specs.Kinds.{or_else}
use Rattle.clap.specs.Walk.{Walk, settled, settled_rows}
use Rattle.clap.specs.Faults.{walk_fault, settle_fault}
use Rattle.command_line.specs.Words.{Use, is_equals, is_option_name, joined_use, demo_name, max_work_name, uses_of_words}
use Rattle.command_line.proofs.ClapLine.{Fails, Pending, at, hyphens, id, name, next_walk, none-or_else, or_else-none, settles, top, turn, unwaited, waiting}
use Rattle.command_line.proofs.CutAtEquals.{cut_at_equals}
use Rattle.command_line.proofs.ClapWords.{IsPlain, after_joined, after_name, at_joined, at_name, neither, number_word, plain_number, refused_word}

-- a use of an option: which one, and the text of its number
pub data Pick : Type 0 where
  pick : Bool → Text → Pick

abbrev pub use_of : Pick → Use
use_of (pick which number) = record { name = name which; number = number }

-- ---- the walk from between two words to the end

abbrev pub end_of : Walk → List Text → Walk
end_of = fold next_walk

abbrev pub faults : Walk → List Text → Kinds
faults walk words = or_else (walk_fault top [] walk words) (settle_fault top.rules false (end_of walk words).held)

abbrev pub rows_at_end : Walk → List Text → List Row
rows_at_end walk words = (settled top.rules (end_of walk words).held).rows

faults-end : (walk : Walk) → faults walk [] ≡ settle_fault top.rules false walk.held
unfolding walk_fault
faults-end walk = refl

faults-first : (walk : Walk) (word : Text) (words : List Text) → faults walk (word ∷ words) ≡ [] → (turn walk word ≡ []) × (faults (next_walk walk word) words ≡ [])
unfolding walk_fault
faults-first walk word words e =
    let whole = none-or_else (walk_fault top [] walk (word ∷ words)) _ e in
    let first = none-or_else (turn walk word) _ whole.0 in
    (first.0, or_else-none _ _ first.1 whole.1)

faults-more : (walk after : Walk) (word : Text) (words : List Text) → turn walk word ≡ [] → next_walk walk word ≡ after → faults after words ≡ [] → faults walk (word ∷ words) ≡ []
unfolding walk_fault
faults-more walk after word words none is e =
    let rest = none-or_else (walk_fault top [] (next_walk walk word) words) _ (ap (λ w. faults w words) is ∙ e) in
    or_else-none _ _ (or_else-none _ _ none rest.0) rest.1

-- ---- uses, one after another

-- no option stands twice, and `out` are the rows after the uses
abbrev pub Reads : List Row → List Pick → List Row → Type 0
Reads rows [] out = out ≡ rows
Reads rows (pick which number ∷ picks) out = (settles rows (Some (id which, number ∷ [])) ≡ []) × Reads (settled_rows top.rules (Some (id which, number ∷ [])) rows) picks out

-- no option stands twice, and no number looks like a flag
abbrev pub Fits : List Row → List Pick → Type 0
Fits rows [] = Unit {0}
Fits rows (pick which number ∷ picks) = (settles rows (Some (id which, number ∷ [])) ≡ []) × IsPlain number × Fits (settled_rows top.rules (Some (id which, number ∷ [])) rows) picks

abbrev pub has_hyphens : List Text → Bool
has_hyphens = list_any (λ word. bytes_eq word hyphens)

-- what the words are to the command and by the definition
pub data Meaning (words : List Text) : Type 0 where
  no_uses : uses_of_words words ≡ None → ((rows : List Row) (pending : Pending) → has_hyphens words ≡ false → Fails (faults (at rows pending) words)) → Meaning words
  uses : (picks : List Pick) → uses_of_words words ≡ Some (map use_of picks)
      → ((rows : List Row) (pending : Pending) → has_hyphens words ≡ false → faults (at rows pending) words ≡ []
      → (settles rows pending ≡ []) × Reads (settled_rows top.rules pending rows) picks (rows_at_end (at rows pending) words))
      → ((rows : List Row) (pending : Pending) → settles rows pending ≡ [] → Fits (settled_rows top.rules pending rows) picks
      → (has_hyphens words ≡ false) × (faults (at rows pending) words ≡ []))
      → Meaning words

-- ---- what a word is, by the definition

data Form (word : Text) : Type 0 where
  named : (which : Bool) → word ≡ name which → Form word
  joined : (which : Bool) (number : Text) → word ≡ name which ++ 61 ∷ number → Form word
  other : is_option_name word ≡ false → joined_use word ≡ None → Form word

same_text : (a b : Text) → bytes_eq a b ≡ true → b ≡ a
same_text a b e = sym ((bytes_eq-Decides a b).0 e)

form : (word : Text) → Form word
form word = whole (bytes_eq max_work_name word) refl (bytes_eq demo_name word) refl
  where
    cut : (b : Bool) → bytes_eq max_work_name (before_first is_equals word) ≡ b → (d : Bool) → bytes_eq demo_name (before_first is_equals word) ≡ d
        → is_option_name word ≡ false → list_any is_equals word ≡ true → Form word
    cut true is _ _ _ has = joined true (after_first is_equals word) (cut_at_equals word has ∙ ap (λ t. t ++ 61 ∷ after_first is_equals word) (same_text max_work_name (before_first is_equals word) is))
    cut false _ true is _ has = joined false (after_first is_equals word) (cut_at_equals word has ∙ ap (λ t. t ++ 61 ∷ after_first is_equals word) (same_text demo_name (before_first is_equals word) is))
    cut false a false b unnamed has = other unnamed (rw (has, a, b) refl)

    equals : (b : Bool) → list_any is_equals word ≡ b → is_option_name word ≡ false → Form word
    equals true has unnamed = cut _ refl _ refl unnamed has
    equals false none unnamed = other unnamed (rw none refl)

    whole : (b : Bool) → bytes_eq max_work_name word ≡ b → (d : Bool) → bytes_eq demo_name word ≡ d → Form word
    whole true is _ _ = named true (same_text _ _ is)
    whole false _ true is = named false (same_text _ _ is)
    whole false a false b = equals (list_any is_equals word) refl (rw (a, b) refl)

uses-named : (which : Bool) (number : Text) (rest : List Text) → uses_of_words (name which ∷ number ∷ rest) ≡ option_map (λ uses. use_of (pick which number) ∷ uses) (uses_of_words rest)
uses-named true number rest = refl
uses-named false number rest = refl

uses-joined : (which : Bool) (number : Text) (rest : List Text) → uses_of_words ((name which ++ 61 ∷ number) ∷ rest) ≡ option_map (λ uses. use_of (pick which number) ∷ uses) (uses_of_words rest)
uses-joined true number [] = refl
uses-joined true number (next ∷ rest) = refl
uses-joined false number [] = refl
uses-joined false number (next ∷ rest) = refl

uses-other : (word : Text) (rest : List Text) → is_option_name word ≡ false → joined_use word ≡ None → uses_of_words (word ∷ rest) ≡ None
uses-other word [] unnamed uncut = rw uncut refl
uses-other word (next ∷ rest) unnamed uncut = rw (unnamed, uncut) refl

uses-bare : (which : Bool) → uses_of_words (name which ∷ []) ≡ None
uses-bare true = refl
uses-bare false = refl

-- ---- the meaning of the words, from the last to the first

none_left : Meaning []
none_left = uses [] refl (λ rows pending _ e. (sym (faults-end (at rows pending)) ∙ e, refl)) (λ rows pending e _. (refl, faults-end (at rows pending) ∙ e))

no_hyphens : (word : Text) → bytes_eq word hyphens ≡ false → word ≡ hyphens → ⊥
no_hyphens word e is = true≢false (sym (ap (λ w. bytes_eq w hyphens) is) ∙ e)

clean_joined : (which : Bool) (number : Text) → bytes_eq (name which ++ 61 ∷ number) hyphens ≡ false
clean_joined true number = refl
clean_joined false number = refl

clean_name : (which : Bool) → bytes_eq (name which) hyphens ≡ false
clean_name true = refl
clean_name false = refl

clean_more : (word : Text) (rest : List Text) → bytes_eq word hyphens ≡ false → has_hyphens rest ≡ false → has_hyphens (word ∷ rest) ≡ false
clean_more word rest e clean = rw e clean

clean_rest : (word : Text) (rest : List Text) → has_hyphens (word ∷ rest) ≡ false → (bytes_eq word hyphens ≡ false) × (has_hyphens rest ≡ false)
clean_rest word rest e = neither (bytes_eq word hyphens) (has_hyphens rest) e

-- the rows once what is pending is used
abbrev settled_at : Pending → List Row → List Row
settled_at = settled_rows top.rules

abbrev given : Bool → Text → Pending
given which number = Some (id which, number ∷ [])

module _ (which : Bool) (number : Text) (rest : List Text) where
  joined_down : (rows : List Row) (pending : Pending) → faults (at rows pending) ((name which ++ 61 ∷ number) ∷ rest) ≡ []
      → (settles rows pending ≡ []) × (settles (settled_at pending rows) (given which number) ≡ []) × (faults (at (settled_at (given which number) (settled_at pending rows)) None) rest ≡ [])
  joined_down rows pending e =
      let first = faults-first (at rows pending) (name which ++ 61 ∷ number) rest e in
      let outer = none-or_else (or_else (settles rows pending) (settles (settled_at pending rows) (given which number))) [] (sym (at_joined which number rows pending) ∙ first.0) in
      let inner = none-or_else (settles rows pending) (settles (settled_at pending rows) (given which number)) outer.0 in
      (inner.0, inner.1, ap (λ w. faults w rest) (sym (after_joined which number rows pending)) ∙ first.1)

  joined_up : (rows : List Row) (pending : Pending) → settles rows pending ≡ [] → settles (settled_at pending rows) (given which number) ≡ []
      → faults (at (settled_at (given which number) (settled_at pending rows)) None) rest ≡ [] → faults (at rows pending) ((name which ++ 61 ∷ number) ∷ rest) ≡ []
  joined_up rows pending a b e =
      faults-more (at rows pending) _ (name which ++ 61 ∷ number) rest (at_joined which number rows pending ∙ or_else-none _ [] (or_else-none _ _ a b) refl) (after_joined which number rows pending) e

  meaning_joined : Meaning rest → Meaning ((name which ++ 61 ∷ number) ∷ rest)
  meaning_joined (no_uses none fails) =
      no_uses (uses-joined which number rest ∙ ap (option_map (λ l. use_of (pick which number) ∷ l)) none)
      (λ rows pending clean e. fails _ None (clean_rest (name which ++ 61 ∷ number) rest clean).1 (joined_down rows pending e).2)
  meaning_joined (uses picks is reads fits) =
      uses (pick which number ∷ picks) (uses-joined which number rest ∙ ap (option_map (λ l. use_of (pick which number) ∷ l)) is)
      (λ rows pending clean e.
      let down = joined_down rows pending e in
      let after = reads (settled_at (given which number) (settled_at pending rows)) None (clean_rest (name which ++ 61 ∷ number) rest clean).1 down.2 in
      (down.0, (down.1, subst (λ w. Reads (settled_at (given which number) (settled_at pending rows)) picks (rows_at_end w rest)) (sym (after_joined which number rows pending)) after.1)))
      (λ rows pending settles_now fit.
      let after = fits (settled_at (given which number) (settled_at pending rows)) None refl fit.2 in
      (clean_more (name which ++ 61 ∷ number) rest (clean_joined which number) after.0, joined_up rows pending settles_now fit.0 after.1))

  named_down : (rows : List Row) (pending : Pending) → has_hyphens (name which ∷ number ∷ rest) ≡ false → faults (at rows pending) (name which ∷ number ∷ rest) ≡ []
      → (settles rows pending ≡ []) × (has_hyphens rest ≡ false) × (next_walk (next_walk (at rows pending) (name which)) number ≡ at (settled_at pending rows) (given which number))
      × (faults (at (settled_at pending rows) (given which number)) rest ≡ [])
  named_down rows pending clean e =
      let first = faults-first (at rows pending) (name which) (number ∷ rest) e in
      let free = clean_rest number rest (clean_rest (name which) (number ∷ rest) clean).1 in
      let second = faults-first (waiting which (settled_at pending rows)) number rest (ap (λ w. faults w (number ∷ rest)) (sym (after_name which rows pending)) ∙ first.1) in
      let before = (none-or_else (settles rows pending) [] (sym (at_name which rows pending) ∙ first.0)).0 in
      elim (number_word which (settled_at pending rows) number (no_hyphens number free.0)) [
        | inl fails ↦ absurd (fails second.0)
        | inr taken ↦ (before, free.1, ap (λ w. next_walk w number) (after_name which rows pending) ∙ taken.1, ap (λ w. faults w rest) (sym taken.1) ∙ second.1)
      ]

  named_up : (rows : List Row) (pending : Pending) → settles rows pending ≡ [] → IsPlain number → faults (at (settled_at pending rows) (given which number)) rest ≡ []
      → faults (at rows pending) (name which ∷ number ∷ rest) ≡ []
  named_up rows pending before plain e =
      let taken = plain_number which (settled_at pending rows) number plain in
      faults-more (at rows pending) (waiting which (settled_at pending rows)) (name which) (number ∷ rest) (at_name which rows pending ∙ or_else-none _ [] before refl)
      (after_name which rows pending) (faults-more (waiting which (settled_at pending rows)) _ number rest taken.0 taken.1 e)

  meaning_named : Meaning rest → Meaning (name which ∷ number ∷ rest)
  meaning_named (no_uses none fails) =
      no_uses (uses-named which number rest ∙ ap (option_map (λ l. use_of (pick which number) ∷ l)) none)
      (λ rows pending clean e. let down = named_down rows pending clean e in fails (settled_at pending rows) (given which number) down.1 down.3)
  meaning_named (uses picks is reads fits) =
      uses (pick which number ∷ picks) (uses-named which number rest ∙ ap (option_map (λ l. use_of (pick which number) ∷ l)) is)
      (λ rows pending clean e.
      let down = named_down rows pending clean e in
      let after = reads (settled_at pending rows) (given which number) down.1 down.3 in
      (down.0, (after.0, subst (λ w. Reads (settled_at (given which number) (settled_at pending rows)) picks (rows_at_end w rest)) (sym down.2) after.1)))
      (λ rows pending settles_now fit.
      let after = fits (settled_at pending rows) (given which number) fit.0 fit.2 in
      (clean_more (name which) (number ∷ rest) (clean_name which) (clean_more number rest fit.1.2 after.0), named_up rows pending settles_now fit.1 after.1))

meaning_bare : (which : Bool) → Meaning (name which ∷ [])
meaning_bare which = no_uses (uses-bare which) (λ rows pending _ e.
    unwaited which (settled_at pending rows) (sym (faults-end (waiting which (settled_at pending rows)))
    ∙ ap (λ w. faults w []) (sym (after_name which rows pending)) ∙ (faults-first (at rows pending) (name which) [] e).1))

meaning_other : (word : Text) (rest : List Text) → is_option_name word ≡ false → joined_use word ≡ None → Meaning (word ∷ rest)
meaning_other word rest unnamed uncut = no_uses (uses-other word rest unnamed uncut) (λ rows pending clean e.
    refused_word rows pending word unnamed uncut (no_hyphens word (clean_rest word rest clean).0) (faults-first (at rows pending) word rest e).0)

last : (word : Text) → Form word → Meaning [] → Meaning (word ∷ [])
last word (named which is) none = subst (λ w. Meaning (w ∷ [])) (sym is) (meaning_bare which)
last word (joined which number is) none = subst (λ w. Meaning (w ∷ [])) (sym is) (meaning_joined which number [] none)
last word (other unnamed uncut) none = meaning_other word [] unnamed uncut

earlier : (word next : Text) (rest : List Text) → Form word → Meaning rest → Meaning (next ∷ rest) → Meaning (word ∷ next ∷ rest)
earlier word next rest (named which is) later _ = subst (λ w. Meaning (w ∷ next ∷ rest)) (sym is) (meaning_named which next rest later)
earlier word next rest (joined which number is) _ later = subst (λ w. Meaning (w ∷ next ∷ rest)) (sym is) (meaning_joined which number (next ∷ rest) later)
earlier word next rest (other unnamed uncut) _ _ = meaning_other word (next ∷ rest) unnamed uncut

pub meaning : (words : List Text) → Meaning words
meaning [] = none_left
meaning (word ∷ []) = last word (form word) none_left
meaning (word ∷ next ∷ rest) = earlier word next rest (form word) (meaning rest) (meaning (next ∷ rest))
