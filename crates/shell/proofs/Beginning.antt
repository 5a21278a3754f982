-- A run that put one text, or its beginning.
use Rattle.std.proofs.Common.{◌≡◌, ◌⊎◌, inl, inr, ℕ, ◌≤◌, List, length, take, Option, refl, subst, sym, arith}
use Rattle.std.specs.Io.KnownBytes.{Appends, Keeps}
use Rattle.std.proofs.lemmas.List.{take_all}
use Rattle.shell.specs.declared.status.Status.{Status}
use Rattle.shell.specs.declared.status.Status.TheVariants as status
use Rattle.shell.specs.Serve.{RefusesWords}

-- a whole text is a beginning of itself
pub whole_begins : (old new : Option (List ℕ)) (text : List ℕ) → Appends old new text → (n : ℕ) × Appends old new (take n text)
whole_begins old new text put =
    let within : length text ≤ length text = omega arith in
    (length text, subst (λ (l : List ℕ). Appends old new l) (sym (take_all (length text) text within)) put)

-- a put that failed, or wanted memory
abbrev pub IsUnput : Status → Type 0
IsUnput ended = (ended ≡ status.WriteFault) ⊎ (ended ≡ status.NoMemory)

-- the line of a refusal was put, or not whole
abbrev pub IsRefused : Status → Type 0
IsRefused ended = (ended ≡ status.Refused) ⊎ IsUnput ended

pub refused_not_done : (ended : Status) → IsRefused ended → ended ≡ status.Done → ⊥
refused_not_done ended (inl refused) is = cc (refused, is)
refused_not_done ended (inr (inl fault)) is = cc (fault, is)
refused_not_done ended (inr (inr memory)) is = cc (memory, is)

not_bad_words : (ended : Status) → IsUnput ended → ended ≡ status.BadWords → ⊥
not_bad_words ended (inl fault) is = cc (fault, is)
not_bad_words ended (inr memory) is = cc (memory, is)

pub words_part : (line : List ℕ) (ended : Status) (old new : Option (List ℕ)) → IsUnput ended → ((n : ℕ) × Appends old new (take n line)) → (ended ≡ status.NoMemory → Keeps old new) → RefusesWords line ended old new
words_part line ended old new unput part nothing = record {
  kinds = inr unput;
  whole = λ is. absurd (not_bad_words ended unput is);
  nothing = nothing;
  beginning = part;
}

pub words_whole : (line : List ℕ) (old new : Option (List ℕ)) → Appends old new line → RefusesWords line status.BadWords old new
words_whole line old new put = record {
  kinds = inl refl;
  whole = λ _. put;
  nothing = λ is. cc is;
  beginning = whole_begins old new line put;
}
