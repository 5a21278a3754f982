-- Lists that are read part by part.
use Rattle.std.proofs.Common.{◌≡◌, ℕ, zero, suc, ◌+◌, ◌-◌, ◌<◌, List, [], ◌∷◌, ◌++◌, length, Option, Some, None, refl, sym, ap, subst, ◌∙◌, append_assoc, arith}
use Rattle.std.proofs.lemmas.List.{append-nil}
use Rattle.sql_parse.specs.declared.fault.ReadFault.{ReadFault}
use Rattle.sql_parse.specs.declared.fault.ReadFault.TheVariants.{NotAStatement, NoMemory}
use Rattle.sql_parse.specs.declared.mark.Mark.{Mark}
use Rattle.sql_parse.specs.Lexemes.{Lexeme}
use Rattle.sql_parse.specs.Reading.{Reader, ◌>>=◌, after_mark, more_at, list_with_first, Fails}

-- parts, and those that reading gives after them
abbrev pub with_front : {A : Type 0} → List A → Option (List A × List Lexeme) → Option (List A × List Lexeme)
with_front front read = read >>= λ xs. Some (front ++ xs.0, xs.1)

-- with the parts that were read, and at most so many more, the list is that of the tokens after its first part
abbrev pub IsReadSoFar : {A : Type 0} → (first : A) → Reader A → Mark → (tokens : List Lexeme) → List A → (most : ℕ) → (rest : List Lexeme) → Type 0
IsReadSoFar first part separator tokens front most rest =
    with_front front (more_at part separator most rest) ≡ list_with_first first part separator tokens

pub list_with_first-first : {A : Type 0} (first : A) (part : Reader A) (separator : Mark) (tokens : List Lexeme)
    → IsReadSoFar first part separator tokens (first ∷ []) (length tokens) tokens
unfolding list_with_first
list_with_first-first first part separator tokens = refl

-- where no separator follows, the list is read
pub more_at-end : {A : Type 0} (part : Reader A) (separator : Mark) (most : ℕ) (tokens : List Lexeme) → after_mark separator tokens ≡ None
    → more_at part separator most tokens ≡ Some ([], tokens)
unfolding more_at
more_at-end part separator zero tokens ended = refl
more_at-end part separator (suc most) tokens ended = rw ended refl

pub more_at-zero : {A : Type 0} (part : Reader A) (separator : Mark) (most : ℕ) (tokens : List Lexeme) → most ≡ 0
    → more_at part separator most tokens ≡ Some ([], tokens)
unfolding more_at
more_at-zero part separator most tokens none = rw none refl

pub list_with_first-end : {A : Type 0} (first : A) (part : Reader A) (separator : Mark) (tokens : List Lexeme) (front : List A) (most : ℕ) (rest : List Lexeme)
    → more_at part separator most rest ≡ Some ([], rest) → IsReadSoFar first part separator tokens front most rest
    → list_with_first first part separator tokens ≡ Some (front, rest)
list_with_first-end first part separator tokens front most rest ended so_far =
    sym so_far ∙ (ap (with_front front) ended ∙ ap (λ xs. Some (xs, rest)) (append-nil front))

with_front-more : {A : Type 0} (front : List A) (x : A) (read : Option (List A × List Lexeme))
    → with_front front (read >>= λ xs. Some (x ∷ xs.0, xs.1)) ≡ with_front (front ++ x ∷ []) read
with_front-more front x None = refl
with_front-more front x (Some xs) = ap (λ ys. Some (ys, xs.1)) (sym (append_assoc front (x ∷ []) xs.0))

more_at-next : {A : Type 0} (part : Reader A) (separator : Mark) (most : ℕ) (front : List A) (x : A) (tokens rest next : List Lexeme)
    → after_mark separator tokens ≡ Some rest → part rest ≡ Some (x, next)
    → with_front front (more_at part separator (suc most) tokens) ≡ with_front (front ++ x ∷ []) (more_at part separator most next)
unfolding more_at
more_at-next part separator most front x tokens rest next goes_on found = rw (goes_on, found) (with_front-more front x (more_at part separator most next))

-- a further turn of a loop that reads a list
pub list_with_first-next : {A : Type 0} (first : A) (part : Reader A) (separator : Mark) (tokens : List Lexeme) (front : List A) (end turn : ℕ) (x : A) (later rest next : List Lexeme)
    → turn < end → after_mark separator later ≡ Some rest → part rest ≡ Some (x, next)
    → IsReadSoFar first part separator tokens front (end - turn) later → IsReadSoFar first part separator tokens (front ++ x ∷ []) (end - (turn + 1)) next
list_with_first-next first part separator tokens front end turn x later rest next within goes_on found so_far =
    let one_less : end - turn ≡ suc (end - (turn + 1)) = omega arith in
    sym (more_at-next part separator (end - (turn + 1)) front x later rest next goes_on found)
    ∙ subst (λ (most : ℕ). IsReadSoFar first part separator tokens front most later) one_less so_far

more_at-none : {A : Type 0} (part : Reader A) (separator : Mark) (most : ℕ) (tokens rest : List Lexeme) → after_mark separator tokens ≡ Some rest
    → part rest ≡ None → more_at part separator (suc most) tokens ≡ None
unfolding more_at
more_at-none part separator most tokens rest goes_on next = rw (goes_on, next) refl

-- a part that isn't read
pub list_with_first-fails : {A : Type 0} (first : A) (part : Reader A) (separator : Mark) (tokens : List Lexeme) (front : List A) (end turn : ℕ) (later rest : List Lexeme) (fault : ReadFault)
    → turn < end → after_mark separator later ≡ Some rest → Fails fault (part rest)
    → IsReadSoFar first part separator tokens front (end - turn) later → Fails fault (list_with_first first part separator tokens)
list_with_first-fails first part separator tokens front end turn later rest NotAStatement within goes_on fails so_far =
    let one_less : end - turn ≡ suc (end - (turn + 1)) = omega arith in
    let none = more_at-none part separator (end - (turn + 1)) later rest goes_on fails in
    sym (subst (λ (most : ℕ). IsReadSoFar first part separator tokens front most later) one_less so_far) ∙ ap (with_front front) none
list_with_first-fails first part separator tokens front end turn later rest NoMemory within goes_on fails so_far = tt
