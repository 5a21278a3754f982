-- Lists of values that are gone through one item after another.
use Rattle.std.proofs.Common.{◌≡◌, ℕ, ◌+◌, ◌<◌, ◌≤◌, List, [], ◌∷◌, ◌++◌, length, map, drop, get_or, Result, Ok, Err, refl, sym, ap, ◌∙◌, append_assoc, append-nil}
use Rattle.std.specs.Prelude.{IsErrAnd}
use Rattle.std.proofs.lemmas.List.{at_drop_more, drop_all, map_push}
use Rattle.bouquet_file.specs.declared.fault.OpenFault.{OpenFault}
use Rattle.sql_values.specs.Steps.{Checked, pure, ◌>>=◌, each}
use Rattle.bouquet_file.specs.Given.{GivesChecked}

-- what is read already, before what is still to be read
abbrev pub joined : {A : Type 0} → List A → Checked OpenFault (List A) → Checked OpenFault (List A)
joined done (Ok more) = Ok (done ++ more)
joined done (Err why) = Err why

-- so far these items are read
abbrev pub Walked : {V X A : Type 0} → (see : V → X) → (ℕ → X → Checked OpenFault A) → List V → (place : ℕ) → List A → Type 0
Walked see read values place done =
    each read 1 (map see values) ≡ joined done (each read (place + 1) (map see (drop place values)))

pub walk-begins : {V X A : Type 0} (see : V → X) (read : ℕ → X → Checked OpenFault A) (values : List V) → Walked see read values 0 []
walk-begins {V} {X} {A} see read values = by (each read 1 (map see values))
  where
    by : (rest : Checked OpenFault (List A)) → rest ≡ joined [] rest
    by (Ok more) = refl
    by (Err why) = refl

pub walk-ends : {V X A : Type 0} (see : V → X) (read : ℕ → X → Checked OpenFault A) (values : List V) (place : ℕ) (done : List A) → length values ≤ place
    → Walked see read values place done → each read 1 (map see values) ≡ Ok done
walk-ends see read values place done all walked =
    walked ∙ ap (λ rest. joined done (each read (place + 1) (map see rest))) (drop_all place values all) ∙ ap Ok (append-nil done)

-- the next item stands before the rest
next-item : {V B : Type 0} (F : List V → B) (values : List V) (place : ℕ) (value : V) → place < length values → value ≡ get_or values place value
    → F (drop place values) ≡ F (value ∷ drop (place + 1) values)
next-item F values place value there is = at_drop_more F values place value there ∙ ap (λ one. F (one ∷ drop (place + 1) values)) (sym is)

pub walk-goes_on : {V X A : Type 0} (see : V → X) (read : ℕ → X → Checked OpenFault A) (values : List V) (place : ℕ) (value : V) (done : List A) (first : A) → place < length values → value ≡ get_or values place value
    → read (place + 1) (see value) ≡ Ok first → Walked see read values place done → Walked see read values (place + 1) (done ++ first ∷ [])
walk-goes_on {V} {X} {A} see read values place value done first there is found walked =
    let rest = each read (place + 1 + 1) (map see (drop (place + 1) values)) in
    walked ∙ next-item (λ some. joined done (each read (place + 1) (map see some))) values place value there is
    ∙ ap (λ one. joined done (one >>= λ first. rest >>= λ others. pure (first ∷ others))) found ∙ by rest
  where
    by : (rest : Checked OpenFault (List A)) → joined done (rest >>= λ others. pure (first ∷ others)) ≡ joined (done ++ first ∷ []) rest
    by (Ok more) = ap Ok (sym (append_assoc done (first ∷ []) more))
    by (Err why) = refl

-- what is read is pushed as it is seen
pub walk-pushes : {V X T A : Type 0} (see : V → X) (read : ℕ → X → Checked OpenFault A) (view : T → A) (values : List V) (place : ℕ) (value : V) (done pushed : List T) (first : T) → place < length values
    → value ≡ get_or values place value → read (place + 1) (see value) ≡ Ok (view first) → pushed ≡ done ++ first ∷ []
    → Walked see read values place (map view done) → Walked see read values (place + 1) (map view pushed)
walk-pushes see read view values place value done pushed first there is found push walked =
    rw (push, map_push view done first) (walk-goes_on see read values place value (map view done) (view first) there is found walked)

pub walk-fails : {V X A : Type 0} (see : V → X) (read : ℕ → X → Checked OpenFault A) (values : List V) (place : ℕ) (value : V) (done : List A) (why : OpenFault) → place < length values → value ≡ get_or values place value
    → Walked see read values place done → read (place + 1) (see value) ≡ Err why → each read 1 (map see values) ≡ Err why
walk-fails see read values place value done why there is walked found =
    let rest = each read (place + 1 + 1) (map see (drop (place + 1) values)) in
    walked ∙ next-item (λ some. joined done (each read (place + 1) (map see some))) values place value there is
    ∙ ap (λ one. joined done (one >>= λ first. rest >>= λ others. pure (first ∷ others))) found

-- a fault that is handed on
pub handed-on : {T U A B : Type 0} (view : T → A) (view' : U → B) (due : Checked OpenFault A) (whole : Checked OpenFault B) (why : OpenFault) (result : Result U OpenFault) → IsErrAnd result (λ one. one ≡ why)
    → (due ≡ Err why → whole ≡ Err why) → GivesChecked view (Err why) due → GivesChecked view' result whole
handed-on view view' due whole why (Ok value) is on gives = absurd is
handed-on view view' due whole why (Err one) is on gives = λ other. on (gives (λ none. other (is ∙ none))) ∙ ap Err (sym is)
