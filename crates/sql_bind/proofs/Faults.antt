-- The first fault of lists, one after another, and of the predicates of a chain.
use Rattle.std.proofs.Common.{◌≡◌, ◌≢◌, ℕ, ◌+◌, List, [], ◌∷◌, ◌++◌, Option, Some, None, Result, Ok, Err, refl, sym, ap, ◌∙◌, arith, length}
use Rattle.std.proofs.lemmas.Grind.{common_steps}
use Rattle.std.specs.Prelude.{IsErrAnd}
use Rattle.std.specs.Option.{option_or}
use Rattle.sql_bind.specs.declared.fault.BindFault.{BindFault}
use Rattle.sql_bind.specs.declared.fault.BindFault.TheVariants.{NoMemory}
use Rattle.sql_bind.specs.Names.{first_fault_from}
use Rattle.sql_bind.specs.Refused.{RefusesBlock}

-- no check refuses
pub neither : (a b : Option BindFault) → option_or a b ≡ None → (a ≡ None) × (b ≡ None)
neither None b none = (refl, none)
neither (Some fault) b none = cc

pub or-assoc : {A : Type 0} (a b c : Option A) → option_or (option_or a b) c ≡ option_or a (option_or b c)
or-assoc None b c = refl
or-assoc (Some x) b c = refl

pub first_fault-append : {A : Type 0} (fault : ℕ → A → Option BindFault) (n : ℕ) (xs ys : List A)
    → first_fault_from fault n (xs ++ ys) ≡ option_or (first_fault_from fault n xs) (first_fault_from fault (n + length xs) ys)
first_fault-append fault n [] ys = let none : n ≡ n + 0 = omega arith in ap (λ m. first_fault_from fault m ys) none
first_fault-append fault n (x ∷ xs) ys = grind (arith, common_steps, or-assoc, first_fault-append fault (n + 1) xs ys)

-- a refusal that is handed on
pub handed_on : {T : Type 0} (due : Option BindFault) (result : Result T BindFault) (fault : BindFault) → IsErrAnd result (λ x. x ≡ fault)
    → (fault ≢ NoMemory → due ≡ Some fault) → RefusesBlock due result
handed_on due (Ok x) fault is h = absurd is
handed_on due (Err x) fault is h = record { answered = tt; refused = λ other. h (λ none. other (is ∙ none)) ∙ ap Some (sym is) }
