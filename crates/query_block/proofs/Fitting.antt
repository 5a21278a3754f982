-- Values that fit the parameters, and the first that doesn't.
use Rattle.std.proofs.Common.{◌≡◌, ◌∙◌, ℕ, zero, suc, ◌+◌, ◌<◌, Bool, true, false, nat_eq, List, [], ◌∷◌, length, get_or, drop, Some, None, if◌then◌else◌, refl, arith}
use Rattle.std.proofs.lemmas.Grind.{common_steps}
use Rattle.std.specs.declared.option.Option.{Option}
use Rattle.std.proofs.lemmas.Bool.{eq-eqb, eqb-true}
use Rattle.std.proofs.lemmas.List.{at_drop_more, get_or_default}
use Rattle.sql_values.specs.declared.value.Value.{Value}
use Rattle.sql_values.specs.declared.value.Value.TheVariants as value
use Rattle.query_block.specs.declared.kind.Kind.{Kind}
use Rattle.query_block.specs.declared.kind.Kind.TheVariants as kind
use Rattle.query_block.specs.declared.values.ValueFault.{ValueFault}
use Rattle.query_block.specs.declared.values.ValueFault.TheVariants as fault
use Rattle.query_block.specs.Values.{is_of_kind, misfit_from, value_fault, FitValues}

none-wrong : (given wanted : ℕ) (b : Bool) (misfit : Option ValueFault) → (if b then misfit else Some (fault.Count given wanted)) ≡ None → (b ≡ true) × (misfit ≡ None)
none-wrong given wanted true None is = (refl, refl)
none-wrong given wanted true (Some place) is = cc
none-wrong given wanted false misfit is = cc

fitting-from : (place : ℕ) (kinds : List Kind) (values : List Value) (n : ℕ) → length values ≡ length kinds → misfit_from place kinds values ≡ None → n < length kinds
    → is_of_kind (get_or kinds n kind.Integer) (get_or values n value.Null) ≡ true
fitting-from place [] values n same none there = absurd (omega (arith, there))
fitting-from place (of ∷ kinds) [] n same none there = absurd (omega (arith, same))
fitting-from place (of ∷ kinds) (v ∷ values) n same none there =
    by (is_of_kind of v) refl none n there (λ m rest below. fitting-from (place + 1) kinds values m (omega (arith, same)) rest below)
  where
    by : (b : Bool) → is_of_kind of v ≡ b → (if b then misfit_from (place + 1) kinds values else Some (fault.Kind place)) ≡ None → (n : ℕ) → n < length (of ∷ kinds)
        → ((m : ℕ) → misfit_from (place + 1) kinds values ≡ None → m < length kinds → is_of_kind (get_or kinds m kind.Integer) (get_or values m value.Null) ≡ true)
        → is_of_kind (get_or (of ∷ kinds) n kind.Integer) (get_or (v ∷ values) n value.Null) ≡ true
    by true is none zero there rest = is
    by true is none (suc n) there rest = rest n none (omega (arith, there))
    by false is none n there rest = cc

-- as many values as parameters
pub as-many : (kinds : List Kind) (values : List Value) → FitValues kinds values → length values ≡ length kinds
as-many kinds values fit = grind (arith, common_steps, eqb-true, none-wrong, nat_eq)

-- each value is of the kind of its parameter
pub fitting : (kinds : List Kind) (values : List Value) → FitValues kinds values → (n : ℕ) → n < length kinds
    → is_of_kind (get_or kinds n kind.Integer) (get_or values n value.Null) ≡ true
fitting kinds values fit n there = grind (arith, common_steps, none-wrong, nat_eq, fitting-from, eqb-true)

-- the first misfit of what is left, a place further on
pub misfit-next : (kinds : List Kind) (values : List Value) (place i : ℕ) → i < length kinds → i < length values
    → misfit_from (i + place) (drop i kinds) (drop i values)
    ≡ (if is_of_kind (get_or kinds i kind.Integer) (get_or values i value.Null) then misfit_from (i + place + 1) (drop (i + 1) kinds) (drop (i + 1) values) else Some (fault.Kind (i + place)))
misfit-next kinds values place i of_kinds of_values =
    at_drop_more (λ left. misfit_from (i + place) left (drop i values)) kinds i kind.Integer of_kinds
    ∙ at_drop_more (misfit_from (i + place) (get_or kinds i kind.Integer ∷ drop (i + 1) kinds)) values i value.Null of_values

-- the first value that isn't of its parameter's kind, where those before it are
pub wrong-here : (kinds : List Kind) (values : List Value) (i : ℕ) (v : Value) → length values ≡ length kinds → i < length kinds
    → is_of_kind (get_or kinds i kind.Integer) (get_or values i v) ≡ false
    → misfit_from 1 kinds values ≡ misfit_from (i + 1) (drop i kinds) (drop i values)
    → value_fault kinds values ≡ Some (fault.Kind (i + 1))
wrong-here kinds values i v same there misfit before =
    grind (arith, common_steps, get_or, get_or_default, misfit-next, eq-eqb)
