-- Levels of which none is missing are a point of the grid.
use Rattle.std.proofs.Common.{◌≡◌, ℕ, ◌<◌, Bool, true, false, List, [], ◌∷◌, All, Some, None, refl, nat_lt, if◌then◌else◌}
use Rattle.std.proofs.lemmas.Bool.{ltb-true}
use Rattle.std.proofs.lemmas.List.Elements.{All-nil, All-cons}
use Rattle.sql_values.specs.declared.limit.LimitName.TheVariants as limit
use Rattle.workspace.specs.declared.refusal.Refusal.TheVariants as refusal
use Rattle.session.specs.Audit.{level_refusal}

abbrev pub AreBelow : (count : ℕ) → List ℕ → Type 0
AreBelow count levels = All (λ level. level < count) levels

pub none_missing : (count : ℕ) (levels : List ℕ) → level_refusal count levels ≡ None → AreBelow count levels
none_missing count [] none = All-nil (λ level. level < count)
none_missing count (level ∷ more) none = by (nat_lt level count) refl none (none_missing count more)
  where
    by : (b : Bool) → nat_lt level count ≡ b → (if b then level_refusal count more else Some (refusal.PastLimit limit.Level level)) ≡ None → (level_refusal count more ≡ None → AreBelow count more) → AreBelow count (level ∷ more)
    by true is rest below = All-cons (λ level. level < count) level more (ltb-true level count is) (below rest)
    by false is rest below = cc rest
