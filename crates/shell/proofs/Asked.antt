-- What holds of all options holds of those that the arguments give.
use Rattle.std.proofs.Common.{◌≡◌, ℕ, Option, Some, None}
use Rattle.std.specs.Prelude.{IfSome}
use Rattle.command_line.specs.Words.{Options}

pub where_asked : {P : Options → Type 0} (given : Option Options) → ((options : Options) → options.demo ≡ None → P options) → IfSome given (λ options. options.demo ≡ None → P options)
where_asked None holds = tt
where_asked (Some options) holds = holds options

pub where_shown : {P : Options → ℕ → Type 0} (given : Option Options) → ((options : Options) (number : ℕ) → P options number) → IfSome given (λ options. IfSome options.demo (λ number. P options number))
where_shown None holds = tt
where_shown {P = P} (Some options) holds =
    elim options.demo as (λ demo. IfSome demo (λ number. P options number)) [
      | None ↦ tt
      | Some number ↦ holds options number
    ]
