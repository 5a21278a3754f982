-- What a call makes of a value that it may change.
use Rattle.std.specs.Prelude.{◌≡◌, Result, OnOk, OnErr}

-- the value becomes this one, or the call is refused and leaves it as it was
pub record Becomes {S T E : Type 0} (after old new : S) (result : Result T E) : Type 0 where
  pub made : OnOk result (new ≡ after)
  pub unchanged : OnErr result (new ≡ old)
