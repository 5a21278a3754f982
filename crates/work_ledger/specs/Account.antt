-- What is known of an account of work, and what a payment does to it.
use Rattle.std.specs.Prelude.{◌≡◌, ℕ, ◌+◌, ◌≤◌, ◌^◌, ◌↔◌, Result, IsOk, OnOk, OnErr}

-- the work paid so far, and the most that may be paid
pub record Account : Type 0 where
  pub spent : ℕ
  pub limit : ℕ

-- the most work that an account counts: a sum of two such works, or of one and a payment, doesn't leave 128 bits
abbrev pub max_account : ℕ
max_account = 2 ^ 126

-- what is spent was granted, and what is granted can be counted
pub record IsInBounds (account : Account) : Type 0 where
  pub granted : account.spent ≤ account.limit
  pub bounded : account.limit ≤ max_account

-- a payment of n: it is made exactly where it fits, and else spends what is left, and none is taken back; the limit stays
pub record Pays {T E : Type 0} (n : ℕ) (old new : Account) (result : Result T E) : Type 0 where
  pub fits : IsOk result ↔ (old.spent + n ≤ old.limit)
  pub paid : OnOk result (new.spent ≡ old.spent + n)
  pub refused : OnErr result (new.spent ≡ old.limit)
  pub limit : new.limit ≡ old.limit
  pub never_falls : old.spent ≤ new.spent
