-- What an account is at first, and what a grant makes of it.
use Rattle.std.specs.Prelude.{ℕ, ◌+◌}
use Rattle.work_ledger.specs.Account.{Account}

-- nothing is spent, and nothing may be
abbrev pub new_account : Account
new_account = record { spent = 0; limit = 0 }

-- as much work more as the budget says may be spent, counted from what is spent
abbrev pub granted : (budget : ℕ) → Account → Account
granted budget account = record account { limit = account.spent + budget }
