-- When a heap refuses rows, and what it says then.
use Rattle.std.specs.Prelude.{◌≡◌, ◌≢◌, ℕ, ◌<◌, ◌↔◌, Result, IfErr, IsErrOf}
use Rattle.heap_pages.specs.declared.heap.HeapFault.{HeapFault}
use Rattle.heap_pages.specs.declared.heap.HeapFault.TheVariants as fault
use Rattle.heap_pages.specs.Limits.{max_rows}

-- a table that would have so many rows is refused exactly where these are too many, and the refusal names them
pub record KeepsRowLimit {T : Type 0} (rows : ℕ) (result : Result T HeapFault) : Type 0 where
  pub exactly : IsErrOf result (fault.RowLimit rows) ↔ (max_rows < rows)
  pub only : IfErr result (λ e. e ≢ fault.NoMemory → e ≡ fault.RowLimit rows)
