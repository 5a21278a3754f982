-- What a heap answers where it refuses rows, and where it doesn't.
use Rattle.std.proofs.Common.{◌≡◌, ℕ, ◌<◌, ◌≤◌, Result, Ok, Err, ap, arith}
use Rattle.std.specs.Prelude.{IsErrAnd}
use Rattle.heap_pages.specs.declared.heap.HeapFault.{HeapFault}
use Rattle.heap_pages.specs.declared.heap.HeapFault.TheVariants.{NoMemory, RowLimit}
use Rattle.heap_pages.specs.Changes.{Becomes}
use Rattle.heap_pages.specs.Limits.{max_rows}
use Rattle.heap_pages.specs.Refused.{KeepsRowLimit}

-- too many rows are refused
pub limit_told : {T : Type 0} (rows value : ℕ) → value ≡ rows → max_rows < rows → KeepsRowLimit {T = T} rows (Err (RowLimit value))
limit_told rows value is past = record { exactly = (λ _. past, λ _. ap (λ n. Err (RowLimit n)) is); only = λ _. ap RowLimit is }

-- others are not
pub limit_kept : {T : Type 0} (rows : ℕ) (x : T) → rows ≤ max_rows → KeepsRowLimit rows (Ok x)
limit_kept rows x within = record { exactly = (λ none. cc, λ past. absurd (omega (arith, within, past))); only = tt }

-- that memory ran out is no such refusal
not_told : {T : Type 0} (rows : ℕ) (r : Result T HeapFault) → r ≡ Err NoMemory → r ≡ Err (RowLimit rows) → ⊥
not_told rows r none told = cc

pub limit_of_memory : {T : Type 0} (rows : ℕ) (r : Result T HeapFault) → rows ≤ max_rows → IsErrAnd r (λ fault. fault ≡ NoMemory) → KeepsRowLimit rows r
limit_of_memory rows (Ok x) within is = absurd is
limit_of_memory rows (Err e) within is = record {
  exactly = (λ told. absurd (not_told rows (Err e) (ap Err is) told), λ past. absurd (omega (arith, within, past)));
  only = λ other. absurd (other is);
}

-- then all stays as it was
pub unchanged_on : {S T : Type 0} (after old new : S) (r : Result T HeapFault) → IsErrAnd r (λ fault. fault ≡ NoMemory) → new ≡ old → Becomes after old new r
unchanged_on after old new (Ok x) is same = absurd is
unchanged_on after old new (Err e) is same = record { made = tt; unchanged = same }
