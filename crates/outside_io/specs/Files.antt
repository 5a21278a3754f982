-- What a folder holds, and what its calls say of it.
use Rattle.std.specs.Prelude.{◌≡◌, ◌≢◌, ℕ, ◌≤◌, ◌<◌, List, length, Option, None, Some, IsSomeAnd}
use Rattle.std.specs.Prelude.{IfSome, IsErrAnd, IsErrOf, Result, Ok, Err, Vec, ⊤}
use Rattle.std.specs.Ordering.{nat_cmp}
use Rattle.std.specs.Cmp.Lexicographic.{slice_cmp}
use Rattle.std.specs.FinMap as map
use Rattle.std.specs.declared.alloc.Global.{Global}
use Rattle.std.specs.declared.io.ErrorKind.{ErrorKind}
use Rattle.std.specs.declared.io.ErrorKind.TheVariants as kind
use Rattle.outside_io.specs.declared.fault.FileFault.{FileFault}
use Rattle.outside_io.specs.declared.fault.FileFault.TheVariants as fault
use Rattle.outside_io.specs.Limits.{max_file_bytes}
use Rattle.outside_io.specs.Count.{CountsEach}

-- the bytes of each file under the bytes of its name
abbrev pub Files : Type 0
Files = map.FinMap (slice_cmp nat_cmp) (List ℕ)

-- the bytes of the file of this name
abbrev pub held_file : Files → List ℕ → Option (List ℕ)
held_file files name = map.get files name

-- the folder with these bytes under the name
abbrev pub with_file : Files → List ℕ → List ℕ → Files
with_file files name bytes = map.insert files name bytes

-- what the result of a read says of the file: its bytes, that it isn't there, or its length
abbrev pub IsReadAnswer : Files → List ℕ → Result (Vec ℕ Global) FileFault → Type 0
IsReadAnswer files name (Ok bytes) = held_file files name ≡ Some bytes.items
IsReadAnswer files name (Err fault.Absent) = held_file files name ≡ None
IsReadAnswer files name (Err (fault.TooLong len)) =
    IsSomeAnd (held_file files name) (λ bytes. length bytes ≡ len)
IsReadAnswer files name (Err other) = ⊤

-- a read returns no more bytes than the limit, and only a longer file is too long
abbrev pub KeepsFileLimit : Result (Vec ℕ Global) FileFault → Type 0
KeepsFileLimit (Ok bytes) = length bytes.items ≤ max_file_bytes
KeepsFileLimit (Err (fault.TooLong len)) = max_file_bytes < len
KeepsFileLimit (Err other) = ⊤

-- what a read returns where the system has an error of this kind
abbrev pub fault_of_kind : ErrorKind → FileFault
fault_of_kind kind.NotFound = fault.Absent
fault_of_kind kind.OutOfMemory = fault.NoMemory
fault_of_kind _ = fault.Failed

-- the file isn't there or is too long, though nothing failed
abbrev pub IsMiss : FileFault → Type 0
IsMiss fault.Absent = Unit {0}
IsMiss (fault.TooLong len) = Unit {0}
IsMiss other = ⊥

-- every name but this one has what it had
abbrev pub KeepsOthers : List ℕ → Option Files → Option Files → Type 0
KeepsOthers name old new = IfSome old (λ files. IsSomeAnd new (λ after.
    (other : List ℕ) → other ≢ name → held_file after other ≡ held_file files other))

-- what is known of a folder: its files, where its contents are known, and its three counts
pub record FolderState : Type 0 where
  pub files : Option Files
  pub read_faults : ℕ
  pub write_faults : ℕ
  pub misses : ℕ

-- what a read does to a folder: it holds what it held, and a failure is counted once, and so is a miss
pub record OnlyReads {T : Type 0} (result : Result T FileFault) (old new : FolderState) : Type 0 where
  pub files : new.files ≡ old.files
  pub read_faults : CountsEach (IsErrOf result fault.Failed) old.read_faults new.read_faults
  pub write_faults : new.write_faults ≡ old.write_faults
  pub misses : CountsEach (IsErrAnd result IsMiss) old.misses new.misses

-- what a write does to the counts of a folder: a failure is counted once
pub record OnlyWrites {T : Type 0} (result : Result T FileFault) (old new : FolderState) : Type 0 where
  pub read_faults : new.read_faults ≡ old.read_faults
  pub write_faults : CountsEach (IsErrOf result fault.Failed) old.write_faults new.write_faults
  pub misses : new.misses ≡ old.misses
