-- The file that a folder gives, and how its counts moved.
use Rattle.std.proofs.Common.{◌≡◌, ◌⊎◌, inl, inr, ℕ, zero, suc, ◌<◌, ◌≤◌, List, [], ◌∷◌, length, Option, Some, None, refl, sym, ap, ◌∙◌, arith}
use Rattle.std.specs.Prelude.{IfSome, IsSome, IsSomeAnd, MatchOption, Vec, Result, Ok, Err}
use Rattle.std.specs.declared.alloc.Global.{Global}
use Rattle.outside_io.specs.Count.{Rose, raised}
use Rattle.outside_io.specs.Files.{Files, FolderState, IsReadAnswer, KeepsFileLimit, OnlyReads, held_file}
use Rattle.outside_io.specs.declared.fault.FileFault.{FileFault}
use Rattle.outside_io.specs.declared.fault.FileFault.TheVariants as fault
use Rattle.sql_values.specs.Limits.{max_file_bytes}
use Rattle.sql_parse.specs.Trees.{StatementTree}
use Rattle.workspace.specs.Files.{asked_name}
use Rattle.workspace.specs.declared.begun.GivenFile.{GivenFile}
use Rattle.workspace.specs.declared.begun.GivenFile.TheVariants as given
use Rattle.shell.specs.Due.{GivesFile, ReadsFile}
use Rattle.shell.specs.Script.{IsGiven, IsGivenFor, IsMissing}
use Rattle.shell.specs.declared.status.Status.{Status}
use Rattle.shell.specs.declared.status.Status.TheVariants as status
use Rattle.shell.specs.Serve.{NeverFalls, NoneFailed}

-- a count that rose in a part of a run rose in the run
pub rose_in : {before low high last : ℕ} → before ≤ low → high ≤ last → Rose low high → Rose before last
rose_in {before} {low} {high} {last} first past rose = omega (arith, first, past, rose)

pub falls_none : (state : FolderState) → NeverFalls state state
falls_none state = record { read_faults = omega arith; write_faults = omega arith; misses = omega arith }

pub falls_on : (before mid now : FolderState) → NeverFalls before mid → NeverFalls mid now → NeverFalls before now
falls_on before mid now first last = record { read_faults = omega (arith, first.read_faults, last.read_faults); write_faults = omega (arith, first.write_faults, last.write_faults); misses = omega (arith, first.misses, last.misses) }

pub quiet_none : (state : FolderState) → NoneFailed state state
quiet_none state = record { reads = refl; writes = refl }

pub quiet_on : (before mid now : FolderState) → NoneFailed before mid → NoneFailed mid now → NoneFailed before now
quiet_on before mid now first last = record { reads = last.reads ∙ first.reads; writes = last.writes ∙ first.writes }

-- some file is given under every name, and for every statement
any_given : (missed : Type 0) (held : Option Files) (name : List ℕ) → (file : Option (List ℕ)) × IsGiven held missed name file
any_given missed None name = (Some [], inl (omega arith))
any_given missed (Some files) name = (held_file files name, refl)

pub any_given_for : (missed : Type 0) (held : Option Files) (statement : StatementTree) → (file : Option (List ℕ)) × IsGivenFor held missed statement file
any_given_for missed held statement = by (asked_name statement)
  where
    by : (asked : Option (List ℕ)) → (file : Option (List ℕ)) × MatchOption asked (file ≡ None) (λ name. IsGiven held missed name file)
    by None = (None, refl)
    by (Some name) = any_given missed held name

-- a folder of known contents gives one file, and for a statement too
one_file : (missed other : Type 0) (held : Option Files) (name : List ℕ) (a b : Option (List ℕ)) → IsSome held → IsGiven held missed name a → IsGiven held other name b → a ≡ b
one_file missed other None name a b known first second = cc known
one_file missed other (Some files) name a b known first second = cc (first, second)

pub one_file_for : (missed other : Type 0) (held : Option Files) (statement : StatementTree) (a b : Option (List ℕ)) → IsSome held → IsGivenFor held missed statement a → IsGivenFor held other statement b → a ≡ b
one_file_for missed other held statement a b known first second = by (asked_name statement) first second
  where
    by : (asked : Option (List ℕ)) → MatchOption asked (a ≡ None) (λ name. IsGiven held missed name a) → MatchOption asked (b ≡ None) (λ name. IsGiven held other name b) → a ≡ b
    by None first second = cc (first, second)
    by (Some name) first second = one_file missed other held name a b known first second

-- a file of that length
long_text : (len : ℕ) → (bytes : List ℕ) × (length bytes ≡ len)
long_text zero = ([], refl)
long_text (suc len) = let more = long_text len in (0 ∷ more.0, ap suc more.1)

module _ (name : List ℕ) (before after : FolderState) where
  -- one that is found is given; where the files are unknown, it could be read, or a miss was counted
  found_given : (held : Option Files) (missed : Type 0) (file : Option (List ℕ)) → IfSome held (λ files. held_file files name ≡ file) → IsSomeAnd file (λ bytes. length bytes ≤ max_file_bytes) ⊎ missed → IsGiven held missed name file
  found_given None missed file known either = either
  found_given (Some files) missed file known either = sym known

  -- and so is one that is too long
  long_given : (held : Option Files) (missed : Type 0) (len : ℕ) → IfSome held (λ files. IsSomeAnd (held_file files name) (λ bytes. length bytes ≡ len)) → max_file_bytes < len → missed
      → (bytes : List ℕ) × (length bytes ≡ len) × IsGiven held missed name (Some bytes)
  long_given None missed len known long was = let text = long_text len in (text.0, text.1, inr was)
  long_given (Some files) missed len known long was = by (held_file files name) refl known
    where
      by : (found : Option (List ℕ)) → held_file files name ≡ found → IsSomeAnd found (λ bytes. length bytes ≡ len) → (bytes : List ℕ) × (length bytes ≡ len) × (Some bytes ≡ held_file files name)
      by None is there = absurd there
      by (Some bytes) is there = (bytes, there, sym is)

  -- what a read returned, as the run has it
  abbrev pub given_as : Result (Vec ℕ Global) FileFault → Result GivenFile Status
  given_as (Ok bytes) = Ok (given.Bytes bytes)
  given_as (Err fault.Absent) = Ok given.Absent
  given_as (Err (fault.TooLong len)) = Ok (given.TooLong len)
  given_as (Err fault.Failed) = Err status.ReadFault
  given_as (Err fault.NoMemory) = Err status.NoMemory

  only : (read : Result (Vec ℕ Global) FileFault) (reads : OnlyReads read before after) (file : Option (List ℕ)) → IsGiven before.files (Rose before.misses after.misses) name file
      → ((after.misses ≡ before.misses) ⊎ (IsMissing file × (after.misses ≡ raised before.misses))) → ReadsFile file before after (given_as read) → GivesFile name before after (given_as read)
  only read reads file given counts ends = record {
    file = file;
    given = given;
    counts = counts;
    files = reads.files;
    falls = record { read_faults = reads.read_faults.never_falls; write_faults = omega (arith, reads.write_faults); misses = reads.misses.never_falls };
    reads = ends;
  }

  pub gives_file : (read : Result (Vec ℕ Global) FileFault) → IfSome before.files (λ files. IsReadAnswer files name read) → KeepsFileLimit read → OnlyReads read before after → GivesFile name before after (given_as read)
  gives_file (Ok bytes) known within reads =
      let quiet : NoneFailed before after = record { reads = reads.read_faults.kept (λ is. cc is); writes = reads.write_faults } in
      only (Ok bytes) reads (Some bytes.items) (found_given before.files _ (Some bytes.items) known (inl within)) (inl (reads.misses.kept (λ no. no))) ((refl, within), quiet)
  gives_file (Err fault.Absent) known within reads =
      let missed = reads.misses.counted tt in
      let quiet : NoneFailed before after = record { reads = reads.read_faults.kept (λ is. cc is); writes = reads.write_faults } in
      only (Err fault.Absent) reads None (found_given before.files _ None known (inr (omega (arith, missed)))) (inr (tt, missed)) (refl, quiet)
  gives_file (Err (fault.TooLong len)) known within reads =
      let missed = reads.misses.counted tt in
      let quiet : NoneFailed before after = record { reads = reads.read_faults.kept (λ is. cc is); writes = reads.write_faults } in
      let long = long_given before.files (Rose before.misses after.misses) len known within (omega (arith, missed)) in
      let past : max_file_bytes < length long.0 = omega (arith, long.1, within) in
      only (Err (fault.TooLong len)) reads (Some long.0) long.2 (inr (past, missed)) ((long.1, within), quiet)
  gives_file (Err fault.Failed) known within reads =
      let any = any_given (Rose before.misses after.misses) before.files name in
      only (Err fault.Failed) reads any.0 any.1 (inl (reads.misses.kept (λ no. no))) (inl (refl, record { reads = reads.read_faults.counted refl; writes = reads.write_faults }))
  gives_file (Err fault.NoMemory) known within reads =
      let any = any_given (Rose before.misses after.misses) before.files name in
      only (Err fault.NoMemory) reads any.0 any.1 (inl (reads.misses.kept (λ no. no))) (inr (refl, record { reads = reads.read_faults.kept (λ is. cc is); writes = reads.write_faults }))
