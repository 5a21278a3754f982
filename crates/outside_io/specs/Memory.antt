-- What the implementations in memory hold.
use Rattle.std.specs.Prelude.{ℕ, List, Some, Vec, map}
use Rattle.std.specs.FinMap as finite
use Rattle.std.specs.declared.alloc.Global.{Global}
use Rattle.outside_io.specs.Calls.{Calls}
use Rattle.outside_io.specs.Files.{Files, FolderState}

-- a source: the bytes that are left, and its calls
pub record MemorySourceState : Type 0 where
  pub left : List ℕ
  pub calls : Calls

-- a sink: the bytes that it has got, and its calls
pub record MemorySinkState : Type 0 where
  pub got : List ℕ
  pub calls : Calls

-- a folder: its files, its calls of both kinds, and how many of them failed or missed
pub record MemoryFolderState : Type 0 where
  pub files : Files
  pub calls : Calls
  pub read_faults : ℕ
  pub write_faults : ℕ
  pub misses : ℕ

-- the folder as its trait sees it
abbrev pub folder_state_of : MemoryFolderState → FolderState
folder_state_of folder = record {
  files = Some folder.files;
  read_faults = folder.read_faults;
  write_faults = folder.write_faults;
  misses = folder.misses;
}

-- a folder that never fails: its files, and how many reads missed
pub record NeverFailsFolderState : Type 0 where
  pub files : Files
  pub misses : ℕ

-- as its trait sees it: no call failed
abbrev pub never_fails_state : NeverFailsFolderState → FolderState
never_fails_state folder = record {
  files = Some folder.files;
  read_faults = 0;
  write_faults = 0;
  misses = folder.misses;
}

-- the files under their names, as a list has them
abbrev pub named_files : List (Vec ℕ Global × Vec ℕ Global) → Files
named_files entries = finite.from_entries (map (λ entry. (entry.0.items, entry.1.items)) entries)
