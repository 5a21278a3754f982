-- Which names of files lead out of the folder, and which are those of files in the making.
use Rattle.std.specs.Prelude.{◌≡◌, ◌≢◌, ◌==◌, ◌-◌, ℕ, List, All, Some, codes, drop, length, take}
use Rattle.std.specs.List.{slice_split}
use Rattle.std.specs.Path.{IsRelative, slash, parent_dir, path_file_name}

-- a name that doesn't lead out: no slash begins it, no component between its slashes is '..', no byte is 0
pub record IsInside (name : List ℕ) : Type 0 where
  pub relative : IsRelative name
  pub never_up : All (λ component. component ≢ parent_dir) (slice_split (λ byte. byte == slash) name)
  pub no_nul : All (λ byte. byte ≢ 0) name

-- how the name of a file in the making begins, and how it ends
abbrev pub part_start : List ℕ
part_start = codes "bouquet-"

abbrev pub part_end : List ℕ
part_end = codes ".part"

-- the last component of the name begins and ends so
abbrev pub IsPartName : List ℕ → Type 0
IsPartName name =
    (last : List ℕ) × (path_file_name name ≡ Some last) × (take (length part_start) last ≡ part_start)
    × (drop (length last - length part_end) last ≡ part_end)
