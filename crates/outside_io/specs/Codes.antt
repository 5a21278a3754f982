-- How files are distinguished: by their names and bytes.
use Rattle.std.specs.FinMap as map
use Rattle.std.specs.Coded.{Coded, coded_ℕ, coded_list}
use Rattle.outside_io.specs.Files.{Files}

-- files
abbrev pub files_code : Coded Files
files_code = map.code (coded_list coded_ℕ) (coded_list coded_ℕ)
