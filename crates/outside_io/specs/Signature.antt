-- How the file of a bouquet begins.
use Rattle.std.specs.Prelude.{ℕ, List, codes}

-- the bytes with which the file of a bouquet begins
abbrev pub signature : List ℕ
signature = codes "{\"bouquet\":"
