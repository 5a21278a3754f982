-- A word on lists.
use Rattle.std.specs.Prelude.{◌-◌, List, Option, length, slice_get}

-- the last of a list, where it has one
abbrev pub last_of : {X : Type 0} → List X → Option X
last_of xs = slice_get xs (length xs - 1)
