-- How a refusal names a limit.
use Rattle.std.specs.Prelude.{ℕ, List, codes}
use Rattle.sql_values.specs.declared.limit.LimitName.{LimitName}
use Rattle.sql_values.specs.declared.limit.LimitName.TheVariants as limit

-- the word that stands for a limit in a refusal
abbrev pub limit_word : LimitName → List ℕ
limit_word limit.Script = codes "script"
limit_word limit.File = codes "file"
limit_word limit.Tables = codes "tables"
limit_word limit.Columns = codes "columns"
limit_word limit.Length = codes "length"
limit_word limit.Rows = codes "rows"
limit_word limit.Words = codes "words"
limit_word limit.Texts = codes "texts"
limit_word limit.TextBytes = codes "textbytes"
limit_word limit.Relations = codes "relations"
limit_word limit.Projection = codes "projection"
limit_word limit.Axes = codes "axes"
limit_word limit.Product = codes "product"
limit_word limit.Levels = codes "levels"
limit_word limit.Points = codes "points"
limit_word limit.Threshold = codes "threshold"
limit_word limit.Coordinates = codes "coordinates"
limit_word limit.Level = codes "level"
limit_word limit.Plans = codes "plans"
