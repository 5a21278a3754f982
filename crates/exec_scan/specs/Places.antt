-- Where a relation's rows and words stand among those of all relations of a block.
use Rattle.std.specs.Prelude.{◌≡◌, ℕ, ℤ, ◌+◌, ◌<◌, List, [], length, map, take, drop, slice_set}
use Rattle.sql_values.specs.Stored.{ValueRow}
use Rattle.query_block.specs.Blocks.{RelationTree, BlockTree, relation_at, offset_of}
use Rattle.query_block.specs.Meaning.{Combination}

-- a row in the place of its relation; of the others, the row without values
abbrev pub placed_row : List RelationTree → (number : ℕ) → ValueRow → Combination
placed_row relations number row = slice_set (map (λ _. []) relations) number row

-- the table, the number of columns and their place are those of a relation of the block
pub record AreOfRelation (block : BlockTree) (relation table columns offset : ℕ) : Type 0 where
  pub exists : relation < length block.relations
  pub table_is : table ≡ (relation_at block.relations relation).table
  pub columns_are : columns ≡ length (relation_at block.relations relation).columns
  pub offset_is : offset ≡ offset_of block relation

-- the words of the other relations in a row of all stay as they are, and the row is as wide
pub record KeepsOtherWords (block : BlockTree) (relation : ℕ) (old new : List ℤ) : Type 0 where
  pub wide : length new ≡ length old
  pub before : take (offset_of block relation) new ≡ take (offset_of block relation) old
  pub behind : let past = offset_of block relation + length (relation_at block.relations relation).columns in
      drop past new ≡ drop past old
