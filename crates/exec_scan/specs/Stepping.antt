-- What a call does to what is left, and to the meter.
use Rattle.std.specs.Prelude.{◌≡◌, ℤ, Bool, List, Result, IfOk}
use Rattle.query_block.specs.Blocks.{BlockTree}
use Rattle.query_block.specs.Meaning.{RelationSet}
use Rattle.plan_tree.specs.Left.{Left, GivesFirst, IsPart, PaysDue}
use Rattle.db_catalog.specs.Meter.{MeterState}

-- a call pays for what is no longer due after it, and the database stays
pub record PaysFor {S T E : Type 0} (left : S → Left) (old new : S) (before after : MeterState) (result : Result T E) : Type 0 where
  pub due : PaysDue (left old) (left new) before.account after.account result
  pub database : after.database ≡ before.database

-- a call gives the first row that is left, whose words of a set's relations these are, and pays for what is no longer due
pub record Yields {E : Type 0} (block : BlockTree) (set : RelationSet) (old new : Left) (words : List ℤ) (before after : MeterState) (result : Result Bool E) : Type 0 where
  pub gives : IfOk result (GivesFirst old new (IsPart before.database.texts block.relations set words))
  pub pays : PaysDue old new before.account after.account result
  pub database : after.database ≡ before.database
