-- The state of a script.
use Rattle.std.specs.Prelude.{ℕ, List, [], ◌∷◌, Option, Some, None, option_map, if◌then◌else◌}
use Rattle.std.specs.Str.{bytes_eq}
use Rattle.db_catalog.specs.Database.{DatabaseState}
use Rattle.bouquet_type.specs.Trees.{BouquetTree}

-- a bouquet, with its name and the canonical text of its query
pub record NamedBouquet : Type 0 where
  pub name : List ℕ
  pub query : List ℕ
  pub bouquet : BouquetTree

-- what the statements so far have made: the database, and the bouquets in the order in which they came
pub record World : Type 0 where
  pub database : DatabaseState
  pub bouquets : List NamedBouquet

-- the same with this database
abbrev pub with_database : World → DatabaseState → World
with_database world database = record world { database = database }

-- before the first statement there is nothing
abbrev pub nothing_made : World
nothing_made = record { database = record { tables = []; texts = []; index_names = [] }; bouquets = [] }

-- the bouquet of this name, where there is one
abbrev pub named_in : (name : List ℕ) → List NamedBouquet → Option NamedBouquet
named_in name [] = None
named_in name (named ∷ more) = if bytes_eq name named.name then Some named else named_in name more

abbrev pub bouquet_in : (name : List ℕ) → List NamedBouquet → Option BouquetTree
bouquet_in name bouquets = option_map (λ named. named.bouquet) (named_in name bouquets)
