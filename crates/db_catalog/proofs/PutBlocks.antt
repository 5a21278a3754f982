-- A block stands over the tables of a database whatever values are put in.
use Rattle.std.specs.Prelude.{List}
use Rattle.std.proofs.lemmas.List.Elements.{All-map, All-weaker}
use Rattle.sql_values.specs.declared.value.Value.{Value}
use Rattle.query_block.specs.Blocks.{BlockTree, RelationTree, put_of, put_relation}
use Rattle.db_catalog.specs.Database.{DatabaseState}
use Rattle.db_catalog.specs.Fits.{Fits, FitsTable}

relation-fits : (database : DatabaseState) (values : List Value) (relation : RelationTree) → FitsTable database relation → FitsTable database (put_relation values relation)
relation-fits database values relation fits = record { there = fits.there; columns = fits.columns; indexes = fits.indexes }

pub put-fits-tables : (database : DatabaseState) (values : List Value) (block : BlockTree) → Fits database block → Fits database (put_of values block)
put-fits-tables database values block fits =
    All-map (FitsTable database) (put_relation values) block.relations
    (All-weaker (FitsTable database) (λ relation. FitsTable database (put_relation values relation)) (relation-fits database values) block.relations fits)
