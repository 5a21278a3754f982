-- What is seen of a block.
use Rattle.std.specs.Prelude.{List}
use Rattle.query_block.specs.declared.block.Relation.{Relation}
use Rattle.query_block.specs.declared.edge.Edge.{Edge}
use Rattle.query_block.specs.declared.edge.ColumnAt.{ColumnAt}
use Rattle.query_block.specs.declared.kind.Kind.{Kind}

pub record BlockShape : Type 0 where
  pub relations : List Relation
  pub edges : List Edge
  pub projection : List ColumnAt
  pub parameters : List Kind
