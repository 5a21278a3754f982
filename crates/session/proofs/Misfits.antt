-- Values that fit the parameters of a bouquet, or don't.
use Rattle.std.proofs.Common.{◌≡◌, ◌∙◌, List, Option, Some, None, refl, sym, ap}
use Rattle.std.specs.Prelude.{Ok, Err}
use Rattle.sql_values.specs.declared.value.Value.{Value}
use Rattle.query_block.specs.Shape.{BlockShape}
use Rattle.query_block.specs.Values.{due_of, value_fault}
use Rattle.query_block.specs.declared.values.ValueFault.{ValueFault}

pub fits : (found : Option ValueFault) (answer : Unit {0}) → Ok answer ≡ due_of found → found ≡ None
fits None answer is = refl
fits (Some fault) answer is = cc

pub misfits : (found : Option ValueFault) (fault : ValueFault) → Err fault ≡ due_of found → found ≡ Some fault
misfits None fault is = cc
misfits (Some other) fault is = cc

module _ (values : List Value) (block lent : BlockShape) (same : lent ≡ block) where
  fault-of : value_fault block.parameters values ≡ value_fault lent.parameters values
  fault-of = ap (λ (shape : BlockShape). value_fault shape.parameters values) (sym same)

  pub fitting : (answer : Unit {0}) → Ok answer ≡ due_of (value_fault lent.parameters values) → value_fault block.parameters values ≡ None
  fitting answer is = fault-of ∙ fits (value_fault lent.parameters values) answer is

  pub misfitting : (fault : ValueFault) → Err fault ≡ due_of (value_fault lent.parameters values) → value_fault block.parameters values ≡ Some fault
  misfitting fault is = fault-of ∙ misfits (value_fault lent.parameters values) fault is
