use Rattle.std.proofs.Common.{arith}
use Rattle.query_block.specs.declared.condition.Operand.TheVariants.{Column, Literal, Parameter}
use Rattle.query_block.specs.Conditions.{Between}
use Rattle.plan_tree.proofs.Narrowing.{unusable}
use Rattle.plan_tree.proofs.range.by_between.Goals as goal

pub returns-in-Literal : goal.returns-in-Literal
returns-in-Literal c = λ kinds columns are.
    rw (c.in-Literal.is) (unusable c.args.texts.now columns c.args.column (Between (Literal c.in-Literal.field-0) c.args.bounds.0.now c.args.bounds.1.now) c.args.range (grind arith))

pub returns-in-Column-low : goal.returns-in-Column-low
returns-in-Column-low c = λ kinds columns are.
    rw (c.in-Column.is, c.in-Column-low.is)
    (unusable c.args.texts.now columns c.args.column (Between (Column c.in-Column.of) (Column c.in-Column-low.field-0) c.args.bounds.1.now) c.args.range (grind arith))

pub returns-in-Parameter-low : goal.returns-in-Parameter-low
returns-in-Parameter-low c = λ kinds columns are.
    rw (c.in-Column.is, c.in-Parameter-low.is)
    (unusable c.args.texts.now columns c.args.column (Between (Column c.in-Column.of) (Parameter c.in-Parameter-low.field-0) c.args.bounds.1.now) c.args.range (grind arith))
