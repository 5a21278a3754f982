use Rattle.std.proofs.Common.{◌≡◌, false, ◌∙◌, sym, ap, subst}
use Rattle.std.specs.Prelude.{slice_index_or}
use Rattle.std.specs.Str.{bytes_eq}
use Rattle.std.proofs.lemmas.List.{take_all}
use Rattle.std.proofs.lemmas.List.Elements.{All-more}
use Rattle.sql_values.specs.declared.column.ColumnDef.{ColumnDef}
use Rattle.workspace.proofs.NamedColumns.{AreOthers, column_at, column_none}
use Rattle.workspace.proofs.named.column_of.Goals as goal

pub returns-then-eq-clause-number : goal.returns-then-eq-clause-number
returns-then-eq-clause-number c =
    let column = c.index-columns-number.result in
    let tested : bytes_eq c.args.name.now (slice_index_or c.args.columns.now c.loop-number.number column).name ≡ c.eq.result =
    sym (c.eq.ensures ∙ ap (λ name. bytes_eq name c.bytes-in-loop-number.result.now) c.bytes.ensures ∙ ap (bytes_eq c.args.name.now) c.bytes-in-loop-number.ensures) in
    sym (column_at c.args.name.now c.args.columns.now c.loop-number.number column c.loop-number-test.true c.loop-number.invariant (tested ∙ c.if-eq.true))

pub loop-number-preserved : goal.loop-number-preserved
loop-number-preserved c =
    let column = c.index-columns-number.result in
    let tested : bytes_eq c.args.name.now (slice_index_or c.args.columns.now c.loop-number.number column).name ≡ c.eq.result =
    sym (c.eq.ensures ∙ ap (λ name. bytes_eq name c.bytes-in-loop-number.result.now) c.bytes.ensures ∙ ap (bytes_eq c.args.name.now) c.bytes-in-loop-number.ensures) in
    All-more (λ (other : ColumnDef). bytes_eq c.args.name.now other.name ≡ false) c.args.columns.now c.loop-number.number column c.loop-number-test.true c.loop-number.invariant (tested ∙ c.if-eq.false)

pub returns-clause-number : goal.returns-clause-number
returns-clause-number c =
    sym (column_none c.args.name.now c.args.columns.now (subst (AreOthers c.args.name.now) (take_all c.loop-number.number c.args.columns.now c.loop-number-test.false) c.loop-number.invariant))
