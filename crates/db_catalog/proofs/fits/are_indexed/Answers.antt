use Rattle.std.proofs.Common.{Contains, refl, sym}
use Rattle.std.proofs.lemmas.List.{take_all}
use Rattle.std.proofs.lemmas.List.Elements.{All-more, All-same}
use Rattle.db_catalog.proofs.fits.are_indexed.Goals as goal

pub loop-column-preserved : goal.loop-column-preserved
loop-column-preserved c =
    All-more (λ column. Contains c.args.indexed.now column) c.args.columns.now c.loop-column.column-index 0 c.loop-column-test.true
    c.loop-column.invariant (c.is_indexed.ensures.0 c.if-not-is_indexed.false)

pub returns : goal.returns
returns c = (
  λ _. All-same (λ column. Contains c.args.indexed.now column) _ _
      (sym (take_all c.loop-column.column-index c.args.columns.now c.loop-column-test.false)) c.loop-column.invariant,
  λ _. refl,
)
