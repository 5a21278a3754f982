use Rattle.std.proofs.Common.{◌∙◌, map, sym, ap, arith}
use Rattle.db_catalog.proofs.database.Database.fits_table.Goals as goal

pub returns-then-hold_kinds : goal.returns-then-hold_kinds
returns-then-hold_kinds c = (
  λ indexed. record {
    there = omega (arith, c.if-relation-tables.false, c.tables.ensures.count);
    columns =
        sym c.as_slice.ensures ∙ c.hold_kinds.ensures.0 c.if-hold_kinds.true
        ∙ ap (map (λ column. column.kind)) c.columns.ensures.columns;
    indexes = rw (sym c.indexes.ensures.indexed, sym c.as_slice-then-hold_kinds.ensures) (c.are_indexed.ensures.0 indexed);
  },
  λ fits. c.are_indexed.ensures.1 (rw (c.indexes.ensures.indexed, c.as_slice-then-hold_kinds.ensures) fits.indexes),
)
