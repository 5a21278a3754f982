use Rattle.std.proofs.Common.{◌&&◌, refl, sym, ap, ◌∙◌}
use Rattle.query_block.specs.Conditions.{filter_tree}
use Rattle.row_filter.specs.RowFilters.{FilterRanges}
use Rattle.row_filter.proofs.Told.{asked, left-out, put}
use Rattle.row_filter.proofs.filter.RowFilter.take_in.Goals as goal

pub returns-then-is_open : goal.returns-then-is_open
returns-then-is_open c = λ conditions is.
    left-out c.args.texts.now c.args.columns.now conditions (filter_tree c.args.condition.now) c.args.self.now is (sym c.is_open.ensures ∙ c.if-is_open.true)

pub returns-in-Some : goal.returns-in-Some
returns-in-Some c = λ conditions is.
    put c.args.texts.now c.args.columns.now conditions (filter_tree c.args.condition.now) c.args.self.now is _ c.put.new.self c.in-Some.union (sym c.is_open.ensures ∙ c.if-is_open.false)
    (ap (λ (f : FilterRanges). f.unions) c.self.view_is) (λ k. (c.self.view_is k).exact && c.is_exact.ensures k) c.put.ensures c.in-Some.ensures

pub returns-in-None : goal.returns-in-None
returns-in-None c = λ conditions is.
    asked c.args.texts.now c.args.columns.now conditions (filter_tree c.args.condition.now) c.args.self.now is _ (sym c.is_open.ensures ∙ c.if-is_open.false)
    (ap (λ (f : FilterRanges). f.unions) c.self-in-None.view_is) refl
