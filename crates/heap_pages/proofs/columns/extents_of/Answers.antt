-- The rows of a block more.
use Rattle.std.proofs.Common.{◌≡◌, ◌*◌, get_or, subst, arith}
use Rattle.std.proofs.lemmas.List.{take_rest}
use Rattle.heap_pages.specs.Columns.{AreExtents}
use Rattle.heap_pages.proofs.ColumnWords.{extent-more}
use Rattle.heap_pages.proofs.columns.extents_of.Goals as goal

pub loop-done-preserved : goal.loop-done-preserved
loop-done-preserved c =
    let rest = take_rest c.args.words.now (c.loop-done.done * c.args.growth.width) in
    let within = subst (λ ws. AreExtents c.args.growth.width c.min-count.result ws c.widen.new.extents) rest c.widen.ensures.within in
    record {
      fits = omega (arith, c.min-count.ensures, c.loop-done-test.true);
      extents = λ number d below.
          extent-more c.args.growth.width number c.loop-done.done c.min-count.result c.args.words.now (get_or c.loop-done.extents number d) (get_or c.widen.new.extents number d)
          (c.widen.ensures.wider number d below) (c.loop-done.invariant.extents number d below) (within number d below);
    }

pub returns : goal.returns
returns c =
    let all : c.loop-done.done ≡ c.args.growth.more = omega (arith, c.loop-done-test.false, c.loop-done.invariant.fits) in
    subst (λ n. AreExtents c.args.growth.width n c.args.words.now c.loop-done.extents) all c.loop-done.invariant.extents
