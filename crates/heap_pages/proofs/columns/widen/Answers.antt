-- One extent more reaches to its words.
use Rattle.std.proofs.Common.{◌≡◌, ℕ, ◌<◌, ◌≤ℤ◌, All, pos, length, get_or, subst, ◌∙◌, arith}
use Rattle.std.proofs.lemmas.List.{get_or_default, get_or-set_other, length-set}
use Rattle.narrow_columns.specs.Codes.{IsWithin}
use Rattle.narrow_columns.specs.Rows.{words_of_column}
use Rattle.narrow_columns.specs.declared.extent.Extent.{Extent}
use Rattle.heap_pages.specs.Columns.{IsWiderThan}
use Rattle.heap_pages.proofs.ColumnWords.{each-set}
use Rattle.heap_pages.proofs.columns.widen.Goals as goal

module _ (c : goal.After-extent_of) where
  abbrev place : ℕ
  place = c.loop-place.place

  there : place < length c.loop-place.extents
  there = omega (arith, c.told-extents, c.loop-place.invariant.long, c.loop-place-test.true, c.requires.few)

  wider : (d : Extent) → IsWiderThan (get_or c.args.extents.now place d) c.extent_of.result
  wider d =
      let none : Extent = record { least = pos 0; greatest = pos 0 } in
      let same : get_or c.loop-place.extents place none ≡ get_or c.args.extents.now place d =
      get_or_default c.loop-place.extents place none d there ∙ c.loop-place.invariant.left place d (omega arith) in
      record {
        below = subst (λ (other : Extent). c.extent_of.result.least ≤ℤ other.least) same c.extent_of.ensures.wider.0;
        above = subst (λ (other : Extent). other.greatest ≤ℤ c.extent_of.result.greatest) same c.extent_of.ensures.wider.1;
      }

pub loop-place-preserved : goal.loop-place-preserved
loop-place-preserved c =
    let at = place c in
    let extents = c.loop-place.extents in
    let new = c.extent_of.result in
    record {
      long = length-set extents at new ∙ c.loop-place.invariant.long;
      within = λ k d below.
          each-set (λ j (extent : Extent). All (IsWithin extent.least extent.greatest) (words_of_column c.args.width j c.args.count c.args.rows.now)) extents at new k d (there c)
          c.extent_of.ensures.within (λ other. c.loop-place.invariant.within k d (omega (arith, below, other)));
      wider = λ k d below.
          each-set (λ j (extent : Extent). IsWiderThan (get_or c.args.extents.now j d) extent) extents at new k d (there c)
          (wider c d) (λ other. c.loop-place.invariant.wider k d (omega (arith, below, other)));
      left = λ k d above. get_or-set_other extents at k new d (omega (arith, above)) ∙ c.loop-place.invariant.left k d (omega (arith, above));
    }
