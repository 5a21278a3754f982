-- One column more has its words.
use Rattle.std.proofs.Common.{◌≡◌, ℕ, ◌<◌, ◌-◌, ◌++◌, length, get_or, sym, ap, subst, ◌∙◌, arith}
use Rattle.std.proofs.lemmas.List.{get_or_default, get_or-set_other, length-set}
use Rattle.narrow_columns.specs.Kept.{ColumnState}
use Rattle.narrow_columns.specs.Rows.{words_of_column}
use Rattle.heap_pages.specs.Columns.{HasRoomFor, with_words}
use Rattle.heap_pages.proofs.ColumnWords.{each-set, length-words_of_column}
use Rattle.heap_pages.proofs.columns.push_block.Goals as goal

module _ (c : goal.After-index_mut) where
  abbrev place : ℕ
  place = c.loop-place.place

  there : place < length c.loop-place.columns.items
  there = omega (arith, c.loop-place-test.true, c.loop-place.invariant.count, c.len-place-end.ensures, c.args.columns.now.ok.0)

  -- the column is still as it was
  is_old : (d : ColumnState) → c.index_mut.result.now ≡ get_or c.args.columns.now.items place d
  is_old d =
      c.index_mut.ensures.value ∙ get_or_default c.loop-place.columns.items place c.index_mut.result.now d there
      ∙ c.loop-place.invariant.left place d (omega arith)

  room : HasRoomFor (words_of_column c.args.width place c.args.count c.args.rows.now) c.index_mut.result.now
  room =
      subst (HasRoomFor (words_of_column c.args.width place c.args.count c.args.rows.now)) (sym (is_old c.index_mut.result.now))
      (c.requires.room place c.index_mut.result.now (omega (arith, there, c.loop-place.invariant.count)))

pub push-requires-clause-room : goal.push-requires-clause-room
push-requires-clause-room c = omega (arith, (room c).room, length-words_of_column c.args.width (place c) c.args.count c.args.rows.now)

pub push-requires-clause-taken : goal.push-requires-clause-taken
push-requires-clause-taken c = (room c).taken

pub loop-place-preserved : goal.loop-place-preserved
loop-place-preserved c =
    let items = c.loop-place.columns.items in
    let at = place c.before.before in
    let words = words_of_column c.args.width at c.args.count c.args.rows.now in
    record {
      count = length-set items at c.push.new.self ∙ c.loop-place.invariant.count;
      pushed = λ k d below.
          each-set (λ j column. column ≡ with_words (words_of_column c.args.width j c.args.count c.args.rows.now) (get_or c.args.columns.now.items j d)) items at c.push.new.self k d (there c.before.before)
          (
          c.push.ensures
          ∙ ap (λ n. record c.index_mut.result.now { words = c.index_mut.result.now.words ++ words; room = c.index_mut.result.now.room - n }) (sym (length-words_of_column c.args.width at c.args.count c.args.rows.now))
          ∙ ap (with_words words) (is_old c.before.before d)
          )
          (λ other. c.loop-place.invariant.pushed k d (omega (arith, below, other)));
      left = λ k d above. get_or-set_other items at k c.push.new.self d (omega (arith, above)) ∙ c.loop-place.invariant.left k d (omega (arith, above));
    }
