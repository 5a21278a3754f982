-- One column more has room, and its words are as they were.
use Rattle.std.proofs.Common.{◌≡◌, ℕ, ◌<◌, pos, length, get_or, ap, ◌∙◌, arith}
use Rattle.std.proofs.lemmas.List.{get_or_default, length-set}
use Rattle.std.proofs.lemmas.List.Elements.{All-weaker}
use Rattle.narrow_columns.specs.Kept.{ColumnState, IsTaken}
use Rattle.narrow_columns.specs.Codes.{IsWithin}
use Rattle.narrow_columns.specs.Rows.{words_of_column}
use Rattle.narrow_columns.specs.declared.extent.Extent.{Extent}
use Rattle.heap_pages.specs.Columns.{HasRoomFor}
use Rattle.heap_pages.proofs.ColumnWords.{each-set, length-words_of_column}
use Rattle.heap_pages.proofs.columns.make_room_in.Goals as goal

module _ (c : goal.In_ok-make_room) where
  abbrev number : ℕ
  number = c.loop-number.number

  there : number < length c.loop-number.columns.items
  there = omega (arith, c.loop-number-test.true, c.loop-number.invariant.count, c.len-number-end.ensures, c.args.columns.now.ok.0)

  abbrev none : Extent
  none = record { least = pos 0; greatest = pos 0 }

  abbrev extent : Extent
  extent = get_or c.extents_of-extents.result number none

  words_same : (d : ColumnState) → c.make_room.new.self.words ≡ (get_or c.args.columns.now.items number d).words
  words_same d =
      let is : c.index_mut.result.now ≡ get_or c.loop-number.columns.items number d =
      c.index_mut.ensures.value ∙ get_or_default c.loop-number.columns.items number c.index_mut.result.now d there in
      c.in_ok-make_room.ensures.words ∙ ap (λ (column : ColumnState). column.words) is ∙ c.loop-number.invariant.words number d there

  room : HasRoomFor (words_of_column c.args.growth.width number c.args.growth.more c.args.words.now) c.make_room.new.self
  room = record {
    room = omega (arith, c.in_ok-make_room.ensures.room, length-words_of_column c.args.growth.width number c.args.growth.more c.args.words.now);
    taken = All-weaker (IsWithin extent.least extent.greatest) (IsTaken c.make_room.new.self) (λ word. c.in_ok-make_room.ensures.taken word)
        (words_of_column c.args.growth.width number c.args.growth.more c.args.words.now) (c.extents_of-extents.ensures number none (omega (arith, there, c.loop-number.invariant.count, c.requires.few, c.args.columns.now.ok.0)));
  }

pub loop-number-preserved : goal.loop-number-preserved
loop-number-preserved c =
    record {
      count = length-set c.loop-number.columns.items (number c) c.make_room.new.self ∙ c.loop-number.invariant.count;
      words = λ k d below. each-set (λ j column. column.words ≡ (get_or c.args.columns.now.items j d).words) c.loop-number.columns.items (number c) c.make_room.new.self k d (there c)
          (words_same c d) (λ other. c.loop-number.invariant.words k d (omega (arith, below, length-set c.loop-number.columns.items (number c) c.make_room.new.self)));
      room = λ k d below. each-set (λ j column. HasRoomFor (words_of_column c.args.growth.width j c.args.growth.more c.args.words.now) column) c.loop-number.columns.items (number c) c.make_room.new.self k d (there c)
          (room c) (λ other. c.loop-number.invariant.room k d (omega (arith, below, other)));
    }
