-- The words of a block more.
use Rattle.std.proofs.Common.{append_assoc, ◌≡◌, ℕ, ◌<◌, ◌≤◌, ◌-◌, ◌+◌, ◌*◌, ◌++◌, length, drop, take, get_or, sym, ap, subst, ◌∙◌, arith}
use Rattle.std.proofs.Math.Nat.{mul-le-mul_right}
use Rattle.std.proofs.lemmas.List.{drop-drop, length-drop, take_rest}
use Rattle.narrow_columns.specs.Kept.{ColumnState}
use Rattle.narrow_columns.specs.Rows.{words_of_column}
use Rattle.heap_pages.specs.Columns.{HasRoomFor, HaveRoomFor, with_words}
use Rattle.heap_pages.proofs.ColumnWords.{words_of_column-append, words_of_column-split, room-front, room-rest}
use Rattle.heap_pages.proofs.columns.push_in.Goals as goal

module _ (c : goal.After-push_block-arg-1) where
  abbrev begin : ℕ
  begin = c.loop-done.done * c.args.growth.width

  rest : take (length c.args.words.now - begin) (drop begin c.args.words.now) ≡ drop begin c.args.words.now
  rest = take_rest c.args.words.now begin

  -- what is left is this block and what is left behind it
  parts : c.args.growth.more - c.loop-done.done ≡ c.min-count.result + (c.args.growth.more - (c.loop-done.done + c.min-count.result))
  parts = omega (arith, c.min-count.ensures, c.loop-done-test.true)

  room : HaveRoomFor c.args.growth.width (c.min-count.result + (c.args.growth.more - (c.loop-done.done + c.min-count.result))) (drop begin c.args.words.now) c.loop-done.columns.items
  room = subst (λ n. HaveRoomFor c.args.growth.width n (drop begin c.args.words.now) c.loop-done.columns.items) parts c.loop-done.invariant.room

pub push_block-requires-clause-there : goal.push_block-requires-clause-there
push_block-requires-clause-there c =
    let upto : (c.loop-done.done + c.min-count.result) * c.args.growth.width ≤ c.args.growth.more * c.args.growth.width =
    mul-le-mul_right c.args.growth.width (omega (arith, c.min-count.ensures, c.loop-done-test.true)) in
    rw (rest c) (omega (arith, upto, c.requires.there, length-drop (begin c) c.args.words.now))

pub push_block-requires-clause-room : goal.push_block-requires-clause-room
push_block-requires-clause-room c =
    subst (λ ws. HaveRoomFor c.args.growth.width c.min-count.result ws c.loop-done.columns.items) (sym (rest c))
    (λ number d below. room-front c.args.growth.width number c.min-count.result (c.args.growth.more - (c.loop-done.done + c.min-count.result)) (drop (begin c) c.args.words.now) (get_or c.loop-done.columns.items number d) (room c number d below))

pub loop-done-preserved : goal.loop-done-preserved
loop-done-preserved c =
    let width = c.args.growth.width in
    let done = c.loop-done.done in
    let count = c.min-count.result in
    let left = c.args.growth.more - (done + count) in
    let words = c.args.words.now in
    let old = c.loop-done.columns.items in
    let new = c.push_block.new.columns.items in
    let same_count : length new ≡ length old = omega (arith, c.push_block.ensures.count, c.push_block.new.columns.ok.0, c.loop-done.columns.ok.0) in
    let is = λ (number : ℕ) (d : ColumnState) (below : number < length new).
    c.push_block.ensures.pushed number d (omega (arith, below, same_count, c.loop-done.columns.ok.0))
    ∙ ap (λ ws. with_words (words_of_column width number count ws) (get_or old number d)) (rest c.before) in
    record {
      fits = omega (arith, c.min-count.ensures, c.loop-done-test.true);
      count = same_count ∙ c.loop-done.invariant.count;
      words = λ number d below.
          let front = (get_or c.args.columns.now.items number d).words in
          ap (λ (column : ColumnState). column.words) (is number d below)
          ∙ ap (λ ws. ws ++ words_of_column width number count (drop (done * width) words)) (c.loop-done.invariant.words number d (omega (arith, below, same_count)))
          ∙ append_assoc front (words_of_column width number done words) (words_of_column width number count (drop (done * width) words))
          ∙ ap (λ ws. front ++ ws) (sym (words_of_column-split width number done count words));
      room = λ number d below.
          let place : done * width + count * width ≡ (done + count) * width = grind arith in
          let behind : drop (count * width) (drop (done * width) words) ≡ drop ((done + count) * width) words = drop-drop (count * width) (done * width) words ∙ ap (λ k. drop k words) place in
          subst (HasRoomFor (words_of_column width number left (drop ((done + count) * width) words))) (sym (is number d below))
          (subst (λ ws. HasRoomFor (words_of_column width number left ws) (with_words (words_of_column width number count (drop (done * width) words)) (get_or old number d))) behind
          (room-rest width number count left (drop (done * width) words) (get_or old number d) (room c.before number d (omega (arith, below, same_count)))));
    }

pub returns : goal.returns
returns c = λ rows are filled.
    let all : c.loop-done.done ≡ c.args.growth.more = omega (arith, c.loop-done-test.false, c.loop-done.invariant.fits) in
    record {
      few = omega (arith, are.few, c.loop-done.invariant.count);
      each = λ number d below.
          let here : number < length c.args.columns.now.items = omega (arith, below, c.loop-done.invariant.count) in
          c.loop-done.invariant.words number d below
          ∙ ap (λ n. (get_or c.args.columns.now.items number d).words ++ words_of_column c.args.growth.width number n c.args.words.now) all
          ∙ ap (λ ws. ws ++ words_of_column c.args.growth.width number c.args.growth.more c.args.words.now) (are.each number d here)
          ∙ sym (words_of_column-append c.args.growth.width number c.args.growth.before c.args.growth.more rows c.args.words.now (omega (arith, here, are.few)) filled);
    }
