use Rattle.std.proofs.Common.{All, ◌≡◌, ◌∙◌, ℕ, List, IfOk, ap, map, subst, sym}
use Rattle.std.specs.List.{range_with_len}
use Rattle.sql_values.specs.declared.column.ColumnType.{ColumnType}
use Rattle.sql_values.specs.Stored.{ValueRow, values_of, AreWordsOf}
use Rattle.query_block.specs.Blocks.{BlockTree, IsBlock, block_tree, kind_of}
use Rattle.query_block.specs.Combined.{AreCombinedWords, word_place}
use Rattle.result_text.specs.Combined.{printed_rows, words_at}
use Rattle.result_text.specs.Printed.{table_text}
use Rattle.result_text.specs.Rows.{WordRow}
use Rattle.query_block.proofs.Combined.{places-inside}
use Rattle.result_text.proofs.Combined.{rows-allowed, rows-mean, rows-whole}
use Rattle.result_text.proofs.projection.print_rows.Goals as goal

abbrev places_of : BlockTree → List ℕ
places_of block = map (word_place block) block.projection

-- the projected rows are allowed, and have the values that the block asks for
projection-means : (texts : List (List ℕ)) (block : BlockTree) → IsBlock block → (rows : List WordRow) → All (AreCombinedWords texts block.relations) rows
    → (kinds : List ColumnType) (lent : List WordRow) → kinds ≡ map (kind_of block.relations) block.projection → lent ≡ map (words_at (places_of block)) rows
    → All (AreWordsOf texts kinds) lent × (map (values_of texts kinds) lent ≡ printed_rows texts block rows)
projection-means texts block is rows are kinds lent held those = rw (held, those) (rows-allowed texts block is rows are, rows-mean texts block is rows are)

pub table_text-requires-clause-words : goal.table_text-requires-clause-words
table_text-requires-clause-words c =
    let block = block_tree c.args.block.now in
    let rows = c.args.rows.now in
    let all : places_of block ≡ range_with_len 0 rows.width =
    sym (c.deref.ensures.value ∙ c.in_ok-places.ensures) ∙ c.are_in_place.ensures.0 c.if-are_in_place.true ∙ ap (range_with_len 0) (c.width.ensures.width ∙ sym c.requires.wide) in
    (projection-means c.args.texts.now block c.projected_kinds.ensures.block rows.rows c.requires.words c.deref-then-are_in_place.result.now c.deref-then-are_in_place-2.result.now
    (c.deref-then-are_in_place.ensures.value ∙ c.in_ok-kinds.ensures.kinds)
    (c.deref-then-are_in_place-2.ensures.value ∙ c.in_ok-lent.ensures.rows ∙ sym (rows-whole (places_of block) rows.width rows.rows all c.in_ok-lent.ensures.wide))).0

pub returns-then-are_in_place : goal.returns-then-are_in_place
returns-then-are_in_place c =
    let block = block_tree c.args.block.now in
    let rows = c.args.rows.now in
    let all : places_of block ≡ range_with_len 0 rows.width =
    sym (c.deref.ensures.value ∙ c.in_ok-places.ensures) ∙ c.are_in_place.ensures.0 c.if-are_in_place.true ∙ ap (range_with_len 0) (c.width.ensures.width ∙ sym c.requires.wide) in
    let told = projection-means c.args.texts.now block c.projected_kinds.ensures.block rows.rows c.requires.words c.deref-then-are_in_place.result.now c.deref-then-are_in_place-2.result.now
    (c.deref-then-are_in_place.ensures.value ∙ c.in_ok-kinds.ensures.kinds)
    (c.deref-then-are_in_place-2.ensures.value ∙ c.in_ok-lent.ensures.rows ∙ sym (rows-whole (places_of block) rows.width rows.rows all c.in_ok-lent.ensures.wide)) in
    subst (λ (values : List ValueRow). IfOk c.table_text.result (λ text. text.items ≡ table_text c.args.names.now values)) told.1 c.table_text.ensures

pub projected_words-requires : goal.projected_words-requires
projected_words-requires c =
    rw (c.deref-2.ensures.value, c.in_ok-places.ensures, c.requires.wide) (places-inside (block_tree c.args.block.now) c.projected_kinds.ensures.block)

pub table_text-requires-2-clause-words : goal.table_text-requires-2-clause-words
table_text-requires-2-clause-words c =
    let block = block_tree c.args.block.now in
    let rows = c.args.rows.now.rows in
    (projection-means c.args.texts.now block c.projected_kinds.ensures.block rows c.requires.words c.deref-5.result.now c.deref-6.result.now
    (c.deref-5.ensures.value ∙ c.in_ok-kinds.ensures.kinds)
    (c.deref-6.ensures.value ∙ c.in_ok-lent-2.ensures ∙ ap (λ (places : List ℕ). map (words_at places) rows) (c.deref-3.ensures.value ∙ c.in_ok-places.ensures))).0

pub returns : goal.returns
returns c =
    let block = block_tree c.args.block.now in
    let rows = c.args.rows.now.rows in
    let told = projection-means c.args.texts.now block c.projected_kinds.ensures.block rows c.requires.words c.deref-5.result.now c.deref-6.result.now
    (c.deref-5.ensures.value ∙ c.in_ok-kinds.ensures.kinds)
    (c.deref-6.ensures.value ∙ c.in_ok-lent-2.ensures ∙ ap (λ (places : List ℕ). map (words_at places) rows) (c.deref-3.ensures.value ∙ c.in_ok-places.ensures)) in
    subst (λ (values : List ValueRow). IfOk c.table_text-2.result (λ text. text.items ≡ table_text c.args.names.now values)) told.1 c.table_text-2.ensures
