use Rattle.std.proofs.Common.{◌≡◌, ◌++◌, ◌∷◌, [], ◌∙◌, ap, append-nil, subst, sym, arith}
use Rattle.std.proofs.lemmas.Grind.{flat_map-append}
use Rattle.std.proofs.lemmas.List.Elements.{All-get_or, all_zip_more}
use Rattle.result_text.specs.Placing.{HavePlaces, IsPlacedRow}
use Rattle.result_text.specs.Rows.{WordRow, words_of}
use Rattle.result_text.proofs.placed.placed_words.Goals as goal

pub push_placed-requires-clause-there : goal.push_placed-requires-clause-there
push_placed-requires-clause-there c =
    subst (HavePlaces c.args.placed.now c.args.kinds.now) (sym (c.words.ensures ∙ c.row-item.is))
    (All-get_or (HavePlaces c.args.placed.now c.args.kinds.now) c.args.rows.now c.loop-row.row-index c.row-item.result (omega arith) c.requires.there)

pub loop-row-preserved : goal.loop-row-preserved
loop-row-preserved c =
    let new = c.loop-row.invariant.0 in
    let told = c.in_ok-push_placed.ensures in
    let row = told.0 in
    let joined : words_of (new ++ row ∷ []) ≡ words_of new ++ row = flat_map-append (λ (r : WordRow). r) new (row ∷ []) ∙ ap (λ l. words_of new ++ l) (append-nil row) in
    let become = IsPlacedRow c.args.placed.now c.args.kinds.now in (
      new ++ row ∷ [],
      told.1 ∙ ap (λ words. words ++ row) c.loop-row.invariant.1 ∙ sym joined,
      all_zip_more become c.args.rows.now new c.loop-row.row-index c.row-item.result row (omega arith) c.row-item.is c.loop-row.invariant.2 (subst (λ r. become r row) c.words.ensures told.2),
    )
