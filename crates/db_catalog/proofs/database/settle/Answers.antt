use Rattle.std.proofs.Common.{◌≡◌, ◌∙◌, [], sym, ap, subst, length, take, map, refl, arith, Err}
use Rattle.std.proofs.lemmas.List.{nil_from_length}
use Rattle.heap_pages.specs.Rows.{cut_rows}
use Rattle.sql_values.specs.Dictionary.{with_texts, Begins}
use Rattle.sql_values.proofs.Dictionary.{Begins-with_texts, Begins_itself, take-Begins, length-Begins}
use Rattle.db_catalog.specs.Refused.{texts_fault}
use Rattle.db_catalog.specs.Recoded.{recoded_row}
use Rattle.db_catalog.specs.Kept.{SameRows}
use Rattle.db_catalog.proofs.Refusals.{handed_on, exact_refuses}
use Rattle.db_catalog.proofs.BatchParts.{map-row_of-Begins, MeanRows-Begins}
use Rattle.db_catalog.proofs.Recoding.{rows_recoded}
use Rattle.db_catalog.proofs.Appended.{with_texts-distinct}
use Rattle.db_catalog.proofs.database.settle.Goals as goal
use Rattle.db_catalog.proofs.database.settle.Goals.{then-added-gt0, else-added-gt0}

pub returns-in_err-check_texts-clause-refuses : goal.returns-in_err-check_texts-clause-refuses
returns-in_err-check_texts-clause-refuses c =
    let none : c.args.texts.now ≡ [] = nil_from_length c.args.texts.now (omega (arith, c.len-before.ensures.count, c.if-before-eq0.true)) in
    let same : with_texts c.args.texts.now c.args.more ≡ c.args.more = ap (λ t. with_texts t c.args.more) none ∙ with_texts-distinct c.args.more c.len-added.ensures.distinct in
    handed_on (texts_fault (with_texts c.args.texts.now c.args.more)) c.from_residual.result c.in_err-check_texts.field-0.0 c.from_residual.ensures.1
    (exact_refuses {T = Unit {0}} _ (Err c.in_err-check_texts.field-0.0) (ap texts_fault same ∙ c.in_err-check_texts.ensures))

pub returns-then-before-eq0-clause-texts : goal.returns-then-before-eq0-clause-texts
returns-then-before-eq0-clause-texts c =
    let none : c.args.texts.now ≡ [] = nil_from_length c.args.texts.now (omega (arith, c.len-before.ensures.count, c.if-before-eq0.true)) in
    sym (ap (λ t. with_texts t c.args.more) none ∙ with_texts-distinct c.args.more c.len-added.ensures.distinct)

pub returns-then-before-eq0-clause-refuses : goal.returns-then-before-eq0-clause-refuses
returns-then-before-eq0-clause-refuses c =
    let none : c.args.texts.now ≡ [] = nil_from_length c.args.texts.now (omega (arith, c.len-before.ensures.count, c.if-before-eq0.true)) in
    let same : with_texts c.args.texts.now c.args.more ≡ c.args.more = ap (λ t. with_texts t c.args.more) none ∙ with_texts-distinct c.args.more c.len-added.ensures.distinct in
    record { answered = ap texts_fault same ∙ c.in_ok-check_texts.ensures; refused = tt }

pub cut-requires : goal.cut-requires
cut-requires c =
    let begins : Begins c.args.texts.now c.merge.new.self = subst (Begins c.args.texts.now) (sym c.in_ok-codes.ensures.texts) (Begins-with_texts _ _ c.args.more (Begins_itself _)) in
    omega (arith, c.len-before.ensures.count, length-Begins c.args.texts.now c.merge.new.self begins)

pub returns-in-Err-clause-unchanged : goal.returns-in-Err-clause-unchanged
returns-in-Err-clause-unchanged c =
    let begins : Begins c.args.texts.now c.merge.new.self = subst (Begins c.args.texts.now) (sym c.in_ok-codes.ensures.texts) (Begins-with_texts _ _ c.args.more (Begins_itself _)) in
    c.cut.ensures ∙ ap (λ n. take n c.merge.new.self) c.len-before.ensures.count ∙ take-Begins c.args.texts.now c.merge.new.self begins

pub returns-clause-words : goal.returns-clause-words
returns-clause-words c =
    let width = length c.args.columns.now in
    let rows = cut_rows width c.args.rows c.args.words.now in
    elim c.if-added-gt0.branch [
      | then-added-gt0 w ↦
          let now : cut_rows width c.args.rows c.if-added-gt0.words ≡ map (recoded_row c.in_ok-codes.codes.items c.args.columns.now) rows =
          ap (cut_rows width c.args.rows) w.words-is ∙ w.recode.ensures ∙ ap (λ cs. map (recoded_row cs c.args.columns.now) rows) w.deref.ensures.value in
          subst (SameRows c.args.columns.now c.args.more c.merge.new.self rows) (sym now)
          (rows_recoded c.args.more c.merge.new.self c.in_ok-codes.codes.items c.in_ok-codes.ensures.codes c.args.columns.now rows c.requires.mean)
      | else-added-gt0 w ↦
          let none : c.args.more ≡ [] = nil_from_length c.args.more (omega (arith, c.len-added.ensures.count, w.if-added-gt0.false)) in
          let begins : Begins c.args.more c.merge.new.self = subst (λ m. Begins m c.merge.new.self) (sym none) (c.merge.new.self, refl) in
          subst (λ ws. SameRows c.args.columns.now c.args.more c.merge.new.self rows (cut_rows width c.args.rows ws)) (sym w.words-is)
          (record { mean = MeanRows-Begins c.args.more c.merge.new.self c.args.columns.now rows begins c.requires.mean; same = map-row_of-Begins c.args.more c.merge.new.self c.args.columns.now rows begins c.requires.mean.allowed })
    ]
