use Rattle.std.proofs.Common.{◌∙◌, ◌++◌, ◌∷◌, [], ap, arith, map, refl}
use Rattle.result_text.specs.Combined.{words_at}
use Rattle.result_text.specs.Rows.{WordRow}
use Rattle.result_text.proofs.Combined.{first_left, one_more}
use Rattle.result_text.proofs.projection.projected_rows.Goals as goal

pub split_at-requires : goal.split_at-requires
split_at-requires c =
    (first_left c.args.places.now c.args.rows.now.rows c.loop.counter c.loop.left.now (omega arith) c.loop.invariant.0).0

pub loop-preserved : goal.loop-preserved
loop-preserved c =
    let part = words_at c.args.places.now in
    let told = first_left c.args.places.now c.args.rows.now.rows c.loop.counter c.loop.left.now (omega arith) c.loop.invariant.0 in (
      c.split_at.ensures.back ∙ told.2,
      one_more (map part) (λ row. part row ∷ []) (λ row rows. refl) c.args.rows.now.rows c.loop.counter [] c.loop.lent.items c.push.new.self.items _ (omega arith)
          (c.in_ok-push.ensures.items ∙ ap (λ (row : WordRow). c.loop.lent.items ++ row ∷ []) (c.new.ensures ∙ c.split_at.ensures.front ∙ told.1)) c.loop.invariant.1,
    )
