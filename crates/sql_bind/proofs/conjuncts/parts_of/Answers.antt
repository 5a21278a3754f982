use Rattle.std.proofs.Common.{◌∷◌, [], map, subst, sym}
use Rattle.std.proofs.lemmas.List.{map-append}
use Rattle.sql_bind.specs.Conjuncts.{bound_tree}
use Rattle.sql_bind.specs.Collected.{HasParts}
use Rattle.sql_bind.proofs.Collected.{has-more}
use Rattle.sql_bind.proofs.conjuncts.parts_of.Goals as goal

pub loop-conjunct-preserved : goal.loop-conjunct-preserved
loop-conjunct-preserved c =
    let parts = c.add_conjunct.new.parts in
    subst (λ conjuncts. HasParts c.args.relations conjuncts parts) (sym (map-append bound_tree c.loop-conjunct.yielded (c.in-Some.conjunct ∷ [])))
    (has-more c.args.relations (map bound_tree c.loop-conjunct.yielded) (bound_tree c.in-Some.conjunct ∷ []) c.loop-conjunct.parts parts
    c.loop-conjunct.invariant c.in_ok-add_conjunct.ensures)
