use Rattle.std.proofs.Common.{◌≡◌, ◌∙◌, [], None, All, ap, length, map, subst, sym}
use Rattle.sql_values.specs.Limits.{max_relations}
use Rattle.sql_values.specs.declared.limit.LimitName.TheVariants as limit
use Rattle.query_block.specs.Blocks.{BlockTree, IsBlock, block_tree, relation_tree}
use Rattle.sql_parse.specs.Trees.{query_tree}
use Rattle.db_catalog.specs.Fits.{Fits}
use Rattle.sql_bind.specs.Binding.{named_tables, conjuncts_in, from_fault, past_limit}
use Rattle.sql_bind.specs.Named.{IsNamed}
use Rattle.sql_bind.proofs.Blocks.{block-sound}
use Rattle.sql_bind.proofs.Parameters.{parameter_kinds-count}
use Rattle.sql_bind.proofs.Whole.{block-fits, one_filter_each, whole}
use Rattle.sql_bind.proofs.binding.bind.Goals as goal

pub relations_with-requires : goal.relations_with-requires
relations_with-requires c =
    one_filter_each (length c.in_ok-scope.scope) (conjuncts_in c.in_ok-scope.scope (query_tree c.args.query.now).condition) c.in_ok-asked.asked.parts c.in_ok-asked.ensures.asked.parts

pub new-requires : goal.new-requires
new-requires c =
    let database = c.args.database.now in
    let query = query_tree c.args.query.now in
    let named = c.in_ok-scope.ensures in
    let all = whole database query c.as_slice-from.result.now c.in_ok-scope.scope c.in_ok-asked.asked (map relation_tree c.in_ok-relations.relations.items)
    c.in_ok-projection.projection.items c.as_slice-from.ensures named.tables c.in_ok-asked.ensures.asked c.in_ok-relations.ensures
    c.in_ok-projection.ensures.places c.in_ok-check_limit.ensures named.refuses.answered c.in_ok-projection.ensures.refuses.answered
    c.in_ok-asked.ensures.refuses.answered in
    let tables : All IsNamed (named_tables database query.from) = subst (All IsNamed) (named.tables ∙ ap (named_tables database) c.as_slice-from.ensures) named.named in
    subst IsBlock (sym all.0) (block-sound database query c.requires.well_formed tables all.1)

pub returns : goal.returns
returns c =
    let database = c.args.database.now in
    let query = query_tree c.args.query.now in
    let named = c.in_ok-scope.ensures in
    let all = whole database query c.as_slice-from.result.now c.in_ok-scope.scope c.in_ok-asked.asked (map relation_tree c.in_ok-relations.relations.items)
    c.in_ok-projection.projection.items c.as_slice-from.ensures named.tables c.in_ok-asked.ensures.asked c.in_ok-relations.ensures
    c.in_ok-projection.ensures.places c.in_ok-check_limit.ensures named.refuses.answered c.in_ok-projection.ensures.refuses.answered
    c.in_ok-asked.ensures.refuses.answered in
    let same = ap block_tree c.new.ensures ∙ all.0 in
    let none : from_fault database [] query.from ≡ None = ap (from_fault database []) (sym c.as_slice-from.ensures) ∙ named.refuses.answered in
    record {
      block = same;
      fits = subst (Fits database) (sym same) (block-fits database query none);
      parameters = ap (λ (block : BlockTree). length block.parameters) same ∙ parameter_kinds-count (named_tables database query.from) query.condition;
      refuses = record { answered = all.1; refused = tt };
      counted = rw (ap (λ some. past_limit limit.Relations max_relations (length some)) (sym c.as_slice-from.ensures) ∙ c.in_ok-check_limit.ensures) tt;
    }
