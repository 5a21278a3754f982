-- One name more is that of the next column.
use Rattle.std.proofs.Common.{◌≡◌, ◌∙◌, ℕ, ◌+◌, ◌++◌, List, [], ◌∷◌, drop, get_or, map, sym, ap, add-one, append_assoc}
use Rattle.std.proofs.Math.Seq.{drop-cons}
use Rattle.query_block.specs.Blocks.{block_tree, relation_tree}
use Rattle.query_block.specs.declared.edge.ColumnAt.{ColumnAt}
use Rattle.workspace.specs.Printed.{column_name}
use Rattle.workspace.proofs.columns.header_of.Goals as goal

pub loop-at-preserved : goal.loop-at-preserved
loop-at-preserved c =
    let database = c.args.database.now in
    let projection : List ColumnAt = c.projection-projection.result.now in
    let place : ℕ = c.loop-at.at-index in
    let at : ColumnAt = get_or projection place (record { relation = 0; column = 0 }) in
    let name : ColumnAt → List ℕ = column_name database (block_tree c.args.block.now).relations in
    let rest : List (List ℕ) = map name (drop (place + 1) projection) in
    let before : List (List ℕ) = c.loop-at.names.items in
    let named : c.in_ok-column_name.field-0 ≡ name at =
    c.in_ok-column_name.ensures ∙ ap (λ relations. column_name database (map relation_tree relations) at) c.relations-relations.ensures.relations in
    let next : drop place projection ≡ at ∷ drop (place + 1) projection = rw add-one (drop-cons projection place (record { relation = 0; column = 0 }) c.loop-at-test.true) in
    ap (λ l. l ++ rest) c.in_ok-push.ensures.items ∙ append_assoc before (c.in_ok-column_name.field-0 ∷ []) rest
    ∙ (λ i. before ++ (named i ∷ rest)) ∙ sym (ap (λ l. before ++ map name l) next) ∙ c.loop-at.invariant
