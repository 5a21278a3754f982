-- The operands of a chain, bound.
use Rattle.std.proofs.Common.{◌≡◌, List, [], ◌∷◌, map, refl, ap}
use Rattle.query_block.specs.Conditions.{FilterTree, More, chain}
use Rattle.sql_parse.specs.declared.tree.Cond.{Cond}
use Rattle.sql_parse.specs.Trees.{condition_tree, operands}
use Rattle.sql_bind.specs.Named.{NamedTable}
use Rattle.sql_bind.specs.Conjuncts.{bound_condition, bound_conditions}

abbrev pub bound_list : List NamedTable → List Cond → List FilterTree
bound_list tables parts = map (λ part. bound_condition tables (condition_tree part)) parts

pub bound-chain : (tables : List NamedTable) (parts : List Cond)
    → chain (bound_list tables parts) ≡ bound_conditions tables (operands (map condition_tree parts))
bound-chain tables [] = refl
bound-chain tables (part ∷ parts) = ap (More (bound_condition tables (condition_tree part))) (bound-chain tables parts)
