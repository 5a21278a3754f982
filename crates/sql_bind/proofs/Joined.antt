-- The relations of groups of columns together, in whatever way they are grouped.
use Rattle.std.proofs.Common.{◌≡◌, ℕ, ◌+◌, ◌<◌, List, length, map, drop, get_or, refl, arith}
use Rattle.std.proofs.lemmas.Grind.{common_steps}
use Rattle.std.proofs.lemmas.List.{at_drop_more}
use Rattle.sql_parse.specs.declared.tree.Cond.{Cond}
use Rattle.sql_parse.specs.Trees.{condition_tree, operands}
use Rattle.sql_bind.specs.declared.reach.Reach.{Reach}
use Rattle.sql_bind.specs.declared.reach.Reach.TheVariants.{Nothing, One, Several}
use Rattle.sql_bind.specs.Named.{NamedTable}
use Rattle.sql_bind.specs.Conjuncts.{joined_reach, reach_of, reach_of_all}

pub joined-nothing : (a : Reach) → joined_reach a Nothing ≡ a
joined-nothing Nothing = refl
joined-nothing (One r) = refl
joined-nothing Several = refl

three : (r s t : ℕ) → joined_reach (joined_reach (One r) (One s)) (One t) ≡ joined_reach (One r) (joined_reach (One s) (One t))
three r s t = grind arith

pub joined-assoc : (a b c : Reach) → joined_reach (joined_reach a b) c ≡ joined_reach a (joined_reach b c)
joined-assoc Nothing b c = refl
joined-assoc Several b c = refl
joined-assoc (One r) Nothing c = refl
joined-assoc (One r) Several c = refl
joined-assoc (One r) (One s) Nothing = joined-nothing (joined_reach (One r) (One s))
joined-assoc (One r) (One s) (One t) = three r s t
joined-assoc (One r) (One s) Several = grind arith

pub parts-next : (tables : List NamedTable) (parts : List Cond) (i : ℕ) (part : Cond) (before : Reach) → i < length parts → part ≡ get_or parts i part
    → joined_reach before (reach_of_all tables (operands (map condition_tree (drop i parts))))
    ≡ joined_reach (joined_reach before (reach_of tables (condition_tree part))) (reach_of_all tables (operands (map condition_tree (drop (i + 1) parts))))
parts-next tables parts i part before below is = grind (arith, common_steps, at_drop_more, joined-assoc)
