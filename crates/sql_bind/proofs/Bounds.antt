-- Conjuncts that are bound, one after another.
use Rattle.std.proofs.Common.{◌≡◌, ℕ, ◌+◌, ◌<◌, List, [], ◌∷◌, ◌++◌, length, take, get_or, arith, append-nil, append_assoc, length-append}
use Rattle.std.proofs.lemmas.Grind.{common_steps}
use Rattle.std.proofs.lemmas.List.{length-map, map-append, take_more}
use Rattle.sql_parse.specs.declared.tree.Cond.{Cond}
use Rattle.sql_parse.specs.Trees.{ConditionTree, condition_tree}
use Rattle.sql_bind.specs.declared.bound.Bound.{Bound}
use Rattle.sql_bind.specs.Named.{NamedTable}
use Rattle.sql_bind.specs.Conjuncts.{conjuncts, all_conjuncts}
use Rattle.sql_bind.specs.Collected.{AddsBound}

conjuncts-push : (parts : List Cond) (part : Cond) → all_conjuncts (parts ++ part ∷ []) ≡ all_conjuncts parts ++ conjuncts (condition_tree part)
conjuncts-push [] part = append-nil (conjuncts (condition_tree part))
conjuncts-push (first ∷ parts) part = grind (arith, common_steps, append_assoc, conjuncts-push parts part)

adds-both : (tables : List NamedTable) (one other : List ConditionTree) (old middle new : List Bound) → AddsBound tables one old middle → AddsBound tables other middle new
    → AddsBound tables (one ++ other) old new
adds-both tables one other old middle new first second = grind (arith, common_steps, append_assoc, map-append)

-- those of the parts of a chain up to a place, with one part more
pub adds-next : (tables : List NamedTable) (parts : List Cond) (i : ℕ) (part : Cond) (old middle new : List Bound) → i < length parts → part ≡ get_or parts i part
    → AddsBound tables (all_conjuncts (take i parts)) old middle → AddsBound tables (conjuncts (condition_tree part)) middle new
    → AddsBound tables (all_conjuncts (take (i + 1) parts)) old new
adds-next tables parts i part old middle new below is first second =
    grind (arith, common_steps, take_more, conjuncts-push, adds-both)

-- so many more are bound
pub adds-count : (tables : List NamedTable) (conditions : List ConditionTree) (old new : List Bound) → AddsBound tables conditions old new → length new ≡ length old + length conditions
adds-count tables conditions old new adds = grind (arith, common_steps, length-map, length-append)
