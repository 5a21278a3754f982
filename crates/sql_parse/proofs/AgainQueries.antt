-- Queries that are written by the grammar are read again.
use Rattle.std.proofs.Common.{◌≡◌, ℕ, List, [], ◌∷◌, ◌++◌, codes, Option, Some, None, refl, sym, ap, ◌∙◌, append_assoc, arith}
use Rattle.std.proofs.lemmas.Grind.{common_steps}
use Rattle.std.proofs.lemmas.List.{append-nil}
use Rattle.sql_parse.specs.declared.condition.Connective.TheVariants.{Or}
use Rattle.sql_parse.specs.declared.mark.Mark.TheVariants as m
use Rattle.sql_parse.specs.declared.tree.ColRef.{ColRef}
use Rattle.sql_parse.specs.Limits.{nesting_limit}
use Rattle.sql_parse.specs.Lexemes.{Lexeme, Word, mark}
use Rattle.sql_parse.specs.Trees.{ConditionTree, QueryTree}
use Rattle.sql_parse.specs.Grammar.{Rule, IsName, Separated, IsColumnName, IsColRef, IsItem, IsSelection, IsWhere, IsSelect, IsDisjunction, IsGroup}
use Rattle.sql_parse.specs.Reading.{Reader, after_mark, name_at, list_at, colref_at, item_at, selection_at, where_at, select_at, level_at, group_at}
use Rattle.sql_parse.proofs.Again.{IsReadAgain, NoDot, not_reserved, name_at-again, colref-again, list-again}
use Rattle.sql_parse.proofs.AgainConditions.{EndsCondition, condition-again}

-- at the end of the tokens
pub read_to_end : {A : Type 0} (IsForm : Rule A) (read : Reader A) (Follows : List Lexeme → Type 0) → IsReadAgain IsForm read Follows
    → (tokens : List Lexeme) (x : A) → IsForm tokens x → Follows [] → read tokens ≡ Some (x, [])
read_to_end IsForm read Follows again tokens x form follows = ap read (sym (append-nil tokens)) ∙ again tokens x [] form follows

-- neither AS nor a name follows
abbrev EndsItem : List Lexeme → Type 0
EndsItem rest = (after_mark m.As rest ≡ None) × (name_at rest ≡ None)

no_as : (name : List ℕ) (rest : List Lexeme) → IsName name → after_mark m.As (Word name ∷ rest) ≡ None
unfolding after_mark
no_as name rest is_name = rw (not_reserved name (codes "AS") is_name refl) refl

as_follows : (rest : List Lexeme) → after_mark m.As (mark m.As ∷ rest) ≡ Some rest
unfolding after_mark
as_follows rest = refl

item-again : IsReadAgain IsItem item_at EndsItem
unfolding item_at
item-again tokens item rest form follows = grind (arith, common_steps, name_at-again, no_as, as_follows)

items-again : IsReadAgain (Separated m.Comma IsItem) (list_at item_at m.Comma) (λ rest. EndsItem rest × (after_mark m.Comma rest ≡ None))
unfolding after_mark name_at
items-again = list-again m.Comma IsItem item_at EndsItem (λ rest. refl) (λ rest. (refl, refl)) item-again

name-is_no_star : (alias : Option (List ℕ)) (column : List ℕ) (tokens rest : List Lexeme) → IsColumnName alias tokens column → after_mark m.Star (tokens ++ rest) ≡ None
unfolding after_mark
name-is_no_star None column tokens rest form = rw form.0 refl
name-is_no_star (Some alias) column tokens rest form = rw form.0 refl

columns-are_no_star : (columns : List ColRef) (tokens rest : List Lexeme) → Separated m.Comma IsColRef tokens columns → after_mark m.Star (tokens ++ rest) ≡ None
columns-are_no_star [] tokens rest form = absurd form
columns-are_no_star (column ∷ []) tokens rest form = name-is_no_star column.alias column.column tokens rest form
columns-are_no_star (column ∷ next ∷ columns) tokens rest form =
    grind (arith, common_steps, append_assoc, name-is_no_star)

selection-again : IsReadAgain IsSelection selection_at (λ rest. NoDot rest × (after_mark m.Comma rest ≡ None))
unfolding selection_at after_mark
selection-again tokens None rest form follows = rw form refl
selection-again tokens (Some columns) rest form follows =
    rw (columns-are_no_star columns tokens rest form, list-again m.Comma IsColRef colref_at NoDot (λ rest. refl) (λ rest. refl) colref-again tokens columns rest form follows) refl

where-again : (tokens : List Lexeme) (condition : Option ConditionTree) → IsWhere tokens condition → where_at tokens ≡ Some (condition, [])
unfolding where_at after_mark
where-again tokens None form = rw form refl
where-again tokens (Some tree) form =
    let found : level_at Or (group_at nesting_limit) form.0 ≡ Some (tree, []) =
    read_to_end (IsDisjunction (IsGroup nesting_limit)) (level_at Or (group_at nesting_limit)) EndsCondition (condition-again nesting_limit) form.0 tree form.2 ((refl, refl), refl) in
    rw (form.1, found) refl

where-ends_items : (tokens : List Lexeme) (condition : Option ConditionTree) → IsWhere tokens condition → EndsItem tokens × (after_mark m.Comma tokens ≡ None)
unfolding after_mark name_at
where-ends_items tokens None form = rw form ((refl, refl), refl)
where-ends_items tokens (Some tree) form = rw form.1 ((refl, refl), refl)

pub select-again : (tokens : List Lexeme) (query : QueryTree) → IsSelect tokens query → select_at tokens ≡ Some (query, [])
unfolding select_at after_mark
select-again tokens query form =
    grind (arith, common_steps, selection-again, items-again, where-ends_items, where-again)
