-- The first fault among the tables of FROM, and the tables up to a place.
use Rattle.std.proofs.Common.{◌≡◌, ◌∙◌, ℕ, ◌+◌, ◌<◌, List, [], ◌∷◌, ◌++◌, Option, None, length, map, take, drop, get_or, sym, ap, arith}
use Rattle.std.proofs.lemmas.Grind.{common_steps}
use Rattle.std.specs.Option.{option_or}
use Rattle.std.proofs.lemmas.List.{at_drop_more, map_more}
use Rattle.sql_parse.specs.declared.tree.Item.{Item}
use Rattle.db_catalog.specs.Database.{DatabaseState, table_number}
use Rattle.sql_bind.specs.declared.fault.BindFault.{BindFault}
use Rattle.sql_bind.specs.Binding.{table_fault, alias_fault, from_fault}
use Rattle.sql_bind.proofs.Faults.{or-assoc}

-- what a list says of its items up to a place, with one item more
pub items-next : {A B : Type 0} (f : A → B) (items : List A) (i : ℕ) (item : A) → i < length items → item ≡ get_or items i item
    → map f (take (i + 1) items) ≡ map f (take i items) ++ f item ∷ []
items-next f items i item below is =
    map_more f items i item below ∙ ap (λ one. map f (take i items) ++ f one ∷ []) (sym is)

abbrev aliases : List Item → List (List ℕ)
aliases items = map (λ item. item.alias) items

-- the table at a place has no fault, so the first is among those behind it
pub table-passed : (database : DatabaseState) (due : Option BindFault) (items : List Item) (i : ℕ) (item : Item) → i < length items → item ≡ get_or items i item
    → due ≡ from_fault database (aliases (take i items)) (drop i items) → option_or (table_fault item (table_number database item.table)) (alias_fault (aliases (take i items)) item) ≡ None
    → due ≡ from_fault database (aliases (take (i + 1) items)) (drop (i + 1) items)
table-passed database due items i item below is left none =
    grind (arith, common_steps, at_drop_more, or-assoc, items-next)
