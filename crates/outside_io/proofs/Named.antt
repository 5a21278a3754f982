-- Files under their names, as a tree of entries and as a map.
use Rattle.std.proofs.Common.{◌≡◌, ℕ, List, [], ◌∷◌, true, false, Option, Some, Vec, map, cond, arith}
use Rattle.std.proofs.lemmas.Grind.{common_steps}
use Rattle.std.proofs.Common.{refl, sym, ap, ◌∙◌}
use Rattle.std.specs.Option.{option_map}
use Rattle.std.specs.declared.alloc.Global.{Global}
use Rattle.std.specs.declared.cmp.Ordering.{Ordering}
use Rattle.std.specs.Ordering.{nat_cmp, is_eq, eq_by_cmp}
use Rattle.std.specs.Cmp.Lexicographic.{slice_cmp, nat_list_cmp_total}
use Rattle.std.specs.FinMap.{get-from_entries, get-insert, same_map}
use Rattle.std.specs.FinMap.{slice_cmp-IsAntisymmetric, nat_cmp-IsAntisymmetric}
use Rattle.std.specs.FinMap.Entries.{find, put, find-put}
use Rattle.std.specs.Map.{lookup}
use Rattle.std.specs.BTreeMap.{insert_entry}
use Rattle.outside_io.specs.Files.{held_file, with_file}
use Rattle.outside_io.specs.Memory.{named_files}

abbrev pub Entry : Type 0
Entry = Vec ℕ Global × Vec ℕ Global

abbrev shown : Entry → List ℕ × List ℕ
shown entry = (entry.0.items, entry.1.items)

abbrev by_name : List ℕ → List ℕ → Ordering
by_name = slice_cmp nat_cmp

-- what the tree finds under a name
abbrev pub tree_find : List ℕ → List Entry → Option (Vec ℕ Global)
tree_find name entries = lookup (λ key. is_eq (by_name name key.items)) entries

-- the tree with an entry more
abbrev pub tree_put : List Entry → Vec ℕ Global → Vec ℕ Global → List Entry
tree_put entries key value = insert_entry (λ a b. by_name a.items b.items) entries key value

find-shown : (name : List ℕ) (entries : List Entry)
    → find by_name name (map shown entries) ≡ option_map (λ v. v.items) (tree_find name entries)
find-shown name [] = refl
find-shown name (e ∷ entries) =
    elim (is_eq (by_name name e.0.items)) as (λ b.
    cond b (Some e.1.items) (find by_name name (map shown entries))
    ≡ option_map (λ v. v.items) (cond b (Some e.1) (tree_find name entries))) [
      | true ↦ refl
      | false ↦ find-shown name entries
    ]

-- what a look-up in the tree finds is the file of that name
pub found-held_file : (entries : List Entry) (name key : List ℕ) (found : Option (Vec ℕ Global))
    → key ≡ name → found ≡ tree_find key entries
    → option_map (λ v. v.items) found ≡ held_file (named_files entries) name
found-held_file entries name key found same is =
    ap (option_map (λ v. v.items)) is
    ∙ sym (find-shown key entries)
    ∙ ap (λ q. find by_name q (map shown entries)) same
    ∙ sym (get-from_entries nat_list_cmp_total (map shown entries) name)

map-tree_put : (entries : List Entry) (k v : Vec ℕ Global)
    → map shown (tree_put entries k v) ≡ put by_name k.items v.items (map shown entries)
map-tree_put [] k v = refl
map-tree_put (e ∷ entries) k v = grind (arith, common_steps, map-tree_put entries k v)

named_files-tree_put : (entries : List Entry) (k v : Vec ℕ Global)
    → named_files (tree_put entries k v) ≡ with_file (named_files entries) k.items v.items
named_files-tree_put entries k v =
    let o = nat_list_cmp_total in
    same_map o (slice_cmp-IsAntisymmetric nat_cmp-IsAntisymmetric) _ _ (λ name.
    get-from_entries o _ name
    ∙ ap (find by_name name) (map-tree_put entries k v)
    ∙ find-put by_name o name k.items v.items (map shown entries)
    ∙ sym (get-insert o (named_files entries) k.items v.items name
    ∙ ap (λ x. cond (eq_by_cmp by_name name k.items) (Some v.items) x)
    (get-from_entries o (map shown entries) name)))

-- an entry more in the tree is a file more in the map
pub named_files-put : (before after : List Entry) (k v : Vec ℕ Global) (name bytes : List ℕ)
    → after ≡ tree_put before k v → k.items ≡ name → v.items ≡ bytes
    → named_files after ≡ with_file (named_files before) name bytes
named_files-put before after k v name bytes is named held = grind (arith, common_steps, named_files-tree_put)
