-- Lists of values, as they are counted and written.
use Rattle.std.proofs.Common.{◌≡◌, ◌&&◌, ℕ, ◌+◌, ◌<◌, List, [], ◌∷◌, ◌++◌, map, take, length, get_or, string_bytes, refl, sym, ap, ap₂, ◌∙◌}
use Rattle.std.specs.List.{list_all}
use Rattle.std.specs.Map.{keys_of}
use Rattle.std.proofs.lemmas.List.{length-map, take_more, map_push}
use Rattle.serde_json.specs.Data.{Data}
use Rattle.serde_json.specs.View.{view, items_of, items_view, members_view}
use Rattle.serde_json.specs.declared.value.Value.{Value}
use Rattle.serde_json.proofs.Views.{Entry}
use Rattle.bouquet_file.specs.declared.values.ObjectKind.{ObjectKind}
use Rattle.bouquet_file.specs.Values.{item_list, is_key, has_only}

pub listed_items : (ds : List Data) → item_list (items_of ds) ≡ ds
listed_items [] = refl
listed_items (d ∷ ds) = ap (λ more. d ∷ more) (listed_items ds)

pub counted_items : (values : List Value) → length (item_list (items_view values)) ≡ length values
counted_items values = ap length (listed_items (map view values)) ∙ length-map values view

-- one more of a list is seen
pub one_more : {A B : Type 0} (see : A → B) (xs : List A) (i : ℕ) (x : A) → i < length xs → x ≡ get_or xs i x → map see (take (i + 1) xs) ≡ map see (take i xs) ++ see x ∷ []
one_more see xs i x there is =
    ap (map see) (take_more xs i x there) ∙ map_push see (take i xs) (get_or xs i x) ∙ ap (λ one. map see (take i xs) ++ see one ∷ []) (sym is)

-- the keys of a map are those of its members
pub keys_seen : (kind : ObjectKind) (entries : List Entry) → has_only kind (members_view entries) ≡ list_all (λ key. is_key kind (string_bytes key)) (keys_of entries)
keys_seen kind [] = refl
keys_seen kind (entry ∷ entries) = ap (λ more. is_key kind (string_bytes entry.0) && more) (keys_seen kind entries)
