-- What stands in a value of a file, where it is of the right kind and in its range.
use Rattle.std.specs.Prelude.{ℕ, ◌^◌, ◌&&◌, Bool, true, nat_le, nat_lt, List, [], ◌∷◌, Option, Some, None, option_and_then, is_some, codes, if◌then◌else◌, decimal, bytes_eq, length, String}
use Rattle.std.specs.declared.alloc.Global.{Global}
use Rattle.std.specs.List.{list_all, list_any}
use Rattle.std.specs.Str.Parse.{digits_value}
use Rattle.serde_json.specs.Data.{Data, Items, no_items, item, Members, no_members, member}
use Rattle.serde_json.specs.View.{members_view}
use Rattle.serde_json.specs.declared.value.Value.{Value}
use Rattle.serde_json.specs.Find.{get_member, as_number, as_u64, as_str, as_array, as_object}
use Rattle.bouquet_file.specs.declared.values.ObjectKind.{ObjectKind}
use Rattle.bouquet_file.specs.declared.values.ObjectKind.TheVariants.{File, Relation, Contour}
use Rattle.bouquet_file.specs.declared.values.Version.TheVariants.{One, Two}

-- the value of a key among the members of an object, as it is seen
abbrev pub value_of_key : (key : List ℕ) → List (String Global × Value) → Option Data
value_of_key key entries = get_member key (members_view entries)

-- an unsigned whole number
abbrev pub unsigned : Option Data → Option ℕ
unsigned value = option_and_then as_u64 (option_and_then as_number value)

-- a number from the least to the most
abbrev pub within : (least most : ℕ) → Option ℕ → Option ℕ
within least most None = None
within least most (Some number) = if nat_le least number && nat_le number most then Some number else None

-- a text
abbrev pub string_of : Option Data → Option (List ℕ)
string_of value = option_and_then as_str value

-- items as a list
abbrev pub item_list : Items → List Data
item_list no_items = []
item_list (item value more) = value ∷ item_list more

-- a list of at least, and at most so many items
abbrev pub list_within : (least most : ℕ) → Option Data → Option (List Data)
list_within least most value = option_and_then
    (λ items. if nat_le least (length (item_list items)) && nat_le (length (item_list items)) most then Some (item_list items) else None)
    (option_and_then as_array value)

-- the keys of every file
abbrev pub file_keys : List (List ℕ)
file_keys = codes "bouquet" ∷ codes "query" ∷ codes "levels" ∷ codes "threshold" ∷ codes "relations" ∷ codes "contours" ∷ []

-- the keys of a file, one more in version 2, of a relation in it, of a contour
abbrev pub key_list : ObjectKind → List (List ℕ)
key_list (File One) = file_keys
key_list (File Two) = codes "parameters" ∷ file_keys
key_list Relation = codes "rows" ∷ codes "kept" ∷ codes "indexes" ∷ []
key_list Contour = codes "cost" ∷ codes "plans" ∷ []

-- whether a text is one of them
abbrev pub is_key : ObjectKind → (text : List ℕ) → Bool
is_key kind text = list_any (bytes_eq text) (key_list kind)

-- whether an object has no other key; each of them
abbrev pub has_only : ObjectKind → Members → Bool
has_only kind no_members = true
has_only kind (member key value more) = is_key kind key && has_only kind more

abbrev pub has_all : ObjectKind → Members → Bool
has_all kind members = list_all (λ key. is_some (get_member key members)) (key_list kind)

-- an object with exactly these keys
abbrev pub object_of : ObjectKind → Data → Option Members
object_of kind value =
    option_and_then (λ members. if has_only kind members && has_all kind members then Some members else None) (as_object value)

-- the number whose decimal text this is, where it is below 2^128
abbrev pub decimal_number : List ℕ → Option ℕ
decimal_number text =
    let number = digits_value 10 text in
    if nat_lt number (2 ^ 128) && bytes_eq (decimal number) text then Some number else None
