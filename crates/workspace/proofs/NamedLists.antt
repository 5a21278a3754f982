-- Bouquets under their names, found among the entries of a map.
use Rattle.std.proofs.Common.{◌≡◌, ◌∙◌, ℕ, Bool, true, false, List, [], ◌∷◌, map, Contains, Option, Some, None, IfSome, option_map, refl, sym, ap, subst, Vec, Global, Bor, cond, if◌then◌else◌, arith}
use Rattle.std.specs.Prelude.{IsNone}
use Rattle.std.specs.Option.{option_copied}
use Rattle.std.specs.Str.{bytes_eq}
use Rattle.std.specs.Map.{lookup}
use Rattle.std.proofs.lemmas.List.Elements.{Contains-get_or, Contains-append_right}
use Rattle.std.proofs.lemmas.Slice.Eq.{bytes_eq-Decides}
use Rattle.workspace.specs.declared.named_bouquets.KeptBouquet.{KeptBouquet}
use Rattle.workspace.specs.States.{NamedShape, named_shape, named_of}
use Rattle.workspace.specs.World.{NamedBouquet, named_in}

abbrev pub Entry : Type 0
Entry = Vec ℕ Global × KeptBouquet

abbrev pub state_of : Entry → NamedShape
state_of entry = named_shape entry.0.items entry.1

-- what is seen of entries
abbrev pub states_of : List Entry → List NamedShape
states_of entries = map state_of entries

module _ (name : List ℕ) where
  abbrev pub is_name : Vec ℕ Global → Bool
  is_name v = bytes_eq name v.items

  abbrev pub named : KeptBouquet → NamedBouquet
  named kept = named_of (named_shape name kept)

  same_name : (v : Vec ℕ Global) → bytes_eq name v.items ≡ true → v.items ≡ name
  same_name v is = sym ((bytes_eq-Decides name v.items).0 is)

  -- the bouquet of a name is that of the entry that is found
  pub named_lookup : (entries : List Entry) → named_in name (map named_of (states_of entries)) ≡ option_map named (lookup is_name entries)
  named_lookup [] = refl
  named_lookup (entry ∷ entries) = by (bytes_eq name entry.0.items) refl (named_lookup entries)
    where
      by : (b : Bool) → bytes_eq name entry.0.items ≡ b → named_in name (map named_of (states_of entries)) ≡ option_map named (lookup is_name entries)
          → (if b then Some (named_of (state_of entry)) else named_in name (map named_of (states_of entries))) ≡ option_map named (cond b (Some entry.1) (lookup is_name entries))
      by true is rest = ap (λ n. Some (named_of (named_shape n entry.1))) (same_name entry.0 is)
      by false is rest = rest

  found_there : (entries : List Entry) (kept : KeptBouquet) → lookup is_name entries ≡ Some kept → Contains (states_of entries) (named_shape name kept)
  found_there [] kept is = cc is
  found_there (entry ∷ entries) kept is = by (bytes_eq name entry.0.items) refl is (found_there entries kept)
    where
      by : (b : Bool) → bytes_eq name entry.0.items ≡ b → cond b (Some entry.1) (lookup is_name entries) ≡ Some kept
          → (lookup is_name entries ≡ Some kept → Contains (states_of entries) (named_shape name kept)) → Contains (states_of (entry ∷ entries)) (named_shape name kept)
      by true same found rest =
          let value : entry.1 ≡ kept = cc found in
          let state : state_of entry ≡ named_shape name kept = ap (λ n. named_shape n entry.1) (same_name entry.0 same) ∙ ap (named_shape name) value in
          subst (Contains (states_of (entry ∷ entries))) state (Contains-get_or (states_of (entry ∷ entries)) 0 (state_of entry) (omega arith))
      by false same found rest = Contains-append_right (state_of entry ∷ []) (states_of entries) (named_shape name kept) (rest found)

  module _ (entries : List Entry) where
    pub none_named : (found : Option (Bor KeptBouquet)) → option_copied found ≡ lookup is_name entries → IsNone found → named_in name (map named_of (states_of entries)) ≡ None
    none_named None is none = named_lookup entries ∙ ap (option_map named) (sym is)
    none_named (Some kept) is none = cc none

    pub some_named : (found : Option (Bor KeptBouquet)) → option_copied found ≡ lookup is_name entries
        → IfSome found (λ kept. named_in name (map named_of (states_of entries)) ≡ Some (named kept.now))
    some_named None is = tt
    some_named (Some kept) is = named_lookup entries ∙ ap (option_map named) (sym is)

    pub some_there : (found : Option (Bor KeptBouquet)) → option_copied found ≡ lookup is_name entries → IfSome found (λ kept. Contains (states_of entries) (named_shape name kept.now))
    some_there None is = tt
    some_there (Some kept) is = found_there entries kept.now (sym is)

    -- where no bouquet has a name, no entry is found
    pub none_found : named_in name (map named_of (states_of entries)) ≡ None → lookup is_name entries ≡ None
    none_found none = by (lookup is_name entries) (sym (named_lookup entries) ∙ none)
      where
        by : (found : Option KeptBouquet) → option_map named found ≡ None → found ≡ None
        by None is = refl
        by (Some kept) is = cc is
