-- Truths that are joined one after another, up to one that decides.
use Rattle.std.proofs.Common.{◌≡◌, ℕ, ◌<◌, ◌≤◌, ◌+◌, List, [], ◌∷◌, length, map, drop, get_or, All, subst, refl, sym, ap, ◌∙◌, zero, suc, arith}
use Rattle.std.proofs.Math.ListN.{length-map}
use Rattle.std.proofs.lemmas.List.{at_drop_more, at_drop_all, get_or-map}
use Rattle.std.proofs.lemmas.List.Elements.{All-get_or}
use Rattle.sql_values.specs.declared.truth.Truth.{Truth}
use Rattle.sql_values.specs.declared.truth.Truth.TheVariants.{True, False}
use Rattle.sql_values.specs.declared.column.ColumnType.{ColumnType}
use Rattle.sql_values.specs.declared.op.Op.TheVariants.{Eq}
use Rattle.sql_values.specs.declared.value.Value.{Value}
use Rattle.sql_values.specs.Stored.{ValueRow}
use Rattle.sql_values.specs.Truth.{truth_and, truth_or, comparison}
use Rattle.query_block.specs.declared.kind.Kind.{Kind}
use Rattle.query_block.specs.declared.condition.Operand.{Operand}
use Rattle.query_block.specs.declared.condition.Condition.{Condition}
use Rattle.query_block.specs.Conditions.{chain, filter_tree}
use Rattle.query_block.specs.Blocks.{FitsColumns, FitColumns}
use Rattle.query_block.specs.Truth.{operand_value, one_of, truth_of, truth_of_all, truth_of_any}

-- a way to join truths from left to right, beginning with one that changes nothing, until one decides
pub record Joins (join : Truth → Truth → Truth) (start stop : Truth) : Type 0 where
  pub assoc : (a b c : Truth) → join (join a b) c ≡ join a (join b c)
  pub start_left : (a : Truth) → join start a ≡ a
  pub start_right : (a : Truth) → join a start ≡ a
  pub stop_left : (a : Truth) → join stop a ≡ stop

-- a chain: the truth of each part, and of the whole
pub record Chain (X : Type 0) : Type 0 where
  pub join : Truth → Truth → Truth
  pub start : Truth
  pub stop : Truth
  pub joins : Joins join start stop
  pub part : X → Truth
  pub whole : List X → Truth
  pub none : whole [] ≡ start
  pub more : (x : X) (xs : List X) → whole (x ∷ xs) ≡ join (part x) (whole xs)

-- what was found up to a place, joined with the truth of the rest, is the truth of the whole
abbrev pub IsLeft : {X : Type 0} → Chain X → List X → (found : Truth) → (place : ℕ) → Type 0
IsLeft c xs found i = c.whole xs ≡ c.join found (c.whole (drop i xs))

module _ {X : Type 0} (c : Chain X) (xs : List X) where
  pub left-first : IsLeft c xs c.start 0
  left-first = sym (c.joins.start_left (c.whole xs))

  pub left-next : (before after : Truth) (i : ℕ) (x : X) → i < length xs → x ≡ get_or xs i x → IsLeft c xs before i → after ≡ c.join before (c.part x) → IsLeft c xs after (i + 1)
  left-next before after i x below is left found =
      let rest = drop (i + 1) xs in
      left ∙ ap (c.join before) (at_drop_more c.whole xs i x below ∙ ap (λ one. c.whole (one ∷ rest)) (sym is) ∙ c.more x rest)
      ∙ sym (c.joins.assoc before (c.part x) (c.whole rest)) ∙ ap (λ truth. c.join truth (c.whole rest)) (sym found)

  pub left-last : (found : Truth) (i : ℕ) → length xs ≤ i → IsLeft c xs found i → found ≡ c.whole xs
  left-last found i past left = sym (left ∙ ap (c.join found) (at_drop_all c.whole xs i past ∙ c.none) ∙ c.joins.start_right found)

  pub left-stop : (found : Truth) (i : ℕ) → found ≡ c.stop → IsLeft c xs found i → c.stop ≡ c.whole xs
  left-stop found i decided left = sym (left ∙ ap (λ truth. c.join truth (c.whole (drop i xs))) decided ∙ c.joins.stop_left (c.whole (drop i xs)))

and_assoc : (a b c : Truth) → truth_and (truth_and a b) c ≡ truth_and a (truth_and b c)
and_assoc a b c = grind arith

or_assoc : (a b c : Truth) → truth_or (truth_or a b) c ≡ truth_or a (truth_or b c)
or_assoc a b c = grind arith

pub and_joins : Joins truth_and True False
and_joins = record { assoc = and_assoc; start_left = λ a. grind arith; start_right = λ a. grind arith; stop_left = λ a. grind arith }

pub or_joins : Joins truth_or False True
or_joins = record { assoc = or_assoc; start_left = λ a. grind arith; start_right = λ a. grind arith; stop_left = λ a. grind arith }

-- x = a OR x = b OR ..
abbrev pub equals : ValueRow → Value → Chain Operand
equals row x = record {
  join = truth_or;
  start = False;
  stop = True;
  joins = or_joins;
  part = λ operand. comparison Eq x (operand_value row operand);
  whole = one_of row x;
  none = refl;
  more = λ _ _. refl;
}

-- a AND b AND ..
abbrev pub all : ValueRow → Chain Condition
all row = record {
  join = truth_and;
  start = True;
  stop = False;
  joins = and_joins;
  part = λ condition. truth_of (filter_tree condition) row;
  whole = λ parts. truth_of_all (chain (map filter_tree parts)) row;
  none = refl;
  more = λ _ _. refl;
}

-- a OR b OR ..
abbrev pub any : ValueRow → Chain Condition
any row = record {
  join = truth_or;
  start = False;
  stop = True;
  joins = or_joins;
  part = λ condition. truth_of (filter_tree condition) row;
  whole = λ parts. truth_of_any (chain (map filter_tree parts)) row;
  none = refl;
  more = λ _ _. refl;
}

-- each part of a chain that fits the columns fits them
fits-at : (columns : List ColumnType) (parts : List Condition) (i : ℕ) (d : Condition) → i < length parts → FitColumns [] columns (chain (map filter_tree parts))
    → FitsColumns [] columns (filter_tree (get_or parts i d))
fits-at columns [] i d below fit = absurd (omega (arith, below))
fits-at columns (part ∷ parts) zero d below fit = fit.0
fits-at columns (part ∷ parts) (suc i) d below fit = fits-at columns parts i d (omega (arith, below)) fit.1

pub part-fits : (columns : List ColumnType) (parts : List Condition) (i : ℕ) (part : Condition) → i < length parts → part ≡ get_or parts i part
    → FitColumns [] columns (chain (map filter_tree parts)) → FitsColumns [] columns (filter_tree part)
part-fits columns parts i part below is fit = subst (λ one. FitsColumns [] columns (filter_tree one)) (sym is) (fits-at columns parts i part below fit)

-- each conjunct of a filter that fits the columns fits them
pub conjunct-fits : (kinds : List Kind) (columns : List ColumnType) (filter : List Condition) (i : ℕ) (conjunct : Condition) → i < length filter → conjunct ≡ get_or filter i conjunct
    → All (FitsColumns kinds columns) (map filter_tree filter) → FitsColumns kinds columns (filter_tree conjunct)
conjunct-fits kinds columns filter i conjunct below is fit =
    let there : i < length (map filter_tree filter) = simp length-map below in
    subst (FitsColumns kinds columns) (get_or-map filter_tree filter i conjunct (filter_tree conjunct) below ∙ ap filter_tree (sym is))
    (All-get_or (FitsColumns kinds columns) (map filter_tree filter) i (filter_tree conjunct) there fit)
