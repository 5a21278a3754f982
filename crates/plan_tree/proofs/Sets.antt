-- A plan's set as a number has the bits of its leaves.
use Rattle.std.proofs.Common.{◌≡◌, ◌↔◌, ℕ, ◌^◌, max, Bool, true, false, cond, ◌||◌, List, [], ◌∷◌, ◌++◌, IsTrue, bit_and, bit_or, nat_eq, refl, ap, ap₂, sym, ◌∙◌, arith}
use Rattle.std.proofs.lemmas.Grind.{common_steps}
use Rattle.std.specs.Int.{bit_at, IsBitSet}
use Rattle.std.specs.List.{list_any}
use Rattle.std.proofs.lemmas.List.Folds.{list_any-append}
use Rattle.std.proofs.lemmas.Nat.{pow_pos}
use Rattle.std.proofs.lemmas.Nat.Bits.{bit_at_or, bit_at-pow_same, bit_at-pow_other, and_pow}
use Rattle.plan_tree.specs.Plans.{PlanTree, Scan, IndexScan, Nest, Hash, Merge, IndexLoop, leaves_of, has_leaf, covers_of}

-- the bit for this relation, of a set that has these leaves
abbrev HasBits : List ℕ → ℕ → ℕ → Type 0
HasBits leaves set relation = bit_at set relation ≡ cond (list_any (nat_eq relation) leaves) 1 0

leaf-by : (a relation : ℕ) (b : Bool) → nat_eq relation a ≡ b → bit_at (2 ^ a) relation ≡ cond (b || false) 1 0
leaf-by a relation true same = grind (arith, bit_at-pow_same a)
leaf-by a relation false other = bit_at-pow_other a relation (λ same. grind arith)

leaf : (a relation : ℕ) → HasBits (a ∷ []) (2 ^ a) relation
leaf a relation = leaf-by a relation (nat_eq relation a) refl

either : (a b : Bool) → max (cond a 1 0) (cond b 1 0) ≡ cond (a || b) 1 0
either true true = refl
either true false = refl
either false true = refl
either false false = refl

join : (left right : List ℕ) (a b relation : ℕ) → HasBits left a relation → HasBits right b relation → HasBits (left ++ right) (bit_or a b) relation
join left right a b relation in_a in_b =
    bit_at_or a b relation ∙ ap₂ max in_a in_b ∙ either _ _ ∙ ap (λ one. cond one 1 0) (sym (list_any-append (nat_eq relation) left right))

bits : (p : PlanTree) (relation : ℕ) → HasBits (leaves_of p) (covers_of p) relation
bits (Scan a) relation = leaf a relation
bits (IndexScan a column) relation = leaf a relation
bits (Nest left right) relation = join (leaves_of left) (leaves_of right) _ _ relation (bits left relation) (bits right relation)
bits (Hash edge left right) relation = join (leaves_of left) (leaves_of right) _ _ relation (bits left relation) (bits right relation)
bits (Merge edge left right) relation = join (leaves_of left) (leaves_of right) _ _ relation (bits left relation) (bits right relation)
bits (IndexLoop edge left a) relation = join (leaves_of left) (a ∷ []) _ _ relation (bits left relation) (leaf a relation)

-- a bit of a plan's set is 1 where the plan has the relation, and else 0
pub bit-of : (p : PlanTree) (relation : ℕ) → bit_at (covers_of p) relation ≡ cond (has_leaf p relation) 1 0
bit-of = bits

is-set : (set relation : ℕ) (b : Bool) → bit_at set relation ≡ cond b 1 0 → IsBitSet set relation ↔ IsTrue b
is-set set relation true bit = grind (arith, common_steps, bit_and, and_pow, pow_pos)
is-set set relation false bit = grind (arith, common_steps, bit_and, and_pow)

pub bits-are-leaves : (p : PlanTree) (relation : ℕ) → IsBitSet (covers_of p) relation ↔ IsTrue (has_leaf p relation)
bits-are-leaves p relation = is-set (covers_of p) relation (has_leaf p relation) (bits p relation)
