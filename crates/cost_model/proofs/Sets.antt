-- Numbers of relations, and numbers of sets: those of a block's plans, and those whose highest relation is known.
use Rattle.std.proofs.Common.{◌≡◌, ℕ, ◌+◌, ◌*◌, ◌^◌, ◌<◌, ◌≤◌, List, length, bit_and, Fits, w8, ap, ◌∙◌, add-one, arith}
use Rattle.std.proofs.Math.Nat.{pow-suc, pow-le-pow_right}
use Rattle.std.proofs.Math.ListN.{length-map}
use Rattle.std.proofs.lemmas.Nat.{and_comm}
use Rattle.std.proofs.lemmas.Nat.Bits.{and_pow, bit_at_above}
use Rattle.query_block.specs.declared.block.Relation.{Relation}
use Rattle.query_block.specs.Shape.{BlockShape}
use Rattle.query_block.specs.Blocks.{BlockTree, IsBlock, block_tree, relation_tree}
use Rattle.plan_tree.specs.Plans.{PlanTree, Scan, IndexScan, Nest, Hash, Merge, IndexLoop, FitsSet}
use Rattle.plan_tree.specs.Enumerated.{IsSubPlan}

-- a block has few relations
pub relation-small : (block : BlockShape) (lent : List Relation) (relation : ℕ) → IsBlock (block_tree block) → lent ≡ block.relations → relation < length lent → relation < 6
relation-small block lent relation is same below =
    omega (arith, below, ap length same, length-map block.relations relation_tree, is.few)

pub of-block : (block : BlockShape) (relation : ℕ) → relation < length (block_tree block).relations → relation < length block.relations
of-block block relation there = omega (arith, there, length-map block.relations relation_tree)

pub in-eight : (n : ℕ) → n < 6 → n < 8
in-eight n small = omega (arith, small)

pub in-byte : (n : ℕ) → n < 6 → Fits w8 n
in-byte n small = record { fits = omega (arith, small) }

-- the relations of a block fit a set of eight
pub fits-set : (block : BlockTree) (p : PlanTree) → length block.relations ≤ 6 → IsSubPlan block p → FitsSet p
fits-set block (Scan relation) few is = omega (arith, is)
fits-set block (IndexScan relation column) few is = omega (arith, is.exists)
fits-set block (Nest left right) few is = (fits-set block left few is.0, fits-set block right few is.1)
fits-set block (Hash edge left right) few is = (fits-set block left few is.0, fits-set block right few is.1)
fits-set block (Merge edge left right) few is = (fits-set block left few is.0, fits-set block right few is.1)
fits-set block (IndexLoop edge left relation) few is = (fits-set block left few is.0, omega (arith, is.1.exists))

pub next-power : (relation : ℕ) → 2 ^ (relation + 1) ≡ 2 ^ relation + 2 ^ relation
next-power relation = ap (λ n. 2 ^ n) (add-one relation) ∙ pow-suc 2 relation ∙ omega arith

pub power-to : (relation count : ℕ) → relation ≤ count → 2 ^ relation ≤ 2 ^ count
power-to relation count le = pow-le-pow_right (omega arith) le

-- the sets whose highest relation this is are sets of the block
pub sets-below : (relation count rest : ℕ) → relation < count → rest < 2 ^ relation → 2 ^ relation + rest < 2 ^ count
sets-below relation count rest below less = omega (arith, next-power relation, power-to (relation + 1) count (omega arith))

pub low-apart : (relation rest : ℕ) → rest < 2 ^ relation → bit_and (2 ^ relation) rest ≡ 0
low-apart relation rest less =
    and_comm (2 ^ relation) rest ∙ and_pow rest relation ∙ ap (λ bit. bit * 2 ^ relation) (bit_at_above rest relation relation less (omega arith)) ∙ omega arith

-- the sets of the relations up to this one are those below these two numbers
pub up-to : (relation high rest set : ℕ) → high ≡ 2 ^ relation → high ≤ rest → set < 2 ^ (relation + 1) → set < high + rest
up-to relation high rest set is above below = omega (arith, is, above, below, next-power relation)

-- the sets of a list's relations are those of as many
pub of-all : (count relation set : ℕ) → count ≤ relation → set < 2 ^ count → set < 2 ^ relation
of-all count relation set all below = omega (arith, below, power-to count relation all)
