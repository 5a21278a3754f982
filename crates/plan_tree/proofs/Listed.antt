-- The lists of the plans of the sets below a number.
use Rattle.std.proofs.Common.{◌≡◌, ℕ, zero, suc, ◌+◌, ◌-◌, ◌^◌, ◌≤◌, [], ◌∷◌, ◌++◌, length, refl, arith}
use Rattle.std.proofs.lemmas.Grind.{common_steps}
use Rattle.std.proofs.lemmas.List.{length_push, get_or_push}
use Rattle.query_block.specs.Blocks.{BlockTree}
use Rattle.plan_tree.specs.AllPlans.{plans_at, plans_over, plans_below, plans_of}

-- one more set
pub below-more : (block : BlockTree) (set : ℕ)
    → plans_below block (set + 1) ≡ plans_below block set ++ (plans_over block (plans_below block set) set ∷ [])
unfolding plans_below
below-more block set = grind (arith, common_steps)

pub length-below : (block : BlockTree) (end : ℕ) → length (plans_below block end) ≡ end
unfolding plans_below
length-below block zero = refl
length-below block (suc set) =
    let so = length-below block set in
    omega (arith, length_push (plans_below block set) (plans_over block (plans_below block set) set))

last-below : (block : BlockTree) (set : ℕ) → plans_at (plans_below block (set + 1)) set ≡ plans_over block (plans_below block set) set
last-below block set = grind (arith, common_steps, below-more, get_or_push, length-below)

-- all plans are those over the last set
pub last-whole : (block : BlockTree) (last end : ℕ) → end ≡ 2 ^ length block.relations → 1 ≤ end → last ≡ end - 1
    → plans_over block (plans_below block last) last ≡ plans_of block
last-whole block last end all some is = grind (arith, common_steps, last-below)
