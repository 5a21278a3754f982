-- The plans of a block and their texts: each has one that is read, and no other plan has it.
use Rattle.std.proofs.Common.{◌≡◌, ◌&&◌, ℕ, ◌<◌, ◌≤◌, Bool, true, false, List, [], ◌∷◌, length, Option, Some, None, IsTrue, cond, bytes_eq, nat_eq, refl, sym, ap, ◌∙◌, subst, inl, inr, length-append, arith}
use Rattle.std.proofs.lemmas.Bool.Decides.{nat_tests}
use Rattle.std.proofs.lemmas.Slice.Eq.{bytes_eq-Decides}
use Rattle.std.proofs.lemmas.List.Elements.{All-contains}
use Rattle.query_block.specs.declared.kind.Kind.{Kind}
use Rattle.query_block.specs.Blocks.{RelationTree, BlockTree, relation_at, IsRelation, IsBlock}
use Rattle.plan_tree.specs.Plans.{PlanTree, Scan, IndexScan, Nest, Hash, Merge, IndexLoop, leaves_of, has_leaf}
use Rattle.plan_tree.specs.Enumerated.{is_indexed, IsSubPlan, IsPlan}
use Rattle.plan_tree.specs.AllPlans.{plans_of}
use Rattle.plan_tree.specs.Text.{plan_text_of}
use Rattle.plan_tree.specs.Reading.{HasQueryNumbers, HasText}
use Rattle.plan_tree.proofs.LeafSets.{apart-sets, alone, size_of, size-few, leaf-size, both-sizes}
use Rattle.plan_tree.proofs.Members.{IsIn, contained-in, of-any}
use Rattle.plan_tree.proofs.Enumerated.{in-plans, of-plans}
use Rattle.plan_tree.proofs.Reader.{text_is_read}
use Rattle.std.specs.List.{find}

-- ---- each plan of a block has a text that is read

-- an indexed column is one of at most 32
indexed-few : (kinds : List Kind) (relation : RelationTree) (column : ℕ) → IsRelation kinds relation → IsTrue (is_indexed relation column) → column ≤ 31
indexed-few kinds relation column is indexed =
    let found = of-any (λ other. nat_eq other column) relation.indexes indexed in
    let below : found.0 < length relation.columns = All-contains (λ other. other < length relation.columns) relation.indexes found.0 is.indexes (contained-in found.0 relation.indexes found.1) in
    let same : found.0 ≡ column = grind (arith, nat_tests, found.2) in
    omega (arith, below, is.few, same)

numbers : (block : BlockTree) (p : PlanTree) → IsBlock block → IsSubPlan block p → HasQueryNumbers p
numbers block (Scan relation) is plan = omega (arith, is.few, plan)
numbers block (IndexScan relation column) is plan = (
  omega (arith, is.few, plan.exists),
  indexed-few block.parameters (relation_at block.relations relation) column (is.relations relation (record { table = 0; columns = []; filter = []; indexes = [] }) plan.exists) plan.indexed,
)
numbers block (Nest left right) is plan = (numbers block left is plan.0, numbers block right is plan.1)
numbers block (Hash edge left right) is plan = (omega (arith, is.axes, plan.3.0), numbers block left is plan.0, numbers block right is plan.1)
numbers block (Merge edge left right) is plan = (omega (arith, is.axes, plan.3.0), numbers block left is plan.0, numbers block right is plan.1)
numbers block (IndexLoop edge left relation) is plan = (omega (arith, is.axes, plan.1.crosses.0), numbers block left is plan.0, omega (arith, is.few, plan.1.exists))

-- it has no more leaves than the block has relations
two-sides : (block : BlockTree) (left right : PlanTree) → length (leaves_of left) ≤ size_of (has_leaf left) 0 (length block.relations) → length (leaves_of right) ≤ size_of (has_leaf right) 0 (length block.relations)
    → ((relation : ℕ) → (has_leaf left relation && has_leaf right relation) ≡ false) → length (leaves_of (Nest left right)) ≤ size_of (has_leaf (Nest left right)) 0 (length block.relations)
two-sides block left right few few' apart =
    omega (arith, few, few', length-append (leaves_of left) (leaves_of right), both-sizes (length block.relations) (leaves_of left) (leaves_of right) apart)

leaves-few : (block : BlockTree) (p : PlanTree) → IsSubPlan block p → length (leaves_of p) ≤ size_of (has_leaf p) 0 (length block.relations)
leaves-few block (Scan relation) plan = leaf-size (length block.relations) relation plan
leaves-few block (IndexScan relation column) plan = leaf-size (length block.relations) relation plan.exists
leaves-few block (Nest left right) plan = two-sides block left right (leaves-few block left plan.0) (leaves-few block right plan.1) (apart-sets left right plan.2)
leaves-few block (Hash edge left right) plan = two-sides block left right (leaves-few block left plan.0) (leaves-few block right plan.1) (apart-sets left right plan.2)
leaves-few block (Merge edge left right) plan = two-sides block left right (leaves-few block left plan.0) (leaves-few block right plan.1) (apart-sets left right plan.2)
leaves-few block (IndexLoop edge left relation) plan =
    two-sides block left (Scan relation) (leaves-few block left plan.0) (leaf-size (length block.relations) relation plan.1.exists) (alone left relation plan.1.apart)

pub plan-has_text : (block : BlockTree) (p : PlanTree) → IsBlock block → IsPlan block p → HasText p (plan_text_of p)
plan-has_text block p is plan = record {
  numbers = numbers block p is plan.nodes;
  few = omega (arith, is.few, leaves-few block p plan.nodes, size-few (has_leaf p) 0 (length block.relations));
  text = refl;
}

-- ---- no two plans have one text

abbrev first-of : PlanTree → Option (PlanTree × List ℕ) → PlanTree
first-of other None = other
first-of other (Some found) = found.0

pub one-plan : (p q : PlanTree) (text : List ℕ) → HasText p text → HasText q text → p ≡ q
one-plan p q text has has' = ap (first-of p) (sym (text_is_read p text has) ∙ text_is_read q text has')

-- ---- the plan of the block that has a text

abbrev has_text : (text : List ℕ) → PlanTree → Bool
has_text text p = bytes_eq (plan_text_of p) text

-- of some plans the one that has it, where no other one has it
first-is : (text : List ℕ) (p : PlanTree) (plans : List PlanTree) → ((q : PlanTree) → IsIn q plans → plan_text_of q ≡ text → q ≡ p) → plan_text_of p ≡ text → IsIn p plans
    → find (has_text text) plans ≡ Some p
first-is text p [] only is there = absurd there
first-is text p (q ∷ plans) only is there = by (first-is text p plans (λ r in_rest. only r (inr in_rest)) is) (bytes_eq (plan_text_of q) text) refl
  where
    same : plan_text_of q ≡ text → bytes_eq (plan_text_of q) text ≡ true
    same = (bytes_eq-Decides (plan_text_of q) text).1

    by : (IsIn p plans → find (has_text text) plans ≡ Some p) → (b : Bool) → bytes_eq (plan_text_of q) text ≡ b → cond b (Some q) (find (has_text text) plans) ≡ Some p
    by behind true e = ap Some (only q (inl refl) ((bytes_eq-Decides (plan_text_of q) text).0 e))
    by behind false e = elim there [
      | inl it ↦ absurd (grind (arith, e, same (ap plan_text_of it ∙ is)))
      | inr more ↦ behind more
    ]

-- none, where none has it
first-none : (text : List ℕ) (plans : List PlanTree) → ((q : PlanTree) → IsIn q plans → plan_text_of q ≡ text → ⊥) → find (has_text text) plans ≡ None
first-none text [] none = refl
first-none text (q ∷ plans) none = by (first-none text plans (λ r in_rest. none r (inr in_rest))) (bytes_eq (plan_text_of q) text) refl
  where
    by : find (has_text text) plans ≡ None → (b : Bool) → bytes_eq (plan_text_of q) text ≡ b → cond b (Some q) (find (has_text text) plans) ≡ None
    by behind true e = absurd (none q (inl refl) ((bytes_eq-Decides (plan_text_of q) text).0 e))
    by behind false e = behind

-- a plan of the block that has a text is found by it
pub found-by-text : (block : BlockTree) (p : PlanTree) (text : List ℕ) → IsBlock block → IsPlan block p → HasText p text → find (has_text text) (plans_of block) ≡ Some p
found-by-text block p text is plan has =
    first-is text p (plans_of block)
    (λ q there same. one-plan q p text (subst (HasText q) same (plan-has_text block q is (of-plans block q there))) has)
    (sym has.text) (in-plans block p plan)

-- where a tree that is no plan of the block has the text, none is found
pub not-found : (block : BlockTree) (p : PlanTree) (text : List ℕ) → IsBlock block → HasText p text → (IsPlan block p → ⊥) → find (has_text text) (plans_of block) ≡ None
not-found block p text is has not_plan =
    first-none text (plans_of block)
    (λ q there same. not_plan (subst (IsPlan block) (one-plan q p text (subst (HasText q) same (plan-has_text block q is (of-plans block q there))) has) (of-plans block q there)))

-- nor where no tree has it
pub unread : (block : BlockTree) (text : List ℕ) → IsBlock block → ((p : PlanTree) → HasText p text → ⊥) → find (has_text text) (plans_of block) ≡ None
unread block text is none =
    first-none text (plans_of block) (λ q there same. none q (subst (HasText q) same (plan-has_text block q is (of-plans block q there))))
