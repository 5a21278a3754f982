-- What each private function of the reader returns: the value at the front of a text and what follows it, or none. No
-- public clause cites this file; the proofs tie it to the texts of plans in both directions.
use Rattle.std.specs.Prelude.{ℕ, zero, suc, ◌≡◌, ◌+◌, ◌-◌, ◌*◌, ◌&&◌, List, [], ◌∷◌, Option, Some, None, option_and_then, Result, Ok, Err, nat_le, nat_eq, if◌then◌else◌}
use Rattle.std.specs.Borrow.{Bor}
use Rattle.plan_tree.specs.declared.plan.Plan.{Plan}
use Rattle.plan_tree.specs.declared.read.PlanFault.{PlanFault}
use Rattle.plan_tree.specs.declared.read.PlanFault.TheVariants as faults
use Rattle.plan_tree.specs.Plans.{plan_tree, PlanTree, Scan, IndexScan, Nest, Hash, Merge, IndexLoop}

-- what a function returned, seen by view, is what reading gives, unless memory ran out
abbrev pub GivesRead : {X Y : Type 0} → (X → Y) → Result X PlanFault → Option Y → Type 0
GivesRead view (Ok x) read = read ≡ Some (view x)
GivesRead view (Err faults.NotPlanText) read = read ≡ None
GivesRead view (Err faults.NoMemory) read = Unit {0}

-- the same of a plan and what follows it
abbrev pub GivesPlan : Result (Plan × Bor (List ℕ)) PlanFault → Option (PlanTree × List ℕ) → Type 0
GivesPlan result read = GivesRead (λ found. (plan_tree found.0, found.1.now)) result read

-- reading from the front of a text: a value and what follows it
abbrev pub TextReader : Type 0 → Type 0
TextReader A = List ℕ → Option (A × List ℕ)

infixl 10 ◌>>=◌
abbrev pub ◌>>=◌ : {A B : Type 0} → Option A → (A → Option B) → Option B
o >>= f = option_and_then f o

-- what follows a sign
unfoldable pub after : (sign : ℕ) → List ℕ → Option (List ℕ)
after sign [] = None
after sign (first ∷ rest) = if nat_eq first sign then Some rest else None

-- a digit of at most `most`
unfoldable pub digit_at : (most : ℕ) → TextReader ℕ
digit_at most [] = None
digit_at most (first ∷ rest) = if nat_le 48 first && nat_le (first - 48) most then Some (first - 48, rest) else None

-- a digit, and a second one where it follows: then a number from 10 to 31
unfoldable pub with_second : (first : ℕ) → (rest : List ℕ) → Option (ℕ × List ℕ) → Option (ℕ × List ℕ)
with_second first rest None = Some (first, rest)
with_second first rest (Some second) =
    let column = 10 * first + second.0 in if nat_le 10 column && nat_le column 31 then Some (column, second.1) else None

unfoldable pub column_number_at : TextReader ℕ
column_number_at text = do
  first ← digit_at 9 text
  with_second first.0 first.1 (digit_at 9 first.1)

unfoldable pub scan_at : TextReader PlanTree
scan_at text = do
  relation ← digit_at 5 text
  Some (Scan relation.0, relation.1)

unfoldable pub index_scan_at : TextReader PlanTree
index_scan_at text = do
  relation ← digit_at 5 text
  rest ← after 46 relation.1
  column ← column_number_at rest
  Some (IndexScan relation.0 column.0, column.1)

-- a value and the sign after it
unfoldable pub closed_at : {A : Type 0} → TextReader A → (sign : ℕ) → TextReader A
closed_at inside sign text = do
  x ← inside text
  rest ← after sign x.1
  Some (x.0, rest)

-- both sides of a join
unfoldable pub sides_at : {B : Type 0} → TextReader PlanTree → TextReader B → TextReader (PlanTree × B)
sides_at side other text = do
  inside ← after 40 text
  left ← closed_at side 44 inside
  right ← closed_at other 41 left.1
  Some ((left.0, right.0), right.1)

unfoldable pub nest_at : TextReader PlanTree → TextReader PlanTree
nest_at side text = do
  sides ← sides_at side side text
  Some (Nest sides.0.0 sides.0.1, sides.1)

-- a join by an edge
unfoldable pub join_at : {B : Type 0} → (ℕ → PlanTree → B → PlanTree) → TextReader PlanTree → TextReader B → TextReader PlanTree
join_at node side other text = do
  edge ← digit_at 5 text
  sides ← sides_at side other edge.1
  Some (node edge.0 sides.0.0 sides.0.1, sides.1)

-- what follows the letter of a node
unfoldable pub plan_node_of : TextReader PlanTree → (letter : ℕ) → TextReader PlanTree
plan_node_of side letter text =
    if nat_eq letter 83 then scan_at text
    else if nat_eq letter 73 then index_scan_at text
    else if nat_eq letter 78 then nest_at side text
    else if nat_eq letter 72 then join_at Hash side side text
    else if nat_eq letter 77 then join_at Merge side side text
    else if nat_eq letter 88 then join_at IndexLoop side (digit_at 5) text
    else None

-- a plan of at most so many nodes one below the other
unfoldable pub plan_tree_at : (levels : ℕ) → TextReader PlanTree
plan_tree_at zero text = None
plan_tree_at (suc levels) [] = None
plan_tree_at (suc levels) (letter ∷ rest) = plan_node_of (plan_tree_at levels) letter rest
