-- What each plan of a block costs and works, and which of them is worst.
use Rattle.std.specs.Prelude.{ℕ, ◌*◌, Bool, List, [], ◌∷◌, nat_le, nat_lt, if◌then◌else◌}
use Rattle.std.specs.List.{list_all}
use Rattle.query_block.specs.Blocks.{BlockTree}
use Rattle.plan_tree.specs.Plans.{PlanTree}
use Rattle.plan_tree.specs.Work.{work_of}
use Rattle.cost_model.specs.Costs.{cost_of}
use Rattle.db_catalog.specs.Database.{DatabaseState}
use Rattle.bouquet_type.specs.Trees.{BouquetTree}

-- what a plan costs at a point, and what it works on a block over a database
pub record Measure : Type 0 where
  pub cost : ℕ
  pub work : ℕ

abbrev pub measure_of : BouquetTree → BlockTree → DatabaseState → (point : List ℕ) → PlanTree → Measure
measure_of bouquet block database point p = record {
  cost = cost_of bouquet.costing p point;
  work = work_of database.tables block p;
}

-- whether no work is above its cost
abbrev pub are_within : List Measure → Bool
are_within measures = list_all (λ m. nat_le m.work m.cost) measures

-- whether the quotient of cost by work is greater for one than for another
abbrev pub is_worse : Measure → Measure → Bool
is_worse m other = nat_lt (other.cost * m.work) (m.cost * other.work)

-- the one with the greatest quotient of cost by work, the first of several
abbrev pub worst_of : List Measure → Measure
worst_of [] = record { cost = 0; work = 1 }
worst_of (m ∷ more) =
    let rest = worst_of more in
    if is_worse rest m then rest else m
