-- What the calls of statements say of what they returned, as a statement begins.
use Rattle.std.proofs.Common.{◌≡◌, refl, ℕ, ◌+◌, List, Option, arith}
use Rattle.std.specs.Prelude.{Result, Ok, Err, Vec}
use Rattle.std.specs.declared.alloc.Global.{Global}
use Rattle.sql_parse.specs.Trees.{StatementTree}
use Rattle.workspace.specs.Begins.{BeginsFree}
use Rattle.workspace.specs.declared.begun.Begun.{Begun}
use Rattle.workspace.specs.declared.begun.Begun.TheVariants as begun
use Rattle.workspace.specs.Outcome.{Outcome, refused_work}
use Rattle.workspace.specs.Returns.{ReturnsFree}
use Rattle.workspace.specs.Stop.{StopsAt}
use Rattle.workspace.specs.World.{World}
use Rattle.workspace.specs.declared.stop.Stop.{Stop}
use Rattle.workspace.specs.declared.stop.Stop.TheVariants as stop
use Rattle.session.specs.Begins.{BeginsAsDue, begun_with}
use Rattle.session.specs.Bounds.{Answers}
use Rattle.session.specs.Returns.{ReturnsDue}
use Rattle.session.specs.Statements.{statement_outcome}

-- what costs nothing is paid
pub returns_free : (next : World) (due : Outcome) (result : Result (Vec ℕ Global) Stop) (paid : ℕ) → ReturnsFree due result next → ReturnsDue due result next paid paid
returns_free next due (Ok text) paid returns = let nothing : paid ≡ paid + 0 = omega arith in (0, returns, nothing)
returns_free next due (Err (stop.Refused why)) paid returns =
    let none : refused_work why ≡ 0 = returns.1 in
    let nothing : paid ≡ paid + refused_work why = omega (arith, none) in
    (returns.0, nothing)
returns_free next due (Err stop.NoMemory) paid returns = tt

module _ (max_work : ℕ) (world : World) (statement : StatementTree) where
  abbrev outcome : Option (List ℕ) → Outcome
  outcome file = statement_outcome max_work world statement file

  -- a query stops before anything is paid
  pub answers_unpaid : (why : Stop) (paid : ℕ) → ((file : Option (List ℕ)) → StopsAt (outcome file) why) → Answers max_work world statement (Err why) paid paid
  answers_unpaid why paid stops = record {
    due = λ file. returns_free world (outcome file) (Err why) paid (stops file);
    bounded = tt;
    pays = record { never_falls = omega arith; within = omega arith };
  }

  -- a statement prints a text or stops, for work or for none
  pub begins_due : (next : World) (result : Result (Vec ℕ Global) Stop) (old new : ℕ) → ((file : Option (List ℕ)) → ReturnsDue (outcome file) result next old new)
      → BeginsAsDue max_work world statement (begun_with result) next old new
  begins_due next (Ok text) old new returns = returns
  begins_due next (Err why) old new returns = returns

  pub begins_free : (next : World) (result : Result (Vec ℕ Global) Stop) (paid : ℕ) → ((file : Option (List ℕ)) → ReturnsFree (outcome file) result next)
      → BeginsAsDue max_work world statement (begun_with result) next paid paid
  begins_free next result paid returns = begins_due next result paid paid (λ file. returns_free next (outcome file) result paid (returns file))

  -- a statement costs nothing
  pub begins_so : (result : Result Begun Stop) (paid : ℕ) → BeginsFree world statement outcome result → BeginsAsDue max_work world statement result world paid paid
  begins_so (Ok (begun.Prints text)) paid begins = λ file. returns_free world (outcome file) (Ok text) paid (begins file)
  begins_so (Ok (begun.Saves name bytes)) paid begins = (begins, refl, refl)
  begins_so (Ok (begun.Asks asked)) paid begins = (begins, refl, refl)
  begins_so (Err why) paid begins = λ file. returns_free world (outcome file) (Err why) paid (begins file)
