-- How a statement begins, held against what is due to it.
use Rattle.std.specs.Prelude.{◌≡◌, ℕ, List, Option, Result, Ok, Err, Vec}
use Rattle.std.specs.declared.alloc.Global.{Global}
use Rattle.sql_parse.specs.Trees.{StatementTree}
use Rattle.workspace.specs.Begins.{AsksAsDue, SavesAsDue}
use Rattle.workspace.specs.World.{World}
use Rattle.workspace.specs.declared.begun.Begun.{Begun}
use Rattle.workspace.specs.declared.begun.Begun.TheVariants as begun
use Rattle.workspace.specs.declared.stop.Stop.{Stop}
use Rattle.session.specs.Returns.{ReturnsDue}
use Rattle.session.specs.Statements.{statement_outcome}

-- a text that a statement returned is what it begins with
abbrev pub begun_with : Result (Vec ℕ Global) Stop → Result Begun Stop
begun_with (Ok text) = Ok (begun.Prints text)
begun_with (Err why) = Err why

-- a text and a stop are due whatever the file; or a file is to be written or asked for, nothing was paid, and the state stays
abbrev pub BeginsAsDue : (max_work : ℕ) → World → StatementTree → Result Begun Stop → (next : World) → (old new : ℕ) → Type 0
BeginsAsDue max_work world statement (Ok (begun.Prints text)) next old new =
    (file : Option (List ℕ)) → ReturnsDue (statement_outcome max_work world statement file) (Ok text) next old new
BeginsAsDue max_work world statement (Ok (begun.Saves name bytes)) next old new =
    SavesAsDue world statement (statement_outcome max_work world statement) name bytes × (next ≡ world) × (new ≡ old)
BeginsAsDue max_work world statement (Ok (begun.Asks asked)) next old new =
    AsksAsDue world statement (statement_outcome max_work world statement) asked × (next ≡ world) × (new ≡ old)
BeginsAsDue max_work world statement (Err why) next old new =
    (file : Option (List ℕ)) → ReturnsDue (statement_outcome max_work world statement file) (Err why) next old new
