-- What a run of statements did, held against what is due to them.
use Rattle.std.specs.Prelude.{◌≡◌, ◌≢◌, ◌⊎◌, ℕ, ◌+◌, ◌≤◌, ⊤, false, Result, Ok, Err, IfErr, OnOk, IfSome, List, Option, Some, Vec, []}
use Rattle.std.specs.Io.KnownBytes.{Appends}
use Rattle.outside_io.specs.Count.{Rose, raised}
use Rattle.outside_io.specs.Files.{FolderState}
use Rattle.command_line.specs.Limits as limits
use Rattle.sql_parse.specs.Trees.{StatementTree}
use Rattle.session.specs.Bounds.{IsAnsweredWithin}
use Rattle.workspace.specs.Outcome.{Outcome, Refuses, refused_work}
use Rattle.workspace.specs.Refusal.{line_of}
use Rattle.session.specs.Statements.{statement_outcome}
use Rattle.workspace.specs.World.{World}
use Rattle.workspace.specs.declared.refusal.Refusal.{Refusal}
use Rattle.shell.specs.declared.outlets.Outlets.{Outlets}
use Rattle.shell.specs.declared.script.ScriptFault.{ScriptFault}
use Rattle.shell.specs.declared.script.ScriptFault.TheVariants as script_fault
use Rattle.shell.specs.declared.status.Status.{Status}
use Rattle.shell.specs.declared.status.Status.TheVariants as status
use Rattle.shell.specs.Script.{AreGiven, IsGivenStep, ScriptState, Step, at_start, left_by, printed_by, script_answer, step_outcome, IsGiven, IsMissing}
use Rattle.shell.specs.Serve.{BreaksBefore, BreaksOff, Carries, EndsAsDue, EndsWhole, HasFaults, IsScript, NeverFalls, NoneFailed, Serves, statements_of_steps}
use Rattle.std.specs.declared.alloc.Global.{Global}
use Rattle.workspace.specs.Given.{IsFileGiven}
use Rattle.workspace.specs.declared.begun.GivenFile.{GivenFile}
use Rattle.workspace.specs.declared.stop.Stop.{Stop}
use Rattle.workspace.specs.declared.stop.Stop.TheVariants as stop

-- what a read gave stands for the file, and nothing failed; or the run ends
abbrev pub ReadsFile : (file : Option (List ℕ)) → (before after : FolderState) → Result GivenFile Status → Type 0
ReadsFile file before after (Ok given) = IsFileGiven file given × NoneFailed before after
ReadsFile file before after (Err ended) = ((ended ≡ status.ReadFault) × HasFaults (raised before.read_faults) before.write_faults after) ⊎ ((ended ≡ status.NoMemory) × NoneFailed before after)

-- a read gave the file that the folder gives under a name, which it counted where it is missing, or the run ends
pub record GivesFile (name : List ℕ) (before after : FolderState) (result : Result GivenFile Status) : Type 0 where
  pub file : Option (List ℕ)
  pub given : IsGiven before.files (Rose before.misses after.misses) name file
  pub counts : (after.misses ≡ before.misses) ⊎ (IsMissing file × (after.misses ≡ raised before.misses))
  pub files : after.files ≡ before.files
  pub falls : NeverFalls before after
  pub reads : ReadsFile file before after result

-- the state of a script between two statements
abbrev pub state_of : World → FolderState → ScriptState
state_of world folder = record { world = world; files = folder.files }

-- a statement did what is due to it: it returned the text that is printed for work that was paid, and left the state; the files
-- stayed, unless there is nothing to print
pub record DoesDue (due : Outcome) (text : List ℕ) (state next : ScriptState) (old new : ℕ) : Type 0 where
  pub work : ℕ
  pub prints : printed_by due ≡ record { text = text; work = work; refused = false }
  pub leaves : left_by due state ≡ Some next
  pub spent : new ≡ old + work
  pub kept : text ≢ [] → next.files ≡ state.files

-- or it was refused as is due, for the work that the refusal prints; or memory ran out; or the run breaks off in front of it, and
-- nothing was paid for it
abbrev pub CarriesDue : (max_work : ℕ) → Step → (before after : FolderState) → (world next : World) → (old new : ℕ) → Result (Result (Vec ℕ Global) Stop) Status → Type 0
CarriesDue max_work step before after world next old new (Ok (Ok text)) =
    DoesDue (step_outcome max_work (state_of world before) step) text.items (state_of world before) (state_of next after) old new
CarriesDue max_work step before after world next old new (Ok (Err (stop.Refused why))) =
    (step_outcome max_work (state_of world before) step ≡ Refuses why) × (new ≡ old + refused_work why) × (after.files ≡ before.files)
CarriesDue max_work step before after world next old new (Ok (Err stop.NoMemory)) = after.files ≡ before.files
CarriesDue max_work step before after world next old new (Err ended) =
    (new ≡ old) × BreaksBefore max_work ⊥ before after (state_of world before) step ended [] 0

-- a statement was carried out, with the file that the folder gave for it, and no call of the folder failed; or the run ends
pub record IsCarriedOut (max_work : ℕ) (statement : StatementTree) (before after : FolderState) (world next : World) (old new : ℕ) (result : Result (Result (Vec ℕ Global) Stop) Status) : Type 0 where
  pub file : Option (List ℕ)
  pub given : IsGivenStep (state_of world before) (record { statement = statement; file = file }) before.misses after.misses
  pub falls : NeverFalls before after
  pub quiet : OnOk result (NoneFailed before after)
  pub does : CarriesDue max_work (record { statement = statement; file = file }) before after world next old new result

-- a refusal of the whole script is the one that is due; out of memory fits any script
abbrev pub RefusesScript : List ℕ → ScriptFault → Type 0
RefusesScript script (script_fault.Refused why) = IsScript script (Err why)
RefusesScript script script_fault.NoMemory = ⊤

-- an outcome behind which the run goes on: its text was put, its work paid and its state left
pub record LeadsOn (due : Outcome) (state next : ScriptState) (had got : Option (List ℕ)) (old new : ℕ) : Type 0 where
  pub text : List ℕ
  pub work : ℕ
  pub prints : printed_by due ≡ record { text = text; work = work; refused = false }
  pub leaves : left_by due state ≡ Some next
  pub put : Appends had got text
  pub spent : new ≡ old + work

-- a step at which it ends: it is refused, and the whole line was put; or the run broke off in front of it, with this part of its
-- text put and this much paid for it
pub data EndsAt (max_work : ℕ) (sink_failed : Type 0) (step : Step) (state : ScriptState) (before after : FolderState) (had got : Option (List ℕ)) (old new : ℕ) : Status → Type 0 where
  refuses : (why : Refusal) → step_outcome max_work state step ≡ Refuses why → Appends had got (line_of why) → new ≡ old + refused_work why → NoneFailed before after → after.files ≡ before.files
      → EndsAt max_work sink_failed step state before after had got old new status.Refused
  breaks : (ended : Status) (part : List ℕ) (spent : ℕ) → Appends had got part → new ≡ old + spent → BreaksBefore max_work sink_failed before after state step ended part spent
      → EndsAt max_work sink_failed step state before after had got old new ended

-- what came of a statement, with the file that the folder gave for it: the run goes on, an answer being within its bound, or ends
pub record CarriesOne {T : Type 0} (max_work : ℕ) (sink_failed : Type 0) (statement : StatementTree) (before after : FolderState) (world next : World) (old new : ℕ) (result : Result T Status) (had got : Option (List ℕ)) : Type 0 where
  pub file : Option (List ℕ)
  pub given : IsGivenStep (state_of world before) (record { statement = statement; file = file }) before.misses after.misses
  pub falls : NeverFalls before after
  pub quiet : OnOk result (NoneFailed before after)
  pub bounded : OnOk result (IsAnsweredWithin world statement)
  pub goes : OnOk result (LeadsOn (statement_outcome max_work world statement file) (state_of world before) (state_of next after) had got old new)
  pub ends : IfErr result (EndsAt max_work sink_failed (record { statement = statement; file = file }) (state_of world before) before after had got old new)

-- what came of all statements, for which nothing was paid before: an answer, and the run ended as its text does or broke off
pub record CarriesAll (max_work : ℕ) (sink_failed : Type 0) (statements : List StatementTree) (before after : FolderState) (ended : Status) (had got : Option (List ℕ)) (paid : ℕ) : Type 0 where
  pub steps : List Step
  pub are : statements_of_steps steps ≡ statements
  pub given : AreGiven max_work (at_start before.files) steps before.misses after.misses
  pub falls : NeverFalls before after
  pub carries : Carries (script_answer max_work (at_start before.files) steps) ended had got
  pub whole : EndsAsDue ended → EndsWhole max_work before after (script_answer max_work (at_start before.files) steps) paid (Ok steps)
  pub broken : ¬ EndsAsDue ended → BreaksOff max_work sink_failed ended before after had got paid steps

-- a status names what failed
pub record HasCauses (source_failed sink_failed : Type 0) (before after : FolderState) (ended : Status) : Type 0 where
  pub words : ended ≢ status.BadWords
  pub read_fault : ended ≡ status.ReadFault → source_failed ⊎ Rose before.read_faults after.read_faults
  pub write_fault : ended ≡ status.WriteFault → sink_failed ⊎ Rose before.write_faults after.write_faults

-- a run over a script, where it is known, up to its end or as far as it got: what is said of every such run. Nothing was paid before
pub record RunsScript (max_work : ℕ) (source_failed sink_failed : Type 0) (script : Option (List ℕ)) (before after : FolderState) (ended : Status) (had got : Option (List ℕ)) (paid : ℕ) : Type 0 where
  pub serves : IfSome script (λ bytes. Serves max_work source_failed sink_failed bytes before after ended had got paid)
  pub causes : HasCauses source_failed sink_failed before after ended
  pub folder : NeverFalls before after
  pub unread : IfSome script (λ bytes. (why : Refusal) → IsScript bytes (Err why) → after ≡ before)
  pub unpaid : IfSome script (λ bytes. (why : Refusal) → IsScript bytes (Err why) → paid ≡ 0)

-- nothing was paid, and a query may cost no more than the limit
pub record IsUnpaid {F K : Type 0} (outlets : Outlets F K) : Type 0 where
  pub most : outlets.max_work ≤ limits.max_work
  pub unpaid : outlets.book.now ≡ 0

-- it is lent what it was lent, by the same lenders, and a query may cost as much; no count of faults of the sink falls
pub record KeepsOutlets {F K : Type 0} (faults : K → ℕ) (old new : Outlets F K) : Type 0 where
  pub most : new.max_work ≡ old.max_work
  pub folder : new.folder.ghost_name ≡ old.folder.ghost_name
  pub sink : new.sink.ghost_name ≡ old.sink.ghost_name
  pub book : new.book.ghost_name ≡ old.book.ghost_name
  pub never_falls : faults old.sink.now ≤ faults new.sink.now
