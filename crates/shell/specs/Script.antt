-- The answer to a script: its statements one after another, up to and with the first that is refused.
use Rattle.std.specs.Prelude.{ℕ, ⊤, ◌+◌, Bool, true, false, List, [], ◌∷◌, ◌++◌, Option, Some, None, IfSome, option_map, Result, Ok, Err, ◌≡◌, ◌⊎◌, ◌<◌, ◌≤◌, length, IsSomeAnd, MatchOption}
use Rattle.std.specs.Option.{option_and_then, option_map_or}
use Rattle.outside_io.specs.Count.{Rose, raised}
use Rattle.outside_io.specs.Files.{Files, with_file, held_file}
use Rattle.sql_parse.specs.Trees.{StatementTree}
use Rattle.session.specs.Bounds.{IsAnsweredWithin}
use Rattle.workspace.specs.Outcome.{Outcome, Prints, Saves, Refuses, refused_work}
use Rattle.workspace.specs.Refusal.{line_of}
use Rattle.workspace.specs.Files.{AsksForFile, asked_name}
use Rattle.session.specs.Statements.{statement_outcome}
use Rattle.workspace.specs.World.{World, nothing_made}
use Rattle.workspace.specs.declared.refusal.Refusal.{Refusal}
use Rattle.sql_values.specs.Limits.{max_file_bytes}

-- the file that a folder of these files gives under a name: what it holds there; where its files are unknown, a file that a
-- read can give, or a miss was counted
abbrev pub IsGiven : Option Files → (missed : Type 0) → List ℕ → Option (List ℕ) → Type 0
IsGiven held missed name file =
    MatchOption held (IsSomeAnd file (λ bytes. length bytes ≤ max_file_bytes) ⊎ missed) (λ files. file ≡ held_file files name)

-- the file that it gives for a statement, where that may ask for one
abbrev pub IsGivenFor : Option Files → (missed : Type 0) → StatementTree → Option (List ℕ) → Type 0
IsGivenFor held missed statement file = MatchOption (asked_name statement) (file ≡ None) (λ name. IsGiven held missed name file)

-- there is no such file, or it is too long
abbrev pub IsMissing : Option (List ℕ) → Type 0
IsMissing None = ⊤
IsMissing (Some bytes) = max_file_bytes < length bytes

-- a statement, and the file that the folder gives for it
pub record Step : Type 0 where
  pub statement : StatementTree
  pub file : Option (List ℕ)

-- a text, the work that its lines print, all together, and whether a refusal ended it
pub record Answer : Type 0 where
  pub text : List ℕ
  pub work : ℕ
  pub refused : Bool

-- the state of a script: what its statements have made, and the files of the folder, where they are known
pub record ScriptState : Type 0 where
  pub world : World
  pub files : Option Files

-- before the first statement, over a folder of these files
abbrev pub at_start : Option Files → ScriptState
at_start files = record { world = nothing_made; files = files }

-- what comes of a step
abbrev pub step_outcome : (max_work : ℕ) → ScriptState → Step → Outcome
step_outcome max_work state step = statement_outcome max_work state.world step.statement step.file

-- the state that an outcome leaves; a refusal leaves none
abbrev pub left_by : Outcome → ScriptState → Option ScriptState
left_by (Prints text work world) state = Some (record state { world = world })
left_by (Saves name bytes) state = Some (record state { files = option_map (λ files. with_file files name bytes) state.files })
left_by (Refuses why) state = None

-- what an outcome prints and costs
abbrev pub printed_by : Outcome → Answer
printed_by (Prints text work world) = record { text = text; work = work; refused = false }
printed_by (Saves name bytes) = record { text = []; work = 0; refused = false }
printed_by (Refuses why) = record { text = line_of why; work = refused_work why; refused = true }

-- a step's answer, and that of the steps behind it in the state that it leaves, where it leaves one
abbrev pub and_then : Answer → Option ScriptState → (ScriptState → Answer) → Answer
and_then here None rest = here
and_then here (Some next) rest =
    let after = rest next in
    record { text = here.text ++ after.text; work = here.work + after.work; refused = after.refused }

-- the answer to steps from a state
abbrev pub script_answer : (max_work : ℕ) → ScriptState → List Step → Answer
script_answer max_work state [] = record { text = []; work = 0; refused = false }
script_answer max_work state (step ∷ rest) =
    let due = step_outcome max_work state step in
    and_then (printed_by due) (left_by due state) (λ next. script_answer max_work next rest)

-- the state that these steps leave, where none of them is refused
abbrev pub state_after : (max_work : ℕ) → ScriptState → List Step → Option ScriptState
state_after max_work state [] = Some state
state_after max_work state (step ∷ rest) =
    option_and_then (λ next. state_after max_work next rest) (left_by (step_outcome max_work state step) state)

-- the files that the folder holds after these steps, up to and with the first that is refused
abbrev pub files_after : (max_work : ℕ) → ScriptState → List Step → Option Files
files_after max_work state [] = state.files
files_after max_work state (step ∷ rest) =
    option_map_or (λ next. files_after max_work next rest) (left_by (step_outcome max_work state step) state) state.files

-- the folder gives the file of a step, whose own miss is counted while the count goes from here to there: it stayed, or it is one
-- higher, as the statement asks for a file that is missing
pub record IsGivenStep (state : ScriptState) (step : Step) (before after : ℕ) : Type 0 where
  pub counts : (after ≡ before) ⊎ (AsksForFile state.world step.statement × IsMissing step.file × (after ≡ raised before))
  pub given : IsGivenFor state.files (Rose before after) step.statement step.file

-- the folder gives each step's file, up to and with the first that is refused, and its count of misses goes from step to step
abbrev pub AreGiven : (max_work : ℕ) → ScriptState → List Step → (before after : ℕ) → Type 0
AreGiven max_work state [] before after = after ≡ before
AreGiven max_work state (step ∷ rest) before after =
    (now : ℕ) × IsGivenStep state step before now
    × MatchOption (left_by (step_outcome max_work state step) state) (after ≡ now) (λ next. AreGiven max_work next rest now after)

-- each query among these steps that is answered is within the bound, and each bouquet that is checked is as its verdict says
abbrev pub AreAnsweredWithin : (max_work : ℕ) → ScriptState → List Step → Type 0
AreAnsweredWithin max_work state [] = ⊤
AreAnsweredWithin max_work state (step ∷ rest) =
    IfSome (left_by (step_outcome max_work state step) state)
    (λ next. IsAnsweredWithin state.world step.statement × AreAnsweredWithin max_work next rest)

-- the answer to a script of these statements over a folder of these files, or to one that is refused whole
abbrev pub answer_of : (max_work : ℕ) → Option Files → Result (List Step) Refusal → Answer
answer_of max_work files (Err why) = record { text = line_of why; work = 0; refused = true }
answer_of max_work files (Ok steps) = script_answer max_work (at_start files) steps
