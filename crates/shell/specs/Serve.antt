-- What is due to a script, and what a run of the program did of it.
use Rattle.std.specs.Prelude.{◌≡◌, ◌≢◌, ◌⊎◌, ℕ, ◌+◌, ◌<◌, ◌≤◌, true, false, List, [], ◌∷◌, ◌++◌, take, length, map, codes, Option, Some, None, IsSomeAnd, Result, Ok, Err, IfOk, IfErr, if◌then◌else◌}
use Rattle.std.specs.Io.KnownBytes.{Appends, Keeps}
use Rattle.outside_io.specs.Count.{Rose, raised}
use Rattle.outside_io.specs.Files.{FolderState, KeepsOthers}
use Rattle.sql_lex.specs.declared.token.Token.{Token}
use Rattle.sql_lex.specs.declared.fault.LexFault.{LexFault}
use Rattle.sql_lex.specs.Tokens.{Tokens, IsFirstFault}
use Rattle.sql_parse.specs.Trees.{StatementTree}
use Rattle.sql_parse.specs.Script.{AreStatements, IsFirstRefused}
use Rattle.sql_values.specs.Limits.{max_script_bytes}
use Rattle.sql_values.specs.declared.limit.LimitName.TheVariants as limit
use Rattle.command_line.specs.Words.{options_of}
use Rattle.workspace.specs.Refusal.{line_of}
use Rattle.workspace.specs.Files.{AsksForFile, WritesFile}
use Rattle.workspace.specs.declared.refusal.Refusal.{Refusal}
use Rattle.workspace.specs.declared.refusal.Refusal.TheVariants as refusal
use Rattle.demo_data.specs.Demo.{demo_files, demo_script}
use Rattle.shell.specs.Script.{Answer, AreAnsweredWithin, AreGiven, ScriptState, Step, answer_of, at_start, files_after, printed_by, script_answer, state_after, step_outcome}
use Rattle.shell.specs.declared.status.Status.{Status}
use Rattle.shell.specs.declared.status.Status.TheVariants as status

-- the number with which the program ends
abbrev pub exit_number : Status → ℕ
exit_number status.Done = 0
exit_number status.Refused = 1
exit_number status.BadWords = 2
exit_number status.ReadFault = 3
exit_number status.WriteFault = 4
exit_number status.NoMemory = 5

-- the words ask for a run of the source's script
abbrev pub RunsSource : List (List ℕ) → Type 0
RunsSource words = IsSomeAnd (options_of words) (λ options. options.demo ≡ None)

-- how a script is read: as its statements; or it is refused whole, since it is too long, or by its first fault of
-- tokens, or by its first piece that is no statement
pub data IsScript (script : List ℕ) : Result (List StatementTree) Refusal → Type 0 where
  too_long : max_script_bytes < length script
      → IsScript script (Err (refusal.PastLimit limit.Script (max_script_bytes + 1)))
  no_token : length script ≤ max_script_bytes → (fault : LexFault) → IsFirstFault script fault.place fault.kind
      → IsScript script (Err (refusal.NoToken fault))
  no_statement : length script ≤ max_script_bytes → (tokens : List Token) → Tokens script tokens
      → (place : ℕ) → IsFirstRefused script tokens place
      → IsScript script (Err (refusal.NoStatement place))
  has_statements : length script ≤ max_script_bytes → (tokens : List Token) → Tokens script tokens
      → (statements : List StatementTree) → AreStatements script tokens statements
      → IsScript script (Ok statements)

-- the statements of these steps
abbrev pub statements_of_steps : List Step → List StatementTree
statements_of_steps steps = map (λ step. step.statement) steps

abbrev pub statements_read : Result (List Step) Refusal → Result (List StatementTree) Refusal
statements_read (Ok steps) = Ok (statements_of_steps steps)
statements_read (Err why) = Err why

-- the answer that is due to a script over a folder, of which this is known before and after the run; a query may cost so much
pub record IsAnswer (max_work : ℕ) (script : List ℕ) (old new : FolderState) (answer : Answer) : Type 0 where
  pub steps : Result (List Step) Refusal
  pub reads : IsScript script (statements_read steps)
  pub given : IfOk steps (λ these. AreGiven max_work (at_start old.files) these old.misses new.misses)
  pub is : answer ≡ answer_of max_work old.files steps

-- a sink that held `old` got the whole text where the run ended as the text does, and a beginning of it in any
-- case (after a fault that may be the whole text too)
pub record Carries (answer : Answer) (ended : Status) (old new : Option (List ℕ)) : Type 0 where
  pub done : ended ≡ status.Done → (answer.refused ≡ false) × Appends old new answer.text
  pub refused : ended ≡ status.Refused → (answer.refused ≡ true) × Appends old new answer.text
  pub beginning : (n : ℕ) × Appends old new (take n answer.text)

-- the run ended as the script's text does
abbrev pub EndsAsDue : Status → Type 0
EndsAsDue ended = (ended ≡ status.Done) ⊎ (ended ≡ status.Refused)

-- so often a folder's reads and its writes failed
pub record HasFaults (read_faults write_faults : ℕ) (folder : FolderState) : Type 0 where
  pub reads : folder.read_faults ≡ read_faults
  pub writes : folder.write_faults ≡ write_faults

-- none of its calls failed
abbrev pub NoneFailed : (old new : FolderState) → Type 0
NoneFailed old new = HasFaults old.read_faults old.write_faults new

-- a run that ended so: the folder holds what the steps leave, and was left alone by a script that is refused whole; none of
-- its calls failed, exactly the work that SELECT and RUN print was paid, and each query was answered within its bound
pub record EndsWhole (max_work : ℕ) (old new : FolderState) (answer : Answer) (paid : ℕ) (steps : Result (List Step) Refusal) : Type 0 where
  pub files : IfOk steps (λ these. new.files ≡ files_after max_work (at_start old.files) these)
  pub untouched : IfErr steps (λ _. new ≡ old)
  pub quiet : NoneFailed old new
  pub pays : paid ≡ answer.work
  pub bounds : IfOk steps (AreAnsweredWithin max_work (at_start old.files))

-- a run that broke off before the script was read: the source failed, or memory was out; nothing was done
pub record IsUnread (source_failed : Type 0) (ended : Status) (old new : FolderState) (before after : Option (List ℕ)) (paid : ℕ) : Type 0 where
  pub cause : ((ended ≡ status.ReadFault) × source_failed) ⊎ (ended ≡ status.NoMemory)
  pub folder : new ≡ old
  pub sink : after ≡ before
  pub unpaid : paid ≡ 0

-- why a run broke off in front of this step, how it ended, which part of the step's text went out, and what was paid for it.
-- Where the sink failed, a beginning went out, and all that the step costs was paid. Where the folder failed, nothing went out,
-- and nothing was paid. Where memory ran out, nothing went out, and at most what a query may cost was paid. The folder holds what
-- the steps before leave, but for a file that couldn't be written, which may hold anything; one of its calls failed, or none
pub data BreaksBefore (max_work : ℕ) (sink_failed : Type 0) (old new : FolderState) (state : ScriptState) (step : Step) : Status → (part : List ℕ) → (spent : ℕ) → Type 0 where
  no_read : HasFaults (raised old.read_faults) old.write_faults new → AsksForFile state.world step.statement → new.files ≡ state.files
      → BreaksBefore max_work sink_failed old new state step status.ReadFault [] 0
  no_write : HasFaults old.read_faults (raised old.write_faults) new → (name : List ℕ) → WritesFile state.world step.statement name → KeepsOthers name state.files new.files
      → BreaksBefore max_work sink_failed old new state step status.WriteFault [] 0
  no_put : sink_failed → (printed_by (step_outcome max_work state step)).text ≢ [] → NoneFailed old new → new.files ≡ state.files → (n : ℕ)
      → BreaksBefore max_work sink_failed old new state step status.WriteFault (take n (printed_by (step_outcome max_work state step)).text) (printed_by (step_outcome max_work state step)).work
  no_memory : (spent : ℕ) → spent ≤ max_work → NoneFailed old new → new.files ≡ state.files
      → BreaksBefore max_work sink_failed old new state step status.NoMemory [] spent

-- a run that broke off among these steps: the texts of the earlier ones, none of which is refused, went out whole, and that part
-- behind them; what was paid is exactly their work and what was paid for the next; each query among them was answered within its
-- bound
pub record BreaksOff (max_work : ℕ) (sink_failed : Type 0) (ended : Status) (old new : FolderState) (before after : Option (List ℕ)) (paid : ℕ) (steps : List Step) : Type 0 where
  pub earlier : List Step
  pub step : Step
  pub later : List Step
  pub are : steps ≡ earlier ++ step ∷ later
  pub state : ScriptState
  pub reached : state_after max_work (at_start old.files) earlier ≡ Some state
  pub part : List ℕ
  pub spent : ℕ
  pub cause : BreaksBefore max_work sink_failed old new state step ended part spent
  pub put : Appends before after ((script_answer max_work (at_start old.files) earlier).text ++ part)
  pub pays : paid ≡ (script_answer max_work (at_start old.files) earlier).work + spent
  pub bounds : AreAnsweredWithin max_work (at_start old.files) earlier

-- a run that broke off at the line of a script that is refused whole: a beginning of it went out where the sink failed, and
-- else nothing; nothing else was done
pub record BreaksOffLine (sink_failed : Type 0) (ended : Status) (old new : FolderState) (before after : Option (List ℕ)) (paid : ℕ) (line : List ℕ) : Type 0 where
  pub put : ((ended ≡ status.WriteFault) × sink_failed × ((n : ℕ) × Appends before after (take n line))) ⊎ ((ended ≡ status.NoMemory) × Keeps before after)
  pub folder : new ≡ old
  pub unpaid : paid ≡ 0

-- one answer is due to the script; a run that ended as its text does did all of it, and every other broke off before the script
-- was read, among its steps or at the line that refuses it; one in which nothing failed ended as the answer does, or out of memory
pub record Serves (max_work : ℕ) (source_failed sink_failed : Type 0) (script : List ℕ) (old new : FolderState) (ended : Status) (before after : Option (List ℕ)) (paid : ℕ) : Type 0 where
  pub answer : Answer
  pub due : IsAnswer max_work script old new answer
  pub carries : Carries answer ended before after
  pub whole : EndsAsDue ended → EndsWhole max_work old new answer paid due.steps
  pub broken : ¬ EndsAsDue ended → IsUnread source_failed ended old new before after paid
      ⊎ (IfOk due.steps (BreaksOff max_work sink_failed ended old new before after paid)
      × IfErr due.steps (λ why. BreaksOffLine sink_failed ended old new before after paid (line_of why)))
  pub decided : ¬ source_failed → ¬ sink_failed → ¬ Rose old.read_faults new.read_faults → ¬ Rose old.write_faults new.write_faults
      → (ended ≡ (if answer.refused then status.Refused else status.Done)) ⊎ (ended ≡ status.NoMemory)

-- the folder of the demonstration of this number, before its script is carried out
abbrev pub demo_folder : ℕ → FolderState
demo_folder number = record { files = Some (demo_files number); read_faults = 0; write_faults = 0; misses = 0 }

-- a run of the demonstration of this number: its script was carried out over its folder, of which afterwards this is known, and no
-- call of it failed; so where the sink didn't fail either, the run ended as its answer does, or out of memory
pub record Demonstrates (max_work number : ℕ) (sink_failed : Type 0) (ended : Status) (before after : Option (List ℕ)) (paid : ℕ) : Type 0 where
  pub left : FolderState
  pub serves : Serves max_work ⊥ sink_failed demo_script (demo_folder number) left ended before after paid
  pub no_read_failed : left.read_faults ≡ 0
  pub no_write_failed : left.write_faults ≡ 0

-- no count of a folder falls
pub record NeverFalls (old new : FolderState) : Type 0 where
  pub read_faults : old.read_faults ≤ new.read_faults
  pub write_faults : old.write_faults ≤ new.write_faults
  pub misses : old.misses ≤ new.misses

-- the line for a command line whose arguments aren't well-formed
abbrev pub usage_line : List ℕ
usage_line = codes "usage: bouquet [--max-work N] [--demo N]\n"

-- a run whose arguments were refused: the sink got the whole usage line where the run ended so, nothing where memory ran out, and
-- a beginning of the line in any case (after a fault that may be the whole line too)
pub record RefusesWords (line : List ℕ) (ended : Status) (old new : Option (List ℕ)) : Type 0 where
  pub kinds : (ended ≡ status.BadWords) ⊎ ((ended ≡ status.WriteFault) ⊎ (ended ≡ status.NoMemory))
  pub whole : ended ≡ status.BadWords → Appends old new line
  pub nothing : ended ≡ status.NoMemory → Keeps old new
  pub beginning : (n : ℕ) × Appends old new (take n line)
