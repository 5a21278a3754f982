-- A statement that the session began so, and finished, is carried out.
use Rattle.std.proofs.Common.{◌≡◌, ◌∙◌, ◌⊎◌, inl, inr, ℕ, ◌+◌, List, [], Option, None, refl, sym, ap, subst, arith, false, Some}
use Rattle.std.specs.Prelude.{IsErrOf, MatchOption, OnOk, Vec, Result, Ok, Err, option_map}
use Rattle.std.specs.declared.alloc.Global.{Global}
use Rattle.outside_io.specs.Count.{Rose, raised}
use Rattle.outside_io.specs.Files.{FolderState, KeepsOthers, OnlyWrites, with_file}
use Rattle.outside_io.specs.declared.fault.FileFault.{FileFault}
use Rattle.outside_io.specs.declared.fault.FileFault.TheVariants as fault
use Rattle.sql_parse.specs.Trees.{StatementTree}
use Rattle.workspace.specs.Begins.{pending_outcome}
use Rattle.session.specs.Begins.{BeginsAsDue}
use Rattle.workspace.specs.Given.{at_file}
use Rattle.workspace.specs.Outcome.{Outcome, refused_work}
use Rattle.workspace.specs.Returns.{ReturnsFree}
use Rattle.session.specs.Statements.{statement_outcome}
use Rattle.workspace.specs.World.{World}
use Rattle.workspace.specs.declared.begun.Asked.{Asked}
use Rattle.workspace.specs.declared.begun.Begun.TheVariants as begun
use Rattle.workspace.specs.declared.begun.GivenFile.{GivenFile}
use Rattle.workspace.specs.declared.stop.Stop.{Stop}
use Rattle.workspace.specs.declared.stop.Stop.TheVariants as stop
use Rattle.shell.specs.Due.{CarriesDue, GivesFile, IsCarriedOut, state_of}
use Rattle.shell.specs.Script.{IsGiven, IsGivenFor, IsGivenStep, IsMissing, Step, printed_by, left_by}
use Rattle.shell.specs.Serve.{BreaksBefore, HasFaults, NeverFalls, NoneFailed}
use Rattle.shell.specs.Serve.BreaksBefore.{no_read, no_write, no_memory}
use Rattle.shell.specs.declared.status.Status.{Status}
use Rattle.shell.specs.declared.status.Status.TheVariants as status
use Rattle.shell.proofs.Folders.{falls_none, quiet_none, any_given_for}

module _ (max_work : ℕ) (statement : StatementTree) (world next : World) (before : FolderState) (old new : ℕ) where
  -- nothing was asked of the folder
  abbrev any : (file : Option (List ℕ)) × IsGivenFor before.files (Rose before.misses before.misses) statement file
  any = any_given_for (Rose before.misses before.misses) before.files statement

  abbrev step : Step
  step = record { statement = statement; file = any.0 }

  unread : (returned : Result (Vec ℕ Global) Stop) → CarriesDue max_work step before before world next old new (Ok returned) → IsCarriedOut max_work statement before before world next old new (Ok returned)
  unread returned does = record { file = any.0; given = record { counts = inl refl; given = any.1 }; falls = falls_none before; quiet = quiet_none before; does = does }

  pub carried_prints : (text : Vec ℕ Global) → BeginsAsDue max_work world statement (Ok (begun.Prints text)) next old new → IsCarriedOut max_work statement before before world next old new (Ok (Ok text))
  carried_prints text begins = unread (Ok text)
      (let due = begins any.0 in record { work = due.0; prints = ap printed_by due.1; leaves = ap (λ (o : Outcome). left_by o (state_of world before)) due.1; spent = due.2; kept = λ _. refl })

  pub carried_stops : (why : Stop) → BeginsAsDue max_work world statement (Err why) next old new → IsCarriedOut max_work statement before before world next old new (Ok (Err why))
  carried_stops (stop.Refused why) begins = unread (Err (stop.Refused why)) ((begins any.0).0, (begins any.0).1, refl)
  carried_stops stop.NoMemory begins = unread (Err stop.NoMemory) refl

  -- a file was to be written
  module _ (after : FolderState) (name : List ℕ) (bytes : Vec ℕ Global) (begins : BeginsAsDue max_work world statement (Ok (begun.Saves name bytes)) next old new) where
    given_any : (file : Option (List ℕ)) × IsGivenFor before.files (Rose before.misses after.misses) statement file
    given_any = any_given_for (Rose before.misses after.misses) before.files statement

    module _ {T : Type 0} (wrote : Result T FileFault) (writes : OnlyWrites wrote before after) where
      falls : NeverFalls before after
      falls = record { read_faults = omega (arith, writes.read_faults); write_faults = writes.write_faults.never_falls; misses = omega (arith, writes.misses) }

      quiet : ¬ IsErrOf wrote fault.Failed → NoneFailed before after
      quiet other = record { reads = writes.read_faults; writes = writes.write_faults.kept other }

      unread_but_written : (result : Result (Result (Vec ℕ Global) Stop) Status) → OnOk result (NoneFailed before after) → CarriesDue max_work (record { statement = statement; file = given_any.0 }) before after world next old new result
          → IsCarriedOut max_work statement before after world next old new result
      unread_but_written result none does = record { file = given_any.0; given = record { counts = inl writes.misses; given = given_any.1 }; falls = falls; quiet = none; does = does }

      pub carried_saves : ¬ IsErrOf wrote fault.Failed → (text : Vec ℕ Global) → text.items ≡ [] → after.files ≡ option_map (λ files. with_file files name bytes.items) before.files → IsCarriedOut max_work statement before after world next old new (Ok (Ok text))
      carried_saves other text none written = unread_but_written (Ok (Ok text)) (quiet other) (record {
        work = 0;
        prints = ap printed_by (begins.0.due given_any.0) ∙ (λ i. record { text = sym none i; work = 0; refused = false });
        leaves = ap (λ (due : Outcome). left_by due (state_of world before)) (begins.0.due given_any.0) ∙ (λ i. Some (record { world = sym begins.1 i; files = sym written i }));
        spent = omega (arith, begins.2);
        kept = λ some. absurd (some none);
      })

      pub carried_unsaved : IsErrOf wrote fault.Failed → KeepsOthers name before.files after.files → IsCarriedOut max_work statement before after world next old new (Err status.WriteFault)
      carried_unsaved failed others = unread_but_written (Err status.WriteFault) tt
          (begins.2, no_write (record { reads = writes.read_faults; writes = writes.write_faults.counted failed }) name begins.0.writes others)

      pub carried_no_room : ¬ IsErrOf wrote fault.Failed → after.files ≡ before.files → IsCarriedOut max_work statement before after world next old new (Err status.NoMemory)
      carried_no_room other kept = unread_but_written (Err status.NoMemory) tt (begins.2, no_memory 0 (omega arith) (quiet other) kept)

-- a file was asked for
module _ (max_work : ℕ) (statement : StatementTree) (world : World) (before after : FolderState) (old new : ℕ) (asked : Asked) (mid : World)
    (begins : BeginsAsDue max_work world statement (Ok (begun.Asks asked)) mid old new) where
  given_for : (gives : Option (List ℕ)) → IsGiven before.files (Rose before.misses after.misses) asked.name gives → ((after.misses ≡ before.misses) ⊎ (IsMissing gives × (after.misses ≡ raised before.misses)))
      → IsGivenStep (state_of world before) (record { statement = statement; file = gives }) before.misses after.misses
  given_for file given counts = record {
    counts = elim counts [ inl same ↦ inl same | inr missed ↦ inr (begins.0.asks, missed.0, missed.1) ];
    given = subst (λ (name : Option (List ℕ)). MatchOption name (file ≡ None) (λ n. IsGiven before.files (Rose before.misses after.misses) n file)) (sym begins.0.name) given;
  }

  -- it couldn't be had
  pub carried_unread : (ended : Status) → GivesFile asked.name before after (Err ended) → IsCarriedOut max_work statement before after world mid old new (Err ended)
  carried_unread ended gives = record {
    file = gives.file;
    given = given_for gives.file gives.given gives.counts;
    falls = gives.falls;
    quiet = tt;
    does = (begins.2, broke gives.reads);
  }
    where
      broke : ((ended ≡ status.ReadFault) × HasFaults (raised before.read_faults) before.write_faults after) ⊎ ((ended ≡ status.NoMemory) × NoneFailed before after)
          → BreaksBefore max_work ⊥ before after (state_of world before) (record { statement = statement; file = gives.file }) ended [] 0
      broke (inl failed) = rw failed.0 (no_read failed.1 begins.0.asks gives.files)
      broke (inr memory) = rw memory.0 (no_memory 0 (omega arith) memory.1 gives.files)

  -- it was given, and the statement finished with it
  pub carried_with_file : (file : GivenFile) (returned : Result (Vec ℕ Global) Stop) (next : World) → (gives : GivesFile asked.name before after (Ok file))
      → ReturnsFree (at_file asked.name (pending_outcome mid asked.pending) gives.file) returned next → IsCarriedOut max_work statement before after world next old new (Ok returned)
  carried_with_file file returned next gives returns = record {
    file = gives.file;
    given = given_for gives.file gives.given gives.counts;
    falls = gives.falls;
    quiet = gives.reads.1;
    does = by returned (subst (λ (due : Outcome). ReturnsFree due returned next) (sym is) returns);
  }
    where
      is : statement_outcome max_work world statement gives.file ≡ at_file asked.name (pending_outcome mid asked.pending) gives.file
      is = begins.0.due gives.file ∙ (λ i. at_file asked.name (pending_outcome (sym begins.1 i) asked.pending) gives.file)

      by : (r : Result (Vec ℕ Global) Stop) → ReturnsFree (statement_outcome max_work world statement gives.file) r next → CarriesDue max_work (record { statement = statement; file = gives.file }) before after world next old new (Ok r)
      by (Ok text) due = record {
        work = 0;
        prints = ap printed_by due;
        leaves = ap (λ (o : Outcome). left_by o (state_of world before)) due ∙ (λ i. Some (record { world = next; files = sym gives.files i }));
        spent = omega (arith, begins.2);
        kept = λ _. gives.files;
      }
      by (Err (stop.Refused why)) due =
          let paid : new ≡ old + refused_work why = omega (arith, begins.2, due.1) in
          (due.0, paid, gives.files)
      by (Err stop.NoMemory) due = gives.files
