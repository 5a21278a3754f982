-- What one statement returned and put: the run goes on behind it, or ends there.
use Rattle.std.proofs.Common.{◌≡◌, inl, inr, ℕ, ◌+◌, ◌-◌, ◌<◌, ◌≤◌, List, [], length, map, take, get_or, Option, Some, None, sym, ap, ◌∙◌, arith}
use Rattle.std.specs.Prelude.{◌≢◌, Vec, Result, Ok, Err, OnOk, OnErr, IfErr, IsErrOf}
use Rattle.std.specs.declared.alloc.Global.{Global}
use Rattle.std.specs.Io.KnownBytes.{Appends, Keeps}
use Rattle.std.proofs.Math.ListN.{get_or-map}
use Rattle.std.proofs.lemmas.List.{append-nil, length-map}
use Rattle.outside_io.specs.Files.{FolderState}
use Rattle.sql_parse.specs.declared.statement.Statement.{Statement}
use Rattle.sql_parse.specs.Trees.{StatementTree, statement_tree}
use Rattle.workspace.specs.declared.stop.Stop.{Stop}
use Rattle.workspace.specs.declared.refusal.Refusal.{Refusal}
use Rattle.workspace.specs.Refusal.{line_of}
use Rattle.session.specs.Bounds.{IsAnsweredWithin}
use Rattle.workspace.specs.Outcome.{Outcome, Refuses, refused_work}
use Rattle.session.specs.Statements.{statement_outcome}
use Rattle.workspace.specs.World.{World}
use Rattle.shell.specs.declared.status.Status.{Status}
use Rattle.shell.specs.declared.status.Status.TheVariants as status
use Rattle.shell.specs.Due.{IsCarriedOut, state_of, CarriesAll, CarriesOne, EndsAt}
use Rattle.shell.specs.Due.EndsAt.{refuses, breaks}
use Rattle.shell.specs.Script.{printed_by, Answer}
use Rattle.shell.specs.Serve.BreaksBefore.{no_put, no_memory}
use Rattle.shell.proofs.Beginning.{IsUnput, IsRefused}
use Rattle.shell.proofs.Carrying.{IsCarried, carried_on, carried_to}
use Rattle.shell.specs.Serve.{NoneFailed}

-- what was paid between the two, and it is at most the most
pub paid_more : (old new most : ℕ) → old ≤ new → new ≤ old + most → (spent : ℕ) × (spent ≤ most) × (new ≡ old + spent)
paid_more old new most least within = (new - old, omega (arith, within), omega (arith, least))

keeps_nothing : (had got : Option (List ℕ)) → Keeps had got → Appends had got []
keeps_nothing None got kept = tt
keeps_nothing (Some x) None kept = absurd kept
keeps_nothing (Some x) (Some y) kept = kept ∙ sym (append-nil x)

module _ (max_work : ℕ) (sink_failed : Type 0) (statement : StatementTree) (file : Option (List ℕ)) (before after : FolderState) (world : World) (had got : Option (List ℕ)) (old new : ℕ) where
  abbrev due : Outcome
  due = statement_outcome max_work world statement file

  abbrev Ends : Status → Type 0
  Ends ended = EndsAt max_work sink_failed (record { statement = statement; file = file }) (state_of world before) before after had got old new ended

  -- the text that was due was put in part, or not at all
  ends_in_part : (text : List ℕ) (ended : Status) → IsUnput ended → (printed_by due).text ≡ text → new ≡ old + (printed_by due).work → new ≤ old + max_work → NoneFailed before after → after.files ≡ before.files → ((n : ℕ) × Appends had got (take n text)) → (ended ≡ status.NoMemory → Keeps had got)
      → (ended ≡ status.WriteFault → sink_failed) → (ended ≡ status.WriteFault → text ≢ []) → Ends ended
  ends_in_part text ended (inl fault) is pays within quiet kept part nothing sink some =
      rw fault (breaks status.WriteFault (take part.0 (printed_by due).text) (printed_by due).work (rw is part.1) pays (no_put (sink fault) (rw is (some fault)) quiet kept part.0))
  ends_in_part text ended (inr memory) is pays within quiet kept part nothing sink some =
      let most : (printed_by due).work ≤ max_work = omega (arith, pays, within) in
      rw memory (breaks status.NoMemory [] (printed_by due).work (keeps_nothing had got (nothing memory)) pays (no_memory (printed_by due).work most quiet kept))

  -- the line of the refusal that is due was put, whole or in part
  pub ends_refused : (why : Refusal) (ended : Status) → due ≡ Refuses why → new ≡ old + refused_work why → new ≤ old + max_work → NoneFailed before after → after.files ≡ before.files → IsRefused ended → (ended ≡ status.Refused → Appends had got (line_of why))
      → ((n : ℕ) × Appends had got (take n (line_of why))) → (ended ≡ status.NoMemory → Keeps had got) → (ended ≡ status.WriteFault → sink_failed) → (ended ≡ status.WriteFault → line_of why ≢ []) → Ends ended
  ends_refused why ended is spent within quiet kept (inl refused) whole part nothing sink some = rw refused (refuses why is (whole refused) spent quiet kept)
  ends_refused why ended is spent within quiet kept (inr unput) whole part nothing sink some =
      let work : (printed_by due).work ≡ refused_work why = ap (λ (o : Outcome). (printed_by o).work) is in
      ends_in_part (line_of why) ended unput (ap (λ (o : Outcome). (printed_by o).text) is) (omega (arith, work, spent)) within quiet kept part nothing sink some

module _ {T : Type 0} (max_work : ℕ) (sink_failed : Type 0) (statement : StatementTree) (before after : FolderState) (world next : World) (old new : ℕ) (had got : Option (List ℕ)) where
  -- a statement that returned its text, which was put, or not whole
  pub returned_text : (text : Vec ℕ Global) (result : Result T Status) → IsCarriedOut max_work statement before after world next old new (Ok (Ok text)) → new ≤ old + max_work → IsAnsweredWithin world statement
      → OnOk result (Appends had got text.items) → OnErr result ((n : ℕ) × Appends had got (take n text.items)) → (IsErrOf result status.NoMemory → Keeps had got) → OnErr result (text.items ≢ []) → IfErr result IsUnput
      → (IsErrOf result status.WriteFault → sink_failed) → CarriesOne max_work sink_failed statement before after world next old new result had got
  returned_text text (Ok done) out most within whole part nothing some kinds sink = record {
    file = out.file;
    given = out.given;
    falls = out.falls;
    quiet = out.quiet;
    bounded = within;
    goes = record { text = text.items; work = out.does.work; prints = out.does.prints; leaves = out.does.leaves; put = whole; spent = out.does.spent };
    ends = tt;
  }
  returned_text text (Err ended) out most within whole part nothing some kinds sink =
      record {
        file = out.file;
        given = out.given;
        falls = out.falls;
        quiet = tt;
        bounded = tt;
        goes = tt;
        ends = ends_in_part max_work sink_failed statement out.file before after world had got old new text.items ended kinds (ap (λ (a : Answer). a.text) out.does.prints) (out.does.spent ∙ ap (λ (a : Answer). old + a.work) (sym out.does.prints)) most out.quiet (out.does.kept some) part (λ is. nothing (ap Err is)) (λ is. sink (ap Err is)) (λ _. some);
      }

  -- one that stopped, at which the run ends
  pub stopped_at : (returned : Result (Result (Vec ℕ Global) Stop) Status) (ended : Status) (out : IsCarriedOut max_work statement before after world next old new returned)
      → EndsAt max_work sink_failed (record { statement = statement; file = out.file }) (state_of world before) before after had got old new ended
      → CarriesOne {T = T} max_work sink_failed statement before after world next old new (Err ended) had got
  stopped_at returned ended out ends = record { file = out.file; given = out.given; falls = out.falls; quiet = tt; bounded = tt; goes = tt; ends = ends }

-- the tree of the statement in this place
tree_at : (statements : List Statement) (i : ℕ) (statement : Statement) → statement ≡ get_or statements i statement → get_or (map statement_tree statements) i (statement_tree statement) ≡ statement_tree statement
tree_at statements i statement is = get_or-map statement_tree statements i statement ∙ sym (ap statement_tree is)

inside : (statements : List Statement) (i : ℕ) → i < length statements → i < length (map statement_tree statements)
inside statements i below = omega (arith, below, length-map statements statement_tree)

module _ (max_work : ℕ) (statements : List Statement) (i : ℕ) (before mid now : FolderState) (world next : World) (statement : Statement) (had got new : Option (List ℕ)) (paid due : ℕ) (failed : Type 0)
    (below : i < length statements) (is : statement ≡ get_or statements i statement) (carried : IsCarried max_work (map statement_tree statements) i before mid world had got paid) where
  -- the run ended there
  pub ended_at : {T : Type 0} (sink_failed : Type 0) (ended : Status) → (failed → sink_failed)
      → CarriesOne {T = T} max_work failed (statement_tree statement) mid now world next paid due (Err ended) got new → CarriesAll max_work sink_failed (map statement_tree statements) before now ended had new due
  ended_at sink_failed ended sinks one =
      carried_to max_work (map statement_tree statements) i before mid now world (statement_tree statement) one.file had got new paid due (inside statements i below) (tree_at statements i statement is) one.falls carried one.given
      failed sink_failed ended sinks one.ends

  -- the run goes on behind it
  pub on_at : {T : Type 0} (done : T) → CarriesOne max_work failed (statement_tree statement) mid now world next paid due (Ok done) got new → IsCarried max_work (map statement_tree statements) (i + 1) before now next had new due
  on_at done one =
      carried_on max_work (map statement_tree statements) i before mid now world (statement_tree statement) one.file had got new paid due (inside statements i below) (tree_at statements i statement is) one.falls carried one.given
      next one.quiet one.goes one.bounded
