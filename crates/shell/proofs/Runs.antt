-- What is said of a whole run of the program.
use Rattle.std.proofs.Common.{◌≡◌, ◌⊎◌, inl, inr, ℕ, ◌≤◌, List, [], length, take, drop, Option, Some, None, refl, sym, ap, ◌∙◌, subst, arith}
use Rattle.std.specs.Prelude.{IfSome, IsSome, Result, Ok, Err, IfErr, IfOk, if◌then◌else◌}
use Rattle.std.specs.Io.KnownBytes.{Appends, Keeps}
use Rattle.std.proofs.KnownBytes.{Appends-nil}
use Rattle.std.proofs.lemmas.List.{drop_all, length-take}
use Rattle.outside_io.specs.Count.{Rose}
use Rattle.outside_io.specs.Files.{FolderState}
use Rattle.sql_values.specs.Limits.{max_script_bytes}
use Rattle.sql_parse.specs.Trees.{StatementTree}
use Rattle.workspace.specs.declared.refusal.Refusal.{Refusal}
use Rattle.workspace.specs.Refusal.{line_of}
use Rattle.shell.specs.declared.status.Status.{Status}
use Rattle.shell.specs.declared.status.Status.TheVariants as status
use Rattle.shell.specs.Script.{Answer, AreGiven, Step, answer_of, at_start}
use Rattle.shell.specs.Serve.{BreaksOff, BreaksOffLine, Carries, EndsAsDue, EndsWhole, IsAnswer, IsScript, IsUnread, NeverFalls, Serves, statements_read}
use Rattle.shell.specs.Due.{CarriesAll, HasCauses, RunsScript}
use Rattle.shell.specs.Source.{TakesAtMost}
use Rattle.shell.proofs.Beginning.{IsRefused, refused_not_done}
use Rattle.shell.proofs.Carrying.{broken_by}
use Rattle.shell.proofs.Folders.{falls_none, quiet_none}
use Rattle.shell.proofs.Steps.{any_steps, one_script_answer}
use Rattle.shell.proofs.Scripts.{enough, some_reading, one_reading, reads_whole}

-- the source failed, or memory was out, before the script was read
abbrev pub EndsUnread : (source_failed : Type 0) → Status → Type 0
EndsUnread source_failed ended = ((ended ≡ status.ReadFault) × source_failed) ⊎ (ended ≡ status.NoMemory)

unread_not_due : (source_failed : Type 0) (ended : Status) → EndsUnread source_failed ended → ¬ EndsAsDue ended
unread_not_due source_failed ended (inl fault) due = elim due [ inl done ↦ cc (fault.0, done) | inr refused ↦ cc (fault.0, refused) ]
unread_not_due source_failed ended (inr memory) due = elim due [ inl done ↦ cc (memory, done) | inr refused ↦ cc (memory, refused) ]

-- a run ended as its text does, or not
ends_as : (ended : Status) → EndsAsDue ended ⊎ (¬ EndsAsDue ended)
ends_as status.Done = inl (inl refl)
ends_as status.Refused = inl (inr refl)
ends_as status.BadWords = inr (λ due. elim due [ inl is ↦ cc is | inr is ↦ cc is ])
ends_as status.ReadFault = inr (λ due. elim due [ inl is ↦ cc is | inr is ↦ cc is ])
ends_as status.WriteFault = inr (λ due. elim due [ inl is ↦ cc is | inr is ↦ cc is ])
ends_as status.NoMemory = inr (λ due. elim due [ inl is ↦ cc is | inr is ↦ cc is ])

module _ (max_work : ℕ) (source_failed sink_failed : Type 0) (before after : FolderState) (ended : Status) (had got : Option (List ℕ)) (paid : ℕ) where
  -- what is known of a run that broke off, of a script of these steps
  abbrev Breaks : Result (List Step) Refusal → Type 0
  Breaks steps = IsUnread source_failed ended before after had got paid
      ⊎ (IfOk steps (BreaksOff max_work sink_failed ended before after had got paid)
      × IfErr steps (λ why. BreaksOffLine sink_failed ended before after had got paid (line_of why)))

  abbrev Causes : Type 0
  Causes = HasCauses source_failed sink_failed before after ended

  due_causes : EndsAsDue ended → Causes
  due_causes (inl is) = record { words = λ other. cc (is, other); read_fault = λ other. cc (is, other); write_fault = λ other. cc (is, other) }
  due_causes (inr is) = record { words = λ other. cc (is, other); read_fault = λ other. cc (is, other); write_fault = λ other. cc (is, other) }

  unread_causes : EndsUnread source_failed ended → Causes
  unread_causes (inl is) = record { words = λ other. cc (is.0, other); read_fault = λ _. inl is.1; write_fault = λ other. cc (is.0, other) }
  unread_causes (inr is) = record { words = λ other. cc (is, other); read_fault = λ other. cc (is, other); write_fault = λ other. cc (is, other) }

  line_causes : (line : List ℕ) → BreaksOffLine sink_failed ended before after had got paid line → Causes
  line_causes line off = elim off.put [
    | inl is ↦ record { words = λ other. cc (is.0, other); read_fault = λ other. cc (is.0, other); write_fault = λ _. inl is.1 }
    | inr is ↦ record { words = λ other. cc (is.0, other); read_fault = λ other. cc (is.0, other); write_fault = λ other. cc (is.0, other) }
  ]

  break_causes : (steps : Result (List Step) Refusal) → Breaks steps → Causes
  break_causes steps (inl unread) = unread_causes unread.cause
  break_causes (Ok these) (inr off) = (broken_by off.0.cause).causes
  break_causes (Err why) (inr off) = line_causes (line_of why) off.1

  -- a status that no fault explains is the one of the answer, or out of memory
  decided_by : (answer : Answer) → Carries answer ended had got → Causes → ¬ source_failed → ¬ sink_failed → ¬ Rose before.read_faults after.read_faults → ¬ Rose before.write_faults after.write_faults
      → (ended ≡ (if answer.refused then status.Refused else status.Done)) ⊎ (ended ≡ status.NoMemory)
  decided_by answer carries causes source sink reads writes = by ended refl
    where
      by : (end : Status) → ended ≡ end → (ended ≡ (if answer.refused then status.Refused else status.Done)) ⊎ (ended ≡ status.NoMemory)
      by status.Done is = inl (rw (carries.done is).0 is)
      by status.Refused is = inl (rw (carries.refused is).0 is)
      by status.BadWords is = absurd (causes.words is)
      by status.ReadFault is = elim (causes.read_fault is) [ inl failed ↦ absurd (source failed) | inr folder ↦ absurd (reads folder) ]
      by status.WriteFault is = elim (causes.write_fault is) [ inl failed ↦ absurd (sink failed) | inr folder ↦ absurd (writes folder) ]
      by status.NoMemory is = inr is

  module _ (script : List ℕ) where
    causes_by : (steps : Result (List Step) Refusal) → (¬ EndsAsDue ended → Breaks steps) → Causes
    causes_by steps broken = elim (ends_as ended) [ inl due ↦ due_causes due | inr other ↦ break_causes steps (broken other) ]

    pub serves_by : (answer : Answer) (due : IsAnswer max_work script before after answer) → Carries answer ended had got → (EndsAsDue ended → EndsWhole max_work before after answer paid due.steps) → (¬ EndsAsDue ended → Breaks due.steps)
        → Serves max_work source_failed sink_failed script before after ended had got paid
    serves_by answer due carries whole broken = record {
      answer = answer;
      due = due;
      carries = carries;
      whole = whole;
      broken = broken;
      decided = decided_by answer carries (causes_by due.steps broken);
    }

    -- where the whole script is refused, nothing was done
    refused_whole : (why : Refusal) → IsScript script (Err why) → Serves max_work source_failed sink_failed script before after ended had got paid → (after ≡ before) × (paid ≡ 0)
    refused_whole why reads serves = by serves.due.steps serves.due.is (one_reading script (statements_read serves.due.steps) (Err why) serves.due.reads reads) serves.whole serves.broken
      where
        by : (steps : Result (List Step) Refusal) → serves.answer ≡ answer_of max_work before.files steps → statements_read steps ≡ Err why → (EndsAsDue ended → EndsWhole max_work before after serves.answer paid steps) → (¬ EndsAsDue ended → Breaks steps)
            → (after ≡ before) × (paid ≡ 0)
        by (Ok these) is same whole broken = cc same
        by (Err other) is same whole broken = elim (ends_as ended) [
          | inl due ↦ ((whole due).untouched, (whole due).pays ∙ ap (λ (a : Answer). a.work) is)
          | inr not_due ↦ elim (broken not_due) [ inl unread ↦ (unread.folder, unread.unpaid) | inr off ↦ (off.1.folder, off.1.unpaid) ]
        ]

-- an answer is due to each script
answer_for : (max_work : ℕ) (script : List ℕ) (before : FolderState) (read : Result (List StatementTree) Refusal) → IsScript script read → (answer : Answer) × IsAnswer max_work script before before answer
answer_for max_work script before (Err why) reads = (answer_of max_work before.files (Err why), record { steps = Err why; reads = reads; given = tt; is = refl })
answer_for max_work script before (Ok statements) reads =
    let steps = any_steps max_work before.misses statements (at_start before.files) in
    (answer_of max_work before.files (Ok steps.0), record { steps = Ok steps.0; reads = subst (λ (l : List StatementTree). IsScript script (Ok l)) (sym steps.1) reads; given = steps.2; is = refl })

pub serves_nothing : (max_work : ℕ) (source_failed sink_failed : Type 0) (script : List ℕ) (folder : FolderState) (ended : Status) (had : Option (List ℕ)) (paid : ℕ) → paid ≡ 0 → EndsUnread source_failed ended
    → Serves max_work source_failed sink_failed script folder folder ended had had paid
serves_nothing max_work source_failed sink_failed script folder ended had paid unpaid cause =
    let read = some_reading script in
    let due = answer_for max_work script folder read.0 read.1 in
    let other = unread_not_due source_failed ended cause in
    serves_by max_work source_failed sink_failed folder folder ended had had paid script due.0 due.1
    (record { done = λ is. absurd (other (inl is)); refused = λ is. absurd (other (inr is)); beginning = (0, Appends-nil had) })
    (λ is. absurd (other is)) (λ _. inl (record { cause = cause; folder = refl; sink = refl; unpaid = unpaid }))

-- statements that were carried out are those of the script
pub serves_statements : (max_work : ℕ) (sink_failed : Type 0) (script : List ℕ) (statements : List StatementTree) (before after : FolderState) (ended : Status) (had got : Option (List ℕ)) (paid : ℕ) → IsScript script (Ok statements)
    → CarriesAll max_work sink_failed statements before after ended had got paid → Serves max_work ⊥ sink_failed script before after ended had got paid
serves_statements max_work sink_failed script statements before after ended had got paid reads carried =
    let due : IsAnswer max_work script before after (answer_of max_work before.files (Ok carried.steps)) =
    record { steps = Ok carried.steps; reads = subst (λ (l : List StatementTree). IsScript script (Ok l)) (sym carried.are) reads; given = carried.given; is = refl } in
    serves_by max_work ⊥ sink_failed before after ended had got paid script (answer_of max_work before.files (Ok carried.steps)) due carried.carries carried.whole (λ other. inr (carried.broken other, tt))

-- the line of a script that is refused whole was put, whole or in part
line_broke : (sink_failed : Type 0) (line : List ℕ) (folder : FolderState) (ended : Status) (had got : Option (List ℕ)) (paid : ℕ) → paid ≡ 0 → IsRefused ended → ((n : ℕ) × Appends had got (take n line)) → (ended ≡ status.NoMemory → Keeps had got)
    → (ended ≡ status.WriteFault → sink_failed) → ¬ EndsAsDue ended → BreaksOffLine sink_failed ended folder folder had got paid line
line_broke sink_failed line folder ended had got paid unpaid (inl refused) part nothing sink other = absurd (other (inr refused))
line_broke sink_failed line folder ended had got paid unpaid (inr (inl fault)) part nothing sink other = record { put = inl (fault, sink fault, part); folder = refl; unpaid = unpaid }
line_broke sink_failed line folder ended had got paid unpaid (inr (inr memory)) part nothing sink other = record { put = inr (memory, nothing memory); folder = refl; unpaid = unpaid }

pub serves_refusal : (max_work : ℕ) (sink_failed : Type 0) (script : List ℕ) (why : Refusal) (folder : FolderState) (ended : Status) (had got : Option (List ℕ)) (paid : ℕ) → paid ≡ 0 → IsScript script (Err why)
    → (ended ≡ status.Refused → Appends had got (line_of why)) → ((n : ℕ) × Appends had got (take n (line_of why))) → (ended ≡ status.NoMemory → Keeps had got) → IsRefused ended → (ended ≡ status.WriteFault → sink_failed)
    → Serves max_work ⊥ sink_failed script folder folder ended had got paid
serves_refusal max_work sink_failed script why folder ended had got paid unpaid reads whole part nothing kinds sink =
    serves_by max_work ⊥ sink_failed folder folder ended had got paid script (answer_of max_work folder.files (Err why)) (record { steps = Err why; reads = reads; given = tt; is = refl })
    (record { done = λ is. absurd (refused_not_done ended kinds is); refused = λ is. (refl, whole is); beginning = part })
    (λ _. record { files = tt; untouched = refl; quiet = quiet_none folder; pays = unpaid; bounds = tt })
    (λ other. inr (tt, line_broke sink_failed (line_of why) folder ended had got paid unpaid kinds part nothing sink other))

-- a source that never fails fails as another does
unread_of : (source_failed : Type 0) (ended : Status) → EndsUnread ⊥ ended → EndsUnread source_failed ended
unread_of source_failed ended (inl none) = absurd none.1
unread_of source_failed ended (inr memory) = inr memory

-- a run over what was read is a run over the whole
known_whole : (max_work : ℕ) (source_failed sink_failed : Type 0) (left : List ℕ) (before after : FolderState) (bytes : List ℕ) (ended : Status) (had got : Option (List ℕ)) (paid : ℕ) → bytes ≡ take enough left
    → Serves max_work ⊥ sink_failed bytes before after ended had got paid → Serves max_work source_failed sink_failed left before after ended had got paid
known_whole max_work source_failed sink_failed left before after bytes ended had got paid read serves =
    let on = subst (λ (l : List ℕ). Serves max_work ⊥ sink_failed l before after ended had got paid) read serves in
    let due : IsAnswer max_work left before after on.answer = record { steps = on.due.steps; reads = reads_whole left (statements_read on.due.steps) on.due.reads; given = on.due.given; is = on.due.is } in
    serves_by max_work source_failed sink_failed before after ended had got paid left on.answer due on.carries on.whole (λ other. elim (on.broken other) [
      | inl unread ↦ inl (record { cause = unread_of source_failed ended unread.cause; folder = unread.folder; sink = unread.sink; unpaid = unread.unpaid })
      | inr off ↦ inr off
    ])

-- a well-formed script was the whole
emptied : (left bytes : List ℕ) → bytes ≡ take enough left → length bytes ≤ max_script_bytes → drop enough left ≡ []
emptied left bytes read short =
    let cut : length bytes ≡ length (take enough left) = ap length read in
    drop_all enough left (omega (arith, cut, short, length-take enough left))

-- a source that was read whole has nothing left where the script was well-formed
pub known_emptied : (source now : Option (List ℕ)) (bytes : List ℕ) → IfSome source (λ left. (bytes ≡ take enough left) × (now ≡ Some (drop enough left))) → length bytes ≤ max_script_bytes
    → IfSome source (λ _. now ≡ Some [])
known_emptied None now bytes read short = tt
known_emptied (Some left) now bytes read short = read.1 ∙ ap Some (emptied left bytes read.0 short)

pub known_bounded : (source now : Option (List ℕ)) (bytes : List ℕ) → IfSome source (λ left. (bytes ≡ take enough left) × (now ≡ Some (drop enough left))) → IfSome source (TakesAtMost enough now)
known_bounded None now bytes read = tt
known_bounded (Some left) now bytes read = (enough, omega arith, read.1)

-- nothing was taken
pub untaken_bounded : (source : Option (List ℕ)) → IfSome source (TakesAtMost enough source)
untaken_bounded None = tt
untaken_bounded (Some left) = (0, omega arith, refl)

pub known_read : (source now : Option (List ℕ)) (bytes : List ℕ) → IfSome source (λ left. (bytes ≡ take enough left) × (now ≡ Some (drop enough left))) → IfSome source (λ left. bytes ≡ take enough left)
known_read None now bytes read = tt
known_read (Some left) now bytes read = read.0

-- the statements determine the answer, also where there are none
same_reading : (max_work : ℕ) (folder : FolderState) (last end : ℕ) (a b : Result (List Step) Refusal) → IsSome folder.files → statements_read a ≡ statements_read b
    → IfOk a (λ these. AreGiven max_work (at_start folder.files) these folder.misses last) → IfOk b (λ these. AreGiven max_work (at_start folder.files) these folder.misses end) → answer_of max_work folder.files a ≡ answer_of max_work folder.files b
same_reading max_work folder last end (Err x) (Err y) known same first second = let why : x ≡ y = cc same in ap (λ (w : Refusal). answer_of max_work folder.files (Err w)) why
same_reading max_work folder last end (Err x) (Ok ys) known same first second = cc same
same_reading max_work folder last end (Ok xs) (Err y) known same first second = cc same
same_reading max_work folder last end (Ok xs) (Ok ys) known same first second = one_script_answer max_work (at_start folder.files) xs ys folder.misses last folder.misses end known (cc same) first second

-- two answers that are due are one
pub one_answer : (max_work : ℕ) (script : List ℕ) (old new other : FolderState) (one two : Answer) → IsSome old.files → IsAnswer max_work script old new one → IsAnswer max_work script old other two → one ≡ two
one_answer max_work script old new other one two known first second =
    let same = one_reading script (statements_read first.steps) (statements_read second.steps) first.reads second.reads in
    first.is ∙ same_reading max_work old new.misses other.misses first.steps second.steps known same first.given second.given ∙ sym second.is

-- what holds of every script holds of one that is known, and what follows from what holds follows
whatever : {P : List ℕ → Type 0} (script : Option (List ℕ)) → ((bytes : List ℕ) → P bytes) → IfSome script P
whatever None holds = tt
whatever (Some bytes) holds = holds bytes

module _ (max_work : ℕ) (source_failed sink_failed : Type 0) (ended : Status) (had got : Option (List ℕ)) (paid : ℕ) where
  pub runs_nothing : (script : Option (List ℕ)) (folder : FolderState) → paid ≡ 0 → EndsUnread source_failed ended → RunsScript max_work source_failed sink_failed script folder folder ended had had paid
  runs_nothing script folder unpaid cause = record {
    serves = whatever script (λ bytes. serves_nothing max_work source_failed sink_failed bytes folder ended had paid unpaid cause);
    causes = unread_causes max_work source_failed sink_failed folder folder ended had had paid cause;
    folder = falls_none folder;
    unread = whatever script (λ bytes why refused. refl);
    unpaid = whatever script (λ bytes why refused. unpaid);
  }

  -- a script was carried out
  pub runs_script : (script : List ℕ) (before after : FolderState) → NeverFalls before after → Serves max_work source_failed sink_failed script before after ended had got paid
      → RunsScript max_work source_failed sink_failed (Some script) before after ended had got paid
  runs_script script before after falls serves = record {
    serves = serves;
    causes = causes_by max_work source_failed sink_failed before after ended had got paid script serves.due.steps serves.broken;
    folder = falls;
    unread = λ why refused. (refused_whole max_work source_failed sink_failed before after ended had got paid script why refused serves).0;
    unpaid = λ why refused. (refused_whole max_work source_failed sink_failed before after ended had got paid script why refused serves).1;
  }

  -- a run over what was read is one over the whole
  pub runs_whole : (source : Option (List ℕ)) (before after : FolderState) (bytes : List ℕ) → IfSome source (λ left. bytes ≡ take enough left) → RunsScript max_work ⊥ sink_failed (Some bytes) before after ended had got paid
      → RunsScript max_work source_failed sink_failed source before after ended had got paid
  runs_whole None before after bytes read runs = record {
    serves = tt;
    causes = record { words = runs.causes.words; read_fault = λ is. elim (runs.causes.read_fault is) [ inl none ↦ absurd none | inr rose ↦ inr rose ]; write_fault = runs.causes.write_fault };
    folder = runs.folder;
    unread = tt;
    unpaid = tt;
  }
  runs_whole (Some left) before after bytes read runs =
      runs_script left before after runs.folder (known_whole max_work source_failed sink_failed left before after bytes ended had got paid read runs.serves)
