-- What the statements of a script did, as far as they were carried out.
use Rattle.std.proofs.Common.{◌≡◌, inl, inr, ℕ, ◌+◌, ◌<◌, ◌≤◌, min, true, false, List, [], ◌∷◌, ◌++◌, length, take, drop, get_or, Option, Some, None, refl, sym, ap, ◌∙◌, subst, arith, append_assoc}
use Rattle.std.specs.Prelude.{IfSome, MatchOption}
use Rattle.std.specs.Option.{option_and_then, option_map_or}
use Rattle.std.specs.Io.KnownBytes.{Appends}
use Rattle.std.proofs.Math.Seq.{take-append-add}
use Rattle.std.proofs.lemmas.List.{append-nil, take_min, take_all, take-append-le, map-append, take_more, take-append-drop}
use Rattle.std.proofs.KnownBytes.{Appends-nil, Appends-trans}
use Rattle.outside_io.specs.Count.{raised}
use Rattle.outside_io.specs.Files.{FolderState}
use Rattle.sql_parse.specs.Trees.{StatementTree}
use Rattle.session.specs.Bounds.{IsAnsweredWithin}
use Rattle.shell.specs.Script.{IsGivenStep, Answer, AreAnsweredWithin, AreGiven, ScriptState, Step, and_then, at_start, files_after, left_by, printed_by, script_answer, state_after, step_outcome}
use Rattle.workspace.specs.Outcome.{Outcome, Refuses, refused_work}
use Rattle.workspace.specs.Refusal.{line_of}
use Rattle.session.specs.Statements.{statement_outcome}
use Rattle.workspace.specs.World.{World, nothing_made}
use Rattle.workspace.specs.declared.refusal.Refusal.{Refusal}
use Rattle.shell.specs.declared.status.Status.{Status}
use Rattle.shell.specs.declared.status.Status.TheVariants as status
use Rattle.shell.specs.Due.{CarriesAll, EndsAt, HasCauses, LeadsOn, state_of}
use Rattle.shell.specs.Due.EndsAt.{refuses, breaks}
use Rattle.shell.specs.Serve.{BreaksBefore, EndsAsDue, NeverFalls, NoneFailed, statements_of_steps}
use Rattle.shell.specs.Serve.BreaksBefore.{no_read, no_write, no_put, no_memory}
use Rattle.shell.proofs.Beginning.{whole_begins}
use Rattle.shell.proofs.Folders.{falls_none, falls_on, quiet_none, quiet_on}
use Rattle.shell.proofs.Steps.{StepsFrom, steps_behind}

-- an answer after a text and its work
abbrev after : List ℕ → ℕ → Answer → Answer
after text work answer = record { text = text ++ answer.text; work = work + answer.work; refused = answer.refused }

after_after : (a b : List ℕ) (m n : ℕ) (answer : Answer) → after a m (after b n answer) ≡ after (a ++ b) (m + n) answer
after_after a b m n answer =
    let text : a ++ (b ++ answer.text) ≡ (a ++ b) ++ answer.text = sym (append_assoc a b answer.text) in
    let work : m + (n + answer.work) ≡ m + n + answer.work = omega arith in
    λ i. record { text = text i; work = work i; refused = answer.refused }

after_nothing : (answer : Answer) → answer ≡ after [] 0 answer
after_nothing answer =
    let work : answer.work ≡ 0 + answer.work = omega arith in
    λ i. record { text = answer.text; work = work i; refused = answer.refused }

nothing_after : (text : List ℕ) (work : ℕ) → after text work (record { text = []; work = 0; refused = false }) ≡ record { text = text; work = work; refused = false }
nothing_after text work =
    let same : text ++ [] ≡ text = append-nil text in
    let none : work + 0 ≡ work = omega arith in
    λ i. record { text = same i; work = none i; refused = false }

-- what went out when a run broke off is a beginning of the next text; it didn't end as its text does, nor without a cause
pub record IsBroken (max_work : ℕ) (source_failed sink_failed : Type 0) (old new : FolderState) (state : ScriptState) (step : Step) (ended : Status) (part : List ℕ) : Type 0 where
  pub begins : (n : ℕ) × (part ≡ take n (printed_by (step_outcome max_work state step)).text)
  pub other : ¬ EndsAsDue ended
  pub causes : HasCauses source_failed sink_failed old new ended

pub broken_by : {max_work : ℕ} {source_failed sink_failed : Type 0} {old new : FolderState} {state : ScriptState} {step : Step} {ended : Status} {part : List ℕ} {spent : ℕ}
    → BreaksBefore max_work sink_failed old new state step ended part spent → IsBroken max_work source_failed sink_failed old new state step ended part
broken_by (no_read failed asks kept) = record { begins = (0, refl); other = λ due. elim due [ inl is ↦ cc is | inr is ↦ cc is ]; causes = record { words = λ is. cc is; read_fault = λ _. inr (omega (arith, failed.reads)); write_fault = λ is. cc is } }
broken_by (no_write failed name writes others) = record { begins = (0, refl); other = λ due. elim due [ inl is ↦ cc is | inr is ↦ cc is ]; causes = record { words = λ is. cc is; read_fault = λ is. cc is; write_fault = λ _. inr (omega (arith, failed.writes)) } }
broken_by (no_put failed some quiet kept n) = record { begins = (n, refl); other = λ due. elim due [ inl is ↦ cc is | inr is ↦ cc is ]; causes = record { words = λ is. cc is; read_fault = λ is. cc is; write_fault = λ _. inl failed } }
broken_by (no_memory spent within quiet kept) = record { begins = (0, refl); other = λ due. elim due [ inl is ↦ cc is | inr is ↦ cc is ]; causes = record { words = λ is. cc is; read_fault = λ is. cc is; write_fault = λ is. cc is } }

-- a cause in a part of a run, before which no call of the folder failed, is one in the run
pub breaks_in : {max_work : ℕ} {failed sink_failed : Type 0} {before mid now : FolderState} {state : ScriptState} {step : Step} {ended : Status} {part : List ℕ} {spent : ℕ} → (failed → sink_failed) → NoneFailed before mid
    → BreaksBefore max_work failed mid now state step ended part spent → BreaksBefore max_work sink_failed before now state step ended part spent
breaks_in sinks first (no_read failed asks kept) = no_read (record { reads = failed.reads ∙ ap raised first.reads; writes = failed.writes ∙ first.writes }) asks kept
breaks_in sinks first (no_write failed name writes others) = no_write (record { reads = failed.reads ∙ first.reads; writes = failed.writes ∙ ap raised first.writes }) name writes others
breaks_in {before = before} {mid = mid} {now = now} sinks first (no_put failed some quiet kept n) = no_put (sinks failed) some (quiet_on before mid now first quiet) kept n
breaks_in {before = before} {mid = mid} {now = now} sinks first (no_memory spent within quiet kept) = no_memory spent within (quiet_on before mid now first quiet) kept

-- the text so far is there and paid; and whatever the statements from i on do, in the state that the ones before leave, is what
-- the whole does behind them
pub record IsCarried (max_work : ℕ) (all : List StatementTree) (i : ℕ) (before now : FolderState) (world : World) (had got : Option (List ℕ)) (paid : ℕ) : Type 0 where
  pub steps : List Step
  pub are : statements_of_steps steps ≡ take i all
  pub printed : List ℕ
  pub put : Appends had got printed
  pub whole : (rest : List Step) → script_answer max_work (at_start before.files) (steps ++ rest) ≡ after printed paid (script_answer max_work (state_of world now) rest)
  pub leaves : (rest : List Step) → state_after max_work (at_start before.files) (steps ++ rest) ≡ state_after max_work (state_of world now) rest
  pub files : (rest : List Step) → files_after max_work (at_start before.files) (steps ++ rest) ≡ files_after max_work (state_of world now) rest
  pub given : (last : ℕ) (rest : List Step) → AreGiven max_work (state_of world now) rest now.misses last → AreGiven max_work (at_start before.files) (steps ++ rest) before.misses last
  pub answered : (rest : List Step) → AreAnsweredWithin max_work (state_of world now) rest → AreAnsweredWithin max_work (at_start before.files) (steps ++ rest)
  pub falls : NeverFalls before now
  pub quiet : NoneFailed before now

pub carried_none : (max_work : ℕ) (all : List StatementTree) (before : FolderState) (had : Option (List ℕ)) → IsCarried max_work all 0 before before nothing_made had had 0
carried_none max_work all before had = record {
  steps = [];
  are = refl;
  printed = [];
  put = Appends-nil had;
  whole = λ rest. after_nothing (script_answer max_work (at_start before.files) rest);
  leaves = λ rest. refl;
  files = λ rest. refl;
  given = λ last rest given. given;
  answered = λ rest within. within;
  falls = falls_none before;
  quiet = quiet_none before;
}

-- the statement at i comes after those before it
next_statement : (all : List StatementTree) (i : ℕ) (statement : StatementTree) → i < length all → get_or all i statement ≡ statement → take (i + 1) all ≡ take i all ++ statement ∷ []
next_statement all i statement below is = take_more all i statement below ∙ ap (λ s. take i all ++ s ∷ []) is

are_on : (all : List StatementTree) (i : ℕ) (steps : List Step) (step : Step) → i < length all → get_or all i step.statement ≡ step.statement → statements_of_steps steps ≡ take i all
    → statements_of_steps (steps ++ step ∷ []) ≡ take (i + 1) all
are_on all i steps step below is are =
    map-append (λ (s : Step). s.statement) steps (step ∷ []) ∙ ap (λ (l : List StatementTree). l ++ step.statement ∷ []) are ∙ sym (next_statement all i step.statement below is)

cut : (n : ℕ) (front text rest : List ℕ) → take (length front + min n (length text)) (front ++ (text ++ rest)) ≡ front ++ take n text
cut n front text rest =
    let within : min n (length text) ≤ length text = omega arith in
    take-append-add front (text ++ rest) (min n (length text)) ∙ ap (λ (l : List ℕ). front ++ l) (take-append-le (min n (length text)) text rest within ∙ take_min n text)

begins : (here : Answer) (left : Option ScriptState) (go : ScriptState → Answer) → (more : List ℕ) × ((and_then here left go).text ≡ here.text ++ more)
begins here None go = ([], sym (append-nil here.text))
begins here (Some next) go = ((go next).text, refl)

-- the answer of an outcome behind which the run goes on, and that of a refusal
answer_on : (here : Answer) (left : Option ScriptState) (text : List ℕ) (work : ℕ) (next : ScriptState) (go : ScriptState → Answer) → here ≡ record { text = text; work = work; refused = false } → left ≡ Some next → and_then here left go ≡ after text work (go next)
answer_on here left text work next go prints leaves =
    ap (λ (a : Answer). and_then a left go) prints ∙ ap (λ (o : Option ScriptState). and_then (record { text = text; work = work; refused = false }) o go) leaves

refused_whole : (due : Outcome) (state : ScriptState) (go : ScriptState → Answer) (why : Refusal) → due ≡ Refuses why
    → and_then (printed_by due) (left_by due state) go ≡ record { text = line_of why; work = refused_work why; refused = true }
refused_whole due state go why is = rw is refl

-- the steps so far alone: their answer, the state that they leave, and their bounds
module _ (max_work : ℕ) (all : List StatementTree) (i : ℕ) (before now : FolderState) (world : World) (had got : Option (List ℕ)) (paid : ℕ) (carried : IsCarried max_work all i before now world had got paid) where
  abbrev alone : carried.steps ++ [] ≡ carried.steps
  alone = append-nil carried.steps

  answer_so_far : script_answer max_work (at_start before.files) carried.steps ≡ record { text = carried.printed; work = paid; refused = false }
  answer_so_far = ap (script_answer max_work (at_start before.files)) (sym alone) ∙ carried.whole [] ∙ nothing_after carried.printed paid

  state_so_far : state_after max_work (at_start before.files) carried.steps ≡ Some (state_of world now)
  state_so_far = ap (state_after max_work (at_start before.files)) (sym alone) ∙ carried.leaves []

  within_so_far : AreAnsweredWithin max_work (at_start before.files) carried.steps
  within_so_far = subst (AreAnsweredWithin max_work (at_start before.files)) alone (carried.answered [] tt)

  -- after the last statement the whole text is there
  pub carried_all : (sink_failed : Type 0) → length all ≤ i → CarriesAll max_work sink_failed all before now status.Done had got paid
  carried_all sink_failed past =
      let whole : Appends had got (script_answer max_work (at_start before.files) carried.steps).text = rw answer_so_far carried.put in
      record {
        steps = carried.steps;
        are = carried.are ∙ take_all i all past;
        given = subst (λ (steps : List Step). AreGiven max_work (at_start before.files) steps before.misses now.misses) alone (carried.given now.misses [] refl);
        falls = carried.falls;
        carries = record {
          done = λ _. (ap (λ (a : Answer). a.refused) answer_so_far, whole);
          refused = λ ended. cc ended;
          beginning = whole_begins had got (script_answer max_work (at_start before.files) carried.steps).text whole;
        };
        whole = λ _. record {
          files = sym (ap (files_after max_work (at_start before.files)) (sym alone) ∙ carried.files []);
          untouched = tt;
          quiet = carried.quiet;
          pays = sym (ap (λ (a : Answer). a.work) answer_so_far);
          bounds = within_so_far;
        };
        broken = λ other. absurd (other (inl refl));
      }

module _ (max_work : ℕ) (all : List StatementTree) (i : ℕ) (before mid now : FolderState) (world : World) (statement : StatementTree) (file : Option (List ℕ)) (had got new : Option (List ℕ)) (paid due : ℕ)
    (below : i < length all) (is : get_or all i statement ≡ statement) (last : NeverFalls mid now)
    (carried : IsCarried max_work all i before mid world had got paid) (given : IsGivenStep (state_of world mid) (record { statement = statement; file = file }) mid.misses now.misses) where
  abbrev start : ScriptState
  start = at_start before.files

  abbrev state : ScriptState
  state = state_of world mid

  abbrev here : Step
  here = record { statement = statement; file = file }

  abbrev what : Outcome
  what = statement_outcome max_work world statement file

  -- the steps with this one, and others behind it
  one_more : (rest : List Step) → (carried.steps ++ here ∷ []) ++ rest ≡ carried.steps ++ here ∷ rest
  one_more rest = append_assoc carried.steps (here ∷ []) rest

  given_here : (end : ℕ) (rest : List Step) → MatchOption (left_by what state) (end ≡ now.misses) (λ next. AreGiven max_work next rest now.misses end) → AreGiven max_work start (carried.steps ++ here ∷ rest) before.misses end
  given_here end rest others = carried.given end (here ∷ rest) (now.misses, given, others)

  -- a statement behind which the run goes on
  pub carried_on : (next : World) → NoneFailed mid now → LeadsOn what state (state_of next now) got new paid due → IsAnsweredWithin world statement → IsCarried max_work all (i + 1) before now next had new due
  carried_on next quiet goes within =
      let there = state_of next now in
      record {
        steps = carried.steps ++ here ∷ [];
        are = are_on all i carried.steps here below is carried.are;
        printed = carried.printed ++ goes.text;
        falls = falls_on before mid now carried.falls last;
        quiet = quiet_on before mid now carried.quiet quiet;
        put = Appends-trans had got new carried.printed goes.text carried.put goes.put;
        whole = λ rest.
            ap (script_answer max_work start) (one_more rest) ∙ carried.whole (here ∷ rest)
            ∙ ap (after carried.printed paid) (answer_on (printed_by what) (left_by what state) goes.text goes.work there (λ s. script_answer max_work s rest) goes.prints goes.leaves)
            ∙ after_after carried.printed goes.text paid goes.work (script_answer max_work there rest)
            ∙ ap (λ (n : ℕ). after (carried.printed ++ goes.text) n (script_answer max_work there rest)) (sym goes.spent);
        leaves = λ rest.
            ap (state_after max_work start) (one_more rest) ∙ carried.leaves (here ∷ rest)
            ∙ ap (λ (o : Option ScriptState). option_and_then (λ s. state_after max_work s rest) o) goes.leaves;
        files = λ rest.
            ap (files_after max_work start) (one_more rest) ∙ carried.files (here ∷ rest)
            ∙ ap (λ (o : Option ScriptState). option_map_or (λ s. files_after max_work s rest) o mid.files) goes.leaves;
        given = λ last rest later.
            subst (λ (steps : List Step). AreGiven max_work start steps before.misses last) (sym (one_more rest))
            (given_here last rest (subst (λ (o : Option ScriptState). MatchOption o (last ≡ now.misses) (λ s. AreGiven max_work s rest now.misses last)) (sym goes.leaves) later));
        answered = λ rest later.
            subst (AreAnsweredWithin max_work start) (sym (one_more rest))
            (carried.answered (here ∷ rest) (subst (λ (o : Option ScriptState). IfSome o (λ s. IsAnsweredWithin world statement × AreAnsweredWithin max_work s rest)) (sym goes.leaves) (within, later)));
      }

  -- the statements after this one, as steps, and the whole answer
  abbrev others : StepsFrom max_work (drop (i + 1) all) (left_by what state) now.misses
  others = steps_behind max_work now.misses (drop (i + 1) all) state (left_by what state)

  abbrev all_steps : List Step
  all_steps = carried.steps ++ here ∷ others.0

  all_are : statements_of_steps all_steps ≡ all
  all_are =
      map-append (λ (s : Step). s.statement) carried.steps (here ∷ others.0)
      ∙ ap (λ (l : List StatementTree). l ++ statement ∷ statements_of_steps others.0) carried.are
      ∙ ap (λ (l : List StatementTree). take i all ++ statement ∷ l) others.1
      ∙ sym (append_assoc (take i all) (statement ∷ []) (drop (i + 1) all))
      ∙ ap (λ (l : List StatementTree). l ++ drop (i + 1) all) (sym (next_statement all i statement below is))
      ∙ take-append-drop (i + 1) all

  -- the answer to all of them begins with what is printed so far
  answer_here : script_answer max_work start all_steps ≡ after carried.printed paid (and_then (printed_by what) (left_by what state) (λ s. script_answer max_work s others.0))
  answer_here = carried.whole (here ∷ others.0)

  -- a run that ends at this statement
  pub carried_to : (failed sink_failed : Type 0) (ended : Status) → (failed → sink_failed) → EndsAt max_work failed here state mid now got new paid due ended
      → CarriesAll max_work sink_failed all before now ended had new due
  carried_to failed sink_failed ended sinks (refuses why is_refused put spent quiet kept) =
      let whole : script_answer max_work start all_steps ≡ record { text = carried.printed ++ line_of why; work = paid + refused_work why; refused = true } =
      answer_here ∙ ap (after carried.printed paid) (refused_whole what state (λ s. script_answer max_work s others.0) why is_refused) in
      let none : left_by what state ≡ None = ap (λ (o : Outcome). left_by o state) is_refused in
      let text : Appends had new (script_answer max_work start all_steps).text = rw whole (Appends-trans had got new carried.printed (line_of why) carried.put put) in
      record {
        steps = all_steps;
        are = all_are;
        given = given_here now.misses others.0 others.2;
        falls = falls_on before mid now carried.falls last;
        carries = record {
          done = λ e. cc e;
          refused = λ _. (ap (λ (a : Answer). a.refused) whole, text);
          beginning = whole_begins had new (script_answer max_work start all_steps).text text;
        };
        whole = λ _. record {
          files = kept ∙ sym (carried.files (here ∷ others.0) ∙ ap (λ (o : Option ScriptState). option_map_or (λ s. files_after max_work s others.0) o mid.files) none);
          untouched = tt;
          quiet = quiet_on before mid now carried.quiet quiet;
          pays = spent ∙ sym (ap (λ (a : Answer). a.work) whole);
          bounds = carried.answered (here ∷ others.0) (subst (λ (o : Option ScriptState). IfSome o (λ s. IsAnsweredWithin world statement × AreAnsweredWithin max_work s others.0)) (sym none) tt);
        };
        broken = λ other. absurd (other (inr refl));
      }
  carried_to failed sink_failed ended sinks (breaks _ part spent put pays cause) =
      let there = printed_by what in
      let more = begins there (left_by what state) (λ s. script_answer max_work s others.0) in
      let text : (script_answer max_work start all_steps).text ≡ carried.printed ++ (there.text ++ more.0) = ap (λ (a : Answer). a.text) answer_here ∙ ap (λ (l : List ℕ). carried.printed ++ l) more.1 in
      let here_broken : IsBroken max_work ⊥ failed mid now state here ended part = broken_by cause in
      let of_next = here_broken.begins in
      let out : Appends had new (carried.printed ++ part) = Appends-trans had got new carried.printed part carried.put put in
      let so_far = answer_so_far max_work all i before mid world had got paid carried in
      let work : (script_answer max_work start carried.steps).work ≡ paid = ap (λ (a : Answer). a.work) so_far in
      record {
        steps = all_steps;
        are = all_are;
        given = given_here now.misses others.0 others.2;
        falls = falls_on before mid now carried.falls last;
        carries = record {
          done = λ e. absurd (here_broken.other (inl e));
          refused = λ e. absurd (here_broken.other (inr e));
          beginning = (
            length carried.printed + min of_next.0 (length there.text),
            rw (text, cut of_next.0 carried.printed there.text more.0, ← of_next.1) out,
          );
        };
        whole = λ e. absurd (here_broken.other e);
        broken = λ _. record {
          earlier = carried.steps;
          step = here;
          later = others.0;
          are = refl;
          state = state;
          reached = state_so_far max_work all i before mid world had got paid carried;
          part = part;
          spent = spent;
          cause = breaks_in sinks carried.quiet cause;
          put = rw so_far out;
          pays = omega (arith, work, pays);
          bounds = within_so_far max_work all i before mid world had got paid carried;
        };
      }
