-- The steps of a run: its statements, each with the file that the folder gives for it.
use Rattle.std.proofs.Common.{◌≡◌, inl, ℕ, List, [], ◌∷◌, Option, Some, None, refl, sym, ap, ◌∙◌, subst}
use Rattle.std.specs.Prelude.{IfSome, IsSome, MatchOption, option_map}
use Rattle.outside_io.specs.Count.{Rose}
use Rattle.outside_io.specs.Files.{Files, with_file}
use Rattle.sql_parse.specs.Trees.{StatementTree}
use Rattle.workspace.specs.Outcome.{Outcome, Prints, Saves, Refuses}
use Rattle.shell.specs.Script.{IsGivenFor, IsGivenStep, Answer, AreGiven, ScriptState, Step, and_then, left_by, printed_by, script_answer, step_outcome}
use Rattle.shell.specs.Serve.{statements_of_steps}
use Rattle.shell.proofs.Folders.{any_given_for, one_file_for}

-- steps of these statements from a state, where there is one, of which none misses a file
abbrev pub StepsFrom : (max_work : ℕ) → List StatementTree → Option ScriptState → (misses : ℕ) → Type 0
StepsFrom max_work statements left misses =
    (steps : List Step) × (statements_of_steps steps ≡ statements) × MatchOption left (misses ≡ misses) (λ state. AreGiven max_work state steps misses misses)

steps_from : (max_work misses : ℕ) (statements : List StatementTree) (state : ScriptState) (left : Option ScriptState) → ((next : ScriptState) → StepsFrom max_work statements (Some next) misses) → StepsFrom max_work statements left misses
steps_from max_work misses statements state None any = let some = any state in (some.0, some.1, refl)
steps_from max_work misses statements state (Some next) any = any next

-- statements that weren't carried out have steps too
pub any_steps : (max_work misses : ℕ) (statements : List StatementTree) (state : ScriptState) → StepsFrom max_work statements (Some state) misses
any_steps max_work misses [] state = ([], refl, refl)
any_steps max_work misses (statement ∷ rest) state =
    let file = any_given_for (Rose misses misses) state.files statement in
    let step : Step = record { statement = statement; file = file.0 } in
    let more = steps_from max_work misses rest state (left_by (step_outcome max_work state step) state) (any_steps max_work misses rest) in
    let given : IsGivenStep state step misses misses = record { counts = inl refl; given = file.1 } in
    (step ∷ more.0, ap (λ (l : List StatementTree). statement ∷ l) more.1, (misses, given, more.2))

-- and so have those behind a step
pub steps_behind : (max_work misses : ℕ) (statements : List StatementTree) (state : ScriptState) (left : Option ScriptState) → StepsFrom max_work statements left misses
steps_behind max_work misses statements state left = steps_from max_work misses statements state left (any_steps max_work misses statements)

-- a folder of known contents stays one
saved_known : (name bytes : List ℕ) (held : Option Files) → IsSome held → IsSome (option_map (λ files. with_file files name bytes) held)
saved_known name bytes None known = cc known
saved_known name bytes (Some files) known = refl

stays_known : (due : Outcome) (state : ScriptState) → IsSome state.files → IfSome (left_by due state) (λ next. IsSome next.files)
stays_known (Prints text work world) state known = known
stays_known (Saves name bytes) state known = saved_known name bytes state.files known
stays_known (Refuses why) state known = tt

one_step : (missed other : Type 0) (held : Option Files) (a b : Step) → IsSome held → a.statement ≡ b.statement → IsGivenFor held missed a.statement a.file → IsGivenFor held other b.statement b.file → a ≡ b
one_step missed other held a b known same first second =
    let here : IsGivenFor held other a.statement b.file = subst (λ (s : StatementTree). IsGivenFor held other s b.file) (sym same) second in
    let file : a.file ≡ b.file = one_file_for missed other held a.statement a.file b.file known first here in
    λ i. record { statement = same i; file = file i }

same_behind : (here : Answer) (left : Option ScriptState) (one two : ScriptState → Answer) (M N : Type 0) (P Q : ScriptState → Type 0) → IfSome left (λ next. IsSome next.files)
    → ((next : ScriptState) → IsSome next.files → P next → Q next → one next ≡ two next) → MatchOption left M P → MatchOption left N Q → and_then here left one ≡ and_then here left two
same_behind here None one two M N P Q known same first second = refl
same_behind here (Some next) one two M N P Q known same first second = ap (λ (a : Answer). and_then here (Some next) (λ _. a)) (same next known first second)

-- over a folder of known contents the statements determine the answer
pub one_script_answer : (max_work : ℕ) (state : ScriptState) (xs ys : List Step) (a b c d : ℕ) → IsSome state.files → statements_of_steps xs ≡ statements_of_steps ys
    → AreGiven max_work state xs a b → AreGiven max_work state ys c d → script_answer max_work state xs ≡ script_answer max_work state ys
one_script_answer max_work state [] [] a b c d known same first second = refl
one_script_answer max_work state [] (y ∷ ys) a b c d known same first second = cc same
one_script_answer max_work state (x ∷ xs) [] a b c d known same first second = cc same
one_script_answer max_work state (x ∷ xs) (y ∷ ys) a b c d known same first second =
    let head : x.statement ≡ y.statement = cc same in
    let tail : statements_of_steps xs ≡ statements_of_steps ys = cc same in
    let here : x ≡ y = one_step (Rose a first.0) (Rose c second.0) state.files x y known head first.1.given second.1.given in
    let moved : AreGiven max_work state (y ∷ xs) a b = subst (λ (s : Step). AreGiven max_work state (s ∷ xs) a b) here first in
    let due = step_outcome max_work state y in
    ap (λ (s : Step). script_answer max_work state (s ∷ xs)) here
    ∙ same_behind (printed_by due) (left_by due state) (λ next. script_answer max_work next xs) (λ next. script_answer max_work next ys) (b ≡ moved.0) (d ≡ second.0)
    (λ next. AreGiven max_work next xs moved.0 b) (λ next. AreGiven max_work next ys second.0 d) (stays_known due state known)
    (λ next holds left right. one_script_answer max_work next xs ys moved.0 b second.0 d holds tail left right) moved.2 second.2
