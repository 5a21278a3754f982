-- The command that reads the arguments, and where its walk stands between words.
use Rattle.std.proofs.Common.{◌≡◌, ◌∙◌, Bool, true, false, List, [], ◌∷◌, Option, Some, refl, ap, ap₂, codes}
use Rattle.clap.specs.Words.{App, Rule, Row, Text, Shape, Kinds, app_of, built, new_app, new_rule, rule_of, with_rule}
use Rattle.clap.specs.Simple.{app_of_fields, filled, on_top, with_index}
use Rattle.clap.specs.Kinds.{or_else}
use Rattle.clap.specs.Walk.{Held, Walk, walk_from, walked, option}
use Rattle.clap.specs.Faults.{turn_fault, settle_fault}
use Rattle.clap.specs.declared.builder.ArgAction.TheVariants.{Set}
use Rattle.clap.specs.declared.builder.arg.Arg.{Arg}
use Rattle.clap.specs.declared.builder.command.Command.{Command}
use Rattle.clap.specs.declared.builder.command.Command.TheViews.{out-Command}
use Rattle.command_line.specs.Words.{max_work_name, demo_name}

-- ---- the command, with a rule for each option: true stands for `--max-work`, false for `--demo`

abbrev pub id : Bool → Text
id true = codes "max-work"
id false = codes "demo"

abbrev pub name : Bool → Text
name true = max_work_name
name false = demo_name

abbrev pub declared : Bool → Rule
declared which = record (new_rule (id which)) { long = Some (id which); action = Some Set }

-- a command that reads all words and has no `--help`
abbrev plainly : Shape → Shape
plainly shape = record shape { no_binary_name = true; disable_help_flag = true }

abbrev pub line_app : App
line_app = with_rule (with_rule (on_top plainly (new_app (codes "bouquet"))) (declared true)) (declared false)

-- the command that the builders make
pub is_line : (start bare plain first line : Command) (work demo : Arg) → app_of start ≡ new_app (codes "bouquet")
    → out-Command bare ≡ record (out-Command start) { no_binary_name = true } → out-Command plain ≡ record (out-Command bare) { disable_help_flag = true }
    → app_of first ≡ with_rule (app_of plain) (rule_of work) → app_of line ≡ with_rule (app_of first) (rule_of demo)
    → rule_of work ≡ declared true → rule_of demo ≡ declared false → app_of line ≡ line_app
is_line start bare plain first line work demo named nameless helpless one two work_is demo_is =
    let plain_is = ap app_of_fields helpless ∙ ap (λ f. app_of_fields (record f { disable_help_flag = true })) nameless ∙ ap (on_top plainly) named in
    two ∙ ap₂ with_rule (one ∙ ap₂ with_rule plain_is work_is) demo_is

abbrev pub top : Shape
top = (built line_app).top

abbrev pub rule : Bool → Rule
rule which = with_index 1 (filled (declared which))

-- ---- where the walk stands between words

abbrev pub Pending : Type 0
Pending = Option (Text × List Text)

abbrev pub held : List Row → Pending → Held
held rows pending = record { rows = rows; pending = pending; skip = 0 }

-- between two uses
abbrev pub at : List Row → Pending → Walk
at rows pending = walk_from (held rows pending)

-- behind the name of an option
abbrev pub waiting : Bool → List Row → Walk
waiting which rows = record (at rows (Some (id which, []))) { waiting = option (id which) }

abbrev pub settles : List Row → Pending → Kinds
settles rows pending = settle_fault top.rules false (held rows pending)

abbrev pub next_walk : Walk → Text → Walk
next_walk = walked top.rules []

abbrev pub turn : Walk → Text → Kinds
turn = turn_fault top []

abbrev pub hyphens : Text
hyphens = codes "--"

-- ---- kinds

abbrev pub Fails : Kinds → Type 0
Fails kinds = kinds ≡ [] → ⊥

pub none-or_else : (a b : Kinds) → or_else a b ≡ [] → (a ≡ []) × (b ≡ [])
none-or_else [] b e = (refl, e)
none-or_else (k ∷ ks) b e = cc

pub or_else-none : (a b : Kinds) → a ≡ [] → b ≡ [] → or_else a b ≡ []
or_else-none a b p q = rw p q

pub unwaited : (which : Bool) (rows : List Row) → Fails (settles rows (Some (id which, [])))
unwaited true rows e = cc
unwaited false rows e = cc
