use Rattle.std.proofs.Common.{◌∙◌, ap, ap₂, sym, subst, rules, map, true≢false, codes, inl, inr}
use Rattle.std.specs.Prelude.{string_bytes}
use Rattle.std.specs.Option.{option_to_list}
use Rattle.std.specs.Str.{bytes_eq}
use Rattle.clap.specs.Words.{HasKind, fault_of, found_of, is_simple, is_simple_and_free, matches_of}
use Rattle.clap.proofs.WalkLemmas.{first_value-rows, list_any-map}
use Rattle.command_line.specs.Words.{options_of_numbers}
use Rattle.command_line.proofs.ClapLine.{hyphens, is_line}
use Rattle.command_line.proofs.WordsGiven.{of_rows, takes_line, refuses_line}
use Rattle.command_line.proofs.words.matched.Goals as goal

pub returns-then-has_hyphens-clause-refused : goal.returns-then-has_hyphens-clause-refused
returns-then-has_hyphens-clause-refused c _ =
    refuses_line (map string_bytes c.args.words.now) (λ good.
    true≢false (sym c.if-has_hyphens.true ∙ c.has_hyphens.ensures ∙ list_any-map (λ word. bytes_eq word hyphens) string_bytes c.args.words.now ∙ good.0))

pub returns-in-Ok-clause-matched : goal.returns-in-Ok-clause-matched
returns-in-Ok-clause-matched c =
    let words = map string_bytes c.args.words.now in
    let line_is = is_line c.new-3.result c.no_binary_name.result c.disable_help_flag.result c.in_ok-arg.field-0 c.in_ok-command.command c.action-max_work.result c.action-demo.result
    c.new-3.ensures.app c.no_binary_name.ensures c.disable_help_flag.ensures (c.in_ok-arg.ensures.shape (search rules)) (c.in_ok-command.ensures.shape (search rules))
    (search rules) (search rules) in
    let none = sym (ap (λ a. fault_of a words) line_is) ∙ c.in-Ok.ensures.kinds (ap is_simple_and_free line_is) in
    let found = found_of c.in-Ok.matches in
    let rows = (c.in-Ok.ensures.matches (ap is_simple line_is)).0 ∙ ap (λ a. matches_of a words) line_is in
    let clean = sym (list_any-map (λ word. bytes_eq word hyphens) string_bytes c.args.words.now) ∙ sym c.has_hyphens.ensures ∙ c.if-has_hyphens.false in
    takes_line words clean none ∙ ap of_rows (sym rows)
    ∙ ap₂ (λ a b. options_of_numbers (option_to_list a) (option_to_list b)) (sym (first_value-rows found (codes "max-work"))) (sym (first_value-rows found (codes "demo")))

pub returns-in-Err-clause-refused : goal.returns-in-Err-clause-refused
returns-in-Err-clause-refused c is =
    let words = map string_bytes c.args.words.now in
    let line_is = is_line c.new-3.result c.no_binary_name.result c.disable_help_flag.result c.in_ok-arg.field-0 c.in_ok-command.command c.action-max_work.result c.action-demo.result
    c.new-3.ensures.app c.no_binary_name.ensures c.disable_help_flag.ensures (c.in_ok-arg.ensures.shape (search rules)) (c.in_ok-command.ensures.shape (search rules))
    (search rules) (search rules) in
    let kinds = c.in-Err.ensures.kinds (ap is_simple_and_free line_is) in
    refuses_line words (λ good.
    let memory = subst (λ k. HasKind k c.in-Err.error) (ap (λ a. fault_of a words) line_is ∙ good.1) kinds in
    elim memory [
      | inl full ↦ let no = c.fault_of.ensures full in cc
      | inr among ↦ absurd among
    ])
