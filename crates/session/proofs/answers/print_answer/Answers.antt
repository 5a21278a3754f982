-- The rows are followed by the line below them.
use Rattle.std.proofs.Common.{◌∙◌, ◌++◌}
use Rattle.bouquet_type.specs.Reports.{told_end}
use Rattle.session.specs.Printed.{report_line}
use Rattle.session.proofs.answers.print_answer.Goals as goal

pub returns : goal.returns
returns c =
    c.in_ok-push_report.ensures
    ∙ (λ i. c.in_ok-text.ensures i ++ report_line (c.requires.count i) (told_end c.args.report.now))
