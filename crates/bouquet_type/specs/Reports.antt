-- What the report of a run tells.
use Rattle.plan_tree.specs.Plans.{plan_tree}
use Rattle.bouquet_type.specs.declared.report.Report.{Report}
use Rattle.bouquet_type.specs.Runs.{RunEnd}

-- the end of a run, as a report tells it
abbrev pub told_end : Report → RunEnd
told_end report = record { plan = plan_tree report.plan; total = report.work; runs = report.runs; contour = report.contour }
