use Rattle.result_text.proofs.TextWriter.{record_end}
use Rattle.result_text.proofs.print.end_record.Goals.{in-Ok, in-Err}
use Rattle.result_text.proofs.print.end_record.Goals as goal

pub returns : goal.returns
returns c =
    elim c.match-end_record.branch [
      | in-Ok w ↦
          let e = w.in-Ok.ensures in
          rw w.result-is (record_end _ _ e.bytes e.fields e.wrote e.same)
      | in-Err w ↦ rw w.result-is tt
    ]
