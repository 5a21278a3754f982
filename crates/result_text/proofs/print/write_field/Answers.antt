use Rattle.result_text.proofs.TextWriter.{field_more}
use Rattle.result_text.proofs.print.write_field.Goals.{in-Ok, in-Err}
use Rattle.result_text.proofs.print.write_field.Goals as goal

pub returns : goal.returns
returns c =
    elim c.match-write_field.branch [
      | in-Ok w ↦
          let e = w.in-Ok.ensures in
          rw w.result-is (field_more _ _ _ e.text e.same e.count e.wrote e.stays)
      | in-Err w ↦ rw w.result-is tt
    ]
