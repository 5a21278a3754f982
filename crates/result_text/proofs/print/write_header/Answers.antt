use Rattle.std.proofs.Common.{◌≡◌, take, arith}
use Rattle.std.proofs.lemmas.List.{take_all}
use Rattle.std.proofs.lemmas.Result.{on_ok_weaker}
use Rattle.result_text.proofs.TextWriter.{writes_record}
use Rattle.result_text.proofs.print.write_header.Goals as goal

pub returns : goal.returns
returns c =
    let all : take c.loop-name.name-index c.args.names.now ≡ c.args.names.now = take_all _ _ (omega arith) in
    on_ok_weaker c.end_record.result (writes_record _ _ _ _ (rw all at c.loop-name.invariant)) c.end_record.ensures
