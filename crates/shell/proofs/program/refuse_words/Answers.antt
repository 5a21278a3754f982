-- The line was put whole, or its beginning.
use Rattle.std.proofs.Common.{Err, ap}
use Rattle.shell.specs.Serve.{usage_line}
use Rattle.shell.proofs.Beginning.{words_whole, words_part}
use Rattle.shell.proofs.program.refuse_words.Goals as goal

pub returns-in-Ok-clause-refuses : goal.returns-in-Ok-clause-refuses
returns-in-Ok-clause-refuses g c =
    words_whole usage_line (g.K.Sink.got c.args.sink.now) (g.K.Sink.got c.put_text.new.sink) (rw c.as_bytes.ensures.value at c.in-Ok.ensures.whole)

pub returns-in-Err-clause-refuses : goal.returns-in-Err-clause-refuses
returns-in-Err-clause-refuses g c =
    words_part usage_line c.in-Err.ended (g.K.Sink.got c.args.sink.now) (g.K.Sink.got c.put_text.new.sink) c.in-Err.ensures.kinds (rw c.as_bytes.ensures.value at c.in-Err.ensures.part)
    (λ is. c.in-Err.ensures.nothing (ap Err is))
