-- There was no memory to read the arguments, so nothing was done; a demonstration takes nothing from the source.
use Rattle.std.proofs.Common.{inr, refl}
use Rattle.command_line.specs.Words.{options_of, word_texts}
use Rattle.shell.specs.declared.status.Status.TheVariants as status
use Rattle.shell.proofs.Asked.{where_asked, where_shown}
use Rattle.shell.proofs.Demonstrations.{demonstrates_nothing}
use Rattle.shell.proofs.Runs.{runs_nothing, untaken_bounded}
use Rattle.shell.proofs.program.serve.Goals as goal

pub returns-in-Err-NoMemory-clause-serves : goal.returns-in-Err-NoMemory-clause-serves
returns-in-Err-NoMemory-clause-serves g c =
    where_asked (options_of (word_texts c.args.words.now)) (λ options plain.
    (runs_nothing options.max_work _ _ status.NoMemory (g.K.Sink.got c.args.sink.now) (g.K.Sink.got c.args.sink.now) c.args.book.now (g.S.Source.left c.args.source.now) (g.F.Folder.state c.args.folder.now) c.requires.unpaid (inr refl)).serves)

pub returns-in-Err-NoMemory-clause-demonstrates : goal.returns-in-Err-NoMemory-clause-demonstrates
returns-in-Err-NoMemory-clause-demonstrates g c =
    where_shown (options_of (word_texts c.args.words.now)) (λ options number.
    demonstrates_nothing options.max_work number _ (g.K.Sink.got c.args.sink.now) c.args.book.now c.requires.unpaid)

pub returns-in-Some-clause-bounded : goal.returns-in-Some-clause-bounded
returns-in-Some-clause-bounded g c = untaken_bounded (g.S.Source.left c.args.source.now)
