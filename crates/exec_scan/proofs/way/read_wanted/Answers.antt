use Rattle.query_block.specs.Blocks.{relation_tree}
use Rattle.exec_scan.proofs.Relations.{found-weaker}
use Rattle.exec_scan.proofs.Wanted.{first-read, none-read}
use Rattle.exec_scan.proofs.way.read_wanted.Goals as goal

pub returns-clause-row : goal.returns-clause-row
returns-clause-row c =
    let database = c.args.meter.now.database in
    let own = relation_tree c.args.relation.now in
    let old = c.args.reader.now in
    let mid = c.descend_to_wanted.new.reader in
    let new = c.read.new.self in
    let done = c.in_ok-descend_to_wanted.ensures in
    let still = c.read.ensures.goes_on.descended done.descended in
    let read = rw c.descend_to_wanted.ensures.pays.database at c.read.ensures.row in
    found-weaker c.read.result
    (λ none. none-read database own c.requires.way.relation.fits old mid new c.requires.way.table done.entries c.descend_to_wanted.ensures.goes_on.moves c.read.ensures.goes_on.moves done.descended still none)
    (λ words reads. first-read database own c.requires.way.relation.fits old mid new c.requires.way.table done.entries c.descend_to_wanted.ensures.goes_on.moves c.read.ensures.goes_on.moves done.descended still words.now reads)
    read
