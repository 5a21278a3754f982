use Rattle.exec_scan.proofs.table_way.is_met.Goals as goal

pub meets-requires-clause-words : goal.meets-requires-clause-words
meets-requires-clause-words c = rw (c.texts.ensures, c.as_slice-2.ensures) c.requires.words
