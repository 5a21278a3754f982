use Rattle.std.proofs.Common.{subst}
use Rattle.btree_index.specs.Entries.{HaveWords}
use Rattle.db_catalog.specs.Database.{StandAsWords}
use Rattle.db_catalog.specs.Indexes.{index_at}
use Rattle.exec_scan.specs.EntryReading.{EntryReaderState}
use Rattle.exec_scan.proofs.entry_reader.EntryReader.descend.Goals as goal

pub returns-in_err-cursor-clause-words : goal.returns-in_err-cursor-clause-words
returns-in_err-cursor-clause-words c =
    subst (λ (reader : EntryReaderState). HaveWords (index_at c.args.meter.now.database reader.table reader.column)) c.self.view_is c.seek.ensures.words

pub returns-clause-words : goal.returns-clause-words
returns-clause-words c =
    subst (λ (reader : EntryReaderState). HaveWords (index_at c.args.meter.now.database reader.table reader.column)) c.self.view_is c.seek.ensures.words

pub returns-in_err-cursor-clause-rows : goal.returns-in_err-cursor-clause-rows
returns-in_err-cursor-clause-rows c = subst (λ (reader : EntryReaderState). StandAsWords c.args.meter.now.database reader.table) c.self.view_is c.seek.ensures.rows

pub returns-clause-rows : goal.returns-clause-rows
returns-clause-rows c = subst (λ (reader : EntryReaderState). StandAsWords c.args.meter.now.database reader.table) c.self.view_is c.seek.ensures.rows
