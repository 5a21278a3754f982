use Rattle.std.proofs.Common.{ap, get_or, refl}
use Rattle.db_catalog.proofs.Tables.{IfOk-map}
use Rattle.db_catalog.proofs.database.append_words.Goals as goal

pub returns-clause-appended : goal.returns-clause-appended
returns-clause-appended c =
    IfOk-map c.append_rows.result (λ _ takes. record {
      table = get_or c.args.tables.now c.args.number c.index-tables-number.result;
      after = c.append_rows.new.self;
      there = ap (get_or c.args.tables.now c.args.number) c.index-tables-number.is;
      takes = takes;
      tables = refl;
    }) c.append_rows.ensures.appended
