use Rattle.std.proofs.Common.{[], SFits, w64, IsSome, length, sym, ap, ◌∙◌, true≢false, arith, rules}
use Rattle.std.proofs.lemmas.Int.{to_z-of_z}
use Rattle.query_block.specs.Blocks.{relation_tree}
use Rattle.db_catalog.specs.Indexes.{index_height}
use Rattle.exec_scan.proofs.Wanted.{descended, descent-ahead, descent-done}
use Rattle.exec_scan.proofs.way.descend_to_wanted.Goals as goal

pub returns-clause-entries : goal.returns-clause-entries
returns-clause-entries c =
    let own = relation_tree c.args.relation.now in
    let range = c.range_of-range.result in
    let none : IsSome c.args.reader.now.cursor → ⊥ = λ some. true≢false (sym (c.has_descended.ensures.1 some) ∙ c.if-has_descended.false) in
    let from : SFits w64 range.from = search rules in
    let to : SFits w64 range.to = search rules in
    let led = simp to_z-of_z at c.in_ok-descend.ensures.descends.entries in
    let finds = rw (c.as_slice.ensures, c.texts.ensures, c.column.ensures) at (c.range_of-range.ensures [] own.columns) in
    descended c.args.meter.now.database own c.requires.way.relation.fits c.args.reader.now c.descend.new.self range c.requires.way.table none c.in_ok-descend.ensures.descends.descended (finds c.requires.way.relation.allowed.filter)
    c.descend.ensures.words c.descend.ensures.rows led

pub returns-clause-pays : goal.returns-clause-pays
returns-clause-pays c =
    let database = c.args.meter.now.database in
    let old = c.args.reader.now in
    let new = c.descend.new.self in
    let none : IsSome old.cursor → ⊥ = λ some. true≢false (sym (c.has_descended.ensures.1 some) ∙ c.if-has_descended.false) in
    let pays = c.in_ok-descend.ensures.reads.pays in
    record {
      due = record {
        paid = omega (
          arith,
          pays.paid,
          descent-ahead (index_height database old.table old.column) old.cursor none,
          descent-done (index_height database new.table new.column) new.cursor c.in_ok-descend.ensures.descends.descended,
          ap length (returns-clause-entries c),
        );
        refused = tt;
        limit = pays.limit;
        never_falls = pays.never_falls;
      };
      database = c.descend.ensures.reads.database;
    }
