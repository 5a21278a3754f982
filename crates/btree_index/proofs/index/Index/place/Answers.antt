use Rattle.std.proofs.Common.{SFits, ◌+◌, w64, arith, sym, subst, rules}
use Rattle.std.proofs.lemmas.Int.{to_z-of_z}
use Rattle.btree_index.specs.Cursors.{IsOnRange}
use Rattle.btree_index.specs.Runs.{IsStretch}
use Rattle.btree_index.proofs.Ranges.{none_within}
use Rattle.btree_index.proofs.Runs.{ordered_length, range_both}
use Rattle.btree_index.proofs.index.Index.place.Goals as goal

pub returns-then-to-from-clause-range : goal.returns-then-to-from-clause-range
returns-then-to-from-clause-range c = record { placed = search rules; range = sym (none_within c.args.self.now c.args.from c.args.to (search rules)) }

pub overflow_add-result : goal.overflow_add-result
overflow_add-result c = record { fits = omega (arith, c.stretch-older.ensures.begin_few, c.stretch-newer.ensures.begin_few) }

pub overflow_add-result-2 : goal.overflow_add-result-2
overflow_add-result-2 c = record { fits = omega (arith, c.stretch-older.ensures.end_few, c.stretch-newer.ensures.end_few) }

pub returns-clause-range : goal.returns-clause-range
returns-clause-range c =
    let from_fits : SFits w64 c.args.from = c.ranges.from in
    let to_fits : SFits w64 c.args.to = c.ranges.to in
    let older = c.self.inside.older.value in
    let newer = c.self.inside.newer in
    let a : IsStretch older c.args.from c.args.to c.stretch-older.result =
    subst (λ xs. IsStretch xs c.args.from c.args.to c.stretch-older.result) c.deref.ensures (simp to_z-of_z at c.stretch-older.ensures.found) in
    let b : IsStretch newer c.args.from c.args.to c.stretch-newer.result = simp to_z-of_z at c.stretch-newer.ensures.found in
    let long = ordered_length older newer in
    subst (λ xs. IsOnRange xs c.args.from c.args.to (record {
      next = c.stretch-older.result.begin + c.stretch-newer.result.begin;
      end = c.stretch-older.result.end + c.stretch-newer.result.end;
      older = c.stretch-older.result.begin;
    })) c.self.view_is (record {
      placed = record { next = omega (arith, long, a.begin_there, b.begin_there); end = omega (arith, long, a.end_there, b.end_there) };
      range = range_both older newer c.args.from c.args.to c.stretch-older.result.begin c.stretch-older.result.end c.stretch-newer.result.begin c.stretch-newer.result.end
          a.begin_there a.end_there b.begin_there b.end_there a.begins a.ends b.begins b.ends;
    })
