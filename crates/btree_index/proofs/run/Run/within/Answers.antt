use Rattle.std.proofs.Common.{◌-◌, SFits, ap, drop, sym, rules, take, w64, ◌∙◌}
use Rattle.std.proofs.lemmas.Int.{to_z-of_z}
use Rattle.btree_index.specs.Runs.{IsStretch}
use Rattle.btree_index.proofs.Runs.{min_stretch}
use Rattle.btree_index.proofs.Ranges.{between_words, none_within}
use Rattle.btree_index.proofs.run.Run.within.Goals as goal

pub returns-then-to-from : goal.returns-then-to-from
returns-then-to-from c = sym (none_within c.args.self.now c.args.from c.args.to (search rules))

pub returns : goal.returns
returns c =
    let from_fits : SFits w64 c.args.from = c.ranges.from in
    let to_fits : SFits w64 c.args.to = c.ranges.to in
    let begin = c.stretch-begin.result.begin in
    let end = c.stretch-begin.result.end in
    let found : IsStretch c.args.self.now c.args.from c.args.to c.stretch-begin.result = simp to_z-of_z at c.stretch-begin.ensures.found in
    ap (λ xs. take (end - c.min.result) (drop c.min.result xs)) (c.as_slice-entries.ensures.value ∙ c.self.view_is)
    ∙ min_stretch c.args.self.now begin end c.min.result c.min.ensures
    ∙ between_words c.args.self.now c.args.from c.args.to begin end found.begin_there found.end_there found.begins found.ends
