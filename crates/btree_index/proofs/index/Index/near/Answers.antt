use Rattle.std.proofs.Common.{All, ◌+◌, ◌-◌, drop, sym, subst, ◌∙◌}
use Rattle.std.specs.Prelude.{Contains}
use Rattle.std.proofs.lemmas.List.Elements.{All-drop, All-take}
use Rattle.btree_index.proofs.Runs.{near_there}
use Rattle.btree_index.proofs.index.Index.near.Goals as goal

pub returns : goal.returns
returns c =
    let from = c.min-from.result in
    let entries = c.entries-entries.result.now in
    let there = subst (λ all. All (Contains all) c.self.inside.older.value) c.self.view_is (near_there c.self.inside.older.value c.self.inside.newer) in
    let all = subst (All (Contains c.args.self.now)) (sym (c.entries-entries.ensures.entries ∙ c.deref.ensures)) there in
    All-take (Contains c.args.self.now) (from + c.min-count.result - from) (drop from entries) (All-drop (Contains c.args.self.now) from entries all)
