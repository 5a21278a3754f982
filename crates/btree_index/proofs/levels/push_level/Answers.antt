use Rattle.std.proofs.Common.{◌≡◌, ◌++◌, ◌∷◌, [], arith, rules}
use Rattle.std.proofs.lemmas.Grind.{common_steps}
use Rattle.btree_index.proofs.Pushed.{each_more}
use Rattle.btree_index.proofs.levels.push_level.Goals as goal

pub loop-node-preserved : goal.loop-node-preserved
loop-node-preserved c =
    let kept = c.loop-node.invariant in
    let inner = c.loop-node.inner.items in
    let word = c.index-word.result.now in
    let pushed : c.push.new.self.items ≡ inner ++ word ∷ [] = search rules in record {
      long = search rules;
      kept = grind (arith, common_steps);
      each = each_more c.args.inner.now.items inner c.push.new.self.items c.args.begin c.len-end.result c.loop-node.node c.min-last.result
          word (search rules) kept.long kept.kept kept.each pushed c.index-word.ensures (search rules) (omega arith);
    }
