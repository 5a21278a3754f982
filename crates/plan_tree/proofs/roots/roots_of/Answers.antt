use Rattle.std.proofs.Common.{◌≡◌, List, [], ◌++◌, arith}
use Rattle.std.proofs.lemmas.Grind.{common_steps}
use Rattle.plan_tree.proofs.RootLists.{roots-by-kind}
use Rattle.plan_tree.proofs.roots.roots_of.Goals as goal

one-after-another : {A : Type 0} (none first second third fourth fifth last scans index_scans nests hashes merges loops : List A)
    → none ≡ [] → first ≡ none ++ scans → second ≡ first ++ index_scans → third ≡ second ++ nests
    → fourth ≡ third ++ hashes → fifth ≡ fourth ++ merges → last ≡ fifth ++ loops
    → last ≡ ((((scans ++ index_scans) ++ nests) ++ hashes) ++ merges) ++ loops
one-after-another none first second third fourth fifth last scans index_scans nests hashes merges loops a b c d e f g = cc

pub returns : goal.returns
returns c = grind (arith, common_steps, one-after-another, roots-by-kind)
