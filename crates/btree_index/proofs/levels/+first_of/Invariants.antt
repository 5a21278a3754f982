use Rattle.btree_index.proofs.levels.+first_of.Given as goal

abbrev pub decreases-first_of : goal.decreases-first_of
decreases-first_of l = l.more
