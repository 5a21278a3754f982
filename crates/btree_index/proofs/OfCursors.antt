-- What a cursor's next step needs of the entries that are left.
use Rattle.btree_index.proofs.Ranges.{left_step, left_none}

pub ruleset of_cursors = (left_step, left_none)
