use Rattle.std.proofs.Common.{◌*◌, codes}
use Rattle.demo_data.proofs.ByTens.{counted_through}
use Rattle.demo_data.proofs.files.orders.Goals as goal

pub returns : goal.returns
returns c = rw (counted_through (codes "K,C\n") (200 * c.args.n) (50 * c.args.n)) at c.file_of.ensures
