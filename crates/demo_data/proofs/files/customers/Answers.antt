use Rattle.std.proofs.Common.{◌*◌, codes}
use Rattle.demo_data.proofs.ByTens.{counted_through}
use Rattle.demo_data.proofs.files.customers.Goals as goal

pub returns : goal.returns
returns c = rw (counted_through (codes "K,G\n") (50 * c.args.n) 10) at c.file_of.ensures
