use Rattle.db_catalog.proofs.Growth.{fits_with_rows, fits_with_table, fits_with_index}
use Rattle.db_catalog.proofs.fits.blocks_fit_as_a_database_grows.Goals as goal

pub returns-clause-rows : goal.returns-clause-rows
returns-clause-rows c = fits_with_rows

pub returns-clause-table : goal.returns-clause-table
returns-clause-table c = fits_with_table

pub returns-clause-index : goal.returns-clause-index
returns-clause-index c = fits_with_index
