use Rattle.result_text.proofs.TableText.{table_text-permutation}
use Rattle.result_text.proofs.table.printed_in_any_order.Goals as goal

pub returns : goal.returns
returns c = record { same = table_text-permutation }
