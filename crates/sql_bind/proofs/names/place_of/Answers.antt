use Rattle.std.proofs.Common.{◌∙◌, ap, sym, arith}
use Rattle.std.proofs.lemmas.Grind.{common_steps}
use Rattle.sql_bind.proofs.Found.{fault_found, fault-found, place_found, place-found}
use Rattle.sql_bind.proofs.names.place_of.Goals as goal

pub returns-in-Nothing-clause-refuses : goal.returns-in-Nothing-clause-refuses
returns-in-Nothing-clause-refuses c = grind (arith, common_steps, fault-found, fault_found)

pub returns-in-One-clause-refuses : goal.returns-in-One-clause-refuses
returns-in-One-clause-refuses c = grind (arith, common_steps, fault-found, fault_found)

pub returns-in-One-clause-place : goal.returns-in-One-clause-place
returns-in-One-clause-place c = place-found _ ∙ ap place_found (sym c.look_up.ensures ∙ c.in-One.is)
