use Rattle.bouquet_type.proofs.OneCompiled.{compiled-one}
use Rattle.bouquet_type.proofs.law.there_is_one_compiled_bouquet.Goals as goal

pub returns : goal.returns
returns c = compiled-one
