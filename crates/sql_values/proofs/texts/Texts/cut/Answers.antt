use Rattle.std.proofs.Common.{◌∙◌, ap, take}
use Rattle.sql_values.proofs.Dictionary.{texts_of, texts_of-take}
use Rattle.sql_values.proofs.texts.Texts.cut.Goals as goal

pub returns : goal.returns
returns c = ap texts_of c.truncate.ensures.keys ∙ texts_of-take c.args.len c.self.inside.texts.keys ∙ ap (take c.args.len) c.self.view_is
