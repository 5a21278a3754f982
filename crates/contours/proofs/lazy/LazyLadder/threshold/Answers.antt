use Rattle.std.proofs.Common.{◌∙◌, ap}
use Rattle.bouquet_type.specs.Compiled.{compiled}
use Rattle.contours.specs.Lazy.{LazyState}
use Rattle.contours.proofs.lazy.LazyLadder.threshold.Goals as goal

pub returns : goal.returns
unfolding compiled
returns c = c.threshold.ensures ∙ ap (λ (l : LazyState). l.maker.threshold) c.self.view_is
