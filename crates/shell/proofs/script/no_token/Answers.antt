-- A fault that isn't out of memory is the script's first.
use Rattle.std.proofs.Common.{inl, inr}
use Rattle.shell.specs.Serve.IsScript.{no_token}
use Rattle.shell.proofs.script.no_token.Goals as goal

pub returns-in_default : goal.returns-in_default
returns-in_default c = λ script within offends. elim offends [
  | inl memory ↦ absurd (c.in_default.not-NoMemory memory)
  | inr first ↦ no_token within c.args.fault first
]
