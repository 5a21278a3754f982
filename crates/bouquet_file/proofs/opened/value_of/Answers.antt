use Rattle.std.proofs.Common.{◌≡◌, List, ℕ, Bool, true, false, cond, None, refl, ap}
use Rattle.std.specs.Str.{IsUtf8, is_utf8}
use Rattle.std.proofs.lemmas.Str.{IsUtf8-from_is_utf8, is_utf8-from_IsUtf8}
use Rattle.serde_json.specs.Read.{read}
use Rattle.bouquet_file.specs.declared.fault.OpenFault.TheVariants.{NotJson}
use Rattle.sql_values.specs.Steps.{need}
use Rattle.bouquet_file.specs.Opened.{json_value}
use Rattle.bouquet_file.proofs.opened.value_of.Goals as goal

pub returns-in-Ok : goal.returns-in-Ok
returns-in-Ok c = rw (is_utf8-from_IsUtf8 c.args.bytes.now c.in-Ok.ensures.ok.0, c.in-Ok.ensures.ok.1) refl

not-json : (bytes : List ℕ) → (IsUtf8 bytes → read bytes ≡ None) → json_value bytes ≡ None
not-json bytes none = by (is_utf8 bytes) refl
  where
    by : (b : Bool) → is_utf8 bytes ≡ b → cond b (read bytes) None ≡ None
    by true e = none (IsUtf8-from_is_utf8 bytes e)
    by false e = refl

pub returns-in_default : goal.returns-in_default
returns-in_default c = λ other. ap (need NotJson)
    (not-json c.args.bytes.now (c.in-Err.ensures.err (λ memory. c.in_default.not-Memory (c.classify.ensures.memory.1 memory))))
