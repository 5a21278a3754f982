use Rattle.std.proofs.Common.{◌≡◌, ◌∙◌, sym, ap, Some, pos, SFits, w64, rules}
use Rattle.std.proofs.lemmas.Int.{to_z-of_z}
use Rattle.std.specs.Str.{bytes_eq}
use Rattle.sql_values.specs.Dictionary.{code_of, with_text}
use Rattle.sql_values.proofs.Dictionary.{texts_of, texts_of-insert_key, code_of-with_text, position_or_len-map}
use Rattle.sql_values.proofs.texts.Texts.put.Goals as goal

pub returns-clause-texts : goal.returns-clause-texts
returns-clause-texts c = ap texts_of c.in_ok-place.ensures.keys ∙ texts_of-insert_key c.self.inside.texts.keys c.args.text ∙ ap (λ t. with_text t c.args.text.items) c.self.view_is

pub returns-clause-code : goal.returns-clause-code
returns-clause-code c =
    let fits : SFits w64 c.code_at.result = search rules in
    let now : texts_of c.insert_full.new.self.keys ≡ with_text (texts_of c.self.inside.texts.keys) c.args.text.items =
    ap texts_of c.in_ok-place.ensures.keys ∙ texts_of-insert_key c.self.inside.texts.keys c.args.text in
    ap (λ t. code_of t c.args.text.items) now
    ∙ code_of-with_text c.args.text.items (texts_of c.self.inside.texts.keys)
    ∙ ap (λ n. Some (pos n)) (position_or_len-map (λ v. v.items) (bytes_eq c.args.text.items) c.self.inside.texts.keys ∙ sym c.in_ok-place.ensures.index)
    ∙ ap Some (sym c.code_at.ensures ∙ sym (to_z-of_z w64 c.code_at.result fits))
