use Rattle.std.proofs.Common.{◌≡◌, ◌++◌, map, Some}
use Rattle.sql_values.specs.Dictionary.{code_of, with_texts, Begins}
use Rattle.sql_values.proofs.Dictionary.{texts_of}
use Rattle.sql_values.proofs.texts.Texts.put_all.Given as goal

abbrev pub invariant-loop-text : goal.invariant-loop-text
invariant-loop-text l =
    let all = with_texts l.initial.self (texts_of l.initial.text-iterator) in
    Begins l.initial.self l.self
    × (with_texts l.self (texts_of l.text-iterator) ≡ all)
    × (map Some l.codes.items ++ map (code_of all) (texts_of l.text-iterator) ≡ map (code_of all) (texts_of l.initial.text-iterator))
