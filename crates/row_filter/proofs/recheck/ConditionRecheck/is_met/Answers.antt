use Rattle.std.proofs.Common.{FitsSigned, ◌≡◌, ◌<◌, ◌∙◌, arith, get_or, length, of_z, pos, rules, subst, to_z, w64}
use Rattle.std.proofs.lemmas.Int.{to_z-of_z}
use Rattle.query_block.proofs.Words.{length-words}
use Rattle.query_block.specs.Conditions.{filter_tree}
use Rattle.row_filter.specs.InLists.{IsKnownList}
use Rattle.row_filter.proofs.recheck.ConditionRecheck.is_met.Goals as goal

pub bounds-row-from : goal.bounds-row-from
bounds-row-from c =
    let texts = c.args.texts.now in
    let columns = c.args.columns.now in
    let is = subst (IsKnownList texts columns (filter_tree c.args.condition.now)) c.in-Some.is c.requires.recheck in
    omega (arith, c.from.ensures, is.listed.there, length-words texts columns c.args.row.now c.requires.words.allowed)

pub has-requires : goal.has-requires
has-requires c =
    let is = subst (IsKnownList c.args.texts.now c.args.columns.now (filter_tree c.args.condition.now)) c.in-Some.is c.requires.recheck in
    is.sorted

pub returns-in-Some : goal.returns-in-Some
returns-in-Some c =
    let texts = c.args.texts.now in
    let columns = c.args.columns.now in
    let row = c.args.row.now in
    let list = c.in-Some.list in
    let is = subst (IsKnownList texts columns (filter_tree c.args.condition.now)) c.in-Some.is c.requires.recheck in
    let there : list.column < length row = omega (arith, is.listed.there, length-words texts columns row c.requires.words.allowed) in
    let word = get_or row list.column (pos 0) in
    let same : to_z w64 (of_z w64 word) ≡ word = grind (arith, to_z-of_z, there) in
    let own : FitsSigned w64 word = search rules in
    let asked = rw c.from.ensures at c.has.ensures in
    let asked' = rw same at asked in
    asked' ∙ is.listed.tells row c.requires.words own
