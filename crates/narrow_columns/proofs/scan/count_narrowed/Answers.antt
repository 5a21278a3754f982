use Rattle.std.proofs.Common.{◌+◌, ◌-◌, ◌∙◌, take, drop, ap, arith}
use Rattle.std.proofs.lemmas.List.Sums.{count_by-le-length}
use lib.Count.{ones}
use Rattle.std.proofs.lemmas.List.{length-take}
use Rattle.narrow_columns.specs.Codes.{is_code_among}
use Rattle.narrow_columns.proofs.CodesMarked.{ones-marks_of, count_by-more, count_by-last}
use Rattle.narrow_columns.proofs.scan.count_narrowed.Goals as goal

pub loop-first-preserved : goal.loop-first-preserved
loop-first-preserved g c =
    let p = is_code_among c.args.range.least c.args.range.greatest in
    let codes = g.C.CodeList.codes c.args.codes.now in
    let first = c.loop-first.first in
    let block = ap ones c.block.ensures ∙ ones-marks_of p (take 64 (drop first codes)) in
    record { count = omega (arith, c.loop-first.invariant.count, block, count_by-more p first 64 codes); there = omega (arith, c.loop-first-test.true) }

pub overflow_add-count : goal.overflow_add-count
overflow_add-count g c =
    let p = is_code_among c.args.range.least c.args.range.greatest in
    let codes = g.C.CodeList.codes c.args.codes.now in
    let first = c.loop-first.first in
    let block = ap ones c.block.ensures ∙ ones-marks_of p (take 64 (drop first codes)) in
    omega (arith, c.loop-first.invariant.count, block, count_by-more p first 64 codes, count_by-le-length p (take (first + 64) codes), length-take (first + 64) codes)

pub overflow_add-result : goal.overflow_add-result
overflow_add-result g c =
    let p = is_code_among c.args.range.least c.args.range.greatest in
    let codes = g.C.CodeList.codes c.args.codes.now in
    let first = c.loop-first.first in
    let last = ap ones c.marks_one_by_one.ensures ∙ ones-marks_of p (take (c.args.len - first) (drop first codes)) in
    omega (arith, c.loop-first.invariant.count, last, count_by-last p first (c.args.len - first) codes (omega arith), count_by-le-length p codes)

pub returns : goal.returns
returns g c =
    let p = is_code_among c.args.range.least c.args.range.greatest in
    let codes = g.C.CodeList.codes c.args.codes.now in
    let first = c.loop-first.first in
    let last = ap ones c.marks_one_by_one.ensures ∙ ones-marks_of p (take (c.args.len - first) (drop first codes)) in
    omega (arith, c.loop-first.invariant.count, last, count_by-last p first (c.args.len - first) codes (omega arith))
