use Rattle.std.proofs.Common.{◌≡◌, suc, ◌+◌, ◌-◌, ◌*◌, ◌<◌, ◌∙◌, Bool, true, false, take, drop, map, ap, arith}
use mir.Val.{bool_byte}
use Rattle.narrow_columns.specs.Codes.{is_code_among}
use Rattle.narrow_columns.specs.Marks.{marks_of}
use Rattle.narrow_columns.proofs.CodesMarked.{marks_of-more, marks_of-few}
use Rattle.narrow_columns.proofs.scan.marks_one_by_one.Goals as goal

bit : (b : Bool) → bool_byte b < 2
bit true = omega arith
bit false = omega arith

pub loop-left-preserved : goal.loop-left-preserved
loop-left-preserved g c =
    let p = is_code_among c.args.range.least c.args.range.greatest in
    let codes = g.C.CodeList.codes c.args.codes.now in
    let at = c.args.first + (c.loop-left.left - 1) in
    let n = c.args.count - c.loop-left.left in
    let next : c.args.first + c.loop-left.left ≡ suc at = omega arith in
    let longer : suc n ≡ c.args.count - (c.loop-left.left - 1) = omega arith in
    let marks = c.loop-left.invariant.marks ∙ ap (λ k. marks_of (map p (take n (drop k codes)))) next in
    let this = ap bool_byte (c.contains.ensures ∙ ap p c.code-code.ensures.code) in
    record {
      marks = (λ i. 2 * marks i + this i) ∙ marks_of-more p at n codes (omega arith) ∙ ap (λ k. marks_of (map p (take k (drop at codes)))) longer;
      there = omega arith;
    }

pub overflow_mul-marks : goal.overflow_mul-marks
overflow_mul-marks g c =
    let few = marks_of-few (is_code_among c.args.range.least c.args.range.greatest) (c.args.count - c.loop-left.left) (drop (c.args.first + c.loop-left.left) (g.C.CodeList.codes c.args.codes.now)) (omega arith) in
    omega (arith, c.loop-left.invariant.marks, few)

pub overflow_add-marks : goal.overflow_add-marks
overflow_add-marks g c =
    let few = marks_of-few (is_code_among c.args.range.least c.args.range.greatest) (c.args.count - c.loop-left.left) (drop (c.args.first + c.loop-left.left) (g.C.CodeList.codes c.args.codes.now)) (omega arith) in
    omega (arith, c.loop-left.invariant.marks, few, bit c.contains.result)
