use Rattle.std.proofs.Common.{◌∙◌, sym, arith}
use Rattle.narrow_columns.specs.Codes.{is_code_among}
use Rattle.narrow_columns.proofs.CodesMarked.{count_by-same-below}
use Rattle.narrow_columns.proofs.scan.count_codes.Goals as goal

pub returns : goal.returns
returns g c =
    let narrow = c.narrowed-range.result in
    c.count_narrowed.ensures
    ∙ sym (count_by-same-below (is_code_among c.args.range.least c.args.range.greatest) (is_code_among narrow.least narrow.greatest) g.C.CodeList.top
    (λ code le. c.narrowed-range.ensures.codes code (omega (arith, c.top_code.ensures.top))) (g.C.CodeList.codes c.args.codes.now) c.len-len.ensures.fit)
