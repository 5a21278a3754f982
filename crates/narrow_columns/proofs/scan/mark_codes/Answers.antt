use Rattle.std.proofs.Common.{◌∙◌, ◌^◌, ◌%◌, ap, arith}
use Rattle.narrow_columns.specs.Codes.{is_code_among}
use Rattle.narrow_columns.proofs.CodesMarked.{map-same-below, marks_of-first}
use Rattle.narrow_columns.proofs.scan.mark_codes.Goals as goal

pub returns : goal.returns
returns g c =
    let narrow = c.narrowed-range.result in
    let wide_test = is_code_among c.args.range.least c.args.range.greatest in
    let test = is_code_among narrow.least narrow.greatest in
    let codes = g.C.CodeList.codes c.args.codes.now in
    let same = map-same-below wide_test test g.C.CodeList.top (λ code le. c.narrowed-range.ensures.codes code (omega (arith, c.top_code.ensures.top))) codes c.len-len.ensures.fit in
    c.first_marks.ensures ∙ ap (λ marks. marks % 2 ^ c.args.count) c.block.ensures ∙ marks_of-first wide_test test codes same c.args.first c.args.count c.requires.few
