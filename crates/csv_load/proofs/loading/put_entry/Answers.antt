use Rattle.std.proofs.Common.{◌≡◌, ◌≢◌, ◌+◌, ◌≤◌, ◌∷◌, [], ◌++◌, drop, length, length-append, Some, sym, ap, ap₂, ◌∙◌, append_assoc, append-nil, arith, rules}
use Rattle.csv.specs.Records.{fields_of}
use Rattle.csv_load.specs.declared.fault.LoadFault.TheVariants.{NoMemory}
use Rattle.csv_load.specs.Field.{field_value}
use Rattle.csv_load.specs.Load.{entry_fault, entry_row}
use Rattle.csv_load.proofs.Rows.{fields_fault_from-more, fields_fault_from-bad, entry_row-more, entry_row-all}
use Rattle.csv_load.proofs.loading.put_entry.Goals as goal

pub returns-in_err-put_field-clause-fault : goal.returns-in_err-put_field-clause-fault
returns-in_err-put_field-clause-fault c =
    let due = c.in_err-put_field.ensures.fault.refused in
    let bad : c.in_err-put_field.field-0.0 ≢ NoMemory → entry_fault c.args.columns.now c.args.n (fields_of c.args.entry.now) ≡ Some c.in_err-put_field.field-0.0 =
    λ other. c.loop-i.invariant.good ∙ fields_fault_from-bad c.loop-i.i c.args.n c.args.columns.now (fields_of c.args.entry.now) c.index-columns-i.result c.in-Some.field.now c.in_err-put_field.field-0.0 c.loop-i-test.true c.index-columns-i.is c.in-Some.ensures.value (due other) in
    search rules

pub loop-i-preserved : goal.loop-i-preserved
loop-i-preserved c =
    let put = c.in_ok-put_field.ensures.put in
    let columns = c.args.columns.now in
    let fields = fields_of c.args.entry.now in
    let value = entry_row-more c.loop-i.i columns fields c.index-columns-i.result c.in-Some.field.now c.loop-i-test.true c.index-columns-i.is c.in-Some.ensures.value in
    record {
      columns = ap (λ b. b.columns) put ∙ c.loop-i.invariant.columns;
      rows = ap (λ b. b.rows) put ∙ c.loop-i.invariant.rows;
      place = omega (arith, ap (λ b. length b.row) put, length-append c.loop-i.batch.row (field_value c.index-columns-i.result c.in-Some.field.now ∷ []), c.loop-i.invariant.place);
      row = ap (λ b. b.row ++ entry_row (drop (c.loop-i.i + 1) columns) (drop (c.loop-i.i + 1) fields)) put
          ∙ append_assoc c.loop-i.batch.row _ _ ∙ ap (λ row. c.loop-i.batch.row ++ row) (sym value) ∙ c.loop-i.invariant.row;
      good = c.loop-i.invariant.good ∙ fields_fault_from-more c.loop-i.i c.args.n columns fields c.index-columns-i.result c.in-Some.field.now c.loop-i-test.true c.index-columns-i.is c.in-Some.ensures.value c.in_ok-put_field.ensures.fault.answered;
    }

pub returns-clause-row : goal.returns-clause-row
returns-clause-row c =
    let last : length c.args.columns.now ≤ c.loop-i.i = omega arith in
    let none = entry_row-all c.loop-i.i c.args.columns.now (drop c.loop-i.i (fields_of c.args.entry.now)) last in
    let whole : c.loop-i.batch.row ≡ entry_row c.args.columns.now (fields_of c.args.entry.now) =
    sym (append-nil c.loop-i.batch.row) ∙ ap (λ rest. c.loop-i.batch.row ++ rest) (sym none) ∙ c.loop-i.invariant.row in
    record {
      columns = ap (λ b. b.columns) c.in_ok-end_row.ensures.made ∙ c.loop-i.invariant.columns;
      rows = ap (λ b. b.rows) c.in_ok-end_row.ensures.made ∙ ap₂ (λ all one. all ++ one ∷ []) c.loop-i.invariant.rows whole;
      row = ap (λ b. b.row) c.in_ok-end_row.ensures.made;
    }
