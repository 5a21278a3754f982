use Rattle.std.proofs.Common.{not, pos, sym, ap, ◌∙◌}
use Rattle.std.specs.Prelude.{slice_index_or}
use Rattle.sql_values.specs.Stored.{values_of}
use Rattle.sql_values.specs.Truth.{is_null}
use Rattle.query_block.specs.Truth.{value_at}
use Rattle.row_filter.proofs.Nulls.{not-null, null-at, others-among}
use Rattle.row_filter.proofs.known.other_words.Goals as goal

pub returns : goal.returns
returns c =
    let texts = c.args._texts.now in
    record {
      there = c.requires;
      tells = λ words stored fits.
          others-among (slice_index_or words c.args.column (pos 0)) fits ∙ sym (ap not (null-at texts c.args.columns.now words c.args.column stored c.requires))
          ∙ not-null (is_null (value_at (values_of texts c.args.columns.now words) c.args.column));
    }
