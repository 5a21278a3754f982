use Rattle.std.proofs.Common.{pos, sym, ◌∙◌}
use Rattle.std.specs.Prelude.{slice_index_or}
use Rattle.sql_values.specs.Stored.{values_of}
use Rattle.sql_values.specs.Truth.{is_null}
use Rattle.query_block.specs.Truth.{value_at}
use Rattle.row_filter.proofs.Nulls.{is-null, null-among, null-at}
use Rattle.row_filter.proofs.known.null_words.Goals as goal

pub returns : goal.returns
returns c =
    let texts = c.args._texts.now in
    record {
      there = c.requires;
      tells = λ words stored fits.
          null-among (slice_index_or words c.args.column (pos 0)) ∙ sym (null-at texts c.args.columns.now words c.args.column stored c.requires)
          ∙ is-null (is_null (value_at (values_of texts c.args.columns.now words) c.args.column));
    }
