-- What a reader of known bytes has yet to read.
use Rattle.std.specs.Prelude.{◌≡◌, ℕ, ◌+◌, true, List, [], length, Option, Some, None, IsSome}
use Rattle.csv.specs.Reading.{records_from, source_of, reader_config, reader_trim, reader_state, is_flexible, Ready, default_config}
use Rattle.csv.specs.declared.parser.State.{State}
use Rattle.csv.specs.declared.error.ErrorKind.{ErrorKind}
use Rattle.csv.specs.declared.error.ErrorKind.TheVariants as kind
use Rattle.csv.specs.declared.reader.Reader.{Reader}
use Rattle.csv.specs.declared.reader.Trim.TheVariants as trim

-- the records of a text, if it is known, from a state
abbrev pub records_after : State → Option (List ℕ) → List (List (List ℕ))
records_after state None = []
records_after state (Some text) = records_from default_config (length text + 1) state text

-- the entries that a reader has yet to give
unfoldable pub records_left : {R : Type 0} → (R → Option (List ℕ)) → Reader R → List (List (List ℕ))
records_left remaining reader = records_after (reader_state reader) (source_of remaining reader)

-- a reader that gives the entries of known bytes one by one, each as it stands there, of whatever length
pub record GivesEntries {R : Type 0} (remaining : R → Option (List ℕ)) (reader : Reader R) : Type 0 where
  pub known : IsSome (source_of remaining reader)
  pub config : reader_config reader ≡ default_config
  pub untrimmed : reader_trim reader ≡ trim.None
  pub flexible : is_flexible reader ≡ true
  pub ready : Ready reader

-- what may stop such a reader: a fault of its source, or memory that ran out
abbrev pub MayStop : ErrorKind → Type 0
MayStop (kind.Io fault) = Unit {0}
MayStop kind.OutOfMemory = Unit {0}
MayStop other = ⊥
