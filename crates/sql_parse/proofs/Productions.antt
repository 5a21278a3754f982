-- What the proof of a production is made of, from one place.
pub use Rattle.sql_parse.specs.Lexemes.{Lexeme, Word, mark}
unfoldable pub use Rattle.sql_parse.specs.Reading.{after_word, after_mark, name_at, number_at, list_at, in_parentheses_at, text_token_at}
pub use Rattle.sql_parse.specs.Grammar.{IsName, Separated}
pub use Rattle.sql_parse.proofs.Read.{either_word, IsAfter, Reads, then_read, also, name-reads, number-reads, list-reads, then_after, in_parentheses-reads, text-reads}
pub use Rattle.sql_parse.proofs.ReadQueries.{select-reads}
pub use Rattle.sql_parse.proofs.Again.{IsReadAgain, list-again}
pub use Rattle.sql_parse.proofs.AgainQueries.{read_to_end, select-again}
pub use Rattle.sql_parse.proofs.PrintedForms.{tokens_of, IsPrintedBy, separated-printed, tokens-append}
pub use Rattle.sql_parse.proofs.PrintedQueries.{select-printed}
pub use Rattle.sql_parse.proofs.Sound.{word-sound, EachSound, mark-sound}
pub use Rattle.sql_parse.proofs.SoundForms.{IsWritable, listed-writable, sound-front, select-writable}
pub use Rattle.sql_parse.proofs.WrittenParts.{Writable, writable-append}
pub use Rattle.sql_parse.proofs.Operands.{Holds, no_terms, hold-none, hold-after, select-held}
pub use Rattle.sql_parse.proofs.CanonicalUtf8.{query-utf8}
pub use Rattle.sql_parse.proofs.WellFormedQueries.{AreNumbered, query-well_formed}
unfoldable pub use Rattle.sql_parse.specs.Statements.{statement_at, create_at}
pub use Rattle.std.specs.Str.{IsUtf8}
