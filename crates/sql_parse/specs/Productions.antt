-- What a production is made of, from one place.
pub use Rattle.sql_parse.specs.Lexemes.{Lexeme, Word, mark}
unfoldable pub use Rattle.sql_parse.specs.Reading.{after_word, Reader, ◌>>=◌, choose, name_at, number_at, list_at, after_mark, select_at, in_parentheses_at, text_token_at}
pub use Rattle.sql_parse.specs.Grammar.{Rule, IsName, After, Separated, IsSelect}
pub use Rattle.sql_parse.specs.Canonical.{Keyword, Part, Name, Number, listed, Fixed, query_parts, in_parentheses, Text}
