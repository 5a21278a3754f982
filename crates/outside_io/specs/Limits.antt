-- The limit of a file, which is one of those of the whole product.
pub use Rattle.sql_values.specs.Limits.{max_file_bytes}
