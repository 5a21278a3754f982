-- What is known of a source and of a sink.
use Rattle.std.specs.Prelude.{ℕ, List, Option}

-- a source: the bytes that it has left, where they are known, and how often it failed
pub record SourceState : Type 0 where
  pub left : Option (List ℕ)
  pub faults : ℕ

-- a sink: the bytes that it has got, where they are known, and how often it failed
pub record SinkState : Type 0 where
  pub got : Option (List ℕ)
  pub faults : ℕ
