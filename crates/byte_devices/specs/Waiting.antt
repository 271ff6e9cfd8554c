-- What is buffered before a sink.
use Rattle.std.specs.Prelude.{ℕ, List}

-- the buffered bytes, in order
pub record Held : Type 0 where
  pub items : List ℕ
