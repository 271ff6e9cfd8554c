-- Texts being written.
use Rattle.std.specs.Prelude.{ℕ, List}

-- the bytes of a text so far, and how many more can be written without a check of memory
pub record TextBuffer : Type 0 where
  pub items : List ℕ
  pub ready : ℕ
