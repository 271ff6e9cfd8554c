-- Signals by the CAN identifiers of their messages and their names.
use Rattle.std.specs.Prelude.{ℕ, ◌==◌, Bool, ◌&&◌, List}
use Rattle.std.specs.Borrow.{Bor}
use Rattle.std.specs.Str.{bytes_eq}

abbrev pub same_signal : ℕ × List ℕ → ℕ × List ℕ → Bool
same_signal a b = (a.0 == b.0) && bytes_eq a.1 b.1

-- a signal whose name is borrowed
abbrev pub named_signal : ℕ × Bor (List ℕ) → ℕ × List ℕ
named_signal signal = (signal.0, signal.1.now)
