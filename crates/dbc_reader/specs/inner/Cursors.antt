-- The tokens from a cursor on.
use Rattle.std.specs.Prelude.{ℕ, List}
use Rattle.dbc_reader.specs.declared.cursor.Cursor.{Cursor}
use Rattle.dbc_tokens.specs.declared.token.Kind.TheVariants as kinds
use Rattle.dbc_tokens.specs.Tokens.{Cut, End, Fault, ◌▸◌}
use Rattle.dbc_tokens.specs.Views.{left, cut_from}

unfoldable pub left_at : Cursor → Cut
left_at cursor = cut_from cursor.next (left cursor.after)

-- the tokens after the first
abbrev pub following : Cut → Cut
following (End line) = End line
following (Fault line) = Fault line
following (t ▸ cut) = cut

-- a word, and these tokens after it: what is read after a word does not depend on if the word is
abbrev pub with_word : List ℕ → Cut → Cut
with_word word cut = record { kind = kinds.Word; bytes = word; line = 0; left = 0 } ▸ cut
