-- What contracts see of tokens, of the step from one to the next, and of what remains of a text.
use Rattle.std.specs.Prelude.{◌≡◌, ℕ, Bool, List, [], ◌∷◌, drop, Result, Ok, Err, is_some}
use Rattle.std.specs.List.{prefix_len}
use Rattle.dbc_values.specs.Lexical.{is_blank}
use Rattle.dbc_tokens.specs.declared.fault.Cause.TheVariants as causes
use Rattle.dbc_tokens.specs.declared.fault.ReadFault.{ReadFault}
use Rattle.dbc_tokens.specs.declared.token.Next.{Next}
use Rattle.dbc_tokens.specs.declared.token.Next.TheVariants as nexts
use Rattle.dbc_tokens.specs.declared.token.Token as tokens
use Rattle.dbc_tokens.specs.declared.stream.Tokens.{Tokens}
use Rattle.dbc_tokens.specs.Tokens.{Token, Cut, End, Fault, ◌▸◌}
use Rattle.dbc_tokens.specs.inner.Scanner.{line_text_at, plain_token_at, cut_of}

-- a token without its location in memory
abbrev pub token_of : tokens.Token → Token
token_of t = record { kind = t.kind; bytes = t.bytes.now; line = t.line; left = t.left }

-- the remaining tokens
abbrev pub left : Tokens → Cut
left t = cut_of t.line t.rest.now

-- only blanks are before what comes next, and that is a word, a mark, or a number that begins with a digit and has no exponent
abbrev pub plain_comes : Tokens → Bool
plain_comes t = is_some (plain_token_at (drop (prefix_len is_blank t.rest.now) t.rest.now))

-- only blanks are before what comes next, and that is a string that ends at its first quote and in the line in which it begins
abbrev pub line_text_comes : Tokens → Bool
line_text_comes t = is_some (line_text_at (drop (prefix_len is_blank t.rest.now) t.rest.now))

-- how many blanks are at the front
abbrev pub blanks_ahead : Tokens → ℕ
blanks_ahead t = prefix_len is_blank t.rest.now

-- what comes next, and then these
abbrev pub cut_from : Next → Cut → Cut
cut_from (nexts.Token t) cut = token_of t ▸ cut
cut_from (nexts.End line) cut = End line
cut_from (nexts.Fault line) cut = Fault line

-- after the end, and after a fault, only the end in that line is left
abbrev pub NothingAfter : Next → Cut → Type 0
NothingAfter (nexts.Token t) cut = Unit {0}
NothingAfter (nexts.End line) cut = cut ≡ End line
NothingAfter (nexts.Fault line) cut = cut ≡ End line

-- the fault of a position in this line at which no token begins
abbrev pub token_fault : ℕ → ReadFault
token_fault line = record { line = line; cause = causes.Token }

-- what an iterator over tokens gives
abbrev pub item : Result tokens.Token ReadFault → Result Token ReadFault
item (Ok t) = Ok (token_of t)
item (Err fault) = Err fault

-- the tokens, and the fault if one ends them
abbrev pub items : Cut → List (Result Token ReadFault)
items (End line) = []
items (Fault line) = Err (token_fault line) ∷ []
items (t ▸ cut) = Ok t ∷ items cut
