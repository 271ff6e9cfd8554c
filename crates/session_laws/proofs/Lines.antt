-- Lines, each with a line feed after it, are the input.
use Rattle.std.proofs.Common.{◌≡◌, ◌≢◌, ◌==◌, ℕ, Bool, true, false, List, [], ◌∷◌, ◌++◌, refl, sym, ap, ◌∙◌}
use Rattle.std.specs.Prelude.{if◌then◌else◌}
use Rattle.std.specs.List.{onto_first, AllByRecursion}
use Rattle.std.proofs.lemmas.Bool.{eqb-true, eqb-false}
use Rattle.dbc_values.specs.Lexical.{line_feed}
use Rattle.can_line_stream.specs.Lines.{lines_of}
use Rattle.session_laws.specs.Lines.{closed, joined, LinesJoin}

-- ---- joined

-- an input with bytes has a first line
some_by : (c : ℕ) (is : Bool) (rest : List (List ℕ))
    → (line : List ℕ) × (lines : List (List ℕ)) × ((if is then [] ∷ rest else onto_first c rest) ≡ line ∷ lines)
some_by c true rest = ([], rest, refl)
some_by c false [] = (c ∷ [], [], refl)
some_by c false (line ∷ lines) = (c ∷ line, lines, refl)

joined_by : (b : ℕ) (is : Bool) (line : List ℕ) (lines rest : List (List ℕ)) → (b == line_feed) ≡ is → rest ≡ line ∷ lines
    → joined (if is then [] ∷ rest else onto_first b rest) ≡ b ∷ joined rest
joined_by b true line lines rest so some = ap (λ n. n ∷ joined rest) (sym (eqb-true b line_feed so))
joined_by b false line lines rest so some = rw some refl

last_by : (b : ℕ) (is : Bool) → (b == line_feed) ≡ is
    → joined (if is then [] ∷ [] else (b ∷ []) ∷ []) ≡ (if is then b ∷ [] else b ∷ line_feed ∷ [])
last_by b true so = ap (λ n. n ∷ []) (sym (eqb-true b line_feed so))
last_by b false so = refl

lines_joined : (input : List ℕ) → joined (lines_of input) ≡ closed input
lines_joined [] = refl
lines_joined (b ∷ []) = last_by b (b == line_feed) refl
lines_joined (b ∷ c ∷ bytes) =
    let some = some_by c (c == line_feed) (lines_of bytes) in
    joined_by b (b == line_feed) some.0 some.1 (lines_of (c ∷ bytes)) refl some.2
    ∙ ap (λ more. b ∷ more) (lines_joined (c ∷ bytes))

-- ---- without line feeds

none_by : (b : ℕ) (is : Bool) (rest : List (List ℕ)) → (b == line_feed) ≡ is
    → AllByRecursion (AllByRecursion (λ b. b ≢ line_feed)) rest
    → AllByRecursion (AllByRecursion (λ b. b ≢ line_feed)) (if is then [] ∷ rest else onto_first b rest)
none_by b true rest so none = (tt, none)
none_by b false [] so none = ((eqb-false b line_feed so, tt), tt)
none_by b false (line ∷ lines) so none = ((eqb-false b line_feed so, none.0), none.1)

no_line_feed : (input : List ℕ) → AllByRecursion (AllByRecursion (λ b. b ≢ line_feed)) (lines_of input)
no_line_feed [] = tt
no_line_feed (b ∷ bytes) = none_by b (b == line_feed) (lines_of bytes) refl (no_line_feed bytes)

pub lines_join : LinesJoin
lines_join input = (lines_joined input, no_line_feed input)
