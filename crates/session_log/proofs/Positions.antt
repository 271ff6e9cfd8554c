-- The indexes of the items that pass: how many there are, and that none is missing.
use Rattle.std.proofs.Common.{◌≡◌, ◌<◌, ◌+◌, ℕ, zero, suc, Bool, true, false, cond, List, [], ◌∷◌, ◌++◌, length, get_or, refl, sym}
use Rattle.std.proofs.Common.{ap, ◌∙◌, inl, inr, arith, length-append}
use Rattle.std.specs.Prelude.{All, ◌==◌, ◌||◌, map, count_by, if◌then◌else◌}
use Rattle.std.specs.List.{list_any, sum_by}
use Rattle.std.proofs.lemmas.Bool.{cases_Bool, both_ways, eq-eqb, or_left, or_right}
use Rattle.std.proofs.lemmas.List.Elements.{All-cons, All-nil}
use Rattle.std.proofs.lemmas.List.Sums.{sum_by-cons}
use Rattle.std.proofs.lemmas.List.{length-map, get_or-map, append_assoc, length_push}
use Rattle.std.proofs.lemmas.Option.{slice_get-map, slice_get_read}
use Rattle.std.proofs.Math.Seq.{get_or-append_seam}
use Rattle.std.specs.Prelude.{Option, Some, option_map, slice_get, filter, ◌&&◌}
use Rattle.std.specs.Option.{option_map_or}
use Rattle.session_log.specs.Positions.{positions_from}
use Rattle.session_log.specs.inner.Indexes.{Covers}
use Rattle.can_decode.specs.DecodedLines.{Bus, bus_line}
use Rattle.session_log.specs.Touched.{line_touched}
use Rattle.session_log.specs.declared.line.Line.{Line}
use Rattle.session_log.specs.declared.line.RedecodedLine.{RedecodedLine}
use Rattle.session_log.specs.Logs.{bytes_of, IsDecoded, position_of, is_for, TextsAt, Completes}

pub length-positions : {X : Type 0} (test : X → Bool) (at : ℕ) (items : List X) → length (positions_from test at items)
    ≡ count_by test items
length-positions test at [] = refl
length-positions test at (item ∷ items) =
    let rest : length (positions_from test (at + 1) items) ≡ sum_by (λ x. cond (test x) 1 0) items =
    length-positions test (at + 1) items in
    (elim (cases_Bool (test item)) [
      | inl t ↦ rw t (omega (arith, rest))
      | inr f ↦ rw f (omega (arith, rest))
    ]) ∙ sym (sum_by-cons (λ x. cond (test x) 1 0) item items)

within-positions : {X : Type 0} (test : X → Bool) (at : ℕ) (items : List X) → All (λ position. position < at + length items)
    (positions_from test at items)
within-positions test at [] = All-nil _
within-positions test at (item ∷ items) =
    let rest : All (λ position. position < at + length (item ∷ items)) (positions_from test (at + 1) items) =
    λ k d within. omega (arith, within-positions test (at + 1) items k d within) in
    elim (cases_Bool (test item)) [
      | inl t ↦ rw t (All-cons (λ position. position < at + length (item ∷ items)) at (positions_from test (at + 1) items) (omega
          arith)
          rest)
      | inr f ↦ rw f rest
    ]

pub within-all : {X : Type 0} (test : X → Bool) (items : List X) → All (λ position. position < length items) (positions_from test 0
    items)
within-all test items = λ k d within. omega (arith, within-positions test 0 items k d within)

-- an item that passes has its index among them
pub found-position : {X : Type 0} (test : X → Bool) (at : ℕ) (items : List X) (k n : ℕ) (d : X) → k < length items → at + k ≡ n
    → test (get_or items k d) ≡ true → list_any (λ position. position == n) (positions_from test at items) ≡ true
found-position test at [] k n d within sum passes = absurd (omega arith)
found-position test at (item ∷ items) zero n d within sum passes = rw passes (or_left _ _ (eq-eqb at n (omega arith)))
found-position test at (item ∷ items) (suc k) n d within sum passes =
    let later = found-position test (at + 1) items k n d (omega arith) (omega arith) passes in
    elim (cases_Bool (test item)) [
      | inl t ↦ rw t (or_right (at == n) _ later)
      | inr f ↦ rw f later
    ]

is_for-positions : (k : ℕ) (redecoded : List RedecodedLine) → is_for k redecoded ≡ list_any (λ position. position == k) (map
    position_of
    redecoded)
is_for-positions k [] = refl
is_for-positions k (text ∷ texts) = ap (λ rest. text.position == k || rest) (is_for-positions k texts)

-- with a text for each touched line nothing is left: an untouched line keeps its text
pub all_done : (before after : Bus) (numbers : List ℕ) (lines : List Line) (positions : List ℕ) (redecoded : List RedecodedLine)
    → ((line : List ℕ) → line_touched numbers line ≡ false → bus_line after line ≡ bus_line before line)
    → All (IsDecoded before) lines → Covers numbers (map bytes_of lines) positions → TextsAt after lines positions redecoded
    → Completes after lines redecoded
all_done before after numbers lines positions redecoded stays decoded covers h = record {
  texts = h.texts;
  others = λ k d within out.
      let there : get_or (map bytes_of lines) k (bytes_of d) ≡ bytes_of (get_or lines k d) =
      get_or-map bytes_of lines k d (bytes_of d) within in
      elim (cases_Bool (line_touched numbers (bytes_of (get_or lines k d)))) [
        | inl touched ↦ absurd (both_ways _ out (is_for-positions k redecoded
            ∙ rw h.order (covers.touched k (bytes_of d) (omega (arith, length-map lines bytes_of, within))
            (ap (line_touched numbers) there ∙ touched))))
        | inr untouched ↦ decoded k d within ∙ sym (stays (bytes_of (get_or lines k d)) untouched)
      ];
}

-- a further item has its index after the others
pub positions-push : {X : Type 0} (test : X → Bool) (at : ℕ) (items : List X) (item : X)
    → positions_from test at (items ++ item ∷ []) ≡ positions_from test at items ++ (if test item then (at + length items) ∷ [] else
    [])
positions-push test at [] item = let none : at + 0 ≡ at = omega arith in rw none refl
positions-push test at (first ∷ items) item =
    let rest = positions-push test (at + 1) items item in
    let sum : at + 1 + length items ≡ at + length (first ∷ items) = omega arith in
    let later = rw sum at rest in
    elim (cases_Bool (test first)) [
      | inl t ↦ rw t (ap (λ positions. at ∷ positions) later)
      | inr f ↦ rw f later
    ]

-- tests that agree pass the same indexes
pub positions_same : {X : Type 0} (t u : X → Bool) → ((x : X) → t x ≡ u x) → (at : ℕ) (items : List X) → positions_from t at items
    ≡ positions_from u at items
positions_same t u same at [] = refl
positions_same t u same at (item ∷ items) =
    let rest = positions_same t u same (at + 1) items in
    elim (cases_Bool (u item)) [
      | inl hit ↦ (let also = same item ∙ hit in rw (also, hit) (ap (λ positions. at ∷ positions) rest))
      | inr miss ↦ (let also = same item ∙ miss in rw (also, miss) rest)
    ]

pub line_there : (lines : List Line) (position : ℕ) → slice_get (map bytes_of lines) position ≡ option_map bytes_of
    (slice_get lines position)
line_there lines position = slice_get-map bytes_of lines position

-- ---- of the indexes of the items that pass one test, those whose items pass another

one_position : (test : ℕ → Bool) (at : ℕ) (positions : List ℕ) (passes : Bool) → test at ≡ passes → filter test (at ∷ positions)
    ≡ (if passes then at ∷ filter test positions else filter test positions)
one_position test at positions passes is = rw is refl

positions_of_both : {X : Type 0} (t g : X → Bool) (front items : List X) (at : ℕ) → length front ≡ at
    → filter (λ position. option_map_or g (slice_get (front ++ items) position) false) (positions_from t at items)
    ≡ positions_from (λ x. t x && g x) at items
positions_of_both t g front [] at long = refl
positions_of_both {X} t g front (x ∷ items) at long =
    let whole = front ++ x ∷ items in
    let passes : List X → ℕ → Bool = λ xs position. option_map_or g (slice_get xs position) false in
    let within : at < length whole = omega (arith, long, length-append front (x ∷ items)) in
    let seam : x ≡ get_or whole at x = rw (← long) (sym (get_or-append_seam front x items x)) in
    let there : slice_get whole at ≡ Some x = slice_get_read whole (length whole) at x refl within seam in
    let here : passes whole at ≡ g x = ap (λ (o : Option X). option_map_or g o false) there in
    let next : length (front ++ x ∷ []) ≡ at + 1 = length_push front x ∙ ap (λ n. n + 1) long in
    let rest : filter (passes whole) (positions_from t (at + 1) items) ≡ positions_from (λ x. t x && g x) (at + 1) items =
    ap (λ xs. filter (passes xs) (positions_from t (at + 1) items)) (sym (append_assoc front (x ∷ []) items))
    ∙ positions_of_both t g (front ++ x ∷ []) items (at + 1) next in
    elim (cases_Bool (t x)) [
      | inl hit ↦ elim (cases_Bool (g x)) [
        | inl also ↦ rw (hit, also) (one_position (passes whole) at (positions_from t (at + 1) items) true (here ∙ also)
            ∙ ap (λ positions. at ∷ positions) rest)
        | inr fails ↦ rw (hit, fails) (one_position (passes whole) at (positions_from t (at + 1) items) false (here ∙ fails) ∙ rest)
      ]
      | inr miss ↦ rw miss rest
    ]

pub positions_of_all : {X : Type 0} (t g : X → Bool) (items : List X) → filter (λ position. option_map_or g (slice_get items
    position) false)
    (positions_from t 0 items) ≡ positions_from (λ x. t x && g x) 0 items
positions_of_all t g items = positions_of_both t g [] items 0 refl
