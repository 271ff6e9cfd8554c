-- The statements of a database, one after another: each is proper, and there is space for each message.
use Rattle.std.proofs.Common.{◌≡◌, ℕ, suc, ◌+◌, ◌≤◌, true, List, [], ◌∷◌, ◌++◌, length, length-append, Option, refl, sym, ap, subst}
use Rattle.std.proofs.Common.{inl, inr, ◌⊎◌, arith}
use Rattle.std.specs.Prelude.{nat_le, nat_lt, All}
use Rattle.std.specs.List.{flat_map}
use Rattle.std.proofs.lemmas.Bool.{and_parts}
use Rattle.std.proofs.lemmas.Grind.{common_steps}
use Rattle.std.proofs.lemmas.List.{drop_at}
use Rattle.std.proofs.lemmas.List.Elements.{All-head, All-drop}
use Rattle.std.proofs.lemmas.List.Concat.{flat_map-append}
use Rattle.dbc_records.specs.Databases.{Database, IsDatabase, timing_fits}
use Rattle.dbc_values.specs.Decimals.{Decimal}
use Rattle.dbc_records.specs.Kept.{IsKept}
use Rattle.dbc_records.specs.Records.{IsTableRow, IsValueRow, IsFloatRow, IsMuxRow, IsMessage}
use Rattle.dbc_records.specs.Comments.{IsComment}
use Rattle.dbc_records.specs.Attributes.{IsAttrDef, IsAttrRow}
use Rattle.dbc_reader.specs.Spelling.{records_of}
use Rattle.dbc_reader.specs.Kinds.{Attributes, Comments, Definitions, FloatTypes, KeptVerbatim, Messages, Multiplexings, Tables}
use Rattle.dbc_reader.specs.Kinds.{ValueDescriptions}
use Rattle.dbc_reader.specs.Spelling.{AnyStatement, Symbols, Timing, Nodes, OfKind, Table, OfMessage, OfComment, Definition}
use Rattle.dbc_reader.specs.Spelling.{Default}
use Rattle.dbc_reader.specs.Spelling.{Attribute, Values, Float, Mux, OfKept, timings_of}
use Rattle.dbc_reader.specs.Spelling.{EndsSymbols, FollowOn}
use Rattle.dbc_reader.specs.Spelling.{ArePlaced}
use Rattle.dbc_reader.proofs.Sound.Adding.{joined, joined_twice}

-- ---- each statement fits

-- after this many messages
abbrev pub Fits : ℕ → AnyStatement → Type 0
Fits count (Symbols symbols) = Unit {0}
Fits count (Timing numbers) = Unit {0}
Fits count (Nodes nodes) = Unit {0}
Fits count (Table row) = IsTableRow row
Fits count (OfMessage message) = (nat_lt count 65535 ≡ true) × IsMessage message
Fits count (OfComment comment) = IsComment comment
Fits count (Definition definition) = IsAttrDef definition
Fits count (Default row) = Unit {0}
Fits count (Attribute row) = IsAttrRow row
Fits count (Values row) = IsValueRow row
Fits count (Float row) = IsFloatRow row
Fits count (Mux row) = IsMuxRow row
Fits count (OfKept row) = IsKept row

abbrev pub AllFit : ℕ → List AnyStatement → Type 0
AllFit count [] = Unit {0}
AllFit count (s ∷ more) = Fits count s × AllFit (count + length (flat_map (records_of Messages) (s ∷ []))) more

one_of : {X : Type 0} (P : X → Type 0) (xs : List X) (x : X) (ys : List X) → All P (xs ++ x ∷ ys) → P x
one_of P xs x ys all = All-head P x ys (subst (All P) (drop_at xs (x ∷ ys) (length xs) refl) (All-drop P (length xs) (xs ++ x ∷ ys)
    all))

space : (n m : ℕ) → nat_le (n + suc m) 65535 ≡ true → nat_lt n 65535 ≡ true
space n m e = grind (arith, common_steps)

fits_first : (d : Database) (s : AnyStatement) (more : List AnyStatement) → IsDatabase (joined d (s ∷ more))
    → Fits (length d.messages) s
fits_first d (Symbols symbols) more is = tt
fits_first d (Timing numbers) more is = tt
fits_first d (Nodes nodes) more is = tt
fits_first d (Table row) more is = one_of IsTableRow d.tables row (flat_map (records_of Tables) more) is.tables
fits_first d (OfMessage message) more is =
    let count = and_parts (timing_fits d.bit_timing) (nat_le (length (d.messages
    ++ message ∷ flat_map (records_of Messages) more)) 65535)
    is.fits in (
      space (length d.messages) (length (flat_map (records_of Messages) more)) (subst (λ (n : ℕ). nat_le n 65535 ≡ true)
          (length-append d.messages (message ∷ flat_map (records_of Messages) more)) count.1),
      one_of IsMessage d.messages message (flat_map (records_of Messages) more) is.messages,
    )
fits_first d (OfComment comment) more is = one_of IsComment d.comments comment (flat_map (records_of Comments) more) is.comments
fits_first d (Definition definition) more is = one_of IsAttrDef d.definitions definition (flat_map (records_of Definitions) more)
    is.definitions
fits_first d (Default row) more is = tt
fits_first d (Attribute row) more is = one_of IsAttrRow d.attributes row (flat_map (records_of Attributes) more) is.attributes
fits_first d (Values row) more is = one_of IsValueRow d.values row (flat_map (records_of ValueDescriptions) more) is.values
fits_first d (Float row) more is = one_of IsFloatRow d.floats row (flat_map (records_of FloatTypes) more) is.floats
fits_first d (Mux row) more is = one_of IsMuxRow d.muxes row (flat_map (records_of Multiplexings) more) is.muxes
fits_first d (OfKept row) more is = one_of IsKept d.kept row (flat_map (records_of KeptVerbatim) more) is.kept

pub all_fit : (d : Database) (statements : List AnyStatement) → IsDatabase (joined d statements)
    → AllFit (length d.messages) statements
all_fit d [] is = tt
all_fit d (s ∷ more) is = (
  fits_first d s more is,
  subst (λ (n : ℕ). AllFit n more) (length-append d.messages (flat_map (records_of Messages) (s ∷ [])))
      (all_fit (joined d (s ∷ [])) more (subst (λ (e : Database). IsDatabase e) (sym (joined_twice d (s ∷ []) more)) is)),
)

pub fit_both : (count : ℕ) (xs ys : List AnyStatement) → AllFit count (xs ++ ys) → AllFit count xs
    × AllFit (count + length (flat_map (records_of Messages) xs)) ys
fit_both count [] ys fit = (tt, subst (λ (n : ℕ). AllFit n ys) (plus_none count) fit)
  where
    plus_none : (n : ℕ) → n ≡ n + 0
    plus_none n = omega arith
fit_both count (x ∷ xs) ys fit =
    let below = fit_both (count + length (flat_map (records_of Messages) (x ∷ []))) xs ys fit.1 in
    ((fit.0, below.0), subst (λ (n : ℕ). AllFit n ys) (counted count x xs) below.1)
  where
    counted : (count : ℕ) (x : AnyStatement) (xs : List AnyStatement) → (count + length (flat_map (records_of Messages) (x ∷ []))) +
        length
        (flat_map (records_of Messages) xs) ≡ count + length (flat_map (records_of Messages) (x ∷ xs))
    counted count x xs = omega (
      arith,
      length-append (flat_map (records_of Messages) (x ∷ [])) (flat_map (records_of Messages) xs),
      ap length (flat_map-append (records_of Messages) (x ∷ []) xs),
    )

-- ---- at most one bit timing

pub record Parted (statements : List AnyStatement) : Type 0 where
  pub before : List AnyStatement
  pub numbers : Option (Decimal × Decimal × Decimal)
  pub following : List AnyStatement
  pub same : statements ≡ before ++ Timing numbers ∷ following
  pub none_before : flat_map timings_of before ≡ []
  pub none_following : flat_map timings_of following ≡ []

nothing_left : {X : Type 0} (xs : List X) → suc (length xs) ≤ 1 → xs ≡ []
nothing_left [] h = refl
nothing_left (x ∷ xs) h = absurd (omega (arith, h))

one_more : (s : AnyStatement) (more : List AnyStatement) → timings_of s ≡ [] → (flat_map timings_of more ≡ []) ⊎ Parted more
    → (flat_map timings_of (s ∷ more) ≡ []) ⊎ Parted (s ∷ more)
one_more s more none (inl rest) = inl (rw (none, rest) refl)
one_more s more none (inr rest) = inr (record {
  before = s ∷ rest.before;
  numbers = rest.numbers;
  following = rest.following;
  same = ap (λ (l : List AnyStatement). s ∷ l) rest.same;
  none_before = rw (none, rest.none_before) refl;
  none_following = rest.none_following;
})

pub parted : (statements : List AnyStatement) → length (flat_map timings_of statements) ≤ 1 → (flat_map timings_of statements ≡ [])
    ⊎ Parted statements
parted [] one = inl refl
parted (Timing numbers ∷ more) one = inr (record {
  before = [];
  numbers = numbers;
  following = more;
  same = refl;
  none_before = refl;
  none_following = nothing_left (flat_map timings_of more) one;
})
parted (Symbols symbols ∷ more) one = one_more (Symbols symbols) more refl (parted more one)
parted (Nodes nodes ∷ more) one = one_more (Nodes nodes) more refl (parted more one)
parted (OfKind kind row ∷ more) one = one_more (OfKind kind row) more refl (parted more one)

-- ---- the order on both sides of a bit timing

ends_so : (xs ys : List AnyStatement) → EndsSymbols (xs ++ ys) → EndsSymbols xs
ends_so [] ys h = tt
ends_so (Symbols symbols ∷ xs) ys h = h
ends_so (Timing numbers ∷ xs) ys h = h
ends_so (Nodes nodes ∷ xs) ys h = h
ends_so (Table row ∷ xs) ys h = h
ends_so (OfMessage message ∷ xs) ys h = h
ends_so (OfComment comment ∷ xs) ys h = h
ends_so (Definition definition ∷ xs) ys h = h
ends_so (Default row ∷ xs) ys h = h
ends_so (Attribute row ∷ xs) ys h = h
ends_so (Values row ∷ xs) ys h = h
ends_so (Float row ∷ xs) ys h = h
ends_so (Mux row ∷ xs) ys h = h
ends_so (OfKept row ∷ xs) ys h = h

follows_so : (s : AnyStatement) (xs ys : List AnyStatement) → FollowOn s (xs ++ ys) → FollowOn s xs
follows_so (Symbols symbols) xs ys h = ends_so xs ys h
follows_so (Timing numbers) xs ys h = tt
follows_so (Nodes nodes) xs ys h = tt
follows_so (OfKind kind row) xs ys h = tt

pub placed_both : (xs ys : List AnyStatement) → ArePlaced (xs ++ ys) → ArePlaced xs × ArePlaced ys
placed_both [] ys h = (tt, h)
placed_both (x ∷ xs) ys h = let below = placed_both xs ys h.1 in ((follows_so x xs ys h.0, below.0), below.1)
