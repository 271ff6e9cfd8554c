-- Lists of starts that grow with those of a database.
use Rattle.std.proofs.Common.{◌≡◌, ◌≤◌, true, false, List, [], ◌∷◌, ◌++◌, map, length, refl, sym, ap, ◌∙◌}
use Rattle.std.proofs.Common.{append_assoc, append-nil, arith}
use Rattle.std.specs.Prelude.{nat_lt}
use Rattle.std.specs.List.{flat_map}
use Rattle.std.proofs.lemmas.List.{length-append, length-map}
use Rattle.std.proofs.lemmas.List.Concat.{flat_map-append}
use Rattle.std.proofs.lemmas.Bool.{lt-ltb, le-ltb}
use mathlib.Core.Path.{fun_ext}
use Rattle.dbc_records.specs.Databases.{Database}
use Rattle.dbc_reader.specs.declared.start.Start.{Start}
use Rattle.dbc_reader.specs.declared.start.Starts.{Starts}
use Rattle.dbc_reader.specs.Kinds.{Kind, RecordOf, list_of, Tables, Messages, Comments, Definitions, Defaults, Attributes}
use Rattle.dbc_reader.specs.Kinds.{ValueDescriptions, FloatTypes, Multiplexings, KeptVerbatim}
use Rattle.dbc_reader.specs.Spelling.{AnyStatement, Symbols, Timing, Nodes, OfKind, if_kind, records_of}
use Rattle.dbc_reader.specs.Starts.{Located, starts_of, with_starts, starts_in, extended, caught_up}
use Rattle.dbc_reader.proofs.Sound.Adding.{joined, joined_list}

-- the starts with those of statements more
abbrev pub joined_starts : Starts → List Located → Starts
joined_starts starts located = with_starts (record starts { signals = starts.signals ++ flat_map (λ it. it.signals) located })
    (λ kind. starts_of kind starts ++ flat_map (starts_in kind) located)

-- as many starts of each kind as the database has records
abbrev pub AreMatched : Database → Starts → Type 0
AreMatched d starts = (kind : Kind) → length (starts_of kind starts) ≡ length (list_of kind d)

pub listed_starts : (kind : Kind) (starts : Starts) (lists : Kind → List Start) → starts_of kind (with_starts starts lists)
    ≡ lists kind
listed_starts Tables starts lists = refl
listed_starts Messages starts lists = refl
listed_starts Comments starts lists = refl
listed_starts Definitions starts lists = refl
listed_starts Defaults starts lists = refl
listed_starts Attributes starts lists = refl
listed_starts ValueDescriptions starts lists = refl
listed_starts FloatTypes starts lists = refl
listed_starts Multiplexings starts lists = refl
listed_starts KeptVerbatim starts lists = refl

pub joined_starts_none : (starts : Starts) → joined_starts starts [] ≡ starts
joined_starts_none starts = rw (append-nil starts.signals)
    (ap (with_starts starts) (fun_ext (λ (kind : Kind). append-nil (starts_of kind starts))))

joined_starts_list : (kind : Kind) (starts : Starts) (xs : List Located)
    → starts_of kind (joined_starts starts xs) ≡ starts_of kind starts ++ flat_map (starts_in kind) xs
joined_starts_list kind starts xs = listed_starts kind (record starts {
  signals = starts.signals
      ++ flat_map (λ it. it.signals) xs;
})
    (λ kind. starts_of kind starts ++ flat_map (starts_in kind) xs)

starts_both : (f : Located → List Start) (list : List Start) (xs ys : List Located)
    → (list ++ flat_map f xs) ++ flat_map f ys ≡ list ++ flat_map f (xs ++ ys)
starts_both f list xs ys = append_assoc list (flat_map f xs) (flat_map f ys)
    ∙ ap (λ more. list ++ more) (sym (flat_map-append f xs ys))

pub joined_starts_twice : (starts : Starts) (xs ys : List Located)
    → joined_starts (joined_starts starts xs) ys ≡ joined_starts starts (xs ++ ys)
joined_starts_twice starts xs ys = rw (starts_both (λ it. it.signals) starts.signals xs ys)
    (ap (with_starts (record starts { signals = starts.signals ++ flat_map (λ it. it.signals) (xs ++ ys) }))
    (fun_ext (λ (kind : Kind). ap (λ (list : List Start). list ++ flat_map (starts_in kind) ys) (joined_starts_list kind starts xs)
    ∙ starts_both (starts_in kind) (starts_of kind starts) xs ys)))

-- ---- one statement more

-- a statement has at most one record, of its own kind
one_at_most : (kind other : Kind) (row : RecordOf other) → length (if_kind kind other row) ≤ 1
one_at_most Tables Tables row = omega arith
one_at_most Messages Messages row = omega arith
one_at_most Comments Comments row = omega arith
one_at_most Definitions Definitions row = omega arith
one_at_most Defaults Defaults row = omega arith
one_at_most Attributes Attributes row = omega arith
one_at_most ValueDescriptions ValueDescriptions row = omega arith
one_at_most FloatTypes FloatTypes row = omega arith
one_at_most Multiplexings Multiplexings row = omega arith
one_at_most KeptVerbatim KeptVerbatim row = omega arith
one_at_most kind other row = omega arith

at_most_one : (kind : Kind) (statement : AnyStatement) → length (records_of kind statement) ≤ 1
at_most_one kind (Symbols symbols) = omega arith
at_most_one kind (Timing numbers) = omega arith
at_most_one kind (Nodes nodes) = omega arith
at_most_one kind (OfKind other row) = one_at_most kind other row

extended_by : {A : Type 0} (starts : List Start) (records added : List A) (start : Start) → length starts ≡ length records
    → length added ≤ 1 → extended starts (length (records ++ (added ++ []))) start ≡ starts ++ (map (λ _. start) added ++ [])
unfolding extended
extended_by starts records [] start same few =
    let none : nat_lt (length starts) (length (records ++ [])) ≡ false =
    le-ltb (length starts) (length (records ++ [])) (rw (append-nil records) (omega (arith, same))) in
    rw none (sym (append-nil starts))
extended_by starts records (x ∷ []) start same few =
    let one : nat_lt (length starts) (length (records ++ x ∷ [])) ≡ true =
    lt-ltb (length starts) (length (records ++ x ∷ [])) (rw (length-append records (x ∷ [])) (omega (arith, same))) in
    rw one refl
extended_by starts records (x ∷ y ∷ more) start same few = absurd (omega (arith, few))

matched_by : {A : Type 0} (starts : List Start) (records added : List A) (start : Start) → length starts ≡ length records
    → length (starts ++ (map (λ _. start) added ++ [])) ≡ length (records ++ (added ++ []))
matched_by starts records added start same = rw (
  append-nil added,
  append-nil (map (λ _. start) added),
  length-append starts (map (λ _. start) added),
  length-append records added,
  length-map added (λ _. start),
) (omega (arith, same))

-- the starts of a database that has one statement more
abbrev pub one_more : AnyStatement → Start → List Start → List Located
one_more statement start signals = record { statement = statement; start = start; signals = signals } ∷ []

pub caught_up_is : (d : Database) (starts : Starts) (statement : AnyStatement) (start : Start) (signals : List Start)
    → AreMatched d starts
    → caught_up (record starts { signals = starts.signals ++ signals }) (joined d (statement ∷ [])) start
    ≡ joined_starts starts (one_more statement start signals)
caught_up_is d starts statement start signals matched = rw (append-nil signals)
    (ap (with_starts (record starts { signals = starts.signals ++ signals }))
    (fun_ext (λ (kind : Kind). ap (λ (list : List (RecordOf kind)). extended (starts_of kind starts) (length list) start)
    (joined_list kind d (statement ∷ []))
    ∙ extended_by (starts_of kind starts) (list_of kind d) (records_of kind statement) start (matched kind)
    (at_most_one kind statement))))

pub still_matched : (d : Database) (starts : Starts) (statement : AnyStatement) (start : Start) (signals : List Start)
    → AreMatched d starts → AreMatched (joined d (statement ∷ [])) (joined_starts starts (one_more statement start signals))
still_matched d starts statement start signals matched kind =
    ap length (joined_starts_list kind starts (one_more statement start signals))
    ∙ matched_by (starts_of kind starts) (list_of kind d) (records_of kind statement) start (matched kind)
    ∙ sym (ap length (joined_list kind d (statement ∷ [])))
