-- How statements kept verbatim begin.
use Rattle.std.proofs.Common.{◌≡◌, ℕ, zero, suc, ◌||◌, ◌&&◌, ◌==◌, ◌⊎◌, inl, inr, Bool, true, false, not, cond, IsTrue, List, []}
use Rattle.std.proofs.Common.{◌∷◌, ◌++◌, Result, Ok, Err, refl, sym, ap, ◌∙◌, append_assoc}
use Rattle.std.specs.Prelude.{if◌then◌else◌}
use Rattle.std.proofs.lemmas.List.{append-nil}
use Rattle.dbc_tokens.specs.declared.fault.ReadFault.{ReadFault}
use Rattle.dbc_reader.specs.declared.stopped.Stopped.TheVariants as stops
use Rattle.std.specs.Prelude.{codes}
use Rattle.std.specs.Str.{bytes_eq}
use Rattle.std.specs.List.{list_any, list_all}
use Rattle.std.proofs.lemmas.Bool.{eqb-true}
use Rattle.dbc_values.specs.Lexical.{is_name, is_text, is_number, kept_words, is_kept_word, is_word, is_keyword}
use Rattle.dbc_records.specs.Kept.{kept_fits, begins}
use Rattle.dbc_values.specs.Pieces.{is_string, is_piece, is_mark_but_semicolon}
use Rattle.dbc_tokens.specs.Tokens.{Token, Cut, End, Fault, ◌▸◌}
use Rattle.dbc_reader.specs.Classes.{has_word, has_name, has_string, has_piece, has_kept_word}
use Rattle.dbc_reader.specs.inner.Cursors.{following}
use Rattle.dbc_reader.specs.inner.Readers.{starts, and_then, token_at}
use Rattle.dbc_reader.specs.inner.Parts.{piece_at, pieces_from}
use Rattle.dbc_reader.proofs.Rounds.{ok_is}
use Rattle.dbc_reader.proofs.Rounds.Lists.{pieces_on, pieces_fail, pieces_end}
use Rattle.dbc_reader.specs.inner.Databases.{begins_kept, first_tokens}
use Rattle.dbc_reader.proofs.Facts.MessageNames.{same_either_way}

three : (k a n c e b s f : Bool)
    → ((k && true) || ((a && (n && true)) || ((c && (e && true)) || ((b && (s && (f && true))) || false))))
    ≡ (k || ((a && n) || ((c && e) || (b && (s && f)))))
three true a n c e b s f = refl
three false true true c e b s f = refl
three false true false true true b s f = refl
three false true false true false true true true = refl
three false true false true false true true false = refl
three false true false true false true false f = refl
three false true false true false false s f = refl
three false true false false e true true true = refl
three false true false false e true true false = refl
three false true false false e true false f = refl
three false true false false e false s f = refl
three false false n true true b s f = refl
three false false n true false true true true = refl
three false false n true false true true false = refl
three false false n true false true false f = refl
three false false n true false false s f = refl
three false false n false e true true true = refl
three false false n false e true true false = refl
three false false n false e true false f = refl
three false false n false e false s f = refl

-- by what is first, second and third
pub kept_by_tokens : (cut : Cut) → begins_kept cut
    ≡ (starts has_kept_word cut || ((starts (has_word (codes "VAL_")) cut && starts has_name (following cut))
    || ((starts (has_word (codes "CM_")) cut && starts (has_word (codes "EV_")) (following cut))
    || (starts (has_word (codes "BA_")) cut && (starts has_string (following cut) && starts (has_word (codes "EV_"))
    (following (following cut)))))))
unfolding begins_kept kept_fits starts has_kept_word has_word has_name has_string
kept_by_tokens (End line) = refl
kept_by_tokens (Fault line) = refl
kept_by_tokens (t ▸ End line) =
    rw (same_either_way t.bytes (codes "VAL_"), same_either_way t.bytes (codes "CM_"), same_either_way t.bytes (codes "BA_"))
    (three (is_kept_word t.bytes) (bytes_eq (codes "VAL_") t.bytes) false (bytes_eq (codes "CM_") t.bytes) false
    (bytes_eq (codes "BA_") t.bytes) false false)
kept_by_tokens (t ▸ Fault line) =
    rw (same_either_way t.bytes (codes "VAL_"), same_either_way t.bytes (codes "CM_"), same_either_way t.bytes (codes "BA_"))
    (three (is_kept_word t.bytes) (bytes_eq (codes "VAL_") t.bytes) false (bytes_eq (codes "CM_") t.bytes) false
    (bytes_eq (codes "BA_") t.bytes) false false)
kept_by_tokens (t ▸ u ▸ End line) =
    rw (
      same_either_way t.bytes (codes "VAL_"),
      same_either_way t.bytes (codes "CM_"),
      same_either_way t.bytes (codes "BA_"),
      same_either_way u.bytes (codes "EV_"),
    )
    (three (is_kept_word t.bytes) (bytes_eq (codes "VAL_") t.bytes) (is_name u.bytes) (bytes_eq (codes "CM_") t.bytes)
    (bytes_eq (codes "EV_") u.bytes) (bytes_eq (codes "BA_") t.bytes) (is_string u.bytes) false)
kept_by_tokens (t ▸ u ▸ Fault line) =
    rw (
      same_either_way t.bytes (codes "VAL_"),
      same_either_way t.bytes (codes "CM_"),
      same_either_way t.bytes (codes "BA_"),
      same_either_way u.bytes (codes "EV_"),
    )
    (three (is_kept_word t.bytes) (bytes_eq (codes "VAL_") t.bytes) (is_name u.bytes) (bytes_eq (codes "CM_") t.bytes)
    (bytes_eq (codes "EV_") u.bytes) (bytes_eq (codes "BA_") t.bytes) (is_string u.bytes) false)
kept_by_tokens (t ▸ u ▸ v ▸ cut) =
    rw (
      same_either_way t.bytes (codes "VAL_"),
      same_either_way t.bytes (codes "CM_"),
      same_either_way t.bytes (codes "BA_"),
      same_either_way u.bytes (codes "EV_"),
      same_either_way v.bytes (codes "EV_"),
    )
    (three (is_kept_word t.bytes) (bytes_eq (codes "VAL_") t.bytes) (is_name u.bytes) (bytes_eq (codes "CM_") t.bytes)
    (bytes_eq (codes "EV_") u.bytes) (bytes_eq (codes "BA_") t.bytes) (is_string u.bytes) (bytes_eq (codes "EV_") v.bytes))

-- ---- the tokens of such a statement

-- the bytes of the tokens up to the first semicolon
abbrev pub up_to_end : Cut → List (List ℕ)
up_to_end (End line) = []
up_to_end (Fault line) = []
up_to_end (t ▸ cut) = if has_piece t then t.bytes ∷ up_to_end cut else []

by_piece : (pieces : List (List ℕ)) (cut : Cut) (o : Result (List ℕ × Cut) ReadFault) → starts has_piece cut ≡ true
    → piece_at cut ≡ o → pieces_from pieces cut ≡ and_then o (λ piece. pieces_from (pieces ++ piece ∷ []))
by_piece pieces cut (Ok x) h k = sym (pieces_on pieces (pieces ++ x.0 ∷ []) x.0 cut x.1 (pieces_from pieces cut) h k refl refl)
by_piece pieces cut (Err fault) h k = pieces_fail (stops.Fault fault) pieces cut (pieces_from pieces cut) h k refl

a_piece : (pieces : List (List ℕ)) (t : Token) (cut : Cut) → has_piece t ≡ true → pieces_from pieces (t ▸ cut)
    ≡ pieces_from (pieces ++ t.bytes ∷ []) cut
unfolding starts has_piece piece_at token_at
a_piece pieces t cut h = by_piece pieces (t ▸ cut) (Ok (t.bytes, cut)) h (rw h refl)

abbrev done : List (List ℕ) → Cut → Result (List (List ℕ) × Cut) ReadFault
done pieces rest = Ok (pieces, rest)

are_same : (a b : List (List ℕ)) (c d : Cut) → done a c ≡ done b d → a ≡ b
are_same a b c d e = ap (λ (x : List (List ℕ) × Cut). x.0) (ok_is (a, c) (b, d) e)

no_piece : (pieces tokens : List (List ℕ)) (cut rest : Cut) → starts has_piece cut ≡ false → pieces_from pieces cut ≡ Ok (
  tokens,
  rest,
) → tokens ≡ pieces ++ []
no_piece pieces tokens cut rest h e = are_same tokens pieces rest cut (sym e ∙ pieces_end pieces cut (pieces_from pieces cut) h
    refl) ∙ sym (append-nil pieces)

one_more : (b : Bool) (pieces tokens : List (List ℕ)) (t : Token) (cut rest : Cut) → has_piece t ≡ b → pieces_from pieces (t ▸ cut)
    ≡ Ok (tokens, rest)
    → (pieces_from (pieces ++ t.bytes ∷ []) cut ≡ Ok (tokens, rest) → tokens ≡ (pieces ++ t.bytes ∷ []) ++ up_to_end cut)
    → tokens ≡ pieces ++ cond b (t.bytes ∷ up_to_end cut) []
unfolding starts
one_more true pieces tokens t cut rest h e below = below (sym (a_piece pieces t cut h) ∙ e)
    ∙ append_assoc pieces (t.bytes ∷ []) (up_to_end cut)
one_more false pieces tokens t cut rest h e below = no_piece pieces tokens (t ▸ cut) rest h e

pub pieces_are : (pieces tokens : List (List ℕ)) (cut rest : Cut) → pieces_from pieces cut ≡ Ok (tokens, rest)
    → tokens ≡ pieces ++ up_to_end cut
unfolding starts
pieces_are pieces tokens (End line) rest e = no_piece pieces tokens (End line) rest refl e
pieces_are pieces tokens (Fault line) rest e = no_piece pieces tokens (Fault line) rest refl e
pieces_are pieces tokens (t ▸ cut) rest e = one_more (has_piece t) pieces tokens t cut rest refl e
    (pieces_are (pieces ++ t.bytes ∷ []) tokens cut rest)

-- ---- they begin as the first three tokens do

abbrev ArePieces : List (List ℕ → Bool) → Type 0
ArePieces [] = Unit {0}
ArePieces (test ∷ tests) = ((bytes : List ℕ) → test bytes ≡ true → is_piece bytes ≡ true) × ArePieces tests

first_true : (a b : Bool) → (a && b) ≡ true → (a ≡ true) × (b ≡ true)
first_true true b h = (refl, h)
first_true false b h = absurd cc

pub begin_alike : (n : ℕ) (tests : List (List ℕ → Bool)) (cut : Cut) → ArePieces tests → begins tests (first_tokens n cut) ≡ true
    → begins tests (up_to_end cut) ≡ true
unfolding has_piece
begin_alike n [] cut h e = refl
begin_alike zero (test ∷ tests) cut h e = absurd cc
begin_alike (suc n) (test ∷ tests) (End line) h e = absurd cc
begin_alike (suc n) (test ∷ tests) (Fault line) h e = absurd cc
begin_alike (suc n) (test ∷ tests) (t ▸ cut) h e =
    let p = first_true (test t.bytes) (begins tests (first_tokens n cut)) e in
    rw (h.0 t.bytes p.0, p.0, begin_alike n tests cut h.1 p.1) refl

same_bytes : (a b : List ℕ) → bytes_eq a b ≡ true → a ≡ b
same_bytes [] [] h = refl
same_bytes [] (y ∷ ys) h = absurd cc
same_bytes (x ∷ xs) [] h = absurd cc
same_bytes (x ∷ xs) (y ∷ ys) h =
    let p = first_true (x == y) (bytes_eq xs ys) h in
    let e : x ≡ y = eqb-true x y p.0 in
    rw (e, same_bytes xs ys p.1) refl

a_word : (word bytes : List ℕ) → is_piece word ≡ true → bytes_eq word bytes ≡ true → is_piece bytes ≡ true
a_word word bytes h e = rw (← same_bytes word bytes e) h

either_true : (a b : Bool) → (a || b) ≡ true → (a ≡ true) ⊎ (b ≡ true)
either_true true b h = inl refl
either_true false b h = inr h

of_words : (bytes : List ℕ) (words : List (List ℕ)) → list_all is_piece words ≡ true → list_any (bytes_eq bytes) words ≡ true
    → is_piece bytes ≡ true
of_words bytes [] h e = absurd cc
of_words bytes (word ∷ words) h e =
    let p = first_true (is_piece word) (list_all is_piece words) h in
    elim (either_true (bytes_eq bytes word) (list_any (bytes_eq bytes) words) e) [
      | inl same ↦ rw (same_bytes bytes word same) p.0
      | inr other ↦ of_words bytes words p.1 other
    ]

kept_word_pieces : list_all is_piece kept_words ≡ true
unfolding is_piece is_string is_text is_number
kept_word_pieces = refl

word_pieces : (is_piece (codes "VAL_") ≡ true) × (is_piece (codes "CM_") ≡ true) × (is_piece (codes "BA_") ≡ true)
    × (is_piece (codes "EV_") ≡ true)
unfolding is_piece is_string is_text is_number
word_pieces = (refl, refl, refl, refl)

or_true : (a b c d : Bool) → b ≡ true → (a || (b || (c || d))) ≡ true
or_true true b c d h = refl
or_true false true c d h = refl
or_true false false c d h = absurd cc

second_true : (a b c d : Bool) → b ≡ true → (((a || b) || c) || d) ≡ true
second_true true b c d h = refl
second_true false true c d h = refl
second_true false false c d h = absurd cc

name_piece : (bytes : List ℕ) → is_name bytes ≡ true → is_piece bytes ≡ true
unfolding is_name is_piece
name_piece bytes h = second_true (is_string bytes) (is_word bytes) (is_number bytes) (is_mark_but_semicolon bytes)
    (first_true (is_word bytes) (not (is_keyword bytes)) h).0

string_piece : (bytes : List ℕ) → is_string bytes ≡ true → is_piece bytes ≡ true
unfolding is_piece
string_piece bytes h = rw h refl

third_true : (a b c d : Bool) → c ≡ true → (a || (b || (c || d))) ≡ true
third_true true b c d h = refl
third_true false true c d h = refl
third_true false false true d h = refl
third_true false false false d h = absurd cc

fourth_true : (a b c d : Bool) → d ≡ true → (a || (b || (c || (d || false)))) ≡ true
fourth_true true b c d h = refl
fourth_true false true c d h = refl
fourth_true false false true d h = refl
fourth_true false false false true h = refl
fourth_true false false false false h = absurd cc

pub any_of_four : (a b c d p q r s : Bool) → (a ≡ true → p ≡ true) → (b ≡ true → q ≡ true) → (c ≡ true → r ≡ true)
    → (d ≡ true → s ≡ true) → (a || (b || (c || (d || false)))) ≡ true → (p || (q || (r || (s || false)))) ≡ true
any_of_four true b c d p q r s f g h k e = rw (f refl) refl
any_of_four false true c d p q r s f g h k e = or_true p q r _ (g refl)
any_of_four false false true d p q r s f g h k e = third_true p q r _ (h refl)
any_of_four false false false true p q r s f g h k e = fourth_true p q r s (k refl)
any_of_four false false false false p q r s f g h k e = absurd cc

-- the tokens that a statement kept verbatim keeps are those of one
pub pieces_fit : (tokens : List (List ℕ)) (cut rest : Cut) → begins_kept cut ≡ true → pieces_from [] cut ≡ Ok (tokens, rest)
    → IsTrue (kept_fits tokens)
unfolding begins_kept kept_fits
pieces_fit tokens cut rest h e =
    let all : tokens ≡ up_to_end cut = pieces_are [] tokens cut rest e in
    rw all (any_of_four _ _ _ _ _ _ _ _
    (begin_alike 3 (is_kept_word ∷ []) cut (λ bytes. of_words bytes kept_words kept_word_pieces, tt))
    (begin_alike 3 (bytes_eq (codes "VAL_") ∷ is_name ∷ []) cut (
      λ bytes. a_word (codes "VAL_") bytes word_pieces.0,
      (name_piece, tt),
    ))
    (begin_alike 3 (bytes_eq (codes "CM_") ∷ bytes_eq (codes "EV_") ∷ []) cut (
      λ bytes. a_word (codes "CM_") bytes word_pieces.1,
      (λ bytes. a_word (codes "EV_") bytes word_pieces.3, tt),
    ))
    (begin_alike 3 (bytes_eq (codes "BA_") ∷ is_string ∷ bytes_eq (codes "EV_") ∷ []) cut (
      λ bytes. a_word (codes "BA_") bytes
          word_pieces.2,
      (string_piece, (λ bytes. a_word (codes "EV_") bytes word_pieces.3, tt)),
    )) h)
