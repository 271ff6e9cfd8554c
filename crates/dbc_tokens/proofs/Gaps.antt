-- The gap that the scanner finds at the front is the one that is there.
use Rattle.std.proofs.Common.{◌≡◌, ℕ, zero, suc, ◌+◌, Bool, true, false, not, cond, eqb, ◌&&◌, List, [], ◌∷◌, ◌++◌, length, take}
use Rattle.std.proofs.Common.{drop, refl, sym, ap, ◌∙◌, append_assoc, arith, one-add, inl, inr}
use Rattle.std.specs.List.{list_all, flat_map}
use Rattle.std.proofs.lemmas.Bool.{eqb-true, cases_Bool, and_parts, not-true, not_from_false, and_from}
use Rattle.std.proofs.lemmas.List.{length-append, take-append-drop}
use Rattle.dbc_values.specs.Lexical.{line_feed, slash, is_blank, is_line_feed}
use Rattle.dbc_tokens.specs.Tokens.{Part, Blank, Comment, part_bytes, EndsLine, AreParts, IsGap, BeginsNoGap}
use Rattle.dbc_tokens.specs.inner.Scanner.{gap_len, begins_with_slash}

-- within a comment: its further bytes, and the gap after it
pub record InComment (gap rest : List ℕ) : Type 0 where
  pub body : List ℕ
  pub parts : List Part
  pub bytes : gap ≡ body ++ flat_map part_bytes parts
  pub no_feed : list_all (λ b. not (is_line_feed b)) body ≡ true
  pub ends : EndsLine (flat_map part_bytes parts ++ rest)
  pub are_parts : AreParts parts rest

-- the gap goes up to rest, where none goes on
abbrev pub IsFront : Bool → List ℕ → List ℕ → Type 0
IsFront false gap rest = IsGap gap rest × (gap_len false rest ≡ 0)
IsFront true gap rest = InComment gap rest × (gap_len false rest ≡ 0)

add_blank : (b : ℕ) (gap rest : List ℕ) → is_blank b ≡ true → IsFront false gap rest → IsFront false (b ∷ gap) rest
add_blank b gap rest is ((parts, bytes, are), stop) = ((Blank b ∷ parts, ap (λ (t : List ℕ). b ∷ t) bytes, (is, are)), stop)

add_comment : (gap rest : List ℕ) → IsFront true gap rest → IsFront false (slash ∷ slash ∷ gap) rest
add_comment gap rest (c, stop) = (
  (
    Comment c.body ∷ c.parts,
    ap (λ (t : List ℕ). slash ∷ slash ∷ t) c.bytes,
    (c.no_feed, c.ends, c.are_parts),
  ),
  stop,
)

add_feed : (gap rest : List ℕ) → IsFront false gap rest → IsFront true (line_feed ∷ gap) rest
add_feed gap rest ((parts, bytes, are), stop) = (
  record {
    body = [];
    parts = Blank line_feed ∷ parts;
    bytes = ap (λ (t : List ℕ). line_feed ∷ t) bytes;
    no_feed = refl;
    ends = refl;
    are_parts = (refl, are);
  },
  stop,
)

add_byte : (b : ℕ) (gap rest : List ℕ) → is_line_feed b ≡ false → IsFront true gap rest → IsFront true (b ∷ gap) rest
add_byte b gap rest no_feed (c, stop) = (
  record {
    body = b ∷ c.body;
    parts = c.parts;
    bytes = ap (λ (t : List ℕ). b ∷ t) c.bytes;
    no_feed = and_from _ _ (not_from_false (is_line_feed b) no_feed) c.no_feed;
    ends = c.ends;
    are_parts = c.are_parts;
  },
  stop,
)

abbrev pub At : Bool → ℕ → List ℕ → Type 0
At inside n s = IsFront inside (take n s) (drop n s)

at_more : (inside : Bool) (n b : ℕ) (s : List ℕ) → IsFront inside (b ∷ take n s) (drop n s) → At inside (1 + n) (b ∷ s)
at_more inside n b s h = rw one-add h

at_slash : (b : ℕ) (s : List ℕ) → is_blank b ≡ false → ((eqb b slash && begins_with_slash s) ≡ true
    → At false (1 + gap_len true s) (b ∷ s)) → At false (cond (eqb b slash && begins_with_slash s) (1 + gap_len true s) 0) (b ∷ s)
at_slash b s blank comment =
    elim (cases_Bool (eqb b slash && begins_with_slash s)) [
      | inl y ↦ rw y (comment y)
      | inr n ↦ rw n (([], refl, tt), rw (blank, n) refl)
    ]

pub gap_front : (inside : Bool) (s : List ℕ) → At inside (gap_len inside s) s
gap_front true [] = (record { body = []; parts = []; bytes = refl; no_feed = refl; ends = tt; are_parts = tt }, refl)
gap_front false [] = (([], refl, tt), refl)
gap_front true (b ∷ s) =
    elim (cases_Bool (is_line_feed b)) [
      | inl y ↦ rw y (at_more true (gap_len false s) b s (let e : b ≡ line_feed = eqb-true b line_feed y in
          rw e (add_feed _ _ (gap_front false s))))
      | inr n ↦ rw n (at_more true (gap_len true s) b s (add_byte b _ _ n (gap_front true s)))
    ]
gap_front false (b ∷ []) =
    elim (cases_Bool (is_blank b)) [
      | inl y ↦ rw y (at_more false 0 b [] (add_blank b [] [] y (([], refl, tt), refl)))
      | inr n ↦ rw n (at_slash b [] n (λ h. absurd (let x = (and_parts (eqb b slash) false h).1 in cc)))
    ]
gap_front false (b ∷ c ∷ s) =
    elim (cases_Bool (is_blank b)) [
      | inl y ↦ rw y (at_more false (gap_len false (c ∷ s)) b (c ∷ s) (add_blank b _ _ y (gap_front false (c ∷ s))))
      | inr n ↦ rw n (at_slash b (c ∷ s) n (λ h.
          let both = and_parts (eqb b slash) (eqb c slash) h in
          let one : b ≡ slash = eqb-true b slash both.0 in
          let two : c ≡ slash = eqb-true c slash both.1 in
          let len : 1 + gap_len true (c ∷ s) ≡ suc (suc (gap_len true s)) = rw two (omega arith) in
          rw (len, one, two) (add_comment _ _ (gap_front true s))))
    ]

-- ---- any gap that ends where none goes on has this length

comment_len : (body s : List ℕ) → list_all (λ b. not (is_line_feed b)) body ≡ true → EndsLine s → gap_len true (body ++ s)
    ≡ length body + gap_len false s
comment_len [] [] h e = refl
comment_len [] (b ∷ s) h e = rw e (omega arith)
comment_len (b ∷ body) s h e =
    let both = and_parts (not (is_line_feed b)) (list_all (λ b. not (is_line_feed b)) body) h in
    rw (not-true (is_line_feed b) both.0, comment_len body s both.1 e) (omega arith)

parts_len : (parts : List Part) (rest : List ℕ) → AreParts parts rest → gap_len false rest ≡ 0
    → gap_len false (flat_map part_bytes parts ++ rest) ≡ length (flat_map part_bytes parts)
parts_len [] rest h stop = stop
parts_len (Blank b ∷ parts) rest h stop = rw (h.0, parts_len parts rest h.1 stop) (omega arith)
parts_len (Comment body ∷ parts) rest h stop =
    let regrouped : (body ++ flat_map part_bytes parts) ++ rest ≡ body ++ (flat_map part_bytes parts ++ rest) =
    append_assoc body (flat_map part_bytes parts) rest in
    rw (regrouped, comment_len body (flat_map part_bytes parts ++ rest) h.0 h.1, parts_len parts rest h.2 stop, length-append)
    (omega arith)

pub gap_only : (gap rest : List ℕ) → IsGap gap rest → gap_len false rest ≡ 0 → gap_len false (gap ++ rest) ≡ length gap
gap_only gap rest (parts, bytes, are) stop = rw bytes (parts_len parts rest are stop)

-- ---- no gap begins where the scanner finds none

parts_begin : (parts : List Part) (rest : List ℕ) → AreParts parts rest → gap_len false (flat_map part_bytes parts ++ rest) ≡ 0
    → flat_map part_bytes parts ≡ []
parts_begin [] rest h none = refl
parts_begin (Blank b ∷ parts) rest h none = absurd (let x = rw h.0 at none in omega arith)
parts_begin (Comment body ∷ parts) rest h none = absurd (omega arith)

pub gap_none : (s : List ℕ) → gap_len false s ≡ 0 → BeginsNoGap s
gap_none s none gap rest whole (parts, bytes, are) =
    let split : flat_map part_bytes parts ++ rest ≡ s = ap (λ (t : List ℕ). t ++ rest) (sym bytes) ∙ whole in
    bytes ∙ parts_begin parts rest are (ap (gap_len false) split ∙ none)

pub none_gap : (s : List ℕ) → BeginsNoGap s → gap_len false s ≡ 0
none_gap s none = none_len s (gap_len false s) refl (none (take (gap_len false s) s) (drop (gap_len false s) s)
    (take-append-drop (gap_len false s) s) (gap_front false s).0)
  where
    none_len : (s : List ℕ) (n : ℕ) → gap_len false s ≡ n → take n s ≡ [] → n ≡ 0
    none_len [] n e h = sym e
    none_len (b ∷ s) zero e h = refl
    none_len (b ∷ s) (suc n) e h = absurd cc
