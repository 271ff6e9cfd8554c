-- A text that ends in a line feed, and another after it, have the tokens of both.
use Rattle.std.proofs.Common.{◌≡◌, ℕ, ◌+◌, ◌<◌, ◌≤◌, true, false, not, cond, List, [], ◌∷◌, ◌++◌, length, refl, sym, ap, subst, ◌∙◌}
use Rattle.std.proofs.Common.{append_assoc, arith, ◌⊎◌, inl, inr}
use Rattle.std.specs.List.{list_all, flat_map}
use Rattle.std.proofs.lemmas.Bool.{and_parts, not-true}
use Rattle.std.proofs.lemmas.List.{length-append}
use Rattle.std.proofs.lemmas.List.Concat.{flat_map-append}
use Rattle.std.proofs.lemmas.List.Sums.{sum_by-append, sum_by-cons}
use Rattle.dbc_tokens.specs.declared.token.Kind.{Kind}
use Rattle.dbc_tokens.specs.declared.token.Kind.TheVariants.{Text, Word, Number, Mark}
use Rattle.dbc_values.specs.Lexical.{line_feed, quote, slash, is_line_feed, quoted}
use Rattle.dbc_tokens.specs.Tokens.{IsToken, IsLongest, Part, Blank, Comment, part_bytes, EndsLine, AreParts, IsGap, Token, Cut}
use Rattle.dbc_tokens.specs.Tokens.{End, Fault, ◌▸◌, line_feeds, HasTokens}
use Rattle.dbc_reader.specs.Forms.{◌▸▸◌}
use Rattle.dbc_read.specs.PrintLaws.{LinesJoin}
use Rattle.dbc_tokens.proofs.Longest.{token_begins, kind_there}
use Rattle.dbc_tokens.proofs.LineFeeds.{token_feeds}
use Rattle.dbc_read.proofs.Texts.Longest.{closed_longest}

-- ---- the last byte

-- the last of the bytes, or b if there are none
abbrev last_of : ℕ → List ℕ → ℕ
last_of b [] = b
last_of b (c ∷ s) = last_of c s

last_append : (b : ℕ) (s t : List ℕ) → last_of b (s ++ t) ≡ last_of (last_of b s) t
last_append b [] t = refl
last_append b (c ∷ s) t = last_append c s t

feeds_append : (s t : List ℕ) → line_feeds (s ++ t) ≡ line_feeds s + line_feeds t
feeds_append s t = sum_by-append (λ x. cond (is_line_feed x) 1 0) s t

feeds_cons : (b : ℕ) (s : List ℕ) → line_feeds (b ∷ s) ≡ cond (is_line_feed b) 1 0 + line_feeds s
feeds_cons b s = sum_by-cons (λ x. cond (is_line_feed x) 1 0) b s

-- bytes that end in a line feed hold one
feeds_last : (b : ℕ) (s : List ℕ) → last_of b s ≡ line_feed → 0 < line_feeds (b ∷ s)
feeds_last b [] e = rw e (omega arith)
feeds_last b (c ∷ s) e = omega (arith, feeds_cons b (c ∷ s), feeds_last c s e)

some_feeds : (s : List ℕ) → last_of 0 s ≡ line_feed → 0 < line_feeds s
some_feeds [] e = absurd cc
some_feeds (b ∷ s) e = feeds_last b s e

-- if none of the bytes is a line feed, the last one isn't
no_last : (b : ℕ) (s : List ℕ) → (b ≡ line_feed → ⊥) → list_all (λ c. not (is_line_feed c)) s ≡ true → last_of b s ≡ line_feed → ⊥
no_last b [] other all e = other e
no_last b (c ∷ s) other all e =
    let both = and_parts (not (is_line_feed c)) (list_all (λ c. not (is_line_feed c)) s) all in
    no_last c s (λ same. let none = not-true (is_line_feed c) both.0 in let x : true ≡ false = rw same at none in cc) both.1 e

-- ---- gaps

-- bytes that end in a line feed, after a byte that is none, are some, so what ends a line there is among them
ends_more : (b : ℕ) (s t : List ℕ) → (b ≡ line_feed → ⊥) → last_of b s ≡ line_feed → EndsLine (s ++ []) → EndsLine (s ++ t)
ends_more b [] t other last ends = absurd (other last)
ends_more b (c ∷ s) t other last ends = ends

parts_join : (b : ℕ) (parts more : List Part) (rest : List ℕ) → AreParts parts [] → last_of b (flat_map part_bytes parts)
    ≡ line_feed → AreParts more rest → AreParts (parts ++ more) rest
parts_join b [] more rest are last h = h
parts_join b (Blank c ∷ parts) more rest are last h = (are.0, parts_join c parts more rest are.1 last h)
parts_join b (Comment body ∷ parts) more rest are last h =
    let following = flat_map part_bytes parts in
    let ends_so : last_of (last_of slash body) following ≡ line_feed = sym (last_append slash body following) ∙ last in
    let none = no_last slash body (λ same. let x : slash ≡ line_feed = same in cc) are.0 in
    let whole : following ++ (flat_map part_bytes more ++ rest) ≡ flat_map part_bytes (parts ++ more) ++ rest =
    sym (append_assoc following (flat_map part_bytes more) rest)
    ∙ ap (λ (l : List ℕ). l ++ rest) (sym (flat_map-append part_bytes parts more)) in (
      are.0,
      subst EndsLine whole (ends_more (last_of slash body) following (flat_map part_bytes more ++ rest) none ends_so are.1),
      parts_join (last_of slash body) parts more rest are.2 ends_so h,
    )

gap_join : (text gap rest : List ℕ) → last_of 0 text ≡ line_feed → IsGap text [] → IsGap gap rest → IsGap (text ++ gap) rest
gap_join text gap rest last (parts, same, are) (more, also, these) = (
  parts ++ more,
  rw (same, also) (sym (flat_map-append part_bytes parts more)),
  parts_join 0 parts more rest are (ap (last_of 0) (sym same) ∙ last) these,
)

-- a gap before a byte is one whatever is after the byte
parts_before : (parts : List Part) (b : ℕ) (s t : List ℕ) → AreParts parts (b ∷ s) → AreParts parts (b ∷ t)
parts_before [] b s t are = tt
parts_before (Blank c ∷ parts) b s t are = (are.0, parts_before parts b s t are.1)
parts_before (Comment body ∷ parts) b s t are = (
  are.0,
  ends_before (flat_map part_bytes parts) are.1,
  parts_before parts b s t are.2,
)
  where
    ends_before : (u : List ℕ) → EndsLine (u ++ b ∷ s) → EndsLine (u ++ b ∷ t)
    ends_before [] ends = ends
    ends_before (c ∷ u) ends = ends

gap_before : (gap bytes s t : List ℕ) (b : ℕ) (others : List ℕ) → bytes ≡ b ∷ others → IsGap gap (bytes ++ s)
    → IsGap gap (bytes ++ t)
gap_before gap bytes s t b others same (parts, whole, are) = (
  parts,
  whole,
  rw same (parts_before parts b (others ++ s) (others ++ t) (subst (λ (l : List ℕ). AreParts parts (l ++ s)) same
      are)),
)

-- ---- the longest token

-- of two lists in front of others one begins with the other
abbrev Fronts : List ℕ → List ℕ → Type 0
Fronts u a = ((w : List ℕ) × (a ≡ u ++ w)) ⊎ ((w : List ℕ) × (u ≡ a ++ w))

front_split : (u v a b : List ℕ) → u ++ v ≡ a ++ b → Fronts u a
front_split [] v a b e = inl (a, refl)
front_split (c ∷ u) v [] b e = inr (c ∷ u, refl)
front_split (c ∷ u) v (d ∷ a) b e = let first : c ≡ d = cc in let rest : u ++ v ≡ a ++ b = cc in
    both first (front_split u v a b rest)
  where
    both : c ≡ d → Fronts u a → Fronts (c ∷ u) (d ∷ a)
    both first (inl (w, same)) = inl (w, rw (first, same) refl)
    both first (inr (w, same)) = inr (w, rw (first, same) refl)

-- a token without line feeds stays the longest if more comes after a line feed
open_more : (kind : Kind) (bytes rest more : List ℕ) → (kind ≡ Text → ⊥) → 0 < line_feeds rest → IsLongest kind bytes rest
    → IsLongest kind bytes (rest ++ more)
open_more kind bytes rest more other some h = record { token = h.token; longest = bound }
  where
    within : (k : Kind) (front : List ℕ) → IsToken k front → line_feeds front ≡ 0 → Fronts front (bytes ++ rest)
        → length front ≤ length bytes
    within k front is none (inl (w, same)) = h.longest k front w (sym same) is
    within k front is none (inr (w, same)) = absurd (omega (
      arith,
      none,
      some,
      ap line_feeds same,
      feeds_append (bytes ++ rest) w,
      feeds_append bytes rest,
    ))

    bound : (k : Kind) (front others : List ℕ) → front ++ others ≡ bytes ++ (rest ++ more) → IsToken k front
        → length front ≤ length bytes
    bound k front others whole is =
        let x = token_begins kind bytes h.token in
        let begun : front ++ others ≡ x.0 ∷ (x.1 ++ (rest ++ more)) = whole ∙ ap (λ (l : List ℕ). l ++ (rest ++ more)) x.2 in
        let same = kind_there kind k x.0 (x.1 ++ (rest ++ more)) front others x.3 begun is in
        let none = token_feeds k front is (λ e. other (sym same ∙ e)) in
        within k front is none (front_split front others (bytes ++ rest) more (whole ∙ sym (append_assoc bytes rest more)))

longest_more : (kind : Kind) (bytes rest more : List ℕ) → 0 < line_feeds rest → IsLongest kind bytes rest
    → IsLongest kind bytes (rest ++ more)
longest_more Text bytes rest more some h = closed_longest Text bytes (rest ++ more) (inr refl) h.token
longest_more Mark bytes rest more some h = closed_longest Mark bytes (rest ++ more) (inl refl) h.token
longest_more Word bytes rest more some h = open_more Word bytes rest more (λ e. cc) some h
longest_more Number bytes rest more some h = open_more Number bytes rest more (λ e. cc) some h

-- ---- what is after a token

open_last : (kind : Kind) (bytes : List ℕ) (b : ℕ) (others : List ℕ) → (kind ≡ Text → ⊥) → bytes ≡ b ∷ others → IsToken kind bytes
    → last_of b others ≡ line_feed → ⊥
open_last kind bytes b others other same is last = omega (
  arith,
  token_feeds kind bytes is other,
  ap line_feeds same,
  feeds_last b others last,
)

-- a token doesn't end in a line feed
token_last : (kind : Kind) (bytes : List ℕ) (b : ℕ) (others : List ℕ) → bytes ≡ b ∷ others → IsToken kind bytes
    → last_of b others ≡ line_feed → ⊥
token_last Text bytes b others same (text, whole, is) last =
    let both : b ∷ others ≡ quoted text = sym same ∙ whole in
    let end : last_of quote (text ++ quote ∷ []) ≡ line_feed = sym (ap (last_of 0) both) ∙ last in
    let closed : quote ≡ line_feed = sym (last_append quote text (quote ∷ [])) ∙ end in
    cc
token_last Word bytes b others same is last = open_last Word bytes b others (λ e. cc) same is last
token_last Number bytes b others same is last = open_last Number bytes b others (λ e. cc) same is last
token_last Mark bytes b others same is last = open_last Mark bytes b others (λ e. cc) same is last

rest_last : (b : ℕ) (rest : List ℕ) → (b ≡ line_feed → ⊥) → last_of b rest ≡ line_feed → last_of 0 rest ≡ line_feed
rest_last b [] other e = absurd (other e)
rest_last b (c ∷ rest) other e = e

-- what is after a token ends in a line feed if the whole does
after_last : (kind : Kind) (gap bytes rest : List ℕ) (b : ℕ) (others : List ℕ) → bytes ≡ b ∷ others → IsToken kind bytes
    → last_of 0 (gap ++ (bytes ++ rest)) ≡ line_feed → last_of 0 rest ≡ line_feed
after_last kind gap bytes rest b others same is e =
    let front : last_of 0 (gap ++ (bytes ++ rest)) ≡ last_of (last_of 0 gap) (b ∷ (others ++ rest)) =
    last_append 0 gap (bytes ++ rest) ∙ ap (λ (l : List ℕ). last_of (last_of 0 gap) (l ++ rest)) same in
    let last : last_of (last_of b others) rest ≡ line_feed = sym (front ∙ last_append b others rest) ∙ e in
    rest_last (last_of b others) rest (token_last kind bytes b others same is) last

-- ---- the tokens of both

abbrev Joins : ℕ → ℕ → ℕ → List ℕ → List ℕ → List Token → Cut → Type 0
Joins line at after text more tokens cut =
    HasTokens line (length more + after) text (tokens ▸▸ End at) → HasTokens at after more cut
    → HasTokens line after (text ++ more) (tokens ▸▸ cut)

-- line feeds add up
add_feeds : (line at end : ℕ) (s t : List ℕ) → at ≡ line + line_feeds s → end ≡ at + line_feeds t → end ≡ line + line_feeds (s ++ t)
add_feeds line at end s t e f = omega (arith, e, f, feeds_append s t)

gap_joins : (line at after : ℕ) (text more : List ℕ) (cut : Cut) → last_of 0 text ≡ line_feed → Joins line at after text more [] cut
gap_joins line at after text more (End end) last (is, e) (gap, f) = (
  gap_join text more [] last is gap,
  add_feeds line at end text more e f,
)
gap_joins line at after text more (Fault end) last (is, e) (gap, rest, same, more_is, f, some, none, no_token) = (
  text ++ gap,
  rest,
  rw same (sym (append_assoc text gap rest)),
  gap_join text gap rest last is more_is,
  add_feeds line at end text gap e f,
  some,
  none,
  no_token,
)
gap_joins line at after text more (t ▸ cut) last (is, e) (gap, rest, same, more_is, f, left, longest, others) = (
  text ++ gap,
  rest,
  rw same (sym (append_assoc text gap (t.bytes ++ rest))),
  gap_join text gap (t.bytes ++ rest) last is
      more_is,
  add_feeds line at t.line text gap e f,
  left,
  longest,
  others,
)

-- the same bytes are left, those of the text after the first among those after it or among its own
left_same : (n after : ℕ) (bytes rest more : List ℕ) → n ≡ length (bytes ++ rest) + (length more + after)
    → n ≡ length (bytes ++ (rest ++ more)) + after
left_same n after bytes rest more e = omega (
  arith,
  e,
  length-append bytes rest,
  length-append bytes (rest ++ more),
  length-append rest more,
)

joins : (line at after : ℕ) (text more : List ℕ) (tokens : List Token) (cut : Cut) → last_of 0 text ≡ line_feed
    → Joins line at after text more tokens cut
joins line at after text more [] cut last has have = gap_joins line at after text more cut last has have
joins line at after text more (t ∷ tokens) cut last (gap, rest, same, is, e, left, longest, others) have =
    let x = token_begins t.kind t.bytes longest.token in
    let following = after_last t.kind gap t.bytes rest x.0 x.1 x.2 longest.token (ap (last_of 0) (sym same) ∙ last) in
    let whole : text ++ more ≡ gap ++ (t.bytes ++ (rest ++ more)) =
    ap (λ (l : List ℕ). l ++ more) same ∙ append_assoc gap (t.bytes ++ rest) more
    ∙ ap (λ (l : List ℕ). gap ++ l) (append_assoc t.bytes rest more) in (
      gap,
      rest ++ more,
      whole,
      gap_before gap t.bytes rest (rest ++ more) x.0 x.1 x.2 is,
      e,
      left_same t.left after t.bytes rest more left,
      longest_more t.kind t.bytes rest more (some_feeds rest following) longest,
      joins (t.line + line_feeds t.bytes) at after rest more tokens cut following others have,
    )

pub lines_join : LinesJoin
lines_join line at after text more tokens cut has have = joins line at after (text ++ line_feed ∷ []) more tokens cut
    (last_append 0 text (line_feed ∷ [])) has have
