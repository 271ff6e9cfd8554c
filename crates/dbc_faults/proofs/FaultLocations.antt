-- A walk over the tokens of a text up to its first fault.
use Rattle.std.proofs.Common.{◌≡◌, ℕ, ◌+◌, ◌-◌, ◌≤◌, Bool, true, false, cond, List, [], ◌∷◌, ◌++◌, length, take, drop}
use Rattle.std.proofs.Common.{Option, Some, None, Result, Ok, Err, refl, sym, ap, subst, ◌∙◌, arith}
use Rattle.std.proofs.lemmas.List.{append_assoc, length-append, take_at, drop_at, take-append-drop}
use Rattle.dbc_tokens.specs.declared.fault.Cause.{Cause}
use Rattle.dbc_tokens.specs.declared.fault.Cause.TheVariants as causes
use Rattle.dbc_tokens.specs.declared.fault.ReadFault.{ReadFault}
use Rattle.dbc_tokens.specs.Tokens.{Token, Cut, End, Fault, ◌▸◌, IsGap, IsLongest, BeginsNoGap, line_feeds, HasTokens}
use Rattle.dbc_tokens.specs.inner.Scanner.{gap_len, rest_then, cut_of}
use Rattle.dbc_tokens.proofs.CutLaws.{at_gap, cut_is, cut_unique}
use Rattle.dbc_tokens.proofs.Gaps.{none_gap}
use Rattle.dbc_tokens.proofs.Spots.{IsFollowing, after_gap, IsFront, token_front}
use Rattle.dbc_reader.specs.Forms.{◌▸▸◌}
use Rattle.dbc_reader.specs.Pattern.{Class, Seen, Pattern, Left, verdict, may_end, after, fault_in, ruled, judged, first_fault}
use Rattle.dbc_reader.specs.Pattern.{nothing_seen}
use Rattle.dbc_reader.specs.Texts.{HasFirstFault}
use Rattle.std.specs.Prelude.{IfOk, option_map}
use Rattle.dbc_faults.specs.Patterns.{Answers, firsts}
use Rattle.dbc_faults.specs.FaultLocations.{State, seen_so, left_so, step, Leads, refused, fault_here, front_bytes, Occurs}
use Rattle.dbc_faults.specs.FaultLocations.{Found}
use Rattle.dbc_faults.specs.FaultLocations.{IsFoundAt, IsFaultLocation}

-- ---- one token

abbrev Go : Type 0
Go = Pattern → Seen → Option ReadFault

seen_goes : (p : Pattern) (line : ℕ) (r : Result Seen Cause) (next : State) (go : Go) → seen_so p r ≡ Ok next
    → ruled line r (go p) ≡ go next.0 next.1
seen_goes p line (Ok seen) next go e = let same : ◌≡◌ {A = State} (p, seen) next = cc in ap (λ (s : State). go s.0 s.1) same
seen_goes p line (Err cause) next go e = absurd cc

left_goes : (left : Left) (t : Token) (seen : Seen) (next : State) (go : Go) → left_so left t seen ≡ Ok next
    → judged left t seen go ≡ go next.0 next.1
left_goes None t seen next go e = absurd cc
left_goes (Some x) t seen next go e = seen_goes x.1 t.line (verdict x.0 t seen) next go e

seen_stops : (p : Pattern) (line : ℕ) (r : Result Seen Cause) (fault : ReadFault) (go : Go)
    → refused line (seen_so p r) ≡ Some fault → ruled line r (go p) ≡ Some fault
seen_stops p line (Ok seen) fault go e = absurd cc
seen_stops p line (Err cause) fault go e = e

left_stops : (left : Left) (t : Token) (seen : Seen) (fault : ReadFault) (go : Go)
    → refused t.line (left_so left t seen) ≡ Some fault → judged left t seen go ≡ Some fault
left_stops None t seen fault go e = e
left_stops (Some x) t seen fault go e = seen_stops x.1 t.line (verdict x.0 t seen) fault go e

-- the first fault is after a token that may be there
first_after : (state next : State) (t : Token) (cut : Cut) → step state t ≡ Ok next
    → first_fault state.0 state.1 (t ▸ cut) ≡ first_fault next.0 next.1 cut
unfolding first_fault step
first_after state next t cut e = left_goes (after state.0 t state.1) t state.1 next (λ q seen. first_fault q seen cut) e

-- a fault that is at the front is the first
first_here : (state : State) (cut : Cut) (fault : ReadFault) → fault_here state cut ≡ Some fault
    → first_fault state.0 state.1 cut ≡ Some fault
unfolding first_fault step
first_here state (End line) fault e = e
first_here state (Fault line) fault e = e
first_here state (t ▸ cut) fault e = left_stops (after state.0 t state.1) t state.1 fault (λ q seen. first_fault q seen cut) e

none_at_end : (state : State) (line : ℕ) → may_end state.0 ≡ true → first_fault state.0 state.1 (End line) ≡ None
unfolding first_fault
none_at_end state line ends = rw ends refl

-- ---- steps

pub step_none : (state : State) (t : Token) → None ≡ after state.0 t state.1 → step state t ≡ Err causes.Statement
unfolding step
step_none state t e = ap (λ (left : Left). left_so left t state.1) (sym e)

pub step_some : (state : State) (t : Token) (c : Class) (p : Pattern) → Some (c, p) ≡ after state.0 t state.1
    → step state t ≡ seen_so p (verdict c t state.1)
unfolding step
step_some state t c p e = ap (λ (left : Left). left_so left t state.1) (sym e)

pub seen_ok : (p : Pattern) (r : Result Seen Cause) (now : Seen) → r ≡ Ok now → seen_so p r ≡ Ok (p, now)
seen_ok p r now e = ap (seen_so p) e

pub seen_err : (p : Pattern) (r : Result Seen Cause) (cause : Cause) → r ≡ Err cause → seen_so p r ≡ Err cause
seen_err p r cause e = ap (seen_so p) e

-- ---- tokens, one after the other

-- one token more
leads_more : (tokens : List Token) (line : ℕ) (text : List ℕ) (state : State) (at : ℕ) (rest : List ℕ) (now : State)
    → Leads tokens line text state at rest now → (t : Token) (gap following : List ℕ) (next : State)
    → rest ≡ gap ++ (t.bytes ++ following) → IsGap gap (t.bytes ++ following) → t.line ≡ at + line_feeds gap
    → t.left ≡ length (t.bytes ++ following) → IsLongest t.kind t.bytes following → step now t ≡ Ok next
    → Leads (tokens ++ t ∷ []) line text state (t.line + line_feeds t.bytes) following next
leads_more [] line text state at rest now (a, b, c) t gap following next parts is_gap in_line left longest takes = (
  gap,
  following,
  next,
  sym b ∙ parts,
  is_gap,
  in_line ∙ ap (λ (l : ℕ). l + line_feeds gap) a,
  left,
  longest,
  ap (λ (s : State). step s t) (sym c) ∙ takes,
  (refl, refl, refl),
)
leads_more (u ∷ tokens) line text state at rest now (g, b, n, whole, is, l, size, long, took, others) t gap following next parts
    is_gap
    in_line left longest takes = (
      g,
      b,
      n,
      whole,
      is,
      l,
      size,
      long,
      took,
      leads_more tokens (u.line + line_feeds u.bytes) b n at rest now others t gap following next parts is_gap in_line left longest
          takes,
    )

-- the text has these tokens, and those of the rest after them
leads_cut : (tokens : List Token) (line : ℕ) (text : List ℕ) (state : State) (at : ℕ) (rest : List ℕ) (now : State) (cut : Cut)
    → Leads tokens line text state at rest now → HasTokens at 0 rest cut → HasTokens line 0 text (tokens ▸▸ cut)
leads_cut [] line text state at rest now cut (a, b, c) has = rw (← a, ← b) has
leads_cut (t ∷ tokens) line text state at rest now cut (gap, following, next, whole, is, l, size, long, took, others) has = (
  gap,
  following,
  whole,
  is,
  l,
  size ∙ omega arith,
  long,
  leads_cut tokens (t.line + line_feeds t.bytes) following next at rest now cut others has,
)

-- the first fault is the first after them
leads_first : (tokens : List Token) (line : ℕ) (text : List ℕ) (state : State) (at : ℕ) (rest : List ℕ) (now : State) (cut : Cut)
    → Leads tokens line text state at rest now → first_fault state.0 state.1 (tokens ▸▸ cut) ≡ first_fault now.0 now.1 cut
leads_first [] line text state at rest now cut (a, b, c) = ap (λ (s : State). first_fault s.0 s.1 cut) (sym c)
leads_first (t ∷ tokens) line text state at rest now cut (gap, following, next, whole, is, l, size, long, took, others) =
    first_after state next t (tokens ▸▸ cut) took
    ∙ leads_first tokens (t.line + line_feeds t.bytes) following next at rest now cut others

-- ---- locations

-- after the gap at the front of what is left
location_after : (pattern : Pattern) (text : List ℕ) (state : State) (tokens : List Token) (line : ℕ) (rest : List ℕ) (cut : Cut)
    → Leads tokens 1 text (pattern, nothing_seen) line rest state → cut ≡ cut_of line rest
    → Occurs pattern text (drop (gap_len false rest) rest) state cut
location_after pattern text state tokens line rest cut leads is =
    let gap = take (gap_len false rest) rest in
    let here = drop (gap_len false rest) rest in
    let b = after_gap line rest gap here refl refl in
    record {
      tokens = tokens;
      line = line;
      rest = rest;
      gap = gap;
      leads = leads;
      parts = b.parts;
      is_gap = b.is_gap;
      no_gap = b.no_gap;
      follow = subst (HasTokens (line + line_feeds gap) 0 here) (sym (is ∙ b.same)) (cut_is (line + line_feeds gap) here);
    }

-- the first location of a text
pub first_location : (pattern : Pattern) (text here : List ℕ) (cut : Cut) → here ≡ drop (gap_len false text) text → cut ≡ cut_of 1
    text
    → Occurs pattern text here (pattern, nothing_seen) cut
first_location pattern text here cut here_is is =
    rw here_is (location_after pattern text (pattern, nothing_seen) [] 1 text cut (refl, refl, refl) is)

-- the token there is at its front
there : (pattern : Pattern) (text here : List ℕ) (state : State) (t : Token) (cut : Cut)
    → (at : Occurs pattern text here state (t ▸ cut)) → (rest : List ℕ) × IsFront (at.line + line_feeds at.gap) here t cut rest
there pattern text here state t cut at = token_front (at.line + line_feeds at.gap) here t cut at.no_gap
    (sym (cut_unique (at.line + line_feeds at.gap) here (t ▸ cut) at.follow))

-- the token is no longer than what is there
pub token_fits : (pattern : Pattern) (text here : List ℕ) (state : State) (t : Token) (cut : Cut)
    → Occurs pattern text here state (t ▸ cut) → length t.bytes ≤ length here
token_fits pattern text here state t cut at =
    let x = there pattern text here state t cut at in
    omega (arith, ap length x.1.parts, length-append t.bytes x.0)

-- the location after a token that may be there
pub next_location : (pattern : Pattern) (text here : List ℕ) (state : State) (t : Token) (cut : Cut) (next : State)
    (rest following : List ℕ) → Occurs pattern text here state (t ▸ cut) → step state t ≡ Ok next → rest ≡ drop (length t.bytes)
    here
    → following ≡ drop (gap_len false rest) rest → Occurs pattern text following next cut
next_location pattern text here state t cut next rest following at takes rest_is after_is =
    let x = there pattern text here state t cut at in
    let same : rest ≡ x.0 = rest_is ∙ ap (drop (length t.bytes)) x.1.parts ∙ drop_at t.bytes x.0 (length t.bytes) refl in
    let parts : at.rest ≡ at.gap ++ (t.bytes ++ rest) =
    at.parts ∙ ap (λ (h : List ℕ). at.gap ++ h) (x.1.parts ∙ ap (λ (r : List ℕ). t.bytes ++ r) (sym same)) in
    let front : here ≡ t.bytes ++ rest = x.1.parts ∙ ap (λ (r : List ℕ). t.bytes ++ r) (sym same) in
    let leads = leads_more at.tokens 1 text (pattern, nothing_seen) at.line at.rest state at.leads t at.gap rest next parts
    (subst (IsGap at.gap) front at.is_gap) x.1.in_line
    (x.1.left ∙ ap (λ (b : List ℕ). length b) front) (subst (IsLongest t.kind t.bytes) (sym same) x.1.longest) takes in
    let is : cut ≡ cut_of (t.line + line_feeds t.bytes) rest = x.1.others
    ∙ ap (cut_of (t.line + line_feeds t.bytes)) (sym same) in
    rw after_is (location_after pattern text next (at.tokens ++ t ∷ []) (t.line + line_feeds t.bytes) rest cut leads is)

-- the tokens after a gap are those of the gap and what is after it
gap_before : (line : ℕ) (rest gap here : List ℕ) (cut : Cut) → rest ≡ gap ++ here → IsGap gap here → BeginsNoGap here
    → HasTokens (line + line_feeds gap) 0 here cut → HasTokens line 0 rest cut
gap_before line rest gap here cut parts is none has =
    let stop = none_gap here none in
    let no : IsGap [] here = ([], refl, tt) in
    let at : line + line_feeds gap + 0 ≡ line + line_feeds gap = omega arith in
    let same : cut_of line rest ≡ cut_of (line + line_feeds gap) here =
    ap (cut_of line) parts ∙ at_gap line gap here is stop
    ∙ sym (at_gap (line + line_feeds gap) [] here no stop ∙ ap (λ l. rest_then cut_of l here) at) in
    subst (HasTokens line 0 rest) (same ∙ sym (cut_unique (line + line_feeds gap) here cut has)) (cut_is line rest)

whole_tokens : (pattern : Pattern) (text here : List ℕ) (state : State) (cut : Cut) → (at : Occurs pattern text here state cut)
    → HasTokens 1 0 text (at.tokens ▸▸ cut)
whole_tokens pattern text here state cut at =
    leads_cut at.tokens 1 text (pattern, nothing_seen) at.line at.rest state cut at.leads
    (gap_before at.line at.rest at.gap here cut at.parts at.is_gap at.no_gap at.follow)

-- what is left is the end of the text
leads_suffix : (tokens : List Token) (line : ℕ) (text : List ℕ) (state : State) (at : ℕ) (rest : List ℕ) (now : State)
    → Leads tokens line text state at rest now → (front : List ℕ) × (text ≡ front ++ rest)
leads_suffix [] line text state at rest now (a, b, c) = ([], sym b)
leads_suffix (t ∷ tokens) line text state at rest now (gap, following, next, whole, is, l, size, long, took, others) =
    let x = leads_suffix tokens (t.line + line_feeds t.bytes) following next at rest now others in (
      gap ++ (t.bytes ++ x.0),
      whole ∙ ap (λ (b : List ℕ). gap ++ (t.bytes ++ b)) x.1
          ∙ sym (append_assoc gap (t.bytes ++ x.0) rest ∙ ap (λ (b : List ℕ). gap ++ b) (append_assoc t.bytes x.0 rest)),
    )

suffix : (pattern : Pattern) (text here : List ℕ) (state : State) (cut : Cut) → Occurs pattern text here state cut
    → (front : List ℕ) × (text ≡ front ++ here)
suffix pattern text here state cut at =
    let x = leads_suffix at.tokens 1 text (pattern, nothing_seen) at.line at.rest state at.leads in (
      x.0 ++ at.gap,
      x.1 ∙ ap (λ (b : List ℕ). x.0 ++ b) at.parts ∙ sym (append_assoc x.0 at.gap here),
    )

-- no more is there than in the text
pub location_fits : (pattern : Pattern) (text here : List ℕ) (state : State) (cut : Cut) → Occurs pattern text here state cut
    → length here ≤ length text
location_fits pattern text here state cut at =
    let x = suffix pattern text here state cut at in
    omega (arith, ap length x.1, length-append x.0 here)

-- the text is what is before the location and what is there
pub location_parts : (pattern : Pattern) (text here : List ℕ) (state : State) (cut : Cut) → Occurs pattern text here state cut
    → text ≡ take (length text - length here) text ++ here
location_parts pattern text here state cut at =
    let x = suffix pattern text here state cut at in
    let n : length text - length here ≡ length x.0 = omega (arith, ap length x.1, length-append x.0 here) in
    let front : take (length text - length here) text ≡ x.0 = ap (λ (m : ℕ). take m text) n
    ∙ ap (take (length x.0)) x.1 ∙ take_at x.0 here (length x.0) refl in
    x.1 ∙ ap (λ (b : List ℕ). b ++ here) (sym front)

-- the token there is what is at the front
pub token_parts : (pattern : Pattern) (text here : List ℕ) (state : State) (t : Token) (cut : Cut)
    → Occurs pattern text here state (t ▸ cut) → take (length t.bytes) here ≡ t.bytes
token_parts pattern text here state t cut at =
    let x = there pattern text here state t cut at in
    ap (take (length t.bytes)) x.1.parts ∙ take_at t.bytes x.0 (length t.bytes) refl

-- what was found at a location if there is a fault
pub found_at : (pattern : Pattern) (text here : List ℕ) (state : State) (cut : Cut) (found : Found)
    → Occurs pattern text here state cut → fault_here state cut ≡ Some found.fault → text ≡ found.before ++ here
    → here ≡ found.token ++ found.following
    → found.token ≡ front_bytes cut → found.expected ≡ firsts state.0 → IsFaultLocation pattern text (Some found)
found_at pattern text here state cut found at fault parts token front expected = (
  (
    at.tokens ▸▸ cut,
    whole_tokens pattern text here state cut at,
    leads_first at.tokens 1 text (pattern, nothing_seen) at.line at.rest state cut at.leads
        ∙ first_here state cut found.fault fault,
  ),
  record {
    state = state;
    cut = cut;
    parts = parts ∙ ap (λ (h : List ℕ). found.before ++ h) token;
    occurs = subst (λ (h : List ℕ). Occurs pattern text h state cut) token at;
    token_is = front;
    fault_is = fault;
    expected_is = expected;
  },
)

-- a token that can't be there
pub token_found : (pattern : Pattern) (text here before front back : List ℕ) (state now : State) (t : Token) (cut : Cut)
    (cause : Cause) (fault : ReadFault) → Occurs pattern text here state (t ▸ cut) → Answers (step state t) (Some cause) state now
    → fault ≡ fault_in t.line cause → before ≡ take (length text - length here) text → front ≡ take (length t.bytes) here
    → back ≡ drop (length t.bytes) here → IsFaultLocation pattern text
    (Some (record { fault = fault; before = before; token = front; following = back; expected = firsts now.0 }))
token_found pattern text here before front back state now t cut cause fault at answer fault_is before_is front_is back_is =
    found_at pattern text here state (t ▸ cut)
    (record { fault = fault; before = before; token = front; following = back; expected = firsts now.0 }) at
    (ap (refused t.line) answer.0 ∙ ap (λ (f : ReadFault). Some f) (sym fault_is))
    (location_parts pattern text here state (t ▸ cut) at ∙ ap (λ (b : List ℕ). b ++ here) (sym before_is))
    (rw (front_is, back_is) (sym (take-append-drop (length t.bytes) here)))
    (front_is ∙ token_parts pattern text here state t cut at)
    (ap (λ (s : State). firsts s.0) answer.1)

-- no token is there
pub none_there : (pattern : Pattern) (text here before front back : List ℕ) (state : State) (cut : Cut) (fault : ReadFault)
    → Occurs pattern text here state cut → fault_here state cut ≡ Some fault → front_bytes cut ≡ []
    → before ≡ take (length text - length here) text → front ≡ take 0 here → back ≡ drop 0 here → IsFaultLocation pattern text
    (Some (record { fault = fault; before = before; token = front; following = back; expected = firsts state.0 }))
none_there pattern text here before front back state cut fault at fault_is none before_is front_is back_is =
    found_at pattern text here state cut
    (record { fault = fault; before = before; token = front; following = back; expected = firsts state.0 }) at fault_is
    (location_parts pattern text here state cut at ∙ ap (λ (b : List ℕ). b ++ here) (sym before_is))
    (rw (front_is, back_is) (sym (take-append-drop 0 here)))
    (front_is ∙ sym none) refl

-- the end is a fault where the text may not end
pub fault_at_end : (state : State) (line : ℕ) (fault : ReadFault) → may_end state.0 ≡ false → fault ≡ fault_in line causes.Statement
    → fault_here state (End line) ≡ Some fault
fault_at_end state line fault goes_on is = rw (goes_on, is) refl

-- what is reported is what was found
pub if_found : {X E : Type 0} (given : Result (Option X) E) (view : X → Found) (pattern : Pattern) (text : List ℕ) (found : Found)
    → IfOk given (λ o. option_map view o ≡ Some found) → IsFaultLocation pattern text (Some found)
    → IfOk given (λ o. IsFaultLocation pattern text (option_map view o))
if_found (Ok o) view pattern text found is location = subst (IsFaultLocation pattern text) (sym is) location
if_found (Err e) view pattern text found is location = is

-- the text has no fault
pub none_found : (pattern : Pattern) (text here : List ℕ) (state : State) (line : ℕ) → Occurs pattern text here state (End line)
    → may_end state.0 ≡ true → IsFaultLocation pattern text None
none_found pattern text here state line at ends = (
  at.tokens ▸▸ End line,
  whole_tokens pattern text here state (End line) at,
  leads_first at.tokens 1 text (pattern, nothing_seen) at.line at.rest state (End line) at.leads ∙ none_at_end state line ends,
)
