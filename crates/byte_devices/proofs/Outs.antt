-- One text sent after another.
use Rattle.std.proofs.Common.{◌≡◌, ℕ, List, [], ◌++◌, take, drop, ◌+◌, ◌<◌, get_or, length, refl, sym, ap, subst, ◌∙◌, append_assoc}
use Rattle.std.proofs.Common.{append-nil, take-append-drop}
use Rattle.std.specs.Prelude.{Result, Ok, Err}
use Rattle.std.specs.List.{flat_map}
use Rattle.std.specs.Result.{IsErr}
use Rattle.std.proofs.lemmas.List.{take_more}
use Rattle.std.proofs.lemmas.List.Concat.{flat_map-append}
use Rattle.std.proofs.lemmas.Result.{MatchResult-from_err}
use Rattle.byte_devices.specs.Device.{Written, Wrote, Broke, Prints}
use Rattle.byte_devices.specs.declared.sending.Out.{Out}
use Rattle.byte_devices.specs.Outs.{Took, Lost, Sends}
use Rattle.byte_devices.proofs.Writes.{Broke-more, Broke-following, Broke-flush, Passes-nil, Passes-then, Passes-flush}

pub Took-nil : {W : Type 0} (written : W → Written) (a : Out W) → Took written a a []
Took-nil written a = record { same = refl; passes = Passes-nil (written a.sink.now) a.held.items }

pub Took-then : {W : Type 0} (written : W → Written) (a b c : Out W) (xs ys : List ℕ) → Took written a b xs → Took written b c ys
    → Took written a c (xs ++ ys)
Took-then written a b c xs ys p q = record {
  same = q.same ∙ p.same;
  passes = Passes-then (written a.sink.now) (written b.sink.now) (written c.sink.now) a.held.items xs b.held.items ys c.held.items
      p.passes q.passes;
}

-- of a text after another a beginning
pub Lost-following : {W : Type 0} (written : W → Written) (a b c : Out W) (xs ys : List ℕ) → Took written a b xs → Lost written b c
    ys
    → Lost written a c (xs ++ ys)
Lost-following written a b c xs ys p q = record {
  same = q.same ∙ p.same;
  broke = Broke-following (written a.sink.now) (written b.sink.now) (written c.sink.now) a.held.items xs b.held.items ys p.passes
      q.broke;
}

-- a beginning of a text is one of more
pub Lost-more : {W : Type 0} (written : W → Written) (a b : Out W) (xs ys : List ℕ) → Lost written a b xs
    → Lost written a b (xs ++ ys)
Lost-more written a b xs ys p = record {
  same = p.same;
  broke = subst (Broke (written a.sink.now) (written b.sink.now)) (append_assoc a.held.items xs ys) (Broke-more (written a.sink.now)
      (written b.sink.now) (a.held.items ++ xs) ys p.broke);
}

-- ---- one part of a text after another

-- what is sent after what was sent
pub Sends-after : {W X E : Type 0} (written : W → Written) (a b c : Out W) (r : Result X E) (xs ys : List ℕ) → Took written a b xs
    → Sends written b c r ys → Sends written a c r (xs ++ ys)
Sends-after written a b c (Ok x) xs ys p q = Took-then written a b c xs ys p q
Sends-after written a b c (Err e) xs ys p q = Lost-following written a b c xs ys p q

-- a failure, which is passed on
pub Sends-stop : {W X E : Type 0} (written : W → Written) (a b : Out W) (r : Result X E) (xs ys : List ℕ) → IsErr r
    → Lost written a b xs → Sends written a b r (xs ++ ys)
Sends-stop written a b r xs ys e p = MatchResult-from_err r _ _ e (λ _. Lost-more written a b xs ys p)

pub ruleset sends = (Sends-after, Sends-stop)

-- the same bytes under another name
pub Sends-as : {W X E : Type 0} (written : W → Written) (a b : Out W) (r : Result X E) (xs ys : List ℕ) → xs ≡ ys
    → Sends written a b r xs → Sends written a b r ys
Sends-as written a b r xs ys same p = subst (λ (t : List ℕ). Sends written a b r t) same p

-- ---- lists

-- the texts of one item more
flat_map-next : {X : Type 0} (f : X → List ℕ) (xs : List X) (i : ℕ) (d : X) → i < length xs → flat_map f (take (i + 1) xs)
    ≡ flat_map f (take i xs) ++ f (get_or xs i d)
flat_map-next f xs i d lt = rw (take_more xs i d lt, flat_map-append) (ap (λ (t : List ℕ). flat_map f (take i xs) ++ t)
    (append-nil (f (get_or xs i d))))

-- the text of a list is that of the items before, of this one and of those after
flat_map-parts : {X : Type 0} (f : X → List ℕ) (xs : List X) (i : ℕ) (d : X) → i < length xs
    → flat_map f xs ≡ flat_map f (take i xs) ++ (f (get_or xs i d) ++ flat_map f (drop (i + 1) xs))
flat_map-parts f xs i d lt =
    let following = flat_map f (drop (i + 1) xs) in
    ap (flat_map f) (sym (take-append-drop (i + 1) xs)) ∙ flat_map-append f (take (i + 1) xs) (drop (i + 1) xs)
    ∙ ap (λ (t : List ℕ). t ++ following) (flat_map-next f xs i d lt) ∙ append_assoc (flat_map f (take i xs)) (f (get_or xs i d))
    following

-- the items before were sent, and this one
pub Took-item : {X W : Type 0} (written : W → Written) (f : X → List ℕ) (xs : List X) (i : ℕ) (x d : X) (a b c : Out W)
    → i < length xs → x ≡ get_or xs i d
    → Took written a b (flat_map f (take i xs)) → Took written b c (f x) → Took written a c (flat_map f (take (i + 1) xs))
Took-item written f xs i x d a b c lt is p q =
    subst (λ (t : List ℕ). Took written a c t) (ap (λ y. flat_map f (take i xs) ++ f y) is ∙ sym (flat_map-next f xs i d lt))
    (Took-then written a b c (flat_map f (take i xs)) (f x) p q)

-- the items before were sent, and of this one a beginning
pub Lost-item : {X W : Type 0} (written : W → Written) (f : X → List ℕ) (xs : List X) (i : ℕ) (x d : X) (a b c : Out W)
    → i < length xs → x ≡ get_or xs i d
    → Took written a b (flat_map f (take i xs)) → Lost written b c (f x) → Lost written a c (flat_map f xs)
Lost-item written f xs i x d a b c lt is p q =
    let here = Lost-following written a b c (flat_map f (take i xs)) (f (get_or xs i d)) p (subst (λ y. Lost written b c (f y)) is
    q) in
    let more = Lost-more written a c (flat_map f (take i xs) ++ f (get_or xs i d)) (flat_map f (drop (i + 1) xs)) here in
    subst (Lost written a c) (append_assoc (flat_map f (take i xs)) (f (get_or xs i d)) (flat_map f (drop (i + 1) xs))
    ∙ sym (flat_map-parts f xs i d lt)) more

-- ---- the end of a text

-- what waits goes out, after what was sent when nothing waited
pub Prints-flush : {W X E : Type 0} (written : W → Written) (a b : Out W) (c : Written) (r : Result X E) (text : List ℕ)
    → a.held.items ≡ []
    → Took written a b text → Prints (written b.sink.now) c r b.held.items → Prints (written a.sink.now) c r text
Prints-flush written a b c (Ok x) text none p q = subst (λ (t : List ℕ). Wrote (written a.sink.now) c (t ++ text)) none
    (Passes-flush (written a.sink.now) (written b.sink.now) c a.held.items text b.held.items p.passes q)
Prints-flush written a b c (Err e) text none p q = subst (λ (t : List ℕ). Broke (written a.sink.now) c (t ++ text)) none
    (Broke-flush (written a.sink.now) (written b.sink.now) c a.held.items text b.held.items p.passes q)

-- a failure while it is sent is one of all
pub Prints-lost : {W X E : Type 0} (written : W → Written) (a b : Out W) (r : Result X E) (text : List ℕ) → a.held.items ≡ []
    → IsErr r
    → Lost written a b text → Prints (written a.sink.now) (written b.sink.now) r text
Prints-lost written a b r text none e p =
    MatchResult-from_err r _ _ e (λ _. subst (λ (t : List ℕ). Broke (written a.sink.now) (written b.sink.now) (t ++ text)) none
    p.broke)

pub ruleset flushes = (Prints-flush, Prints-lost)
