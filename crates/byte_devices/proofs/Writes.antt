-- One write after another, and a buffer before them.
use Rattle.std.proofs.Common.{◌≡◌, ℕ, List, [], ◌++◌, take, drop, ◌+◌, refl, sym, ap, subst, ◌∙◌, append_assoc}
use Rattle.std.proofs.Common.{append-nil, take-append-drop}
use Rattle.std.proofs.Math.Seq.{take-add}
use Rattle.std.proofs.KnownBytes.{Appends-nil, Appends-trans}
use Rattle.byte_devices.specs.Device.{Written, Rises, Wrote, Broke, Passes}

-- ---- one write after another

pub Wrote-nil : (a : Written) → Wrote a a []
Wrote-nil a = record { bytes = Appends-nil a.bytes; failures = refl }

pub Wrote-then : (a b c : Written) (xs ys : List ℕ) → Wrote a b xs → Wrote b c ys → Wrote a c (xs ++ ys)
Wrote-then a b c xs ys p q = record {
  bytes = Appends-trans a.bytes b.bytes c.bytes xs ys p.bytes q.bytes;
  failures = q.failures ∙ p.failures;
}

-- a write of nothing
pub Wrote-kept : (a b c : Written) (xs : List ℕ) → Wrote a b xs → Wrote b c [] → Wrote a c xs
Wrote-kept a b c xs p q = subst (Wrote a c) (append-nil xs) (Wrote-then a b c xs [] p q)

pub Broke-then : (a b c : Written) (xs ys : List ℕ) → Wrote a b xs → Broke b c ys → Broke a c (xs ++ ys)
Broke-then a b c xs ys p q = record {
  front = xs ++ q.front;
  back = q.back;
  parts = ap (λ (t : List ℕ). xs ++ t) q.parts ∙ sym (append_assoc xs q.front q.back);
  bytes = Appends-trans a.bytes b.bytes c.bytes xs q.front p.bytes q.bytes;
  failures = subst (λ n. Rises n c.failures) p.failures q.failures;
}

-- a beginning of some bytes is one of more
pub Broke-more : (a b : Written) (xs ys : List ℕ) → Broke a b xs → Broke a b (xs ++ ys)
Broke-more a b xs ys p = record {
  front = p.front;
  back = p.back ++ ys;
  parts = ap (λ (t : List ℕ). t ++ ys) p.parts ∙ append_assoc p.front p.back ys;
  bytes = p.bytes;
  failures = p.failures;
}

-- a text, then a failure, and what is after the text
pub Broke-between : (a b c : Written) (xs ys : List ℕ) → Broke b c [] → Wrote a b xs → Broke a c (xs ++ ys)
Broke-between a b c xs ys q p = Broke-more a c xs ys (subst (Broke a c) (append-nil xs) (Broke-then a b c xs [] p q))

-- a write of the front of what is left
pub Wrote-more : (a b c : Written) (i n : ℕ) (xs : List ℕ) → Wrote b c (take n (drop i xs)) → Wrote a b (take i xs)
    → Wrote a c (take (i + n) xs)
Wrote-more a b c i n xs q p = rw (take-add i n xs) (Wrote-then a b c (take i xs) (take n (drop i xs)) p q)

pub Broke-inside : (a b c : Written) (i : ℕ) (xs : List ℕ) → Broke b c [] → Wrote a b (take i xs) → Broke a c xs
Broke-inside a b c i xs q p = subst (Broke a c) (take-append-drop i xs) (Broke-between a b c (take i xs) (drop i xs) q p)

-- ---- bytes that go through a buffer

pub Passes-nil : (a : Written) (held : List ℕ) → Passes a a held [] held
Passes-nil a held = record { out = []; parts = append-nil held; wrote = Wrote-nil a }

-- bytes go through, and then others
pub Passes-then : (a b c : Written) (before xs between ys after : List ℕ) → Passes a b before xs between
    → Passes b c between ys after → Passes a c before (xs ++ ys) after
Passes-then a b c before xs between ys after p q = record {
  out = p.out ++ q.out;
  parts = sym (append_assoc before xs ys) ∙ ap (λ zs. zs ++ ys) p.parts ∙ append_assoc p.out between ys
      ∙ ap (λ zs. p.out ++ zs) q.parts ∙ sym (append_assoc p.out q.out after);
  wrote = Wrote-then a b c p.out q.out p.wrote q.wrote;
}

-- bytes go through, and of others a beginning
pub Broke-following : (a b c : Written) (before xs between ys : List ℕ) → Passes a b before xs between → Broke b c (between ++ ys)
    → Broke a c (before ++ (xs ++ ys))
Broke-following a b c before xs between ys p q =
    let regrouped : p.out ++ (between ++ ys) ≡ before ++ (xs ++ ys) = sym (append_assoc p.out between ys)
    ∙ ap (λ zs. zs ++ ys) (sym p.parts) ∙ append_assoc before xs ys in
    subst (Broke a c) regrouped (Broke-then a b c p.out (between ++ ys) p.wrote q)

-- what is held is written
pub Passes-flush : (a b c : Written) (before xs held : List ℕ) → Passes a b before xs held → Wrote b c held
    → Wrote a c (before ++ xs)
Passes-flush a b c before xs held p q = subst (Wrote a c) (sym p.parts) (Wrote-then a b c p.out held p.wrote q)

-- a prefix of what is held is written
pub Broke-flush : (a b c : Written) (before xs held : List ℕ) → Passes a b before xs held → Broke b c held
    → Broke a c (before ++ xs)
Broke-flush a b c before xs held p q = subst (Broke a c) (sym p.parts) (Broke-then a b c p.out held p.wrote q)

-- all that is held is written, and more
pub Passes-all : (a b c : Written) (held xs : List ℕ) → Wrote a b held → Wrote b c xs → Passes a c held xs []
Passes-all a b c held xs p q = record {
  out = held ++ xs;
  parts = sym (append-nil (held ++ xs));
  wrote = Wrote-then a b c held xs p q;
}
