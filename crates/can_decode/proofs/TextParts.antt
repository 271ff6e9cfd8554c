-- A text has its parts in one way, so it reads as one value.
use Rattle.std.proofs.Common.{◌≡◌, ℕ, ℤ, pos, ◌<◌, ◌≤◌, Bool, true, false, List, [], ◌∷◌, ◌++◌, length, drop, get_or, refl, sym, ap}
use Rattle.std.proofs.Common.{subst, ◌∙◌, arith}
use Rattle.std.specs.Prelude.{unsigned_abs, int_lt}
use Rattle.std.specs.Char.{digit_value}
use Rattle.std.specs.Str.Parse.{AllDigits, IsNumeral}
use Rattle.std.proofs.lemmas.Int.{ints}
use Rattle.dbc_records.specs.Layout.{sign_text}
use Rattle.dbc_values.proofs.Powers.{same_tens}
use Rattle.can_decode.specs.ScaledTexts.{Plain, after_point, HasParts, ReadsAs, IsScaledText}

no_digit : (mark c : ℕ) → digit_value c < 10 → mark ≡ c → 10 ≤ digit_value mark → ⊥
no_digit mark c small same large = absurd (omega (arith, subst (λ (k : ℕ). digit_value k < 10) (sym same) small, large))

same_first : (x y : ℕ) (xs ys : List ℕ) → x ∷ xs ≡ y ∷ ys → x ≡ y
same_first x y xs ys same = ap (λ (zs : List ℕ). get_or zs 0 0) same

same_rest : (x y : ℕ) (xs ys : List ℕ) → x ∷ xs ≡ y ∷ ys → xs ≡ ys
same_rest x y xs ys same = ap (λ (zs : List ℕ). drop 1 zs) same

not_empty : (x : ℕ) (xs : List ℕ) → [] ≡ x ∷ xs → ⊥
not_empty x xs same = absurd (omega (arith, ap (λ (zs : List ℕ). length zs) same))

record SameBody (w v f g : List ℕ) : Type 0 where
  whole : w ≡ v
  fraction : f ≡ g

same_following : (f g : List ℕ) → after_point f ≡ after_point g → f ≡ g
same_following [] [] same = refl
same_following [] (y ∷ g) same = absurd (not_empty 46 (y ∷ g) same)
same_following (x ∷ f) [] same = absurd (not_empty 46 (x ∷ f) (sym same))
same_following (x ∷ f) (y ∷ g) same = same_rest 46 46 (x ∷ f) (y ∷ g) same

no_more : (y : ℕ) (v f g : List ℕ) → digit_value y < 10 → after_point f ≡ y ∷ (v ++ after_point g) → ⊥
no_more y v [] g small same = not_empty y (v ++ after_point g) same
no_more y v (d ∷ f) g small same = no_digit 46 y small (same_first 46 y (d ∷ f) (v ++ after_point g) same) (omega arith)

same_body : (w v f g : List ℕ) → AllDigits 10 w → AllDigits 10 v → w ++ after_point f ≡ v ++ after_point g → SameBody w v f g
same_body [] [] f g a b same = record { whole = refl; fraction = same_following f g same }
same_body [] (y ∷ v) f g a b same = absurd (no_more y v f g b.0 same)
same_body (x ∷ w) [] f g a b same = absurd (no_more x w g f a.0 (sym same))
same_body (x ∷ w) (y ∷ v) f g a b same =
    let first : x ≡ y = same_first x y (w ++ after_point f) (v ++ after_point g) same in
    let r : SameBody w v f g = same_body w v f g a.1 b.1 (same_rest x y (w ++ after_point f) (v ++ after_point g) same) in
    record { whole = λ i. first i ∷ r.whole i; fraction = r.fraction }

no_sign : (w rest tail : List ℕ) → IsNumeral 10 w → 45 ∷ rest ≡ w ++ tail → ⊥
no_sign [] rest tail a same = absurd (omega (arith, a.0))
no_sign (x ∷ w) rest tail a same = no_digit 45 x a.1.0 (same_first 45 x rest (w ++ tail) same) (omega arith)

same_signed : (m n : Bool) (w v f g : List ℕ) → IsNumeral 10 w → IsNumeral 10 v → sign_text m ++ (w ++ after_point f) ≡ sign_text n
    ++ (v ++ after_point g)
    → (m ≡ n) × (w ++ after_point f ≡ v ++ after_point g)
unfolding sign_text
same_signed true true w v f g a b same = (refl, same_rest 45 45 (w ++ after_point f) (v ++ after_point g) same)
same_signed true false w v f g a b same = absurd (no_sign v (w ++ after_point f) (after_point g) b same)
same_signed false true w v f g a b same = absurd (no_sign w (v ++ after_point g) (after_point f) a (sym same))
same_signed false false w v f g a b same = (refl, same)

one_plain : (text : List ℕ) (p q : Plain) → HasParts text p → HasParts text q → p ≡ q
one_plain text p q a b =
    let signed = same_signed p.negative q.negative p.whole q.whole p.fraction q.fraction a.whole b.whole (sym a.is ∙ b.is) in
    let negative : p.negative ≡ q.negative = signed.0 in
    let body : SameBody p.whole q.whole p.fraction q.fraction = same_body p.whole q.whole p.fraction q.fraction a.whole.1 b.whole.1
    signed.1 in
    λ i. record { negative = negative i; whole = body.whole i; fraction = body.fraction i }

same_value : (v w : ℤ) → int_lt v (pos 0) ≡ int_lt w (pos 0) → unsigned_abs v ≡ unsigned_abs w → v ≡ w
same_value v w sign same = grind (arith, ints)

one_value_of : (plain : Plain) (value other : ℤ) (places : ℕ) → ReadsAs plain value places → ReadsAs plain other places
    → value ≡ other
one_value_of plain value other places a b =
    same_value value other (sym a.sign ∙ b.sign) (same_tens (unsigned_abs value) (unsigned_abs other) (length plain.fraction)
    (sym a.number ∙ b.number))

pub one_value : (value other : ℤ) (places : ℕ) (text : List ℕ) → IsScaledText value places text → IsScaledText other places text
    → value ≡ other
one_value value other places text p q =
    one_value_of q.plain value other places (subst (λ (plain : Plain). ReadsAs plain value places) (one_plain text p.plain q.plain
    p.parts q.parts) p.reads) q.reads
