-- Fields with what is around them.
use Rattle.std.proofs.Common.{◌≡◌, ◌==◌, ℕ, Bool, true, false, if◌then◌else◌, List, [], ◌∷◌, ◌++◌, refl, sym, ap, ap₂, ◌∙◌}
use Rattle.std.proofs.Common.{append_assoc, append-nil}
use Rattle.std.specs.Prelude.{codes}
use Rattle.std.specs.List.{flat_map}
use Rattle.std.proofs.lemmas.Bool.{eqb-true}
use Rattle.csv.specs.Writing.{needs_quotes, escaped, quoted, field_text, fields_text, default_writer}
use Rattle.can_layout.specs.Diagrams.{cause_word}
use Rattle.can_layout.specs.declared.refusal.Cause.{Cause}
use Rattle.can_layout.specs.declared.refusal.Cause.TheVariants as causes
use Rattle.can_csv_lines.specs.inner.Prepared.{doubled, further_field, rest_text}
use Rattle.can_csv_lines.proofs.Pushing.{pushed_then}

-- ---- quotes

doubled_then : (b : ℕ) (is : Bool) (rest more : List ℕ) → b == 34 ≡ is → rest ≡ more
    → (if is then 34 ∷ 34 ∷ [] else b ∷ []) ++ rest ≡ (if is then 34 ∷ b ∷ more else b ∷ more)
doubled_then b true rest more is same = ap₂ (λ (n : ℕ) (text : List ℕ). 34 ∷ n ∷ text) (sym (eqb-true b 34 is)) same
doubled_then b false rest more is same = ap (λ (text : List ℕ). b ∷ text) same

all_doubled : (field : List ℕ) → flat_map doubled field ≡ escaped default_writer field
unfolding escaped
all_doubled [] = refl
all_doubled (b ∷ field) = doubled_then b (b == 34) (flat_map doubled field) (escaped default_writer field) refl (all_doubled field)

pub quoted_pushed : (old first second new field : List ℕ) → new ≡ second ++ 34 ∷ [] → second ≡ first ++ flat_map doubled field
    → first ≡ old ++ 34 ∷ [] → new ≡ old ++ quoted default_writer field
quoted_pushed old first second new field last middle begun =
    pushed_then old first new (34 ∷ []) (flat_map doubled field ++ 34 ∷ [])
    (pushed_then first second new (flat_map doubled field) (34 ∷ []) last middle) begun
    ∙ ap (λ (text : List ℕ). old ++ (34 ∷ (text ++ 34 ∷ []))) (all_doubled field)

pub in_quotes : (old new field : List ℕ) → needs_quotes default_writer field ≡ true → new ≡ old ++ quoted default_writer field
    → new ≡ old ++ field_text default_writer field
in_quotes old new field needs is =
    is ∙ ap (λ (b : Bool). old ++ (if b then quoted default_writer field else field)) (sym needs)

pub as_it_is : (field : List ℕ) → needs_quotes default_writer field ≡ false → field_text default_writer field ≡ field
as_it_is field needs = ap (λ (b : Bool). if b then quoted default_writer field else field) needs

pub without_quotes : (old new field : List ℕ) → needs_quotes default_writer field ≡ false → new ≡ old ++ field
    → new ≡ old ++ field_text default_writer field
without_quotes old new field needs is = is ∙ ap (λ (text : List ℕ). old ++ text) (sym (as_it_is field needs))

-- ---- several fields

pub fields_append : (first second : List (List ℕ)) → fields_text default_writer (first ++ second)
    ≡ fields_text default_writer first ++ fields_text default_writer second
unfolding fields_text
fields_append [] second = refl
fields_append (field ∷ first) second =
    ap (λ (text : List ℕ). 44 ∷ (field_text default_writer field ++ text)) (fields_append first second)
    ∙ ap (λ (text : List ℕ). 44 ∷ text) (sym (append_assoc (field_text default_writer field) (fields_text default_writer first)
    (fields_text default_writer second)))

pub one_field : (field : List ℕ) → fields_text default_writer (field ∷ []) ≡ further_field field
unfolding fields_text
one_field field = ap (λ (text : List ℕ). 44 ∷ text) (append-nil (field_text default_writer field))

-- a field, and two that are empty
pub two_empty : (old mid new field : List ℕ) → new ≡ mid ++ codes ",,\n" → mid ≡ old ++ further_field field
    → new ≡ old ++ rest_text (field ∷ [] ∷ [] ∷ [])
unfolding fields_text
two_empty old mid new field last begun =
    pushed_then old mid new (further_field field) (codes ",,\n") last begun
    ∙ ap (λ (text : List ℕ). old ++ (44 ∷ text)) (sym (append_assoc (field_text default_writer field) (codes ",,") (codes "\n")))

-- and one
pub one_empty : (old mid new field : List ℕ) → new ≡ mid ++ codes ",\n" → mid ≡ old ++ further_field field
    → new ≡ old ++ rest_text (field ∷ [] ∷ [])
unfolding fields_text
one_empty old mid new field last begun =
    pushed_then old mid new (further_field field) (codes ",\n") last begun
    ∙ ap (λ (text : List ℕ). old ++ (44 ∷ text)) (sym (append_assoc (field_text default_writer field) (codes ",") (codes "\n")))

-- one that is empty, and a field
pub empty_first : (old first second new field : List ℕ) → new ≡ second ++ codes "\n" → second ≡ first ++ further_field field
    → first ≡ old ++ codes "," → new ≡ old ++ rest_text ([] ∷ field ∷ [])
unfolding fields_text
empty_first old first second new field last middle begun =
    pushed_then old first new (codes ",") (further_field field ++ codes "\n")
    (pushed_then first second new (further_field field) (codes "\n") last middle) begun
    ∙ ap (λ (text : List ℕ). old ++ (44 ∷ (44 ∷ (text ++ codes "\n")))) (sym (append-nil (field_text default_writer field)))

-- ---- causes

plain_cause : (cause : Cause) → field_text default_writer (codes "?" ++ cause_word cause) ≡ codes "?" ++ cause_word cause
plain_cause causes.Outside = refl
plain_cause causes.Float = refl
plain_cause causes.Long = refl
plain_cause causes.Scale = refl

pub cause_pushed : (old mid new : List ℕ) (cause : Cause) → new ≡ mid ++ cause_word cause → mid ≡ old ++ codes ",?"
    → new ≡ old ++ further_field (codes "?" ++ cause_word cause)
cause_pushed old mid new cause last begun =
    pushed_then old mid new (codes ",?") (cause_word cause) last begun
    ∙ ap (λ (text : List ℕ). old ++ (44 ∷ text)) (sym (plain_cause cause))
