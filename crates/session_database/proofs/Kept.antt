-- What was compiled and found of messages that an edit doesn't touch is what the edited database gives.
use Rattle.std.proofs.Common.{◌≡◌, ℕ, Bool, true, false, List, [], ◌∷◌, map, filter, refl, sym, ap, ◌∙◌, inl, inr}
use Rattle.std.specs.Prelude.{not, Option, Some, None, slice_get}
use Rattle.std.proofs.lemmas.Option.{slice_get-map}
use Rattle.std.specs.Option.{option_map}
use Rattle.std.proofs.lemmas.Bool.{cases_Bool}
use Rattle.dbc_records.specs.Records.{Message}
use Rattle.dbc_records.specs.Databases.{Database}
use Rattle.can_layout.specs.Plans.{plan_of}
use Rattle.can_layout.specs.Diagrams.{picture_of}
use Rattle.session_log.specs.Touched.{is_among}
use Rattle.session_log.specs.Elsewhere.{is_elsewhere, SameElsewhere}
use Rattle.can_check.specs.MessageFaults.{own_faults}
use Rattle.session_database.specs.CompiledMessage.{CompiledMessage, compiled_of}

map_of-filter : {X Y : Type 0} (p : X → Bool) (f g : X → Y) → ((x : X) → p x ≡ true → f x ≡ g x) → (xs : List X)
    → map f (filter p xs) ≡ map g (filter p xs)
map_of-filter p f g same [] = refl
map_of-filter p f g same (x ∷ xs) =
    elim (cases_Bool (p x)) [
      | inl t ↦ rw (t, same x t, map_of-filter p f g same xs) refl
      | inr out ↦ rw out (map_of-filter p f g same xs)
    ]

out_of : (b : Bool) → not b ≡ true → b ≡ false
out_of true t = absurd (cc)
out_of false t = refl

pub kept_after : (numbers : List ℕ) (before after : Database) → SameElsewhere numbers before after
    → ((m : Message) → is_among numbers m.head.number ≡ false → plan_of after m ≡ plan_of before m)
    → ((m : Message) → is_among numbers m.head.number ≡ false → picture_of after m ≡ picture_of before m)
    → map (compiled_of before) (filter (is_elsewhere numbers) before.messages) ≡ map (compiled_of after)
    (filter (is_elsewhere numbers) after.messages)
kept_after numbers before after same plans pictures =
    map_of-filter (is_elsewhere numbers) (compiled_of before) (compiled_of after) (λ m t. let out = out_of _ t in
    rw (plans m out, pictures m out) refl) before.messages
    ∙ ap (map (compiled_of after)) (sym same.messages)

pub own_after : (numbers : List ℕ) (before after : Database) → SameElsewhere numbers before after
    → ((m : Message) → is_among numbers m.head.number ≡ false → own_faults after m ≡ own_faults before m)
    → map (own_faults before) (filter (is_elsewhere numbers) before.messages) ≡ map (own_faults after)
    (filter (is_elsewhere numbers) after.messages)
own_after numbers before after same own =
    map_of-filter (is_elsewhere numbers) (own_faults before) (own_faults after) (λ m t. sym (own m (out_of _ t))) before.messages
    ∙ ap (map (own_faults after)) (sym same.messages)

-- ---- one message's

pub plan_there : (database : Database) (message : Option Message) (one : CompiledMessage) → Some one ≡ option_map (compiled_of
    database)
    message → Some one.plan ≡ option_map (plan_of database) message
plan_there database None one is = absurd (cc)
plan_there database (Some message) one is = ap (option_map (λ (c : CompiledMessage). c.plan)) is

pub picture_there : (database : Database) (message : Option Message) (one : CompiledMessage) → Some one ≡ option_map (compiled_of
    database)
    message → Some one.picture ≡ option_map (picture_of database) message
picture_there database None one is = absurd (cc)
picture_there database (Some message) one is = ap (option_map (λ (c : CompiledMessage). c.picture)) is

-- what is at an index of a mapped list
pub at_index : {X Y Z : Type 0} (f : X → Z) (g : Y → Z) (xs : List X) (ys : List Y) (i : ℕ) → map f xs ≡ map g ys
    → option_map f (slice_get xs i) ≡ option_map g (slice_get ys i)
at_index f g xs ys i same = sym (slice_get-map f xs i) ∙ ap (λ zs. slice_get zs i) same ∙ slice_get-map g ys i
