-- Values that read back: their numbers are numbers, no key occurs twice, and they are nested only a few levels deep.
use Rattle.std.proofs.Common.{ℕ, suc, ◌≤◌, Bool, List, [], ◌∷◌, ◌++◌, Option, Some, None, inl, refl, sym, subst, arith}
use Rattle.std.specs.List.{IsDistinct, AllByRecursion}
use Rattle.std.specs.Str.{bytes_eq}
use Rattle.std.proofs.Math.Nat.{max-le}
use Rattle.json.specs.Json.{Json, boolean, number, string}
use Rattle.json.specs.Print.{IsNumber}
use Rattle.json.specs.Tree.{depth, members_depth, HasNumbers, MembersHaveNumbers}
use Rattle.can_json_texts.specs.Texts.{text_of, hex_pairs}
use Rattle.can_json_texts.specs.Members.{Member, members_of, object_of, hex_key, hex_members, text_members}
use Rattle.can_json_laws.specs.Keys.{HasUniqueKeys, MembersHaveUniqueKeys}
use Rattle.can_json_laws.proofs.Among.{Among, keys_of, keys_are}

abbrev pub IsSound : ℕ → Json → Type 0
IsSound levels value = HasNumbers value × (HasUniqueKeys value × (depth value ≤ levels))

abbrev pub AreSound : ℕ → List Member → Type 0
AreSound levels members = AllByRecursion (λ (one : Member). IsSound levels one.1) members

pub sound_append : (levels : ℕ) (first second : List Member) → AreSound levels first → AreSound levels second
    → AreSound levels (first ++ second)
sound_append levels [] second one other = other
sound_append levels (a ∷ first) second one other = (one.0, sound_append levels first second one.1 other)

-- ---- values

pub string_sound : (levels : ℕ) (text : List ℕ) → IsSound levels (string text)
string_sound levels text = (tt, (tt, omega arith))

pub number_sound : (levels : ℕ) (digits : List ℕ) → IsNumber digits → IsSound levels (number digits)
number_sound levels digits is = (is, (tt, omega arith))

pub boolean_sound : (levels : ℕ) (b : Bool) → IsSound levels (boolean b)
boolean_sound levels b = (tt, (tt, omega arith))

inside : (levels : ℕ) (members : List Member) → AreSound levels members → MembersHaveNumbers (members_of members)
    × (MembersHaveUniqueKeys (members_of members) × (members_depth (members_of members) ≤ levels))
inside levels [] sound = (tt, (tt, omega arith))
inside levels (one ∷ members) sound =
    let rest = inside levels members sound.1 in
    ((sound.0.0, rest.0), ((sound.0.1.0, rest.1.0), max-le sound.0.1.1 rest.1.1))

pub object_sound : (levels : ℕ) (members : List Member) → AreSound levels members → IsDistinct bytes_eq (keys_of members)
    → IsSound (suc levels) (object_of members)
object_sound levels members sound distinct =
    let all = inside levels members sound in (
      all.0,
      (
        (subst (λ (keys : List (List ℕ)). IsDistinct bytes_eq keys) (sym (keys_are members)) distinct, all.1.0),
        omega (arith, all.1.1),
      ),
    )

-- ---- texts

hex_sound : (levels : ℕ) (key : List ℕ) (pairs : Option (List ℕ)) → AreSound levels (hex_members key pairs)
hex_sound levels key None = tt
hex_sound levels key (Some pairs) = (string_sound levels pairs, tt)

pub texts_sound : (levels : ℕ) (key bytes : List ℕ) → AreSound levels (text_members key bytes)
texts_sound levels key bytes = (string_sound levels (text_of bytes), hex_sound levels key (hex_pairs bytes))

hex_among : (key : List ℕ) (pairs : Option (List ℕ)) → Among (keys_of (hex_members key pairs)) (hex_key key ∷ [])
hex_among key None = tt
hex_among key (Some pairs) = inl (refl, tt)

pub texts_among : (key bytes : List ℕ) → Among (keys_of (text_members key bytes)) (key ∷ hex_key key ∷ [])
texts_among key bytes = inl (refl, hex_among key (hex_pairs bytes))
