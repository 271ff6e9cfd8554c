-- What frames go to: messages of the database, and identifiers that fit.
use Rattle.std.proofs.Common.{◌≡◌, ℕ, ◌<◌, ◌^◌, inl, inr, List, Option, Some, None, option_and_then, option_map, slice_get}
use Rattle.std.proofs.Common.{All, refl, sym, subst, arith}
use Rattle.std.proofs.lemmas.List.Elements.{All-get_or}
use Rattle.std.proofs.lemmas.Option.{slice_get_within, get_or_from_slice_get}
use Rattle.dbc_records.specs.Records.{Message}
use Rattle.dbc_records.specs.Databases.{Database}
use Rattle.can_decode.specs.Choices.{chosen_index}
use Rattle.can_frames.specs.Frames.{Frame, frame_of}
use Rattle.can_frames.specs.LogGrammar.{IsIdentifierText, IsLogLine}
use Rattle.can_frames.specs.Frames.{Identifier}
use Rattle.can_decode.specs.declared.short.Short.{Short}
use Rattle.can_decode.specs.DecodedLines.{Target, target_of, chosen_target}
use Rattle.can_json_laws.proofs.Stamps.{LinesAreGiven}

pub all_at : {X : Type 0} (P : X → Type 0) (xs : List X) (i : ℕ) (x : X) → All P xs → slice_get xs i ≡ Some x → P x
all_at P xs i x all there =
    subst P (get_or_from_slice_get xs i x x there) (All-get_or P xs i x (slice_get_within xs i x there) all)

-- it is a message of the database, with its plan
pub record IsKnown (short : Short) (database : Database) (target : Target) : Type 0 where
  pub message : Message
  pub at : ℕ
  pub there : slice_get database.messages at ≡ Some message
  pub is : target ≡ target_of short database message

known_at : (short : Short) (database : Database) (target : Target) (at : ℕ) (message : Option Message)
    → slice_get database.messages at ≡ message → option_map (target_of short database) message ≡ Some target
    → IsKnown short database target
known_at short database target at None there is = absurd (let no : None ≡ Some target = is in cc)
known_at short database target at (Some message) there is = record {
  message = message;
  at = at;
  there = there;
  is = let same : Some (target_of short database message) ≡ Some target = is in cc;
}

known_by : (short : Short) (database : Database) (target : Target) (index : Option ℕ)
    → option_and_then (λ (at : ℕ). option_map (target_of short database) (slice_get database.messages at)) index ≡ Some target
    → IsKnown short database target
known_by short database target None is = absurd (let no : None ≡ Some target = is in cc)
known_by short database target (Some at) is = known_at short database target at (slice_get database.messages at) refl is

pub known : (short : Short) (database : Database) (frame : Frame) (target : Target)
    → chosen_target short database frame ≡ Some target → IsKnown short database target
unfolding chosen_target
known short database frame target is = known_by short database target (chosen_index database frame) is

-- ---- identifiers

fits : (text : List ℕ) (identifier : Identifier) → IsIdentifierText text identifier → identifier.number < 2 ^ 29
fits text identifier is = elim is [
  | inl standard ↦ omega (arith, standard.fits)
  | inr extended ↦ extended.fits
]

pub identifier_fits : LinesAreGiven → (body : List ℕ) (frame : Frame) → frame_of body ≡ Some frame → frame.identifier < 2 ^ 29
identifier_fits given body frame is =
    let line : IsLogLine body frame = (given body frame).0 is in
    subst (λ (n : ℕ). n < 2 ^ 29) (sym line.frame_is.number)
    (fits line.frame_is.digits line.frame_is.identifier line.frame_is.identified)
