-- A statement that was read alone is spelled by the tokens that it was read from.
use Rattle.std.proofs.Common.{◌≡◌, ℕ, List, [], Ok, refl, ap, subst}
use Rattle.std.specs.Prelude.{codes}
use Rattle.dbc_records.specs.Layout.{items_of}
use Rattle.dbc_records.specs.CanonicalText.{target_layout}
use Rattle.dbc_reader.specs.declared.statement.Statement.{Statement}
use Rattle.dbc_tokens.specs.Tokens.{Token, Cut, End}
use Rattle.dbc_reader.specs.Forms.{Spelled, of_layout, ◌▸▸◌}
use Rattle.dbc_reader.specs.inner.Readers.{value, end_at}
use Rattle.dbc_reader.specs.inner.Attributes.{message_target_at}
use Rattle.dbc_reader.specs.inner.Databases.{message_attribute_at, standalone_statement_at, statement_at}
use Rattle.dbc_reader.specs.Spelling.{form, Attribute, form_alone, IsStatement, SpellsStatement}
use Rattle.dbc_reader.proofs.Rounds.{and_then_ok}
use Rattle.dbc_reader.proofs.Sound.Kinds.{word_sound, mark_sound, text_sound, id_sound}
use Rattle.dbc_reader.proofs.Sound.Rows.{table_sound, values_sound, mux_sound}
use Rattle.dbc_reader.proofs.Sound.Notes.{given_sound, attribute_form}
use Rattle.dbc_reader.proofs.Sound.Messages.{head_sound, signal_sound}
use Rattle.dbc_reader.proofs.Sound.Databases.{ends_there, up_to}
use Rattle.dbc_reader.proofs.Rounds.{ok_is}
use Rattle.dbc_reader.proofs.Sound.{Sound, sound_start, sound_then, sound_value, sound_choose}

-- ---- an attribute of a message

message_target_sound : Sound message_target_at (λ target. of_layout (target_layout target))
unfolding message_target_at target_layout items_of
message_target_sound = sound_start (sound_then (word_sound (codes "BO_")) λ _. sound_then id_sound λ number. sound_value refl)

message_attribute_sound : Sound message_attribute_at (λ row. form (Attribute row))
unfolding message_attribute_at
message_attribute_sound =
    sound_start (sound_then (word_sound (codes "BA_")) λ _. sound_then text_sound λ name. sound_then message_target_sound λ target.
    sound_then given_sound λ given. sound_then (mark_sound 59) λ _.
    sound_value (attribute_form (record { name = name; target = target; value = given })))

-- ---- any statement

one_of_six_sound : Sound standalone_statement_at form_alone
unfolding standalone_statement_at
one_of_six_sound =
    sound_choose _ (sound_start (sound_then (head_sound 0) λ head. sound_value refl))
    (sound_choose _ (sound_start (sound_then (signal_sound []) λ signal. sound_value refl))
    (sound_choose _ (sound_start (sound_then table_sound λ row. sound_value refl))
    (sound_choose _ (sound_start (sound_then values_sound λ row. sound_value refl))
    (sound_choose _ (sound_start (sound_then mux_sound λ row. sound_value refl))
    (sound_start (sound_then message_attribute_sound λ row. sound_value refl))))))

same_statement : (a b : Statement) (c d : Cut) → value a c ≡ Ok (b, d) → a ≡ b
same_statement a b c d e = ap (λ (x : Statement × Cut). x.0) (ok_is (a, c) (b, d) e)

pub statement_sound : (cut : Cut) (s : Statement) (rest : Cut) → statement_at cut ≡ Ok (s, rest) → IsStatement s
    → (tokens : List Token) × (line : ℕ) × (cut ≡ (tokens ▸▸ End line)) × SpellsStatement tokens s
unfolding statement_at
statement_sound cut s rest e proper =
    let a = and_then_ok (standalone_statement_at cut) _ (s, rest) e in
    let b = and_then_ok (end_at a.0.1) _ (s, rest) a.2 in
    let end = ends_there a.0.1 b.0 b.1 in
    let spelt = one_of_six_sound.spelt cut a.0 a.1 in (
      spelt.front,
      end.0,
      up_to spelt.front cut a.0.1 end.0 spelt.occurs end.1,
      record {
        spelled = subst (λ (statement : Statement). Spelled (form_alone statement) spelt.front)
            (same_statement a.0.0 s b.0.1 rest b.2) spelt.spelled;
        proper = proper;
      },
    )
