-- What the readers of comments and attributes read is spelled by their forms.
use Rattle.std.proofs.Common.{◌≡◌, ℕ, List, [], ◌∷◌, ◌++◌, refl, sym, ap, ◌∙◌, append_assoc}
use Rattle.std.specs.Prelude.{codes}
use Rattle.std.specs.List.{flat_map}
use Rattle.dbc_records.specs.Comments.{Comment}
use Rattle.dbc_records.specs.Attributes.{AttrDef, AttrDefault, AttrRow}
use Rattle.dbc_records.specs.Layout.{Word, Mark, Text, items_of}
use Rattle.dbc_records.specs.CanonicalText.{word_layout, spaced_word, spaced_text, spaced_number, blank, number_layout}
use Rattle.dbc_records.specs.CanonicalText.{statement_end, target_layout, comment_key, comment_layout, object_layout}
use Rattle.dbc_records.specs.CanonicalText.{number_limits_layout, further_text, texts_layout, form_layout, definition_key}
use Rattle.dbc_records.specs.CanonicalText.{definition_layout, value_layout, default_key, default_layout, attribute_key}
use Rattle.dbc_records.specs.CanonicalText.{attribute_layout}
use Rattle.dbc_reader.specs.Forms.{Part, Is, of_layout}
use Rattle.dbc_reader.specs.Spelling.{form, OfComment, Definition, Default, Attribute}
use Rattle.dbc_reader.specs.inner.Readers.{◌>>=◌}
use Rattle.dbc_reader.specs.inner.Parts.{mark_at, text_at, texts_from}
use Rattle.dbc_reader.specs.inner.Attributes.{node_target_at, message_target_at, signal_target_at, target_at, comment_at}
use Rattle.dbc_reader.specs.inner.Attributes.{object_at, limits_at, string_form_at, enumeration_at, form_at, definition_at}
use Rattle.dbc_reader.specs.inner.Attributes.{value_at, default_at, attribute_at}
use Rattle.dbc_reader.proofs.Sound.{Sound, sound_then, sound_value, sound_start, sound_choose, grows_repeated, first_and}
use Rattle.dbc_reader.proofs.Sound.{sound_first, sound_both, sound_end, grows_after}
use Rattle.dbc_reader.proofs.Sound.Kinds.{word_sound, mark_sound, name_sound, text_sound, id_sound, decimal_sound}
use Rattle.dbc_reader.proofs.Sound.Rows.{of_layout-append, of_layout-items}

-- ---- comments

target_sound : Sound target_at (λ target. of_layout (target_layout target))
unfolding target_at node_target_at message_target_at signal_target_at target_layout items_of
target_sound =
    sound_choose _ (sound_start (sound_then (word_sound (codes "BU_")) λ _. sound_then name_sound λ name. sound_value refl))
    (sound_choose _ (sound_start (sound_then (word_sound (codes "BO_")) λ _. sound_then id_sound λ number. sound_value refl))
    (sound_choose _ (sound_start (sound_then (word_sound (codes "SG_")) λ _. sound_then id_sound λ number. sound_then name_sound
    λ name. sound_value refl)) (sound_start (sound_value refl))))

pub comment_form : (comment : Comment) → form (OfComment comment)
    ≡ ((Is (Word (codes "CM_")) ∷ of_layout (target_layout comment.target)) ++ Is (Text comment.text) ∷ []) ++ Is (Mark 59) ∷ []
unfolding comment_layout comment_key word_layout spaced_text statement_end items_of
comment_form comment =
    of_layout-append (comment_key comment) (spaced_text comment.text ++ statement_end)
    ∙ ap (λ (parts : List Part). parts ++ Is (Text comment.text) ∷ Is (Mark 59) ∷ []) (of_layout-append (word_layout (codes "CM_"))
    (target_layout comment.target))
    ∙ sym (append_assoc (Is (Word (codes "CM_")) ∷ of_layout (target_layout comment.target)) (Is (Text comment.text) ∷ [])
    (Is (Mark 59) ∷ []))

pub comment_sound : Sound comment_at (λ comment. form (OfComment comment))
unfolding comment_at
comment_sound =
    sound_start (sound_then (word_sound (codes "CM_")) λ _. sound_then target_sound λ target. sound_then text_sound λ text.
    sound_then (mark_sound 59) λ _.
    sound_value (comment_form (record { target = target; text = text })))

-- ---- definitions

object_sound : Sound object_at (λ object. of_layout (object_layout object))
unfolding object_at object_layout spaced_word items_of
object_sound =
    sound_choose _ (sound_start (sound_then (word_sound (codes "BU_")) λ _. sound_value refl))
    (sound_choose _ (sound_start (sound_then (word_sound (codes "BO_")) λ _. sound_value refl))
    (sound_choose _ (sound_start (sound_then (word_sound (codes "SG_")) λ _. sound_value refl))
    (sound_choose _ (sound_start (sound_then (word_sound (codes "EV_")) λ _. sound_value refl)) (sound_start (sound_value refl)))))

limits_sound : Sound limits_at (λ limits. of_layout (number_limits_layout limits))
unfolding limits_at number_limits_layout spaced_number blank number_layout items_of
limits_sound = sound_choose _ (sound_start (sound_then decimal_sound λ minimum. sound_then decimal_sound λ maximum. sound_value
    refl)) (sound_start (sound_value refl))

abbrev pub text_form : List ℕ → List Part
text_form text = Is (Text text) ∷ []

abbrev pub further_text_form : List ℕ → List Part
further_text_form text = Is (Mark 44) ∷ Is (Text text) ∷ []

further_text_sound : Sound (mark_at 44 >>= λ _. text_at) further_text_form
further_text_sound = sound_start (sound_then (mark_sound 44) λ _. sound_end text_sound λ text. refl)

texts_sound : Sound (text_at >>= λ text. texts_from (text ∷ [])) (first_and text_form further_text_form)
unfolding texts_from
texts_sound = sound_first text_sound (grows_repeated _ _ further_text_form (grows_after (mark_at 44) text_at further_text_sound))

pub texts_layout_form : (texts : List (List ℕ)) → of_layout (texts_layout texts) ≡ first_and text_form further_text_form texts
unfolding texts_layout spaced_text further_text items_of
texts_layout_form [] = refl
texts_layout_form (text ∷ texts) =
    of_layout-append (spaced_text text) (flat_map further_text texts) ∙ ap (λ (parts : List Part). text_form text ++ parts)
    (of_layout-items further_text texts)

pub word_then : (word : List ℕ) (parts : List Part) (layout : _) → of_layout layout ≡ parts → of_layout (spaced_word word ++ layout)
    ≡ Is (Word word) ∷ parts
unfolding spaced_word items_of
word_then word parts layout same = of_layout-append (spaced_word word) layout ∙ ap (λ (parts : List Part). Is (Word word) ∷ parts)
    same

pub string_form : of_layout (spaced_word (codes "STRING")) ≡ Is (Word (codes "STRING")) ∷ []
unfolding spaced_word items_of
string_form = refl

form_sound : Sound form_at (λ f. of_layout (form_layout f))
unfolding form_at string_form_at enumeration_at form_layout
form_sound =
    sound_choose _ (sound_start (sound_then (word_sound (codes "INT")) λ _. sound_then limits_sound λ limits. sound_value
    (word_then (codes "INT") _ (number_limits_layout limits) refl)))
    (sound_choose _ (sound_start (sound_then (word_sound (codes "HEX")) λ _. sound_then limits_sound λ limits. sound_value
    (word_then (codes "HEX") _ (number_limits_layout limits) refl)))
    (sound_choose _ (sound_start (sound_then (word_sound (codes "FLOAT")) λ _. sound_then limits_sound λ limits. sound_value
    (word_then (codes "FLOAT") _ (number_limits_layout limits) refl)))
    (sound_choose _ (sound_start (sound_then (word_sound (codes "STRING")) λ _. sound_value string_form))
    (sound_start (sound_then (word_sound (codes "ENUM")) λ _. sound_both text_at (λ text. texts_from (text ∷ [])) texts_sound
    λ texts. sound_value (word_then (codes "ENUM") _ (texts_layout texts) (texts_layout_form texts)))))))

pub definition_form : (row : AttrDef) → form (Definition row)
    ≡ (((Is (Word (codes "BA_DEF_")) ∷ of_layout (object_layout row.object)) ++ Is (Text row.name) ∷ [])
    ++ of_layout (form_layout row.form)) ++ Is (Mark 59) ∷ []
unfolding definition_layout definition_key word_layout spaced_text statement_end items_of
definition_form row =
    of_layout-append (definition_key row) (form_layout row.form ++ statement_end)
    ∙ ap (λ (parts : List Part). parts ++ of_layout (form_layout row.form ++ statement_end))
    (ap (λ (parts : List Part). Is (Word (codes "BA_DEF_")) ∷ parts) (of_layout-append (object_layout row.object)
    (spaced_text row.name)))
    ∙ ap (λ (parts : List Part). (Is (Word (codes "BA_DEF_")) ∷ (of_layout (object_layout row.object) ++ Is (Text row.name) ∷ []))
    ++ parts) (of_layout-append (form_layout row.form) statement_end)
    ∙ sym (append_assoc (Is (Word (codes "BA_DEF_")) ∷ (of_layout (object_layout row.object) ++ Is (Text row.name) ∷ []))
    (of_layout (form_layout row.form)) (Is (Mark 59) ∷ []))

pub definition_sound : Sound definition_at (λ row. form (Definition row))
unfolding definition_at
definition_sound =
    sound_start (sound_then (word_sound (codes "BA_DEF_")) λ _. sound_then object_sound λ object. sound_then text_sound λ name.
    sound_then form_sound λ f. sound_then (mark_sound 59) λ _.
    sound_value (definition_form (record { object = object; name = name; form = f })))

-- ---- values

pub given_sound : Sound value_at (λ given. of_layout (value_layout given))
unfolding value_at value_layout spaced_text spaced_number blank number_layout items_of
given_sound = sound_choose _ (sound_start (sound_then text_sound λ text. sound_value refl))
    (sound_start (sound_then decimal_sound λ number. sound_value refl))

pub default_form : (row : AttrDefault) → form (Default row) ≡ ((Is (Word (codes "BA_DEF_DEF_")) ∷ Is (Text row.name) ∷ [])
    ++ of_layout (value_layout row.value)) ++ Is (Mark 59) ∷ []
unfolding default_layout default_key word_layout spaced_text statement_end items_of
default_form row =
    of_layout-append (default_key row) (value_layout row.value ++ statement_end)
    ∙ ap (λ (parts : List Part). Is (Word (codes "BA_DEF_DEF_")) ∷ Is (Text row.name) ∷ parts)
    (of_layout-append (value_layout row.value) statement_end)

pub default_sound : Sound default_at (λ row. form (Default row))
unfolding default_at
default_sound =
    sound_start (sound_then (word_sound (codes "BA_DEF_DEF_")) λ _. sound_then text_sound λ name. sound_then given_sound λ given.
    sound_then (mark_sound 59) λ _.
    sound_value (default_form (record { name = name; value = given })))

pub attribute_form : (row : AttrRow) → form (Attribute row)
    ≡ (((Is (Word (codes "BA_")) ∷ Is (Text row.name) ∷ []) ++ of_layout (target_layout row.target))
    ++ of_layout (value_layout row.value)) ++ Is (Mark 59) ∷ []
unfolding attribute_layout attribute_key word_layout spaced_text statement_end items_of
attribute_form row =
    of_layout-append (attribute_key row) (value_layout row.value ++ statement_end)
    ∙ ap (λ (parts : List Part). (Is (Word (codes "BA_")) ∷ Is (Text row.name) ∷ of_layout (target_layout row.target)) ++ parts)
    (of_layout-append (value_layout row.value) statement_end)
    ∙ sym (append_assoc (Is (Word (codes "BA_")) ∷ Is (Text row.name) ∷ of_layout (target_layout row.target))
    (of_layout (value_layout row.value)) (Is (Mark 59) ∷ []))

pub attribute_sound : Sound attribute_at (λ row. form (Attribute row))
unfolding attribute_at
attribute_sound =
    sound_start (sound_then (word_sound (codes "BA_")) λ _. sound_then text_sound λ name. sound_then target_sound λ target.
    sound_then given_sound λ given. sound_then (mark_sound 59) λ _.
    sound_value (attribute_form (record { name = name; target = target; value = given })))
