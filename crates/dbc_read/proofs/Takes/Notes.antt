-- Comments and attributes that are spelled are read.
use Rattle.std.proofs.Common.{◌≡◌, ℕ, Bool, true, false, ◌||◌, List, [], ◌∷◌, ◌++◌, length, Option, Some, None, append_assoc, refl}
use Rattle.std.proofs.Common.{sym, ap, subst, ◌∙◌, inl, inr}
use Rattle.std.specs.Prelude.{codes, nat_le, All, IsTrue}
use Rattle.std.specs.List.{flat_map}
use Rattle.std.specs.Str.{bytes_eq}
use Rattle.std.proofs.lemmas.Bool.{cases_Bool}
use Rattle.std.proofs.lemmas.List.Elements.{All-tail}
use Rattle.std.proofs.lemmas.Slice.Eq.{bytes_eq-Decides}
use Rattle.dbc_values.specs.Lexical.{quote, quoted, is_text, is_number}
use Rattle.dbc_values.specs.Decimals.{Decimal, decimal_of_number, SpellsDecimal}
use Rattle.dbc_values.specs.Pieces.{is_string, inside}
use Rattle.dbc_values.specs.Names.{IsText}
use Rattle.dbc_records.specs.Comments.{Comment, IsTarget, IsComment}
use Rattle.dbc_records.specs.Attributes.{AttrDef, IsAttrDef, IsForm, form_fits, AttrDefault, AttrRow, IsAttrRow}
use Rattle.dbc_records.specs.declared.target.Target.{Target}
use Rattle.dbc_records.specs.declared.target.Target.TheVariants as targets
use Rattle.dbc_records.specs.declared.attribute.AttrValue.{AttrValue}
use Rattle.dbc_records.specs.declared.attribute.AttrValue.TheVariants as values
use Rattle.dbc_records.specs.declared.definition.Limits.{Limits}
use Rattle.dbc_records.specs.declared.definition.Object.{Object}
use Rattle.dbc_records.specs.declared.definition.Object.TheVariants as objects
use Rattle.dbc_records.specs.declared.definition.Form.{Form}
use Rattle.dbc_records.specs.declared.definition.Form.TheVariants as forms
use Rattle.dbc_records.specs.Layout.{Word, Mark, Text, Number, items_of}
use Rattle.dbc_records.specs.CanonicalText.{spaced_word, spaced_text, spaced_number, blank, number_layout, target_layout}
use Rattle.dbc_records.specs.CanonicalText.{object_layout, number_limits_layout, texts_layout, form_layout, value_layout}
use Rattle.dbc_tokens.specs.Tokens.{Token, Cut}
use Rattle.dbc_reader.specs.Classes.{has_word, has_mark, has_string, has_number, is_there}
use Rattle.dbc_reader.specs.Forms.{Part, Is, IsOne, IsSign, Spelled, of_layout, ◌▸▸◌}
use Rattle.dbc_reader.specs.Spelling.{form, OfComment, Definition, Default, Attribute}
use Rattle.dbc_reader.specs.inner.Readers.{starts}
use Rattle.dbc_reader.specs.inner.Parts.{texts_from, begins_decimal}
use Rattle.dbc_reader.specs.inner.Attributes.{node_target_at, message_target_at, signal_target_at, target_at, comment_at}
use Rattle.dbc_reader.specs.inner.Attributes.{object_at, limits_at, limited_at, string_form_at, enumeration_at, form_at}
use Rattle.dbc_reader.specs.inner.Attributes.{definition_at, value_at, default_at, attribute_at}
use Rattle.dbc_reader.proofs.Rounds.{bind_shrinks, bind_keeps, keeps, value_keeps}
use Rattle.dbc_reader.proofs.Rounds.Lists.{mark_shrinks, text_shrinks}
use Rattle.dbc_reader.proofs.Facts.Names.{no_digit_no_number}
use Rattle.dbc_reader.proofs.Sound.{all_then_twice}
use Rattle.dbc_reader.proofs.Sound.Notes.{text_form, further_text_form, comment_form, texts_layout_form, word_then, string_form}
use Rattle.dbc_reader.proofs.Sound.Notes.{definition_form, default_form, attribute_form}
use Rattle.dbc_read.proofs.Takes.{Takes, Anything, Opens, Stops, Allows, takes_value, takes_then, takes_next, takes_as, takes_last}
use Rattle.dbc_read.proofs.Takes.{takes_where, takes_first, takes_second, takes_none, opens_one, allows_stop, allows_both}
use Rattle.dbc_read.proofs.Takes.{takes_list}
use Rattle.dbc_read.proofs.Takes.Kinds.{decimal_from_number, word_takes, mark_takes, name_takes, text_takes, quoted_is_string}
use Rattle.dbc_read.proofs.Takes.Kinds.{id_takes, decimal_takes}
use Rattle.dbc_read.proofs.Takes.Rows.{mark_opens, mark_opens_itself, semicolon_is_no_comma}

-- ---- what words, texts and numbers begin with

pub word_opens : (test : List ℕ → Bool) (word : List ℕ) {passes : Bool} {parts : List Part} → test word ≡ passes
    → Opens (λ t. test t.bytes) passes (Is (Word word) ∷ parts)
word_opens test word {passes} {parts} e = opens_one (Is (Word word)) (λ bytes. bytes ≡ word) (λ tokens means. means)
    (λ t same. ap test same ∙ e)

pub text_opens : (test : List ℕ → Bool) (text : List ℕ) {passes : Bool} {parts : List Part}
    → (IsTrue (is_text text) → test (quoted text) ≡ passes) → Opens (λ t. test t.bytes) passes (Is (Text text) ∷ parts)
text_opens test text {passes} {parts} e = opens_one (Is (Text text)) (λ bytes. (bytes ≡ quoted text) × IsTrue (is_text text))
    (λ tokens means. means) (λ t same. ap test same.0 ∙ e same.1)

-- a text is no word
pub text_no_word : (word : List ℕ) {text : List ℕ} {parts : List Part} → bytes_eq (quoted text) word ≡ false
    → Opens (has_word word) false (Is (Text text) ∷ parts)
unfolding has_word
text_no_word word {text} {parts} e = text_opens (λ bytes. bytes_eq bytes word) text (λ is. e)

-- a number with its sign, by what a sign and a number without one begin with
pub number_opens : (test : List ℕ → Bool) (d : Decimal) {passes : Bool} {parts : List Part} → test (45 ∷ []) ≡ passes
    → test (43 ∷ []) ≡ passes → ((bytes : List ℕ) → SpellsDecimal false bytes d → test bytes ≡ passes)
    → Opens (λ t. test t.bytes) passes (Is (Number d) ∷ parts)
unfolding starts
number_opens test d {passes} {parts} minus plus number = record { opens = begins }
  where
    first_is : (negative : Bool) (sign digits : List Token) (cut : Cut) → IsSign negative sign
        → IsOne (λ bytes. SpellsDecimal negative bytes d) digits → starts (λ t. test t.bytes) ((sign ++ digits) ▸▸ cut) ≡ passes
    first_is true sign digits cut (s, same, is) n = rw same (ap test is ∙ minus)
    first_is false sign digits cut (inr (s, same, is)) n = rw same (ap test is ∙ plus)
    first_is false sign digits cut (inl none) (t, same, is) = rw (none, same) (number t.bytes is)

    begins : (tokens : List Token) (cut : Cut) → Spelled (Is (Number d) ∷ parts) tokens → starts (λ t. test t.bytes) (tokens ▸▸ cut)
        ≡ passes
    begins tokens cut (front, rest, same, (negative, sign, digits, both, is_sign, is_digits), others) =
        ap (λ (t : List Token). starts (λ t. test t.bytes) (t ▸▸ cut)) (same ∙ ap (λ (t : List Token). t ++ rest) both)
        ∙ ap (starts (λ t. test t.bytes)) (all_then_twice (sign ++ digits) rest cut) ∙ first_is negative sign digits (rest ▸▸ cut)
        is_sign is_digits

differ : (test : List ℕ → Bool) (bytes other : List ℕ) → test bytes ≡ true → test other ≡ false → bytes_eq bytes other ≡ false
differ test bytes other is none = elim (cases_Bool (bytes_eq bytes other)) [
  | inr e ↦ e
  | inl e ↦ (let both : true ≡ false = sym is ∙ ap test ((bytes_eq-Decides bytes other).0 e) ∙ none in absurd cc)
]

-- a number is no word
pub number_no_word : (word : List ℕ) (d : Decimal) {parts : List Part} → bytes_eq (45 ∷ []) word ≡ false → bytes_eq (43 ∷ []) word
    ≡ false → is_number word ≡ false → Opens (has_word word) false (Is (Number d) ∷ parts)
unfolding has_word
number_no_word word d {parts} minus plus none = number_opens (λ bytes. bytes_eq bytes word) d minus plus
    (λ bytes e. differ is_number bytes word e.form none)

-- ---- what is spoken of

-- none of the words that name what is described
abbrev pub NoTarget : Cut → Type 0
NoTarget cut = Stops (has_word (codes "BU_")) cut × (Stops (has_word (codes "BO_")) cut × Stops (has_word (codes "SG_")) cut)

pub target_takes : (target : Target) → IsTarget target → Takes target_at target (of_layout (target_layout target)) NoTarget
unfolding target_at node_target_at message_target_at signal_target_at target_layout items_of has_word
target_takes targets.Whole is =
    takes_none _ _ (λ cut may. may.0) (takes_none _ _ (λ cut may. may.1.0) (takes_none _ _ (λ cut may. may.1.1)
    (takes_where takes_value (λ cut may. tt))))
target_takes (targets.Node name) is =
    takes_first _ (word_opens (λ bytes. bytes_eq bytes (codes "BU_")) (codes "BU_") refl)
    (takes_where (takes_next _ (word_takes (codes "BU_")) (takes_next _ (name_takes name) takes_value)) (λ cut may. tt))
target_takes (targets.Message number) is =
    takes_second _ (word_opens (λ bytes. bytes_eq bytes (codes "BU_")) (codes "BO_") refl)
    (takes_first _ (word_opens (λ bytes. bytes_eq bytes (codes "BO_")) (codes "BO_") refl)
    (takes_where (takes_next _ (word_takes (codes "BO_")) (takes_next _ (id_takes number is) takes_value)) (λ cut may. tt)))
target_takes (targets.Signal number name) is =
    takes_second _ (word_opens (λ bytes. bytes_eq bytes (codes "BU_")) (codes "SG_") refl)
    (takes_second _ (word_opens (λ bytes. bytes_eq bytes (codes "BO_")) (codes "SG_") refl)
    (takes_first _ (word_opens (λ bytes. bytes_eq bytes (codes "SG_")) (codes "SG_") refl)
    (takes_where (takes_next _ (word_takes (codes "SG_")) (takes_next _ (id_takes number is.0) (takes_next _ (name_takes name)
    takes_value))) (λ cut may. tt))))

pub text_no_target : {text : List ℕ} {parts : List Part} {May : Cut → Type 0} → Allows (Is (Text text) ∷ parts) May NoTarget
text_no_target {text} {parts} {May} = allows_both (allows_stop (text_no_word (codes "BU_") refl))
    (allows_both (allows_stop (text_no_word (codes "BO_") refl)) (allows_stop (text_no_word (codes "SG_") refl)))

pub comment_takes : (comment : Comment) → IsComment comment → Takes comment_at comment (form (OfComment comment)) Anything
unfolding comment_at
comment_takes comment is =
    takes_as (comment_form comment ∙ append_assoc (Is (Word (codes "CM_")) ∷ of_layout (target_layout comment.target))
    (Is (Text comment.text) ∷ []) (Is (Mark 59) ∷ []))
    (takes_next _ (word_takes (codes "CM_")) (takes_then _ (target_takes comment.target is.target) text_no_target
    (takes_next _ (text_takes comment.text) (takes_next _ (mark_takes 59) takes_value))))

-- ---- objects

abbrev NoObject : Cut → Type 0
NoObject cut = NoTarget cut × Stops (has_word (codes "EV_")) cut

object_takes : (object : Option Object) → Takes object_at object (of_layout (object_layout object)) NoObject
unfolding object_at object_layout spaced_word items_of has_word
object_takes None =
    takes_none _ _ (λ cut may. may.0.0) (takes_none _ _ (λ cut may. may.0.1.0) (takes_none _ _ (λ cut may. may.0.1.1)
    (takes_none _ _ (λ cut may. may.1) (takes_where takes_value (λ cut may. tt)))))
object_takes (Some objects.Node) =
    takes_first _ (word_opens (λ bytes. bytes_eq bytes (codes "BU_")) (codes "BU_") refl)
    (takes_where (takes_next _ (word_takes (codes "BU_")) takes_value) (λ cut may. tt))
object_takes (Some objects.Message) =
    takes_second _ (word_opens (λ bytes. bytes_eq bytes (codes "BU_")) (codes "BO_") refl)
    (takes_first _ (word_opens (λ bytes. bytes_eq bytes (codes "BO_")) (codes "BO_") refl)
    (takes_where (takes_next _ (word_takes (codes "BO_")) takes_value) (λ cut may. tt)))
object_takes (Some objects.Signal) =
    takes_second _ (word_opens (λ bytes. bytes_eq bytes (codes "BU_")) (codes "SG_") refl)
    (takes_second _ (word_opens (λ bytes. bytes_eq bytes (codes "BO_")) (codes "SG_") refl)
    (takes_first _ (word_opens (λ bytes. bytes_eq bytes (codes "SG_")) (codes "SG_") refl)
    (takes_where (takes_next _ (word_takes (codes "SG_")) takes_value) (λ cut may. tt))))
object_takes (Some objects.EnvironmentVariable) =
    takes_second _ (word_opens (λ bytes. bytes_eq bytes (codes "BU_")) (codes "EV_") refl)
    (takes_second _ (word_opens (λ bytes. bytes_eq bytes (codes "BO_")) (codes "EV_") refl)
    (takes_second _ (word_opens (λ bytes. bytes_eq bytes (codes "SG_")) (codes "EV_") refl)
    (takes_first _ (word_opens (λ bytes. bytes_eq bytes (codes "EV_")) (codes "EV_") refl)
    (takes_where (takes_next _ (word_takes (codes "EV_")) takes_value) (λ cut may. tt)))))

text_no_object : {text : List ℕ} {parts : List Part} {May : Cut → Type 0} → Allows (Is (Text text) ∷ parts) May NoObject
text_no_object {text} {parts} {May} = allows_both text_no_target (allows_stop (text_no_word (codes "EV_") refl))

-- ---- limits

decimal_there : (bytes : List ℕ) (d : Decimal) → SpellsDecimal false bytes d → is_there (decimal_of_number false bytes) ≡ true
decimal_there bytes d e = ap is_there (decimal_from_number false bytes d e)

or_last : (a b c : Bool) → c ≡ true → (a || (b || c)) ≡ true
or_last true b c e = refl
or_last false true c e = refl
or_last false false c e = e

decimal_opens : (d : Decimal) {parts : List Part} → Opens begins_decimal true (Is (Number d) ∷ parts)
unfolding begins_decimal has_mark has_number
decimal_opens d {parts} =
    number_opens (λ bytes. bytes_eq bytes (45 ∷ []) || (bytes_eq bytes (43 ∷ []) || is_there (decimal_of_number false bytes))) d
    refl refl (λ bytes e. or_last _ _ _ (decimal_there bytes d e))

limits_take : (limits : Option Limits) → Takes limits_at limits (of_layout (number_limits_layout limits)) (Stops begins_decimal)
unfolding limits_at number_limits_layout spaced_number blank number_layout items_of
limits_take None = takes_none _ _ (λ cut may. may) (takes_where takes_value (λ cut may. tt))
limits_take (Some limits) = takes_first _ (decimal_opens limits.minimum)
    (takes_where (takes_next _ (decimal_takes limits.minimum) (takes_next _ (decimal_takes limits.maximum) takes_value))
    (λ cut may. tt))

-- ---- forms

further_texts_take : (texts more : List (List ℕ)) → All IsText more → Takes (texts_from texts) (texts ++ more)
    (flat_map further_text_form more) (Stops (has_mark 44))
unfolding texts_from
further_texts_take texts more are =
    takes_list (has_mark 44) _ (λ list. bind_shrinks (mark_shrinks 44) λ _. bind_keeps (keeps text_shrinks) λ text. value_keeps _)
    further_text_form IsText
    (λ list text is. takes_next _ (mark_takes 44) (takes_next _ (text_takes text) takes_value)) (λ text is. mark_opens_itself 44)
    texts more are

-- what ends the form of a definition
abbrev EndsForm : Cut → Type 0
EndsForm cut = Stops begins_decimal cut × Stops (has_mark 44) cut

limited_takes : (word : List ℕ) (make : Option Limits → Form) (limits : Option Limits) → Takes (limited_at word make) (make limits)
    (Is (Word word) ∷ of_layout (number_limits_layout limits)) EndsForm
limited_takes word make limits = takes_where (takes_next _ (word_takes word) (takes_last _ (limits_take limits) takes_value))
    (λ cut may. may.0)

some_texts : (texts : List (List ℕ)) → nat_le 1 (length texts) ≡ true → (first : List ℕ) × (more : List (List ℕ))
    × (texts ≡ first ∷ more)
some_texts [] fit = absurd cc
some_texts (text ∷ texts) fit = (text, texts, refl)

enumeration_form : (text : List ℕ) (texts : List (List ℕ)) → of_layout (form_layout (forms.Enumeration (text ∷ texts)))
    ≡ Is (Word (codes "ENUM")) ∷ (text_form text ++ flat_map further_text_form texts)
unfolding form_layout
enumeration_form text texts = word_then (codes "ENUM") _ (texts_layout (text ∷ texts)) (texts_layout_form (text ∷ texts))

enumeration_takes : (text : List ℕ) (texts : List (List ℕ)) → All IsText (text ∷ texts)
    → Takes enumeration_at (forms.Enumeration (text ∷ texts)) (Is (Word (codes "ENUM"))
    ∷ (text_form text ++ flat_map further_text_form texts)) EndsForm
unfolding enumeration_at texts_from
enumeration_takes text texts are =
    takes_where (takes_next _ (word_takes (codes "ENUM")) (takes_next _ (text_takes text)
    (takes_last _ (further_texts_take (text ∷ []) texts (All-tail IsText text texts are)) takes_value))) (λ cut may. may.1)

string_takes : Takes string_form_at forms.Str (Is (Word (codes "STRING")) ∷ []) EndsForm
unfolding string_form_at
string_takes = takes_where (takes_next _ (word_takes (codes "STRING")) takes_value) (λ cut may. tt)

form_takes : (f : Form) → IsForm f → form_fits f ≡ true → Takes form_at f (of_layout (form_layout f)) EndsForm
unfolding form_at form_layout has_word
form_takes (forms.Int limits) is fits =
    takes_as (word_then (codes "INT") _ (number_limits_layout limits) refl)
    (takes_first _ (word_opens (λ bytes. bytes_eq bytes (codes "INT")) (codes "INT") refl)
    (limited_takes (codes "INT") forms.Int limits))
form_takes (forms.Hex limits) is fits =
    takes_as (word_then (codes "HEX") _ (number_limits_layout limits) refl)
    (takes_second _ (word_opens (λ bytes. bytes_eq bytes (codes "INT")) (codes "HEX") refl)
    (takes_first _ (word_opens (λ bytes. bytes_eq bytes (codes "HEX")) (codes "HEX") refl) (limited_takes (codes "HEX") forms.Hex
    limits)))
form_takes (forms.Float limits) is fits =
    takes_as (word_then (codes "FLOAT") _ (number_limits_layout limits) refl)
    (takes_second _ (word_opens (λ bytes. bytes_eq bytes (codes "INT")) (codes "FLOAT") refl)
    (takes_second _ (word_opens (λ bytes. bytes_eq bytes (codes "HEX")) (codes "FLOAT") refl)
    (takes_first _ (word_opens (λ bytes. bytes_eq bytes (codes "FLOAT")) (codes "FLOAT") refl)
    (limited_takes (codes "FLOAT") forms.Float limits))))
form_takes forms.Str is fits =
    takes_as string_form (takes_second _ (word_opens (λ bytes. bytes_eq bytes (codes "INT")) (codes "STRING") refl)
    (takes_second _ (word_opens (λ bytes. bytes_eq bytes (codes "HEX")) (codes "STRING") refl)
    (takes_second _ (word_opens (λ bytes. bytes_eq bytes (codes "FLOAT")) (codes "STRING") refl)
    (takes_first _ (word_opens (λ bytes. bytes_eq bytes (codes "STRING")) (codes "STRING") refl) string_takes))))
form_takes (forms.Enumeration texts) is fits =
    let some = some_texts texts fits in
    subst (λ (texts : List (List ℕ)). Takes form_at (forms.Enumeration texts) (of_layout (form_layout (forms.Enumeration texts)))
    EndsForm) (sym some.2)
    (takes_as (enumeration_form some.0 some.1) (takes_second _ (word_opens (λ bytes. bytes_eq bytes (codes "INT")) (codes "ENUM")
    refl)
    (takes_second _ (word_opens (λ bytes. bytes_eq bytes (codes "HEX")) (codes "ENUM") refl)
    (takes_second _ (word_opens (λ bytes. bytes_eq bytes (codes "FLOAT")) (codes "ENUM") refl)
    (takes_second _ (word_opens (λ bytes. bytes_eq bytes (codes "STRING")) (codes "ENUM") refl) (enumeration_takes some.0 some.1
    (subst (All IsText) some.2 is)))))))

semicolon_ends : Allows (Is (Mark 59) ∷ []) Anything EndsForm
unfolding begins_decimal has_mark has_number decimal_of_number is_number
semicolon_ends = allows_both (allows_stop semicolon_is_no_decimal) (allows_stop semicolon_is_no_comma)
  where
    semicolon_is_no_decimal : Opens begins_decimal false (Is (Mark 59) ∷ [])
    semicolon_is_no_decimal =
        mark_opens (λ bytes. bytes_eq bytes (45 ∷ []) || (bytes_eq bytes (43 ∷ []) || is_there (decimal_of_number false bytes))) 59
        refl

pub definition_takes : (row : AttrDef) → IsAttrDef row → Takes definition_at row (form (Definition row)) Anything
unfolding definition_at
definition_takes row is =
    takes_as (definition_form row
    ∙ append_assoc ((Is (Word (codes "BA_DEF_")) ∷ of_layout (object_layout row.object)) ++ Is (Text row.name) ∷ [])
    (of_layout (form_layout row.form)) (Is (Mark 59) ∷ [])
    ∙ append_assoc (Is (Word (codes "BA_DEF_")) ∷ of_layout (object_layout row.object)) (Is (Text row.name) ∷ [])
    (of_layout (form_layout row.form) ++ Is (Mark 59) ∷ []))
    (takes_next _ (word_takes (codes "BA_DEF_")) (takes_then _ (object_takes row.object) text_no_object
    (takes_next _ (text_takes row.name)
    (takes_then _ (form_takes row.form is.form is.fits) semicolon_ends (takes_next _ (mark_takes 59) takes_value)))))

-- ---- values

string_no_number : (bytes : List ℕ) → is_number bytes ≡ true → is_string bytes ≡ false
unfolding is_string
string_no_number bytes is = elim (cases_Bool (bytes_eq bytes (quoted (inside bytes)))) [
  | inr other ↦ rw other refl
  | inl same ↦ (
      let quotes : bytes ≡ quoted (inside bytes) = (bytes_eq-Decides bytes (quoted (inside bytes))).0 same in
      let both : true ≡ false = sym is ∙ ap is_number quotes ∙ no_digit_no_number quote (inside bytes ++ quote ∷ []) refl refl in
      absurd cc)
]

sign_no_string : (is_string (45 ∷ []) ≡ false) × (is_string (43 ∷ []) ≡ false)
unfolding is_string
sign_no_string = (refl, refl)

number_no_string : (d : Decimal) {parts : List Part} → Opens (λ t. is_string t.bytes) false (Is (Number d) ∷ parts)
number_no_string d {parts} = number_opens is_string d sign_no_string.0 sign_no_string.1 (λ bytes e. string_no_number bytes e.form)

pub given_takes : (given : AttrValue) → Takes value_at given (of_layout (value_layout given)) Anything
unfolding value_at value_layout spaced_text spaced_number blank number_layout items_of has_string
given_takes (values.Text text) = takes_first _ (text_opens is_string text (quoted_is_string text)) (takes_next _ (text_takes text)
    takes_value)
given_takes (values.Decimal number) = takes_second _ (number_no_string number) (takes_next _ (decimal_takes number) takes_value)

pub default_takes : (row : AttrDefault) → Takes default_at row (form (Default row)) Anything
unfolding default_at
default_takes row =
    takes_as (default_form row) (takes_next _ (word_takes (codes "BA_DEF_DEF_")) (takes_next _ (text_takes row.name)
    (takes_next _ (given_takes row.value) (takes_next _ (mark_takes 59) takes_value))))

given_no_target : (given : AttrValue) (parts : List Part) → Allows (of_layout (value_layout given) ++ parts) Anything NoTarget
unfolding value_layout spaced_text spaced_number blank number_layout items_of
given_no_target (values.Text text) parts = text_no_target
given_no_target (values.Decimal number) parts =
    allows_both (allows_stop (number_no_word (codes "BU_") number refl refl (no_digit_no_number 66 (codes "U_") refl refl)))
    (allows_both (allows_stop (number_no_word (codes "BO_") number refl refl (no_digit_no_number 66 (codes "O_") refl refl)))
    (allows_stop (number_no_word (codes "SG_") number refl refl (no_digit_no_number 83 (codes "G_") refl refl))))

pub attribute_takes : (row : AttrRow) → IsAttrRow row → Takes attribute_at row (form (Attribute row)) Anything
unfolding attribute_at
attribute_takes row is =
    takes_as (attribute_form row ∙ append_assoc (Is (Word (codes "BA_")) ∷ Is (Text row.name)
    ∷ of_layout (target_layout row.target)) (of_layout (value_layout row.value)) (Is (Mark 59) ∷ []))
    (takes_next _ (word_takes (codes "BA_")) (takes_next _ (text_takes row.name) (takes_then _ (target_takes row.target is.target)
    (given_no_target row.value _)
    (takes_next _ (given_takes row.value) (takes_next _ (mark_takes 59) takes_value)))))
