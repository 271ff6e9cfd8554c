-- One statement that tokens spell is read from them.
use Rattle.std.proofs.Common.{◌≡◌, ℕ, Bool, List, [], ◌∷◌, Result, Ok, append_assoc, refl, sym, ap, subst, ◌∙◌}
use Rattle.std.specs.Prelude.{codes}
use Rattle.std.specs.Str.{bytes_eq}
use Rattle.dbc_records.specs.Attributes.{AttrRow, IsAttrRow}
use Rattle.dbc_records.specs.Comments.{IsTarget}
use Rattle.dbc_records.specs.Records.{Signal}
use Rattle.dbc_records.specs.declared.target.Target.{Target}
use Rattle.dbc_records.specs.declared.target.Target.TheVariants as targets
use Rattle.dbc_records.specs.Layout.{Word, Mark, Text, items_of}
use Rattle.dbc_records.specs.CanonicalText.{head_layout, word_layout, table_key, table_layout, values_key, values_layout, mux_key}
use Rattle.dbc_records.specs.CanonicalText.{mux_layout, attribute_key, attribute_layout, target_layout, value_layout}
use Rattle.dbc_tokens.specs.declared.fault.ReadFault.{ReadFault}
use Rattle.dbc_reader.specs.declared.statement.Statement.{Statement}
use Rattle.dbc_reader.specs.declared.statement.Statement.TheVariants as statements
use Rattle.dbc_tokens.specs.Tokens.{Token, Cut, End}
use Rattle.dbc_reader.specs.Classes.{has_word}
use Rattle.dbc_reader.specs.Forms.{Part, Is, of_layout, ◌▸▸◌}
use Rattle.dbc_reader.specs.Spelling.{form, signal_form, form_alone, Attribute, IsStatement, SpellsStatement}
use Rattle.dbc_reader.specs.inner.Readers.{and_then, ◌>>=◌, value, starts, end_at}
use Rattle.dbc_reader.specs.inner.Parts.{begins_receiver}
use Rattle.dbc_reader.specs.inner.Attributes.{message_target_at}
use Rattle.dbc_reader.specs.inner.Databases.{message_attribute_at, standalone_statement_at, statement_at}
use Rattle.dbc_reader.proofs.Sound.Notes.{attribute_form}
use Rattle.dbc_reader.proofs.Sound.Messages.{signal_form_is}
use Rattle.dbc_read.proofs.Takes.{Takes, Anything, Opens, Stops, takes_value, takes_next, takes_last, takes_as, takes_where}
use Rattle.dbc_read.proofs.Takes.{takes_first, takes_second, opens_as}
use Rattle.dbc_read.proofs.Takes.Kinds.{word_takes, mark_takes, text_takes, id_takes}
use Rattle.dbc_read.proofs.Takes.Rows.{table_takes, values_take, mux_takes}
use Rattle.dbc_read.proofs.Takes.Notes.{word_opens, given_takes}
use Rattle.dbc_read.proofs.Takes.Messages.{head_takes, signal_takes}

-- what may be after a statement on its own
abbrev Closed : Cut → Type 0
Closed cut = Stops begins_receiver cut

opens_word : (word other : List ℕ) {passes : Bool} {parts : List Part} → bytes_eq word other ≡ passes
    → Opens (has_word other) passes (Is (Word word) ∷ parts)
unfolding has_word
opens_word word other {passes} {parts} e = word_opens (λ bytes. bytes_eq bytes other) word e

-- ---- the attribute of a message

target_take : (target : Target) (number : ℕ) → target ≡ targets.Message number → IsTarget target
    → Takes message_target_at target (of_layout (target_layout target)) Anything
unfolding message_target_at target_layout items_of
target_take target number same is =
    subst (λ (target : Target). Takes message_target_at target (of_layout (target_layout target)) Anything) (sym same)
    (takes_next _ (word_takes (codes "BO_")) (takes_next _ (id_takes number (subst (λ (target : Target). IsTarget target) same is))
    takes_value))

attribute_take : (row : AttrRow) (number : ℕ) → row.target ≡ targets.Message number → IsAttrRow row
    → Takes message_attribute_at row (form (Attribute row)) Anything
unfolding message_attribute_at
attribute_take row number same is =
    takes_as (attribute_form row ∙ append_assoc (Is (Word (codes "BA_")) ∷ Is (Text row.name)
    ∷ of_layout (target_layout row.target)) (of_layout (value_layout row.value)) (Is (Mark 59) ∷ []))
    (takes_next _ (word_takes (codes "BA_")) (takes_next _ (text_takes row.name)
    (takes_next _ (target_take row.target number same is.target)
    (takes_next _ (given_takes row.value) (takes_next _ (mark_takes 59) takes_value)))))

-- ---- each kind

signal_begins : (other : List ℕ) (signal : Signal) {passes : Bool} → bytes_eq (codes "SG_") other ≡ passes
    → Opens (has_word other) passes (signal_form signal)
signal_begins other signal {passes} e = opens_as (signal_form_is signal) (opens_word (codes "SG_") other e)

statement_takes : (statement : Statement) → IsStatement statement
    → Takes standalone_statement_at statement (form_alone statement) Closed
unfolding standalone_statement_at head_layout table_layout table_key values_layout values_key mux_layout mux_key attribute_layout
    attribute_key word_layout items_of
statement_takes (statements.Head head) is =
    takes_first _ (opens_word (codes "BO_") (codes "BO_") refl) (takes_where (takes_last _ (head_takes 0 head refl is) takes_value)
    (λ cut may. tt))
statement_takes (statements.Signal signal) is =
    takes_second _ (signal_begins (codes "BO_") signal refl) (takes_first _ (signal_begins (codes "SG_") signal refl)
    (takes_last _ (signal_takes [] signal is refl refl) takes_value))
statement_takes (statements.Table row) is =
    takes_second _ (opens_word (codes "VAL_TABLE_") (codes "BO_") refl)
    (takes_second _ (opens_word (codes "VAL_TABLE_") (codes "SG_") refl)
    (takes_first _ (opens_word (codes "VAL_TABLE_") (codes "VAL_TABLE_") refl)
    (takes_where (takes_last _ (table_takes row is) takes_value) (λ cut may. tt))))
statement_takes (statements.Values row) is =
    takes_second _ (opens_word (codes "VAL_") (codes "BO_") refl) (takes_second _ (opens_word (codes "VAL_") (codes "SG_") refl)
    (takes_second _ (opens_word (codes "VAL_") (codes "VAL_TABLE_") refl)
    (takes_first _ (opens_word (codes "VAL_") (codes "VAL_") refl) (takes_where (takes_last _ (values_take row is) takes_value)
    (λ cut may. tt)))))
statement_takes (statements.Mux row) is =
    takes_second _ (opens_word (codes "SG_MUL_VAL_") (codes "BO_") refl)
    (takes_second _ (opens_word (codes "SG_MUL_VAL_") (codes "SG_") refl)
    (takes_second _ (opens_word (codes "SG_MUL_VAL_") (codes "VAL_TABLE_") refl)
    (takes_second _ (opens_word (codes "SG_MUL_VAL_") (codes "VAL_") refl)
    (takes_first _ (opens_word (codes "SG_MUL_VAL_") (codes "SG_MUL_VAL_") refl)
    (takes_where (takes_last _ (mux_takes row is) takes_value) (λ cut may. tt))))))
statement_takes (statements.Attribute row) is =
    takes_second _ (opens_word (codes "BA_") (codes "BO_") refl) (takes_second _ (opens_word (codes "BA_") (codes "SG_") refl)
    (takes_second _ (opens_word (codes "BA_") (codes "VAL_TABLE_") refl)
    (takes_second _ (opens_word (codes "BA_") (codes "VAL_") refl) (takes_second _ (opens_word (codes "BA_") (codes "SG_MUL_VAL_")
    refl)
    (takes_where (takes_last _ (attribute_take row is.number is.target is.proper) takes_value) (λ cut may. tt))))))

end_closes : (line : ℕ) → Closed (End line)
unfolding starts
end_closes line = refl

end_read : (statement : Statement) (line : ℕ) → and_then (end_at (End line)) (λ _. value statement) ≡ Ok (statement, End line)
unfolding end_at
end_read statement line = refl

pub statement_again : (tokens : List Token) (line : ℕ) (statement : Statement) → SpellsStatement tokens statement
    → statement_at (tokens ▸▸ End line) ≡ Ok (statement, End line)
unfolding statement_at
statement_again tokens line statement spells =
    ap (λ (o : Result (Statement × Cut) ReadFault). and_then o (λ s. (end_at >>= λ _. value s)))
    ((statement_takes statement spells.proper).takes tokens (End line) spells.spelled (end_closes line))
    ∙ end_read statement line
