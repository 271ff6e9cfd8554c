-- The tokens of each statement's layout spell the statement's form.
use Rattle.std.proofs.Common.{◌≡◌, ℕ, Bool, true, false, not, List, [], ◌∷◌, ◌++◌, Option, Some, None, length, append_assoc}
use Rattle.std.proofs.Common.{append-nil, refl, sym, ap, ◌∙◌, arith}
use Rattle.std.specs.Prelude.{All, IfSome}
use Rattle.std.specs.List.{list_all}
use Rattle.std.proofs.lemmas.Bool.{and_parts}
use Rattle.std.proofs.lemmas.List.Elements.{All-head, All-tail}
use Rattle.dbc_records.specs.Databases.{IsBitTiming, timing_fits}
use Rattle.dbc_values.specs.Decimals.{Decimal, IsDecimal}
use Rattle.dbc_values.specs.Names.{IsName}
use Rattle.dbc_records.specs.Records.{Signal, IsSignal, Message, IsMessage, FloatRow, IsFloatRow}
use Rattle.dbc_records.specs.Layout.{Item, Mark, Name, Whole, Layout}
use Rattle.dbc_records.specs.CanonicalText.{blank, number_layout, spaced_number, spaced_mark, spaced_name, line_end, statement_end}
use Rattle.dbc_records.specs.CanonicalText.{timing_numbers, perhaps_numbers, timing_title, timing_layout, signal_name_layout}
use Rattle.dbc_records.specs.CanonicalText.{tag_layout, bit_field_layout, scale_layout, limits_layout, spaced_text}
use Rattle.dbc_records.specs.CanonicalText.{further_receiver}
use Rattle.dbc_records.specs.CanonicalText.{receivers_layout, signal_layout, head_layout, message_layout, float_key, float_kind}
use Rattle.dbc_records.specs.CanonicalText.{float_layout}
use Rattle.dbc_reader.specs.Forms.{Is as Shown, Perhaps, Unsigned, of_layout}
use Rattle.dbc_reader.specs.Spelling.{form, Timing, OfMessage, Float, receivers_form, signal_form}
use Rattle.dbc_reader.proofs.Sound.Databases.{three_numbers}
use Rattle.dbc_read.proofs.Items.{IsItem, Printed, Shows}
use Rattle.dbc_read.proofs.Apart.Statements.{kind_small, float_key_part, head_neat, signal_front_items, timing_title_neat}
use Rattle.dbc_read.proofs.Shown.{shows_both, shows_none, shows_as, shows_each, shows_space, shows_end, shows_item, shows_perhaps}
use Rattle.dbc_read.proofs.Shown.{shows_unsigned, shows_layout}

module _ (printed : (item : Item) → IsItem item → Printed item) where
  -- ---- bit timing

  spaced_unsigned : (d : Decimal) → IsDecimal d → d.negative ≡ false → Shows (spaced_number d) (Unsigned d ∷ [])
  unfolding spaced_number blank number_layout
  spaced_unsigned d is positive = shows_both shows_space (shows_unsigned printed d is positive)

  mark_shown : (mark : ℕ) → IsItem (Mark mark) → Shows (spaced_mark mark) (Shown (Mark mark) ∷ [])
  unfolding spaced_mark
  mark_shown mark is = shows_both shows_space (shows_item printed (Mark mark) is)

  end_shown : Shows line_end []
  unfolding line_end
  end_shown = shows_end

  is_positive : (b : Bool) → not b ≡ true → b ≡ false
  is_positive true e = absurd cc
  is_positive false e = refl

  pub timing_shown : (timing : Option (List Decimal)) → IfSome timing IsBitTiming → timing_fits timing ≡ true
      → Shows (timing_layout timing) (form (Timing (three_numbers timing)))
  unfolding timing_layout perhaps_numbers timing_numbers
  timing_shown None is fits = shows_as refl (sym (append-nil (of_layout timing_title)))
      (shows_both (shows_layout printed timing_title timing_title_neat.items) end_shown)
  timing_shown (Some []) is fits = absurd cc
  timing_shown (Some (a ∷ [])) is fits = let three : length (a ∷ []) ≡ 3 = is.three in absurd (omega (arith, three))
  timing_shown (Some (a ∷ b ∷ [])) is fits = let three : length (a ∷ b ∷ []) ≡ 3 = is.three in absurd (omega (arith, three))
  timing_shown (Some (a ∷ b ∷ c ∷ [])) is fits =
      let one = and_parts (not a.negative) (list_all (λ (d : Decimal). not d.negative) (b ∷ c ∷ [])) fits in
      let two = and_parts (not b.negative) (list_all (λ (d : Decimal). not d.negative) (c ∷ [])) one.1 in
      let three = and_parts (not c.negative) true two.1 in
      let following = All-tail IsDecimal a (b ∷ c ∷ []) is.numbers in
      shows_both (shows_layout printed timing_title timing_title_neat.items)
      (shows_both (shows_both (spaced_unsigned a (All-head IsDecimal a (b ∷ c ∷ []) is.numbers) (is_positive a.negative one.0))
      (shows_both (mark_shown 58 refl)
      (shows_both (spaced_unsigned b (All-head IsDecimal b (c ∷ []) following) (is_positive b.negative two.0))
      (shows_both (mark_shown 44 refl)
      (spaced_unsigned c (All-head IsDecimal c [] (All-tail IsDecimal b (c ∷ []) following)) (is_positive c.negative three.0))))))
      end_shown)
  timing_shown (Some (a ∷ b ∷ c ∷ d ∷ more)) is fits = let three : length (a ∷ b ∷ c ∷ d ∷ more) ≡ 3 = is.three in
      absurd (omega (arith, three))

  -- ---- float types

  pub float_shown : (row : FloatRow) → IsFloatRow row → Shows (float_layout row) (form (Float row))
  unfolding float_layout float_kind statement_end
  float_shown row is =
      shows_both (shows_layout printed (float_key row) (float_key_part row is).items)
      (shows_both (shows_both shows_space (shows_both (shows_perhaps printed 58 refl)
      (shows_both shows_space (shows_item printed (Whole row.kind) (kind_small row.kind is.fits)))))
      (shows_both (shows_item printed (Mark 59) refl) shows_end))

  -- ---- messages and signals

  receiver_shown : (name : List ℕ) → IsName name → Shows (further_receiver name) (Perhaps 44 ∷ Shown (Name name) ∷ [])
  unfolding further_receiver
  receiver_shown name is = shows_both (shows_perhaps printed 44 refl) (shows_item printed (Name name) is)

  receivers_shown : (names : List (List ℕ)) → All IsName names → Shows (receivers_layout names) (receivers_form names)
  unfolding receivers_layout spaced_name
  receivers_shown [] are = shows_none
  receivers_shown (name ∷ names) are =
      shows_both (shows_both shows_space (shows_item printed (Name name) (All-head IsName name names are)))
      (shows_each IsName receiver_shown names (All-tail IsName name names are))

  six : (a b c d e f g : Layout) → a ++ (b ++ (c ++ (d ++ (e ++ (f ++ g))))) ≡ (a ++ (b ++ (c ++ (d ++ (e ++ f))))) ++ g
  six a b c d e f g =
      sym (append_assoc a (b ++ (c ++ (d ++ (e ++ f)))) g ∙ ap (λ (l : Layout). a ++ l) (append_assoc b (c ++ (d ++ (e ++ f))) g
      ∙ ap (λ (l : Layout). b ++ l) (append_assoc c (d ++ (e ++ f)) g
      ∙ ap (λ (l : Layout). c ++ l) (append_assoc d (e ++ f) g ∙ ap (λ (l : Layout). d ++ l) (append_assoc e f g)))))

  pub signal_shown : (s : Signal) → IsSignal s → Shows (signal_layout s) (signal_form s)
  unfolding signal_layout
  signal_shown s is =
      shows_as (six (signal_name_layout s) (tag_layout s.tag) (bit_field_layout s) (scale_layout s) (limits_layout s)
      (spaced_text s.unit) (receivers_layout s.receivers ++ line_end)) refl
      (shows_both (shows_layout printed (signal_name_layout s
      ++ (tag_layout s.tag ++ (bit_field_layout s ++ (scale_layout s ++ (limits_layout s ++ spaced_text s.unit)))))
      (signal_front_items s is))
      (shows_as refl (sym (append-nil (receivers_form s.receivers))) (shows_both (receivers_shown s.receivers is.receivers)
      end_shown)))

  pub message_shown : (message : Message) → IsMessage message → Shows (message_layout message) (form (OfMessage message))
  unfolding message_layout
  message_shown message is = shows_both (shows_layout printed (head_layout message.head) (head_neat message.head is.head).items)
      (shows_each IsSignal signal_shown message.signals is.signals)
