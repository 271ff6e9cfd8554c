-- The tokens of a database's canonical text spell its statements, kind by kind.
pub mod Statements
pub mod Databases
use Rattle.std.proofs.Common.{◌≡◌, ℕ, Bool, true, false, List, [], ◌∷◌, ◌++◌, append-nil, refl, sym, ap, subst, ◌∙◌, inl, inr}
use Rattle.std.specs.Prelude.{All}
use Rattle.std.specs.List.{flat_map}
use Rattle.std.proofs.lemmas.List.Concat.{flat_map-append}
use Rattle.std.proofs.lemmas.List.Elements.{All-head, All-tail}
use Rattle.dbc_values.specs.Decimals.{Decimal, IsDecimal, SpellsDecimal}
use Rattle.dbc_records.specs.Layout.{Item, Mark, Number, Space, Tab, LineEnd, Is, Layout, item_of, items_of}
use Rattle.dbc_tokens.specs.Tokens.{Token}
use Rattle.dbc_reader.specs.Forms.{Part, Is as Shown, Perhaps, Unsigned, IsOne, IsSign, SaysPart, Spelled, of_layout}
use Rattle.dbc_reader.proofs.Sound.{spelled_both}
use Rattle.dbc_read.proofs.Items.{Lexeme, lexemes, HaveLexemes, Printed, IsItem, all_lexemes, Shows}
use Rattle.dbc_read.proofs.Apart.{AreItems}

-- ---- tokens of some lexemes and of others after them

pub record Apart (xs ys : List Lexeme) (tokens : List Token) : Type 0 where
  pub front : List Token
  pub rest : List Token
  pub parts : tokens ≡ front ++ rest
  pub first : HaveLexemes xs front
  pub second : HaveLexemes ys rest

pub apart : (xs ys : List Lexeme) (tokens : List Token) → HaveLexemes (xs ++ ys) tokens → Apart xs ys tokens
apart [] ys tokens h = record { front = []; rest = tokens; parts = refl; first = refl; second = h }
apart (x ∷ xs) ys [] h = elim h [ ]
apart (x ∷ xs) ys (t ∷ tokens) h =
    let below = apart xs ys tokens h.2 in
    record {
      front = t ∷ below.front;
      rest = below.rest;
      parts = ap (λ (l : List Token). t ∷ l) below.parts;
      first = (h.0, h.1, below.first);
      second = below.second;
    }

lexemes_both : (xs ys : Layout) → all_lexemes (xs ++ ys) ≡ all_lexemes xs ++ all_lexemes ys
unfolding items_of
lexemes_both xs ys = ap (flat_map lexemes) (flat_map-append item_of xs ys) ∙ flat_map-append lexemes (flat_map item_of xs)
    (flat_map item_of ys)

-- ---- layouts, one after the other

pub shows_both : {xs ys : Layout} {ps qs : List Part} → Shows xs ps → Shows ys qs → Shows (xs ++ ys) (ps ++ qs)
shows_both {xs} {ys} {ps} {qs} h k = record {
  shows = λ tokens have. (
      let both = apart (all_lexemes xs) (all_lexemes ys) tokens (subst (λ (l : List Lexeme). HaveLexemes l tokens)
      (lexemes_both xs ys) have) in
      subst (λ (t : List Token). Spelled (ps ++ qs) t) (sym both.parts) (spelled_both ps qs both.front both.rest
      (h.shows both.front both.first) (k.shows both.rest both.second)));
}

pub shows_none : Shows [] []
unfolding items_of
shows_none = record { shows = λ tokens have. have }

pub shows_as : {xs ys : Layout} {ps qs : List Part} → xs ≡ ys → qs ≡ ps → Shows ys ps → Shows xs qs
shows_as {xs} {ys} {ps} {qs} same parts h = subst (λ (l : Layout). Shows l qs) (sym same) (subst (λ (p : List Part). Shows ys p)
    (sym parts) h)

pub shows_each : {X : Type 0} (P : X → Type 0) {f : X → Layout} {g : X → List Part} → ((x : X) → P x → Shows (f x) (g x))
    → (xs : List X) → All P xs → Shows (flat_map f xs) (flat_map g xs)
shows_each P {f} {g} each [] all = shows_none
shows_each P {f} {g} each (x ∷ xs) all = shows_both (each x (All-head P x xs all)) (shows_each P each xs (All-tail P x xs all))

-- a blank shows nothing
pub shows_space : Shows (Space ∷ []) []
unfolding items_of
shows_space = record { shows = λ tokens have. have }

pub shows_tab : Shows (Tab ∷ []) []
unfolding items_of
shows_tab = record { shows = λ tokens have. have }

pub shows_end : Shows (LineEnd ∷ []) []
unfolding items_of
shows_end = record { shows = λ tokens have. have }

-- ---- items

lexemes_alone : (item : Item) → all_lexemes (Is item ∷ []) ≡ lexemes item
unfolding items_of
lexemes_alone item = append-nil (lexemes item)

-- a part that the tokens of an item spell
pub shows_part : (item : Item) (part : Part) → ((tokens : List Token) → HaveLexemes (lexemes item) tokens → SaysPart part tokens)
    → Shows (Is item ∷ []) (part ∷ [])
shows_part item part means = record {
  shows = λ tokens have. (
    tokens,
    [],
    sym (append-nil tokens),
    means tokens (subst (λ (l : List Lexeme). HaveLexemes l tokens) (lexemes_alone item) have),
    refl,
  );
}

module _ (printed : (item : Item) → IsItem item → Printed item) where
  pub shows_item : (item : Item) → IsItem item → Shows (Is item ∷ []) (Shown item ∷ [])
  shows_item item is = shows_part item (Shown item) (printed item is).means

  pub shows_perhaps : (mark : ℕ) → IsItem (Mark mark) → Shows (Is (Mark mark) ∷ []) (Perhaps mark ∷ [])
  shows_perhaps mark is = shows_part (Mark mark) (Perhaps mark) (λ tokens have. inr ((printed (Mark mark) is).means tokens have))

  -- a number that isn't negative is printed without a sign
  pub shows_unsigned : (d : Decimal) → IsDecimal d → d.negative ≡ false → Shows (Is (Number d) ∷ []) (Unsigned d ∷ [])
  shows_unsigned d is positive = shows_part (Number d) (Unsigned d) unsigned
    where
      from_sign : (t : Token) (negative : Bool) (sign number : List Token) → t ∷ [] ≡ sign ++ number → IsSign negative sign
          → IsOne (λ bytes. SpellsDecimal negative bytes d) number → IsOne (λ bytes. SpellsDecimal false bytes d) (t ∷ [])
      from_sign t false sign number same (inl none) one = subst (λ (l : List Token). IsOne (λ bytes. SpellsDecimal false bytes d) l)
          (sym (same ∙ ap (λ (s : List Token). s ++ number) none)) one
      from_sign t false sign number same (inr (s, is_sign, plus)) (n, is_number, spells) =
          absurd (two t s n (same ∙ ap (λ (l : List Token). l ++ number) is_sign ∙ ap (λ (l : List Token). s ∷ l) is_number))
        where
          two : (t s n : Token) → t ∷ [] ≡ s ∷ n ∷ [] → ⊥
          two t s n same = absurd cc
      from_sign t true sign number same (s, is_sign, minus) (n, is_number, spells) =
          absurd (two t s n (same ∙ ap (λ (l : List Token). l ++ number) is_sign ∙ ap (λ (l : List Token). s ∷ l) is_number))
        where
          two : (t s n : Token) → t ∷ [] ≡ s ∷ n ∷ [] → ⊥
          two t s n same = absurd cc

      one_token : (tokens : List Token) → HaveLexemes (lexemes (Number d)) tokens → (t : Token) × (tokens ≡ t ∷ [])
      one_token [] have = elim (subst (λ (b : Bool). HaveLexemes (lexemes (Number (record d { negative = b }))) []) positive
          have) [ ]
      one_token (t ∷ tokens) have = (
        t,
        ap (λ (l : List Token). t ∷ l) (subst (λ (b : Bool). HaveLexemes (lexemes (Number (record d { negative = b })))
            (t ∷ tokens)) positive have).2,
      )

      unsigned : (tokens : List Token) → HaveLexemes (lexemes (Number d)) tokens → SaysPart (Unsigned d) tokens
      unsigned tokens have =
          let one = one_token tokens have in
          let means = (printed (Number d) is).means tokens have in
          subst (λ (l : List Token). IsOne (λ bytes. SpellsDecimal false bytes d) l) (sym one.1)
          (from_sign one.0 means.0 means.1 means.2 (sym one.1 ∙ means.3) means.4 means.5)

  -- all items of a layout, as they are
  pub shows_layout : (layout : Layout) → AreItems layout → Shows layout (of_layout layout)
  unfolding items_of
  shows_layout [] are = shows_none
  shows_layout (Space ∷ layout) are = shows_both shows_space (shows_layout layout are)
  shows_layout (Tab ∷ layout) are = shows_both shows_tab (shows_layout layout are)
  shows_layout (LineEnd ∷ layout) are = shows_both shows_end (shows_layout layout are)
  shows_layout (Is item ∷ layout) are = shows_both (shows_item item are.0) (shows_layout layout are.1)
