-- A text has one reading: a value that its tokens spell, or a first fault.
use Rattle.std.proofs.Common.{◌≡◌, ℕ, List, [], ◌∷◌, Option, Some, None, refl, sym, ap, subst, ◌∙◌, ◌⊎◌, inl, inr}
use Rattle.dbc_tokens.specs.declared.fault.ReadFault.{ReadFault}
use Rattle.dbc_tokens.specs.Tokens.{Token, Cut, End, HasTokens}
use Rattle.dbc_tokens.specs.inner.Scanner.{cut_of}
use Rattle.dbc_reader.specs.Forms.{◌▸▸◌}
use Rattle.dbc_reader.specs.Pattern.{Pattern, first_fault, nothing_seen}
use Rattle.dbc_reader.specs.Grammar as grammar
use Rattle.dbc_reader.specs.Spelling.{Spells, SpellsStatement}
use Rattle.dbc_reader.specs.Texts.{HasFirstFault}
use Rattle.dbc_read.specs.Laws.{ExactlyOne, NoSuch, OneReading, OneReadingAlone}
use Rattle.dbc_tokens.proofs.CutLaws.{cut_is, cut_unique}
use Rattle.dbc_read.proofs.Readable.{fault_or_database, one_database, fault_or_statement, one_statement}

-- ---- faults

fault_is : (pattern : Pattern) (text : List ℕ) (fault : ReadFault) → HasFirstFault pattern text fault
    → first_fault pattern nothing_seen (cut_of 1 text) ≡ Some fault
fault_is pattern text fault (cut, has, e) = ap (first_fault pattern nothing_seen) (sym (cut_unique 1 text cut has)) ∙ e

no_fault : (pattern : Pattern) (text : List ℕ) → first_fault pattern nothing_seen (cut_of 1 text) ≡ None
    → NoSuch (HasFirstFault pattern text)
no_fault pattern text none fault has = let both : None ≡ Some fault = sym none ∙ fault_is pattern text fault has in cc

one_fault : (pattern : Pattern) (text : List ℕ) (fault : ReadFault) → first_fault pattern nothing_seen (cut_of 1 text) ≡ Some fault
    → ExactlyOne (HasFirstFault pattern text)
one_fault pattern text fault e = (
  fault,
  (cut_of 1 text, cut_is 1 text, e),
  λ other has. (let both : Some other ≡ Some fault = sym (fault_is pattern text other has) ∙ e in cc),
)

-- ---- what tokens spell, whatever it is

tokens_same : (tokens others : List Token) (at end : ℕ) → (tokens ▸▸ End at) ≡ (others ▸▸ End end) → tokens ≡ others
tokens_same [] [] at end same = refl
tokens_same [] (o ∷ others) at end same = absurd cc
tokens_same (t ∷ tokens) [] at end same = absurd cc
tokens_same (t ∷ tokens) (o ∷ others) at end same =
    let first : t ≡ o = cc in
    let rest : (tokens ▸▸ End at) ≡ (others ▸▸ End end) = cc in
    rw (first, tokens_same tokens others at end rest) refl

module _ {A : Type 0} (pattern : Pattern) (Spell : List Token → A → Type 0)
    (none_where : (cut : Cut) → first_fault pattern nothing_seen cut ≡ None → (tokens : List Token) × (line : ℕ) × (a : A)
    × (cut ≡ (tokens ▸▸ End line)) × Spell tokens a)
    (where_none : (cut : Cut) → ((tokens : List Token) × (line : ℕ) × (a : A) × (cut ≡ (tokens ▸▸ End line)) × Spell tokens a)
    → first_fault pattern nothing_seen cut ≡ None)
    (alone : (tokens : List Token) (a b : A) → Spell tokens a → Spell tokens b → a ≡ b) where
  abbrev Has : List ℕ → A → Type 0
  Has text a = (tokens : List Token) × (line : ℕ) × HasTokens 1 0 text (tokens ▸▸ End line) × Spell tokens a

  same_text : (text : List ℕ) (a b : A) → Has text a → Has text b → a ≡ b
  same_text text a b (tokens, at, has, spells) (others, end, also, spell) =
      same_tokens tokens others at end (cut_unique 1 text (tokens ▸▸ End at) has ∙ sym (cut_unique 1 text (others ▸▸ End end) also))
      spells spell
    where
      same_tokens : (tokens others : List Token) (at end : ℕ) → (tokens ▸▸ End at) ≡ (others ▸▸ End end) → Spell tokens a
          → Spell others b → a ≡ b
      same_tokens tokens others at end same spells spell =
          alone tokens a b spells (subst (λ (l : List Token). Spell l b) (sym (tokens_same tokens others at end same)) spell)

  pub one_value : (text : List ℕ) → (ExactlyOne (Has text) × NoSuch (HasFirstFault pattern text))
      ⊎ (ExactlyOne (HasFirstFault pattern text) × NoSuch (Has text))
  one_value text = by_fault (first_fault pattern nothing_seen (cut_of 1 text)) refl
    where
      by_fault : (fault : Option ReadFault) → first_fault pattern nothing_seen (cut_of 1 text) ≡ fault
          → (ExactlyOne (Has text) × NoSuch (HasFirstFault pattern text)) ⊎ (ExactlyOne (HasFirstFault pattern text)
          × NoSuch (Has text))
      by_fault None e =
          let spelled = none_where (cut_of 1 text) e in
          let has : Has text spelled.2 = (spelled.0, spelled.1, subst (HasTokens 1 0 text) spelled.3 (cut_is 1 text), spelled.4) in
          inl ((spelled.2, has, λ other has_other. same_text text other spelled.2 has_other has), no_fault pattern text e)
      by_fault (Some fault) e =
          inr (
            one_fault pattern text fault e,
            λ a has. (
                let none = where_none (has.0 ▸▸ End has.1) (has.0, has.1, a, refl, has.3) in
                let both : None ≡ Some fault = sym none
                ∙ ap (first_fault pattern nothing_seen) (cut_unique 1 text (has.0 ▸▸ End has.1) has.2) ∙ e in
                cc),
          )

pub one_reading : OneReading
one_reading text = one_value grammar.text Spells (λ cut. (fault_or_database cut).0) (λ cut. (fault_or_database cut).1) one_database
    text

pub one_reading_alone : OneReadingAlone
one_reading_alone text = one_value grammar.one_statement SpellsStatement (λ cut. (fault_or_statement cut).0)
    (λ cut. (fault_or_statement cut).1) one_statement text
