-- Every keyword ends in an underscore.
use Rattle.std.proofs.Common.{◌≡◌, ℕ, ◌==◌, length, ◌++◌, true, false, List, [], ◌∷◌, refl, inl, inr, sym, ap, arith, ◌∙◌}
use Rattle.std.specs.List.{list_any, list_all}
use Rattle.std.specs.Str.{bytes_eq}
use Rattle.std.proofs.lemmas.Bool.{and_parts, both_ways, cases_Bool, eqb-true}
use Rattle.std.proofs.lemmas.Slice.Eq.{bytes_eq-Decides}
use Rattle.dbc_values.specs.Lexical.{ends_in_underscore, is_keyword, statement_words, kept_words, relation_words}

pub differs : (word other : List ℕ) → ends_in_underscore word ≡ false → ends_in_underscore other ≡ true
    → bytes_eq word other ≡ false
differs word other without with =
    elim (cases_Bool (bytes_eq word other)) [
      | inl same ↦
          absurd (both_ways (ends_in_underscore word) without
          (ap ends_in_underscore ((bytes_eq-Decides word other).0 same) ∙ with))
      | inr differ ↦ differ
    ]

-- a word that ends otherwise is none of words that all end in an underscore
pub none_of : (words : List (List ℕ)) (word : List ℕ) → list_all ends_in_underscore words ≡ true → ends_in_underscore word ≡ false
    → list_any (bytes_eq word) words ≡ false
none_of [] word all without = refl
none_of (first ∷ words) word all without =
    let parts = and_parts _ _ all in
    rw (differs word first without parts.0) (none_of words word parts.1 without)

pub no_keyword : (word : List ℕ) → ends_in_underscore word ≡ false → is_keyword word ≡ false
unfolding is_keyword
no_keyword word without = none_of (statement_words ++ (kept_words ++ relation_words)) word refl without

pub nothing_ends : (word : List ℕ) → true ≡ (length word == 0) → ends_in_underscore word ≡ false
nothing_ends [] empty = refl
nothing_ends (b ∷ word) empty = let none : length (b ∷ word) ≡ 0 = eqb-true _ _ (sym empty) in absurd (omega arith)
