-- A text is the word before its first blank and what follows that blank, in one way only.
use Rattle.std.proofs.Common.{◌≡◌, ℕ, ◌+◌, ◌==◌, Bool, true, false, not, cond, List, [], ◌∷◌, ◌++◌, length, drop}
use Rattle.std.proofs.Common.{Some, None, refl, sym, ap, ◌∙◌, one-add, take-append-drop}
use Rattle.std.specs.Prelude.{⊤}
use Rattle.std.proofs.Math.Seq.{take-append_seam, drop-append_seam}
use Rattle.std.specs.List.{prefix_len, AllByRecursion}
use Rattle.std.proofs.lemmas.Bool.{not-false, eqb-true}
use Rattle.std.proofs.lemmas.List.{append-nil}
use Rattle.dbc_values.specs.Lexical.{space}
use Rattle.can_frames.specs.Frames.{following_first}
use Rattle.session_script.specs.Words.{word_len, word_of, rest_of}

abbrev pub in_word : ℕ → Bool
in_word b = not (b == space)

-- there is no blank in it
abbrev pub IsUnbroken : List ℕ → Type 0
IsUnbroken text = AllByRecursion (λ b. in_word b ≡ true) text

pub some_same : {A : Type 0} (a b : A) → Some a ≡ Some b → a ≡ b
some_same a b is = cc

-- ---- from the word and the rest

word_len_is : (word rest : List ℕ) → IsUnbroken word → word_len (word ++ space ∷ rest) ≡ length word
word_len_is [] rest unbroken = refl
word_len_is (b ∷ word) rest unbroken = rw (unbroken.0, word_len_is word rest unbroken.1) (one-add (length word))

pub word_is : (word rest : List ℕ) → IsUnbroken word → word_of (word ++ space ∷ rest) ≡ word
word_is word rest unbroken = rw (word_len_is word rest unbroken) (take-append_seam word (space ∷ rest))

pub rest_is : (word rest : List ℕ) → IsUnbroken word → rest_of (word ++ space ∷ rest) ≡ Some rest
rest_is word rest unbroken = rw (word_len_is word rest unbroken) (ap following_first (drop-append_seam word (space ∷ rest)))

-- ---- to them

abbrev Stops : List ℕ → Type 0
Stops [] = ⊤
Stops (b ∷ text) = in_word b ≡ false

rest_stops : (text : List ℕ) → Stops (drop (word_len text) text)
rest_stops [] = tt
rest_stops (b ∷ text) =
    elim (in_word b) as (λ t. in_word b ≡ t → Stops (drop (cond t (1 + prefix_len in_word text) 0) (b ∷ text))) [
      | true ↦ λ is. rw (one-add (prefix_len in_word text)) (rest_stops text)
      | false ↦ λ is. is
    ] refl

after_blank : (text rest : List ℕ) → Stops text → following_first text ≡ Some rest → text ≡ space ∷ rest
after_blank [] rest stops is = absurd (let no : None ≡ Some rest = is in cc)
after_blank (b ∷ text) rest stops is = ap (λ (b : ℕ). b ∷ text) (eqb-true b space (not-false (b == space) stops))
    ∙ ap (λ text. space ∷ text) (some_same text rest is)

pub parts_are : (text rest : List ℕ) → rest_of text ≡ Some rest → text ≡ word_of text ++ space ∷ rest
parts_are text rest is = sym (take-append-drop (word_len text) text)
    ∙ ap (λ rest. word_of text ++ rest) (after_blank (drop (word_len text) text) rest (rest_stops text) is)

no_more : (text : List ℕ) → following_first text ≡ None → text ≡ []
no_more [] is = refl
no_more (b ∷ text) is = absurd (let no : Some text ≡ None = is in cc)

pub word_alone : (text : List ℕ) → rest_of text ≡ None → text ≡ word_of text
word_alone text is = sym (take-append-drop (word_len text) text)
    ∙ ap (λ rest. word_of text ++ rest) (no_more (drop (word_len text) text) is) ∙ append-nil (word_of text)
