-- The words of a line, and the blanks between them.
use Rattle.std.proofs.Common.{◌≡◌, ℕ, ◌<◌, ◌==◌, ◌&&◌, Bool, true, false, not, true≢false, cond, List, [], ◌∷◌, ◌++◌, length, take}
use Rattle.std.proofs.Common.{drop, Some, None, refl, sym, ap, subst, ◌∙◌, arith}
use Rattle.std.specs.List.{prefix_len, AllByRecursion}
use Rattle.std.proofs.lemmas.Bool.{and_parts, and_from, not-true, not-false}
use Rattle.can_frames.specs.LogLines.{is_log_blank, first_word, after_first_word, is_stamp, frame_word}
use Rattle.can_frames.specs.LogGrammar.{HasNoBlank, IsWord, AreBlanks, IsFollowingWord}
use Rattle.can_frames.proofs.Runs.{all_since, Stops, front_passes, rest_stops, front_and_rest, front_is, rest_is}

abbrev not_blank : ℕ → Bool
not_blank b = not (is_log_blank b)

-- bytes are a word, which can be empty, blanks, and what is after these
pub record HeadWord (bytes word after : List ℕ) : Type 0 where
  pub blanks : List ℕ
  pub parts : bytes ≡ word ++ (blanks ++ after)
  pub unbroken : HasNoBlank word
  pub blank : AllByRecursion (λ b. is_log_blank b ≡ true) blanks
  pub ends : Stops not_blank (blanks ++ after)
  pub begins : Stops is_log_blank after

pub head_word : (bytes : List ℕ) → HeadWord bytes (first_word bytes) (after_first_word bytes)
head_word bytes =
    let rest : List ℕ = drop (prefix_len not_blank bytes) bytes in
    let after : rest ≡ take (prefix_len is_log_blank rest) rest ++ drop (prefix_len is_log_blank rest) rest =
    front_and_rest is_log_blank rest in
    record {
      blanks = take (prefix_len is_log_blank rest) rest;
      parts = front_and_rest not_blank bytes ∙ ap (λ rest. first_word bytes ++ rest) after;
      unbroken = all_since (λ b is. not-true (is_log_blank b) is) (first_word bytes) (front_passes not_blank bytes);
      blank = front_passes is_log_blank rest;
      ends = subst (Stops not_blank) after (rest_stops not_blank bytes);
      begins = rest_stops is_log_blank rest;
    }

-- a word, blanks and a rest are the first word and what is after it
pub first_word_is : (word rest : List ℕ) → HasNoBlank word → Stops not_blank rest → first_word (word ++ rest) ≡ word
first_word_is word rest unbroken ends = front_is not_blank word rest (all_since (λ b is. ap not is) word unbroken) ends

pub after_first_word_is : (word blanks after : List ℕ) → HasNoBlank word → AllByRecursion (λ b. is_log_blank b ≡ true) blanks
    → Stops not_blank (blanks ++ after) → Stops is_log_blank after → after_first_word (word ++ (blanks ++ after)) ≡ after
after_first_word_is word blanks after unbroken blank ends begins =
    let rest_of : drop (prefix_len not_blank (word ++ (blanks ++ after))) (word ++ (blanks ++ after)) ≡ blanks ++ after =
    rest_is not_blank word (blanks ++ after) (all_since (λ b is. ap not is) word unbroken) ends in
    ap (λ rest. drop (prefix_len is_log_blank rest) rest) rest_of ∙ rest_is is_log_blank blanks after blank begins

-- ---- where blanks are

pub some_blanks : (blanks after : List ℕ) → Stops not_blank (blanks ++ after) → Stops is_log_blank after → 0 < length after
    → 0 < length blanks
some_blanks [] [] ends begins some = some
some_blanks [] (b ∷ after) ends begins some = absurd (true≢false (sym (not-false (is_log_blank b) ends) ∙ begins))
some_blanks (b ∷ blanks) after ends begins some = omega arith

pub blanks_end : (blanks after : List ℕ) → AreBlanks blanks → Stops not_blank (blanks ++ after)
blanks_end [] after are = let no : ⊥ = omega (arith, are.some) in absurd no
blanks_end (b ∷ blanks) after are = ap not are.blank.0

pub word_begins : (word rest : List ℕ) → IsWord word → Stops is_log_blank (word ++ rest)
word_begins [] rest is = let no : ⊥ = omega (arith, is.some) in absurd no
word_begins (b ∷ word) rest is = is.unbroken.0

pub after_ends : (after : List ℕ) → IsFollowingWord after → Stops not_blank after
after_ends [] is = tt
after_ends (b ∷ after) is = ap not is

pub is_after : (rest : List ℕ) → Stops not_blank rest → IsFollowingWord rest
is_after [] ends = tt
is_after (b ∷ rest) ends = not-false (is_log_blank b) ends

pub some_in : (word rest : List ℕ) → 0 < length word → 0 < length (word ++ rest)
some_in [] rest some = let no : ⊥ = omega (arith, some) in absurd no
some_in (b ∷ word) rest some = omega arith

-- ---- the words of a line

-- the line has a stamp, an interface and this third word, which can be empty
pub record HasWords (body word : List ℕ) : Type 0 where
  pub stamp_is : is_stamp (first_word body) ≡ true
  pub interface_is : 0 < length (first_word (after_first_word body))
  pub word_is : first_word (after_first_word (after_first_word body)) ≡ word

some_length : (text : List ℕ) → not (length text == 0) ≡ true → 0 < length text
some_length [] is = absurd (true≢false (sym is))
some_length (b ∷ text) is = omega arith

some_test : (text : List ℕ) → 0 < length text → not (length text == 0) ≡ true
some_test [] some = let no : ⊥ = omega (arith, some) in absurd no
some_test (b ∷ text) some = grind arith

has_words_by : (body word : List ℕ) (test : Bool) → is_stamp (first_word body) && not (length (first_word (after_first_word body))
    == 0) ≡ test
    → cond test (Some (first_word (after_first_word (after_first_word body)))) None ≡ Some word → HasWords body word
has_words_by body word true is found =
    let both = and_parts (is_stamp (first_word body)) (not (length (first_word (after_first_word body)) == 0)) is in
    record {
      stamp_is = both.0;
      interface_is = some_length (first_word (after_first_word body)) both.1;
      word_is = let same : Some (first_word (after_first_word (after_first_word body))) ≡ Some word = found in cc;
    }
has_words_by body word false is found = absurd (let no : None ≡ Some word = found in cc)

pub has_words : (body word : List ℕ) → frame_word body ≡ Some word → HasWords body word
unfolding frame_word
has_words body word found = has_words_by body word (is_stamp (first_word body) && not (length (first_word (after_first_word body))
    == 0)) refl found

pub frame_word_is : (body word : List ℕ) → HasWords body word → frame_word body ≡ Some word
unfolding frame_word
frame_word_is body word has =
    let test : is_stamp (first_word body) && not (length (first_word (after_first_word body)) == 0) ≡ true =
    and_from (is_stamp (first_word body)) (not (length (first_word (after_first_word body)) == 0)) has.stamp_is
    (some_test (first_word (after_first_word body)) has.interface_is) in
    rw (test, has.word_is) refl
