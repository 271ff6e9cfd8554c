-- Marks of names: how they are made, and what they leave of signals as it was.
use Rattle.std.proofs.Common.{◌≡◌, ◌≢◌, ℕ, ◌+◌, ◌-◌, ◌*◌, ◌%◌, ◌^◌, ◌<◌, ◌≤◌, Bool, true, false, List, [], ◌∷◌}
use Rattle.std.proofs.Common.{length, take, drop, take_all, map, ◌++◌, All, get_or, set, refl, sym, ap, subst, ◌∙◌, arith}
use Rattle.std.specs.List.Sorted.{IsNonDecreasingBy}
use Rattle.std.specs.Str.{bytes_eq}
use Rattle.std.proofs.lemmas.Bool.{le-leb, lt-leb, false_from_ne_true}
use Rattle.std.proofs.lemmas.List.{get_or-map, get_or_default, length-map, take-append-le}
use Rattle.std.proofs.lemmas.List.Edits.{map_over_more}
use Rattle.std.proofs.lemmas.Slice.Eq.{bytes_eq-Decides}
use Rattle.can_references.specs.Hashes.{hashed_bytes}
use Rattle.can_references.specs.inner.SignalHashes.{hashed_word, hashed_words, hashed_name, name_hash, hash_of}
use Rattle.can_references.specs.inner.SignalRuns.{message_number, signal_of, hashed, HasHash, DifferAfter, AreSearchable}
use Rattle.can_references.specs.declared.numbered.Numbered.{Numbered}

-- ---- hashes of names

words_more : (hash : ℕ) (bytes : List ℕ) → 8 ≤ length bytes
    → hashed_words (hashed_word hash (take 8 bytes)) (drop 8 bytes) ≡ hashed_words hash bytes
unfolding hashed_words
words_more hash [] long = absurd (omega arith)
words_more hash (a ∷ []) long = absurd (omega arith)
words_more hash (a ∷ (b ∷ [])) long = absurd (omega arith)
words_more hash (a ∷ (b ∷ (c ∷ []))) long = absurd (omega arith)
words_more hash (a ∷ (b ∷ (c ∷ (d ∷ [])))) long = absurd (omega arith)
words_more hash (a ∷ (b ∷ (c ∷ (d ∷ (e ∷ []))))) long = absurd (omega arith)
words_more hash (a ∷ (b ∷ (c ∷ (d ∷ (e ∷ (f ∷ [])))))) long = absurd (omega arith)
words_more hash (a ∷ (b ∷ (c ∷ (d ∷ (e ∷ (f ∷ (g ∷ []))))))) long = absurd (omega arith)
words_more hash (a ∷ (b ∷ (c ∷ (d ∷ (e ∷ (f ∷ (g ∷ (h ∷ rest)))))))) long = refl

pub words_on : (hash next : ℕ) (bytes word after : List ℕ) → word ≡ take 8 bytes → after ≡ drop 8 bytes
    → length after + 8 ≡ length bytes → next ≡ hashed_word hash word → hashed_words next after ≡ hashed_words hash bytes
words_on hash next bytes word after front rest long is =
    ap (hashed_words next) rest ∙ ap (λ n. hashed_words n (drop 8 bytes)) (is ∙ ap (hashed_word hash) front)
    ∙ words_more hash bytes (omega (arith, long))

pub words_end : (hash : ℕ) (bytes : List ℕ) → length bytes < 8 → hash ≡ hashed_words hash bytes
unfolding hashed_words
words_end hash [] short = refl
words_end hash (a ∷ []) short = refl
words_end hash (a ∷ (b ∷ [])) short = refl
words_end hash (a ∷ (b ∷ (c ∷ []))) short = refl
words_end hash (a ∷ (b ∷ (c ∷ (d ∷ [])))) short = refl
words_end hash (a ∷ (b ∷ (c ∷ (d ∷ (e ∷ []))))) short = refl
words_end hash (a ∷ (b ∷ (c ∷ (d ∷ (e ∷ (f ∷ [])))))) short = refl
words_end hash (a ∷ (b ∷ (c ∷ (d ∷ (e ∷ (f ∷ (g ∷ []))))))) short = refl
words_end hash (a ∷ (b ∷ (c ∷ (d ∷ (e ∷ (f ∷ (g ∷ (h ∷ rest)))))))) short = absurd (omega arith)

pub of_long : (name front last : List ℕ) (words : ℕ) → length front + 8 ≡ length name → last ≡ drop (length name - 8) name
    → words ≡ hashed_words 0 name → hashed_word words last ≡ hashed_name name
unfolding hashed_name
of_long name front last words long after is =
    rw (le-leb 8 (length name) (omega (arith, long))) (ap (hashed_word words) after
    ∙ ap (λ n. hashed_word n (drop (length name - 8) name)) is)

pub of_short : (name : List ℕ) (hash : ℕ) → length name < 8 → hash ≡ hashed_bytes 0 name
    → (hash * 11400714819323198485) % 2 ^ 64 ≡ hashed_name name
unfolding hashed_name
of_short name hash short is = rw (lt-leb 8 (length name) short) (ap (λ n. (n * 11400714819323198485) % 2 ^ 64) is)

-- ---- signals that have their marks

pub same_signals : (signals : List Numbered) → map signal_of (map hashed signals) ≡ map signal_of signals
same_signals [] = refl
same_signals (signal ∷ signals) = ap (λ l. signal_of signal ∷ l) (same_signals signals)

hashes_made : (signals : List Numbered) → All (HasHash true) (map hashed signals)
hashes_made signals k d within =
    let long = length-map signals hashed in
    subst (HasHash true) (sym (get_or-map hashed signals k d d (omega (arith, long, within)))) refl

-- one more signal has its mark
pub hash_next : (signals so_far : List Numbered) (index hash : ℕ) (d : Numbered) → index < length signals
    → index < length so_far → so_far ≡ map hashed (take index signals) ++ drop index signals
    → hash ≡ name_hash (get_or so_far index d).name.now
    → set so_far index (record {
      number = (get_or so_far index d).number;
      hash = hash;
      name = (get_or so_far index d).name;
    }) ≡ map hashed (take (index + 1) signals) ++ drop (index + 1) signals
hash_next signals so_far index hash d within there is made =
    ap (λ (m : ℕ). set so_far index (record {
      number = (get_or so_far index d).number;
      hash = m;
      name = (get_or so_far index d).name;
    })) made
    ∙ map_over_more hashed signals so_far index (get_or so_far index d) within is
    (get_or_default so_far index d (get_or so_far index d) there)

-- the space after the signals stays as it is
pub written : (items now new : List Numbered) (len : ℕ) → new ≡ map hashed now → now ≡ items → length now ≡ len
    → map hashed items ≡ take len (new ++ drop (length new) items)
written items now new len is same long =
    let count : length new ≡ length now = ap length is ∙ length-map now hashed in
    sym (take-append-le len new (drop (length new) items) (omega (arith, count, long))
    ∙ take_all len new (omega (arith, count, long)) ∙ is ∙ ap (map hashed) same)

module _ (signals : List Numbered) where
  number_at : (k : ℕ) (d : Numbered) → k < length signals
      → message_number (get_or (map hashed signals) k d) ≡ message_number (get_or signals k d)
  number_at k d within = ap message_number (get_or-map hashed signals k d d within)

  in_order_too : IsNonDecreasingBy message_number signals → IsNonDecreasingBy message_number (map hashed signals)
  in_order_too up i j d le within =
      let long = length-map signals hashed in
      let first = number_at i d (omega (arith, long, le, within)) in
      let second = number_at j d (omega (arith, long, within)) in
      let below = up i j d le (omega (arith, long, within)) in
      omega (arith, first, second, below)

  differ_too : (distance : ℕ) → DifferAfter distance signals → DifferAfter distance (map hashed signals)
  differ_too distance differ k d within same =
      let long = length-map signals hashed in
      differ k d (omega (arith, long, within)) (sym (number_at k d (omega (arith, long, within)))
      ∙ same ∙ number_at (k + distance) d (omega (arith, long, within)))

  pub hashed_searchable : IsNonDecreasingBy message_number signals → DifferAfter 32 signals
      → AreSearchable true (map hashed signals)
  hashed_searchable ordered few = record {
    ordered = in_order_too ordered;
    few = differ_too 32 few;
    hashes = hashes_made signals;
  }

-- ---- names distinguished by their marks

pub other_hashes : (is_hashed : Bool) (own asked : ℕ) (name other : List ℕ) → own ≡ hash_of is_hashed other
    → asked ≡ hash_of is_hashed name → own ≢ asked → false ≡ bytes_eq name other
other_hashes is_hashed own asked name other is looked differ =
    sym (false_from_ne_true (bytes_eq name other) (λ same.
    differ (is ∙ ap (hash_of is_hashed) (sym ((bytes_eq-Decides name other).0 same)) ∙ sym looked)))
