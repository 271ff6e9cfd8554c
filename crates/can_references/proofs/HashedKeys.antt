-- Keys with their hashes are distinguished as the keys are.
use Rattle.std.proofs.Common.{◌≡◌, ℕ, ◌+◌, ◌==◌, Bool, true, false, cond, ◌&&◌, ◌||◌, List, [], ◌∷◌, map, All}
use Rattle.std.proofs.Common.{refl, sym, ap, ◌∙◌, arith}
use Rattle.std.specs.Prelude.{count_by}
use Rattle.std.specs.List.{list_any}
use Rattle.std.specs.Str.{bytes_eq}
use Rattle.std.proofs.lemmas.Grind.{common_steps}
use Rattle.std.proofs.lemmas.List.Elements.{All-head, All-tail}
use Rattle.std.proofs.lemmas.List.Sums.{sum_by-cons}
use Rattle.std.proofs.lemmas.Slice.Eq.{bytes_eq-Decides}
use Rattle.std.proofs.lemmas.Bool.Decides.{Decides-eqb}
use Rattle.dbc_records.specs.declared.target.Target.{Target}
use Rattle.dbc_records.specs.declared.target.Target.TheVariants as targets
use Rattle.dbc_records.specs.EntryKeys.{same_target, same_key}
use Rattle.dbc_records.specs.declared.entry_key.EntryKey.{EntryKey}
use Rattle.dbc_records.specs.declared.entry_key.EntryKey.TheVariants as rows
use Rattle.can_references.specs.Hashes.{hashed_bytes, target_hash, entry_hash}
use Rattle.can_references.specs.SignalNames.{same_signal}

-- ---- tests that agree at all items

pub any_alike : {X Y : Type 0} (G : X → Type 0) (t : X → Bool) (p : Y → Bool) (f : X → Y) → ((x : X) → G x → t x ≡ p (f x))
    → (xs : List X) → All G xs → list_any t xs ≡ list_any p (map f xs)
any_alike G t p f agree [] all = refl
any_alike G t p f agree (x ∷ xs) all = ap (λ b. b || list_any t xs) (agree x (All-head G x xs all))
    ∙ ap (λ b. p (f x) || b) (any_alike G t p f agree xs (All-tail G x xs all))

pub count_alike : {X Y : Type 0} (G : X → Type 0) (t : X → Bool) (p : Y → Bool) (f : X → Y) → ((x : X) → G x → t x ≡ p (f x))
    → (xs : List X) → All G xs → count_by t xs ≡ count_by p (map f xs)
count_alike G t p f agree [] all = refl
count_alike G t p f agree (x ∷ xs) all = sum_by-cons (λ y. cond (t y) 1 0) x xs
    ∙ ap (λ b. cond b 1 0 + count_by t xs) (agree x (All-head G x xs all))
    ∙ ap (λ n. cond (p (f x)) 1 0 + n) (count_alike G t p f agree xs (All-tail G x xs all))
    ∙ sym (sum_by-cons (λ y. cond (p y) 1 0) (f x) (map f xs))

-- ---- hashes add nothing to the keys

same_number : (n : ℕ) → (n == n) ≡ true
same_number n = grind (arith, common_steps)

implied : (e : Bool) (n m : ℕ) → (e ≡ true → n ≡ m) → ((n == m) && e) ≡ e
implied false n m same = grind (arith, common_steps)
implied true n m same = let h : n ≡ m = same refl in grind (arith, common_steps)

-- the wanted key is n and c, which are a with its hash
pub names_alike : (n : ℕ) (c a b : List ℕ) (m : ℕ) → n ≡ hashed_bytes 0 a → c ≡ a → m ≡ hashed_bytes 0 b
    → ((n == m) && bytes_eq c b) ≡ bytes_eq a b
names_alike n c a b m asked name is =
    implied (bytes_eq c b) n m (λ same. asked ∙ ap (hashed_bytes 0) (sym name ∙ (bytes_eq-Decides c b).0 same) ∙ sym is)
    ∙ ap (λ d. bytes_eq d b) name

same_signals : (a b : ℕ × List ℕ) → same_signal a b ≡ true → hashed_bytes a.0 a.1 ≡ hashed_bytes b.0 b.1
same_signals (m, a) (n, b) same =
    let e = bytes_eq-Decides a b in let f = Decides-eqb m n in grind (arith, common_steps)

pub signals_alike : (n k i : ℕ) (c a : List ℕ) (b : ℕ × List ℕ) (m : ℕ) → n ≡ hashed_bytes i a → k ≡ i → c ≡ a
    → m ≡ hashed_bytes b.0 b.1 → ((n == m) && same_signal (k, c) b) ≡ same_signal (i, a) b
signals_alike n k i c a b m asked number name is =
    implied (same_signal (k, c) b) n m (λ same. asked ∙ ap (λ j. hashed_bytes j a) (sym number) ∙ ap (hashed_bytes k) (sym name)
    ∙ same_signals (k, c) b same ∙ sym is)
    ∙ ap (λ j. same_signal (j, c) b) number ∙ ap (λ d. same_signal (i, d) b) name

alike : (m n : ℕ) (a b : List ℕ) → m ≡ n → bytes_eq a b ≡ true → hashed_bytes m a ≡ hashed_bytes n b
alike m n a b numbers names = ap (hashed_bytes m) ((bytes_eq-Decides a b).0 names) ∙ ap (λ k. hashed_bytes k b) numbers

same_targets : (s t : Target) → same_target s t ≡ true → target_hash s ≡ target_hash t
same_targets targets.Whole t same = grind (arith, common_steps)
same_targets (targets.Node a) t same = grind (arith, common_steps, alike)
same_targets (targets.Message m) t same = grind (arith, common_steps)
same_targets (targets.Signal m a) t same = grind (arith, common_steps, alike)

pub same_rows : (a b : EntryKey) → same_key a b ≡ true → entry_hash a ≡ entry_hash b
same_rows (rows.Table a) b same = grind (arith, common_steps, alike)
same_rows (rows.Comment s) b same = grind (arith, common_steps, same_targets)
same_rows (rows.Definition o a) b same = grind (arith, common_steps, alike)
same_rows (rows.Default a) b same = grind (arith, common_steps, alike)
same_rows (rows.Attribute a s) b same = grind (arith, common_steps, alike, same_targets)
same_rows (rows.Values m a) b same = grind (arith, common_steps, alike)
same_rows (rows.Float m a) b same = grind (arith, common_steps, alike)
same_rows (rows.Mux m a) b same = grind (arith, common_steps, alike)

pub rows_alike : (n : ℕ) (a b : EntryKey) (m : ℕ) → n ≡ entry_hash a → m ≡ entry_hash b → ((n == m) && same_key a b) ≡ same_key a b
rows_alike n a b m asked is = implied (same_key a b) n m (λ same. asked ∙ same_rows a b same ∙ sym is)
