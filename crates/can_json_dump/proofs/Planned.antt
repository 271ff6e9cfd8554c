-- The rows of a plan, together with the signals of its message.
use Rattle.std.proofs.Common.{◌≡◌, ℕ, zero, suc, ◌+◌, ◌<◌, List, [], ◌∷◌, ◌++◌, Some, None, length, take, map, slice_get}
use Rattle.std.proofs.Common.{option_and_then}
use Rattle.std.proofs.Common.{refl, sym, ap, ◌∙◌, arith, append-nil}
use Rattle.std.specs.List.{enumerate_from}
use Rattle.std.proofs.lemmas.List.{length-map}
use Rattle.std.proofs.lemmas.List.FromFn.{length-enumerate_from}
use Rattle.json.specs.Token.{Token}
use Rattle.can_json_texts.specs.Members.{Member}
use Rattle.can_json_texts.specs.Values.{tokens_of}
use Rattle.can_json_texts.proofs.Tokens.{members_then}
use Rattle.dbc_records.specs.Records.{Signal, Message}
use Rattle.dbc_records.specs.Databases.{Database}
use Rattle.can_entries.specs.Rows.{rows_of}
use Rattle.can_entries.specs.Walks.{walk_of}
use Rattle.can_entries.specs.Switches.{mux_parents_of}
use Rattle.can_entries.specs.declared.mux_parent.MuxParent.{MuxParent}
use Rattle.can_layout.specs.Plans.{Plan, plan_of, plan_in, plan_rows, row_of, chain_of}
use Rattle.can_layout.specs.Presence.{AreChained, chain_at}
use Rattle.can_layout.specs.declared.row.Row.{Row}
use Rattle.can_layout.proofs.Chains.{plan_chained}
use Rattle.can_json_dump.specs.Messages.{paired}

pub rows_as_many : (database : Database) (message : Message) → length (plan_of database message).rows ≡ length message.signals
unfolding plan_in
rows_as_many database message =
    let rows = rows_of message.head.number database in
    let made : ℕ × Signal → Row = λ placed. row_of rows (mux_parents_of rows message.signals) message.head.size placed.0 placed.1 in
    length-map (enumerate_from 0 message.signals) made ∙ length-enumerate_from 0 message.signals

pub rows_chained : (database : Database) (message : Message) (mux_parents : List MuxParent)
    → mux_parents ≡ mux_parents_of (rows_of message.head.number database) message.signals
    → AreChained (plan_of database message).rows mux_parents
unfolding plan_in
rows_chained database message mux_parents mux_parent =
    plan_chained (rows_of message.head.number database) message.head.size message.signals mux_parents
    (plan_of database message).rows mux_parent
    (ap (λ mux_parents. plan_rows (rows_of message.head.number database) mux_parents message.head.size message.signals) (sym
    mux_parent)
    ∙ ap (λ (mux_parents : List MuxParent). plan_rows (rows_of message.head.number database) mux_parents message.head.size
    message.signals) refl)

-- the chain of the entry at an index
pub chain_is : (rows : List Row) (mux_parents : List MuxParent) (index : ℕ) (row : Row) → AreChained rows mux_parents
    → Some row ≡ slice_get rows index → row.chain ≡ chain_of (walk_of mux_parents index)
chain_is rows mux_parents index row are here =
    ap (λ one. option_and_then (λ (row : Row). row.chain) one) here ∙ are index

module _ {A B C : Type 0} (f : A → B → C) where
  paired_at : (xs : List A) (ys : List B) (index : ℕ) (x : A) (y : B) → Some x ≡ slice_get xs index → Some y ≡ slice_get ys index
      → take (suc index) (paired f xs ys) ≡ take index (paired f xs ys) ++ f x y ∷ []
  paired_at [] ys index x y here there = absurd (let missing : Some x ≡ None = here in cc)
  paired_at (a ∷ xs) [] index x y here there = absurd (let missing : Some y ≡ None = there in cc)
  paired_at (a ∷ xs) (b ∷ ys) zero x y here there =
      let first : x ≡ a = cc in
      let second : y ≡ b = cc in
      ap (λ one. one ∷ []) (ap (λ a. f a b) (sym first) ∙ ap (f x) (sym second))
  paired_at (a ∷ xs) (b ∷ ys) (suc index) x y here there = ap (λ rest. f a b ∷ rest) (paired_at xs ys index x y here there)

  pub paired_whole : (xs : List A) (ys : List B) (count : ℕ) → length ys ≡ length xs → count ≡ length ys
      → take count (paired f xs ys) ≡ paired f xs ys
  paired_whole [] ys count same all = take_none count
    where
      take_none : (count : ℕ) → take count (paired f [] ys) ≡ []
      take_none zero = refl
      take_none (suc count) = refl
  paired_whole (x ∷ xs) [] count same all = absurd (omega (arith, same))
  paired_whole (x ∷ xs) (y ∷ ys) zero same all = absurd (omega (arith, all))
  paired_whole (x ∷ xs) (y ∷ ys) (suc count) same all =
      ap (λ rest. f x y ∷ rest) (paired_whole xs ys count (omega (arith, same)) (omega (arith, all)))

-- one member more
pub pair_written : {A B : Type 0} (f : A → B → Member) (xs : List A) (ys : List B) (index : ℕ) (x : A) (y : B)
    (old mid new : List Token)
    → new ≡ mid ++ tokens_of (f x y ∷ []) → mid ≡ old ++ tokens_of (take index (paired f xs ys)) → Some x ≡ slice_get xs index
    → Some y ≡ slice_get ys index → new ≡ old ++ tokens_of (take (index + 1) (paired f xs ys))
pair_written f xs ys index x y old mid new last so_far here there =
    members_then (take index (paired f xs ys)) (f x y ∷ []) old mid new last so_far
    ∙ ap (λ members. old ++ tokens_of members) (sym (paired_at f xs ys index x y here there))
    ∙ ap (λ count. old ++ tokens_of (take count (paired f xs ys))) (let one : suc index ≡ index + 1 = omega arith in one)
