-- The first message of a CAN identifier or of a parameter group, in an index.
use Rattle.std.proofs.Common.{◌≡◌, ◌==◌, ◌+◌, ◌<◌, ◌≤◌, ℕ, Bool, true, false, not, List, [], ◌∷◌, ◌++◌, length, length-append}
use Rattle.std.proofs.Common.{Option, Some, None, cond, nat_lt, position, slice_get, take, get_or, if◌then◌else◌, refl, sym, ap}
use Rattle.std.proofs.Common.{◌∙◌, arith}
use Rattle.std.specs.Option.{option_map, option_or, is_some}
use Rattle.std.specs.List.{position_or_len}
use Rattle.std.proofs.lemmas.List.{take_more, length-take-le}
use Rattle.std.proofs.lemmas.Option.{slice_get_read}
use Rattle.std.proofs.lemmas.List.Folds.{position_or_len_push}
use Rattle.dbc_records.specs.Records.{Message}
use Rattle.dbc_records.specs.Databases.{Database}
use Rattle.can_entries.specs.Groups.{group_of}
use Rattle.can_decode.proofs.Groups.{has_group}
use Rattle.can_decode.specs.Choices.{has_number, in_group, is_group, choice_at, choice_of, index_of_number}
use Rattle.can_decode.specs.inner.FirstChoices.{first_choice}
use Rattle.can_decode.specs.MessageIndexes.{AreChoices}
use Rattle.can_decode.specs.declared.message_search.Choice.{Choice}
use Rattle.std.proofs.lemmas.List.Sums.{prefix_len-le-length}

-- the index of the first of `length` items that passes, or of one more after them
abbrev first_index : ℕ → ℕ → Option ℕ
first_index index count = cond (nat_lt index count) (Some index) None

index_pushed : (index count : ℕ) (passes : Bool) → index ≤ count
    → first_index (cond (index == count) (count + cond passes 0 1) index) (count + 1) ≡ option_or (first_index index count)
    (if passes then Some count else None)
index_pushed index count passes below = grind (arith, below)

-- one more item comes after those before
pub position-push : {X : Type 0} (p : X → Bool) (xs : List X) (x : X) → position p (xs ++ x ∷ []) ≡ option_or (position p xs)
    (if p x then Some (length xs) else None)
position-push p xs x =
    ap (λ n. first_index (position_or_len p (xs ++ x ∷ [])) n) (length-append xs (x ∷ []))
    ∙ ap (λ n. first_index n (length xs + 1)) (position_or_len_push p xs x)
    ∙ index_pushed (position_or_len p xs) (length xs) (p x) (prefix_len-le-length (λ x. not (p x)) xs)

-- the choice of the one index or the other
pub either : {X Y : Type 0} (f : X → Y) (a b : Option X) → option_map f (option_or a b) ≡ option_or (option_map f a)
    (option_map f b)
either f None b = refl
either f (Some x) b = refl

-- the index in a choice
of_choice : (database : Database) (index : Option ℕ) → option_map (λ (choice : Choice). choice.index)
    (option_map (choice_at database) index) ≡ index
of_choice database None = refl
of_choice database (Some at) = refl

pub index_chosen : (database : Database) (number : ℕ) → option_map (λ (choice : Choice). choice.index) (choice_of database number)
    ≡ index_of_number database number
unfolding choice_of
index_chosen database number = of_choice database (index_of_number database number)

-- the choice of one more message, if it passes
one_more : (database : Database) (test : Message → Bool) (messages : List Message) (message : Message) (index : ℕ)
    → length messages ≡ index
    → option_map (choice_at database) (position test (messages ++ message ∷ []))
    ≡ option_or (option_map (choice_at database) (position test messages)) (if test message then Some (choice_at database index)
    else None)
one_more database test messages message index count =
    ap (option_map (choice_at database)) (position-push test messages message)
    ∙ either (choice_at database) (position test messages) (if test message then Some (length messages) else None)
    ∙ ap (option_or (option_map (choice_at database) (position test messages)))
    (elim (test message) as (λ passes. option_map (choice_at database) (if passes then Some (length messages) else None)
    ≡ (if passes then Some (choice_at database index) else None)) [
      | true ↦ ap (λ n. Some (choice_at database n)) count
      | false ↦ refl
    ])

module _ (database : Database) (index : ℕ) (message : Message) (within : index < length database.messages) (found : message
    ≡ get_or database.messages index message) where
  here : (group : Option ℕ) → group ≡ group_of message.head.number database → record { index = index; group = is_some group }
      ≡ choice_at database index
  here group is =
      let at : slice_get database.messages index ≡ Some message = slice_get_read database.messages (length database.messages) index
      message refl within found in
      rw (at, is) (ap (λ (b : Bool). record { index = index; group = b }) (has_group message.head.number database))

  -- one more message
  pub more : (messages : List Message) → messages ≡ database.messages → (group : Option ℕ)
      → group ≡ group_of message.head.number database
      → (exact grouped exact_now grouped_now : List (ℕ × Choice)) → AreChoices database (take index messages) exact grouped
      → ((other : ℕ) → first_choice other exact_now ≡ option_or (first_choice other exact) (if message.head.number == other then
      Some (record { index = index; group = is_some group }) else None))
      → ((other : ℕ) → first_choice other grouped_now ≡ option_or (first_choice other grouped) (if is_group other group then Some
      (record { index = index; group = is_some group }) else None))
      → AreChoices database (take (index + 1) messages) exact_now grouped_now
  more messages all group is exact grouped exact_now grouped_now before by_number by_group =
      let so_far : List Message = take index messages in
      let next : take (index + 1) messages ≡ so_far ++ message ∷ [] = ap (take (index + 1)) all
      ∙ take_more database.messages index message within ∙ ap (λ (m : Message). take index database.messages ++ m ∷ [])
      (sym found) ∙ ap (λ ms. take index ms ++ message ∷ []) (sym all) in
      let count : length so_far ≡ index = ap (λ ms. length (take index ms)) all ∙ length-take-le index database.messages
      (omega (arith, within)) in
      record {
        of_numbers = λ number. by_number number
            ∙ ap (λ o. option_or o (if message.head.number == number then Some (record { index = index; group = is_some group })
            else None)) (before.of_numbers number)
            ∙ ap (λ (c : Choice). option_or (option_map (choice_at database) (position (has_number number) so_far))
            (if message.head.number == number then Some c else None)) (here group is)
            ∙ sym (one_more database (has_number number) so_far message index count)
            ∙ ap (λ ms. option_map (choice_at database) (position (has_number number) ms)) (sym next);
        of_groups = λ number. by_group number
            ∙ ap (λ o. option_or o (if is_group number group then Some (record { index = index; group = is_some group }) else None))
            (before.of_groups number)
            ∙ ap (λ (c : Choice). option_or (option_map (choice_at database) (position (in_group database number) so_far))
            (if is_group number group then Some c else None)) (here group is)
            ∙ ap (λ g. option_or (option_map (choice_at database) (position (in_group database number) so_far))
            (if is_group number g then Some (choice_at database index) else None)) is
            ∙ sym (one_more database (in_group database number) so_far message index count)
            ∙ ap (λ ms. option_map (choice_at database) (position (in_group database number) ms)) (sym next);
      }
