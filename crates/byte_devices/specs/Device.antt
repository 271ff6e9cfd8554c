-- What a call does to a device that bytes are pulled from, or put to.
use Rattle.std.specs.Prelude.{◌≡◌, ℕ, ◌+◌, ◌-◌, ◌^◌, ◌<◌, ◌≤◌, List, ◌++◌, Option, Result, MatchResult}
use Rattle.std.specs.Io.KnownBytes.{Appends, Consumes}

-- The number of failures rose by one. If it is saturated, nothing is claimed except that it is no lower.
pub record Rises (old new : ℕ) : Type 0 where
  pub no_lower : old ≤ new
  pub by_one : old < 2 ^ 64 - 1 → new ≡ old + 1

-- ---- sinks

-- the bytes written, if they are known, and how often a put has failed
pub record Written : Type 0 where
  pub bytes : Option (List ℕ)
  pub failures : ℕ

-- all of the text was written, and no put failed
pub record Wrote (old new : Written) (text : List ℕ) : Type 0 where
  pub bytes : Appends old.bytes new.bytes text
  pub failures : new.failures ≡ old.failures

-- a prefix of the text was written, and then a put failed
pub record Broke (old new : Written) (text : List ℕ) : Type 0 where
  pub front : List ℕ
  pub back : List ℕ
  pub parts : text ≡ front ++ back
  pub bytes : Appends old.bytes new.bytes front
  pub failures : Rises old.failures new.failures

-- the text was written, or a prefix of it and then a put failed
abbrev pub Prints : {X E : Type 0} → Written → Written → Result X E → List ℕ → Type 0
Prints old new result text = MatchResult result (λ _. Wrote old new text) (λ _. Broke old new text)

-- of the bytes held before and these, some were written, and the others are held
pub record Passes (old new : Written) (before bytes held : List ℕ) : Type 0 where
  pub out : List ℕ
  pub parts : before ++ bytes ≡ out ++ held
  pub wrote : Wrote old new out

-- ---- sources

-- The bytes left, if they are known; how often a pull has failed; and a number that each pull with bytes lowers.
pub record Unread : Type 0 where
  pub bytes : Option (List ℕ)
  pub failures : ℕ
  pub patience : ℕ

-- these bytes were pulled, and no pull failed
pub record Pulled (old new : Unread) (pulled : List ℕ) : Type 0 where
  pub bytes : Consumes old.bytes new.bytes pulled
  pub failures : new.failures ≡ old.failures

-- these bytes were pulled, and then a pull failed
pub record PullFailed (old new : Unread) (pulled : List ℕ) : Type 0 where
  pub bytes : Consumes old.bytes new.bytes pulled
  pub failures : Rises old.failures new.failures
