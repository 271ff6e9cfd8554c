-- How diagnostics are found in lists.
use Rattle.std.specs.Prelude.{Bool, List, [], ◌∷◌, ◌++◌, nat_le, count_by, if◌then◌else◌}
use Rattle.std.specs.List.{list_any}
use Rattle.can_diagnostics.specs.declared.diagnostic.Diagnostic.{Diagnostic}

-- the diagnostic if the test holds
abbrev pub where_true : Bool → Diagnostic → List Diagnostic
where_true test found = if test then found ∷ [] else []

-- whether the key occurs at least twice among keys: as itself, and as that of another
abbrev pub is_shared : {X : Type 0} → (X → X → Bool) → X → List X → Bool
is_shared same key keys = nat_le 2 (count_by (same key) keys)

-- whether the key is among keys
abbrev pub occurs_in : {X : Type 0} → (X → X → Bool) → X → List X → Bool
occurs_in same key keys = list_any (same key) keys

-- what is found of each item, given the items before it
abbrev pub each_after : {X Y : Type 0} → (List X → X → List Y) → List X → List X → List Y
each_after f before [] = []
each_after f before (x ∷ later) = f before x ++ each_after f (before ++ x ∷ []) later
