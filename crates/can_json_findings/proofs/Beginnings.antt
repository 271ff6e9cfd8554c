-- Lines of faults: those that begin with that of the first, and one more.
use Rattle.std.proofs.Common.{◌≡◌, List, ℕ, ◌+◌, ◌<◌, ◌++◌, Some, false, length, take, get_or, refl, sym, ap, subst, ◌∙◌}
use Rattle.std.specs.List.{flat_map}
use Rattle.std.proofs.lemmas.List.{flat_map_more, take_more}
use Rattle.dbc_reader.specs.Grammar as grammar
use Rattle.dbc_faults.specs.FaultLocations.{IsFaultLocation}
use Rattle.dbc_faults.specs.Derivatives.{found_of}
use Rattle.dbc_faults.specs.declared.details.FaultDetails.{FaultDetails}
use Rattle.can_json_findings.specs.Faults.{fault_line, BeginsWithFault}

pub begins_with_fault : (text first others words : List ℕ) (details : FaultDetails)
    → IsFaultLocation grammar.text text (Some (found_of details.location)) → words ≡ first ++ others
    → first ≡ fault_line (length text) details false → BeginsWithFault text details.location.fault words
begins_with_fault text first others words details location is front =
    (details, location, refl, others, is ∙ ap (λ (line : List ℕ). line ++ others) front)

-- one more item's line after those of the items so far
pub one_more_line : {X : Type 0} (line_of : X → List ℕ) (items : List X) (i : ℕ) (item : X) (old mid new line : List ℕ)
    → i < length items → new ≡ mid ++ line → line ≡ line_of item → item ≡ get_or items i item
    → mid ≡ old ++ flat_map line_of (take i items) → new ≡ old ++ flat_map line_of (take (i + 1) items)
one_more_line line_of items i item old mid new line within pushed means is so_far =
    pushed ∙ ap (λ (text : List ℕ). text ++ line) so_far
    ∙ ap (λ (text : List ℕ). (old ++ flat_map line_of (take i items)) ++ text) (means ∙ ap line_of is)
    ∙ flat_map_more line_of old (take i items) (get_or items i item)
    ∙ ap (λ shown. old ++ flat_map line_of shown) (sym (take_more items i item within))
