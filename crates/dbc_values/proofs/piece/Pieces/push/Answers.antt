use Rattle.std.proofs.Common.{◌≡◌, ◌++◌, ◌∷◌, [], length, rules}
use Rattle.dbc_values.proofs.Parts.{one_more_held}
use Rattle.dbc_values.proofs.piece.Pieces.push.Goals as goal

pub invariant_of-self-2 : goal.invariant_of-self-2
invariant_of-self-2 c =
    let inside = c.self.inside in
    let bytes : c.extend_from_slice.new.self.items ≡ inside.bytes.items ++ c.args.piece.now = search rules in
    let ends : c.push_reserved.new.self.items ≡ inside.ends.items ++ length c.extend_from_slice.new.self.items ∷ [] =
    search rules in
    one_more_held inside.ends.items inside.bytes.items c.args.piece.now _ _ c.self.invariant c.requires bytes ends

pub returns-clause-valid : goal.returns-clause-valid
returns-clause-valid c =
    let inside = c.self.inside in
    let bytes : c.extend_from_slice.new.self.items ≡ inside.bytes.items ++ c.args.piece.now = search rules in
    let ends : c.push_reserved.new.self.items ≡ inside.ends.items ++ length c.extend_from_slice.new.self.items ∷ [] =
    search rules in
    (one_more_held inside.ends.items inside.bytes.items c.args.piece.now _ _ c.self.invariant c.requires bytes ends).pieces
