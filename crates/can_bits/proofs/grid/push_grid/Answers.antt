use Rattle.std.proofs.Common.{◌≡◌, ℕ, ◌+◌, ◌++◌, ◌∷◌, [], List, sym, ap, ◌∙◌, arith}
use Rattle.std.specs.List.{flat_map, range_with_len}
use Rattle.std.proofs.lemmas.List.{flat_map_more}
use Rattle.can_bits.specs.declared.field.Field.{Field}
use Rattle.can_bits.specs.Grids.{byte_line, grid_text}
use Rattle.can_bits.specs.Cells.{cells_line}
use Rattle.can_bits.proofs.Marks.{same_line, range_more}
use Rattle.can_bits.proofs.grid.push_grid.Goals as goal

pub loop-byte-preserved : goal.loop-byte-preserved
loop-byte-preserved c =
    let fields : List Field = c.args.fields.now in
    let old : List ℕ = c.args.text.now.items in
    let byte : ℕ = c.loop-byte.byte in
    let line : cells_line c.in_ok-table.table.cells.items byte ≡ byte_line fields byte =
    same_line c.args.size fields c.in_ok-table.table.cells.items byte c.in_ok-table.ensures c.loop-byte-test.true in
    let next : range_with_len 0 (byte + 1) ≡ range_with_len 0 byte ++ byte ∷ [] = range_more 0 byte
    ∙ ap (λ (n : ℕ). range_with_len 0 byte ++ n ∷ []) (omega arith) in
    c.in_ok-push_byte_line.ensures
    ∙ ap (λ (text : List ℕ). c.loop-byte.text.items ++ text) line
    ∙ ap (λ (text : List ℕ). text ++ byte_line fields byte) c.loop-byte.invariant
    ∙ flat_map_more (byte_line fields) old (range_with_len 0 byte) byte
    ∙ ap (λ (bytes : List ℕ). old ++ flat_map (byte_line fields) bytes) (sym next)

pub returns : goal.returns
unfolding grid_text
returns c =
    let all : c.loop-byte.byte ≡ c.args.size = omega (arith, c.loop-byte-test.false, c.loop-byte.auto.byte-end) in
    c.loop-byte.invariant ∙ ap (λ (n : ℕ). c.args.text.now.items ++ flat_map (byte_line c.args.fields.now) (range_with_len 0 n)) all
