use Rattle.std.proofs.Common.{◌≡◌, ◌+◌, ◌-◌, ◌++◌, ◌∷◌, [], ℕ, List, length, replicate, sym, ap, ◌∙◌, append_assoc, arith}
use Rattle.std.proofs.lemmas.Grind.{replicate_next}
use Rattle.dbc_values.specs.Lexical.{space}
use Rattle.can_bits.specs.Grids.{right}
use Rattle.can_bits.proofs.grid.push_right.Goals as goal

pub loop-column-preserved : goal.loop-column-preserved
loop-column-preserved c =
    let old : List ℕ = c.args.text.now.items in
    let so_far : ℕ = c.loop-column._column - length c.args.word.now in
    let next : so_far + 1 ≡ c.loop-column._column + 1 - length c.args.word.now = omega (arith, c.loop-column.auto._column) in
    record {
      within = omega (arith, c.loop-column-test.true);
      pushed = rw (c.in_ok-push.ensures.items) (ap (λ (text : List ℕ). text ++ space ∷ []) c.loop-column.invariant.pushed
          ∙ append_assoc old (replicate so_far space) (space ∷ []) ∙ ap (λ (blanks : List ℕ). old ++ blanks)
          (sym (replicate_next so_far space)) ∙ ap (λ (n : ℕ). old ++ replicate n space) next);
    }

pub returns : goal.returns
unfolding right
returns c =
    let old : List ℕ = c.args.text.now.items in
    let word : List ℕ = c.args.word.now in
    let all : c.loop-column._column - length word ≡ 4 - length word = omega (
      arith,
      c.loop-column.invariant.within,
      c.loop-column-test.false,
    ) in
    rw (c.in_ok-extend_from_slice.ensures.items) (ap (λ (text : List ℕ). text ++ word) c.loop-column.invariant.pushed
    ∙ append_assoc old (replicate (c.loop-column._column - length word) space) word
    ∙ ap (λ (n : ℕ). old ++ (replicate n space ++ word)) all)
