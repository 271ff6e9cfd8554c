use Rattle.std.proofs.Common.{◌≡◌, ◌++◌, [], arith}
use Rattle.std.specs.Prelude.{Some, None, slice_get, codes}
use Rattle.std.proofs.lemmas.Option.{slice_get-get_or}
use Rattle.can_json_texts.proofs.Appended.{flat_pushed}
use Rattle.can_json_texts.proofs.rows.push_tokens.Goals as goal
use Rattle.can_json_texts.proofs.rows.push_tokens.Goals.{in-Some+in_ok-push_token, in_default}

pub loop-index-preserved : goal.loop-index-preserved
loop-index-preserved c =
    let tokens = c.args.tokens.now in
    let index = c.loop-index.index in
    elim c.match-get.branch [
      | in-Some+in_ok-push_token w ↦
          rw (w.text-is) (flat_pushed (λ token. token ++ codes " ") tokens index w.in-Some.token.now _ _ _
          w.in_ok-push_token.ensures c.loop-index.invariant w.in-Some.ensures.value)
      | in_default w ↦
          let none : None ≡ slice_get tokens index = rw w.in_default.is at c.get.ensures.value in
          let some = slice_get-get_or tokens index [] (omega (arith, c.loop-index-test.true)) in
          absurd (cc (none, some))
    ]
