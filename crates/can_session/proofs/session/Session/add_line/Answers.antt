use Rattle.std.proofs.Common.{◌≡◌, ◌<◌, ◌≤◌, ◌+◌, false, List, [], ◌∷◌, ◌++◌, Ok, length, length-append, map, drop, refl, sym, ap}
use Rattle.std.proofs.Common.{◌∙◌, arith}
use Rattle.std.proofs.lemmas.List.{map_push, length-map, length-drop, drop-map}
use Rattle.std.proofs.lemmas.List.Elements.{All-push, All-drop}
use Rattle.can_decode.specs.DecodedLines.{Bus}
use Rattle.session_log.specs.declared.line.Line.{Line}
use Rattle.session_log.specs.Logs.{bytes_of, IsDecoded}
use Rattle.session_kept_lines.specs.Keeping.{most_kept, is_full}
use Rattle.can_session.proofs.Keeping.{one_goes, open_with_line}
use Rattle.can_session.proofs.session.Session.add_line.Goals as goal

pub invariant_of-self-then-len-most : goal.invariant_of-self-then-len-most
invariant_of-self-then-len-most c =
    let log : List Line = c.self.inside.log in
    let bus : Bus = record { database = c.self.inside.shown; short = c.self.inside.options.short } in
    let all = c.in_ok-push.ensures.ok in
    let left : c.drop_first.new.self ≡ drop 1 (log ++ c.in_ok-made.made ∷ []) = c.drop_first.ensures ∙ ap (drop 1) all in
    rw left record {
      decoded = All-drop (IsDecoded bus) 1 (log ++ c.in_ok-made.made ∷ []) (All-push (IsDecoded bus) log c.in_ok-made.made
          c.self.invariant.decoded c.in_ok-made.ensures.decoded);
      few = omega (
        arith,
        c.self.invariant.few,
        length-drop 1 (log ++ c.in_ok-made.made ∷ []),
        length-append log (c.in_ok-made.made ∷ []),
      );
    }

pub invariant_of-self-else-len-most : goal.invariant_of-self-else-len-most
invariant_of-self-else-len-most c =
    let log : List Line = c.self.inside.log in
    let bus : Bus = record { database = c.self.inside.shown; short = c.self.inside.options.short } in
    let all = c.in_ok-push.ensures.ok in
    record {
      decoded = rw all (All-push (IsDecoded bus) log c.in_ok-made.made c.self.invariant.decoded c.in_ok-made.ensures.decoded);
      few = omega (arith, c.if-len-most.false, c.len-2.ensures, c.most.ensures);
    }

pub returns-then-len-most-clause-step : goal.returns-then-len-most-clause-step
returns-then-len-most-clause-step c =
    let keep = c.self.inside.options.keep in
    let log : List Line = c.self.inside.log in
    let lines = map bytes_of log in
    let line = c.args.line.now in
    let all = c.in_ok-push.ensures.ok in
    let many = length-map log bytes_of in
    let space : is_full keep (length lines) ≡ false = ap (is_full keep) (many ∙ sym c.len.ensures) ∙ sym c.is_full.ensures
    ∙ c.if-is_full.false in
    let over : most_kept keep < length lines + 1 = omega (
      arith,
      many,
      c.if-len-most.true,
      c.len-2.ensures,
      c.most.ensures,
      ap length all,
      length-append log (c.in_ok-made.made ∷ []),
    ) in
    let few : length lines ≤ most_kept keep = omega (arith, many, c.self.invariant.few) in
    let left : map bytes_of c.drop_first.new.self ≡ drop 1 (lines ++ line ∷ []) =
    ap (map bytes_of) (c.drop_first.ensures ∙ ap (drop 1) all) ∙ sym (drop-map bytes_of 1 (log ++ c.in_ok-made.made ∷ []))
    ∙ ap (drop 1) (map_push bytes_of log c.in_ok-made.made ∙ ap (λ bytes. lines ++ bytes ∷ []) c.in_ok-made.ensures.bytes) in
    rw (← c.self.view_is) (
      open_with_line keep lines line space c.if-line-gt-MAX_LINE_SIZE.false
          ∙ ap Ok (one_goes keep lines line few space over ∙ sym left),
      refl,
      refl,
    )
