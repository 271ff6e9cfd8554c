use Rattle.std.proofs.Common.{◌≡◌, ◌<◌, length, List, [], ◌∷◌, ◌++◌, refl, ap, sym, subst, ◌∙◌, arith, slice_index_or}
use Rattle.std.proofs.lemmas.List.{length-set, get_or_default}
use Rattle.std.proofs.Math.Seq.{map-set_same}
use Rattle.session_log.specs.declared.line.Line.{Line}
use Rattle.session_log.specs.declared.line.RedecodedLine.{RedecodedLine}
use Rattle.session_log.specs.Logs.{bytes_of, IsNumbered}
use Rattle.session_log.proofs.Exchanges.{all_but_last, last_of_all, numbered_still, one_given, all_given}
use Rattle.session_log.proofs.line.exchange.Goals as goal

pub loop-position-preserved : goal.loop-position-preserved
loop-position-preserved c =
    let lines : List Line = c.loop-position.lines.items in
    let redecoded : RedecodedLine = c.in-Some.field-0 in
    let rest : List RedecodedLine = c.pop.new.self.items in
    let split : c.loop-position.redecoded.items ≡ rest ++ redecoded ∷ [] = c.in-Some.ensures.items in
    let within = rw split at c.loop-position.invariant.within in
    let position : redecoded.position < length lines = last_of_all (λ (text : RedecodedLine). text.position < length lines) rest
    redecoded
    within in
    let found : Line = c.index_mut.result.now in
    let there : found ≡ slice_index_or lines redecoded.position found = c.index_mut.ensures.value in
    let line : Line = record { bytes = found.bytes; number = found.number; decoded = redecoded.text } in
    let same : bytes_of line ≡ bytes_of (slice_index_or lines redecoded.position line) = ap bytes_of there
    ∙ ap bytes_of (get_or_default lines redecoded.position found line position) in
    record {
      bytes = map-set_same bytes_of lines redecoded.position line line same ∙ c.loop-position.invariant.bytes;
      numbered = λ all. let before = c.loop-position.invariant.numbered all in numbered_still lines redecoded.position line position
          (subst IsNumbered (sym there) (before redecoded.position found position)) before;
      within = rw length-set (all_but_last (λ (text : RedecodedLine). text.position < length lines) rest redecoded within);
      completes = λ bus completes. one_given bus lines line rest redecoded same refl
          (rw split at (c.loop-position.invariant.completes bus completes));
    }

pub returns-clause-decoded : goal.returns-clause-decoded
returns-clause-decoded c = λ bus completes.
    all_given bus c.loop-position.lines.items c.loop-position.redecoded.items (omega (arith, c.in_default.ensures.cases))
    (c.loop-position.invariant.completes bus completes)
