use Rattle.std.proofs.Common.{◌≡◌, ◌∙◌, length, ap, refl}
use Rattle.can_layout.specs.Meters.{with_line, repeated}
use Rattle.can_decode.specs.Counting.{refused_count}
use Rattle.can_decode.proofs.Counting.{after-counts}
use Rattle.can_decode.proofs.stream.stream_counted.Goals as goal

pub returns : goal.returns
returns g c =
    let streamed = c.stream_texts-ended.ensures in
    let lines = streamed.0 in
    let made : c.swap-2.new.y ≡ repeated (length lines) with_line c.args.meter.now =
    c.swap-2.ensures.y_after ∙ after-counts _ _ _ lines streamed.1 (λ counted. counted.meter) (λ counted line. refl)
    ∙ ap (repeated (length lines) with_line) c.swap.ensures.x_after in (
      lines,
      streamed.2,
      c.count_refused.ensures
          ∙ ap (repeated (refused_count c.stream_texts-ended.result) with_line) made,
    )
