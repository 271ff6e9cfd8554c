use Rattle.std.proofs.Common.{ap, sym, ◌∙◌, arith}
use Rattle.std.proofs.lemmas.Simd.{leading_from_mask_l, trailing_mask_l}
use lib.Count.{count_trailing_zeros}
use Rattle.can_frames.specs.LogLines.{is_log_blank}
use Rattle.can_frames.proofs.Words.{blank_mask}
use Rattle.can_frames.proofs.line.run_len.Goals as goal

pub returns-then-mask-eq0 : goal.returns-then-mask-eq0
returns-then-mask-eq0 c =
    let bytes = c.args.bytes.now in
    sym (leading_from_mask_l is_log_blank bytes (sym (blank_mask bytes c.requires) ∙ c.if-mask-eq0.true) ∙ c.requires)

pub returns-else-mask-eq0 : goal.returns-else-mask-eq0
returns-else-mask-eq0 c =
    let bytes = c.args.bytes.now in
    let mask = blank_mask bytes c.requires in
    ap (count_trailing_zeros 64) mask
    ∙ trailing_mask_l is_log_blank 64 bytes (omega (arith, c.requires)) (omega (arith, mask, c.if-mask-eq0.false))
