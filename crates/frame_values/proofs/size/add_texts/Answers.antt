use Rattle.std.proofs.Common.{◌≡◌, ◌+◌, List, ℕ, [], drop, ap, sym, ◌∙◌, arith}
use Rattle.geo_base.specs.Sizes.{repeated_text}
use Rattle.pulsar_frames.specs.Counted.{counted}
use Rattle.frame_values.proofs.Counting.{ended, none_left}
use Rattle.frame_values.proofs.size.add_texts.Goals as goal

pub returns : goal.returns
returns c =
    let none : drop c.loop-text.text-index c.args.texts.now ≡ [] = none_left c.loop-text.text-index c.args.texts.now (omega arith) in
    let left : counted (c.loop-text.sum + 0) ≡ counted (c.args.size + repeated_text c.args.field c.args.texts.now) =
    ap (λ (ts : List (List ℕ)). counted (c.loop-text.sum + repeated_text c.args.field ts)) (sym none) ∙ c.loop-text.invariant.1 in
    ended c.loop-text.sum _ c.loop-text.invariant.0 left
