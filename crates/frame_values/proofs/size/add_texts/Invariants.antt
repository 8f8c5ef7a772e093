use Rattle.std.proofs.Common.{◌≡◌, ◌+◌, ◌^◌, ◌<◌, drop}
use Rattle.geo_base.specs.Sizes.{repeated_text}
use Rattle.pulsar_frames.specs.Counted.{counted}
use Rattle.frame_values.proofs.size.add_texts.Given as goal

abbrev pub invariant-loop-text : goal.invariant-loop-text
invariant-loop-text l = (l.sum < 2 ^ 64) × (counted (l.sum + repeated_text l.field (drop l.text-index l.texts)) ≡ counted (l.size + repeated_text l.field l.texts))
