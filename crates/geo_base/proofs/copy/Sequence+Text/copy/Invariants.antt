use Rattle.std.proofs.Common.{◌≡◌, take}
use Rattle.geo_base.proofs.copy.Sequence+Text.copy.Given as goal

abbrev pub invariant-loop-text : goal.invariant-loop-text
invariant-loop-text l = l.copied ≡ take l.text-index l.texts
