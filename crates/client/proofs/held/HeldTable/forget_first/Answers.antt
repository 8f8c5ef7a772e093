use Rattle.std.proofs.Common.{List, drop, ◌∙◌, ap}
use Rattle.std.proofs.lemmas.List.{drop-drop}
use Rattle.geo_base.specs.declared.client.Held.{Held}
use Rattle.client.proofs.held.HeldTable.forget_first.Goals as goal

pub loop-place-preserved : goal.loop-place-preserved
loop-place-preserved c = c.forget_one.ensures ∙ (ap (λ (hs : List Held). drop 1 hs) c.loop-place.invariant ∙ drop-drop 1 c.loop-place._place c.args.self.now)
