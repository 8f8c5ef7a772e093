use Rattle.std.proofs.Common.{List, map, take, ap, ◌∙◌}
use Rattle.geo_base.specs.declared.client.Held.{Held}
use Rattle.geo_base.specs.Client.{Client}
use Rattle.geo_base.specs.Going.{most_acks}
use Rattle.client.proofs.HeldLists.{acked_all}
use Rattle.client.proofs.client.Client.acknowledges_first.Goals as goal

pub returns-clause-acted : goal.returns-clause-acted
returns-clause-acted c =
    let held = ap (λ (k : Client). k.held) c.self.view_is in
    acked_all c.args.self.now _ _ c.requires.some (c.in_ok-positions.ensures.positions ∙ ap (λ (hs : List Held). map (λ (h : Held). h.position) (take most_acks hs)) held) c.in_ok-prepared.ensures
