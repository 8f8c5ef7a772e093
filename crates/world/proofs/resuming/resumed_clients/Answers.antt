use Rattle.std.proofs.Common.{◌≡◌, [], ◌∷◌, ◌++◌, ◌∙◌, ap, append_assoc, map, sym}
use Rattle.client.specs.State.{stopped}
use Rattle.geo_base.specs.Client.{Client}
use Rattle.world.proofs.resuming.resumed_clients.Goals as goal

pub loop-state-preserved : goal.loop-state-preserved
loop-state-preserved c =
    let made = c.loop-state.clients.items in let rest = c.next.new.self.rest.items in let k = c.in_ok-from_state.field-0 in
    let is : k ≡ stopped c.in-Some.state = c.in_ok-from_state.ensures in
    rw c.in_ok-push.ensures.items
    (append_assoc made (k ∷ []) (map stopped rest) ∙ ap (λ (m : Client). made ++ m ∷ map stopped rest) is
    ∙ ap (λ (ks : _). made ++ map stopped ks) (sym c.in-Some.ensures.steps.0) ∙ c.loop-state.invariant)
