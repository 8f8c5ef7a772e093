use Rattle.std.proofs.Common.{rules, ◌∙◌, ◌≡◌, length, ap, arith}
use Rattle.geo_base.specs.Client.{new_client}
use Rattle.world_laws.proofs.Merges.FewNodes.{few_clients}
use Rattle.world.proofs.NewWorlds.{one_client_more}
use Rattle.world.proofs.opening.new_clients.Goals as goal

-- a client's number has 32 bits
pub overflow_cast-client-end : goal.overflow_cast-client-end
overflow_cast-client-end c =
    let size : length c.clients.result.now ≡ length c.args.scenario.now.setup.clients = ap (λ (ds : _). length ds) c.clients.ensures.clients in
    omega (arith, size, few_clients c.args.scenario.now.setup c.clients.ensures.known)

pub loop-client-preserved : goal.loop-client-preserved
loop-client-preserved c =
    rw c.in_ok-push.ensures.items
    (one_client_more c.args.scenario.now.setup c.loop-client.client c.loop-client.clients.items c.in_ok-new.field-0 (search rules) c.loop-client.invariant
    (c.in_ok-new.ensures ∙ ap new_client c.site_of.ensures.declared))
