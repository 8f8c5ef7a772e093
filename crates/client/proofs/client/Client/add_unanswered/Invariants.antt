use Rattle.std.proofs.Common.{◌≡◌, ◌++◌, drop}
use Rattle.geo_base.specs.Client.{commands_at}
use Rattle.client.specs.Changing.{as_connected}
use Rattle.client.proofs.client.Client.add_unanswered.Given as goal

-- what is added so far and the rest make the whole
abbrev pub invariant-loop-index : goal.invariant-loop-index
invariant-loop-index l =
    l.sent.items ++ commands_at l.site.setup l.site.declared (as_connected l.connection l.self) (drop l.index-index l.unanswered)
    ≡ l.initial.sent.items ++ commands_at l.site.setup l.site.declared (as_connected l.connection l.self) l.unanswered
