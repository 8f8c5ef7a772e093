use Rattle.std.proofs.Common.{◌≡◌, [], drop, fold}
use Rattle.geo_base.specs.Setup.{with_client}
use Rattle.script_text.proofs.subs.topic_names.Given as goal

abbrev pub invariant-loop-client : goal.invariant-loop-client
invariant-loop-client l =
    fold (with_client l.topic) l.names (drop l.client-index l.clients) ≡ fold (with_client l.topic) [] l.clients
