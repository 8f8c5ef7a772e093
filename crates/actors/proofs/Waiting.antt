-- What a turn leaves of an actor.
use Rattle.std.proofs.Common.{◌≡◌, ◌+◌, Bool, true, false, refl}
use Rattle.std.specs.Prelude.{if◌then◌else◌, min, not, ◌&&◌, Ok}
use Rattle.actors.specs.Tries.{Actor, has_waited, most_waited}
use Rattle.actors.specs.Turns.{waited_after}
use Rattle.node_log.specs.Logs.{NodeLogView}

pub waited_is : {E : Type 0} (a : Actor) (b : NodeLogView E) (done : Bool)
    → waited_after a b (Ok done) ≡ (if not done && has_waited a.role b then min (a.waited + 1) most_waited else 0)
waited_is a b true = refl
waited_is a b false = refl
