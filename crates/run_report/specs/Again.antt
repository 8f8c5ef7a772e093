-- What comes again after a failover: what is claimed of a run of these steps from world v.
use Rattle.std.specs.Prelude.{◌≡◌, ℕ, true, List, [], ◌∷◌, ◌++◌, take}
use Rattle.geo_base.specs.declared.entry.Ident.{Ident}
use Rattle.geo_base.specs.declared.event.Event.{Event}
use Rattle.geo_base.specs.declared.event.Event.TheVariants as event
use Rattle.geo_base.specs.declared.event.Step.{Step}
use Rattle.geo_base.specs.Happening.{happens}
use Rattle.geo_base.specs.Laws.{IsShort, begun}
use Rattle.geo_base.specs.Moments.{Settling, partly_written}
use Rattle.geo_base.specs.Planned.{planned}
use Rattle.geo_base.specs.Run.{no_limits, run_from}
use Rattle.geo_base.specs.Setup.{Setup, declared_at}
use Rattle.geo_base.specs.World.{World, client_at, topic_at}
use Rattle.world_laws.specs.AlikeWorlds.{AlwaysOn, world_on}
use Rattle.failover_laws.specs.Again.{NotAgain}
use Rattle.failover_laws.specs.Behind.{AnswersBehind, OwnBehind, RequestsDiffer, UpdatesBehind}
use Rattle.failover_laws.specs.Got.{IsBehindOrApart, IsConnectedSince, IsNeverGotAgain, SubsTo}
use Rattle.failover_laws.specs.UpdatedTo.{HasUpdatedTo, UpdatesHaveEffect}
use Rattle.failover_laws.specs.Run.{AllLeave, IsNeverAgain}
use Rattle.failover_laws.specs.Since.{StaysAcknowledged, leaves_behind}

-- What subscription n had at y in world u it still has in world w, and after the first durable writes of a further event that neither
-- deletes nor seeks it there. What it had passed over it has passed over, and no event gives it again (passed); and on a connection to y
-- that a client of n opened since u, it gets none of it (got).
pub record StaysUpdated (s : Setup) (t y : ℕ) (n : List ℕ) (u w : World) : Type 0 where
  pub between : StaysAcknowledged n (topic_at s u t y) (topic_at s w t y)
  pub moment : (writes : ℕ) (e : Event) → leaves_behind writes s t y n (planned s w e) ≡ true
      → StaysAcknowledged n (topic_at s u t y) (topic_at s (partly_written s w writes (planned s w e)) t y)
  pub passed : (a j : ℕ) → HasUpdatedTo (topic_at s u t y) n a j → HasUpdatedTo (topic_at s w t y) n a j × NotAgain s w t y n a j
  pub got : (a j c : ℕ) (ident : Ident) → t ≡ (declared_at s c).topic → HasUpdatedTo (topic_at s u t y) n a j → IsConnectedSince s u w c y → SubsTo s w c n
      → (client_at s (happens s w (event.Get c)) c).got ≡ (client_at s w c).got ++ ident ∷ []
      → IsBehindOrApart s w t y a j ident

-- so it is from where some of the steps lead to where further ones do that neither delete nor seek n at y, also inside settling
abbrev pub AllStayUpdated : Setup → World → List Step → Type 0
AllStayUpdated s v es = (before between rest : List Step) (t y : ℕ) (n : List ℕ) (at : Settling) → es ≡ before ++ (between ++ rest)
    → let behind = run_from no_limits s (begun v) before in AllLeave no_limits s t y n behind between
    → StaysUpdated s t y n behind.world (world_on s v (before ++ between) at)

-- how far behind: an update's index is at or above all that its cluster had before the request of the update's snapshot
abbrev pub IsBehindRequests : Setup → World → Type 0
IsBehindRequests s w = RequestsDiffer s w × AnswersBehind s w × UpdatesBehind s w × OwnBehind s w

pub record ComesNotAgain (s : Setup) (v : World) (es : List Step) : Type 0 where
  -- Between any two events, also inside settling, there were fewer than 2^62, of which the others speak;
  pub short : (k : ℕ) (at : Settling) → IsShort (world_on s v (take k es) at)
  -- and an update that a replicator reads next has an effect, where there is room for its subscription, as there is in a script's run.
  pub passes : (k : ℕ) (at : Settling) → UpdatesHaveEffect s (world_on s v (take k es) at)
  -- After a step that acts on an update, what the subscription passes over is not given again, and of the messages of the update's
  -- cluster such alone may be as it stored after the request of the update's snapshot;
  pub never : IsNeverAgain s v es
  -- nor does a client get it that connects after that step.
  pub got : IsNeverGotAgain s v es
  -- So it is of all that a subscription has passed over, by whatever step; and what its cursor has stays in it.
  pub stays : AllStayUpdated s v es
  -- Always, also after each single durable write.
  pub behind : AlwaysOn s v [] es (λ w settled. IsBehindRequests s w)
