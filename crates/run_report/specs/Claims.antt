-- What is claimed of the run of a script: one record, which the program's calls cite for each run that they do.
use Rattle.std.specs.Prelude.{◌≡◌, ℕ, ◌<◌, false, List, [], ◌∷◌, ◌++◌, length, take, Option, None}
use Rattle.std.specs.List.{list_any}
use Rattle.geo_base.specs.declared.event.Step.TheVariants as step
use Rattle.geo_base.specs.declared.event.Step.{Step}
use Rattle.geo_base.specs.declared.position.Position.{Position}
use Rattle.geo_base.specs.Laws.{AlwaysIn, IsPrefix, IsReceived, begun}
use Rattle.geo_base.specs.Moments.{Settling, world_between}
use Rattle.geo_base.specs.Run.{no_limits, run_from}
use Rattle.geo_base.specs.Setup.{sub_name, sub_names}
use Rattle.script_text.specs.Script.{Script}
use Rattle.world_laws.specs.AlikeWorlds.{world_on}
use Rattle.world_laws.specs.Publishing.{AllAnswered, FewReceipts, IsChain, RepeatsStand}
use Rattle.world_laws.specs.Residency.{IsMarked, IsResident}
use Rattle.world_laws.specs.Telling.{AlwaysToldIn, BetweenToldIn}
use Rattle.consumer_laws.specs.Anew.{AreClusters, AreStored, IsNowhere, NoUpdateSince, OnlySettledAt, all_sought, settled_behind_all, settled_since}
use Rattle.consumer_laws.specs.Got.{AllEarliest, OnlyGot, seeks}
use Rattle.consumer_laws.specs.Handed.{OnlyHanded, handing}
use Rattle.consumer_laws.specs.InOrder.{FirstInOrder, GetsInOrder}
use Rattle.failover_laws.specs.Moves.{AllActedOn, AllCovered, AllDrained, AllEnded, AllHandedOver, AllOffered, AllSwitchedOver, AlwaysRoom}
use Rattle.run_report.specs.Headline.{IsAlwaysInTime, IsAlwaysKept, IsAlwaysOnce, IsAlwaysSafe, IsAlwaysSettled, NothingComesAgain}
use Rattle.run_report.specs.Reports.{exceeded_limit}

-- where each sub line is earliest and none of the steps so far seeks, what a cursor has somebody's list of what it got has
abbrev pub IsGotUnlessSkipped : Script → Type 0
IsGotUnlessSkipped n = AllEarliest n.setup
    → (k : ℕ) (at : Settling) → list_any seeks (take k n.steps) ≡ false → OnlyGot n.setup (world_between no_limits n.setup (take k n.steps) at)

-- Where it is sought at every cluster with nothing between, after a step that settles, only what is settled since that step counts for a
-- subscription; and where it is at no cluster, and no update of it was stored since a settling, only what is settled from then on.
pub record BeginsAnew (n : Script) : Type 0 where
  pub sought : (es fs rest : List Step) (t m : ℕ) (to : ℕ → Option Position) (xs : List ℕ) (at : Settling)
      → let s = n.setup in let v = settled_behind_all s es in let later = all_sought t m to xs ++ fs in
      n.steps ≡ (es ++ step.Settle ∷ []) ++ (later ++ rest) → t < length s.topics → m < length (sub_names s t) → AreClusters s xs → AreStored s v t to
      → OnlySettledAt s (world_on s v later at) (settled_since s v later) t (sub_name s t m)
  pub deleted : (es ks fs rest : List Step) (t : ℕ) (sub : List ℕ) (at : Settling)
      → let s = n.setup in let v = settled_behind_all s es in let u = (run_from no_limits s (begun v) ks).world in
      n.steps ≡ (es ++ step.Settle ∷ []) ++ (ks ++ (fs ++ rest)) → t < length s.topics → IsNowhere s u t sub → NoUpdateSince s v u t sub
      → OnlySettledAt s (world_on s u fs at) (settled_since s u fs) t sub

-- Of the run of a script: at every moment of it, which is between any two of its events, also inside settling, and after each single
-- durable write; or, where it says so, between events alone. The order is that of the README.
pub record HoldsOf (n : Script) : Type 0 where
  -- Each message that stands anywhere is that of a `pub` line of a client declared where it was stored first; a receipt names where its
  -- message stands; what a client is given and got stands.
  pub chain : AlwaysIn n.setup n.steps (λ w settled. IsChain n.setup w)
  -- Where the sequence ids of a client's `pub` lines rise and none of them was refused, each receipt that it was sent, of a duplicate
  -- too, is of a message that stands.
  pub repeated : AlwaysIn n.setup n.steps (λ w settled. RepeatsStand n.setup w)
  -- Each publish of which no receipt is awaited was answered for, and receipts are no more than what stands.
  pub answered : AlwaysIn n.setup n.steps (λ w settled. AllAnswered n.setup w × FewReceipts n.setup w)
  -- Each topic has its messages once, per producer in order.
  pub once : IsAlwaysOnce n
  -- Each cluster has, of what another one stored first, a beginning of what that has for it: no gaps.
  pub prefix : AlwaysIn n.setup n.steps (λ w settled. IsPrefix n.setup w)
  -- What stands at a cluster, or was ever sent to it by another one, is meant for it.
  pub resident : AlwaysIn n.setup n.steps (λ w settled. IsResident n.setup w)
  -- What a replicator counts as over there stands there; what the other cluster lacks is the last of it, and no more than stands here after
  -- the mark.
  pub marked : AlwaysIn n.setup n.steps (λ w settled. IsReceived n.setup w × IsMarked n.setup w)
  -- Whatever a subscription has acknowledged is settled, so that every message stored anywhere is settled on each subscription there or
  -- stands in its backlog.
  pub safe : IsAlwaysSafe n
  -- Whatever a cursor has passed some consumer of its subscription was given, at whatever cluster, or it was passed over openly: created
  -- at Latest after it, or sought past. Between events, where nothing is passed over so, somebody's list of what it got has it.
  pub handed : AlwaysToldIn (handing n.setup) n.setup n.steps (λ w handed. OnlyHanded n.setup w handed)
  pub got : IsGotUnlessSkipped n
  -- Between events, where one consumer is served at a time, the next message that it takes comes after all that stand before it there,
  -- and after those of its producer with smaller sequence ids: these were handed out, also over a failover.
  pub in_order : BetweenToldIn (handing n.setup) n.setup n.steps (λ w handed. GetsInOrder n.setup w handed × FirstInOrder n.setup w handed)
  -- Between events nothing that stands in a backlog is forgotten.
  pub kept : IsAlwaysKept n
  -- After each step that settles all has come over: for every topic and every two clusters, the replicator of the one to the other is open
  -- and has acknowledged all of its topic, and the other has, in order, all that the one stored first for it;
  pub settled : IsAlwaysSettled n
  -- within the budget of its rounds, each of which but the last does an event.
  pub rounds : IsAlwaysInTime n
  -- After a step that acts on an update of another cluster nothing comes again that the update let its subscription pass over, until
  -- that is deleted or sought: no event gives it, and no client gets it that connects since; and of the other cluster's own messages
  -- such alone come as it stored after the request of the update's snapshot.
  pub again : NothingComesAgain n
  -- A subscription that is sought, or deleted, at every cluster after a step that settles begins anew.
  pub anew : BeginsAnew n
  -- Between events there is room for each subscription that the script names, and for the one of each update that is read next.
  pub room : AlwaysRoom n.setup n.steps
  -- Where a report of its first steps says `backlog 0` of a subscription, all that stands there is acknowledged, and until it is deleted
  -- or sought there none of it is given to its consumers.
  pub drained : AllDrained n.setup n.steps
  -- A snapshot reaches, at each other cluster, over all that stood there when it was asked for, whoever stored it first: so what comes
  -- again was stored there after the request of the snapshot whose update was acted on last.
  pub covers : AllCovered n.setup n.steps
  -- No replicator acknowledges an update that it did not act on.
  pub acts : AllActedOn n.setup n.steps
  -- After each step that settles no snapshot is in the making, and one that is asked for then stands after the next.
  pub ended : AllEnded n.setup n.steps
  -- An update that came is acted on after the next step that settles;
  pub switched : AllSwitchedOver n.setup n.steps
  -- a snapshot that stands, offered past to a subscription that acknowledged each message below it, is told and acted on so;
  pub offered : AllOffered n.setup n.steps
  -- and the procedure of a planned move (settle, snap, settle, offers, settle, of a subscription with `backlog 0`) hands it over: each
  -- other cluster has all that stood there and is meant for the one that is left, and none of it is given again until it is deleted or
  -- sought.
  pub handed_over : AllHandedOver n.setup n.steps

-- a run that passes no limit, and all that is claimed of it
abbrev pub HoldsWithin : Script → Type 0
HoldsWithin n = (exceeded_limit n ≡ None) × HoldsOf n
