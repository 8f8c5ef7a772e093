-- Worlds that no event tells apart, and that a run goes on from where it was kept as if it had not ended there.
use Rattle.std.specs.Prelude.{◌≡◌, ℕ, ◌≤◌, List, [], ◌∷◌, ◌++◌, drop, length, map, take, None}
use Rattle.geo_base.specs.declared.event.Event.{Event}
use Rattle.geo_base.specs.declared.event.Step.{Step}
use Rattle.geo_base.specs.declared.event.Step.TheVariants as step
use Rattle.geo_base.specs.declared.packet.Packet.{Packet}
use Rattle.geo_base.specs.Happening.{halts_planned, happens, stops}
use Rattle.geo_base.specs.Laws.{IsShort, begun}
use Rattle.geo_base.specs.Link.{Link}
use Rattle.geo_base.specs.Moments.{Moment, Settling, partly_written, settling_so_far}
use Rattle.geo_base.specs.Planned.{planned}
use Rattle.geo_base.specs.Report.{report}
use Rattle.geo_base.specs.Run.{Limits, Ran, all_limits, no_limits, run, run_from}
use Rattle.geo_base.specs.Safe.{AllOnce, NothingForgotten, OnlySettled}
use Rattle.geo_base.specs.Scripted.{IsScripted}
use Rattle.geo_base.specs.Settled.{SettledSoFar, settled, settled_at}
use Rattle.geo_base.specs.Setup.{Setup}
use Rattle.geo_base.specs.World.{LinkName, Links, World, link_at}
use Rattle.world_laws.specs.Reached.{ReachedFrom}
use Rattle.world_laws.specs.Starts.{IsStart, resumed_world}

-- ---- worlds

abbrev pub without_stamp : Packet → Packet
without_stamp p = record p { stamp = 0 }

-- the packets of a link that are not taken yet, whatever their stamps
abbrev pub waiting : Link → List Packet
waiting l = map without_stamp (drop l.taken l.sent)

-- those of each link of a table
abbrev pub waiting_on : List (List Link) → List (List (List Packet))
waiting_on m = map (λ (ls : List Link). map waiting ls) m

-- no more was taken from a link than was sent on it
abbrev pub IsSound : Links → Type 0
IsSound ls = (k : LinkName) → (link_at ls k).taken ≤ length (link_at ls k).sent

-- the same packets wait on each link; what was taken before may differ, and so may stamps
pub record LinksAlike (ks ls : Links) : Type 0 where
  pub forward : waiting_on ks.forward ≡ waiting_on ls.forward
  pub back : waiting_on ks.back ≡ waiting_on ls.back
  pub to_broker : waiting_on ks.to_broker ≡ waiting_on ls.to_broker
  pub to_client : waiting_on ks.to_client ≡ waiting_on ls.to_client
  pub left : IsSound ks
  pub right : IsSound ls

-- alike: brokers, clients, counts and what waits are the same; clocks may differ
pub record AreAlike (v w : World) : Type 0 where
  pub brokers : v.brokers ≡ w.brokers
  pub clients : v.clients ≡ w.clients
  pub links : LinksAlike v.links w.links
  pub events : v.events ≡ w.events
  pub idle : v.idle ≡ w.idle
  pub rounds : v.rounds ≡ w.rounds
  pub frame_bytes : v.frame_bytes ≡ w.frame_bytes

-- ---- runs

-- two runs that came to worlds alike, and that ended, if they did, at the same limit
pub record RunsAlike (q r : Ran) : Type 0 where
  pub world : AreAlike q.world r.world
  pub ended : q.ended ≡ r.ended

-- limits that do not tell worlds apart that are alike
abbrev pub AreEven : Limits → Type 0
AreEven l = (v w : World) → AreAlike v w → l v ≡ l w

-- a run that goes on from v, between any two of its events
abbrev pub world_on : Setup → World → List Step → Settling → World
world_on s v es at = (settling_so_far no_limits s (run_from no_limits s (begun v) es) at).world

-- always in the run of es from v, which came after other steps: between any two events, and after each single durable write of an
-- event. What is settled by then, these other steps settled too
pub record AlwaysOn (s : Setup) (v : World) (before es : List Step) (Holds : World → SettledSoFar → Type 0) : Type 0 where
  pub between : (k : ℕ) (at : Settling) → Holds (world_on s v (take k es) at) (settled s (before ++ take k es))
  pub moment : (k : ℕ) (at : Settling) (e : Event) (writes : ℕ)
      → let m : Moment = record { steps = before ++ take k es; settling = at; event = e; writes = writes } in
      let w = world_on s v (take k es) at in Holds (partly_written s w writes (planned s w e)) (settled_at no_limits s m)

-- the world that is loaded of what a file keeps of a script's run after these steps and a stop
abbrev pub kept_behind : Setup → List Step → World
kept_behind s es = resumed_world s (run s (es ++ step.Stop ∷ []))

-- resumed. No event, halt, stop, step or settling tells worlds apart that are alike, nor does the report of a run. A world that was
-- stopped is alike to the one that is loaded of it; so a run that goes on there is alike to the one that went on after the stop
-- (`script` says it of a script's run, kept once). What is claimed always of a script's run holds always in a run that goes on from a
-- world that is alike to where that one came
pub record LawResumed : Type 0 where
  pub event : (s : Setup) (v w : World) (e : Event) → AreAlike v w → AreAlike (happens s v e) (happens s w e)
  pub halt : (s : Setup) (v w : World) (k : ℕ) (e : Event) → AreAlike v w → AreAlike (halts_planned s v k (planned s v e)) (halts_planned s w k (planned s w e))
  pub stop : (s : Setup) (v w : World) → AreAlike v w → AreAlike (stops s v) (stops s w)
  pub through : (u v w : World) → AreAlike u v → AreAlike v w → AreAlike u w
  pub runs : (l : Limits) (s : Setup) → AreEven l → (q r : Ran) → RunsAlike q r → (es : List Step) → RunsAlike (run_from l s q es) (run_from l s r es)
  pub settling : (l : Limits) (s : Setup) → AreEven l → (q r : Ran) → RunsAlike q r → (at : Settling) → RunsAlike (settling_so_far l s q at) (settling_so_far l s r at)
  pub limits : AreEven no_limits × AreEven all_limits
  pub reports : (s : Setup) (v w : World) → AreAlike v w → report s v ≡ report s w
  pub loaded : (s : Setup) (v w : World) → IsStart s v → ReachedFrom s v w → AreAlike (stops s w) (resumed_world s (stops s w))
  pub goes_on : (l : Limits) (s : Setup) → AreEven l → (v : World) → IsStart s v → (before es : List Step)
      → let stopped = run_from l s (begun v) (before ++ step.Stop ∷ []) in stopped.ended ≡ None
      → RunsAlike (run_from l s (begun v) (before ++ step.Stop ∷ es)) (run_from l s (begun (resumed_world s stopped.world)) es)
  pub script : (s : Setup) (before es : List Step) → AreAlike (run s (before ++ step.Stop ∷ es)) (run_from no_limits s (begun (kept_behind s before)) es).world
  pub once : (s : Setup) (v : World) (before es : List Step) → AreAlike (run s before) v → AlwaysOn s v before es (λ w settled. AllOnce w)
  pub safe : (s : Setup) → IsScripted s → (v : World) (before es : List Step) → AreAlike (run s before) v → AlwaysOn s v before es (λ w settled. IsShort w → OnlySettled s w settled)
  pub kept : (s : Setup) (v : World) (before es : List Step) (at : Settling) → AreAlike (run s before) v → NothingForgotten (world_on s v es at)
