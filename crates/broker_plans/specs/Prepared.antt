-- What a prepared event of a broker is, beside the machine's plan.
use Rattle.std.specs.Prelude.{◌≡◌, ℕ, ◌<◌, ◌^◌, List, [], ◌∷◌, ◌++◌, ⊤}
use Rattle.geo_base.specs.declared.packet.Out.{Out}
use Rattle.geo_base.specs.declared.packet.WireOut.{WireOut}
use Rattle.geo_base.specs.Broker.{Broker, Site}
use Rattle.geo_base.specs.Plan.{Plan}
use Rattle.geo_base.specs.Topic.{next_marker}
use Rattle.broker_state.specs.Fits.{PlanFits}
use Rattle.broker_state.specs.Plan.{PlanView, plan_in}
use Rattle.broker_plans.specs.Storable.{IsWritable, PlanStorable}
use Rattle.frame_values.specs.Coded.{IsWritten}

-- the sequence id of an own marker has 64 bits
abbrev pub MarkerFits : Site → Broker → Type 0
MarkerFits h b = next_marker h.own b.entries < 2 ^ 64

-- Whatever an event sends and stores can be written: all that the broker keeps, and its next own marker, whose number still fits.
pub record CanWrite (h : Site) (b : Broker) : Type 0 where
  pub kept : IsWritable h b
  pub marker : MarkerFits h b

-- a packet's bytes say what the machine sends, to the same peer and in the same session
pub record IsPacket (names : List (List ℕ)) (o : Out) (p : WireOut) : Type 0 where
  pub to : p.to ≡ o.to
  pub session : p.session ≡ o.session
  pub frame : IsWritten names o.frame p.frame

-- one packet for each that the machine sends, in order
abbrev pub ArePackets : List (List ℕ) → List Out → List WireOut → Type 0
ArePackets names [] [] = ⊤
ArePackets names (o ∷ os) (p ∷ ps) = IsPacket names o p × ArePackets names os ps
ArePackets names os ps = ⊥

-- the plan without what it sends
abbrev pub unsent : Plan → Plan
unsent p = record p { sent = [] }

-- A prepared event of the broker b is a plan of the machine: the same writes and changes, packets that say what it sends, steps
-- that the broker can do, and what it adds to what is kept can be written again.
pub record IsPrepared (h : Site) (b : Broker) (plan : Plan) (p : PlanView) : Type 0 where
  pub steps : plan_in b p ≡ unsent plan
  pub sent : ArePackets h.clusters plan.sent p.sent
  pub fits : PlanFits h.per_ledger b p
  pub stored : PlanStorable h plan

-- an event that sends one more packet after all that it does
pub record AlsoSends (names : List (List ℕ)) (o : Out) (old new : PlanView) : Type 0 where
  pub packet : WireOut
  pub with : new ≡ record old { sent = old.sent ++ packet ∷ [] }
  pub written : IsPacket names o packet
