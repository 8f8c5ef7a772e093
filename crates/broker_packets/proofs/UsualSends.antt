-- A SEND of the usual form does what the machine's SEND does.
use Rattle.std.proofs.Common.{◌≡◌, ℕ, Bool, true, false, [], refl, sym, subst}
use Rattle.std.specs.Prelude.{if◌then◌else◌, Option, Some}
use Rattle.std.proofs.lemmas.Bool.{le-leb}
use Rattle.geo_base.specs.declared.event.Fate.TheVariants as fate
use Rattle.geo_base.specs.declared.frame.Frame.TheVariants as frame
use Rattle.geo_base.specs.declared.packet.Peer.TheVariants as peer
use Rattle.geo_base.specs.declared.position.Position.{Position}
use Rattle.geo_base.specs.Broker.{Broker, Site}
use Rattle.geo_base.specs.Forwarding.{take_packet}
use Rattle.geo_base.specs.Link.{sends}
use Rattle.geo_base.specs.Plan.{Plan, plan_of}
use Rattle.geo_base.specs.Receiver.{is_open}
use Rattle.geo_base.specs.Sizes.{entry_size, most_entry_size}
use Rattle.geo_base.specs.Storing.{receipt_position, storing}
use Rattle.replicator.specs.declared.receiver.Taken.TheVariants as takes
use Rattle.replicator.specs.Taking.{taken}
use Rattle.broker_state.specs.Plan.{PlanView}
use Rattle.broker_plans.specs.declared.usual.Came.{Came}
use Rattle.broker_plans.specs.Prepared.{AlsoSends, IsPrepared}
use Rattle.broker_plans.specs.Usual.{send_viewed}
use Rattle.frame_values.specs.Usual.{entry_viewed}
use Rattle.broker_plans.proofs.Keeping.{sends_more}
use Rattle.broker_packets.specs.UsualSends.{Receives}

-- what does not open a session and is acted on is of the one that is open
pub processed : (now : Option ℕ) (session : ℕ) → taken now session false ≡ takes.Process → is_open now session ≡ true
processed now session h = by_test (is_open now session) h
  where
    by_test : (t : Bool) → (if t then takes.Process else takes.Discard) ≡ takes.Process → t ≡ true
    by_test true h = refl
    by_test false h = absurd cc

abbrev stored_first : Site → Broker → ℕ → Came → Option Position → Plan
stored_first h b x m o = plan_of (storing b (entry_viewed x m.message)) [] (sends (peer.Back x) m.session (frame.SendReceipt m.session m.seq o))

pub received : (h : Site) (b : Broker) (x stamp : ℕ) (m : Came) → Receives h b x m
    → take_packet h b x fate.Good (Some (record { session = m.session; stamp = stamp; frame = send_viewed h.clusters m })) ≡ stored_first h b x m (receipt_position h.per_ledger b (entry_viewed x m.message))
unfolding take_packet
received h b x stamp m is = rw (is.open_now, is.brings.from, le-leb (entry_size h.clusters (entry_viewed 0 m.message)) most_entry_size is.brings.small) refl

pub received_more : (h now : Site) (b : Broker) (x stamp : ℕ) (m : Came) (at : Position) (p q : PlanView) → now ≡ h → Receives h b x m → IsPrepared h b (plan_of (storing b (entry_viewed x m.message)) [] []) p
    → Some at ≡ receipt_position h.per_ledger b (entry_viewed x m.message)
    → AlsoSends now.clusters (record { to = peer.Back x; session = m.session; frame = frame.SendReceipt m.session m.seq (Some at) }) p q
    → IsPrepared h b (take_packet h b x fate.Good (Some (record { session = m.session; stamp = stamp; frame = send_viewed h.clusters m }))) q
received_more h now b x stamp m at p q same is stored sub_index more =
    subst (λ (plan : Plan). IsPrepared h b plan q) (sym (received h b x stamp m is))
    (subst (λ (o : Option Position). IsPrepared h b (stored_first h b x m o) q) sub_index
    (sends_more h b (storing b (entry_viewed x m.message)) [] (record { to = peer.Back x; session = m.session; frame = frame.SendReceipt m.session m.seq (Some at) }) p q stored
    (subst (λ (g : Site). AlsoSends g.clusters (record { to = peer.Back x; session = m.session; frame = frame.SendReceipt m.session m.seq (Some at) }) p q) same more)))
