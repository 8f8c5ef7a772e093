-- What a packet of a forward link does at a broker, told by the session that is open, and what it does two times in a row.
use Rattle.std.specs.Prelude.{ℕ, nat_le, Bool, false, ◌&&◌, if◌then◌else◌, List, [], ◌∷◌, Option, Some, None, ⊤}
use Rattle.geo_base.specs.declared.change.Change.TheVariants as change
use Rattle.geo_base.specs.declared.entry.Entry.{Entry}
use Rattle.geo_base.specs.declared.frame.Frame.{Frame}
use Rattle.geo_base.specs.declared.frame.Frame.TheVariants as frame
use Rattle.geo_base.specs.declared.marker.ClusterRef.{ClusterRef}
use Rattle.geo_base.specs.declared.packet.Out.{Out}
use Rattle.geo_base.specs.declared.packet.Packet.{Packet}
use Rattle.geo_base.specs.declared.packet.Peer.TheVariants as peer
use Rattle.geo_base.specs.declared.position.Position.{Position}
use Rattle.geo_base.specs.Broker.{Broker, Site, receiver_at}
use Rattle.geo_base.specs.Entry.{with_origin}
use Rattle.geo_base.specs.Forwarding.{link_producer}
use Rattle.geo_base.specs.Plan.{Plan, plan_of, quiet_plan}
use Rattle.geo_base.specs.Position.{no_position}
use Rattle.geo_base.specs.Receiver.{is_from}
use Rattle.geo_base.specs.Sizes.{entry_size, most_entry_size}
use Rattle.geo_base.specs.Storing.{receipt_position, storing}
use Rattle.replicator.specs.declared.receiver.Taken.{Taken}
use Rattle.replicator.specs.declared.receiver.Taken.TheVariants as takes
use Rattle.replicator.specs.Events.{is_to_open, is_unreadable}
use Rattle.replicator.specs.Taking.{taken}
use Rattle.broker_plans.specs.Storable.{IsStorable}
use Rattle.broker_packets.specs.declared.act.TakeAct.{TakeAct}
use Rattle.broker_packets.specs.declared.act.TakeAct.TheVariants as act

-- in the session that is open, only a SEND of an entry that the other cluster stored first can be acted on, and only a small one
abbrev pub send_act : Site → ℕ → ℕ → Option ClusterRef → Entry → TakeAct
send_act h x seq source e = if is_from x source && nat_le (entry_size h.clusters e) most_entry_size then act.Receives seq (with_origin x e) else act.Refuses

abbrev pub command_act : Site → ℕ → Frame → TakeAct
command_act h x (frame.Send id seq source e) = send_act h x seq source e
command_act h x f = act.Refuses

-- only a PRODUCER opens a session
abbrev pub opening_act : Frame → TakeAct
opening_act (frame.Producer topic id request name) = act.Opens id request
opening_act f = act.Discards

-- by what the receiver makes of its session
abbrev pub taken_act : Site → ℕ → Frame → Taken → TakeAct
taken_act h x f takes.Opened = opening_act f
taken_act h x f takes.Process = command_act h x f
taken_act h x f takes.Discard = act.Discards

-- now is the session that is open on the link from x
abbrev pub act_of : Site → Option ℕ → ℕ → ℕ → Frame → TakeAct
act_of h now x session f = if is_unreadable f then act.Unreadable else taken_act h x f (taken now session (is_to_open h session f))

-- once, or two times in a row
abbrev pub times : {X : Type 0} → Bool → X → List X
times again v = if again then v ∷ v ∷ [] else v ∷ []

abbrev pub success_out : Site → ℕ → ℕ → ℕ → Out
success_out h x id request = record { to = peer.Back x; session = id; frame = frame.ProducerSuccess request (link_producer h x) }

abbrev pub receipt_out : ℕ → ℕ → ℕ → Option Position → Out
receipt_out x session seq position = record { to = peer.Back x; session = session; frame = frame.SendReceipt session seq position }

-- the second time an entry is a duplicate, whose receipt names no position
abbrev pub receipts : ℕ → ℕ → ℕ → Bool → Option Position → List Out
receipts x session seq again position = receipt_out x session seq position ∷ (if again then receipt_out x session seq (Some no_position) ∷ [] else [])

abbrev pub closing_plan : ℕ → Bool → Plan
closing_plan x again = quiet_plan (times again (change.Receiver x None))

abbrev pub opening_plan : Site → ℕ → Bool → ℕ → ℕ → Plan
opening_plan h x again id request = plan_of [] (times again (change.Receiver x (Some id))) (times again (success_out h x id request))

abbrev pub receiving_plan : Site → Broker → ℕ → ℕ → Bool → ℕ → Entry → Plan
receiving_plan h b x session again seq e = plan_of (storing b e) [] (receipts x session seq again (receipt_position h.per_ledger b e))

-- what an act is, once or two times in a row: a session that closed has no open one for the second time, and so no effect
abbrev pub acted : Site → Broker → ℕ → ℕ → Bool → TakeAct → Plan
acted h b x session again act.Unreadable = closing_plan x again
acted h b x session again (act.Opens id request) = opening_plan h x again id request
acted h b x session again act.Discards = quiet_plan []
acted h b x session again act.Refuses = closing_plan x false
acted h b x session again (act.Receives seq e) = receiving_plan h b x session again seq e

-- what a packet's act is
abbrev pub packet_acted : Site → Broker → ℕ → Bool → Packet → Plan
packet_acted h b x again p = acted h b x p.session again (act_of h (receiver_at b x) x p.session p.frame)

-- what is stored can be written again
abbrev pub ActStorable : Site → TakeAct → Type 0
ActStorable h (act.Receives seq e) = IsStorable h e
ActStorable h a = ⊤
