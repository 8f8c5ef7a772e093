-- The two ends of a forward link and of the back link that answers it: reset and receipt at the sending cluster, take at the
-- receiving one.
use Rattle.std.specs.Prelude.{ℕ, ◌+◌, nat_lt, nat_le, ◌==◌, Bool, not, ◌&&◌, if◌then◌else◌, List, [], ◌∷◌, ◌++◌, length, Option, Some, None, codes}
use Rattle.std.specs.Str.{bytes_eq}
use Rattle.geo_base.specs.Types.{Entry, Fate, Frame, Packet, ClusterRef, ReplicatorState}
use Rattle.geo_base.specs.Types.change
use Rattle.geo_base.specs.Types.fate
use Rattle.geo_base.specs.Types.frame
use Rattle.geo_base.specs.Types.peer
use Rattle.geo_base.specs.Types.replicator_state
use Rattle.geo_base.specs.Types.write
use Rattle.geo_base.specs.Broker.{Broker, Site, cluster_name, receiver_at, replicator_at}
use Rattle.geo_base.specs.Entry.{with_origin}
use Rattle.geo_base.specs.Link.{sends}
use Rattle.geo_base.specs.Plan.{Plan, idle_plan, plan_of, quiet_plan, twice}
use Rattle.geo_base.specs.Receiver.{is_from, is_open}
use Rattle.geo_base.specs.Replicator.{Replicator, pending_index}
use Rattle.geo_base.specs.Sizes.{entry_size, most_entry_size}
use Rattle.geo_base.specs.Storing.{receipt_position, storing}

abbrev pub is_remote : Site → ℕ → Bool
is_remote h y = nat_lt y (length h.clusters) && not (y == h.own)

-- the name of the producer of the forward link from x (own; Pulsar's replicator names its producer by cluster too)
abbrev pub link_producer : Site → ℕ → List ℕ
link_producer h x = codes "pulsar.repl." ++ cluster_name h x

-- reset: a session begins, and the packet that opens it goes out, with the session as producer id and as request id (own)
abbrev pub resets : Site → ℕ → ℕ → Plan
resets h y session =
    plan_of (write.SessionNumber y session ∷ []) (change.Opening y ∷ [])
    (sends (peer.Forward y) session (frame.Producer h.topic session session (Some (link_producer h h.own))))

unfoldable pub reset : Site → Broker → ℕ → Plan
reset h b y = if is_remote h y then resets h y ((replicator_at b y).session + 1) else idle_plan

-- take: the session of the forward link from x is closed, without an answer
abbrev pub closes : ℕ → Plan
closes x = quiet_plan (change.Receiver x None ∷ [])

-- an entry of x is stored or is a duplicate; either way it is answered, with the session and the SEND's number
abbrev pub take_send : Site → Broker → ℕ → ℕ → ℕ → Option ClusterRef → Entry → Plan
take_send h b x session seq source e =
    if is_from x source && nat_le (entry_size h.clusters e) most_entry_size
    then plan_of (storing b (with_origin x e)) [] (sends (peer.Back x) session (frame.SendReceipt session seq (receipt_position h.per_ledger b (with_origin x e))))
    else closes x

abbrev pub take_command : Site → Broker → ℕ → ℕ → Frame → Plan
take_command h b x session (frame.Send id seq source e) = take_send h b x session seq source e
take_command h b x session command = closes x

-- what comes in another session is discarded
abbrev pub take_in : Site → Broker → ℕ → Packet → Plan
take_in h b x p = if is_open (receiver_at b x) p.session then take_command h b x p.session p.frame else quiet_plan []

-- an opening packet is a PRODUCER of the topic whose producer id is the packet's session
abbrev pub take_frame : Site → Broker → ℕ → Packet → Frame → Plan
take_frame h b x p frame.Unreadable = closes x
take_frame h b x p (frame.Producer topic id request name) =
    if bytes_eq topic h.topic && (id == p.session)
    then plan_of [] (change.Receiver x (Some id) ∷ []) (sends (peer.Back x) id (frame.ProducerSuccess request (link_producer h x)))
    else take_in h b x p
take_frame h b x p command = take_in h b x p

-- a lost packet closes the session, since entries after it would be stored without it
abbrev pub take_fate : Site → Broker → ℕ → Packet → Fate → Plan
take_fate h b x p fate.Good = take_frame h b x p p.frame
take_fate h b x p fate.Lost = closes x
take_fate h b x p fate.Twice = twice h.per_ledger b (λ now. take_frame h now x p p.frame)

unfoldable pub take_packet : Site → Broker → ℕ → Fate → Option Packet → Plan
take_packet h b x f None = idle_plan
take_packet h b x f (Some p) = take_fate h b x p f

-- receipt: the index that was sent under a number is acknowledged on the replicator's cursor, also for a duplicate
abbrev pub receives : ℕ → ℕ → Option ℕ → Plan
receives y seq None = quiet_plan []
receives y seq (Some i) = plan_of (write.ReplicatorAck y i ∷ []) (change.Unpend y seq ∷ []) []

abbrev pub opens : ℕ → ReplicatorState → Plan
opens y replicator_state.Opening = quiet_plan (change.Opened y ∷ [])
opens y replicator_state.Open = quiet_plan []
opens y replicator_state.Closed = quiet_plan []

abbrev pub receipt_command : ℕ → Replicator → Frame → Plan
receipt_command y s (frame.ProducerSuccess request name) = opens y s.state
receipt_command y s (frame.SendReceipt id seq position) = receives y seq (pending_index s.pending seq)
receipt_command y s command = quiet_plan []

-- what answers another session has no effect
abbrev pub receipt_packet : Broker → ℕ → Packet → Plan
receipt_packet b y p = if p.session == (replicator_at b y).session then receipt_command y (replicator_at b y) p.frame else quiet_plan []

abbrev pub receipt_fate : Site → Broker → ℕ → Packet → Fate → Plan
receipt_fate h b y p fate.Good = receipt_packet b y p
receipt_fate h b y p fate.Lost = quiet_plan []
receipt_fate h b y p fate.Twice = twice h.per_ledger b (λ now. receipt_packet now y p)

unfoldable pub receipt : Site → Broker → ℕ → Fate → Option Packet → Plan
receipt h b y f None = idle_plan
receipt h b y f (Some p) = receipt_fate h b y p f
