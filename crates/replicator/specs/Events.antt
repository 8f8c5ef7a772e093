-- The machine's events, told by what a replicator and a receiver answer.
use Rattle.std.specs.Prelude.{ℕ, Bool, true, false, ◌==◌, ◌&&◌, [], ◌∷◌, Some, slice_get}
use Rattle.std.specs.Str.{bytes_eq}
use Rattle.geo_base.specs.declared.change.Change.TheVariants as change
use Rattle.geo_base.specs.declared.entry.Entry.{Entry}
use Rattle.geo_base.specs.declared.frame.Frame.{Frame}
use Rattle.geo_base.specs.declared.frame.Frame.TheVariants as frame
use Rattle.geo_base.specs.declared.packet.Peer.TheVariants as peer
use Rattle.geo_base.specs.declared.write.Write.TheVariants as write
use Rattle.geo_base.specs.Broker.{Broker, Site, replicator_at}
use Rattle.geo_base.specs.Forwarding.{link_producer, take_command}
use Rattle.geo_base.specs.Link.{sends}
use Rattle.geo_base.specs.Markers.{read_content}
use Rattle.geo_base.specs.Plan.{Plan, idle_plan, plan_of, quiet_plan, unless_found}
use Rattle.geo_base.specs.Reading.{forwards}
use Rattle.geo_base.specs.Updating.{handled}
use Rattle.replicator.specs.declared.answering.Heard.{Heard}
use Rattle.replicator.specs.declared.answering.Heard.TheVariants as hears
use Rattle.replicator.specs.declared.reading.ReadOut.{ReadOut}
use Rattle.replicator.specs.declared.reading.ReadOut.TheVariants as reads
use Rattle.replicator.specs.declared.receiver.Taken.{Taken}
use Rattle.replicator.specs.declared.receiver.Taken.TheVariants as takes

-- a read: the entry is sent, or acted on, or skipped
abbrev pub plan_of_read : Site → Broker → ℕ → ReadOut → Plan
plan_of_read h b y reads.Idle = idle_plan
plan_of_read h b y (reads.Skip i) = handled y i [] []
plan_of_read h b y (reads.Mark i) = unless_found idle_plan (slice_get b.entries i) (λ (e : Entry). read_content h b y i e.content)
plan_of_read h b y (reads.Send i number) = unless_found idle_plan (slice_get b.entries i) (λ (e : Entry). forwards h y (replicator_at b y) i e)

-- a PRODUCER of the topic whose producer id is the packet's session is to open it
abbrev pub is_to_open : Site → ℕ → Frame → Bool
is_to_open h session (frame.Producer topic id request name) = bytes_eq topic h.topic && (id == session)
is_to_open h session command = false

abbrev pub opened_by : Site → ℕ → Frame → Plan
opened_by h x (frame.Producer topic id request name) =
    plan_of [] (change.Receiver x (Some id) ∷ []) (sends (peer.Back x) id (frame.ProducerSuccess request (link_producer h x)))
opened_by h x command = quiet_plan []

abbrev pub is_unreadable : Frame → Bool
is_unreadable frame.Unreadable = true
is_unreadable command = false

-- a take of a frame of a session that can be read: it opens its session, which is answered, or is acted on in the session, or
-- has no effect
abbrev pub plan_of_take : Site → Broker → ℕ → ℕ → Frame → Taken → Plan
plan_of_take h b x session f takes.Opened = opened_by h x f
plan_of_take h b x session f takes.Process = take_command h b x session f
plan_of_take h b x session f takes.Discard = quiet_plan []

-- what answers the session that is begun opens it, what answers a number acknowledges its index, and all else has no effect
abbrev pub plan_of_answer : ℕ → Heard → Plan
plan_of_answer y hears.Nothing = quiet_plan []
plan_of_answer y hears.Opened = quiet_plan (change.Opened y ∷ [])
plan_of_answer y (hears.Receipt number i) = plan_of (write.ReplicatorAck y i ∷ []) (change.Unpend y number ∷ []) []
