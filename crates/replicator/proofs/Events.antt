-- The machine's events are what a replicator and a receiver answer, branch by branch: a broker that reads does what its replicator to the
-- other cluster answers, one that takes a packet what its receiver does, and one that hears an answer what its replicator makes of it.
use Rattle.std.proofs.Common.{◌≡◌, ℕ, ◌==◌, Bool, true, false, List, [], length, refl, ap, sym, ◌∙◌}
use Rattle.std.specs.Prelude.{◌&&◌, if◌then◌else◌, Option, Some, None, slice_get}
use Rattle.std.specs.Str.{bytes_eq}
use Rattle.geo_base.specs.declared.entry.Content.{Content}
use Rattle.geo_base.specs.declared.entry.Content.TheVariants as content
use Rattle.geo_base.specs.declared.entry.Entry.{Entry}
use Rattle.geo_base.specs.declared.frame.Frame.{Frame}
use Rattle.geo_base.specs.declared.frame.Frame.TheVariants as frame
use Rattle.geo_base.specs.declared.packet.Packet.{Packet}
use Rattle.geo_base.specs.declared.replicator.ReplicatorState.{ReplicatorState}
use Rattle.geo_base.specs.declared.replicator.ReplicatorState.TheVariants as replicator_state
use Rattle.geo_base.specs.Broker.{Broker, Site, receiver_at, replicator_at}
use Rattle.geo_base.specs.Entry.{goes_to}
use Rattle.geo_base.specs.Forwarding.{closes, is_remote, opens, receipt_command, receipt_packet, receives, take_command, take_frame, take_in}
use Rattle.geo_base.specs.Markers.{read_content}
use Rattle.geo_base.specs.Plan.{Plan, idle_plan, quiet_plan, unless_found}
use Rattle.geo_base.specs.Reading.{forwards, read, read_at, read_entry}
use Rattle.geo_base.specs.Receiver.{is_open}
use Rattle.geo_base.specs.Replicator.{Replicator, index_to_read, pending_index}
use Rattle.replicator.specs.declared.reading.ReadOut.TheVariants as reads
use Rattle.replicator.specs.declared.receiver.Taken.TheVariants as takes
use Rattle.replicator.specs.declared.answering.Heard.TheVariants as hears
use Rattle.replicator.specs.Answering.{heard, heard_receipt, is_opening}
use Rattle.replicator.specs.Events.{is_to_open, is_unreadable, plan_of_answer, plan_of_read, plan_of_take}
use Rattle.replicator.specs.Sending.{sending_of}
use Rattle.replicator.specs.Reading.{read_out, read_out_at, read_out_entry, read_out_other}
use Rattle.replicator.specs.Taking.{taken}

-- plans and answers by the same test
by_test : {X : Type 0} (f : X → Plan) (t : Bool) (p q : Plan) (x y : X) → p ≡ f x → q ≡ f y → (if t then p else q) ≡ f (if t then x else y)
by_test f true p q x y h k = h
by_test f false p q x y h k = k

-- the plan for the entry at an index
at_entry : (o : Option Entry) (e : Entry) (f : Entry → Plan) → o ≡ Some e → f e ≡ unless_found idle_plan o f
at_entry o e f at = sym (ap (λ (o : Option Entry). unless_found idle_plan o f) at)

read_as_content : (h : Site) (b : Broker) (y i : ℕ) (e : Entry) (c : Content) → slice_get b.entries i ≡ Some e → e.content ≡ c → read_content h b y i c ≡ plan_of_read h b y (read_out_other i c)
read_as_content h b y i e content.Data at is = refl
read_as_content h b y i e (content.Unread k) at is = refl
read_as_content h b y i e (content.Marked m) at is =
    sym (ap (λ (c : Content). read_content h b y i c) is) ∙ at_entry (slice_get b.entries i) e (λ (e : Entry). read_content h b y i e.content) at

read_as_entry : (h : Site) (b : Broker) (y i : ℕ) (o : Option Entry) → slice_get b.entries i ≡ o → read_entry h b y i o ≡ plan_of_read h b y (read_out_entry h.own y (replicator_at b y).next i o)
read_as_entry h b y i None at = refl
read_as_entry h b y i (Some e) at =
    by_test (plan_of_read h b y) ((e.ident.origin == h.own) && goes_to y e.to) _ _ (reads.Send i (replicator_at b y).next) (if e.ident.origin == y then read_out_other i e.content else reads.Skip i)
    (at_entry (slice_get b.entries i) e (λ (e : Entry). forwards h y (replicator_at b y) i e) at)
    (by_test (plan_of_read h b y) (e.ident.origin == y) _ _ (read_out_other i e.content) (reads.Skip i) (read_as_content h b y i e e.content at refl) refl)

read_as_index : (h : Site) (b : Broker) (y : ℕ) (o : Option ℕ) → read_at h b y o ≡ plan_of_read h b y (read_out_at h.own y (replicator_at b y).next b.entries o)
read_as_index h b y None = refl
read_as_index h b y (Some i) = read_as_entry h b y i (slice_get b.entries i) refl

pub read_as_answered : (h : Site) (b : Broker) (y : ℕ) → is_remote h y ≡ true → read h b y ≡ plan_of_read h b y (read_out h.own y (replicator_at b y) b.entries)
unfolding read
read_as_answered h b y remote = rw remote (read_as_index h b y (index_to_read (replicator_at b y).state (replicator_at b y) (length b.entries)))

-- what does not open a session counts in the one that is open
in_session : (h : Site) (b : Broker) (x : ℕ) (p : Packet) (f : Frame) → p.frame ≡ f → take_in h b x p ≡ plan_of_take h b x p.session f (if is_open (receiver_at b x) p.session then takes.Process else takes.Discard)
in_session h b x p f is =
    by_test (plan_of_take h b x p.session f) (is_open (receiver_at b x) p.session) _ _ takes.Process takes.Discard (ap (λ (f : Frame). take_command h b x p.session f) is) refl

-- a frame that can't be read closes the session
abbrev framed : Site → Broker → ℕ → ℕ → Frame → Plan
framed h b x session f =
    if is_unreadable f then closes x else plan_of_take h b x session f (taken (receiver_at b x) session (is_to_open h session f))

take_as_frame : (h : Site) (b : Broker) (x : ℕ) (p : Packet) (f : Frame) → p.frame ≡ f → take_frame h b x p f ≡ framed h b x p.session f
take_as_frame h b x p frame.Unreadable is = refl
take_as_frame h b x p (frame.Producer topic id request name) is =
    by_test (plan_of_take h b x p.session (frame.Producer topic id request name)) (bytes_eq topic h.topic && (id == p.session)) _ _ takes.Opened (if is_open (receiver_at b x) p.session then takes.Process else takes.Discard)
    refl (in_session h b x p (frame.Producer topic id request name) is)
take_as_frame h b x p frame.Connect is = in_session h b x p frame.Connect is
take_as_frame h b x p frame.Connected is = in_session h b x p frame.Connected is
take_as_frame h b x p (frame.Subscribe topic sub kind id request consumer earliest replicated) is = in_session h b x p (frame.Subscribe topic sub kind id request consumer earliest replicated) is
take_as_frame h b x p (frame.Send id seq source entry) is = in_session h b x p (frame.Send id seq source entry) is
take_as_frame h b x p (frame.SendReceipt id seq position) is = in_session h b x p (frame.SendReceipt id seq position) is
take_as_frame h b x p (frame.SendError id seq code) is = in_session h b x p (frame.SendError id seq code) is
take_as_frame h b x p (frame.Message id position source entry) is = in_session h b x p (frame.Message id position source entry) is
take_as_frame h b x p (frame.Ack id kind positions) is = in_session h b x p (frame.Ack id kind positions) is
take_as_frame h b x p (frame.Flow id permits) is = in_session h b x p (frame.Flow id permits) is
take_as_frame h b x p (frame.Unsubscribe id request) is = in_session h b x p (frame.Unsubscribe id request) is
take_as_frame h b x p (frame.Success request) is = in_session h b x p (frame.Success request) is
take_as_frame h b x p (frame.Error request code) is = in_session h b x p (frame.Error request code) is
take_as_frame h b x p (frame.CloseProducer id request) is = in_session h b x p (frame.CloseProducer id request) is
take_as_frame h b x p (frame.CloseConsumer id request) is = in_session h b x p (frame.CloseConsumer id request) is
take_as_frame h b x p (frame.ProducerSuccess request name) is = in_session h b x p (frame.ProducerSuccess request name) is
take_as_frame h b x p frame.Ping is = in_session h b x p frame.Ping is
take_as_frame h b x p frame.Pong is = in_session h b x p frame.Pong is

-- a packet of the forward link does what its receiver makes of its session, where it can be read
pub take_as_answered : (h : Site) (b : Broker) (x : ℕ) (p : Packet)
    → take_frame h b x p p.frame ≡ (if is_unreadable p.frame then closes x else plan_of_take h b x p.session p.frame (taken (receiver_at b x) p.session (is_to_open h p.session p.frame)))
take_as_answered h b x p = take_as_frame h b x p p.frame refl

-- what a frame of the back link means, by its session
quiet_both : (t : Bool) → (if t then quiet_plan [] else quiet_plan []) ≡ quiet_plan []
quiet_both true = refl
quiet_both false = refl

success_as_heard : (y : ℕ) (current : Bool) (state : ReplicatorState) → (if current then opens y state else quiet_plan []) ≡ plan_of_answer y (if current && is_opening state then hears.Opened else hears.Nothing)
success_as_heard y true replicator_state.Opening = refl
success_as_heard y true replicator_state.Open = refl
success_as_heard y true replicator_state.Closed = refl
success_as_heard y false state = refl

index_as_heard : (y number : ℕ) (o : Option ℕ) → receives y number o ≡ plan_of_answer y (heard_receipt number o)
index_as_heard y number None = refl
index_as_heard y number (Some i) = refl

receipt_as_heard : (y number : ℕ) (current : Bool) (o : Option ℕ) → (if current then receives y number o else quiet_plan []) ≡ plan_of_answer y (heard_receipt number (if current then o else None))
receipt_as_heard y number true o = index_as_heard y number o
receipt_as_heard y number false o = refl

frame_as_heard : (y session : ℕ) (f : Frame) (s : Replicator) → (if session == s.session then receipt_command y s f else quiet_plan []) ≡ plan_of_answer y (heard session f (sending_of s))
frame_as_heard y session (frame.ProducerSuccess request name) s = success_as_heard y (session == s.session) s.state
frame_as_heard y session (frame.SendReceipt id number position) s = receipt_as_heard y number (session == s.session) (pending_index s.pending number)
frame_as_heard y session frame.Connect s = quiet_both (session == s.session)
frame_as_heard y session frame.Connected s = quiet_both (session == s.session)
frame_as_heard y session (frame.Subscribe topic sub kind id request consumer earliest replicated) s = quiet_both (session == s.session)
frame_as_heard y session (frame.Producer topic id request name) s = quiet_both (session == s.session)
frame_as_heard y session (frame.Send id seq source entry) s = quiet_both (session == s.session)
frame_as_heard y session (frame.SendError id seq code) s = quiet_both (session == s.session)
frame_as_heard y session (frame.Message id position source entry) s = quiet_both (session == s.session)
frame_as_heard y session (frame.Ack id kind positions) s = quiet_both (session == s.session)
frame_as_heard y session (frame.Flow id permits) s = quiet_both (session == s.session)
frame_as_heard y session (frame.Unsubscribe id request) s = quiet_both (session == s.session)
frame_as_heard y session (frame.Success request) s = quiet_both (session == s.session)
frame_as_heard y session (frame.Error request code) s = quiet_both (session == s.session)
frame_as_heard y session (frame.CloseProducer id request) s = quiet_both (session == s.session)
frame_as_heard y session (frame.CloseConsumer id request) s = quiet_both (session == s.session)
frame_as_heard y session frame.Ping s = quiet_both (session == s.session)
frame_as_heard y session frame.Pong s = quiet_both (session == s.session)
frame_as_heard y session frame.Unreadable s = quiet_both (session == s.session)

-- a packet of the back link does what its replicator hears
pub answer_as_heard : (b : Broker) (y : ℕ) (p : Packet) → receipt_packet b y p ≡ plan_of_answer y (heard p.session p.frame (sending_of (replicator_at b y)))
answer_as_heard b y p = frame_as_heard y p.session p.frame (replicator_at b y)
