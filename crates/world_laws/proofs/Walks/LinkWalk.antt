-- The walk through the events of the links between clusters: take and receipt, each with its fate.
use Rattle.std.proofs.Common.{◌≡◌, ℕ, Bool, true, false, List, [], ◌∷◌, refl, sym, ◌∙◌, ap, ◌==◌}
use Rattle.std.specs.Prelude.{Option, Some, None, if◌then◌else◌, ◌&&◌}
use Rattle.std.specs.Str.{bytes_eq}
use Rattle.std.proofs.lemmas.Bool.{false≢true}
use Rattle.world_laws.proofs.Types.{Entry, Fate, Frame, Packet, ClusterRef, Position, ReplicatorState}
use Rattle.world_laws.proofs.Types.fate
use Rattle.world_laws.proofs.Types.frame
use Rattle.world_laws.proofs.Types.peer
use Rattle.world_laws.proofs.Types.replicator_state
use Rattle.world_laws.proofs.Types.write
use Rattle.geo_base.specs.Broker.{Broker, Site, receiver_at, replicator_at}
use Rattle.geo_base.specs.Entry.{with_origin}
use Rattle.geo_base.specs.Forwarding.{closes, opens, receipt_command, receipt_fate, receipt_packet, receives, take_command, take_fate, take_frame, take_in}
use Rattle.geo_base.specs.Link.{sends}
use Rattle.geo_base.specs.Plan.{Plan, done, plan_of, quiet_plan, twice}
use Rattle.geo_base.specs.Position.{no_position}
use Rattle.geo_base.specs.Receiver.{is_open}
use Rattle.geo_base.specs.Replicator.{pending_index}
use Rattle.geo_base.specs.Topic.{accepts, next_position}
use Rattle.world_laws.proofs.Walks.Shapes.{Answered, Fated, InLink, Taken, is_answer, is_opening, may_store}
use Rattle.world_laws.proofs.Walks.Walk.{on_test}

-- take
stored_taken : (h : Site) (b : Broker) (x : ℕ) (p : Packet) (id seq : ℕ) (source : Option ClusterRef) (e : Entry) (a : Bool)
    → p.frame ≡ frame.Send id seq source e → is_open (receiver_at b x) p.session ≡ true → may_store h x p.frame ≡ true
    → accepts b.entries (with_origin x e).ident ≡ a
    → Taken h b x p (plan_of (if a then write.Append (with_origin x e) ∷ [] else []) []
    (sends (peer.Back x) p.session (frame.SendReceipt p.session seq (Some (if a then next_position h.per_ledger b.ledgers else no_position)))))
stored_taken h b x p id seq source e true is at may new = Taken.Stores id seq source e is at may new
stored_taken h b x p id seq source e false is at may old = Taken.Repeats id seq source e is at may old

command_taken : (h : Site) (b : Broker) (x : ℕ) (p : Packet) (f : Frame) → p.frame ≡ f → is_opening h p f ≡ false → is_open (receiver_at b x) p.session ≡ true
    → Taken h b x p (take_command h b x p.session f)
command_taken h b x p (frame.Send id seq source e) is other at =
    on_test (Taken h b x p) (may_store h x (frame.Send id seq source e)) _ _
    (λ may. stored_taken h b x p id seq source e (accepts b.entries (with_origin x e).ident) is at (ap (may_store h x) is ∙ may) refl)
    (λ may. Taken.Refuses (ap (is_opening h p) is) at (ap (may_store h x) is ∙ may))
command_taken h b x p f is other at = Taken.Refuses (ap (is_opening h p) is ∙ other) at (ap (may_store h x) is)

in_taken : (h : Site) (b : Broker) (x : ℕ) (p : Packet) → is_opening h p p.frame ≡ false → Taken h b x p (take_in h b x p)
in_taken h b x p other =
    on_test (Taken h b x p) (is_open (receiver_at b x) p.session) _ _ (λ at. command_taken h b x p p.frame refl other at) (λ shut. Taken.Discards other shut)

pub frame_taken : (h : Site) (b : Broker) (x : ℕ) (p : Packet) (f : Frame) → p.frame ≡ f → Taken h b x p (take_frame h b x p f)
frame_taken h b x p frame.Unreadable is = Taken.Unreadable is
frame_taken h b x p (frame.Producer topic id request name) is =
    on_test (Taken h b x p) (bytes_eq topic h.topic && (id == p.session)) _ _ (λ opening. Taken.Opens topic id request name is opening)
    (λ other. in_taken h b x p (ap (is_opening h p) is ∙ other))
frame_taken h b x p f is = in_taken h b x p (ap (is_opening h p) is)

-- no plan of an action on a packet is idle
pub taken_acts : (h : Site) (b : Broker) (x : ℕ) (p : Packet) (q : Plan) → Taken h b x p q → q.idle ≡ false
taken_acts h b x p q (Taken.Unreadable is) = refl
taken_acts h b x p q (Taken.Opens topic id request name is opening) = refl
taken_acts h b x p q (Taken.Discards other shut) = refl
taken_acts h b x p q (Taken.Refuses other at may) = refl
taken_acts h b x p q (Taken.Stores id seq source e is at may new) = refl
taken_acts h b x p q (Taken.Repeats id seq source e is at may old) = refl

-- an action done twice in a row
twice_fated : (per : ℕ) (b : Broker) (Acts : Broker → Plan → Type 0) (lost : Plan) (f : Broker → Plan) → ((c : Broker) → Acts c (f c)) → (f b).idle ≡ false
    → Fated per b Acts lost (twice per b f)
twice_fated per b Acts lost f acts acted =
    on_test (Fated per b Acts lost) (f b).idle (f b) _ (λ idle. absurd (false≢true (sym acted ∙ idle)))
    (λ _. Fated.Twice (f b) (f (done per b (f b))) (acts b) (acts (done per b (f b))))

pub fate_taken : (h : Site) (b : Broker) (x : ℕ) (p : Packet) (f : Fate) → Fated h.per_ledger b (λ c. Taken h c x p) (closes x) (take_fate h b x p f)
fate_taken h b x p fate.Good = Fated.Once _ (frame_taken h b x p p.frame refl)
fate_taken h b x p fate.Lost = Fated.Lost
fate_taken h b x p fate.Twice =
    twice_fated h.per_ledger b (λ c. Taken h c x p) (closes x) (λ c. take_frame h c x p p.frame) (λ c. frame_taken h c x p p.frame refl)
    (taken_acts h b x p _ (frame_taken h b x p p.frame refl))

-- receipt
opened_answered : (b : Broker) (y : ℕ) (p : Packet) (request : ℕ) (name : List ℕ) (state : ReplicatorState) → InLink b y p
    → p.frame ≡ frame.ProducerSuccess request name → (replicator_at b y).state ≡ state → Answered b y p (opens y state)
opened_answered b y p request name replicator_state.Opening at is state = Answered.Opened request name at is state
opened_answered b y p request name replicator_state.Open at is state = Answered.OpenBefore request name at is state
opened_answered b y p request name replicator_state.Closed at is state = Answered.ClosedBefore request name at is state

received_answered : (b : Broker) (y : ℕ) (p : Packet) (id n : ℕ) (position : Option Position) (o : Option ℕ) → InLink b y p
    → p.frame ≡ frame.SendReceipt id n position → pending_index (replicator_at b y).pending n ≡ o → Answered b y p (receives y n o)
received_answered b y p id n position None at is pending = Answered.ReceivedBefore id n position at is pending
received_answered b y p id n position (Some i) at is pending = Answered.Received id n i position at is pending

command_answered : (b : Broker) (y : ℕ) (p : Packet) (f : Frame) → InLink b y p → p.frame ≡ f → Answered b y p (receipt_command y (replicator_at b y) f)
command_answered b y p (frame.ProducerSuccess request name) at is = opened_answered b y p request name (replicator_at b y).state at is refl
command_answered b y p (frame.SendReceipt id n position) at is = received_answered b y p id n position (pending_index (replicator_at b y).pending n) at is refl
command_answered b y p f at is = Answered.Other at (ap is_answer is)

pub packet_answered : (b : Broker) (y : ℕ) (p : Packet) → Answered b y p (receipt_packet b y p)
packet_answered b y p =
    on_test (Answered b y p) (p.session == (replicator_at b y).session) _ _ (λ at. command_answered b y p p.frame at refl) (λ other. Answered.Stale other)

pub answered_acts : (b : Broker) (y : ℕ) (p : Packet) (q : Plan) → Answered b y p q → q.idle ≡ false
answered_acts b y p q (Answered.Stale other) = refl
answered_acts b y p q (Answered.Other at other) = refl
answered_acts b y p q (Answered.Opened request name at is state) = refl
answered_acts b y p q (Answered.OpenBefore request name at is state) = refl
answered_acts b y p q (Answered.ClosedBefore request name at is state) = refl
answered_acts b y p q (Answered.Received id n i position at is pending) = refl
answered_acts b y p q (Answered.ReceivedBefore id n position at is pending) = refl

pub fate_answered : (h : Site) (b : Broker) (y : ℕ) (p : Packet) (f : Fate) → Fated h.per_ledger b (λ c. Answered c y p) (quiet_plan []) (receipt_fate h b y p f)
fate_answered h b y p fate.Good = Fated.Once _ (packet_answered b y p)
fate_answered h b y p fate.Lost = Fated.Lost
fate_answered h b y p fate.Twice =
    twice_fated h.per_ledger b (λ c. Answered c y p) (quiet_plan []) (λ c. receipt_packet c y p) (λ c. packet_answered c y p)
    (answered_acts b y p _ (packet_answered b y p))
