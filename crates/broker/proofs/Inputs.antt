-- What was read of a packet has the plan of each packet that its bytes stand for.
use Rattle.std.proofs.Common.{◌≡◌, ◌≢◌, ℕ, List, refl, sym, ◌∙◌, subst}
use Rattle.std.specs.Prelude.{Option, Some, None, Result, Ok, Err, OnOk}
use Rattle.geo_base.specs.declared.event.Event.{Event}
use Rattle.geo_base.specs.declared.event.Event.TheVariants as event
use Rattle.geo_base.specs.declared.event.Fate.{Fate}
use Rattle.geo_base.specs.declared.frame.Frame.{Frame}
use Rattle.geo_base.specs.declared.frame.Frame.TheVariants as frame
use Rattle.geo_base.specs.declared.memory.Memory.{Memory}
use Rattle.geo_base.specs.declared.packet.Packet.{Packet}
use Rattle.geo_base.specs.Broker.{Broker, Site}
use Rattle.geo_base.specs.Plan.{Plan}
use Rattle.frame_values.specs.Standing.{bare}
use Rattle.frame_values.proofs.Bare.{reads_stand}
use Rattle.frame_values.proofs.One.{value_one}
use Rattle.frame_laws.specs.BytePackets.{StandsForPacket, bare_packet}
use Rattle.frame_laws.proofs.Bare.{receipt_bare, serve_bare, take_bare}
use Rattle.wire_ends.specs.declared.packet.WirePacket.{WirePacket}
use Rattle.broker_state.specs.Plan.{PlanView}
use Rattle.broker_plans.specs.Prepared.{IsPrepared}
use Rattle.broker.specs.Events.{plan_at}
use Rattle.broker_plans.specs.declared.usual.Came.{Came}
use Rattle.broker_plans.specs.Usual.{send_viewed}
use Rattle.broker.specs.declared.reading.Receipt.{Receipt}
use Rattle.broker.specs.Input.{IsInputPrepared, IsReceiptOf, IsSaid, IsSendOf, ReadsInput, ReadsPacket, StandsForInput}

abbrev pub packet_by : ℕ → ℕ → Frame → Packet
packet_by session stamp frame = record { session = session; stamp = stamp; frame = frame }

same_packet : {s u t v : ℕ} {f g : Frame} → s ≡ u → t ≡ v → f ≡ g → packet_by s t f ≡ packet_by u v g
same_packet a b c = rw (a, b, c) refl

is_bare : (names : List (List ℕ)) (b : WirePacket) (q p : Packet) → ReadsPacket names b q → StandsForPacket names b p → q ≡ bare_packet p
is_bare names b q p reads stands =
    same_packet (reads.session ∙ sym stands.session) (reads.stamp ∙ sym stands.stamp) (value_one names b.frame q.frame (bare p.frame) reads.frame stands.frame)

-- no event looks at what bytes do not say
bare_plan : (h : Site) (names : List (List ℕ)) (b : Broker) (e : Event) (p : Packet) → plan_at h names b e (Some (bare_packet p)) ≡ plan_at h names b e (Some p)
bare_plan h names b (event.Serve x c) p = serve_bare h b c p
bare_plan h names b (event.Drop x c) p = refl
bare_plan h names b (event.Reset t x y) p = refl
bare_plan h names b (event.Read t x y) p = refl
bare_plan h names b (event.Take t x y f) p = take_bare h b x f p
bare_plan h names b (event.Receipt t x y f) p = receipt_bare h b y f p
bare_plan h names b (event.Snap t x) p = refl
bare_plan h names b (event.Offer t x n) p = refl
bare_plan h names b (event.Seek t x n to) p = refl
bare_plan h names b (event.Restart t x) p = refl
bare_plan h names b (event.Go c) p = refl
bare_plan h names b (event.Get c) p = refl
bare_plan h names b (event.Reconnect c) p = refl

read_plan : (h : Site) (names : List (List ℕ)) (b : Broker) (e : Event) (i : Option WirePacket) (q v : Option Packet) → ReadsInput h.clusters i q → StandsForInput h.clusters i v
    → plan_at h names b e q ≡ plan_at h names b e v
read_plan h names b e None None None reads stands = refl
read_plan h names b e None None (Some p) reads stands = absurd stands
read_plan h names b e None (Some q) v reads stands = absurd reads
read_plan h names b e (Some k) None v reads stands = absurd reads
read_plan h names b e (Some k) (Some q) None reads stands = absurd stands
read_plan h names b e (Some k) (Some q) (Some p) reads stands =
    rw (is_bare h.clusters k q p reads stands) (bare_plan h names b e p)

pub prepared_for : (h : Site) (names : List (List ℕ)) (b : Broker) (e : Event) (i : Option WirePacket) (v : Option Packet) (p : PlanView) (r : Result (Unit {0}) Memory)
    → OnOk r (IsInputPrepared h b (plan_at h names b e) i p) → StandsForInput h.clusters i v → OnOk r (IsPrepared h b (plan_at h names b e v) p)
prepared_for h names b e i v p (Ok u) is stands = subst (λ (plan : Plan). IsPrepared h b plan p) (read_plan h names b e i is.said v is.reads stands) is.prepared
prepared_for h names b e i v p (Err m) is stands = tt

-- what was read is what its bytes stand for
said_of : (names : List (List ℕ)) (i : Option WirePacket) (q : Option Packet) → ReadsInput names i q → IsSaid names i
said_of names None None reads = record { said = None; stands = tt }
said_of names None (Some q) reads = absurd reads
said_of names (Some k) None reads = absurd reads
said_of names (Some k) (Some q) reads =
    record { said = Some q; stands = record { session = reads.session; stamp = reads.stamp; frame = reads_stand names k.frame q.frame reads.frame } }

pub said_for : (h : Site) (b : Broker) (f : Option Packet → Plan) (i : Option WirePacket) (p : PlanView) (r : Result (Unit {0}) Memory) → OnOk r (IsInputPrepared h b f i p) → OnOk r (IsSaid h.clusters i)
said_for h b f i p (Ok u) is = said_of h.clusters i is.said is.reads
said_for h b f i p (Err m) is = tt

-- ---- what was prepared, without a packet and with the one that was read

pub alone : (h : Site) (b : Broker) (f : Option Packet → Plan) (i : Option WirePacket) (p : PlanView) (r : Result (Unit {0}) Memory) → i ≡ None
    → OnOk r (IsPrepared h b (f None) p) → OnOk r (IsInputPrepared h b f i p)
alone h b f i p (Ok u) none is = record { said = None; reads = rw none tt; prepared = is }
alone h b f i p (Err m) none is = tt

pub read_prepared : (h now : Site) (b : Broker) (f : Option Packet → Plan) (w : WirePacket) (q : Packet) (p : PlanView) (r : Result (Unit {0}) Memory) → now ≡ h → ReadsPacket now.clusters w q
    → OnOk r (IsPrepared h b (f (Some q)) p) → OnOk r (IsInputPrepared h b f (Some w) p)
read_prepared h now b f w q p (Ok u) same reads is = record { said = Some q; reads = subst (λ (g : Site). ReadsPacket g.clusters w q) same reads; prepared = is }
read_prepared h now b f w q p (Err m) same reads is = tt

-- with a SEND of the usual form
pub send_prepared : (h : Site) (b : Broker) (f : Option Packet → Plan) (w : WirePacket) (m : Came) (p : PlanView) (r : Result (Unit {0}) Memory) → IsSendOf w m
    → ((stamp : ℕ) → OnOk r (IsPrepared h b (f (Some (packet_by m.session stamp (send_viewed h.clusters m)))) p)) → OnOk r (IsInputPrepared h b f (Some w) p)
send_prepared h b f w m p (Ok u) is prepared =
    record { said = Some (packet_by m.session w.stamp (send_viewed h.clusters m)); reads = record { session = is.session; stamp = refl; frame = is.said h.clusters }; prepared = prepared w.stamp }
send_prepared h b f w m p (Err e) is prepared = tt

-- with a receipt of the usual form
pub receipt_prepared : (h : Site) (b : Broker) (f : Option Packet → Plan) (w : WirePacket) (k : Receipt) (p : PlanView) (r : Result (Unit {0}) Memory) → IsReceiptOf w k
    → OnOk r (IsPrepared h b (f (Some (packet_by w.session w.stamp (frame.SendReceipt k.id k.seq (Some k.position))))) p) → OnOk r (IsInputPrepared h b f (Some w) p)
receipt_prepared h b f w k p (Ok u) is prepared =
    record { said = Some (packet_by w.session w.stamp (frame.SendReceipt k.id k.seq (Some k.position))); reads = record { session = refl; stamp = refl; frame = is.said h.clusters }; prepared = prepared }
receipt_prepared h b f w k p (Err e) is prepared = tt

-- an event that looks at no packet
no_look : (h : Site) (names : List (List ℕ)) (b : Broker) (e : Event) (q : Packet) → ((x c : ℕ) → e ≢ event.Serve x c) → ((t x y : ℕ) (f : Fate) → e ≢ event.Take t x y f) → ((t x y : ℕ) (f : Fate) → e ≢ event.Receipt t x y f)
    → plan_at h names b e None ≡ plan_at h names b e (Some q)
no_look h names b (event.Serve x c) q no_serve no_take no_receipt = absurd (no_serve x c refl)
no_look h names b (event.Take t x y f) q no_serve no_take no_receipt = absurd (no_take t x y f refl)
no_look h names b (event.Receipt t x y f) q no_serve no_take no_receipt = absurd (no_receipt t x y f refl)
no_look h names b (event.Drop x c) q no_serve no_take no_receipt = refl
no_look h names b (event.Reset t x y) q no_serve no_take no_receipt = refl
no_look h names b (event.Read t x y) q no_serve no_take no_receipt = refl
no_look h names b (event.Snap t x) q no_serve no_take no_receipt = refl
no_look h names b (event.Offer t x n) q no_serve no_take no_receipt = refl
no_look h names b (event.Seek t x n to) q no_serve no_take no_receipt = refl
no_look h names b (event.Restart t x) q no_serve no_take no_receipt = refl
no_look h names b (event.Go c) q no_serve no_take no_receipt = refl
no_look h names b (event.Get c) q no_serve no_take no_receipt = refl
no_look h names b (event.Reconnect c) q no_serve no_take no_receipt = refl

pub read_alone : (h now : Site) (names : List (List ℕ)) (b : Broker) (e : Event) (w : WirePacket) (q : Packet) (p : PlanView) (r : Result (Unit {0}) Memory)
    → ((x c : ℕ) → e ≢ event.Serve x c) → ((t x y : ℕ) (f : Fate) → e ≢ event.Take t x y f) → ((t x y : ℕ) (f : Fate) → e ≢ event.Receipt t x y f)
    → now ≡ h → ReadsPacket now.clusters w q → OnOk r (IsPrepared h b (plan_at h names b e None) p) → OnOk r (IsInputPrepared h b (plan_at h names b e) (Some w) p)
read_alone h now names b e w q p (Ok u) no_serve no_take no_receipt same reads is =
    record {
      said = Some q;
      reads = subst (λ (g : Site). ReadsPacket g.clusters w q) same reads;
      prepared = subst (λ (plan : Plan). IsPrepared h b plan p) (no_look h names b e q no_serve no_take no_receipt) is;
    }
read_alone h now names b e w q p (Err m) no_serve no_take no_receipt same reads is = tt

-- what was prepared of a broker's own parts is so of what they show
pub prepared_here : (h g : Site) (names ns : List (List ℕ)) (b d : Broker) (e : Event) (i : Option WirePacket) (v : Option Packet) (p : PlanView) (r : Result (Unit {0}) Memory) → g ≡ h → ns ≡ names → d ≡ b
    → OnOk r (IsInputPrepared g d (plan_at g ns d e) i p) → StandsForInput h.clusters i v → OnOk r (IsPrepared h b (plan_at h names b e v) p)
prepared_here h g names ns b d e i v p r site named broker is stands =
    prepared_for h names b e i v p r
    (subst (λ (x : Broker). OnOk r (IsInputPrepared h x (plan_at h names x e) i p)) broker
    (subst (λ (xs : List (List ℕ)). OnOk r (IsInputPrepared h d (plan_at h xs d e) i p)) named
    (subst (λ (x : Site). OnOk r (IsInputPrepared x d (plan_at x ns d e) i p)) site is)))
    stands
