-- No event looks at the origin of an entry in a packet: serve and take set their own, get that of the frame's source or of
-- the link, and nothing else looks at an entry.
use Rattle.std.proofs.Common.{◌≡◌, ℕ, List, [], refl, sym, ap, ◌∙◌, ◌==◌}
use Rattle.std.specs.Prelude.{Option, Some, None, if◌then◌else◌}
use Rattle.world_laws.proofs.Types.{Entry, Event, Fate, Frame, Packet, ClusterRef, Position, Session}
use Rattle.world_laws.proofs.Types.event
use Rattle.world_laws.proofs.Types.fate
use Rattle.world_laws.proofs.Types.frame
use Rattle.world_laws.proofs.Types.cluster_ref
use Rattle.geo_base.specs.Agreement.{IsAlike, without_origin}
use Rattle.geo_base.specs.Broker.{Broker, Site, session_at}
use Rattle.geo_base.specs.Client.{Client, becomes}
use Rattle.geo_base.specs.Entry.{with_origin}
use Rattle.geo_base.specs.Forwarding.{receipt, take_packet}
use Rattle.geo_base.specs.Getting.{get, got_message}
use Rattle.geo_base.specs.Happening.{client_acted}
use Rattle.geo_base.specs.NodeState.{BrokerState, ClientState, NodeState, acts, broker_acted, from_acted}
use Rattle.geo_base.specs.Plan.{Plan, quiet_plan, unless_found}
use Rattle.geo_base.specs.Planned.{broker_plan}
use Rattle.geo_base.specs.Producing.{name_with, serve_send}
use Rattle.geo_base.specs.Serving.{serve, serve_command}
use Rattle.geo_base.specs.Setup.{Declared, Setup, declared_at}
use Rattle.geo_base.specs.World.{site}

-- what is the same for the two frames that carry an entry is the same for all
of_frame : {X : Type 0} (g : Frame → X) → ((id seq : ℕ) (source : Option ClusterRef) (e : Entry) → g (frame.Send id seq source (with_origin 0 e)) ≡ g (frame.Send id seq source e))
    → ((id : ℕ) (position : Position) (source : Option ClusterRef) (e : Entry) → g (frame.Message id position source (with_origin 0 e)) ≡ g (frame.Message id position source e))
    → (f : Frame) → g (without_origin f) ≡ g f
of_frame g send message frame.Connect = refl
of_frame g send message frame.Connected = refl
of_frame g send message (frame.Subscribe topic sub kind id request consumer earliest replicated) = refl
of_frame g send message (frame.Producer topic id request name) = refl
of_frame g send message (frame.Send id seq source e) = send id seq source e
of_frame g send message (frame.SendReceipt id seq position) = refl
of_frame g send message (frame.SendError id seq code) = refl
of_frame g send message (frame.Message id position source e) = message id position source e
of_frame g send message (frame.Ack id kind positions) = refl
of_frame g send message (frame.Flow id permits) = refl
of_frame g send message (frame.Unsubscribe id request) = refl
of_frame g send message (frame.Success request) = refl
of_frame g send message (frame.Error request code) = refl
of_frame g send message (frame.CloseProducer id request) = refl
of_frame g send message (frame.CloseConsumer id request) = refl
of_frame g send message (frame.ProducerSuccess request name) = refl
of_frame g send message frame.Ping = refl
of_frame g send message frame.Pong = refl
of_frame g send message frame.Unreadable = refl

abbrev pub packet_of : ℕ → ℕ → Frame → Option Packet
packet_of session stamp f = Some (record { session = session; stamp = stamp; frame = f })

send_served : (h : Site) (b : Broker) (c : ℕ) (s : Session) (id seq : ℕ) (source : Option ClusterRef) (e : Entry) (o : Option (List ℕ))
    → serve_send h b c s id seq source (with_origin 0 e) o ≡ serve_send h b c s id seq source e o
send_served h b c s id seq source e None = refl
send_served h b c s id seq source e (Some n) = refl

-- of the open session, if there is one
in_session : (h : Site) (b : Broker) (c n m id seq : ℕ) (source : Option ClusterRef) (e : Entry) (o : Option Session)
    → unless_found (quiet_plan []) o (λ s. if s.number == n then serve_command h b c s (frame.Send id seq source (with_origin 0 e)) else quiet_plan [])
    ≡ unless_found (quiet_plan []) o (λ s. if s.number == n then serve_command h b c s (frame.Send id seq source e) else quiet_plan [])
in_session h b c n m id seq source e None = refl
in_session h b c n m id seq source e (Some s) =
    ap (λ (p : Plan). if s.number == n then p else quiet_plan []) (send_served h b c s id seq source e (name_with id s.producers))

pub serve_same : (h : Site) (b : Broker) (c n m : ℕ) (f : Frame) → serve h b c (packet_of n m (without_origin f)) ≡ serve h b c (packet_of n m f)
unfolding serve
serve_same h b c n m f =
    of_frame (λ (f : Frame). serve h b c (packet_of n m f)) (λ id seq source e. in_session h b c n m id seq source e (session_at b c))
    (λ id position source e. refl) f

pub take_same : (h : Site) (b : Broker) (x : ℕ) (fate' : Fate) (n m : ℕ) (f : Frame)
    → take_packet h b x fate' (packet_of n m (without_origin f)) ≡ take_packet h b x fate' (packet_of n m f)
unfolding take_packet
take_same h b x fate.Good n m f = of_frame (λ (f : Frame). take_packet h b x fate.Good (packet_of n m f)) (λ id seq source e. refl) (λ id position source e. refl) f
take_same h b x fate.Lost n m f = refl
take_same h b x fate.Twice n m f = of_frame (λ (f : Frame). take_packet h b x fate.Twice (packet_of n m f)) (λ id seq source e. refl) (λ id position source e. refl) f

pub receipt_same : (h : Site) (b : Broker) (y : ℕ) (fate' : Fate) (n m : ℕ) (f : Frame)
    → receipt h b y fate' (packet_of n m (without_origin f)) ≡ receipt h b y fate' (packet_of n m f)
unfolding receipt
receipt_same h b y fate.Good n m f = of_frame (λ (f : Frame). receipt h b y fate.Good (packet_of n m f)) (λ id seq source e. refl) (λ id position source e. refl) f
receipt_same h b y fate.Lost n m f = refl
receipt_same h b y fate.Twice n m f = of_frame (λ (f : Frame). receipt h b y fate.Twice (packet_of n m f)) (λ id seq source e. refl) (λ id position source e. refl) f

got_same : (k : Client) (id : ℕ) (position : Position) (source : Option ClusterRef) (e : Entry) → got_message k id position source (with_origin 0 e) ≡ got_message k id position source e
got_same k id position None e = refl
got_same k id position (Some (cluster_ref.Known x)) e = refl
got_same k id position (Some (cluster_ref.Stranger name)) e = refl

pub get_same : (d : Declared) (k : Client) (n m : ℕ) (f : Frame) → get d k (packet_of n m (without_origin f)) ≡ get d k (packet_of n m f)
unfolding get
get_same d k n m f =
    of_frame (λ (f : Frame). get d k (packet_of n m f)) (λ id seq source e. refl)
    (λ id position source e. ap (λ (got : Client). becomes (if n == k.connection then got else k) []) (got_same k id position source e)) f

plan_same : (s : Setup) (b : Broker) (n m : ℕ) (f : Frame) (e : Event) → broker_plan s b e (packet_of n m (without_origin f)) ≡ broker_plan s b e (packet_of n m f)
plan_same s b n m f (event.Serve x c) = serve_same (site s (declared_at s c).topic x) b c n m f
plan_same s b n m f (event.Take t x y fate') = take_same (site s t y) b x fate' n m f
plan_same s b n m f (event.Receipt t x y fate') = receipt_same (site s t x) b y fate' n m f
plan_same s b n m f e = refl

acted_same : (s : Setup) (k : Client) (n m : ℕ) (f : Frame) (e : Event) → client_acted s k e (packet_of n m (without_origin f)) ≡ client_acted s k e (packet_of n m f)
acted_same s k n m f (event.Get c) = get_same (declared_at s c) k n m f
acted_same s k n m f e = refl

acts_same : (s : Setup) (n m : ℕ) (f : Frame) (st : NodeState) (e : Event) → acts s st e (packet_of n m (without_origin f)) ≡ acts s st e (packet_of n m f)
acts_same s n m f (BrokerState b) e = ap (broker_acted s.per_ledger b) (plan_same s b n m f e)
acts_same s n m f (ClientState k) e = ap from_acted (acted_same s k n m f e)

-- packets that differ in that origin alone are alike
pub alike_without_origin : (s : Setup) (p q : Packet) → p.session ≡ q.session → p.stamp ≡ q.stamp → without_origin p.frame ≡ without_origin q.frame → IsAlike s p q
alike_without_origin s p q session stamp frames = record {
  stamp = stamp;
  acts = λ st e.
      sym (acts_same s p.session p.stamp p.frame st e)
      ∙ (ap (λ (n : ℕ). acts s st e (packet_of n p.stamp (without_origin p.frame))) session
      ∙ (ap (λ (m : ℕ). acts s st e (packet_of q.session m (without_origin p.frame))) stamp
      ∙ (ap (λ (f : Frame). acts s st e (packet_of q.session q.stamp f)) frames ∙ acts_same s q.session q.stamp q.frame st e)));
}
