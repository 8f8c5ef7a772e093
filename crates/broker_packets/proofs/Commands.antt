-- What a frame is that no earlier arm took.
use Rattle.std.proofs.Common.{◌≡◌, ◌≢◌, ℕ, Bool, false, List, refl, sym, ap}
use Rattle.std.specs.Prelude.{Option, None}
use Rattle.geo_base.specs.declared.entry.Entry.{Entry}
use Rattle.geo_base.specs.declared.frame.AckKind.{AckKind}
use Rattle.geo_base.specs.declared.frame.Frame.{Frame}
use Rattle.geo_base.specs.declared.frame.Frame.TheVariants as frame
use Rattle.geo_base.specs.declared.frame.SubKind.{SubKind}
use Rattle.geo_base.specs.declared.marker.ClusterRef.{ClusterRef}
use Rattle.geo_base.specs.declared.packet.Packet.{Packet}
use Rattle.geo_base.specs.declared.position.Position.{Position}
use Rattle.geo_base.specs.declared.session.Session.{Session}
use Rattle.geo_base.specs.Broker.{Broker, Site}
use Rattle.geo_base.specs.Plan.{quiet_plan}
use Rattle.geo_base.specs.Serving.{serve_command, serve_frame, session_becomes}
use Rattle.broker_packets.specs.Serving.{connects, is_consumers, is_producers, serves_in}

pub connect_served : (h : Site) (b : Broker) (c : ℕ) (p : Packet) (f : Frame) → f ≡ frame.Connect → connects c p.session ≡ serve_frame h b c p f
connect_served h b c p f is = ap (λ (g : Frame). serve_frame h b c p g) (sym is)

pub unreadable_served : (h : Site) (b : Broker) (c : ℕ) (p : Packet) (f : Frame) → f ≡ frame.Unreadable → quiet_plan (session_becomes c None) ≡ serve_frame h b c p f
unreadable_served h b c p f is = ap (λ (g : Frame). serve_frame h b c p g) (sym is)

-- it counts in its session
pub in_session : (h : Site) (b : Broker) (c : ℕ) (p : Packet) (f : Frame) → f ≢ frame.Connect → f ≢ frame.Unreadable
    → serve_frame h b c p f ≡ serves_in h b c p.session p.frame
in_session h b c p frame.Connect no_connect no_unreadable = absurd (no_connect refl)
in_session h b c p frame.Connected no_connect no_unreadable = refl
in_session h b c p (frame.Subscribe topic n kind id request consumer earliest replicated) no_connect no_unreadable = refl
in_session h b c p (frame.Producer topic id request name) no_connect no_unreadable = refl
in_session h b c p (frame.Send id seq source e) no_connect no_unreadable = refl
in_session h b c p (frame.SendReceipt id seq position) no_connect no_unreadable = refl
in_session h b c p (frame.SendError id seq code) no_connect no_unreadable = refl
in_session h b c p (frame.Message id position source e) no_connect no_unreadable = refl
in_session h b c p (frame.Ack id kind positions) no_connect no_unreadable = refl
in_session h b c p (frame.Flow id permits) no_connect no_unreadable = refl
in_session h b c p (frame.Unsubscribe id request) no_connect no_unreadable = refl
in_session h b c p (frame.Success request) no_connect no_unreadable = refl
in_session h b c p (frame.Error request code) no_connect no_unreadable = refl
in_session h b c p (frame.CloseProducer id request) no_connect no_unreadable = refl
in_session h b c p (frame.CloseConsumer id request) no_connect no_unreadable = refl
in_session h b c p (frame.ProducerSuccess request name) no_connect no_unreadable = refl
in_session h b c p frame.Ping no_connect no_unreadable = refl
in_session h b c p frame.Pong no_connect no_unreadable = refl
in_session h b c p frame.Unreadable no_connect no_unreadable = absurd (no_unreadable refl)

-- no command of a producer
pub not_producers : (f : Frame) → ((topic : List ℕ) (id request : ℕ) (name : Option (List ℕ)) → f ≢ frame.Producer topic id request name) → ((id seq : ℕ) (source : Option ClusterRef) (e : Entry) → f ≢ frame.Send id seq source e) → ((id request : ℕ) → f ≢ frame.CloseProducer id request)
    → is_producers f ≡ false
not_producers frame.Connect no_producer no_send no_close_producer = refl
not_producers frame.Connected no_producer no_send no_close_producer = refl
not_producers (frame.Subscribe topic n kind id request consumer earliest replicated) no_producer no_send no_close_producer = refl
not_producers (frame.Producer topic id request name) no_producer no_send no_close_producer = absurd (no_producer topic id request name refl)
not_producers (frame.Send id seq source e) no_producer no_send no_close_producer = absurd (no_send id seq source e refl)
not_producers (frame.SendReceipt id seq position) no_producer no_send no_close_producer = refl
not_producers (frame.SendError id seq code) no_producer no_send no_close_producer = refl
not_producers (frame.Message id position source e) no_producer no_send no_close_producer = refl
not_producers (frame.Ack id kind positions) no_producer no_send no_close_producer = refl
not_producers (frame.Flow id permits) no_producer no_send no_close_producer = refl
not_producers (frame.Unsubscribe id request) no_producer no_send no_close_producer = refl
not_producers (frame.Success request) no_producer no_send no_close_producer = refl
not_producers (frame.Error request code) no_producer no_send no_close_producer = refl
not_producers (frame.CloseProducer id request) no_producer no_send no_close_producer = absurd (no_close_producer id request refl)
not_producers (frame.CloseConsumer id request) no_producer no_send no_close_producer = refl
not_producers (frame.ProducerSuccess request name) no_producer no_send no_close_producer = refl
not_producers frame.Ping no_producer no_send no_close_producer = refl
not_producers frame.Pong no_producer no_send no_close_producer = refl
not_producers frame.Unreadable no_producer no_send no_close_producer = refl

-- none by which a consumer comes or goes
pub not_consumers : (f : Frame) → ((topic sub : List ℕ) (kind : SubKind) (id request : ℕ) (consumer : Option (List ℕ)) (earliest replicated : Bool) → f ≢ frame.Subscribe topic sub kind id request consumer earliest replicated) → ((id request : ℕ) → f ≢ frame.Unsubscribe id request) → ((id request : ℕ) → f ≢ frame.CloseConsumer id request)
    → is_consumers f ≡ false
not_consumers frame.Connect no_subscribe no_unsubscribe no_close_consumer = refl
not_consumers frame.Connected no_subscribe no_unsubscribe no_close_consumer = refl
not_consumers (frame.Subscribe topic n kind id request consumer earliest replicated) no_subscribe no_unsubscribe no_close_consumer = absurd (no_subscribe topic n kind id request consumer earliest replicated refl)
not_consumers (frame.Producer topic id request name) no_subscribe no_unsubscribe no_close_consumer = refl
not_consumers (frame.Send id seq source e) no_subscribe no_unsubscribe no_close_consumer = refl
not_consumers (frame.SendReceipt id seq position) no_subscribe no_unsubscribe no_close_consumer = refl
not_consumers (frame.SendError id seq code) no_subscribe no_unsubscribe no_close_consumer = refl
not_consumers (frame.Message id position source e) no_subscribe no_unsubscribe no_close_consumer = refl
not_consumers (frame.Ack id kind positions) no_subscribe no_unsubscribe no_close_consumer = refl
not_consumers (frame.Flow id permits) no_subscribe no_unsubscribe no_close_consumer = refl
not_consumers (frame.Unsubscribe id request) no_subscribe no_unsubscribe no_close_consumer = absurd (no_unsubscribe id request refl)
not_consumers (frame.Success request) no_subscribe no_unsubscribe no_close_consumer = refl
not_consumers (frame.Error request code) no_subscribe no_unsubscribe no_close_consumer = refl
not_consumers (frame.CloseProducer id request) no_subscribe no_unsubscribe no_close_consumer = refl
not_consumers (frame.CloseConsumer id request) no_subscribe no_unsubscribe no_close_consumer = absurd (no_close_consumer id request refl)
not_consumers (frame.ProducerSuccess request name) no_subscribe no_unsubscribe no_close_consumer = refl
not_consumers frame.Ping no_subscribe no_unsubscribe no_close_consumer = refl
not_consumers frame.Pong no_subscribe no_unsubscribe no_close_consumer = refl
not_consumers frame.Unreadable no_subscribe no_unsubscribe no_close_consumer = refl

-- one that a client's link does not carry
pub not_carried : (h : Site) (b : Broker) (c : ℕ) (s : Session) (f : Frame) → is_producers f ≡ false → is_consumers f ≡ false → ((id permits : ℕ) → f ≢ frame.Flow id permits) → ((id : ℕ) (kind : AckKind) (positions : List Position) → f ≢ frame.Ack id kind positions) → f ≢ frame.Ping → f ≢ frame.Pong
    → serve_command h b c s f ≡ quiet_plan (session_becomes c None)
not_carried h b c s frame.Connect producers consumers no_flow no_ack no_ping no_pong = refl
not_carried h b c s frame.Connected producers consumers no_flow no_ack no_ping no_pong = refl
not_carried h b c s (frame.Subscribe topic n kind id request consumer earliest replicated) producers consumers no_flow no_ack no_ping no_pong = absurd cc
not_carried h b c s (frame.Producer topic id request name) producers consumers no_flow no_ack no_ping no_pong = absurd cc
not_carried h b c s (frame.Send id seq source e) producers consumers no_flow no_ack no_ping no_pong = absurd cc
not_carried h b c s (frame.SendReceipt id seq position) producers consumers no_flow no_ack no_ping no_pong = refl
not_carried h b c s (frame.SendError id seq code) producers consumers no_flow no_ack no_ping no_pong = refl
not_carried h b c s (frame.Message id position source e) producers consumers no_flow no_ack no_ping no_pong = refl
not_carried h b c s (frame.Ack id kind positions) producers consumers no_flow no_ack no_ping no_pong = absurd (no_ack id kind positions refl)
not_carried h b c s (frame.Flow id permits) producers consumers no_flow no_ack no_ping no_pong = absurd (no_flow id permits refl)
not_carried h b c s (frame.Unsubscribe id request) producers consumers no_flow no_ack no_ping no_pong = absurd cc
not_carried h b c s (frame.Success request) producers consumers no_flow no_ack no_ping no_pong = refl
not_carried h b c s (frame.Error request code) producers consumers no_flow no_ack no_ping no_pong = refl
not_carried h b c s (frame.CloseProducer id request) producers consumers no_flow no_ack no_ping no_pong = absurd cc
not_carried h b c s (frame.CloseConsumer id request) producers consumers no_flow no_ack no_ping no_pong = absurd cc
not_carried h b c s (frame.ProducerSuccess request name) producers consumers no_flow no_ack no_ping no_pong = refl
not_carried h b c s frame.Ping producers consumers no_flow no_ack no_ping no_pong = absurd (no_ping refl)
not_carried h b c s frame.Pong producers consumers no_flow no_ack no_ping no_pong = absurd (no_pong refl)
not_carried h b c s frame.Unreadable producers consumers no_flow no_ack no_ping no_pong = refl
