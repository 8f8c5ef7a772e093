-- The walk through serve: each branch has its shape.
use Rattle.std.proofs.Common.{◌≡◌, ℕ, Bool, true, false, List, [], ◌∷◌, refl, sym, ◌==◌}
use Rattle.std.specs.Prelude.{Option, Some, None, if◌then◌else◌, ◌&&◌, ◌||◌, not, nat_le, nat_lt, length, is_some, take, codes}
use Rattle.std.specs.List.{list_any}
use Rattle.std.specs.Str.{bytes_eq}
use Rattle.world_laws.proofs.Types.{AckKind, Cut, Entry, Frame, Packet, ClusterRef, Position, Session, SubKind, Write}
use Rattle.world_laws.proofs.Types.frame
use Rattle.world_laws.proofs.Types.write
use Rattle.geo_base.specs.Acknowledging.{acked_indexes, acks, serve_ack}
use Rattle.geo_base.specs.Answers.{answer}
use Rattle.geo_base.specs.Broker.{Broker, Site, session_at, sub_named}
use Rattle.geo_base.specs.Cache.{last_passed}
use Rattle.geo_base.specs.Cursor.{mark}
use Rattle.geo_base.specs.Entry.{with_origin}
use Rattle.geo_base.specs.Name.{is_name}
use Rattle.geo_base.specs.Plan.{plan_of, quiet_plan, unless_found}
use Rattle.geo_base.specs.Position.{no_position}
use Rattle.geo_base.specs.Producing.{is_sound, is_taken, may_attach, most_producer_name, name_with, serve_close_producer, serve_producer, serve_send, stores}
use Rattle.geo_base.specs.Serving.{serve_command, serve_frame}
use Rattle.geo_base.specs.Storing.{appending_update, update_after}
use Rattle.geo_base.specs.Subscribing.{consumed_by, has_room, is_busy, joins, same_kind, serve_close_consumer, serve_flow, serve_subscribe, serve_unsubscribe, subscribes}
use Rattle.geo_base.specs.Subscription.{Subscription, is_attached, with_acks}
use Rattle.geo_base.specs.Topic.{accepts, next_position}
use Rattle.world_laws.proofs.Walks.Shapes.{InSession, IsSound, MayJoin, Served, Updates}
use Rattle.world_laws.proofs.Walks.Walk.{left, on_found, on_if, on_test, right}

-- an update follows, or none
passed_updates : (h : Site) (b : Broker) (v : Subscription) (o : Option Cut) → v.replicated ≡ true → last_passed (mark v.cursor) v.cache ≡ o
    → Updates h b v (appending_update h b v.name o)
passed_updates h b v None replicated is = Updates.NoUpdate
passed_updates h b v (Some cut) replicated is = Updates.Update cut replicated is

pub updates_after : (h : Site) (b : Broker) (v : Subscription) → Updates h b v (update_after h b v)
updates_after h b v =
    on_test (λ (o : Option Cut). Updates h b v (appending_update h b v.name o)) v.replicated _ _
    (λ r. passed_updates h b v (last_passed (mark v.cursor) v.cache) r refl) (λ _. Updates.NoUpdate)

not_false : (a : Bool) → not a ≡ false → a ≡ true
not_false true h = refl
not_false false h = sym h

producer_served : (h : Site) (b : Broker) (c : ℕ) (p : Packet) (s : Session) (topic : List ℕ) (id request : ℕ) (n : Option (List ℕ)) → InSession b c p s
    → Served h b c p (serve_producer h b c s topic id request n)
producer_served h b c p s topic id request None at = Served.Answers s _ (at, tt)
producer_served h b c p s topic id request (Some n) at =
    on_test (Served h b c p) (not (bytes_eq topic h.topic && may_attach n)) _ _ (λ _. Served.Answers s _ (at, tt))
    (λ may. on_if (Served h b c p) (is_taken n c 0 b.sessions) _ _ (Served.Answers s _ (at, tt))
    (Served.ChangesProducers s _ (frame.ProducerSuccess request n)
    (at, left (nat_le (length n) most_producer_name) (not (bytes_eq (take 7 n) (codes "pulsar."))) (right (bytes_eq topic h.topic) (may_attach n) (not_false _ may)))))

stored_served : (h : Site) (b : Broker) (c : ℕ) (p : Packet) (s : Session) (id seq : ℕ) (source : Option ClusterRef) (e : Entry) (a : Bool)
    → InSession b c p s → IsSound h s p id seq source e → accepts b.entries (with_origin h.own e).ident ≡ a
    → Served h b c p (plan_of (if a then write.Append (with_origin h.own e) ∷ [] else []) []
    (answer c s (frame.SendReceipt id seq (Some (if a then next_position h.per_ledger b.ledgers else no_position)))))
stored_served h b c p s id seq source e true at sound is = Served.Stores s id seq source e at sound is
stored_served h b c p s id seq source e false at sound is = Served.Repeats s id seq source e at sound is

send_served : (h : Site) (b : Broker) (c : ℕ) (p : Packet) (s : Session) (id seq : ℕ) (source : Option ClusterRef) (e : Entry) (n : Option (List ℕ))
    → InSession b c p s → p.frame ≡ frame.Send id seq source e → name_with id s.producers ≡ n
    → Served h b c p (serve_send h b c s id seq source e n)
send_served h b c p s id seq source e None at is named = Served.Answers s _ (at, tt)
send_served h b c p s id seq source e (Some n) at is named =
    on_test (Served h b c p) (is_sound h n seq source e) (stores h b c s id seq (with_origin h.own e)) _
    (λ sound. stored_served h b c p s id seq source e (accepts b.entries (with_origin h.own e).ident) at (is, (n, named, sound)) refl)
    (λ _. Served.Answers s _ (at, tt))

closed_served : (h : Site) (b : Broker) (c : ℕ) (p : Packet) (s : Session) (id request : ℕ) → InSession b c p s → Served h b c p (serve_close_producer c s id request)
closed_served h b c p s id request at =
    on_if (Served h b c p) (is_some (name_with id s.producers)) _ _ (Served.ChangesProducers s _ _ (at, tt)) (Served.Answers s _ (at, tt))

joined_served : (h : Site) (b : Broker) (c : ℕ) (p : Packet) (s : Session) (topic n : List ℕ) (kind : SubKind) (id request : ℕ) (consumer : Option (List ℕ)) (earliest replicated : Bool) (o : Option Subscription)
    → InSession b c p s → p.frame ≡ frame.Subscribe topic n kind id request consumer earliest replicated → MayJoin h b c topic n → sub_named b.subs n ≡ o
    → Served h b c p (subscribes c s n kind id request earliest replicated o)
joined_served h b c p s topic n kind id request consumer earliest replicated None at is may named =
    Served.Creates s topic n kind id request consumer earliest replicated at is may named
joined_served h b c p s topic n kind id request consumer earliest replicated (Some v) at is may named =
    on_test (Served h b c p) (is_busy kind v) _ _ (λ _. Served.Answers s _ (at, tt))
    (λ free. on_test (λ (ws : List Write). Served h b c p (joins c s n id request ws)) (same_kind kind v.kind && (v.replicated || not replicated)) _ _
    (λ same. Served.Joins s topic n kind id request consumer earliest replicated v at is may named free same)
    (λ other. Served.Alters s topic n kind id request consumer earliest replicated v at is may named free other))

subscribe_served : (h : Site) (b : Broker) (c : ℕ) (p : Packet) (s : Session) (topic n : List ℕ) (kind : SubKind) (id request : ℕ) (consumer : Option (List ℕ)) (earliest replicated : Bool)
    → InSession b c p s → p.frame ≡ frame.Subscribe topic n kind id request consumer earliest replicated
    → Served h b c p (serve_subscribe h b c s topic n kind id request earliest replicated)
subscribe_served h b c p s topic n kind id request consumer earliest replicated at is =
    on_test (Served h b c p) (not (bytes_eq topic h.topic && is_name n && has_room b n)) _ _ (λ _. Served.Answers s _ (at, tt))
    (λ ok. on_test (Served h b c p) (list_any (is_attached c) b.subs) _ _ (λ _. Served.Answers s _ (at, tt))
    (λ alone. joined_served h b c p s topic n kind id request consumer earliest replicated (sub_named b.subs n) at is (not_false _ ok, alone) refl))

flow_served : (h : Site) (b : Broker) (c : ℕ) (p : Packet) (s : Session) (id permits : ℕ) (o : Option Subscription)
    → InSession b c p s → p.frame ≡ frame.Flow id permits → consumed_by b.subs c id ≡ o → Served h b c p (serve_flow c permits o)
flow_served h b c p s id permits None at is by = Served.Ignores
flow_served h b c p s id permits (Some v) at is by = Served.Permits s id permits v at is by

acked_served : (h : Site) (b : Broker) (c : ℕ) (p : Packet) (s : Session) (id : ℕ) (kind : AckKind) (ps : List Position) (v : Subscription) (is : List ℕ)
    → InSession b c p s → p.frame ≡ frame.Ack id kind ps → consumed_by b.subs c id ≡ Some v → acked_indexes b.ledgers v.kind ps kind ≡ is
    → Served h b c p (acks h b v is)
acked_served h b c p s id kind ps v [] at is by of = Served.Ignores
acked_served h b c p s id kind ps v (i ∷ is) at sent by of =
    Served.Acknowledges s id kind ps v i is _ at sent by of (updates_after h b (with_acks (i ∷ is) v))

ack_served : (h : Site) (b : Broker) (c : ℕ) (p : Packet) (s : Session) (id : ℕ) (kind : AckKind) (ps : List Position) (o : Option Subscription)
    → InSession b c p s → p.frame ≡ frame.Ack id kind ps → consumed_by b.subs c id ≡ o → Served h b c p (serve_ack h b kind ps o)
ack_served h b c p s id kind ps None at is by = Served.Ignores
ack_served h b c p s id kind ps (Some v) at is by = acked_served h b c p s id kind ps v (acked_indexes b.ledgers v.kind ps kind) at is by refl

unsubscribe_served : (h : Site) (b : Broker) (c : ℕ) (p : Packet) (s : Session) (id request : ℕ) (o : Option Subscription)
    → InSession b c p s → p.frame ≡ frame.Unsubscribe id request → consumed_by b.subs c id ≡ o → Served h b c p (serve_unsubscribe c s request o)
unsubscribe_served h b c p s id request None at is by = Served.Answers s _ (at, tt)
unsubscribe_served h b c p s id request (Some v) at is by =
    on_test (Served h b c p) (nat_lt 1 (length v.consumers)) _ _ (λ _. Served.Answers s _ (at, tt)) (λ last. Served.Unsubscribes s id request v at is by last)

leave_served : (h : Site) (b : Broker) (c : ℕ) (p : Packet) (s : Session) (id request : ℕ) (o : Option Subscription)
    → InSession b c p s → p.frame ≡ frame.CloseConsumer id request → consumed_by b.subs c id ≡ o → Served h b c p (serve_close_consumer c s request o)
leave_served h b c p s id request None at is by = Served.Answers s _ (at, tt)
leave_served h b c p s id request (Some v) at is by = Served.ClosesConsumer s id request v at is by

command_served : (h : Site) (b : Broker) (c : ℕ) (p : Packet) (s : Session) (f : Frame) → InSession b c p s → p.frame ≡ f → Served h b c p (serve_command h b c s f)
command_served h b c p s (frame.Producer topic id request n) at is = producer_served h b c p s topic id request n at
command_served h b c p s (frame.Send id seq source e) at is = send_served h b c p s id seq source e (name_with id s.producers) at is refl
command_served h b c p s (frame.CloseProducer id request) at is = closed_served h b c p s id request at
command_served h b c p s (frame.Subscribe topic n kind id request consumer earliest replicated) at is =
    subscribe_served h b c p s topic n kind id request consumer earliest replicated at is
command_served h b c p s (frame.Flow id permits) at is = flow_served h b c p s id permits (consumed_by b.subs c id) at is refl
command_served h b c p s (frame.Ack id kind ps) at is = ack_served h b c p s id kind ps (consumed_by b.subs c id) at is refl
command_served h b c p s (frame.Unsubscribe id request) at is = unsubscribe_served h b c p s id request (consumed_by b.subs c id) at is refl
command_served h b c p s (frame.CloseConsumer id request) at is = leave_served h b c p s id request (consumed_by b.subs c id) at is refl
command_served h b c p s frame.Ping at is = Served.Answers s _ (at, tt)
command_served h b c p s frame.Pong at is = Served.Ignores
command_served h b c p s f at is = Served.Disconnects

in_served : (h : Site) (b : Broker) (c : ℕ) (p : Packet)
    → Served h b c p (unless_found (quiet_plan []) (session_at b c) (λ s. if s.number == p.session then serve_command h b c s p.frame else quiet_plan []))
in_served h b c p =
    on_found (Served h b c p) (quiet_plan []) (session_at b c) _ (λ _. Served.Ignores)
    (λ s at. on_test (Served h b c p) (s.number == p.session) _ _ (λ same. command_served h b c p s p.frame (at, same) refl) (λ _. Served.Ignores))

pub frame_served : (h : Site) (b : Broker) (c : ℕ) (p : Packet) (f : Frame) → p.frame ≡ f → Served h b c p (serve_frame h b c p f)
frame_served h b c p frame.Connect is = Served.Connects _ is refl
frame_served h b c p frame.Unreadable is = Served.Disconnects
frame_served h b c p f is = in_served h b c p
