-- A producer is refused with the code that says why, and attaches where there is none; and what it publishes.
use Rattle.std.proofs.Common.{◌≡◌, ℕ, ◌≤◌, Bool, true, false, List, [], ◌∷◌, length, refl, sym, ◌∙◌, ap, subst, arith}
use Rattle.std.specs.Prelude.{◌==◌, if◌then◌else◌, not, ◌&&◌, ◌||◌, nat_le, is_none, is_some, Option, Some, None}
use Rattle.std.specs.Str.{bytes_eq}
use Rattle.std.proofs.lemmas.Bool.{eq-eqb, leb-true}
use Rattle.std.proofs.lemmas.Bool.Decides.{nat_tests}
use Rattle.geo_base.specs.declared.entry.Entry.{Entry}
use Rattle.geo_base.specs.declared.frame.Frame.{Frame}
use Rattle.geo_base.specs.declared.frame.Frame.TheVariants as frame
use Rattle.geo_base.specs.declared.marker.ClusterRef.{ClusterRef}
use Rattle.geo_base.specs.declared.packet.Peer.TheVariants as peer
use Rattle.geo_base.specs.declared.position.Position.{Position}
use Rattle.geo_base.specs.declared.session.AttachedProducer.{AttachedProducer}
use Rattle.geo_base.specs.declared.session.Session.{Session}
use Rattle.geo_base.specs.Answers.{answer, answers, producer_busy, refuses, succeeds, unknown_error}
use Rattle.geo_base.specs.Broker.{Broker, Site}
use Rattle.geo_base.specs.Entry.{is_data, with_origin}
use Rattle.geo_base.specs.Plan.{plan_of}
use Rattle.geo_base.specs.Producing.{attaches, is_sound, is_taken, may_attach, name_with, serve_close_producer, serve_producer, serve_send, stores, with_producers, without_producer}
use Rattle.geo_base.specs.Sizes.{entry_size, most_entry_size}
use Rattle.geo_base.specs.Storing.{receipt_position, storing}
use Rattle.broker_state.specs.Plan.{PlanView}
use Rattle.broker_plans.specs.Prepared.{AlsoSends, IsPrepared}
use Rattle.broker_plans.specs.Storable.{IsReadEntry, IsStorable}
use Rattle.broker_packets.specs.Producing.{has_id, published, refusal}
use Rattle.broker_packets.specs.Serving.{open_at}
use Rattle.broker_packets.proofs.Shapes.{answers_more, chosen, plan_at}
pub use Rattle.geo_base.proofs.Bools.{and_second as last_true}

producer_served : (h : Site) (b : Broker) (c : ℕ) (s : Session) (topic : List ℕ) (id request : ℕ) (n : List ℕ) → serve_producer h b c s topic id request (Some n) ≡ plan_at (refusal h b c topic n) (λ code. refuses c s request code) (attaches c s id request n)
producer_served h b c s topic id request n =
    chosen (not (bytes_eq topic h.topic && may_attach n)) (is_taken n c 0 b.sessions) unknown_error producer_busy (λ code. refuses c s request code) (attaches c s id request n)

pub refused_producer : (h : Site) (b : Broker) (c : ℕ) (s : Session) (topic : List ℕ) (id request : ℕ) (n : List ℕ) (code : ℕ) → refusal h b c topic n ≡ Some code → refuses c s request code ≡ serve_producer h b c s topic id request (Some n)
refused_producer h b c s topic id request n code is =
    sym (producer_served h b c s topic id request n ∙ ap (λ (o : Option ℕ). plan_at o (λ k. refuses c s request k) (attaches c s id request n)) is)

pub attached_producer : (h : Site) (b : Broker) (c : ℕ) (s : Session) (topic : List ℕ) (id request : ℕ) (n : List ℕ) → refusal h b c topic n ≡ None → attaches c s id request n ≡ serve_producer h b c s topic id request (Some n)
attached_producer h b c s topic id request n is =
    sym (producer_served h b c s topic id request n ∙ ap (λ (o : Option ℕ). plan_at o (λ k. refuses c s request k) (attaches c s id request n)) is)

-- by what was asked of the topic, the name and the other clients
pub refusal_when : (h : Site) (b : Broker) (c : ℕ) (topic n : List ℕ) (t u : Bool) → (bytes_eq topic h.topic && may_attach n) ≡ t → is_taken n c 0 b.sessions ≡ u
    → refusal h b c topic n ≡ (if not t then Some unknown_error else if u then Some producer_busy else None)
refusal_when h b c topic n t u allowed taken =
    ap (λ (x : Bool). if not x then Some unknown_error else if is_taken n c 0 b.sessions then Some producer_busy else None) allowed
    ∙ ap (λ (y : Bool). if not t then Some unknown_error else if y then Some producer_busy else None) taken

pub taken_as : (c : ℕ) (n m : List ℕ) (ss us : List (Option Session)) (t : Bool) → n ≡ m → ss ≡ us → t ≡ is_taken n c 0 ss → is_taken m c 0 us ≡ t
taken_as c n m ss us t same_name same_sessions told = sym (told ∙ rw (same_name, same_sessions) refl)

-- a name that may attach is short enough to be answered
pub short_name : (n : List ℕ) → may_attach n ≡ true → length n ≤ 1024
short_name n may = grind (arith, nat_tests)

-- ---- what a producer publishes

pub sound_sent : (h : Site) (b : Broker) (c : ℕ) (s : Session) (id seq : ℕ) (source : Option ClusterRef) (e : Entry) (o : Option (List ℕ)) → published h o seq source e ≡ true
    → serve_send h b c s id seq source e o ≡ stores h b c s id seq (with_origin h.own e)
sound_sent h b c s id seq source e None sound = absurd cc
sound_sent h b c s id seq source e (Some n) sound = rw sound refl

pub unsound_sent : (h : Site) (b : Broker) (c : ℕ) (s : Session) (id seq : ℕ) (source : Option ClusterRef) (e : Entry) (o : Option (List ℕ)) → published h o seq source e ≡ false
    → serve_send h b c s id seq source e o ≡ answers c s (frame.SendError id seq unknown_error)
unsound_sent h b c s id seq source e None sound = refl
unsound_sent h b c s id seq source e (Some n) sound = rw sound refl

small_enough : (h : Site) (n : List ℕ) (seq : ℕ) (source : Option ClusterRef) (e : Entry) → is_sound h n seq source e ≡ true → entry_size h.clusters e ≤ most_entry_size
small_enough h n seq source e sound =
    leb-true (entry_size h.clusters e) most_entry_size
    (last_true (bytes_eq n e.ident.producer && (seq == e.ident.seq) && is_none source && is_data e.content) (nat_le (entry_size h.clusters e) most_entry_size) sound)

pub sound_storable : (h : Site) (seq : ℕ) (source : Option ClusterRef) (e : Entry) (o : Option (List ℕ)) → published h o seq source e ≡ true → IsReadEntry e → IsStorable h (with_origin h.own e)
sound_storable h seq source e None sound read = absurd cc
sound_storable h seq source e (Some n) sound read = record {
  read = record { rest = read.rest; marker = read.marker };
  size = rw (eq-eqb h.own h.own refl) (omega (arith, small_enough h n seq source e sound));
}

-- ---- with the answer after it

-- the session's producers as the code has them
pub having_more : (h : Site) (b : Broker) (c : ℕ) (f : Frame) (ps qs : List AttachedProducer) (p q : PlanView) → ps ≡ qs → IsPrepared h b (plan_of [] (with_producers c (open_at b c) ps ∷ []) []) p
    → AlsoSends h.clusters (record { to = peer.Client c; session = (open_at b c).number; frame = f }) p q
    → IsPrepared h b (plan_of [] (with_producers c (open_at b c) qs ∷ []) (answer c (open_at b c) f)) q
having_more h b c f ps qs p q same is sends =
    answers_more h b b c f [] (with_producers c (open_at b c) qs ∷ []) p q refl
    (subst (λ (xs : List AttachedProducer). IsPrepared h b (plan_of [] (with_producers c (open_at b c) xs ∷ []) []) p) same is) sends

-- a message as the code has it, which bears the own cluster's number, and the position that its receipt names
pub stored_more : (h now_h : Site) (b now : Broker) (c id seq own : ℕ) (e : Entry) (at : Position) (p q : PlanView) → now_h ≡ h → now ≡ b → own ≡ h.own → IsPrepared h b (plan_of (storing b (with_origin own e)) [] []) p
    → Some at ≡ receipt_position h.per_ledger b (with_origin own e) → AlsoSends now_h.clusters (record { to = peer.Client c; session = (open_at now c).number; frame = frame.SendReceipt id seq (Some at) }) p q
    → IsPrepared h b (stores h b c (open_at b c) id seq (with_origin h.own e)) q
stored_more h now_h b now c id seq own e at p q same_h same is_own is sub_index sends =
    subst (λ (x : ℕ). IsPrepared h b (stores h b c (open_at b c) id seq (with_origin x e)) q) is_own
    (answers_more h b now c (frame.SendReceipt id seq (receipt_position h.per_ledger b (with_origin own e))) (storing b (with_origin own e)) [] p q same is
    (subst (λ (o : Option Position). AlsoSends h.clusters (record { to = peer.Client c; session = (open_at now c).number; frame = frame.SendReceipt id seq o }) p q) sub_index
    (subst (λ (g : Site). AlsoSends g.clusters (record { to = peer.Client c; session = (open_at now c).number; frame = frame.SendReceipt id seq (Some at) }) p q) same_h sends)))

-- ---- CLOSE_PRODUCER

-- there is a producer of an id where its name is found
some_named : (id : ℕ) (ps : List AttachedProducer) → is_some (name_with id ps) ≡ has_id id ps
some_named id [] = refl
some_named id (p ∷ ps) = by (p.id == id) (some_named id ps)
  where
    by : (t : Bool) → is_some (name_with id ps) ≡ has_id id ps → is_some (if t then Some p.name else name_with id ps) ≡ (t || has_id id ps)
    by true more = refl
    by false more = more

closed_if : (c : ℕ) (s : Session) (id request : ℕ) (t : Bool) → has_id id s.producers ≡ t
    → (if t then plan_of [] (with_producers c s (without_producer id s.producers) ∷ []) (succeeds c s request) else refuses c s request unknown_error) ≡ serve_close_producer c s id request
closed_if c s id request t is =
    ap (λ (x : Bool). if x then plan_of [] (with_producers c s (without_producer id s.producers) ∷ []) (succeeds c s request) else refuses c s request unknown_error) (sym (some_named id s.producers ∙ is))

pub closes : (c : ℕ) (s : Session) (id request : ℕ) → has_id id s.producers ≡ true → plan_of [] (with_producers c s (without_producer id s.producers) ∷ []) (succeeds c s request) ≡ serve_close_producer c s id request
closes c s id request there = closed_if c s id request true there

pub not_closed : (c : ℕ) (s : Session) (id request : ℕ) → has_id id s.producers ≡ false → refuses c s request unknown_error ≡ serve_close_producer c s id request
not_closed c s id request none = closed_if c s id request false none
