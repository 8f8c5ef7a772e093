-- What an event settles is handed out or is passed over without an acknowledgement: an ACK names what was handed out.
use Rattle.std.proofs.Common.{◌≡◌, ℕ, ◌+◌, ◌<◌, Bool, true, false, List, [], ◌∷◌, ◌++◌, refl, sym, ap, subst, ◌∙◌, ◌==◌, arith, inl, inr, ◌⊎◌}
use Rattle.std.specs.Prelude.{Option, Some, None, if◌then◌else◌, ◌&&◌, find, slice_get}
use Rattle.std.specs.List.{list_any}
use Rattle.std.specs.Str.{bytes_eq}
use Rattle.std.proofs.lemmas.Bool.{eq-eqb, eqb-false, eqb-true, false≢true}
use Rattle.std.proofs.lemmas.Option.{none-some, same_Some}
use Rattle.std.proofs.lemmas.Slice.Eq.{bytes_eq-Decides}
use Rattle.world_laws.proofs.Types.{AckKind, Consumer, Entry, Event, Frame, Ident, Packet, Position, SubKind}
use Rattle.world_laws.proofs.Types.ack_kind
use Rattle.world_laws.proofs.Types.event
use Rattle.world_laws.proofs.Types.frame
use Rattle.geo_base.specs.Broker.{Broker, session_at}
use Rattle.geo_base.specs.Cursor.{has}
use Rattle.geo_base.specs.Entry.{is_data, same_ident, same_stream}
use Rattle.geo_base.specs.Laws.{IsShort}
use Rattle.geo_base.specs.Link.{next_packet}
use Rattle.geo_base.specs.Planned.{Planned, in_range, planned, planned_in}
use Rattle.geo_base.specs.Settled.{IsSettled, SettledSoFar, acked_on, at_index, at_positions, first_indexes, is_session, messages_at, named_by_ack, serves_one, settled_by_command, settled_by_packet, settled_event, up_to_index, with_message}
use Rattle.geo_base.specs.Setup.{Setup, declared_at, topic_name}
use Rattle.geo_base.specs.Subscription.{Subscription, has_consumer, is_of}
use Rattle.geo_base.specs.Topic.{index_of}
use Rattle.geo_base.specs.World.{ToBroker, World, client_at, link_at, topic_at}
use Rattle.world_laws.proofs.Replicating.Cursors.{either, or_left, or_right}
use Rattle.world_laws.proofs.OnceInOrder.Members.{below_or}
use Rattle.world_laws.proofs.Replicating.Effects.{Each}
use Rattle.world_laws.proofs.Telling.OnlyTold.{first_included, has_below, tells_more}
use Rattle.world_laws.proofs.Dispatching.Remembers.{any_left, any_right}
use Rattle.world_laws.proofs.Telling.ServeTells.{seek_tells, serve_tells}
use Rattle.world_laws.proofs.Replicating.Sizes.{IsThere}
use Rattle.world_laws.proofs.Dispatching.SubFrames.{each_at_place, found_is}
use Rattle.world_laws.proofs.Telling.Told.{Includes, TellsAll, ToldOver, told_too}
use Rattle.world_laws.proofs.Telling.QuietTells.{quiet_tells}
use Rattle.world_laws.proofs.Walks.Walk.{by_test, left, on_if, on_test, right}
use Rattle.consumer_laws.specs.Handed.{brings_ack, is_ack, skipped_event}
use Rattle.consumer_laws.specs.Lines.{IsKindLine}
use Rattle.world_laws.proofs.Clients.ClientLinks.{SentDown, SentUp}
use Rattle.consumer_laws.proofs.Subscriptions.LeastDue.{any_found}
use Rattle.consumer_laws.proofs.Worlds.Facts.{Hands, MadeBy, Reached, UpFact}
use Rattle.consumer_laws.proofs.Subscriptions.Plans.{numbers}
use Rattle.consumer_laws.proofs.Subscriptions.WhatIsOut.{IsMade, SubFact}

-- ---- identities

-- who has the same identity is told with the same
ident_is : (a b : Ident) → same_ident a b ≡ true → a ≡ b
ident_is a b h =
    let stream = left (same_stream a b) (a.seq == b.seq) h in
    let origin : a.origin ≡ b.origin = eqb-true a.origin b.origin (left (a.origin == b.origin) (bytes_eq a.producer b.producer) stream) in
    let producer : a.producer ≡ b.producer = (bytes_eq-Decides a.producer b.producer).0 (right (a.origin == b.origin) (bytes_eq a.producer b.producer) stream) in
    let seq : a.seq ≡ b.seq = eqb-true a.seq b.seq (right (same_stream a b) (a.seq == b.seq) h) in
    λ i. record { origin = origin i; producer = producer i; seq = seq i }

-- one of the messages at some indexes
record AtIndex (es : List Entry) (is : List ℕ) (i : Ident) : Type 0 where
  index : ℕ
  among : has is index ≡ true
  entry : Entry
  stands : slice_get es index ≡ Some entry
  message : is_data entry.content ≡ true
  same : i ≡ entry.ident

more_indexes : (es : List Entry) (k : ℕ) (is : List ℕ) (i : Ident) → AtIndex es is i → AtIndex es (k ∷ is) i
more_indexes es k is i a = record { index = a.index; among = or_right (k == a.index) (has is a.index) a.among; entry = a.entry; stands = a.stands; message = a.message; same = a.same }

message_at : (es : List Entry) (is : List ℕ) (i : Ident) → list_any (same_ident i) (messages_at es is) ≡ true → AtIndex es is i
message_at es [] i h = absurd (false≢true h)
message_at es (k ∷ is) i h = by (slice_get es k) refl h (λ g. more_indexes es k is i (message_at es is i g))
  where
    data_by : (e : Entry) → slice_get es k ≡ Some e → (t : Bool) → is_data e.content ≡ t → list_any (same_ident i) (if t then e.ident ∷ messages_at es is else messages_at es is) ≡ true
        → (list_any (same_ident i) (messages_at es is) ≡ true → AtIndex es (k ∷ is) i) → AtIndex es (k ∷ is) i
    data_by e at true message g ih =
        elim (either (same_ident i e.ident) (list_any (same_ident i) (messages_at es is)) g) [
          | inl this ↦ record { index = k; among = or_left (k == k) (has is k) (eq-eqb k k refl); entry = e; stands = at; message = message; same = ident_is i e.ident this }
          | inr later ↦ ih later
        ]
    data_by e at false message g ih = ih g

    by : (o : Option Entry) → slice_get es k ≡ o → list_any (same_ident i) (with_message o (messages_at es is)) ≡ true
        → (list_any (same_ident i) (messages_at es is) ≡ true → AtIndex es (k ∷ is) i) → AtIndex es (k ∷ is) i
    by None at g ih = ih g
    by (Some e) at g ih = data_by e at (is_data e.content) refl g ih

-- ---- what an ACK names

append_has : (is js : List ℕ) (i : ℕ) → has (is ++ js) i ≡ true → (has is i ≡ true) ⊎ (has js i ≡ true)
append_has [] js i h = inr h
append_has (k ∷ is) js i h =
    elim (either (k == i) (has (is ++ js) i) h) [
      | inl e ↦ inl (or_left (k == i) (has is i) e)
      | inr r ↦ elim (append_has is js i r) [ inl l ↦ inl (or_right (k == i) (has is i) l) | inr m ↦ inr m ]
    ]

-- of each position that it names one by one
record Named (P : Position → Type 0) (ls : List ℕ) (i : ℕ) : Type 0 where
  position : Position
  at : index_of ls position ≡ Some i
  fact : P position

one_named : (P : Position → Type 0) (ls : List ℕ) (ps : List Position) (i : ℕ) → has (at_positions ls ps) i ≡ true → Each P ps → Named P ls i
one_named P ls [] i h all = absurd (false≢true h)
one_named P ls (p ∷ ps) i h all =
    elim (append_has (at_index (index_of ls p)) (at_positions ls ps) i h) [ inl here ↦ by (index_of ls p) refl here | inr later ↦ one_named P ls ps i later all.1 ]
  where
    by : (o : Option ℕ) → index_of ls p ≡ o → has (at_index o) i ≡ true → Named P ls i
    by None is k = absurd (false≢true k)
    by (Some j) is k = elim (either (j == i) false k) [ inl e ↦ record { position = p; at = is ∙ ap Some (eqb-true j i e); fact = all.0 } | inr f ↦ absurd (false≢true f) ]

-- what stands at an index that an ACK names is handed out
ack_handed : (told : SettledSoFar) (t : ℕ) (n : List ℕ) (b : Broker) (kind : SubKind) (how : AckKind) (ps : List Position) (i : ℕ) (e : Entry) → Each (Reached told t n b kind) ps
    → has (named_by_ack b.ledgers kind how ps) i ≡ true → slice_get b.entries i ≡ Some e → is_data e.content ≡ true → IsSettled told t n e
ack_handed told t n b kind ack_kind.Individual ps i e all h at message =
    let m = one_named (Reached told t n b kind) b.ledgers ps i h all in
    let r = m.fact in
    r.this e (subst (λ (k : ℕ). slice_get b.entries k ≡ Some e) (same_Some i r.index (sym m.at ∙ r.at)) at) message
ack_handed told t n b kind ack_kind.Cumulative [] i e all h at message = absurd (false≢true h)
ack_handed told t n b kind ack_kind.Cumulative (p ∷ q ∷ ps) i e all h at message = absurd (false≢true h)
ack_handed told t n b kind ack_kind.Cumulative (p ∷ []) i e all h at message = by (serves_one kind) refl h
  where
    r : Reached told t n b kind p
    r = all.0

    stands : serves_one kind ≡ true → has (up_to_index (index_of b.ledgers p)) i ≡ true → IsSettled told t n e
    stands one g =
        let g' : has (first_indexes (r.index + 1)) i ≡ true = subst (λ (o : Option ℕ). has (up_to_index o) i ≡ true) r.at g in
        let le = has_below (r.index + 1) i g' in
        by_test (i == r.index)
        (λ is. r.this e (subst (λ (k : ℕ). slice_get b.entries k ≡ Some e) (eqb-true i r.index is) at) message)
        (λ other. let differ = eqb-false i r.index other in r.before one i e (lower le differ) at message)
      where
        lower : i < r.index + 1 → (i ≡ r.index → ⊥) → i < r.index
        lower lt differ = elim (below_or i r.index) [ inl small ↦ small | inr large ↦ absurd (differ (omega (arith, lt, large))) ]

    by : (u : Bool) → serves_one kind ≡ u → has (if u then up_to_index (index_of b.ledgers p) else []) i ≡ true → IsSettled told t n e
    by true one g = stands one g
    by false one g = absurd (false≢true g)

-- ---- an ACK in the world

-- the subscription of the consumer that it names was made by a line of its client
consumer_line : (s : Setup) (w : World) (t c id : ℕ) (es : List Entry) (num : ℕ → ℕ) (sent : ℕ → List Packet) (v : Subscription) → has_consumer c id v ≡ true → SubFact (MadeBy s w t) es num sent v
    → IsKindLine (declared_at s c) id v.name v.kind
consumer_line s w t c id es num sent v h f =
    let k = any_found (λ (k : Consumer). is_of c k && (k.id == id)) (IsMade (MadeBy s w t) v.name v.kind) v.consumers h f.consumers in
    let client = eqb-true k.one.client c (left (is_of c k.one) (k.one.id == id) k.passes) in
    let number = eqb-true k.one.id id (right (is_of c k.one) (k.one.id == id) k.passes) in
    subst (λ (i : ℕ). IsKindLine (declared_at s c) i v.name v.kind) number (subst (λ (z : ℕ). IsKindLine (declared_at s z) k.one.id v.name v.kind) client k.fact.1)

acked_handed : (s : Setup) (told : SettledSoFar) (w : World) (x c : ℕ) (n : List ℕ) (how : AckKind) (id : ℕ) (ps : List Position) (i : ℕ) (e : Entry) → Hands s told w → IsThere s (declared_at s c).topic x
    → UpFact told (declared_at s c).topic (topic_at s w (declared_at s c).topic x) (declared_at s c) (client_at s w c).done 0 (frame.Ack id how ps) → (o : Option Subscription)
    → find (has_consumer c id) (topic_at s w (declared_at s c).topic x).subs ≡ o
    → has (acked_on n (topic_at s w (declared_at s c).topic x) how ps o) i ≡ true → slice_get (topic_at s w (declared_at s c).topic x).entries i ≡ Some e → is_data e.content ≡ true
    → IsSettled told (declared_at s c).topic n e
acked_handed s told w x c n how id ps i e h there up None found named at message = absurd (false≢true named)
acked_handed s told w x c n how id ps i e h there up (Some v) found named at message = by (bytes_eq v.name n) refl named
  where
    t : ℕ
    t = (declared_at s c).topic

    b : Broker
    b = topic_at s w t x

    by : (u : Bool) → bytes_eq v.name n ≡ u → has (if u then named_by_ack b.ledgers v.kind how ps else []) i ≡ true → IsSettled told t n e
    by true is g =
        let name : v.name ≡ n = (bytes_eq-Decides v.name n).0 is in
        let f = found_is (SubFact (MadeBy s w t) b.entries (numbers b) (λ z. SentDown w.links z x)) (has_consumer c id) b.subs v found (h.subs t x there) in
        let line = consumer_line s w t c id b.entries (numbers b) (λ z. SentDown w.links z x) v f.1 f.0 in
        subst (λ (m : List ℕ). IsSettled told t m e) name (ack_handed told t v.name b v.kind how ps i e (up v.name v.kind line) g at message)
    by false is g = absurd (false≢true g)

frame_handed : (s : Setup) (told : SettledSoFar) (w : World) (x c : ℕ) (n topic : List ℕ) (p : Packet) (f : Frame) (i : ℕ) (e : Entry) → p.frame ≡ f → is_ack f ≡ true → Hands s told w
    → IsThere s (declared_at s c).topic x → next_packet (link_at w.links (ToBroker c x)) ≡ Some p
    → has (settled_by_command n (topic_at s w (declared_at s c).topic x) topic c f) i ≡ true → slice_get (topic_at s w (declared_at s c).topic x).entries i ≡ Some e → is_data e.content ≡ true
    → IsSettled told (declared_at s c).topic n e
frame_handed s told w x c n topic p (frame.Ack id how ps) i e is ack h there next named at message =
    let d = declared_at s c in let b = topic_at s w d.topic x in let k = client_at s w c in
    let up = each_at_place (λ (q : Packet). UpFact told d.topic b d k.done q.session q.frame) (SentUp w.links c x) (link_at w.links (ToBroker c x)).taken p (h.up c x there) next in
    acked_handed s told w x c n how id ps i e h there (subst (UpFact told d.topic b d k.done p.session) is up) (find (has_consumer c id) b.subs) refl named at message
frame_handed s told w x c n topic p f i e is ack h there next named at message = absurd (false≢true ack)

packet_handed : (s : Setup) (told : SettledSoFar) (w : World) (x c : ℕ) (n topic : List ℕ) (o : Option Packet) (i : ℕ) (e : Entry) → next_packet (link_at w.links (ToBroker c x)) ≡ o → brings_ack o ≡ true
    → Hands s told w → IsThere s (declared_at s c).topic x → has (settled_by_packet n (topic_at s w (declared_at s c).topic x) topic c o) i ≡ true
    → slice_get (topic_at s w (declared_at s c).topic x).entries i ≡ Some e → is_data e.content ≡ true → IsSettled told (declared_at s c).topic n e
packet_handed s told w x c n topic None i e next ack h there named at message = absurd (false≢true named)
packet_handed s told w x c n topic (Some p) i e next ack h there named at message =
    on_test (λ (is : List ℕ). has is i ≡ true → IsSettled told (declared_at s c).topic n e) (is_session p.session (session_at (topic_at s w (declared_at s c).topic x) c))
    (settled_by_command n (topic_at s w (declared_at s c).topic x) topic c p.frame) []
    (λ open_. λ g. frame_handed s told w x c n topic p p.frame i e refl ack h there next g at message) (λ shut g. absurd (false≢true g)) named

-- what a packet that is an ACK settles was handed out
pub settled_handed : (s : Setup) (told : SettledSoFar) (w : World) (x c u : ℕ) (n : List ℕ) (e : Entry) → Hands s told w → IsThere s (declared_at s c).topic x
    → brings_ack (next_packet (link_at w.links (ToBroker c x))) ≡ true → list_any (same_ident e.ident) (settled_event s w u n (event.Serve x c)) ≡ true → IsSettled told u n e
unfolding settled_event
settled_handed s told w x c u n e h there ack settled = by (t == u) refl settled
  where
    t : ℕ
    t = (declared_at s c).topic

    o : Option Packet
    o = next_packet (link_at w.links (ToBroker c x))

    here : (v : ℕ) → t ≡ v → list_any (same_ident e.ident) (messages_at (topic_at s w v x).entries (settled_by_packet n (topic_at s w v x) (topic_name s v) c o)) ≡ true → IsSettled told v n e
    here v is g =
        subst (λ (y : ℕ). list_any (same_ident e.ident) (messages_at (topic_at s w y x).entries (settled_by_packet n (topic_at s w y x) (topic_name s y) c o)) ≡ true → IsSettled told y n e) is
        (λ g'.
        let a = message_at (topic_at s w t x).entries (settled_by_packet n (topic_at s w t x) (topic_name s t) c o) e.ident g' in
        subst (λ (i : Ident). list_any (same_ident i) (told t n) ≡ true) (sym a.same) (packet_handed s told w x c n (topic_name s t) o a.index a.entry refl ack h there a.among a.stands a.message)) g

    by : (q : Bool) → (t == u) ≡ q → list_any (same_ident e.ident) (if q then messages_at (topic_at s w u x).entries (settled_by_packet n (topic_at s w u x) (topic_name s u) c o) else []) ≡ true → IsSettled told u n e
    by true is g = here u (eqb-true t u is) g
    by false is g = absurd (false≢true g)

-- ---- an event tells what its writes gain

with_none : (s : Setup) (w : World) (told new : SettledSoFar) (o : Option Planned) → TellsAll s w told o → TellsAll s w (told_too told new) o
with_none s w told new None h = tt
with_none s w told new (Some p) h = λ short there.
    tells_more told (told_too told new) (first_included told new) p.topic s.per_ledger (topic_at s w p.topic p.cluster) p.plan.writes (h short there)

pub all_more : (s : Setup) (w : World) (told more : SettledSoFar) (o : Option Planned) → (IsShort w → (p : Planned) → o ≡ Some p → IsThere s p.topic p.cluster → Includes told more) → TellsAll s w told o → TellsAll s w more o
all_more s w told more None inc h = tt
all_more s w told more (Some p) inc h = λ short there.
    tells_more told more (inc short p refl there) p.topic s.per_ledger (topic_at s w p.topic p.cluster) p.plan.writes (h short there)

-- where an event of a served packet is
serve_place : (s : Setup) (w : World) (x c : ℕ) (p : Planned) → planned s w (event.Serve x c) ≡ Some p → IsThere s p.topic p.cluster → IsThere s (declared_at s c).topic x
unfolding planned
serve_place s w x c p is there =
    on_if (λ (o : Option Planned). o ≡ Some p → IsThere s (declared_at s c).topic x) (in_range s (event.Serve x c)) (planned_in s w (event.Serve x c)) None
    (λ e. subst (λ (q : Planned). IsThere s q.topic q.cluster) (sym (same_Some _ p e)) there) (λ e. absurd (none-some p e)) is

included : (told new old : SettledSoFar) → ((t : ℕ) (n : List ℕ) (e : Entry) → list_any (same_ident e.ident) (new t n) ≡ true → IsSettled old t n e) → Includes told old → Includes (told_too told new) old
included told new old f inc t n e h =
    elim (any_either (same_ident e.ident) (told t n) (new t n) h) [ inl a ↦ inc t n e a | inr b ↦ f t n e b ]
  where
    any_either : (p : Ident → Bool) (xs ys : List Ident) → list_any p (xs ++ ys) ≡ true → (list_any p xs ≡ true) ⊎ (list_any p ys ≡ true)
    any_either p [] ys g = inr g
    any_either p (x ∷ xs) ys g =
        elim (either (p x) (list_any p (xs ++ ys)) g) [
          | inl this ↦ inl (or_left (p x) (list_any p xs) this)
          | inr later ↦ elim (any_either p xs ys later) [ inl a ↦ inl (or_right (p x) (list_any p xs) a) | inr b ↦ inr b ]
        ]

abbrev pub Skipping : Setup → SettledSoFar → World → Event → SettledSoFar
Skipping s told w e = told_too told (λ t n. skipped_event s w t n e)

-- so what its writes gain is told with what it passes over
pub handed_tells : (s : Setup) (told : SettledSoFar) (w : World) (e : Event) → ToldOver s told w → (IsShort w → Hands s told w) → TellsAll s w (Skipping s told w e) (planned s w e)
handed_tells s told w (event.Serve x c) h hands =
    all_more s w (told_too told (λ t n. settled_event s w t n (event.Serve x c))) (Skipping s told w (event.Serve x c)) (planned s w (event.Serve x c))
    (λ short p is there. included told (λ t n. settled_event s w t n (event.Serve x c)) (Skipping s told w (event.Serve x c)) (tells (hands short) (serve_place s w x c p is there))
    (first_included told (λ t n. skipped_event s w t n (event.Serve x c)))) (serve_tells s told w x c h)
  where
    tells : Hands s told w → IsThere s (declared_at s c).topic x → (t : ℕ) (n : List ℕ) (e : Entry) → list_any (same_ident e.ident) (settled_event s w t n (event.Serve x c)) ≡ true
        → IsSettled (Skipping s told w (event.Serve x c)) t n e
    tells known there t n e g = by (brings_ack (next_packet (link_at w.links (ToBroker c x)))) refl
      where
        by : (u : Bool) → brings_ack (next_packet (link_at w.links (ToBroker c x))) ≡ u
            → list_any (same_ident e.ident) (told t n ++ (if u then [] else settled_event s w t n (event.Serve x c))) ≡ true
        by true ack = any_left (same_ident e.ident) (told t n) [] (settled_handed s told w x c t n e known there ack g)
        by false other = any_right (same_ident e.ident) (told t n) (settled_event s w t n (event.Serve x c)) g
handed_tells s told w (event.Seek t x m to) h hands = seek_tells s told w t x m to h
handed_tells s told w e h hands = with_none s w told (λ t n. skipped_event s w t n e) (planned s w e) (quiet_tells s w told e refl h)
