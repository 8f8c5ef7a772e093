-- What the writes of an ACK, of a SUBSCRIBE and of a seek gain is what these name: settled is told from what came, so this is
-- where the machine is held against it.
use Rattle.std.proofs.Common.{◌≡◌, ℕ, zero, suc, ◌+◌, ◌≤◌, ◌<◌, Bool, true, false, List, [], ◌∷◌, ◌++◌, length, refl, sym, ap, subst, ◌∙◌, ◌==◌, arith, inl, inr, ◌⊎◌, not}
use Rattle.std.specs.Prelude.{Option, Some, None, if◌then◌else◌, ◌&&◌, ◌||◌, is_none, is_some, nat_lt, slice_get}
use Rattle.std.specs.List.{list_any, range_with_len}
use Rattle.std.specs.Str.{bytes_eq}
use Rattle.std.proofs.lemmas.Bool.{eq-eqb, eqb-true, false≢true}
use Rattle.std.proofs.lemmas.Bool.Decides.{nat_tests}
use Rattle.std.proofs.lemmas.Option.{none-some, same_Some, slice_get_cases}
use Rattle.world_laws.proofs.Types.{AckKind, Entry, Event, Frame, Ident, Packet, Position, Session, SubKind}
use Rattle.world_laws.proofs.Types.ack_kind
use Rattle.world_laws.proofs.Types.event
use Rattle.world_laws.proofs.Types.frame
use Rattle.world_laws.proofs.Types.sub_kind
use Rattle.geo_base.specs.Acknowledging.{acked_indexes, allows_cumulative, cumulative_indexes, stored_indexes, up_to, with_stored}
use Rattle.geo_base.specs.Broker.{Broker, Site, sub_named}
use Rattle.geo_base.specs.Cursor.{has}
use Rattle.geo_base.specs.Entry.{is_data, same_ident, same_stream}
use Rattle.geo_base.specs.Laws.{IsShort}
use Rattle.geo_base.specs.Link.{next_packet}
use Rattle.geo_base.specs.Name.{is_name}
use Rattle.geo_base.specs.Plan.{Plan}
use Rattle.geo_base.specs.Planned.{has_sub, in_range, planned, planned_in}
use Rattle.geo_base.specs.Seeking.{seek_index}
use Rattle.geo_base.specs.Serving.{serve}
use Rattle.geo_base.specs.Settled.{IsSettled, SettledSoFar, acked_on, at_index, at_positions, below_index, first_indexes, is_created, is_session, messages_at, named_by_ack, serves_one, settled_by_command, settled_by_packet, settled_by_seek, settled_event, up_to_index, with_message}
use Rattle.geo_base.specs.Setup.{Setup, declared_at, sub_name, topic_name}
use Rattle.geo_base.specs.Subscribing.{consumed_by, has_room}
use Rattle.geo_base.specs.Subscription.{Subscription, is_attached}
use Rattle.geo_base.specs.Topic.{index_of}
use Rattle.geo_base.specs.World.{ToBroker, World, link_at, site, topic_at}
use Rattle.world_laws.proofs.Snapshotting.Answering.{Numbered}
use Rattle.world_laws.proofs.Replicating.Cursors.{either, or_left, or_right}
use Rattle.world_laws.proofs.TopicOrder.Ledgers.{of_index}
use Rattle.world_laws.proofs.Walks.OfferWalk.{seek_shape}
use Rattle.world_laws.proofs.Telling.OnlyTold.{has_below, same_name, second_included}
use Rattle.world_laws.proofs.Replicating.Prefixes.{same_self}
use Rattle.world_laws.proofs.Telling.QuietTells.{gains_none, updates_gain}
use Rattle.world_laws.proofs.Snapshotting.SecondRound.{Knows}
use Rattle.world_laws.proofs.Walks.ServeWalk.{frame_served}
use Rattle.world_laws.proofs.Walks.Shapes.{InSession, MayJoin, Seeks, Served}
use Rattle.world_laws.proofs.Telling.Told.{IsTold, Tells, TellsAll, ToldOver, told_now, told_too}
use Rattle.world_laws.proofs.Walks.Walk.{both, by_test, left, on_if, on_test, on_true, right}
use Rattle.geo_base.proofs.Lists.{bytes_eq_itself}

-- TESTS

-- a name finds a subscription of that name
pub named_is : (vs : List Subscription) (n : List ℕ) (v : Subscription) → sub_named vs n ≡ Some v → bytes_eq v.name n ≡ true
named_is [] n v h = absurd (none-some v h)
named_is (a ∷ vs) n v h = by (bytes_eq a.name n) refl h (named_is vs n v)
  where
    by : (t : Bool) → bytes_eq a.name n ≡ t → (if t then Some a else sub_named vs n) ≡ Some v → (sub_named vs n ≡ Some v → bytes_eq v.name n ≡ true) → bytes_eq v.name n ≡ true
    by true is e ih = subst (λ (u : Subscription). bytes_eq u.name n ≡ true) (same_Some a v e) is
    by false is e ih = ih e

-- INDEXES

-- what an acknowledgement puts into a cursor is what it names
stored_same : (ls : List ℕ) (ps : List Position) → stored_indexes ls ps ≡ at_positions ls ps
stored_same ls [] = refl
stored_same ls (p ∷ ps) = by (index_of ls p) (stored_same ls ps)
  where
    by : (o : Option ℕ) → stored_indexes ls ps ≡ at_positions ls ps → with_stored o (stored_indexes ls ps) ≡ at_index o ++ at_positions ls ps
    by None same = same
    by (Some i) same = ap (λ (is : List ℕ). i ∷ is) same

up_to_same : (o : Option ℕ) → up_to o ≡ up_to_index o
up_to_same None = refl
up_to_same (Some i) = refl

cumulative_same : (ls : List ℕ) (k : SubKind) (ps : List Position)
    → (if allows_cumulative k then cumulative_indexes ls ps else []) ≡ named_by_ack ls k ack_kind.Cumulative ps
cumulative_same ls k [] = on_if (λ (is : List ℕ). is ≡ []) (allows_cumulative k) [] [] refl refl
cumulative_same ls k (p ∷ q ∷ ps) = on_if (λ (is : List ℕ). is ≡ []) (allows_cumulative k) [] [] refl refl
cumulative_same ls sub_kind.Exclusive (p ∷ []) = up_to_same (index_of ls p)
cumulative_same ls sub_kind.Failover (p ∷ []) = up_to_same (index_of ls p)
cumulative_same ls sub_kind.Shared (p ∷ []) = refl
cumulative_same ls sub_kind.KeyShared (p ∷ []) = refl

pub acks_same : (ls : List ℕ) (k : SubKind) (ps : List Position) (kind : AckKind) → acked_indexes ls k ps kind ≡ named_by_ack ls k kind ps
acks_same ls k ps ack_kind.Individual = stored_same ls ps
acks_same ls k ps ack_kind.Cumulative = cumulative_same ls k ps

has_append : (is js : List ℕ) (i : ℕ) → has (is ++ js) i ≡ true → (has is i ≡ true) ⊎ (has js i ≡ true)
has_append [] js i h = inr h
has_append (k ∷ is) js i h =
    elim (either (k == i) (has (is ++ js) i) h) [
      | inl e ↦ inl (or_left (k == i) (has is i) e)
      | inr r ↦ elim (has_append is js i r) [ inl l ↦ inl (or_right (k == i) (has is i) l) | inr m ↦ inr m ]
    ]

-- the first n indexes
in_range_of : (a n i : ℕ) → a ≤ i → i < a + n → has (range_with_len a n) i ≡ true
in_range_of a zero i le lt = absurd (omega (arith, le, lt))
in_range_of a (suc n) i le lt =
    by_test (a == i) (λ e. or_left (a == i) (has (range_with_len (a + 1) n) i) e)
    (λ other. or_right (a == i) (has (range_with_len (a + 1) n) i) (in_range_of (a + 1) n i (grind (arith, nat_tests, other, le)) (omega (arith, lt))))

pub has_first : (n i : ℕ) → i < n → has (first_indexes n) i ≡ true
has_first n i lt = in_range_of 0 n i (omega arith) (omega (arith, lt))

-- what a packet names is stored
index_within : (es : List Entry) (ls : List ℕ) (o : Position) (i : ℕ) → Numbered es ls → index_of ls o ≡ Some i → i < length es
index_within es ls o i numbered at = let lt = (of_index ls o i at).within in let whole = numbered.whole in omega (arith, lt, whole)

at_within : (es : List Entry) (ls : List ℕ) (numbered : Numbered es ls) (ps : List Position) (i : ℕ) → has (at_positions ls ps) i ≡ true → i < length es
at_within es ls numbered [] i h = absurd (false≢true h)
at_within es ls numbered (p ∷ ps) i h =
    elim (has_append (at_index (index_of ls p)) (at_positions ls ps) i h) [ inl here ↦ by (index_of ls p) refl here | inr later ↦ at_within es ls numbered ps i later ]
  where
    by : (o : Option ℕ) → index_of ls p ≡ o → has (at_index o) i ≡ true → i < length es
    by None is k = absurd (false≢true k)
    by (Some j) is k = elim (either (j == i) false k) [ inl e ↦ let lt = index_within es ls p j numbered is in let same = eqb-true j i e in omega (arith, lt, same) | inr f ↦ absurd (false≢true f) ]

up_to_within : (es : List Entry) (ls : List ℕ) (numbered : Numbered es ls) (p : Position) (o : Option ℕ) → index_of ls p ≡ o → (i : ℕ) → has (up_to_index o) i ≡ true → i < length es
up_to_within es ls numbered p None is i h = absurd (false≢true h)
up_to_within es ls numbered p (Some j) is i h = let lt = index_within es ls p j numbered is in let le = has_below (j + 1) i h in omega (arith, lt, le)

pub ack_within : (es : List Entry) (ls : List ℕ) (numbered : Numbered es ls) (k : SubKind) (kind : AckKind) (ps : List Position) (i : ℕ) → has (named_by_ack ls k kind ps) i ≡ true → i < length es
ack_within es ls numbered k ack_kind.Individual ps i h = at_within es ls numbered ps i h
ack_within es ls numbered k ack_kind.Cumulative [] i h = absurd (false≢true h)
ack_within es ls numbered k ack_kind.Cumulative (p ∷ []) i h =
    on_if (λ (is : List ℕ). has is i ≡ true → i < length es) (serves_one k) (up_to_index (index_of ls p)) [] (up_to_within es ls numbered p (index_of ls p) refl i)
    (λ f. absurd (false≢true f)) h
ack_within es ls numbered k ack_kind.Cumulative (p ∷ q ∷ ps) i h = absurd (false≢true h)

-- MESSAGES

same_itself : (i : Ident) → same_ident i i ≡ true
same_itself i = both (same_stream i i) (i.seq == i.seq) (same_self i) (eq-eqb i.seq i.seq refl)

-- a message at one of some indexes is one of the messages there
with_kept : (o : Option Entry) (is : List Ident) (i : Ident) → list_any (same_ident i) is ≡ true → list_any (same_ident i) (with_message o is) ≡ true
with_kept None is i h = h
with_kept (Some e) is i h = on_if (λ (l : List Ident). list_any (same_ident i) l ≡ true) (is_data e.content) (e.ident ∷ is) is (or_right (same_ident i e.ident) (list_any (same_ident i) is) h) h

message_among : (es : List Entry) (is : List ℕ) (i : ℕ) (e : Entry) → has is i ≡ true → slice_get es i ≡ Some e → is_data e.content ≡ true
    → list_any (same_ident e.ident) (messages_at es is) ≡ true
message_among es [] i e h at message = absurd (false≢true h)
message_among es (k ∷ is) i e h at message =
    elim (either (k == i) (has is i) h) [
      | inl same ↦
          subst (λ (o : Option Entry). list_any (same_ident e.ident) (with_message o (messages_at es is)) ≡ true)
          (sym (ap (λ (j : ℕ). slice_get es j) (eqb-true k i same) ∙ at))
          (subst (λ (l : List Ident). list_any (same_ident e.ident) l ≡ true) (sym (on_true (is_data e.content) (e.ident ∷ messages_at es is) (messages_at es is) message))
          (or_left (same_ident e.ident e.ident) _ (same_itself e.ident)))
      | inr later ↦ with_kept (slice_get es k) (messages_at es is) e.ident (message_among es is i e later at message)
    ]

-- so where these are told, what stands at each of these indexes is
pub indexes_told : (told : SettledSoFar) (t : ℕ) (n : List ℕ) (es : List Entry) (is : List ℕ)
    → ((e : Entry) → list_any (same_ident e.ident) (messages_at es is) ≡ true → IsSettled told t n e)
    → (i : ℕ) → has is i ≡ true → i < length es → IsTold told t n es i
indexes_told told t n es is all i inside lt =
    elim ((slice_get_cases es i).1) [
      | inl h ↦ (h.0, h.2, λ message. all h.0 (message_among es is i h.0 inside h.2 message))
      | inr past ↦ let le = past.0 in absurd (omega (arith, le, lt))
    ]

-- SERVE

-- what a packet names on each subscription is told
abbrev pub PacketTold : SettledSoFar → ℕ → Broker → List ℕ → ℕ → Option Packet → Type 0
PacketTold told t b topic c o = (n : List ℕ) (i : ℕ) → has (settled_by_packet n b topic c o) i ≡ true → i < length b.entries → IsTold told t n b.entries i

in_session : (n : List ℕ) (b : Broker) (topic : List ℕ) (c : ℕ) (p : Packet) (s : Session) (f : Frame) → InSession b c p s → p.frame ≡ f
    → settled_by_packet n b topic c (Some p) ≡ settled_by_command n b topic c f
in_session n b topic c p s f at is =
    let R : Option Session → Type 0 = λ o. (if is_session p.session o then settled_by_command n b topic c p.frame else []) ≡ settled_by_command n b topic c f in
    subst R (sym at.0)
    (on_true (s.number == p.session) (settled_by_command n b topic c p.frame) [] at.1 ∙ ap (settled_by_command n b topic c) is)

-- an ACK names what it puts into the cursor
pub ack_names : (b : Broker) (topic : List ℕ) (c : ℕ) (p : Packet) (s : Session) (id : ℕ) (kind : AckKind) (ps : List Position) (v : Subscription)
    → InSession b c p s → p.frame ≡ frame.Ack id kind ps → consumed_by b.subs c id ≡ Some v
    → settled_by_packet v.name b topic c (Some p) ≡ acked_indexes b.ledgers v.kind ps kind
ack_names b topic c p s id kind ps v at is by =
    in_session v.name b topic c p s (frame.Ack id kind ps) at is ∙ ap (acked_on v.name b kind ps) by
    ∙ on_true (bytes_eq v.name v.name) (named_by_ack b.ledgers v.kind kind ps) [] (bytes_eq_itself v.name) ∙ sym (acks_same b.ledgers v.kind ps kind)

-- a creation at Latest passes over all that is there
pub creation_names : (b : Broker) (h : Site) (c : ℕ) (p : Packet) (s : Session) (topic n : List ℕ) (kind : SubKind) (id request : ℕ) (consumer : Option (List ℕ)) (earliest replicated : Bool)
    → InSession b c p s → p.frame ≡ frame.Subscribe topic n kind id request consumer earliest replicated → MayJoin h b c topic n → sub_named b.subs n ≡ None → not earliest ≡ true
    → settled_by_packet n b h.topic c (Some p) ≡ first_indexes (length b.entries)
creation_names b h c p s topic n kind id request consumer earliest replicated at is may none late =
    in_session n b h.topic c p s (frame.Subscribe topic n kind id request consumer earliest replicated) at is
    ∙ on_true (bytes_eq n n && not earliest && is_created b h.topic c topic n) (first_indexes (length b.entries)) []
    (both (bytes_eq n n && not earliest) _ (both (bytes_eq n n) (not earliest) (bytes_eq_itself n) late) created)
  where
    of_topic : (bytes_eq topic h.topic && is_name n) ≡ true
    of_topic = left (bytes_eq topic h.topic && is_name n) (has_room b n) may.0

    room : nat_lt (length b.subs) 32 ≡ true
    room =
        let R : Option Subscription → Type 0 = λ o. (is_some o || nat_lt (length b.subs) 32) ≡ true in
        subst R none (right (bytes_eq topic h.topic && is_name n) (has_room b n) may.0)

    absent : is_none (sub_named b.subs n) ≡ true
    absent = ap is_none none

    created : is_created b h.topic c topic n ≡ true
    created =
        let new = bytes_eq topic h.topic && is_name n && is_none (sub_named b.subs n) in
        both (new && nat_lt (length b.subs) 32) (not (list_any (is_attached c) b.subs))
        (both new (nat_lt (length b.subs) 32) (both (bytes_eq topic h.topic && is_name n) (is_none (sub_named b.subs n)) of_topic absent) room) (ap not may.1)

served_tells : (told : SettledSoFar) (t per : ℕ) (h : Site) (b : Broker) (c : ℕ) (p : Packet) (q : Plan) → Served h b c p q → Numbered b.entries b.ledgers
    → PacketTold told t b h.topic c (Some p) → Tells told t per b q.writes
served_tells told t per h b c p q (Served.Acknowledges s id kind ps v i is ws at sent by of after) numbered all =
    let named = ack_names b h.topic c p s id kind ps v at sent by ∙ of in
    let stored : (j : ℕ) → has (i ∷ is) j ≡ true → j < length b.entries =
    λ j inside. ack_within b.entries b.ledgers numbered v.kind kind ps j (subst (λ (l : List ℕ). has l j ≡ true) (sym of ∙ acks_same b.ledgers v.kind ps kind) inside) in (
      λ j inside. all v.name j (subst (λ (l : List ℕ). has l j ≡ true) (sym named) inside) (stored j inside),
      gains_none told t per _ ws (updates_gain h b _ ws after),
    )
served_tells told t per h b c p q (Served.Creates s topic n kind id request consumer earliest replicated at is may none) numbered all = (
  λ i late lt.
      let named = creation_names b h c p s topic n kind id request consumer earliest replicated at is may none late in
      all n i (subst (λ (l : List ℕ). has l i ≡ true) (sym named) (has_first (length b.entries) i lt)) lt,
  tt,
)
served_tells told t per h b c p q Served.Ignores numbered all = tt
served_tells told t per h b c p q Served.Disconnects numbered all = tt
served_tells told t per h b c p q (Served.Connects s is new) numbered all = tt
served_tells told t per h b c p q (Served.Answers s f at) numbered all = tt
served_tells told t per h b c p q (Served.ChangesProducers s ps f at) numbered all = tt
served_tells told t per h b c p q (Served.Stores s id seq source e at sound new) numbered all = (tt, tt)
served_tells told t per h b c p q (Served.Repeats s id seq source e at sound old) numbered all = tt
served_tells told t per h b c p q (Served.Joins s topic n kind id request consumer earliest replicated v at is may named free same) numbered all = tt
served_tells told t per h b c p q (Served.Alters s topic n kind id request consumer earliest replicated v at is may named free other) numbered all = (tt, tt)
served_tells told t per h b c p q (Served.Permits s id permits v at is by) numbered all = tt
served_tells told t per h b c p q (Served.Unsubscribes s id request v at is by last) numbered all = (tt, tt)
served_tells told t per h b c p q (Served.ClosesConsumer s id request v at is by) numbered all = tt

pub next_tells : (told : SettledSoFar) (t per : ℕ) (h : Site) (b : Broker) (c : ℕ) (o : Option Packet) → Numbered b.entries b.ledgers
    → PacketTold told t b h.topic c o → Tells told t per b (serve h b c o).writes
unfolding serve
next_tells told t per h b c None numbered all = tt
next_tells told t per h b c (Some p) numbered all = served_tells told t per h b c p _ (frame_served h b c p p.frame refl) numbered all

-- SEEK

-- a seek names what it puts into the cursor, and it is there
pub seek_names : (b : Broker) (to : Option Position) (v : Subscription) (i : ℕ) → seek_index b to ≡ Some i → settled_by_seek b to (Some v) ≡ first_indexes i
seek_names b None v i at = ap first_indexes (same_Some (length b.entries) i at)
seek_names b (Some p) v i at = ap below_index at

seek_within : (b : Broker) (to : Option Position) (i : ℕ) → Numbered b.entries b.ledgers → seek_index b to ≡ Some i → i ≤ length b.entries
seek_within b None i numbered at = let same = same_Some (length b.entries) i at in omega (arith, same)
seek_within b (Some p) i numbered at = let lt = index_within b.entries b.ledgers p i numbered at in omega (arith, lt)

pub seeks_tell : (told : SettledSoFar) (t per : ℕ) (h : Site) (b : Broker) (n : List ℕ) (to : Option Position) (q : Plan) → Seeks h b n to q → Numbered b.entries b.ledgers
    → ((i : ℕ) → has (settled_by_seek b to (sub_named b.subs n)) i ≡ true → i < length b.entries → IsTold told t n b.entries i) → Tells told t per b q.writes
seeks_tell told t per h b n to q Seeks.NothingToSeek numbered all = tt
seeks_tell told t per h b n to q (Seeks.SeeksTo v i ws named at after) numbered all = (
  λ j lt.
      let is : settled_by_seek b to (sub_named b.subs n) ≡ first_indexes i = ap (settled_by_seek b to) named ∙ seek_names b to v i at in
      let le = seek_within b to i numbered at in
      same_name told t b.entries v.name n j (named_is b.subs n v named)
      (all j (subst (λ (l : List ℕ). has l j ≡ true) (sym is) (has_first i j lt)) (omega (arith, lt, le))),
  gains_none told t per _ ws (updates_gain h b _ ws after),
)

-- WORLDS

pub serve_settles : (s : Setup) (w : World) (x c : ℕ) (n : List ℕ) → let t = (declared_at s c).topic in let b = topic_at s w t x in
    settled_event s w t n (event.Serve x c) ≡ messages_at b.entries (settled_by_packet n b (topic_name s t) c (next_packet (link_at w.links (ToBroker c x))))
unfolding settled_event
serve_settles s w x c n = let t = (declared_at s c).topic in on_true (t == t) _ [] (eq-eqb t t refl)

pub seek_settles : (s : Setup) (w : World) (t x m : ℕ) (to : Option Position) → has_sub s t x m ≡ true → let b = topic_at s w t x in
    settled_event s w t (sub_name s t m) (event.Seek t x m to) ≡ messages_at b.entries (settled_by_seek b to (sub_named b.subs (sub_name s t m)))
unfolding settled_event
seek_settles s w t x m to there =
    let n = sub_name s t m in let is_t = t == t in let is_sub = has_sub s t x m in
    on_true (is_t && is_sub && bytes_eq n n) _ [] (both (is_t && is_sub) (bytes_eq n n) (both is_t is_sub (eq-eqb t t refl) there) (bytes_eq_itself n))

-- what an event settles, added to what is told
abbrev Now : Setup → SettledSoFar → World → Event → SettledSoFar
Now s told w e = told_too told (λ t n. settled_event s w t n e)

pub serve_told : (s : Setup) (told : SettledSoFar) (w : World) (x c : ℕ) → (IsShort w → Knows s w) → TellsAll s w (Now s told w (event.Serve x c)) (planned s w (event.Serve x c))
unfolding planned
serve_told s told w x c h =
    let e = event.Serve x c in let t = (declared_at s c).topic in let b = topic_at s w t x in let o = next_packet (link_at w.links (ToBroker c x)) in
    let now = Now s told w e in
    on_if (TellsAll s w now) (in_range s e) (planned_in s w e) None
    (λ short there.
    next_tells now t s.per_ledger (site s t x) b c o ((h short).answers t x there).numbered
    (λ n i inside lt.
    indexes_told now t n b.entries (settled_by_packet n b (topic_name s t) c o)
    (λ f among. second_included told (λ t n. settled_event s w t n e) t n f (subst (λ (l : List Ident). list_any (same_ident f.ident) l ≡ true) (sym (serve_settles s w x c n)) among)) i inside lt))
    tt

pub seek_told : (s : Setup) (told : SettledSoFar) (w : World) (t x m : ℕ) (to : Option Position) → (IsShort w → Knows s w)
    → TellsAll s w (Now s told w (event.Seek t x m to)) (planned s w (event.Seek t x m to))
unfolding planned
seek_told s told w t x m to h =
    let e = event.Seek t x m to in let b = topic_at s w t x in let n = sub_name s t m in
    let now = Now s told w e in
    on_test (TellsAll s w now) (in_range s e) (planned_in s w e) None
    (λ within short there.
    seeks_tell now t s.per_ledger (site s t x) b n to _ (seek_shape (site s t x) b n to) ((h short).answers t x there).numbered
    (λ i inside lt.
    indexes_told now t n b.entries (settled_by_seek b to (sub_named b.subs n))
    (λ f among. second_included told (λ t n. settled_event s w t n e) t n f (subst (λ (l : List Ident). list_any (same_ident f.ident) l ≡ true) (sym (seek_settles s w t x m to within)) among)) i inside lt))
    (λ out. tt)

-- the same of what is told over
pub serve_tells : (s : Setup) (told : SettledSoFar) (w : World) (x c : ℕ) → ToldOver s told w → TellsAll s w (Now s told w (event.Serve x c)) (planned s w (event.Serve x c))
serve_tells s told w x c h = serve_told s told w x c (λ short. (told_now s told w h short).knows)

pub seek_tells : (s : Setup) (told : SettledSoFar) (w : World) (t x m : ℕ) (to : Option Position) → ToldOver s told w
    → TellsAll s w (Now s told w (event.Seek t x m to)) (planned s w (event.Seek t x m to))
seek_tells s told w t x m to h = seek_told s told w t x m to (λ short. (told_now s told w h short).knows)
