-- A packet of client c is served where c is declared: a SEND of the open session is refused with an error, or what it asks for stands then.
use Rattle.std.proofs.Common.{◌≡◌, ◌==◌, ℕ, zero, suc, ◌<◌, Bool, true, false, List, [], ◌∷◌, ◌++◌, refl, sym, ap, subst, ◌∙◌, ◌⊎◌, inl, inr}
use Rattle.std.specs.Prelude.{Option, Some, None, if◌then◌else◌, slice_get, take}
use Rattle.std.proofs.lemmas.Bool.{eqb-true, false≢true}
use Rattle.std.proofs.lemmas.List.{append-nil}
use Rattle.std.proofs.lemmas.Option.{none-some, same_Some}
use Rattle.world_laws.proofs.Types.{Entry, Frame, Ident, Out, Packet, Peer, ClusterRef, Session}
use Rattle.world_laws.proofs.Types.frame
use Rattle.world_laws.proofs.Types.peer
use Rattle.world_laws.proofs.Types.write
use Rattle.geo_base.specs.Answers.{answers, unknown_error}
use Rattle.geo_base.specs.Broker.{Broker, Site, session_at}
use Rattle.geo_base.specs.Entry.{with_origin}
use Rattle.geo_base.specs.Getting.{seq_of}
use Rattle.geo_base.specs.Name.{is_name}
use Rattle.geo_base.specs.Plan.{Plan, quiet_plan}
use Rattle.geo_base.specs.Position.{no_position}
use Rattle.geo_base.specs.Producing.{is_sound, name_with, serve_send, stores}
use Rattle.geo_base.specs.Serving.{serve_command, serve_frame}
use Rattle.geo_base.specs.Setup.{Declared, Setup, declared_at}
use Rattle.geo_base.specs.Topic.{accepts, next_position}
use Rattle.geo_base.specs.World.{site}
use Rattle.world_laws.proofs.Published.InTurn.{AllBelow, AllOpen, Asks, HasSeq, IsOther, IsPub, Turns, all_before, below_others, below_stored, has_longer, has_stored, repeat_stands}
use Rattle.world_laws.proofs.Published.OwnMessages.{IsSent, Publishes, sent_is}
use Rattle.world_laws.proofs.Published.TurnAsides.{Aside, KeepsSession, NoReceiptTo, reply_quiet_to, updates_aside}
use Rattle.world_laws.proofs.Replicating.Effects.{Each, each_map, each_take}
use Rattle.world_laws.proofs.TopicOrder.Added.{appended}
use Rattle.world_laws.proofs.Walks.Shapes.{InSession, Served}
use Rattle.world_laws.proofs.Walks.Walk.{on_test}

-- ---- a SEND of the open session, and all else

pub data SendServed (h : Site) (b : Broker) (c : ℕ) (p : Packet) : Plan → Type 0 where
  Refuses : (v : Session) (id seq code : ℕ) → SendServed h b c p (answers c v (frame.SendError id seq code))
  Takes : (v : Session) (id seq : ℕ) (source : Option ClusterRef) (e : Entry) (n : List ℕ) → InSession b c p v → p.frame ≡ frame.Send id seq source e → is_sound h n seq source e ≡ true
      → SendServed h b c p (stores h b c v id seq (with_origin h.own e))
  Else : (q : Plan) → ((v : Session) (z : ℕ) → InSession b c p v → Asks z p.frame → ⊥) → SendServed h b c p q

named_send : (h : Site) (b : Broker) (c : ℕ) (p : Packet) (v : Session) (id seq : ℕ) (source : Option ClusterRef) (e : Entry) (n : Option (List ℕ)) → InSession b c p v → p.frame ≡ frame.Send id seq source e
    → SendServed h b c p (serve_send h b c v id seq source e n)
named_send h b c p v id seq source e None at is = SendServed.Refuses v id seq unknown_error
named_send h b c p v id seq source e (Some n) at is =
    on_test (SendServed h b c p) (is_sound h n seq source e) _ _ (λ sound. SendServed.Takes v id seq source e n at is sound) (λ unsound. SendServed.Refuses v id seq unknown_error)

send_of : (h : Site) (b : Broker) (c : ℕ) (p : Packet) (id seq : ℕ) (source : Option ClusterRef) (e : Entry) → p.frame ≡ frame.Send id seq source e → SendServed h b c p (serve_frame h b c p (frame.Send id seq source e))
send_of h b c p id seq source e is = by (session_at b c) refl
  where
    found : (v : Session) → session_at b c ≡ Some v → (t : Bool) → (v.number == p.session) ≡ t → SendServed h b c p (if t then serve_command h b c v p.frame else quiet_plan [])
    found v at true same =
        subst (λ (f : Frame). SendServed h b c p (serve_command h b c v f)) (sym is) (named_send h b c p v id seq source e (name_with id v.producers) (at, same) is)
    found v at false other =
        SendServed.Else (quiet_plan []) (λ u z session asks. false≢true (sym other ∙ subst (λ (k : Session). (k.number == p.session) ≡ true) (same_Some u v (sym session.0 ∙ at)) session.1))

    by : (o : Option Session) → session_at b c ≡ o → SendServed h b c p (serve_frame h b c p (frame.Send id seq source e))
    by None at = rw at (SendServed.Else (quiet_plan []) (λ u z session asks. none-some u (sym at ∙ session.0)))
    by (Some v) at = rw at (found v at (v.number == p.session) refl)

frame_served : (h : Site) (b : Broker) (c : ℕ) (p : Packet) (f : Frame) → p.frame ≡ f → SendServed h b c p (serve_frame h b c p f)
frame_served h b c p (frame.Send id seq source e) is = send_of h b c p id seq source e is
frame_served h b c p f is = SendServed.Else (serve_frame h b c p f) (λ v z session asks. subst (Asks z) is asks)

pub serve_is : (h : Site) (b : Broker) (c : ℕ) (p : Packet) → SendServed h b c p (serve_frame h b c p p.frame)
serve_is h b c p = frame_served h b c p p.frame refl

-- ---- what it leaves

-- no SEND_ERROR goes to c
abbrev pub NoErrorTo : ℕ → Frame → Peer → Type 0
NoErrorTo c (frame.SendError id seq code) (peer.Client z) = z ≡ c → ⊥
NoErrorTo c f q = Unit {0}

-- a receipt to c is of what stands
abbrev pub ReceiptTo : Declared → ℕ → List Entry → Frame → Peer → Type 0
ReceiptTo d c es (frame.SendReceipt id z o) (peer.Client y) = y ≡ c → HasSeq d es z
ReceiptTo d c es f q = Unit {0}

-- where no receipt goes to c
no_receipt_to : (d : Declared) (c : ℕ) (es : List Entry) (f : Frame) (q : Peer) → NoReceiptTo c f q → ReceiptTo d c es f q
no_receipt_to d c es (frame.SendReceipt id z o) (peer.Client y) h = λ same. absurd (h same)
no_receipt_to d c es (frame.SendReceipt id z o) (peer.Broker y) h = tt
no_receipt_to d c es (frame.SendReceipt id z o) (peer.Forward y) h = tt
no_receipt_to d c es (frame.SendReceipt id z o) (peer.Back y) h = tt
no_receipt_to d c es f q h = tt

pub receipts_aside : (d : Declared) (c : ℕ) (es : List Entry) (os : List Out) → Each (λ (o : Out). NoReceiptTo c o.frame o.to) os → Each (λ (o : Out). ReceiptTo d c es o.frame o.to) os
receipts_aside d c es os h = each_map (λ (o : Out). NoReceiptTo c o.frame o.to) (λ (o : Out). ReceiptTo d c es o.frame o.to) (λ o k. no_receipt_to d c es o.frame o.to k) os h

-- the numbers of the sessions that are open after it: one that was open, or the one that its CONNECT opens
abbrev pub OpenAfter : Broker → ℕ → Packet → ℕ → Type 0
OpenAfter b c p n = ((v : Session) × (session_at b c ≡ Some v) × (v.number ≡ n)) ⊎ ((p.frame ≡ frame.Connect) × (n ≡ p.session))

-- all of it, where no error goes out
pub record Leaves (d : Declared) (c : ℕ) (b : Broker) (p : Packet) (q : Plan) : Type 0 where
  pub below : (k : ℕ) → AllBelow d (b.entries ++ take k (appended q.writes))
  pub keeps : Each (KeepsSession c (OpenAfter b c p)) q.changes
  pub stands : Each (λ (o : Out). NoErrorTo c o.frame o.to) q.sent → (v : Session) (z : ℕ) → InSession b c p v → Asks z p.frame → HasSeq d (b.entries ++ appended q.writes) z
  pub receipts : Each (λ (o : Out). NoErrorTo c o.frame o.to) q.sent → Each (λ (o : Out). ReceiptTo d c (b.entries ++ appended q.writes) o.frame o.to) q.sent

-- what leaves c's publishes alone
aside_leaves : (d : Declared) (c : ℕ) (b : Broker) (p : Packet) (q : Plan) → AllBelow d b.entries → ((v : Session) (z : ℕ) → InSession b c p v → Asks z p.frame → ⊥) → Aside d c (OpenAfter b c p) q → Leaves d c b p q
aside_leaves d c b p q below none a = record {
  below = λ k. below_others d b.entries (take k (appended q.writes)) (each_take (IsOther d) k (appended q.writes) a.others) below;
  keeps = a.keeps;
  stands = λ fine v z session asks. absurd (none v z session asks);
  receipts = λ fine. receipts_aside d c (b.entries ++ appended q.writes) q.sent a.quiet;
}

-- a packet of c that is no SEND of its open session
own_aside : (s : Setup) (c x : ℕ) (b : Broker) (p : Packet) (q : Plan) → is_name (declared_at s c).name ≡ true → ((v : Session) (z : ℕ) → InSession b c p v → Asks z p.frame → ⊥)
    → Served (site s (declared_at s c).topic x) b c p q → Aside (declared_at s c) c (OpenAfter b c p) q
own_aside s c x b p q named none Served.Ignores = record { others = tt; keeps = tt; quiet = tt }
own_aside s c x b p q named none Served.Disconnects = record { others = tt; keeps = (tt, (tt, tt)); quiet = tt }
own_aside s c x b p q named none (Served.Connects v is new) = record { others = tt; keeps = (tt, ((λ same. inr (is, ap (λ (u : Session). u.number) new)), tt)); quiet = (tt, tt) }
own_aside s c x b p q named none (Served.Answers v f at) = record { others = tt; keeps = tt; quiet = (reply_quiet_to c c f at.1, tt) }
own_aside s c x b p q named none (Served.ChangesProducers v ps f at) = record { others = tt; keeps = ((λ same. inl (v, at.0.0, refl)), tt); quiet = (reply_quiet_to c c f at.1, tt) }
own_aside s c x b p q named none (Served.Stores v id seq source e at sound new) = absurd (none v seq at (subst (Asks seq) (sym sound.0) refl))
own_aside s c x b p q named none (Served.Repeats v id seq source e at sound old) = absurd (none v seq at (subst (Asks seq) (sym sound.0) refl))
own_aside s c x b p q named none (Served.Creates v topic n kind id request consumer earliest replicated at is may absent) = record { others = tt; keeps = (tt, tt); quiet = (tt, tt) }
own_aside s c x b p q named none (Served.Joins v topic n kind id request consumer earliest replicated u at is may there free same) = record { others = tt; keeps = (tt, tt); quiet = (tt, tt) }
own_aside s c x b p q named none (Served.Alters v topic n kind id request consumer earliest replicated u at is may there free kinds) = record { others = tt; keeps = (tt, tt); quiet = (tt, tt) }
own_aside s c x b p q named none (Served.Permits v id permits u at is by) = record { others = tt; keeps = (tt, tt); quiet = tt }
own_aside s c x b p q named none (Served.Acknowledges v id kind ps u i is ws at sent by of after) = record { others = updates_aside (declared_at s c) (site s (declared_at s c).topic x) b _ ws named after; keeps = (tt, tt); quiet = tt }
own_aside s c x b p q named none (Served.Unsubscribes v id request u at is by last) = record { others = tt; keeps = tt; quiet = (tt, tt) }
own_aside s c x b p q named none (Served.ClosesConsumer v id request u at is by) = record { others = tt; keeps = (tt, tt); quiet = (tt, tt) }

-- the message that it asks for is of a pub line
sent_pub : (s : Setup) (c x seq : ℕ) (e : Entry) → IsSent s c x seq e → IsPub (declared_at s c) seq
sent_pub s c x seq e h =
    let same : h.by.seq ≡ seq = sym (ap (λ (a : Entry). a.ident.seq) h.by.is) ∙ ap (λ (i : Ident). i.seq) h.named in
    (h.by.at, subst (λ (n : ℕ). seq_of (slice_get (declared_at s c).lines h.by.at) ≡ Some n) same (ap seq_of h.by.says))

take_none : (k : ℕ) → take {A = Entry} k [] ≡ []
take_none zero = refl
take_none (suc k) = refl

-- a SEND that may be stored is stored, or stood before
takes_leaves : (s : Setup) (c : ℕ) (b : Broker) (us : List Packet) (taken : ℕ) (p : Packet) (v : Session) (id seq : ℕ) (source : Option ClusterRef) (e : Entry) (n : List ℕ) → let d = declared_at s c in let h = site s d.topic d.cluster in
    InSession b c p v → p.frame ≡ frame.Send id seq source e → is_sound h n seq source e ≡ true → Publishes s c d.cluster p.session p.frame
    → Turns d b.entries us → AllOpen d b.entries (session_at b c) us taken → AllBelow d b.entries → slice_get us taken ≡ Some p → Leaves d c b p (stores h b c v id seq (with_origin d.cluster e))
takes_leaves s c b us taken p v id seq source e n at is sound pubs turns begins below next = by (accepts b.entries (with_origin d.cluster e).ident) refl
  where
    d : Declared
    d = declared_at s c

    h : Site
    h = site s d.topic d.cluster

    e' : Entry
    e' = with_origin d.cluster e

    sent : IsSent s c d.cluster seq e
    sent = sent_is s c d.cluster id seq p.session source e p.frame h n is sound pubs

    same_session : p.session ≡ v.number
    same_session = sym (eqb-true v.number p.session at.1)

    asked : Asks seq p.frame
    asked = subst (Asks seq) (sym is) refl

    all : (r : ℕ) → IsPub d r → r < seq → HasSeq d b.entries r
    all = all_before d b.entries (session_at b c) us taken seq p v turns begins next at.0 same_session asked

    same_seq : (z : ℕ) → Asks z p.frame → seq ≡ z
    same_seq z asks = subst (Asks z) is asks

    plan : Bool → Plan
    plan a = record { idle = false; writes = if a then write.Append e' ∷ [] else []; changes = []; sent = record { to = peer.Client c; session = v.number; frame = frame.SendReceipt id seq (Some (if a then next_position h.per_ledger b.ledgers else no_position)) } ∷ [] }

    has : (a : Bool) → accepts b.entries e'.ident ≡ a → HasSeq d (b.entries ++ appended (plan a).writes) seq
    has true new = has_stored d b.entries e' seq sent.named
    has false old = has_longer d b.entries [] seq (repeat_stands d b.entries seq below (sent_pub s c d.cluster seq e sent) (subst (λ (i : Ident). accepts b.entries i ≡ false) sent.named old))

    prefix : (a : Bool) → accepts b.entries e'.ident ≡ a → (k : ℕ) → AllBelow d (b.entries ++ take k (appended (plan a).writes))
    prefix true new zero = subst (AllBelow d) (sym (append-nil b.entries)) below
    prefix true new (suc k) = subst (λ (l : List Entry). AllBelow d (b.entries ++ e' ∷ l)) (sym (take_none k)) (below_stored d b.entries e' seq sent.named all below)
    prefix false old zero = subst (AllBelow d) (sym (append-nil b.entries)) below
    prefix false old (suc k) = subst (AllBelow d) (sym (append-nil b.entries)) below

    by : (a : Bool) → accepts b.entries e'.ident ≡ a → Leaves d c b p (stores h b c v id seq e')
    by a is_a = subst (λ (t : Bool). Leaves d c b p (plan t)) (sym is_a) (record {
      below = prefix a is_a;
      keeps = tt;
      stands = λ fine u z session asks. subst (HasSeq d (b.entries ++ appended (plan a).writes)) (same_seq z asks) (has a is_a);
      receipts = λ fine. ((λ same. has a is_a), tt);
    })

pub serve_leaves : (s : Setup) (c : ℕ) (b : Broker) (us : List Packet) (taken : ℕ) (p : Packet) (q : Plan) → let d = declared_at s c in is_name d.name ≡ true → SendServed (site s d.topic d.cluster) b c p q
    → Served (site s d.topic d.cluster) b c p q → Publishes s c d.cluster p.session p.frame → Turns d b.entries us → AllOpen d b.entries (session_at b c) us taken → AllBelow d b.entries → slice_get us taken ≡ Some p → Leaves d c b p q
serve_leaves s c b us taken p q named (SendServed.Refuses v id seq code) served pubs turns begins below next = record {
  below = λ k. subst (AllBelow (declared_at s c)) (sym (ap (λ (l : List Entry). b.entries ++ l) (take_none k) ∙ append-nil b.entries)) below;
  keeps = tt;
  stands = λ fine u z session asks. absurd (fine.0 refl);
  receipts = λ fine. absurd (fine.0 refl);
}
serve_leaves s c b us taken p q named (SendServed.Takes v id seq source e n at is sound) served pubs turns begins below next =
    takes_leaves s c b us taken p v id seq source e n at is sound pubs turns begins below next
serve_leaves s c b us taken p q named (SendServed.Else r none) served pubs turns begins below next =
    aside_leaves (declared_at s c) c b p r below none (own_aside s c (declared_at s c).cluster b p r named none served)
