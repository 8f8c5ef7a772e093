-- What a broker appends of its own cluster's messages is what a client published.
use Rattle.std.proofs.Common.{◌≡◌, ℕ, ◌<◌, Bool, true, List, [], ◌∷◌, length, refl, sym, ap, subst, ◌∙◌, ◌==◌, arith}
use Rattle.std.specs.Prelude.{Option, Some, ◌&&◌, nat_le, is_none}
use Rattle.std.specs.Str.{bytes_eq}
use Rattle.std.proofs.lemmas.Bool.{eqb-true, false≢true, ltb-true}
use Rattle.world_laws.proofs.Types.{Entry, Frame, Packet, ClusterRef, Position, Write}
use Rattle.world_laws.proofs.Types.frame
use Rattle.world_laws.proofs.Types.write
use Rattle.geo_base.specs.Broker.{Broker, Site}
use Rattle.geo_base.specs.Entry.{is_data, with_origin}
use Rattle.geo_base.specs.Forwarding.{closes}
use Rattle.geo_base.specs.Link.{next_packet}
use Rattle.geo_base.specs.Plan.{Plan, quiet_plan}
use Rattle.geo_base.specs.Planned.{Planned}
use Rattle.geo_base.specs.Producing.{is_sound}
use Rattle.geo_base.specs.Seeking.{restart}
use Rattle.geo_base.specs.Setup.{Declared, Setup, declared_at}
use Rattle.geo_base.specs.Sizes.{entry_size, most_entry_size}
use Rattle.geo_base.specs.Subscription.{Subscription}
use Rattle.geo_base.specs.World.{ToBroker, World, link_at, site}
use Rattle.world_laws.specs.Publishing.{IsPublished, IsPublishedBy, ident_of}
use Rattle.world_laws.proofs.Clients.ClientLinks.{Packets, SentUp}
use Rattle.world_laws.proofs.Dispatching.SubFrames.{each_at_place}
use Rattle.world_laws.proofs.Replicating.Effects.{Each, each_both}
use Rattle.world_laws.proofs.TopicOrder.Added.{appended, appended_both, came_other}
use Rattle.world_laws.proofs.TopicOrder.NoSelf.{NoSelf}
use Rattle.world_laws.proofs.Walks.EventWalk.{of_target}
use Rattle.world_laws.proofs.Walks.Shapes.{Answered, Fated, Offers, Reads, Seeks, Served, Shape, Snaps, Taken, Updates}

-- ---- what a client's packet publishes

-- a packet on the link of client c to x
abbrev pub Publishes : Setup → ℕ → ℕ → ℕ → Frame → Type 0
Publishes s c x session (frame.Send id seq source e) = (c < length s.clients) × (x ≡ (declared_at s c).cluster) × IsPublishedBy s (declared_at s c) e
Publishes s c x session f = Unit {0}

-- the message of a sound SEND, and its identity
pub record IsSent (s : Setup) (c x seq : ℕ) (e : Entry) : Type 0 where
  pub declared : c < length s.clients
  pub here : x ≡ (declared_at s c).cluster
  pub by : IsPublishedBy s (declared_at s c) (with_origin x e)
  pub named : (with_origin x e).ident ≡ ident_of (declared_at s c) seq

second : (a b c d e : Bool) → (a && b && c && d && e) ≡ true → b ≡ true
second a b c d e h = grind (arith, h)

pub sent_is : (s : Setup) (c x id seq session : ℕ) (source : Option ClusterRef) (e : Entry) (f : Frame) (h : Site) (n : List ℕ) → f ≡ frame.Send id seq source e → is_sound h n seq source e ≡ true
    → Publishes s c x session f → IsSent s c x seq e
sent_is s c x id seq session source e f h n is sound pubs = record {
  declared = p.0;
  here = here;
  by = record { at = by.at; seq = by.seq; to = by.to; key = by.key; text = by.text; says = by.says; is = origin ∙ by.is };
  named = λ j. record { origin = here j; producer = ap (λ (a : Entry). a.ident.producer) by.is j; seq = sym same_seq j };
}
  where
    d : Declared
    d = declared_at s c

    p : Publishes s c x session (frame.Send id seq source e)
    p = subst (Publishes s c x session) is pubs

    here : x ≡ d.cluster
    here = p.1

    by : IsPublishedBy s d e
    by = p.2

    -- it is of that cluster already
    origin : with_origin x e ≡ e
    origin = ap (λ (z : ℕ). with_origin z e) (here ∙ sym (ap (λ (a : Entry). a.ident.origin) by.is))

    same_seq : seq ≡ e.ident.seq
    same_seq = eqb-true seq e.ident.seq (second (bytes_eq n e.ident.producer) (seq == e.ident.seq) (is_none source) (is_data e.content) (nat_le (entry_size h.clusters e) most_entry_size) sound)

-- ---- what is appended of the own cluster's messages

-- an own message of a topic is published
abbrev pub OwnPublished : Setup → ℕ → ℕ → Entry → Type 0
OwnPublished s t x e = e.ident.origin ≡ x → is_data e.content ≡ true → IsPublished s t x e

abbrev pub AllOwn : Setup → ℕ → ℕ → List Write → Type 0
AllOwn s t x ws = Each (OwnPublished s t x) (appended ws)

updates_own : (s : Setup) (t x : ℕ) (h : Site) (b : Broker) (v : Subscription) (ws : List Write) → Updates h b v ws → AllOwn s t x ws
updates_own s t x h b v ws Updates.NoUpdate = tt
updates_own s t x h b v ws (Updates.Update cut replicated passed) = ((λ own is. absurd (false≢true is)), tt)

served_own : (s : Setup) (t x c : ℕ) (b : Broker) (p : Packet) (q : Plan) → t ≡ (declared_at s c).topic → Publishes s c x p.session p.frame → Served (site s t x) b c p q → AllOwn s t x q.writes
served_own s t x c b p q topic pubs Served.Ignores = tt
served_own s t x c b p q topic pubs Served.Disconnects = tt
served_own s t x c b p q topic pubs (Served.Connects v is new) = tt
served_own s t x c b p q topic pubs (Served.Answers v f at) = tt
served_own s t x c b p q topic pubs (Served.ChangesProducers v ps f at) = tt
served_own s t x c b p q topic pubs (Served.Stores v id seq source e at sound new) =
    let sent = sent_is s c x id seq p.session source e p.frame (site s t x) sound.1.0 sound.0 sound.1.2 pubs in
    ((λ own is. record { client = c; declared = sent.declared; topic = sym topic; cluster = sym sent.here; by = sent.by }), tt)
served_own s t x c b p q topic pubs (Served.Repeats v id seq source e at sound old) = tt
served_own s t x c b p q topic pubs (Served.Creates v topic' n kind id request consumer earliest replicated at is may named) = tt
served_own s t x c b p q topic pubs (Served.Joins v topic' n kind id request consumer earliest replicated u at is may named free same) = tt
served_own s t x c b p q topic pubs (Served.Alters v topic' n kind id request consumer earliest replicated u at is may named free other) = tt
served_own s t x c b p q topic pubs (Served.Permits v id permits u at is by) = tt
served_own s t x c b p q topic pubs (Served.Acknowledges v id kind ps u i is ws at sent by of after) = updates_own s t x (site s t x) b _ ws after
served_own s t x c b p q topic pubs (Served.Unsubscribes v id request u at is by last) = tt
served_own s t x c b p q topic pubs (Served.ClosesConsumer v id request u at is by) = tt

taken_own : (s : Setup) (t x z : ℕ) (h : Site) (b : Broker) (p : Packet) (q : Plan) → (z ≡ x → ⊥) → Taken h b z p q → AllOwn s t x q.writes
taken_own s t x z h b p q other (Taken.Stores id seq source e is at may new) = ((λ own d. absurd (other own)), tt)
taken_own s t x z h b p q other (Taken.Unreadable is) = tt
taken_own s t x z h b p q other (Taken.Opens topic id request name is opening) = tt
taken_own s t x z h b p q other (Taken.Discards else shut) = tt
taken_own s t x z h b p q other (Taken.Refuses else at may) = tt
taken_own s t x z h b p q other (Taken.Repeats id seq source e is at may old) = tt

answered_own : (s : Setup) (t x : ℕ) (b : Broker) (y : ℕ) (p : Packet) (q : Plan) → Answered b y p q → AllOwn s t x q.writes
answered_own s t x b y p q (Answered.Stale other) = tt
answered_own s t x b y p q (Answered.Other at other) = tt
answered_own s t x b y p q (Answered.Opened request name at is state) = tt
answered_own s t x b y p q (Answered.OpenBefore request name at is state) = tt
answered_own s t x b y p q (Answered.ClosedBefore request name at is state) = tt
answered_own s t x b y p q (Answered.Received id n i position at is pending) = tt
answered_own s t x b y p q (Answered.ReceivedBefore id n position at is pending) = tt

fated_own : (s : Setup) (t x per : ℕ) (b : Broker) (Acts : Broker → Plan → Type 0) (lost q : Plan) → ((c : Broker) (r : Plan) → Acts c r → AllOwn s t x r.writes) → AllOwn s t x lost.writes
    → Fated per b Acts lost q → AllOwn s t x q.writes
fated_own s t x per b Acts lost q acts none (Fated.Once r k) = acts b r k
fated_own s t x per b Acts lost q acts none Fated.Lost = none
fated_own s t x per b Acts lost q acts none (Fated.Twice r r' k k') =
    subst (Each (OwnPublished s t x)) (sym (appended_both r.writes r'.writes)) (each_both (OwnPublished s t x) (appended r.writes) (appended r'.writes) (acts b r k) (acts _ r' k'))

reads_own : (s : Setup) (t x : ℕ) (h : Site) (b : Broker) (y : ℕ) (q : Plan) → Reads h b y q → AllOwn s t x q.writes
reads_own s t x h b y q Reads.NothingToRead = tt
reads_own s t x h b y q (Reads.Forwards i e next out) = tt
reads_own s t x h b y q (Reads.Skips i e next other) = tt
reads_own s t x h b y q (Reads.Responds i e id source next of is) = ((λ own d. absurd (false≢true d)), tt)
reads_own s t x h b y q (Reads.Counts i e id answer u u' next is heard) = tt
reads_own s t x h b y q (Reads.AsksAgain i e id answer u u' next is heard) = ((λ own d. absurd (false≢true d)), tt)
reads_own s t x h b y q (Reads.Completes i e id answer u u' next is heard) = ((λ own d. absurd (false≢true d)), tt)
reads_own s t x h b y q (Reads.CreatesAt i j e n remote next is named) = tt
reads_own s t x h b y q (Reads.ActsOnUpdate i j e n remote v ws next is named after) =
    subst (Each (OwnPublished s t x)) (sym (appended_both ws (write.ReplicatorAck y i ∷ []))) (each_both (OwnPublished s t x) (appended ws) [] (updates_own s t x h b _ ws after) tt)

snaps_own : (s : Setup) (t x : ℕ) (h : Site) (b : Broker) (q : Plan) → Snaps h b q → AllOwn s t x q.writes
snaps_own s t x h b q Snaps.NothingToAsk = tt
snaps_own s t x h b q (Snaps.Asks any none) = ((λ own d. absurd (false≢true d)), tt)

offers_own : (s : Setup) (t x : ℕ) (h : Site) (b : Broker) (n : List ℕ) (q : Plan) → Offers h b n q → AllOwn s t x q.writes
offers_own s t x h b n q Offers.NothingToOffer = tt
offers_own s t x h b n q (Offers.Gives v i at e due is picked) = tt
offers_own s t x h b n q (Offers.SkipsMarker v i e ws due is after) = updates_own s t x h b _ ws after
offers_own s t x h b n q (Offers.Caches v i j e c ws due is after) = updates_own s t x h b _ ws after

seeks_own : (s : Setup) (t x : ℕ) (h : Site) (b : Broker) (n : List ℕ) (to : Option Position) (q : Plan) → Seeks h b n to q → AllOwn s t x q.writes
seeks_own s t x h b n to q Seeks.NothingToSeek = tt
seeks_own s t x h b n to q (Seeks.SeeksTo v i ws named at after) = updates_own s t x h b _ ws after

-- ---- each shape

-- what clients sent, on each of their links
abbrev pub AllPublish : Setup → World → Type 0
AllPublish s w = (c x : ℕ) → Packets (Publishes s c x) (SentUp w.links c x)

pub next_publishes : (s : Setup) (w : World) (c x : ℕ) (p : Packet) → AllPublish s w → next_packet (link_at w.links (ToBroker c x)) ≡ Some p → Publishes s c x p.session p.frame
next_publishes s w c x p all next = each_at_place (λ (a : Packet). Publishes s c x a.session a.frame) (link_at w.links (ToBroker c x)).sent (link_at w.links (ToBroker c x)).taken p (all c x) next

pub shape_own : (s : Setup) (w : World) (p : Planned) → Shape s w p → NoSelf s w → AllPublish s w → AllOwn s p.topic p.cluster p.plan.writes
unfolding restart
shape_own s w p (Shape.Idle t x within) none all = tt
shape_own s w p (Shape.Empty t x k within next) none all = tt
shape_own s w p (Shape.Serve x c q plan within next served) none all = served_own s (declared_at s c).topic x c _ q plan refl (next_publishes s w c x q all next) served
shape_own s w p (Shape.Drop x c v within at) none all = tt
shape_own s w p (Shape.Reset t x y within remote) none all = tt
shape_own s w p (Shape.Read t x y plan within reads) none all = reads_own s t x _ _ y plan reads
shape_own s w p (Shape.Take t x y q plan within next taken) none all =
    let small = ltb-true _ _ (of_target s t x y within) in
    fated_own s t y s.per_ledger _ _ (closes x) plan (λ b r k. taken_own s t y x (site s t y) b q r (came_other s w t x y q none small next) k) tt taken
shape_own s w p (Shape.Receipt t x y q plan within next answered) none all =
    fated_own s t x s.per_ledger _ _ (quiet_plan []) plan (λ b r k. answered_own s t x b y q r k) tt answered
shape_own s w p (Shape.Snap t x plan within snaps) none all = snaps_own s t x _ _ plan snaps
shape_own s w p (Shape.Offer t x n plan within offers) none all = offers_own s t x _ _ _ plan offers
shape_own s w p (Shape.Seek t x n to plan within seeks) none all = seeks_own s t x _ _ _ to plan seeks
shape_own s w p (Shape.Restart t x within) none all = tt
