-- What the lines of an event settle, after its first k writes, and what the event settles.
use Rattle.std.proofs.Common.{◌≡◌, ℕ, zero, suc, Bool, true, false, ap, List, [], ◌∷◌, refl, sym, subst, ◌∙◌, inl, inr}
use Rattle.std.specs.Prelude.{◌⊎◌, Option, Some, None, if◌then◌else◌, take}
use Rattle.std.specs.List.{list_any}
use Rattle.std.proofs.lemmas.Bool.{false≢true}
use Rattle.world_laws.proofs.Types.{Entry, Fate, Frame, Ident, Packet, Position, Session, Write}
use Rattle.world_laws.proofs.Types.frame
use Rattle.geo_base.specs.Broker.{Broker, Site, session_at, sub_named}
use Rattle.geo_base.specs.Cursor.{has}
use Rattle.geo_base.specs.Entry.{same_ident}
use Rattle.geo_base.specs.Forwarding.{closes, is_remote, receipt, reset, take_packet}
use Rattle.geo_base.specs.Plan.{Plan, idle_plan, quiet_plan}
use Rattle.geo_base.specs.Seeking.{seek}
use Rattle.geo_base.specs.Serving.{drop_session, serve, serve_frame}
use Rattle.geo_base.specs.Settled.{IsSettled, SettledSoFar, is_session, messages_at, settled_by_command, settled_by_packet, settled_by_seek}
use Rattle.geo_base.specs.Setup.{Setup, topic_name}
use Rattle.geo_base.specs.World.{site}
use Rattle.world_laws.proofs.Snapshotting.Answering.{Numbered}
use Rattle.world_laws.proofs.Replicating.Effects.{Each, each_both, each_take}
use Rattle.world_laws.proofs.Walks.LinkWalk.{fate_answered, fate_taken}
use Rattle.world_laws.proofs.Walks.OfferWalk.{seek_shape}
use Rattle.world_laws.proofs.Telling.ServeTells.{indexes_told, next_tells, seeks_tell}
use Rattle.world_laws.proofs.Walks.ServeWalk.{frame_served}
use Rattle.world_laws.proofs.Walks.Shapes.{Answered, Fated, Snaps, Taken}
use Rattle.world_laws.proofs.Telling.Told.{Tells, TellsWrite}
use Rattle.world_laws.proofs.Walks.Walk.{on_if}
use Rattle.geo_base.specs.declared.planned.Cause.{Cause}
use Rattle.geo_base.specs.declared.planned.Cause.TheVariants as cause
use Rattle.geo_base.specs.Traced.{acts_of, cursor_of, told_at}
use Rattle.geo_base.specs.Mirror.{Mirrors, mirror_at}
use Rattle.geo_base.specs.Audit.{settled_from}
use Rattle.trace_laws.specs.Seen.{seen}
use Rattle.trace_laws.proofs.Same.{idents_are}
use Rattle.trace_laws.proofs.Settling.{AmongIndexes, FirstOnly, Named, QuietWrite, among_index, first_in, named_out, quiet_items, seeks_first, served_first, session_named}

-- what the lines of a broker's writes settle
abbrev pub Lines : Setup → Mirrors → ℕ → ℕ → Cause → Broker → List Write → SettledSoFar
Lines s a t x c b ws u n = settled_from s a (told_at t x (acts_of (site s t x) c b ws)) u n

abbrev pub Among : Entry → List Ident → Type 0
Among e is = list_any (same_ident e.ident) is ≡ true

-- ---- quiet events

none_among : (s : Setup) (a : Mirrors) (t x : ℕ) (c : Cause) (b : Broker) (k : ℕ) (ws : List Write) → Each (QuietWrite c) ws → (u : ℕ) (n : List ℕ) (e : Entry) → Among e (Lines s a t x c b (take k ws) u n) → ⊥
none_among s a t x c b k ws quiet u n e h =
    false≢true (subst (Among e) (quiet_items s (site s t x) t x c u n b (take k ws) a (each_take (QuietWrite c) k ws quiet)) h)

taken_quiet : (h : Site) (b : Broker) (x : ℕ) (p : Packet) (q : Plan) (c : Cause) → Taken h b x p q → Each (QuietWrite c) q.writes
taken_quiet h b x p q c (Taken.Stores id seq source e is at may new) = (tt, tt)
taken_quiet h b x p q c (Taken.Unreadable is) = tt
taken_quiet h b x p q c (Taken.Opens topic id request name is opening) = tt
taken_quiet h b x p q c (Taken.Discards other shut) = tt
taken_quiet h b x p q c (Taken.Refuses other at may) = tt
taken_quiet h b x p q c (Taken.Repeats id seq source e is at may old) = tt

answered_quiet : (b : Broker) (y : ℕ) (p : Packet) (q : Plan) (c : Cause) → Answered b y p q → Each (QuietWrite c) q.writes
answered_quiet b y p q c (Answered.Stale other) = tt
answered_quiet b y p q c (Answered.Other at other) = tt
answered_quiet b y p q c (Answered.Opened request name at is state) = tt
answered_quiet b y p q c (Answered.OpenBefore request name at is state) = tt
answered_quiet b y p q c (Answered.ClosedBefore request name at is state) = tt
answered_quiet b y p q c (Answered.Received id n i position at is pending) = (tt, tt)
answered_quiet b y p q c (Answered.ReceivedBefore id n position at is pending) = tt

fated_quiet : (per : ℕ) (b : Broker) (Acts : Broker → Plan → Type 0) (lost q : Plan) (c : Cause) → ((d : Broker) (r : Plan) → Acts d r → Each (QuietWrite c) r.writes) → Each (QuietWrite c) lost.writes
    → Fated per b Acts lost q → Each (QuietWrite c) q.writes
fated_quiet per b Acts lost q c acts none (Fated.Once r k) = acts b r k
fated_quiet per b Acts lost q c acts none Fated.Lost = none
fated_quiet per b Acts lost q c acts none (Fated.Twice r r' k k') = each_both (QuietWrite c) r.writes r'.writes (acts b r k) (acts _ r' k')

pub takes_quiet : (h : Site) (b : Broker) (x : ℕ) (f : Fate) (o : Option Packet) (c : Cause) → Each (QuietWrite c) (take_packet h b x f o).writes
unfolding take_packet
takes_quiet h b x f None c = tt
takes_quiet h b x f (Some p) c = fated_quiet h.per_ledger b (λ d. Taken h d x p) (closes x) _ c (λ d r k. taken_quiet h d x p r c k) tt (fate_taken h b x p f)

pub receipts_quiet : (h : Site) (b : Broker) (y : ℕ) (f : Fate) (o : Option Packet) (c : Cause) → Each (QuietWrite c) (receipt h b y f o).writes
unfolding receipt
receipts_quiet h b y f None c = tt
receipts_quiet h b y f (Some p) c = fated_quiet h.per_ledger b (λ d. Answered d y p) (quiet_plan []) _ c (λ d r k. answered_quiet d y p r c k) tt (fate_answered h b y p f)

pub resets_quiet : (h : Site) (b : Broker) (y : ℕ) (c : Cause) → Each (QuietWrite c) (reset h b y).writes
unfolding reset
resets_quiet h b y c = on_if (λ (q : Plan). Each (QuietWrite c) q.writes) (is_remote h y) _ idle_plan (tt, tt) tt

pub drops_quiet : (k : ℕ) (o : Option Session) (c : Cause) → Each (QuietWrite c) (drop_session k o).writes
drops_quiet k None c = tt
drops_quiet k (Some v) c = tt

pub snaps_quiet : (h : Site) (b : Broker) (q : Plan) (c : Cause) → Snaps h b q → Each (QuietWrite c) q.writes
snaps_quiet h b q c Snaps.NothingToAsk = tt
snaps_quiet h b q c (Snaps.Asks any none) = (tt, tt)

-- ---- serving: no more, and no less

serves_first : (h : Site) (b : Broker) (c : ℕ) (o : Option Packet) → FirstOnly cause.Client (serve h b c o).writes
unfolding serve
serves_first h b c None = tt
serves_first h b c (Some p) = served_first h b c p _ (frame_served h b c p p.frame refl)

-- what the first write gains is told
abbrev TellsFirst : SettledSoFar → ℕ → Broker → List Write → Type 0
TellsFirst more t b [] = Unit {0}
TellsFirst more t b (w ∷ ws) = TellsWrite more t b w

first_of : (more : SettledSoFar) (t per : ℕ) (b : Broker) (ws : List Write) → Tells more t per b ws → TellsFirst more t b ws
first_of more t per b [] h = tt
first_of more t per b (w ∷ ws) h = h.0

-- of plans of which only the first write may settle
some_in : (s : Setup) (a : Mirrors) (t x : ℕ) (c : Cause) (b : Broker) (ws : List Write) (k : ℕ) (more : SettledSoFar) → mirror_at s a t x ≡ seen b → FirstOnly c ws → TellsFirst more t b ws
    → (u : ℕ) (n : List ℕ) (e : Entry) → Among e (Lines s a t x c b (take k ws) u n) → IsSettled more u n e
some_in s a t x c b ws zero more is first tells u n e h = absurd (false≢true h)
some_in s a t x c b [] (suc k) more is first tells u n e h = absurd (false≢true h)
some_in s a t x c b (w ∷ ws) (suc k) more is first tells u n e h = first_in s a t x c b w (take k ws) more is tells (each_take (QuietWrite c) k ws first) u n e h

-- each message at some indexes is told
abbrev pub MessagesTold : SettledSoFar → ℕ → List ℕ → Broker → List ℕ → Type 0
MessagesTold more t n b is = (e : Entry) → Among e (messages_at b.entries is) → IsSettled more t n e

-- THE LINES OF SERVING settle no more than what has each message that the packet names
pub serves_in : (s : Setup) (a : Mirrors) (t x c k : ℕ) (b : Broker) (o : Option Packet) (more : SettledSoFar) → mirror_at s a t x ≡ seen b → Numbered b.entries b.ledgers
    → ((n : List ℕ) → MessagesTold more t n b (settled_by_packet n b (topic_name s t) c o))
    → (u : ℕ) (n : List ℕ) (e : Entry) → Among e (Lines s a t x cause.Client b (take k (serve (site s t x) b c o).writes) u n) → IsSettled more u n e
serves_in s a t x c k b o more is numbered all u n e h =
    some_in s a t x cause.Client b (serve (site s t x) b c o).writes k more is (serves_first (site s t x) b c o)
    (first_of more t s.per_ledger b (serve (site s t x) b c o).writes
    (next_tells more t s.per_ledger (site s t x) b c o numbered
    (λ m i inside lt. indexes_told more t m b.entries (settled_by_packet m b (topic_name s t) c o) (λ f among. all m f among) i inside lt))) u n e h

seek_first : (h : Site) (b : Broker) (n : List ℕ) (to : Option Position) (c : Cause) → FirstOnly c (seek h b n to).writes
seek_first h b n to c = seeks_first h b n to c _ (seek_shape h b n to)

-- and those of a seek no more than what has each message that it passes over
pub seeks_in : (s : Setup) (a : Mirrors) (t x k : ℕ) (b : Broker) (m : List ℕ) (to : Option Position) (more : SettledSoFar) → mirror_at s a t x ≡ seen b → Numbered b.entries b.ledgers
    → MessagesTold more t m b (settled_by_seek b to (sub_named b.subs m))
    → (u : ℕ) (n : List ℕ) (e : Entry) → Among e (Lines s a t x cause.Client b (take k (seek (site s t x) b m to).writes) u n) → IsSettled more u n e
seeks_in s a t x k b m to more is numbered all u n e h =
    some_in s a t x cause.Client b (seek (site s t x) b m to).writes k more is (seek_first (site s t x) b m to cause.Client)
    (first_of more t s.per_ledger b (seek (site s t x) b m to).writes
    (seeks_tell more t s.per_ledger (site s t x) b m to _ (seek_shape (site s t x) b m to) numbered
    (λ i inside lt. indexes_told more t m b.entries (settled_by_seek b to (sub_named b.subs m)) all i inside lt))) u n e h

named_take : (n : List ℕ) (i k : ℕ) (ws : List Write) → Named n i ws → Named n i (take (suc k) ws)
named_take n i k ws (Named.ByAcks is rest inside) = Named.ByAcks is (take k rest) inside
named_take n i k ws (Named.ByCreation kind replicated rest) = Named.ByCreation kind replicated (take k rest)
named_take n i k ws (Named.BySeek j rest lt) = Named.BySeek j (take k rest) lt

-- a message at one of some indexes that stood in a cursor before
pub record WasThere (b : Broker) (n is : List ℕ) (e : Entry) : Type 0 where
  pub among : AmongIndexes b.entries is e
  pub before : has (cursor_of (sub_named b.subs n)) among.index ≡ true

-- AND NO LESS than each message of a plan that names it, but for what was in the cursor: after one write at least
pub names_out : (s : Setup) (a : Mirrors) (t x k : ℕ) (b : Broker) (ws : List Write) (n is : List ℕ) (e : Entry) → mirror_at s a t x ≡ seen b
    → ((i : ℕ) → has is i ≡ true → Named n i ws) → Among e (messages_at b.entries is)
    → WasThere b n is e ⊎ Among e (Lines s a t x cause.Client b (take (suc k) ws) t n)
names_out s a t x k b ws n is e seen_is named among =
    let r = among_index b.entries is e among in
    let ident : r.entry.ident ≡ e.ident = sym (idents_are e.ident r.entry.ident r.same) in
    elim (named_out s a t x b (take (suc k) ws) n r.index r.entry seen_is (named_take n r.index k ws (named r.index r.inside)) r.at r.message) [
      | inl old ↦ inl (record { among = r; before = old })
      | inr told ↦ inr (subst (λ (i : Ident). list_any (same_ident i) (Lines s a t x cause.Client b (take (suc k) ws) t n) ≡ true) ident told)
    ]

-- what a packet names its plan writes first
pub serve_named : (h : Site) (b : Broker) (c : ℕ) (n : List ℕ) (i : ℕ) (o : Option Packet) → has (settled_by_packet n b h.topic c o) i ≡ true → Named n i (serve h b c o).writes
unfolding serve
serve_named h b c n i None inside = absurd (false≢true inside)
serve_named h b c n i (Some p) inside = by p.frame refl
  where
    silent : (t : Bool) (l : List ℕ) → l ≡ [] → has (if t then l else []) i ≡ true → ⊥
    silent true l none k = false≢true (sym (ap (λ (z : List ℕ). has z i) none) ∙ k)
    silent false l none k = false≢true k

    by : (f : Frame) → p.frame ≡ f → Named n i (serve_frame h b c p f).writes
    by frame.Connect is = absurd (silent (is_session p.session (session_at b c)) (settled_by_command n b h.topic c p.frame) (ap (settled_by_command n b h.topic c) is) inside)
    by frame.Unreadable is = absurd (silent (is_session p.session (session_at b c)) (settled_by_command n b h.topic c p.frame) (ap (settled_by_command n b h.topic c) is) inside)
    by f is = session_named h b c p n i (session_at b c) inside
