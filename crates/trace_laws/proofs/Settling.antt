-- What the lines of an event settle, and what the event settles: the same, but for what was settled before.
use Rattle.std.proofs.Common.{◌≡◌, ℕ, ◌<◌, Bool, true, false, List, [], ◌∷◌, ◌++◌, length, refl, sym, ap, subst, ◌∙◌, ◌==◌, inl, inr, not}
use Rattle.std.specs.Prelude.{◌⊎◌, ◌&&◌, Option, Some, None, if◌then◌else◌, is_none, is_some, nat_lt, slice_get}
use Rattle.std.specs.List.{list_any}
use Rattle.std.specs.Str.{bytes_eq}
use Rattle.std.proofs.lemmas.Bool.{eq-eqb, eqb-true, false≢true}
use Rattle.std.proofs.lemmas.List.{append-nil}
use Rattle.std.proofs.lemmas.Option.{same_Some, slice_get_within}
use Rattle.std.proofs.lemmas.Slice.Eq.{bytes_eq-Decides}
use Rattle.world_laws.proofs.Types.{AckKind, Entry, Frame, Ident, Packet, Position, Session, SubKind, Write}
use Rattle.world_laws.proofs.Types.change
use Rattle.world_laws.proofs.Types.frame
use Rattle.world_laws.proofs.Types.write
use Rattle.geo_base.specs.Acknowledging.{acked_indexes, acks, serve_ack}
use Rattle.geo_base.specs.Broker.{Broker, Site, sub_named, written}
use Rattle.geo_base.specs.Cursor.{has, with_indexes}
use Rattle.geo_base.specs.Entry.{is_data, same_ident}
use Rattle.geo_base.specs.Plan.{Plan, idle_plan, plan_of, quiet_plan, unless_found}
use Rattle.geo_base.specs.Seeking.{seek, seek_index}
use Rattle.geo_base.specs.Serving.{serve_command}
use Rattle.geo_base.specs.Settled.{IsSettled, SettledSoFar, acked_on, below_index, first_indexes, is_created, is_session, messages_at, named_by_ack, settled_by_command, settled_by_seek, with_message}
use Rattle.geo_base.specs.Setup.{Setup}
use Rattle.geo_base.specs.Subscribing.{consumed_by, has_room, most_subs, serve_subscribe, subscribes}
use Rattle.geo_base.specs.Name.{is_name}
use Rattle.geo_base.specs.Storing.{cursor_write, update_after}
use Rattle.geo_base.specs.Subscription.{Subscription, is_attached, sought, with_acks}
use Rattle.geo_base.specs.Topic.{next_position}
use Rattle.geo_base.specs.World.{site}
use Rattle.world_laws.proofs.Replicating.Cursors.{either, or_left, or_right}
use Rattle.world_laws.proofs.Replicating.Effects.{Each, each_both}
use Rattle.world_laws.proofs.Telling.OnlyTold.{has_below}
use Rattle.world_laws.proofs.Dispatching.Remembers.{any_left, has_left, has_new, not_false}
use Rattle.world_laws.proofs.Telling.ServeTells.{acks_same, has_first, indexes_told}
use Rattle.world_laws.proofs.Walks.Shapes.{Offers, Reads, Seeks as SeekPlan, Served, Updates}
use Rattle.world_laws.proofs.Telling.Told.{IsTold, TellsWrite}
use Rattle.world_laws.proofs.Walks.Walk.{both, by_test, left, on_false, on_true, right}
use Rattle.geo_base.specs.declared.planned.Cause.{Cause}
use Rattle.geo_base.specs.declared.planned.Cause.TheVariants as cause
use Rattle.geo_base.specs.TraceItems.{Acks, Act, Appends, Creates, Deletes, Seeks, Writes}
use Rattle.geo_base.specs.Traced.{acts_of, cursor_of, gained, snapshot_told, told_at}
use Rattle.geo_base.specs.Mirror.{Mirror, Mirrors, indexes_settled, mirror_at, settled_by, told}
use Rattle.geo_base.specs.Audit.{settled_from}
use Rattle.trace_laws.specs.Seen.{seen}
use Rattle.trace_laws.proofs.Gained.{gained_is}
use Rattle.world_laws.proofs.Telling.Announcing.{find_stands}
use Rattle.trace_laws.proofs.Same.{idents_are}
use Rattle.trace_laws.proofs.Shaped.{read_cause}

-- ---- writes whose lines settle nothing, c being their cause

abbrev pub QuietWrite : Cause → Write → Type 0
QuietWrite c (write.Acks n is) = c ≡ cause.Client → ⊥
QuietWrite c (write.Create n kind replicated latest) = latest ≡ false
QuietWrite c (write.Seek n i) = ⊥
QuietWrite c w = Unit {0}

-- only the first one of a plan may settle
abbrev pub FirstOnly : Cause → List Write → Type 0
FirstOnly c [] = Unit {0}
FirstOnly c (w ∷ ws) = Each (QuietWrite c) ws

abbrev the_none : List Ident
the_none = []

abbrev no_indexes : List ℕ
no_indexes = []

abbrev is_client : Cause → Bool
is_client cause.Client = true
is_client cause.Marker = false
is_client (cause.Update p) = false
is_client cause.Plain = false
is_client cause.Seek = false

none_either : (b : Bool) → (if b then [] else []) ≡ the_none
none_either true = refl
none_either false = refl

quiet_acks : (m : Mirror) (n k is : List ℕ) (c : Cause) → (c ≡ cause.Client → ⊥) → indexes_settled m n (Acks k is c) ≡ []
quiet_acks m n k is cause.Client h = absurd (h refl)
quiet_acks m n k is cause.Marker h = refl
quiet_acks m n k is (cause.Update p) h = refl
quiet_acks m n k is cause.Plain h = refl
quiet_acks m n k is cause.Seek h = refl

quiet_create : (m : Mirror) (n k : List ℕ) (latest : Bool) → latest ≡ false → indexes_settled m n (Creates k latest) ≡ []
quiet_create m n k true h = absurd (false≢true (sym h))
quiet_create m n k false h = none_indexes (bytes_eq k n)
  where
    none_indexes : (b : Bool) → (if b then [] else []) ≡ no_indexes
    none_indexes true = refl
    none_indexes false = refl

-- a line of these indexes settles nothing
quiet_line : (s : Setup) (a : Mirrors) (t x : ℕ) (act : Act) (u : ℕ) (n : List ℕ) → indexes_settled (mirror_at s a t x) n act ≡ [] → settled_by s a (Writes t x act) u n ≡ []
quiet_line s a t x act u n h =
    ap (λ (is : List ℕ). if t == u then messages_at (mirror_at s a t x).entries is else []) h ∙ none_either (t == u)

no_line : (b : Bool) (l : List Ident) → l ≡ [] → (if b then l else []) ≡ []
no_line true l h = h
no_line false l h = refl

pub quiet_items : (s : Setup) (h : Site) (t x : ℕ) (c : Cause) (u : ℕ) (n : List ℕ) (b : Broker) (ws : List Write) (a : Mirrors) → Each (QuietWrite c) ws
    → settled_from s a (told_at t x (acts_of h c b ws)) u n ≡ []
quiet_items s h t x c u n b [] a q = refl
quiet_items s h t x c u n b (write.Acks m is ∷ ws) a q =
    let act = Acks m (gained (cursor_of (sub_named b.subs m)) is) c in let b' = written h.per_ledger b (write.Acks m is) in let a' = told s a (Writes t x act) in
    ap (λ (l : List Ident). l ++ settled_from s a' (told_at t x (acts_of h c b' ws)) u n)
    (quiet_line s a t x act u n (quiet_acks (mirror_at s a t x) n m (gained (cursor_of (sub_named b.subs m)) is) c q.0))
    ∙ quiet_items s h t x c u n b' ws a' q.1
quiet_items s h t x c u n b (write.Create m kind replicated latest ∷ ws) a q =
    let act = Creates m latest in let b' = written h.per_ledger b (write.Create m kind replicated latest) in let a' = told s a (Writes t x act) in
    ap (λ (l : List Ident). l ++ settled_from s a' (told_at t x (acts_of h c b' ws)) u n) (quiet_line s a t x act u n (quiet_create (mirror_at s a t x) n m latest q.0))
    ∙ quiet_items s h t x c u n b' ws a' q.1
quiet_items s h t x c u n b (write.Seek m i ∷ ws) a q = absurd q.0
quiet_items s h t x c u n b (write.Append e ∷ ws) a q =
    let act = Appends (next_position h.per_ledger b.ledgers) e (snapshot_told h b e e.content) in let b' = written h.per_ledger b (write.Append e) in let a' = told s a (Writes t x act) in
    ap (λ (l : List Ident). l ++ settled_from s a' (told_at t x (acts_of h c b' ws)) u n) (quiet_line s a t x act u n refl) ∙ quiet_items s h t x c u n b' ws a' q.1
quiet_items s h t x c u n b (write.Delete m ∷ ws) a q =
    let act = Deletes m in let b' = written h.per_ledger b (write.Delete m) in let a' = told s a (Writes t x act) in
    ap (λ (l : List Ident). l ++ settled_from s a' (told_at t x (acts_of h c b' ws)) u n) (quiet_line s a t x act u n refl) ∙ quiet_items s h t x c u n b' ws a' q.1
quiet_items s h t x c u n b (write.Alter m kind replicated ∷ ws) a q = quiet_items s h t x c u n (written h.per_ledger b (write.Alter m kind replicated)) ws a q.1
quiet_items s h t x c u n b (write.ReplicatorAck y i ∷ ws) a q = quiet_items s h t x c u n (written h.per_ledger b (write.ReplicatorAck y i)) ws a q.1
quiet_items s h t x c u n b (write.SessionNumber y i ∷ ws) a q = quiet_items s h t x c u n (written h.per_ledger b (write.SessionNumber y i)) ws a q.1
quiet_items s h t x c u n b (write.Ledger ∷ ws) a q = quiet_items s h t x c u n (written h.per_ledger b write.Ledger) ws a q.1

-- ---- shapes

quiet_updates : (h : Site) (b : Broker) (v : Subscription) (c : Cause) (ws : List Write) → Updates h b v ws → Each (QuietWrite c) ws
quiet_updates h b v c ws Updates.NoUpdate = tt
quiet_updates h b v c ws (Updates.Update cut replicated passed) = (tt, tt)

not_client : (b : Broker) (y : ℕ) → read_cause b y ≡ cause.Client → ⊥
not_client b y e = false≢true (ap is_client e)

marker_not_client : cause.Marker ≡ cause.Client → ⊥
marker_not_client e = false≢true (ap is_client e)

pub reads_quiet : (h : Site) (b : Broker) (y : ℕ) (q : Plan) → Reads h b y q → Each (QuietWrite (read_cause b y)) q.writes
reads_quiet h b y q Reads.NothingToRead = tt
reads_quiet h b y q (Reads.Forwards i e next out) = tt
reads_quiet h b y q (Reads.Skips i e next other) = (tt, tt)
reads_quiet h b y q (Reads.Responds i e id source next of is) = (tt, (tt, tt))
reads_quiet h b y q (Reads.Counts i e id answer u u' next is heard) = (tt, tt)
reads_quiet h b y q (Reads.AsksAgain i e id answer u u' next is heard) = (tt, (tt, tt))
reads_quiet h b y q (Reads.Completes i e id answer u u' next is heard) = (tt, (tt, tt))
reads_quiet h b y q (Reads.CreatesAt i j e m remote next is absent) = (refl, (not_client b y, (tt, tt)))
reads_quiet h b y q (Reads.ActsOnUpdate i j e m remote v ws next is found after) =
    (not_client b y, each_both (QuietWrite (read_cause b y)) ws (write.ReplicatorAck y i ∷ []) (quiet_updates h b _ (read_cause b y) ws after) (tt, tt))

pub offers_quiet : (h : Site) (b : Broker) (n : List ℕ) (q : Plan) → Offers h b n q → Each (QuietWrite cause.Marker) q.writes
offers_quiet h b n q Offers.NothingToOffer = tt
offers_quiet h b n q (Offers.Gives v i at e due is picked) = tt
offers_quiet h b n q (Offers.SkipsMarker v i e ws due silent after) = (marker_not_client, quiet_updates h b _ cause.Marker ws after)
offers_quiet h b n q (Offers.Caches v i j e c ws due is after) = (marker_not_client, quiet_updates h b _ cause.Marker ws after)

pub served_first : (h : Site) (b : Broker) (c : ℕ) (p : Packet) (q : Plan) → Served h b c p q → FirstOnly cause.Client q.writes
served_first h b c p q (Served.Acknowledges v id kind ps u i is ws at is_ack by of after) = quiet_updates h b _ cause.Client ws after
served_first h b c p q (Served.Stores v id seq source e at sound accepted) = tt
served_first h b c p q (Served.Creates v topic m kind id request consumer earliest replicated at is may named) = tt
served_first h b c p q (Served.Alters v topic m kind id request consumer earliest replicated u at is may named free other) = tt
served_first h b c p q (Served.Unsubscribes v id request u at is by last) = tt
served_first h b c p q Served.Ignores = tt
served_first h b c p q Served.Disconnects = tt
served_first h b c p q (Served.Connects v is made) = tt
served_first h b c p q (Served.Answers v f at) = tt
served_first h b c p q (Served.ChangesProducers v ps f at) = tt
served_first h b c p q (Served.Repeats v id seq source e at sound old) = tt
served_first h b c p q (Served.Joins v topic m kind id request consumer earliest replicated u at is may named free same) = tt
served_first h b c p q (Served.Permits v id permits u at is by) = tt
served_first h b c p q (Served.ClosesConsumer v id request u at is by) = tt

pub seeks_first : (h : Site) (b : Broker) (n : List ℕ) (to : Option Position) (c : Cause) (q : Plan) → SeekPlan h b n to q → FirstOnly c q.writes
seeks_first h b n to c q SeekPlan.NothingToSeek = tt
seeks_first h b n to c q (SeekPlan.SeeksTo v i ws named at after) = quiet_updates h b _ c ws after

-- ---- THE OTHER WAY: what a packet names is written by the first write of its plan

pub data Named (n : List ℕ) (i : ℕ) : List Write → Type 0 where
  ByAcks : (is : List ℕ) (rest : List Write) → has is i ≡ true → Named n i (write.Acks n is ∷ rest)
  ByCreation : (kind : SubKind) (replicated : Bool) (rest : List Write) → Named n i (write.Create n kind replicated true ∷ rest)
  BySeek : (j : ℕ) (rest : List Write) → i < j → Named n i (write.Seek n j ∷ rest)

acks_named : (h : Site) (b : Broker) (n : List ℕ) (i : ℕ) (v : Subscription) (is : List ℕ) → bytes_eq v.name n ≡ true → has is i ≡ true → Named n i (acks h b v is).writes
acks_named h b n i v [] same inside = absurd (false≢true inside)
acks_named h b n i v (j ∷ is) same inside =
    let name : v.name ≡ n = (bytes_eq-Decides v.name n).0 same in
    let rest = update_after h b (with_acks (j ∷ is) v) in
    subst (λ (m : List ℕ). Named n i (write.Acks m (j ∷ is) ∷ rest)) (sym name) (Named.ByAcks (j ∷ is) rest inside)

ack_named : (h : Site) (b : Broker) (n : List ℕ) (i : ℕ) (kind : AckKind) (ps : List Position) (o : Option Subscription) → has (acked_on n b kind ps o) i ≡ true
    → Named n i (serve_ack h b kind ps o).writes
ack_named h b n i kind ps None inside = absurd (false≢true inside)
ack_named h b n i kind ps (Some v) inside = by (bytes_eq v.name n) refl inside
  where
    by : (t : Bool) → bytes_eq v.name n ≡ t → has (if t then named_by_ack b.ledgers v.kind kind ps else []) i ≡ true → Named n i (acks h b v (acked_indexes b.ledgers v.kind ps kind)).writes
    by false is k = absurd (false≢true k)
    by true is k =
        acks_named h b n i v (acked_indexes b.ledgers v.kind ps kind) is
        (subst (λ (l : List ℕ). has l i ≡ true) (sym (acks_same b.ledgers v.kind ps kind)) k)

joined : (h : Site) (b : Broker) (c : ℕ) (s : Session) (to m : List ℕ) (kind : SubKind) (id request : ℕ) (earliest replicated : Bool) → is_created b h.topic c to m ≡ true
    → (serve_subscribe h b c s to m kind id request earliest replicated).writes ≡ write.Create m kind replicated (not earliest) ∷ []
joined h b c s to m kind id request earliest replicated made =
    let a1 = bytes_eq to h.topic in let a2 = is_name m in let a3 = is_none (sub_named b.subs m) in let a4 = nat_lt (length b.subs) most_subs in let a5 = not (list_any (is_attached c) b.subs) in
    let four = left (a1 && a2 && a3 && a4) a5 made in let three = left (a1 && a2 && a3) a4 four in let two = left (a1 && a2) a3 three in
    let room : has_room b m ≡ true = or_right (is_some (sub_named b.subs m)) a4 (right (a1 && a2 && a3) a4 four) in
    let ok : not (a1 && a2 && has_room b m) ≡ false = ap not (both (a1 && a2) (has_room b m) two room) in
    let alone : list_any (is_attached c) b.subs ≡ false = is_not (list_any (is_attached c) b.subs) (right (a1 && a2 && a3 && a4) a5 made) in
    let W : Plan → List Write = λ q. q.writes in
    ap W (on_false (not (a1 && a2 && has_room b m)) _ _ ok) ∙ (ap W (on_false (list_any (is_attached c) b.subs) _ _ alone) ∙ created (sub_named b.subs m) (right (a1 && a2) a3 three))
  where
    is_not : (t : Bool) → not t ≡ true → t ≡ false
    is_not true k = absurd (false≢true k)
    is_not false k = refl

    created : (o : Option Subscription) → is_none o ≡ true → (subscribes c s m kind id request earliest replicated o).writes ≡ write.Create m kind replicated (not earliest) ∷ []
    created None k = refl
    created (Some v) k = absurd (false≢true k)

subscribe_named : (h : Site) (b : Broker) (c : ℕ) (s : Session) (n : List ℕ) (i : ℕ) (to m : List ℕ) (kind : SubKind) (id request : ℕ) (consumer : Option (List ℕ)) (earliest replicated : Bool)
    → has (settled_by_command n b h.topic c (frame.Subscribe to m kind id request consumer earliest replicated)) i ≡ true
    → Named n i (serve_subscribe h b c s to m kind id request earliest replicated).writes
subscribe_named h b c s n i to m kind id request consumer earliest replicated inside = by test refl inside
  where
    test : Bool
    test = bytes_eq m n && not earliest && is_created b h.topic c to m

    by : (t : Bool) → test ≡ t → has (if t then first_indexes (length b.entries) else []) i ≡ true → Named n i (serve_subscribe h b c s to m kind id request earliest replicated).writes
    by false is k = absurd (false≢true k)
    by true is k =
        let two = left (bytes_eq m n && not earliest) (is_created b h.topic c to m) is in
        let name : m ≡ n = (bytes_eq-Decides m n).0 (left (bytes_eq m n) (not earliest) two) in
        let late : not earliest ≡ true = right (bytes_eq m n) (not earliest) two in
        let plan = joined h b c s to m kind id request earliest replicated (right (bytes_eq m n && not earliest) (is_created b h.topic c to m) is) in
        subst (Named n i) (sym plan)
        (subst (λ (l : Bool). Named n i (write.Create m kind replicated l ∷ [])) (sym late)
        (subst (λ (k' : List ℕ). Named n i (write.Create k' kind replicated true ∷ [])) (sym name) (Named.ByCreation kind replicated [])))

-- what a command settles is what its plan writes first; all but two settle nothing
command_named : (h : Site) (b : Broker) (c : ℕ) (s : Session) (n : List ℕ) (i : ℕ) (f : Frame) → has (settled_by_command n b h.topic c f) i ≡ true → Named n i (serve_command h b c s f).writes
command_named h b c s n i (frame.Ack id kind ps) inside = ack_named h b n i kind ps (consumed_by b.subs c id) inside
command_named h b c s n i (frame.Subscribe to m kind id request consumer earliest replicated) inside =
    subscribe_named h b c s n i to m kind id request consumer earliest replicated inside
command_named h b c s n i f inside = absurd (false≢true inside)

pub session_named : (h : Site) (b : Broker) (c : ℕ) (p : Packet) (n : List ℕ) (i : ℕ) (o : Option Session)
    → has (if is_session p.session o then settled_by_command n b h.topic c p.frame else []) i ≡ true
    → Named n i (unless_found (quiet_plan []) o (λ s. if s.number == p.session then serve_command h b c s p.frame else quiet_plan [])).writes
session_named h b c p n i None inside = absurd (false≢true inside)
session_named h b c p n i (Some s) inside = by (s.number == p.session) inside
  where
    by : (t : Bool) → has (if t then settled_by_command n b h.topic c p.frame else []) i ≡ true → Named n i (if t then serve_command h b c s p.frame else quiet_plan []).writes
    by true k = command_named h b c s n i p.frame k
    by false k = absurd (false≢true k)

-- ---- WHAT THE FIRST LINE SETTLES

-- a message among those at some indexes stands at one of them
pub record AmongIndexes (es : List Entry) (is : List ℕ) (e : Entry) : Type 0 where
  pub index : ℕ
  pub entry : Entry
  pub inside : has is index ≡ true
  pub at : slice_get es index ≡ Some entry
  pub message : is_data entry.content ≡ true
  pub same : same_ident e.ident entry.ident ≡ true

pub among_index : (es : List Entry) (is : List ℕ) (e : Entry) → list_any (same_ident e.ident) (messages_at es is) ≡ true → AmongIndexes es is e
among_index es [] e h = absurd (false≢true h)
among_index es (i ∷ is) e h = by (slice_get es i) refl h
    (λ k. let r = among_index es is e k in
    record { index = r.index; entry = r.entry; inside = or_right (i == r.index) (has is r.index) r.inside; at = r.at; message = r.message; same = r.same })
  where
    here : (f : Entry) → slice_get es i ≡ Some f → is_data f.content ≡ true → same_ident e.ident f.ident ≡ true → AmongIndexes es (i ∷ is) e
    here f at message same = record { index = i; entry = f; inside = or_left (i == i) (has is i) (eq-eqb i i refl); at = at; message = message; same = same }

    data_or : (f : Entry) → slice_get es i ≡ Some f → (d : Bool) → is_data f.content ≡ d → list_any (same_ident e.ident) (if d then f.ident ∷ messages_at es is else messages_at es is) ≡ true
        → (list_any (same_ident e.ident) (messages_at es is) ≡ true → AmongIndexes es (i ∷ is) e) → AmongIndexes es (i ∷ is) e
    data_or f at true message k rest = elim (either (same_ident e.ident f.ident) (list_any (same_ident e.ident) (messages_at es is)) k) [ inl s ↦ here f at message s | inr r ↦ rest r ]
    data_or f at false message k rest = rest k

    by : (o : Option Entry) → slice_get es i ≡ o → list_any (same_ident e.ident) (with_message o (messages_at es is)) ≡ true
        → (list_any (same_ident e.ident) (messages_at es is) ≡ true → AmongIndexes es (i ∷ is) e) → AmongIndexes es (i ∷ is) e
    by None at k rest = rest k
    by (Some f) at k rest = data_or f at (is_data f.content) refl k rest

-- what a line settles is told, where all at its indexes is
act_in : (s : Setup) (a : Mirrors) (t x : ℕ) (act : Act) (b : Broker) (more : SettledSoFar) → mirror_at s a t x ≡ seen b
    → ((n : List ℕ) (i : ℕ) → has (indexes_settled (seen b) n act) i ≡ true → IsTold more t n b.entries i)
    → (u : ℕ) (n : List ℕ) (e : Entry) → list_any (same_ident e.ident) (settled_by s a (Writes t x act) u n) ≡ true → IsSettled more u n e
act_in s a t x act b more is all u n e h = by (t == u) refl h
  where
    by : (k : Bool) → (t == u) ≡ k → list_any (same_ident e.ident) (if k then messages_at (mirror_at s a t x).entries (indexes_settled (mirror_at s a t x) n act) else []) ≡ true → IsSettled more u n e
    by false other k = absurd (false≢true k)
    by true same k =
        let M : Mirror → Type 0 = λ m. list_any (same_ident e.ident) (messages_at m.entries (indexes_settled m n act)) ≡ true in
        let r = among_index b.entries (indexes_settled (seen b) n act) e (subst M is k) in
        let told = all n r.index r.inside in
        let one : told.0 ≡ r.entry = same_Some _ _ (sym told.1 ∙ r.at) in
        let settled : IsSettled more t n told.0 = told.2 (ap (λ (z : Entry). is_data z.content) one ∙ r.message) in
        let ident : told.0.ident ≡ e.ident = ap (λ (z : Entry). z.ident) one ∙ sym (idents_are e.ident r.entry.ident r.same) in
        subst (λ (z : ℕ). IsSettled more z n e) (eqb-true t u same) (subst (λ (i : Ident). list_any (same_ident i) (more t n) ≡ true) ident settled)

-- which indexes the first write's line settles, they are among those that the write gains for the cursor
gains_told : (more : SettledSoFar) (t : ℕ) (h : Site) (c : Cause) (b : Broker) (m is : List ℕ) → ((i : ℕ) → has is i ≡ true → IsTold more t m b.entries i)
    → (n : List ℕ) (i : ℕ) → has (indexes_settled (seen b) n (Acks m (gained (cursor_of (sub_named b.subs m)) is) c)) i ≡ true → IsTold more t n b.entries i
gains_told more t h cause.Marker b m is tells n i inside = absurd (false≢true inside)
gains_told more t h (cause.Update p) b m is tells n i inside = absurd (false≢true inside)
gains_told more t h cause.Plain b m is tells n i inside = absurd (false≢true inside)
gains_told more t h cause.Seek b m is tells n i inside = absurd (false≢true inside)
gains_told more t h cause.Client b m is tells n i inside = by (bytes_eq m n) refl inside
  where
    by : (k : Bool) → bytes_eq m n ≡ k → has (if k then gained (cursor_of (sub_named b.subs m)) is else []) i ≡ true → IsTold more t n b.entries i
    by false other k = absurd (false≢true k)
    by true same k =
        subst (λ (l : List ℕ). IsTold more t l b.entries i) ((bytes_eq-Decides m n).0 same) (tells i (gained_is (cursor_of (sub_named b.subs m)) is i k).0)

-- THE LINES SETTLE NO MORE than what more has, where it has what the first write gains
pub first_in : (s : Setup) (a : Mirrors) (t x : ℕ) (c : Cause) (b : Broker) (w : Write) (ws : List Write) (more : SettledSoFar) → mirror_at s a t x ≡ seen b → TellsWrite more t b w
    → Each (QuietWrite c) ws → (u : ℕ) (n : List ℕ) (e : Entry)
    → list_any (same_ident e.ident) (settled_from s a (told_at t x (acts_of (site s t x) c b (w ∷ ws))) u n) ≡ true → IsSettled more u n e
first_in s a t x c b w ws more is tells quiet u n e h = by w tells h
  where
    only : (act : Act) (b' : Broker) → list_any (same_ident e.ident) (settled_by s a (Writes t x act) u n ++ settled_from s (told s a (Writes t x act)) (told_at t x (acts_of (site s t x) c b' ws)) u n) ≡ true
        → list_any (same_ident e.ident) (settled_by s a (Writes t x act) u n) ≡ true
    only act b' k =
        subst (λ (l : List Ident). list_any (same_ident e.ident) l ≡ true)
        (ap (λ (l : List Ident). settled_by s a (Writes t x act) u n ++ l) (quiet_items s (site s t x) t x c u n b' ws (told s a (Writes t x act)) quiet) ∙ append-nil (settled_by s a (Writes t x act) u n)) k

    none : (b' : Broker) → list_any (same_ident e.ident) (settled_from s a (told_at t x (acts_of (site s t x) c b' ws)) u n) ≡ true → IsSettled more u n e
    none b' k = absurd (false≢true (subst (λ (l : List Ident). list_any (same_ident e.ident) l ≡ true) (quiet_items s (site s t x) t x c u n b' ws a quiet) k))

    silent : (act : Act) → ((k : List ℕ) → indexes_settled (mirror_at s a t x) k act ≡ []) → list_any (same_ident e.ident) (settled_by s a (Writes t x act) u n) ≡ true → IsSettled more u n e
    silent act empty k = absurd (false≢true (subst (λ (l : List Ident). list_any (same_ident e.ident) l ≡ true) (quiet_line s a t x act u n (empty n)) k))

    creates : (m : List ℕ) (latest : Bool) → ((i : ℕ) → latest ≡ true → i < length b.entries → IsTold more t m b.entries i) → (k : List ℕ) (i : ℕ)
        → has (indexes_settled (seen b) k (Creates m latest)) i ≡ true → IsTold more t k b.entries i
    creates m true all k i inside = named (bytes_eq m k) refl inside
      where
        named : (q : Bool) → bytes_eq m k ≡ q → has (if q then first_indexes (length b.entries) else []) i ≡ true → IsTold more t k b.entries i
        named false other g = absurd (false≢true g)
        named true same g = subst (λ (l : List ℕ). IsTold more t l b.entries i) ((bytes_eq-Decides m k).0 same) (all i refl (has_below (length b.entries) i g))
    creates m false all k i inside = absurd (false≢true (sym (ap (λ (l : List ℕ). has l i) (quiet_create (seen b) k m false refl)) ∙ inside))

    seeks : (m : List ℕ) (j : ℕ) → ((i : ℕ) → i < j → IsTold more t m b.entries i) → (k : List ℕ) (i : ℕ) → has (indexes_settled (seen b) k (Seeks m j)) i ≡ true → IsTold more t k b.entries i
    seeks m j all k i inside = named (bytes_eq m k) refl inside
      where
        named : (q : Bool) → bytes_eq m k ≡ q → has (if q then first_indexes j else []) i ≡ true → IsTold more t k b.entries i
        named false other g = absurd (false≢true g)
        named true same g = subst (λ (l : List ℕ). IsTold more t l b.entries i) ((bytes_eq-Decides m k).0 same) (all i (has_below j i g))

    by : (w : Write) → TellsWrite more t b w → list_any (same_ident e.ident) (settled_from s a (told_at t x (acts_of (site s t x) c b (w ∷ ws))) u n) ≡ true → IsSettled more u n e
    by (write.Acks m is') tells k =
        let act = Acks m (gained (cursor_of (sub_named b.subs m)) is') c in
        act_in s a t x act b more is (gains_told more t (site s t x) c b m is' tells) u n e (only act (written s.per_ledger b (write.Acks m is')) k)
    by (write.Create m kind replicated latest) tells k =
        act_in s a t x (Creates m latest) b more is (creates m latest tells) u n e (only (Creates m latest) (written s.per_ledger b (write.Create m kind replicated latest)) k)
    by (write.Seek m j) tells k = act_in s a t x (Seeks m j) b more is (seeks m j tells) u n e (only (Seeks m j) (written s.per_ledger b (write.Seek m j)) k)
    by (write.Append f) tells k =
        let act = Appends (next_position s.per_ledger b.ledgers) f (snapshot_told (site s t x) b f f.content) in
        silent act (λ l. refl) (only act (written s.per_ledger b (write.Append f)) k)
    by (write.Delete m) tells k = silent (Deletes m) (λ l. refl) (only (Deletes m) (written s.per_ledger b (write.Delete m)) k)
    by (write.Alter m kind replicated) tells k = none (written s.per_ledger b (write.Alter m kind replicated)) k
    by (write.ReplicatorAck y i) tells k = none (written s.per_ledger b (write.ReplicatorAck y i)) k
    by (write.SessionNumber y i) tells k = none (written s.per_ledger b (write.SessionNumber y i)) k
    by write.Ledger tells k = none (written s.per_ledger b write.Ledger) k

-- ---- AND NO LESS, but for what was in the cursor

-- a seek names what it puts into the cursor
pub seek_named : (h : Site) (b : Broker) (n : List ℕ) (to : Option Position) (i : ℕ) → has (settled_by_seek b to (sub_named b.subs n)) i ≡ true → Named n i (seek h b n to).writes
unfolding seek
seek_named h b n to i inside = by (sub_named b.subs n) refl inside
  where
    moved : (v : Subscription) → bytes_eq v.name n ≡ true → (o : Option ℕ) → has (below_index o) i ≡ true
        → Named n i (unless_found idle_plan o (λ j. plan_of (cursor_write h b v (write.Seek v.name j)) (change.Cleared v.name ∷ []) [])).writes
    moved v same None k = absurd (false≢true k)
    moved v same (Some j) k =
        let rest = update_after h b (sought j v) in
        subst (λ (m : List ℕ). Named n i (write.Seek m j ∷ rest)) (sym ((bytes_eq-Decides v.name n).0 same)) (Named.BySeek j rest (has_below j i k))

    by : (o : Option Subscription) → sub_named b.subs n ≡ o → has (settled_by_seek b to o) i ≡ true
        → Named n i (unless_found idle_plan o (λ s. unless_found idle_plan (seek_index b to) (λ j. plan_of (cursor_write h b s (write.Seek s.name j)) (change.Cleared s.name ∷ []) []))).writes
    by None is k = absurd (false≢true k)
    by (Some v) is k = moved v (find_stands (λ (u : Subscription). bytes_eq u.name n) b.subs v is).1 (seek_index b to) (target to k)
      where
        target : (q : Option Position) → has (settled_by_seek b q (Some v)) i ≡ true → has (below_index (seek_index b q)) i ≡ true
        target None g = g
        target (Some p) g = g

-- a line settles each message at its indexes
act_out : (s : Setup) (a : Mirrors) (t x : ℕ) (act : Act) (b : Broker) (n is : List ℕ) (i : ℕ) (e : Entry) → mirror_at s a t x ≡ seen b → indexes_settled (seen b) n act ≡ is
    → has is i ≡ true → slice_get b.entries i ≡ Some e → is_data e.content ≡ true → list_any (same_ident e.ident) (settled_by s a (Writes t x act) t n) ≡ true
act_out s a t x act b n is i e seen_is same inside at message =
    let whole : settled_by s a (Writes t x act) t n ≡ messages_at b.entries is =
    on_true (t == t) _ [] (eq-eqb t t refl) ∙ (ap (λ (m : Mirror). messages_at m.entries (indexes_settled m n act)) seen_is ∙ ap (messages_at b.entries) same) in
    let told = indexes_told (λ u k. settled_by s a (Writes t x act) u k) t n b.entries is (λ f h. subst (λ (l : List Ident). list_any (same_ident f.ident) l ≡ true) (sym whole) h) i inside
    (slice_get_within b.entries i e at) in
    let one : told.0 ≡ e = same_Some _ _ (sym told.1 ∙ at) in
    subst (λ (z : Entry). list_any (same_ident z.ident) (settled_by s a (Writes t x act) t n) ≡ true) one (told.2 (ap (λ (z : Entry). is_data z.content) one ∙ message))

-- THE LINES SETTLE each message that is named, or it was in the cursor before
pub named_out : (s : Setup) (a : Mirrors) (t x : ℕ) (b : Broker) (ws : List Write) (n : List ℕ) (i : ℕ) (e : Entry) → mirror_at s a t x ≡ seen b → Named n i ws
    → slice_get b.entries i ≡ Some e → is_data e.content ≡ true
    → (has (cursor_of (sub_named b.subs n)) i ≡ true) ⊎ (list_any (same_ident e.ident) (settled_from s a (told_at t x (acts_of (site s t x) cause.Client b ws)) t n) ≡ true)
named_out s a t x b ws n i e is (Named.ByAcks is' rest inside) at message =
    let cur = cursor_of (sub_named b.subs n) in let g = gained cur is' in let act = Acks n g cause.Client in
    by_test (has cur i) (λ old. inl old)
    (λ fresh_one.
    let mine : has g i ≡ true = has_left (λ j. not (has cur j)) (with_indexes [] is') i (has_new is' [] i inside) (not_false (has cur i) fresh_one) in
    inr (any_left (same_ident e.ident) (settled_by s a (Writes t x act) t n) _ (act_out s a t x act b n g i e is (on_true (bytes_eq n n) g [] ((bytes_eq-Decides n n).1 refl)) mine at message)))
named_out s a t x b ws n i e is (Named.ByCreation kind replicated rest) at message =
    let act = Creates n true in let len = length b.entries in
    inr (any_left (same_ident e.ident) (settled_by s a (Writes t x act) t n) _
    (act_out s a t x act b n (first_indexes len) i e is (on_true (bytes_eq n n) (first_indexes len) [] ((bytes_eq-Decides n n).1 refl)) (has_first len i (slice_get_within b.entries i e at)) at message))
named_out s a t x b ws n i e is (Named.BySeek j rest lt) at message =
    let act = Seeks n j in
    inr (any_left (same_ident e.ident) (settled_by s a (Writes t x act) t n) _
    (act_out s a t x act b n (first_indexes j) i e is (on_true (bytes_eq n n) (first_indexes j) [] ((bytes_eq-Decides n n).1 refl)) (has_first j i lt) at message))
