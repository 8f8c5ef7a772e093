-- One node: what is told of what became of it, read by who kept it as it was, gives it as it is.
use Rattle.std.proofs.Common.{◌≡◌, ℕ, ◌+◌, Bool, true, false, List, [], ◌∷◌, ◌++◌, length, map, drop, take, refl, sym, ap, subst, ◌∙◌, ◌==◌, append_assoc, length-append, arith}
use Rattle.std.specs.Prelude.{◌&&◌, Option, Some, None, if◌then◌else◌, is_some, slice_get, slice_index_or, codes, decimal}
use Rattle.std.specs.List.{list_any}
use Rattle.std.proofs.lemmas.Bool.{eqb-true}
use Rattle.std.proofs.lemmas.List.{append-nil, length-map, length-set, map-append}
use Rattle.std.proofs.Math.Seq.{drop-append_seam}
use Rattle.world_laws.proofs.Types.{Entry, Event, Frame, Held, Ident, Line, Packet, ClusterRef, Position, Write}
use Rattle.geo_base.specs.declared.change.Change.{Change as BrokerChange}
use Rattle.world_laws.proofs.Types.change
use Rattle.world_laws.proofs.Types.event
use Rattle.world_laws.proofs.Types.frame
use Rattle.world_laws.proofs.Types.line
use Rattle.world_laws.proofs.Types.cluster_ref
use Rattle.world_laws.proofs.Types.replicator_state
use Rattle.world_laws.proofs.Types.write
use Rattle.geo_base.specs.Broker.{Broker, at_replicator, changed, replicator_at, sub_named, written}
use Rattle.geo_base.specs.Client.{Acted, Client}
use Rattle.geo_base.specs.Getting.{answered, get, got_frame, got_message, is_duplicate, is_number, publishes, received, with_error, with_receipt}
use Rattle.geo_base.specs.Going.{acks_all, acks_one, acks_to, first_held, go, go_line}
use Rattle.geo_base.specs.Client.{reconnect}
use Rattle.geo_base.specs.Cursor.{with_index}
use Rattle.geo_base.specs.Happening.{client_acted}
use Rattle.geo_base.specs.Plan.{Plan, all_changed, all_written, done, halted}
use Rattle.geo_base.specs.Report.{client_line, got_line, words}
use Rattle.geo_base.specs.Replicator.{Replicator, replicator_reset, replicator_restarted, replicator_sent, without_number}
use Rattle.geo_base.specs.Setup.{Declared, Setup, declared_at}
use Rattle.world_laws.proofs.OnceInOrder.Appends.{all_changed_entries}
use Rattle.world_laws.proofs.Snapshotting.Answering.{Numbered, writes_steady}
use Rattle.world_laws.proofs.Counters.Counts.{all_changed_ledgers}
use Rattle.world_laws.proofs.Dispatching.SubFrames.{NamesApart, done_apart}
use Rattle.world_laws.proofs.Snapshotting.Hearing.{Stays}
use Rattle.world_laws.proofs.Snapshotting.Making.{writes_stay}
use Rattle.world_laws.proofs.Walks.Walk.{left, on_if, right}
use Rattle.step_laws.specs.Steps.{ReportChange, ClientNow, NewGot, broker_changes, client_changes, gone_subs, is_unchanged, new_entries, new_got, other_replicators, other_subs, same_client}
use Rattle.step_laws.specs.StepsFold.{KeptBroker, KeptClient, broker_reads_all, client_reads_all, kept_broker, kept_client}
use Rattle.step_laws.proofs.Lines.{reads_both, reads_entries, reads_replicators}
use Rattle.step_laws.proofs.Naming.{NamesOnce, follows, renamed, stopped_once}
use Rattle.step_laws.proofs.Subs.{Follows, reads_subs}

-- ---- brokers

-- what every event keeps of a broker: its ledgers, of which there is one, hold its entries, its subscriptions have names of their own, and it
-- has n replicators
pub record Sound (n : ℕ) (b : Broker) : Type 0 where
  pub numbered : Numbered b.entries b.ledgers
  pub apart : NamesApart b.subs
  pub replicators : length b.replicators ≡ n

-- what an event may make of a broker
pub record GoesOn (b a : Broker) : Type 0 where
  pub stays : Stays b.entries a.entries b.ledgers a.ledgers
  pub follows : Follows b.subs a.subs b.subs a.subs

pub broker_folds : (s : Setup) (x : ℕ) (b a : Broker) → NamesApart b.subs → NamesApart a.subs → GoesOn b a
    → broker_reads_all (kept_broker s x b) (broker_changes s.clusters x b a) ≡ kept_broker s x a
broker_folds s x b a apart_b apart_a on =
    let k : KeptBroker = kept_broker s x b in let a_then = kept_broker s x a in
    let k1 : KeptBroker = record k { entries = a_then.entries } in
    let k2 : KeptBroker = record k1 { replicators = a_then.replicators } in
    let replicators : List ReportChange = other_replicators x 0 s.clusters b a in
    let subs : List ReportChange = gone_subs b a ++ other_subs b a a.subs in
    reads_both k (new_entries s.clusters b a) (replicators ++ subs)
    ∙ ap (λ (j : KeptBroker). broker_reads_all j (replicators ++ subs)) (reads_entries s.clusters b a k on.stays refl)
    ∙ reads_both k1 replicators subs
    ∙ ap (λ (j : KeptBroker). broker_reads_all j subs) (reads_replicators x s.clusters b a k1 refl)
    ∙ reads_subs b a k2 on.follows apart_b apart_a refl

written_stays : (per : ℕ) (b : Broker) (ws : List Write) (cs : List BrokerChange) → Numbered b.entries b.ledgers
    → Stays b.entries (all_changed (all_written per b ws) cs).entries b.ledgers (all_changed (all_written per b ws) cs).ledgers
written_stays per b ws cs numbered =
    let c = all_written per b ws in let d = all_changed c cs in
    subst (λ (ls : List ℕ). Stays b.entries d.entries b.ledgers ls) (sym (all_changed_ledgers c cs))
    (subst (λ (es : List Entry). Stays b.entries es b.ledgers c.ledgers) (sym (all_changed_entries c cs)) (writes_stay per b ws numbered))

written_numbered : (per : ℕ) (b : Broker) (ws : List Write) (cs : List BrokerChange) → Numbered b.entries b.ledgers
    → Numbered (all_changed (all_written per b ws) cs).entries (all_changed (all_written per b ws) cs).ledgers
written_numbered per b ws cs numbered =
    let c = all_written per b ws in let d = all_changed c cs in
    subst (λ (ls : List ℕ). Numbered d.entries ls) (sym (all_changed_ledgers c cs))
    (subst (λ (es : List Entry). Numbered es c.ledgers) (sym (all_changed_entries c cs)) (writes_steady per b ws numbered).numbered)

set_length : (b : Broker) (y : ℕ) (f : Replicator → Replicator) → length (at_replicator b y f).replicators ≡ length b.replicators
set_length b y f = length-set b.replicators y (f (replicator_at b y))

write_length : (per : ℕ) (b : Broker) (w : Write) → length (written per b w).replicators ≡ length b.replicators
write_length per b (write.ReplicatorAck y i) = set_length b y (λ s. record s { cursor = with_index s.cursor i })
write_length per b (write.SessionNumber y session) = set_length b y (λ s. record s { session = session })
write_length per b (write.Create n kind replicated latest) = on_if (λ (c : Broker). length c.replicators ≡ length b.replicators) (is_some (sub_named b.subs n)) b _ refl refl
write_length per b w = refl

writes_length : (per : ℕ) (b : Broker) (ws : List Write) → length (all_written per b ws).replicators ≡ length b.replicators
writes_length per b [] = refl
writes_length per b (w ∷ ws) = writes_length per (written per b w) ws ∙ write_length per b w

change_length : (b : Broker) (c : BrokerChange) → length (changed b c).replicators ≡ length b.replicators
change_length b (change.Opening y) = set_length b y replicator_reset
change_length b (change.Opened y) = set_length b y (λ s. record s { state = replicator_state.Open })
change_length b (change.Pend y i) = set_length b y (replicator_sent i)
change_length b (change.ReadTo y i) = set_length b y (λ s. record s { read_index = i })
change_length b (change.Unpend y number) = set_length b y (λ s. record s { pending = without_number s.pending number })
change_length b change.Forget = length-map b.replicators replicator_restarted
change_length b c = refl

changes_length : (b : Broker) (cs : List BrokerChange) → length (all_changed b cs).replicators ≡ length b.replicators
changes_length b [] = refl
changes_length b (c ∷ cs) = changes_length (changed b c) cs ∙ change_length b c

pub done_sound : (n per : ℕ) (b : Broker) (p : Plan) → Sound n b → Sound n (done per b p)
done_sound n per b p h = record {
  numbered = written_numbered per b p.writes p.changes h.numbered;
  apart = done_apart per b p h.apart;
  replicators = changes_length (all_written per b p.writes) p.changes ∙ writes_length per b p.writes ∙ h.replicators;
}

pub done_goes : (n per : ℕ) (b : Broker) (p : Plan) → NamesOnce p.writes → Sound n b → GoesOn b (done per b p)
done_goes n per b p once h = record {
  stays = written_stays per b p.writes p.changes h.numbered;
  follows = follows b.subs (done per b p).subs (renamed per b p.writes p.changes once) h.apart (done_apart per b p h.apart);
}

abbrev stop_plan : ℕ → Plan → Plan
stop_plan k p = record { idle = false; writes = take k p.writes ++ write.Ledger ∷ []; changes = change.Forget ∷ []; sent = [] }

pub halted_sound : (n per : ℕ) (b : Broker) (k : ℕ) (p : Plan) → Sound n b → Sound n (halted per b k p)
halted_sound n per b k p h = done_sound n per b (stop_plan k p) h

pub halted_goes : (n per : ℕ) (b : Broker) (k : ℕ) (p : Plan) → NamesOnce p.writes → Sound n b → GoesOn b (halted per b k p)
halted_goes n per b k p once h = done_goes n per b (stop_plan k p) (stopped_once k p.writes once) h

-- ---- clients

-- what a client got only grows
pub record GotMore (k m : Client) : Type 0 where
  pub more : List Ident
  pub is : m.got ≡ k.got ++ more

same_got : (k m : Client) → m.got ≡ k.got → GotMore k m
same_got k m is = record { more = []; is = is ∙ sym (append-nil k.got) }

reads_got : (names : List (List ℕ)) (k : KeptClient) (is : List Ident) → client_reads_all k (map (λ i. NewGot (got_line names i)) is) ≡ record k { got = k.got ++ map (got_line names) is }
reads_got names k [] = ap (λ (ls : List (List ℕ)). record k { got = ls }) (sym (append-nil k.got))
reads_got names k (i ∷ is) =
    reads_got names (record k { got = k.got ++ got_line names i ∷ [] }) is
    ∙ ap (λ (ls : List (List ℕ)). record k { got = ls }) (append_assoc k.got (got_line names i ∷ []) (map (got_line names) is))

abbrev line_of : Setup → Declared → ℕ → ℕ → ℕ → ℕ → ℕ → List ℕ
line_of s d x lines receipts duplicates errors =
    words (codes "client" ∷ d.name ∷ codes "at" ∷ slice_index_or s.clusters x [] ∷ codes "lines" ∷ (decimal lines ++ (47 ∷ decimal (length d.lines)))
    ∷ codes "receipts" ∷ decimal receipts ∷ codes "duplicates" ∷ decimal duplicates ∷ codes "errors" ∷ decimal errors ∷ [])

line_is : (s : Setup) (d : Declared) (k m : Client) → same_client k m ≡ true → client_line s d k ≡ client_line s d m
line_is s d k m h =
    let x : Bool = k.cluster == m.cluster in let n : Bool = k.done == m.done in let r : Bool = k.receipts == m.receipts in
    let u : Bool = k.duplicates == m.duplicates in let e : Bool = k.errors == m.errors in
    let h3 : (((x && n) && r) && u) ≡ true = left (((x && n) && r) && u) e h in
    let h2 : ((x && n) && r) ≡ true = left ((x && n) && r) u h3 in
    let h1 : (x && n) ≡ true = left (x && n) r h2 in
    ap (λ (i : ℕ). line_of s d i k.done k.receipts k.duplicates k.errors) (eqb-true k.cluster m.cluster (left x n h1))
    ∙ ap (λ (i : ℕ). line_of s d m.cluster i k.receipts k.duplicates k.errors) (eqb-true k.done m.done (right x n h1))
    ∙ ap (λ (i : ℕ). line_of s d m.cluster m.done i k.duplicates k.errors) (eqb-true k.receipts m.receipts (right (x && n) r h2))
    ∙ ap (λ (i : ℕ). line_of s d m.cluster m.done m.receipts i k.errors) (eqb-true k.duplicates m.duplicates (right ((x && n) && r) u h3))
    ∙ ap (λ (i : ℕ). line_of s d m.cluster m.done m.receipts m.duplicates i) (eqb-true k.errors m.errors (right (((x && n) && r) && u) e h))

none_more : (more : List Ident) → 0 ≡ length more → more ≡ []
none_more [] h = refl
none_more (i ∷ more) h = absurd (omega (arith, h))

pub client_folds : (s : Setup) (c : ℕ) (k m : Client) → GotMore k m
    → client_reads_all (kept_client s (declared_at s c) k) (client_changes s c k m) ≡ kept_client s (declared_at s c) m
client_folds s c k m on = by (is_unchanged k m) refl
  where
    d : Declared
    d = declared_at s c

    lines : List Ident → List (List ℕ)
    lines is = map (got_line s.clusters) is

    all : lines k.got ++ lines on.more ≡ lines m.got
    all = sym (map-append (got_line s.clusters) k.got on.more) ∙ ap lines (sym on.is)

    more : drop (length k.got) m.got ≡ on.more
    more = ap (drop (length k.got)) on.is ∙ drop-append_seam k.got on.more

    nothing : (length k.got == length m.got) ≡ true → m.got ≡ k.got
    nothing h =
        let same : length k.got ≡ length k.got + length on.more = eqb-true (length k.got) (length m.got) h ∙ ap length on.is ∙ length-append k.got on.more in
        on.is ∙ ap (λ (is : List Ident). k.got ++ is) (none_more on.more (omega (arith, same))) ∙ append-nil k.got

    by : (t : Bool) → is_unchanged k m ≡ t
        → client_reads_all (kept_client s d k) (if t then [] else ClientNow (client_line s d m) ∷ new_got s.clusters k m) ≡ kept_client s d m
    by true h =
        ap (λ (l : List ℕ). record { line = l; got = lines k.got }) (line_is s d k m (left (same_client k m) (length k.got == length m.got) h))
        ∙ ap (λ (is : List Ident). record { line = client_line s d m; got = lines is }) (sym (nothing (right (same_client k m) (length k.got == length m.got) h)))
    by false h =
        ap (λ (is : List Ident). client_reads_all (record { line = client_line s d m; got = lines k.got }) (map (λ i. NewGot (got_line s.clusters i)) is)) more
        ∙ reads_got s.clusters (record { line = client_line s d m; got = lines k.got }) on.more
        ∙ ap (λ (ls : List (List ℕ)). record { line = client_line s d m; got = ls }) all

-- ---- what clients do

abbrev Same : Client → Acted → Type 0
Same k a = a.client.got ≡ k.got

acks_one_same : (k : Client) (i : Ident) (o : Option Position) → Same k (acks_one k i o)
acks_one_same k i None = refl
acks_one_same k i (Some p) = refl

acks_to_same : (k : Client) (o : Option Position) → Same k (acks_to k o)
acks_to_same k None = refl
acks_to_same k (Some p) = refl

acks_all_same : (k : Client) (hs : List Held) → Same k (acks_all k hs)
acks_all_same k [] = refl
acks_all_same k (h ∷ hs) = refl

line_same : (s : Setup) (d : Declared) (k : Client) (o : Option Line) → Same k (go_line s d k o)
line_same s d k None = refl
line_same s d k (Some line.Produce) = refl
line_same s d k (Some (line.Pub seq to key text)) = on_if (Same k) _ _ _ refl refl
line_same s d k (Some (line.Sub n kind earliest replicated)) = refl
line_same s d k (Some (line.Flow permits)) = on_if (Same k) _ _ _ refl refl
line_same s d k (Some (line.Ack i)) = acks_one_same k i (first_held k.held i)
line_same s d k (Some (line.AckTo i)) = acks_to_same k (first_held k.held i)
line_same s d k (Some line.AckAll) = acks_all_same k k.held
line_same s d k (Some line.Unsub) = on_if (Same k) (is_some k.sub) _ _ refl refl
line_same s d k (Some line.Close) = on_if (Same k) (is_some k.sub) _ _ refl refl
line_same s d k (Some line.CloseProducer) = on_if (Same k) _ _ _ refl refl
line_same s d k (Some line.Ping) = refl
line_same s d k (Some (line.Move x)) = refl

pub go_got : (s : Setup) (d : Declared) (k : Client) → GotMore k (go s d k).client
unfolding go
go_got s d k = same_got k _ (on_if (Same k) k.connected _ _ (line_same s d k (slice_get d.lines k.done)) refl)

pub reconnect_got : (s : Setup) (d : Declared) (k : Client) → GotMore k (reconnect s d k).client
unfolding reconnect
reconnect_got s d k = same_got k _ refl

counted_same : (d : Declared) (k : Client) (n : ℕ) (m : Client) → m.got ≡ k.got → (answered d k n m).got ≡ k.got
counted_same d k n m same = on_if (λ (j : Client). j.got ≡ k.got) (list_any (publishes d n) k.unanswered) _ k same refl

receipt_same : (k : Client) (twice : Bool) → (with_receipt k twice).got ≡ k.got
receipt_same k true = refl
receipt_same k false = refl

received_got : (k : Client) (id : ℕ) (i : Ident) (p : Position) → GotMore k (received k id i p)
received_got k id i p = on_if (GotMore k) (is_number id k.sub) _ k (record { more = i ∷ []; is = refl }) (same_got k k refl)

message_got : (k : Client) (id : ℕ) (p : Position) (source : Option ClusterRef) (e : Entry) → GotMore k (got_message k id p source e)
message_got k id p None e = received_got k id _ p
message_got k id p (Some (cluster_ref.Known x)) e = received_got k id _ p
message_got k id p (Some (cluster_ref.Stranger n)) e = same_got k k refl

frame_got : (d : Declared) (k : Client) (f : Frame) → GotMore k (got_frame d k f)
frame_got d k (frame.SendReceipt id n p) = same_got k _ (counted_same d k n (with_receipt k (is_duplicate p)) (receipt_same k (is_duplicate p)))
frame_got d k (frame.SendError id n code) = same_got k _ (counted_same d k n (with_error k) refl)
frame_got d k (frame.Error request code) = same_got k _ refl
frame_got d k (frame.Message id p source e) = message_got k id p source e
frame_got d k f = same_got k k refl

pub get_got : (d : Declared) (k : Client) (o : Option Packet) → GotMore k (get d k o).client
unfolding get
get_got d k None = same_got k k refl
get_got d k (Some p) = on_if (GotMore k) (p.session == k.connection) _ k (frame_got d k p.frame) (same_got k k refl)

pub acted_got : (s : Setup) (k : Client) (e : Event) (o : Option Packet) → GotMore k (client_acted s k e o).client
acted_got s k (event.Go c) o = go_got s (declared_at s c) k
acted_got s k (event.Reconnect c) o = reconnect_got s (declared_at s c) k
acted_got s k (event.Get c) o = get_got (declared_at s c) k o
acted_got s k e o = same_got k k refl
