-- The lines that a client has in force and the publishes that it waits for are lines that it did.
use Rattle.std.proofs.Common.{◌≡◌, ℕ, zero, suc, ◌+◌, ◌<◌, ◌≤◌, ◌==◌, Bool, true, false, List, [], ◌∷◌, ◌++◌, length, refl, arith, nat_lt}
use Rattle.std.specs.Prelude.{Option, Some, None, ◌&&◌, ◌||◌, IfSome, is_some, not, slice_get}
use Rattle.std.specs.List.{list_all, list_any}
use Rattle.std.proofs.lemmas.Bool.{ltb-true}
use Rattle.std.proofs.lemmas.Bool.Decides.{nat_tests}
use Rattle.std.proofs.lemmas.List.{length_push}
use Rattle.std.proofs.lemmas.Option.{none-some}
use Rattle.world_laws.proofs.Types.{Entry, Frame, Held, Ident, Line, Packet, ClusterRef, Position}
use Rattle.world_laws.proofs.Types.frame
use Rattle.world_laws.proofs.Types.line
use Rattle.world_laws.proofs.Types.cluster_ref
use Rattle.geo_base.specs.Client.{Acted, Client, connected_to, new_client, reconnect, stays}
use Rattle.geo_base.specs.Entry.{with_origin}
use Rattle.geo_base.specs.Getting.{answered, get, got_frame, got_message, is_duplicate, is_number, publishes, received, with_receipt, without_seq}
use Rattle.geo_base.specs.Going.{acks_all, acks_one, acks_to, ends_sub, first_held, go, go_line, most_unanswered, past}
use Rattle.geo_base.specs.Scripted.{IsScripted, is_line, is_produce}
use Rattle.geo_base.specs.Setup.{Declared, Setup, declared_at}
use Rattle.geo_base.specs.World.{World}
use Rattle.world_laws.proofs.Merges.ClientRoams.{good_client}
use Rattle.world_laws.proofs.Replicating.Effects.{Each, each_both, each_map}
use Rattle.world_laws.proofs.Walks.Walk.{left, on_if, on_test, right}
use Rattle.kept_laws.proofs.Clients.{IsClientSteady}
use Rattle.state_nodes.specs.Clients.{is_flow, is_pub, is_sub}

-- a line of a kind is done
pub record WasDone (kind : Line → Bool) (lines : List Line) (done i : ℕ) : Type 0 where
  pub before : i < done
  pub line : Line
  pub at : slice_get lines i ≡ Some line
  pub is : kind line ≡ true

abbrev pub InForce : (Line → Bool) → List Line → ℕ → Option ℕ → Type 0
InForce kind lines done None = Unit {0}
InForce kind lines done (Some i) = WasDone kind lines done i

pub record Doing (s : Setup) (d : Declared) (k : Client) : Type 0 where
  pub cluster : k.cluster < length s.clusters
  pub done : k.done ≤ length d.lines
  pub produce : InForce is_produce d.lines k.done k.produce
  pub sub : InForce is_sub d.lines k.done k.sub
  pub flow : InForce is_flow d.lines k.done k.flow
  pub flows : (not (is_some k.flow) || is_some k.sub) ≡ true
  pub window : length k.unanswered ≤ most_unanswered
  pub publishes : ((length k.unanswered == 0) || is_some k.produce) ≡ true
  pub unanswered : Each (WasDone is_pub d.lines k.done) k.unanswered

-- ---- one more line is done

later : (kind : Line → Bool) (lines : List Line) (n i : ℕ) → WasDone kind lines n i → WasDone kind lines (n + 1) i
later kind lines n i h = record { before = let b = h.before in omega (arith, b); line = h.line; at = h.at; is = h.is }

later_force : (kind : Line → Bool) (lines : List Line) (n : ℕ) (o : Option ℕ) → InForce kind lines n o → InForce kind lines (n + 1) o
later_force kind lines n None h = tt
later_force kind lines n (Some i) h = later kind lines n i h

here : (kind : Line → Bool) (lines : List Line) (n : ℕ) (l : Line) → slice_get lines n ≡ Some l → kind l ≡ true → WasDone kind lines (n + 1) n
here kind lines n l at is = record { before = omega arith; line = l; at = at; is = is }

below_end : (lines : List Line) (n : ℕ) (l : Line) → slice_get lines n ≡ Some l → n + 1 ≤ length lines
below_end [] n l at = absurd (none-some l at)
below_end (m ∷ ls) zero l at = omega arith
below_end (m ∷ ls) (suc n) l at = let h = below_end ls n l at in omega (arith, h)

past_doing : (s : Setup) (d : Declared) (k : Client) (l : Line) → slice_get d.lines k.done ≡ Some l → Doing s d k → Doing s d (past k)
past_doing s d k l at h = record {
  cluster = h.cluster;
  done = below_end d.lines k.done l at;
  produce = later_force is_produce d.lines k.done k.produce h.produce;
  sub = later_force is_sub d.lines k.done k.sub h.sub;
  flow = later_force is_flow d.lines k.done k.flow h.flow;
  flows = h.flows;
  window = h.window;
  publishes = h.publishes;
  unanswered = each_map (WasDone is_pub d.lines k.done) (WasDone is_pub d.lines (k.done + 1)) (later is_pub d.lines k.done) k.unanswered h.unanswered;
}

-- ---- what a client does

abbrev Does : Setup → Declared → Acted → Type 0
Does s d a = Doing s d a.client

with_held : (s : Setup) (d : Declared) (k : Client) (hs : List Held) → Doing s d k → Doing s d (record k { held = hs })
with_held s d k hs h = record {
  cluster = h.cluster;
  done = h.done;
  produce = h.produce;
  sub = h.sub;
  flow = h.flow;
  flows = h.flows;
  window = h.window;
  publishes = h.publishes;
  unanswered = h.unanswered;
}

moved : (s : Setup) (d : Declared) (x : ℕ) (k : Client) → x < length s.clusters → Doing s d k → Doing s d (connected_to x k)
moved s d x k lt h = record {
  cluster = lt;
  done = h.done;
  produce = h.produce;
  sub = h.sub;
  flow = h.flow;
  flows = h.flows;
  window = h.window;
  publishes = h.publishes;
  unanswered = h.unanswered;
}

produces : (s : Setup) (d : Declared) (k : Client) → slice_get d.lines k.done ≡ Some line.Produce → Doing s d k → Doing s d (record (past k) { produce = Some k.done })
produces s d k at h =
    let p = past_doing s d k line.Produce at h in
    record {
      cluster = p.cluster;
      done = p.done;
      produce = here is_produce d.lines k.done line.Produce at refl;
      sub = p.sub;
      flow = p.flow;
      flows = p.flows;
      window = p.window;
      publishes = grind (arith);
      unanswered = p.unanswered;
    }

publishes_one : (s : Setup) (d : Declared) (k : Client) (l : Line) → slice_get d.lines k.done ≡ Some l → is_pub l ≡ true → (is_some k.produce && nat_lt (length k.unanswered) most_unanswered) ≡ true → Doing s d k
    → Doing s d (record (past k) { unanswered = k.unanswered ++ k.done ∷ [] })
publishes_one s d k l at is may h =
    let p = past_doing s d k l at h in
    let room = ltb-true (length k.unanswered) most_unanswered (right (is_some k.produce) (nat_lt (length k.unanswered) most_unanswered) may) in
    let some = left (is_some k.produce) (nat_lt (length k.unanswered) most_unanswered) may in
    record {
      cluster = p.cluster;
      done = p.done;
      produce = p.produce;
      sub = p.sub;
      flow = p.flow;
      flows = p.flows;
      window = let l = length_push k.unanswered k.done in omega (arith, l, room);
      publishes = grind (arith, some);
      unanswered = each_both (WasDone is_pub d.lines (k.done + 1)) k.unanswered (k.done ∷ []) p.unanswered (here is_pub d.lines k.done l at is, tt);
    }

subscribes : (s : Setup) (d : Declared) (k : Client) (l : Line) → slice_get d.lines k.done ≡ Some l → is_sub l ≡ true → Doing s d k
    → Doing s d (record (past k) { sub = Some k.done; flow = None; held = [] })
subscribes s d k l at is h =
    let p = past_doing s d k l at h in
    record {
      cluster = p.cluster;
      done = p.done;
      produce = p.produce;
      sub = here is_sub d.lines k.done l at is;
      flow = tt;
      flows = refl;
      window = p.window;
      publishes = p.publishes;
      unanswered = p.unanswered;
    }

flows_on : (s : Setup) (d : Declared) (k : Client) (l : Line) → slice_get d.lines k.done ≡ Some l → is_flow l ≡ true → is_some k.sub ≡ true → Doing s d k
    → Doing s d (record (past k) { flow = Some k.done })
flows_on s d k l at is some h =
    let p = past_doing s d k l at h in
    record {
      cluster = p.cluster;
      done = p.done;
      produce = p.produce;
      sub = p.sub;
      flow = here is_flow d.lines k.done l at is;
      flows = grind (arith, some);
      window = p.window;
      publishes = p.publishes;
      unanswered = p.unanswered;
    }

ends : (s : Setup) (d : Declared) (k : Client) (f : Frame) (l : Line) → slice_get d.lines k.done ≡ Some l → Doing s d k → Does s d (ends_sub k f)
ends s d k f l at h =
    let p = past_doing s d k l at h in
    on_if (Does s d) (is_some k.sub) _ (stays k)
    (record { cluster = p.cluster; done = p.done; produce = p.produce; sub = tt; flow = tt; flows = refl; window = p.window; publishes = p.publishes; unanswered = p.unanswered }) h

none_left : (a b : Bool) (n : ℕ) → (a && (n == 0)) ≡ true → ((n == 0) || b) ≡ true
none_left a b n h = grind (arith, h)

closes_producer : (s : Setup) (d : Declared) (k : Client) (l : Line) → slice_get d.lines k.done ≡ Some l → (is_some k.produce && (length k.unanswered == 0)) ≡ true → Doing s d k
    → Doing s d (record (past k) { produce = None })
closes_producer s d k l at none h =
    let p = past_doing s d k l at h in
    record {
      cluster = p.cluster;
      done = p.done;
      produce = tt;
      sub = p.sub;
      flow = p.flow;
      flows = p.flows;
      window = p.window;
      publishes = none_left (is_some k.produce) false (length k.unanswered) none;
      unanswered = p.unanswered;
    }

one_acked : (s : Setup) (d : Declared) (k : Client) (i : Ident) (l : Line) (o : Option Position) → slice_get d.lines k.done ≡ Some l → Doing s d k → Does s d (acks_one k i o)
one_acked s d k i l None at h = h
one_acked s d k i l (Some p) at h = with_held s d (past k) _ (past_doing s d k l at h)

acked_to : (s : Setup) (d : Declared) (k : Client) (l : Line) (o : Option Position) → slice_get d.lines k.done ≡ Some l → Doing s d k → Does s d (acks_to k o)
acked_to s d k l None at h = h
acked_to s d k l (Some p) at h = with_held s d (past k) _ (past_doing s d k l at h)

all_acked : (s : Setup) (d : Declared) (k : Client) (l : Line) (hs : List Held) → slice_get d.lines k.done ≡ Some l → Doing s d k → Does s d (acks_all k hs)
all_acked s d k l [] at h = h
all_acked s d k l (g ∷ hs) at h = with_held s d (past k) _ (past_doing s d k l at h)

line_doing : (s : Setup) (d : Declared) (k : Client) (o : Option Line) → slice_get d.lines k.done ≡ o → IfSome o (λ l. is_line s l ≡ true) → Doing s d k → Does s d (go_line s d k o)
line_doing s d k None at may h = h
line_doing s d k (Some line.Produce) at may h = produces s d k at h
line_doing s d k (Some (line.Pub seq to key text)) at may h =
    on_test (Does s d) (is_some k.produce && nat_lt (length k.unanswered) most_unanswered) _ (stays k)
    (λ room. publishes_one s d k (line.Pub seq to key text) at refl room h) (λ _. h)
line_doing s d k (Some (line.Sub n kind earliest replicated)) at may h = subscribes s d k (line.Sub n kind earliest replicated) at refl h
line_doing s d k (Some (line.Flow permits)) at may h =
    on_test (Does s d) (is_some k.sub) _ (stays k) (λ some. flows_on s d k (line.Flow permits) at refl some h) (λ _. h)
line_doing s d k (Some (line.Ack i)) at may h = one_acked s d k i (line.Ack i) (first_held k.held i) at h
line_doing s d k (Some (line.AckTo i)) at may h = acked_to s d k (line.AckTo i) (first_held k.held i) at h
line_doing s d k (Some line.AckAll) at may h = all_acked s d k line.AckAll k.held at h
line_doing s d k (Some line.Unsub) at may h = ends s d k _ line.Unsub at h
line_doing s d k (Some line.Close) at may h = ends s d k _ line.Close at h
line_doing s d k (Some line.CloseProducer) at may h =
    on_test (Does s d) (is_some k.produce && (length k.unanswered == 0)) _ (stays k) (λ none. closes_producer s d k line.CloseProducer at none h) (λ _. h)
line_doing s d k (Some line.Ping) at may h = past_doing s d k line.Ping at h
line_doing s d k (Some (line.Move x)) at may h = moved s d x (past k) (ltb-true x (length s.clusters) may) (past_doing s d k (line.Move x) at h)

pub lines_at : (s : Setup) (ls : List Line) (i : ℕ) → list_all (is_line s) ls ≡ true → IfSome (slice_get ls i) (λ l. is_line s l ≡ true)
lines_at s [] i h = tt
lines_at s (l ∷ ls) zero h = left (is_line s l) (list_all (is_line s) ls) h
lines_at s (l ∷ ls) (suc i) h = lines_at s ls i (right (is_line s l) (list_all (is_line s) ls) h)

go_doing : (s : Setup) (d : Declared) (k : Client) → list_all (is_line s) d.lines ≡ true → Doing s d k → Does s d (go s d k)
unfolding go
go_doing s d k lines h = on_if (Does s d) k.connected _ (stays k) (line_doing s d k (slice_get d.lines k.done) refl (lines_at s d.lines k.done lines) h) h

reconnect_doing : (s : Setup) (d : Declared) (k : Client) → Doing s d k → Does s d (reconnect s d k)
unfolding reconnect
reconnect_doing s d k h = moved s d k.cluster k h.cluster h

-- ---- what it takes

fewer : (d : Declared) (is : List ℕ) (n : ℕ) → length (without_seq d is n) ≤ length is
fewer d [] n = omega arith
fewer d (i ∷ is) n = let h = fewer d is n in on_if (λ (js : List ℕ). length js ≤ length (i ∷ is)) (publishes d n i) is _ (omega arith) (omega (arith, h))

each_left : (P : ℕ → Type 0) (d : Declared) (is : List ℕ) (n : ℕ) → Each P is → Each P (without_seq d is n)
each_left P d [] n h = tt
each_left P d (i ∷ is) n h = on_if (Each P) (publishes d n i) is _ h.1 (h.0, each_left P d is n h.1)

still_none : (a b : ℕ) (t : Bool) → b ≤ a → ((a == 0) || t) ≡ true → ((b == 0) || t) ≡ true
still_none a b t le h = grind (arith, nat_tests, le, h)

answered_doing : (s : Setup) (d : Declared) (k : Client) (n receipts duplicates errors : ℕ) → Doing s d k
    → Doing s d (answered d k n (record k { receipts = receipts; duplicates = duplicates; errors = errors }))
answered_doing s d k n receipts duplicates errors h =
    let le = fewer d k.unanswered n in
    on_if (Doing s d) (list_any (publishes d n) k.unanswered) _ k
    (record {
      cluster = h.cluster;
      done = h.done;
      produce = h.produce;
      sub = h.sub;
      flow = h.flow;
      flows = h.flows;
      window = let w = h.window in omega (arith, le, w);
      publishes = still_none (length k.unanswered) (length (without_seq d k.unanswered n)) (is_some k.produce) le h.publishes;
      unanswered = each_left (WasDone is_pub d.lines k.done) d k.unanswered n h.unanswered;
    }) h

receipt_doing : (s : Setup) (d : Declared) (k : Client) (n : ℕ) (t : Bool) → Doing s d k → Doing s d (answered d k n (with_receipt k t))
receipt_doing s d k n true h = answered_doing s d k n k.receipts (k.duplicates + 1) k.errors h
receipt_doing s d k n false h = answered_doing s d k n (k.receipts + 1) k.duplicates k.errors h

with_more : (s : Setup) (d : Declared) (k : Client) (errors : ℕ) (held : List Held) (got : List Ident) → Doing s d k → Doing s d (record k { errors = errors; held = held; got = got })
with_more s d k errors held got h = record {
  cluster = h.cluster;
  done = h.done;
  produce = h.produce;
  sub = h.sub;
  flow = h.flow;
  flows = h.flows;
  window = h.window;
  publishes = h.publishes;
  unanswered = h.unanswered;
}

received_doing : (s : Setup) (d : Declared) (k : Client) (id : ℕ) (i : Ident) (p : Position) → Doing s d k → Doing s d (received k id i p)
received_doing s d k id i p h = on_if (Doing s d) (is_number id k.sub) _ k (with_more s d k k.errors _ _ h) h

message_doing : (s : Setup) (d : Declared) (k : Client) (id : ℕ) (p : Position) (source : Option ClusterRef) (e : Entry) → Doing s d k → Doing s d (got_message k id p source e)
message_doing s d k id p None e h = received_doing s d k id (with_origin k.cluster e).ident p h
message_doing s d k id p (Some (cluster_ref.Known x)) e h = received_doing s d k id (with_origin x e).ident p h
message_doing s d k id p (Some (cluster_ref.Stranger n)) e h = h

frame_doing : (s : Setup) (d : Declared) (k : Client) (f : Frame) → Doing s d k → Doing s d (got_frame d k f)
frame_doing s d k (frame.SendReceipt id n p) h = receipt_doing s d k n (is_duplicate p) h
frame_doing s d k (frame.SendError id n code) h = answered_doing s d k n k.receipts k.duplicates (k.errors + 1) h
frame_doing s d k (frame.Error request code) h = with_more s d k (k.errors + 1) k.held k.got h
frame_doing s d k (frame.Message id p source e) h = message_doing s d k id p source e h
frame_doing s d k f h = h

get_doing : (s : Setup) (d : Declared) (k : Client) (o : Option Packet) → Doing s d k → Does s d (get d k o)
unfolding get
get_doing s d k None h = h
get_doing s d k (Some p) h = on_if (Doing s d) (p.session == k.connection) _ k (frame_doing s d k p.frame h) h

-- ---- always

new_doing : (s : Setup) (d : Declared) → d.cluster < length s.clusters → Doing s d (new_client d)
new_doing s d lt = record { cluster = lt; done = omega arith; produce = tt; sub = tt; flow = tt; flows = refl; window = omega arith; publishes = refl; unanswered = tt }

pub doing_steady : (s : Setup) → IsScripted s → (Q : World → Type 0) → IsClientSteady s Q (λ c k. Doing s (declared_at s c) k)
doing_steady s scripted Q = record {
  opening = λ c lt. new_doing s (declared_at s c) (ltb-true (declared_at s c).cluster (length s.clusters) (good_client s c scripted lt).cluster);
  goes = λ c lt k h. go_doing s (declared_at s c) k (good_client s c scripted lt).lines h;
  reconnects = λ c lt k h. reconnect_doing s (declared_at s c) k h;
  gets = λ w q short c x lt k h. get_doing s (declared_at s c) k _ h;
  stops = λ c k h. with_held s (declared_at s c) (record k { connected = false }) [] (record { cluster = h.cluster; done = h.done; produce = h.produce; sub = h.sub; flow = h.flow; flows = h.flows; window = h.window; publishes = h.publishes; unanswered = h.unanswered });
}
