-- What a client got names entries of clusters of the setup, and is no more than events were done.
use Rattle.std.proofs.Common.{◌≡◌, ℕ, zero, suc, ◌+◌, ◌^◌, ◌<◌, ◌≤◌, ◌==◌, Bool, true, false, List, [], ◌∷◌, ◌++◌, length, map, refl, sym, ap, subst, arith}
use Rattle.std.specs.Prelude.{Option, Some, None, ◌&&◌, is_some, nat_lt, slice_get, slice_index_or}
use Rattle.std.specs.List.{list_any}
use Rattle.std.proofs.lemmas.List.{length_push}
use Rattle.world_laws.proofs.Types.{Entry, Event, Frame, Held, Ident, Line, Packet, ClusterRef, Position}
use Rattle.world_laws.proofs.Types.event
use Rattle.world_laws.proofs.Types.frame
use Rattle.world_laws.proofs.Types.line
use Rattle.world_laws.proofs.Types.cluster_ref
use Rattle.geo_base.specs.Client.{Acted, Client, new_client, reconnect, stays, unconnected}
use Rattle.geo_base.specs.Entry.{with_origin}
use Rattle.geo_base.specs.Getting.{answered, get, got_frame, got_message, is_duplicate, is_number, publishes, received, with_error, with_receipt}
use Rattle.geo_base.specs.Going.{acks_all, acks_one, acks_to, ends_sub, first_held, go, go_line, most_unanswered}
use Rattle.geo_base.specs.Happening.{broker_does, broker_halts, client_acted, client_does, does_planned, halts_planned, happens, stops}
use Rattle.geo_base.specs.Laws.{IsShort}
use Rattle.geo_base.specs.Link.{next_packet}
use Rattle.geo_base.specs.Planned.{Planned, has_client, planned}
use Rattle.geo_base.specs.Scripted.{IsScripted}
use Rattle.geo_base.specs.Setup.{Declared, Setup, declared_at}
use Rattle.geo_base.specs.World.{LinkName, ToClient, World, client_at, link_at, opening_world}
use Rattle.world_laws.specs.Frames.{IsCarrying}
use Rattle.world_laws.specs.Plain.{IsPlainEntry}
use Rattle.world_laws.proofs.FrameContents.Carrying.{Carried, carried_kept, frames_carry, plain_suits}
use Rattle.world_laws.proofs.Replicating.Effects.{Each, each_both}
use Rattle.world_laws.proofs.Induction.Frames.{at_map, at_set}
use Rattle.world_laws.proofs.Induction.Runs.{IsKeptByEvents}
use Rattle.world_laws.proofs.Walks.Walk.{on_if}
use Rattle.kept_laws.proofs.Ascii.{IsNameText}
use Rattle.kept_laws.proofs.Clients.{AllClients, IsClientSteady, clients_kept}
use Rattle.kept_laws.proofs.Doing.{Doing, doing_steady}
use Rattle.kept_laws.proofs.Sayable.{IsSayable, IsSayableFrame}
use Rattle.kept_laws.proofs.SayableRuns.{Saying, saying_kept, taken_says}

-- ---- what goes on at a client's lines changes nothing of it

ends_same : (k : Client) (f : Frame) → (ends_sub k f).client.got ≡ k.got
ends_same k f = on_if (λ (a : Acted). a.client.got ≡ k.got) (is_some k.sub) _ (stays k) refl refl

one_same : (k : Client) (i : Ident) (o : Option Position) → (acks_one k i o).client.got ≡ k.got
one_same k i None = refl
one_same k i (Some p) = refl

to_same : (k : Client) (o : Option Position) → (acks_to k o).client.got ≡ k.got
to_same k None = refl
to_same k (Some p) = refl

all_same : (k : Client) (hs : List Held) → (acks_all k hs).client.got ≡ k.got
all_same k [] = refl
all_same k (h ∷ hs) = refl

line_same : (s : Setup) (d : Declared) (k : Client) (o : Option Line) → (go_line s d k o).client.got ≡ k.got
line_same s d k None = refl
line_same s d k (Some line.Produce) = refl
line_same s d k (Some (line.Pub seq to key text)) =
    on_if (λ (a : Acted). a.client.got ≡ k.got) (is_some k.produce && nat_lt (length k.unanswered) most_unanswered) _ (stays k) refl refl
line_same s d k (Some (line.Sub n kind earliest replicated)) = refl
line_same s d k (Some (line.Flow permits)) = on_if (λ (a : Acted). a.client.got ≡ k.got) (is_some k.sub) _ (stays k) refl refl
line_same s d k (Some (line.Ack i)) = one_same k i (first_held k.held i)
line_same s d k (Some (line.AckTo i)) = to_same k (first_held k.held i)
line_same s d k (Some line.AckAll) = all_same k k.held
line_same s d k (Some line.Unsub) = ends_same k _
line_same s d k (Some line.Close) = ends_same k _
line_same s d k (Some line.CloseProducer) =
    on_if (λ (a : Acted). a.client.got ≡ k.got) (is_some k.produce && (length k.unanswered == 0)) _ (stays k) refl refl
line_same s d k (Some line.Ping) = refl
line_same s d k (Some (line.Move x)) = refl

go_same : (s : Setup) (d : Declared) (k : Client) → (go s d k).client.got ≡ k.got
unfolding go
go_same s d k = on_if (λ (a : Acted). a.client.got ≡ k.got) k.connected _ (stays k) (line_same s d k (slice_get d.lines k.done)) refl

reconnect_same : (s : Setup) (d : Declared) (k : Client) → (reconnect s d k).client.got ≡ k.got
unfolding reconnect
reconnect_same s d k = refl

-- ---- what it takes

-- nothing new, or the identity of a message that was taken
data IsMore (F : Ident → Type 0) (old new : List Ident) : Type 0 where
  NoMore : new ≡ old → IsMore F old new
  OneMore : (i : Ident) → F i → new ≡ old ++ i ∷ [] → IsMore F old new

-- of an origin among the clusters, and as an entry that can be written is named
pub record IsGotIdent (clusters : ℕ) (i : Ident) : Type 0 where
  pub origin : i.origin < clusters
  pub producer : IsNameText i.producer
  pub seq : i.seq < 2 ^ 64

abbrev Gets : Setup → Client → Client → Type 0
Gets s k k' = IsMore (IsGotIdent (length s.clusters)) k.got k'.got

named_as : (s : Setup) (x : ℕ) (e : Entry) → x < length s.clusters → IsSayable e → IsGotIdent (length s.clusters) (with_origin x e).ident
named_as s x e lt h = record { origin = lt; producer = h.producer; seq = h.seq }

received_more : (s : Setup) (k : Client) (id : ℕ) (i : Ident) (p : Position) → IsGotIdent (length s.clusters) i → Gets s k (received k id i p)
received_more s k id i p h = on_if (Gets s k) (is_number id k.sub) _ k (OneMore i h refl) (NoMore refl)

message_more : (s : Setup) (k : Client) (id : ℕ) (p : Position) (source : Option ClusterRef) (e : Entry) → k.cluster < length s.clusters
    → IsCarrying (IsPlainEntry s.clusters None) s.clusters (frame.Message id p source e) → IsSayable e → Gets s k (got_message k id p source e)
message_more s k id p None e lt carried h = received_more s k id (with_origin k.cluster e).ident p (named_as s k.cluster e lt h)
message_more s k id p (Some (cluster_ref.Known x)) e lt carried h = received_more s k id (with_origin x e).ident p (named_as s x e carried.0 h)
message_more s k id p (Some (cluster_ref.Stranger n)) e lt carried h = NoMore refl

answered_same : (d : Declared) (k : Client) (n : ℕ) (k' : Client) → k'.got ≡ k.got → (answered d k n k').got ≡ k.got
answered_same d k n k' same = on_if (λ (c : Client). c.got ≡ k.got) (list_any (publishes d n) k.unanswered) _ k same refl

receipt_same : (k : Client) (t : Bool) → (with_receipt k t).got ≡ k.got
receipt_same k true = refl
receipt_same k false = refl

frame_more : (s : Setup) (d : Declared) (k : Client) (f : Frame) → k.cluster < length s.clusters → IsCarrying (IsPlainEntry s.clusters None) s.clusters f → IsSayableFrame f → Gets s k (got_frame d k f)
frame_more s d k (frame.SendReceipt id n p) lt carried h = NoMore (answered_same d k n (with_receipt k (is_duplicate p)) (receipt_same k (is_duplicate p)))
frame_more s d k (frame.SendError id n code) lt carried h = NoMore (answered_same d k n (with_error k) refl)
frame_more s d k (frame.Error request code) lt carried h = NoMore refl
frame_more s d k (frame.Message id p source e) lt carried h = message_more s k id p source e lt carried h
frame_more s d k f lt carried h = NoMore refl

get_more : (s : Setup) (d : Declared) (k : Client) (o : Option Packet) → k.cluster < length s.clusters
    → ((p : Packet) → o ≡ Some p → IsCarrying (IsPlainEntry s.clusters None) s.clusters p.frame × IsSayableFrame p.frame) → Gets s k (get d k o).client
unfolding get
get_more s d k None lt h = NoMore refl
get_more s d k (Some p) lt h =
    let g = h p refl in on_if (Gets s k) (p.session == k.connection) _ k (frame_more s d k p.frame lt g.0 g.1) (NoMore refl)

-- ---- in every run

pub record Goes (s : Setup) (c : ℕ) (k : Client) : Type 0 where
  pub doing : Doing s (declared_at s c) k
  pub got : Each (IsGotIdent (length s.clusters)) k.got

more_each : (F : Ident → Type 0) (old new : List Ident) → IsMore F old new → Each F old → Each F new
more_each F old new (NoMore same) h = subst (Each F) (sym same) h
more_each F old new (OneMore i f same) h = subst (Each F) (sym same) (each_both F old (i ∷ []) h (f, tt))

abbrev pub Below : Setup → World → Type 0
Below s w = Saying s w × Carried (IsPlainEntry s.clusters None) s w

below_kept : (s : Setup) → IsScripted s → IsKeptByEvents s (Below s)
below_kept s scripted =
    let a = saying_kept s scripted in
    let b = carried_kept (IsPlainEntry s.clusters None) s scripted (plain_suits s.clusters) in
    record {
      opening = (a.opening, b.opening);
      idle = λ w n h. (a.idle w n h.0, b.idle w n h.1);
      round = λ w n h. (a.round w n h.0, b.round w n h.1);
      event = λ w e h. (a.event w e h.0, b.event w e h.1);
      halts = λ w n e h. (a.halts w n e h.0, b.halts w n e h.1);
      stop = λ w h. (a.stop w h.0, b.stop w h.1);
    }

goes_steady : (s : Setup) → IsScripted s → IsClientSteady s (Below s) (Goes s)
goes_steady s scripted =
    let d = doing_steady s scripted (Below s) in
    let F = IsGotIdent (length s.clusters) in
    record {
      opening = λ c lt. record { doing = d.opening c lt; got = tt };
      goes = λ c lt k h. record { doing = d.goes c lt k h.doing; got = subst (Each F) (sym (go_same s (declared_at s c) k)) h.got };
      reconnects = λ c lt k h. record { doing = d.reconnects c lt k h.doing; got = subst (Each F) (sym (reconnect_same s (declared_at s c) k)) h.got };
      gets = λ w q short c x lt k h. record {
        doing = d.gets w q short c x lt k h.doing;
        got = more_each F k.got _
            (get_more s (declared_at s c) k (next_packet (link_at w.links (ToClient c x))) h.doing.cluster
            (λ p at. (frames_carry (IsPlainEntry s.clusters None) s w q.1 (ToClient c x) (link_at w.links (ToClient c x)).taken p at, taken_says w (Some (ToClient c x)) p (q.0.say short).links at))) h.got;
      };
      stops = λ c k h. record { doing = d.stops c k h.doing; got = h.got };
    }

pub going_kept : (s : Setup) → IsScripted s → IsKeptByEvents s (λ w. Below s w × (IsShort w → AllClients s (Goes s) w))
going_kept s scripted = clients_kept s (Below s) (Goes s) (below_kept s scripted) (goes_steady s scripted)

-- ---- how many there are

abbrev pub GotFew : Setup → World → Type 0
GotFew s w = (c : ℕ) → length (client_at s w c).got ≤ w.events

-- a client's event brings one at most
abbrev Few : Client → Acted → Type 0
Few k a = length a.client.got ≤ length k.got + 1

no_more : (k : Client) (a : Acted) → a.client.got ≡ k.got → Few k a
no_more k a same = let l = ap (λ (is : List Ident). length is) same in omega (arith, l)

few_received : (k : Client) (id : ℕ) (i : Ident) (p : Position) → length (received k id i p).got ≤ length k.got + 1
few_received k id i p = let l = length_push k.got i in on_if (λ (c : Client). length c.got ≤ length k.got + 1) (is_number id k.sub) _ k (omega (arith, l)) (omega arith)

few_message : (k : Client) (id : ℕ) (p : Position) (source : Option ClusterRef) (e : Entry) → length (got_message k id p source e).got ≤ length k.got + 1
few_message k id p None e = few_received k id (with_origin k.cluster e).ident p
few_message k id p (Some (cluster_ref.Known x)) e = few_received k id (with_origin x e).ident p
few_message k id p (Some (cluster_ref.Stranger n)) e = omega arith

same_length : (k k' : Client) → k'.got ≡ k.got → length k'.got ≤ length k.got + 1
same_length k k' same = let l = ap (λ (is : List Ident). length is) same in omega (arith, l)

few_frame : (d : Declared) (k : Client) (f : Frame) → length (got_frame d k f).got ≤ length k.got + 1
few_frame d k (frame.SendReceipt id n p) =
    same_length k (answered d k n (with_receipt k (is_duplicate p))) (answered_same d k n (with_receipt k (is_duplicate p)) (receipt_same k (is_duplicate p)))
few_frame d k (frame.SendError id n code) = same_length k (answered d k n (with_error k)) (answered_same d k n (with_error k) refl)
few_frame d k (frame.Error request code) = omega arith
few_frame d k (frame.Message id p source e) = few_message k id p source e
few_frame d k f = omega arith

few_get : (d : Declared) (k : Client) (o : Option Packet) → Few k (get d k o)
unfolding get
few_get d k None = omega arith
few_get d k (Some p) = on_if (λ (c : Client). length c.got ≤ length k.got + 1) (p.session == k.connection) _ k (few_frame d k p.frame) (omega arith)

few_broker : (s : Setup) (w : World) (p : Planned) → GotFew s w → GotFew s (broker_does s w p)
unfolding broker_does
few_broker s w p few = on_if (GotFew s) p.plan.idle _ _ few (λ c. let h = few c in omega (arith, h))

few_halted : (s : Setup) (w : World) (n : ℕ) (p : Planned) → GotFew s w → GotFew s (broker_halts s w n p)
unfolding broker_halts
few_halted s w n p few = λ c. let h = few c in omega (arith, h)

few_client : (s : Setup) (w : World) (c : ℕ) (o : Option LinkName) (a : Acted) → Few (client_at s w c) a → GotFew s w → GotFew s (client_does s w c o a)
unfolding client_does
few_client s w c o a more few =
    on_if (GotFew s) a.idle _ _ few
    (λ d. at_set (λ (k : Client). length k.got ≤ w.events + 1) w.clients c d a.client (new_client (declared_at s d)) (λ is. let h = few c in omega (arith, h, more)) (let h = few d in omega (arith, h)))

few_planned : (s : Setup) (w : World) (o : Option Planned) → GotFew s w → GotFew s (does_planned s w o)
few_planned s w None few = few
few_planned s w (Some p) few = few_broker s w p few

few_stopped : (s : Setup) (w : World) (n : ℕ) (o : Option Planned) → GotFew s w → GotFew s (halts_planned s w n o)
few_stopped s w n None few = few
few_stopped s w n (Some p) few = few_halted s w n p few

few_event : (s : Setup) (w : World) (e : Event) → GotFew s w → GotFew s (happens s w e)
unfolding happens
few_event s w (event.Go c) few =
    on_if (GotFew s) (has_client s c) _ _ (few_client s w c None (client_acted s (client_at s w c) (event.Go c) None) (no_more (client_at s w c) (client_acted s (client_at s w c) (event.Go c) None) (go_same s (declared_at s c) (client_at s w c))) few) few
few_event s w (event.Reconnect c) few =
    on_if (GotFew s) (has_client s c) _ _ (few_client s w c None (client_acted s (client_at s w c) (event.Reconnect c) None) (no_more (client_at s w c) (client_acted s (client_at s w c) (event.Reconnect c) None) (reconnect_same s (declared_at s c) (client_at s w c))) few) few
few_event s w (event.Get c) few =
    on_if (GotFew s) (has_client s c) _ _ (few_client s w c (Some (ToClient c (client_at s w c).cluster)) _ (few_get (declared_at s c) (client_at s w c) _) few) few
few_event s w e few = few_planned s w (planned s w e) few

few_stop : (s : Setup) (w : World) → GotFew s w → GotFew s (stops s w)
unfolding stops
few_stop s w few = λ c.
    let h : length (client_at s (stops s w) c).got ≤ w.events =
    at_map (λ (k : Client). length k.got ≤ w.events) unconnected (λ k g. g) w.clients c (new_client (declared_at s c)) (omega arith) (few c) in
    omega (arith, h)

few_opening : (s : Setup) → GotFew s (opening_world s)
few_opening s c = made_none s.clients c (new_client (declared_at s c)) (omega arith)
  where
    made_none : (ds : List Declared) (c : ℕ) (d : Client) → length d.got ≤ 0 → length (slice_index_or (map new_client ds) c d).got ≤ 0
    made_none [] c d h = h
    made_none (e ∷ ds) zero d h = omega arith
    made_none (e ∷ ds) (suc c) d h = made_none ds c d h

pub got_few_kept : (s : Setup) → IsKeptByEvents s (GotFew s)
got_few_kept s = record {
  opening = few_opening s;
  idle = λ w n few. few;
  round = λ w n few. few;
  event = few_event s;
  halts = λ w n e few. few_stopped s w n (planned s w e) few;
  stop = few_stop s;
}
