-- A world that was stopped is alike to the one that is loaded of it: its links are as many, and none of them has a packet.
use Rattle.std.proofs.Common.{◌≡◌, ℕ, zero, suc, ◌*◌, List, [], ◌∷◌, length, map, replicate, refl, sym, ap, subst, ◌∙◌, arith}
use Rattle.std.specs.Prelude.{Option, Some, None, slice_index_or, slice_set}
use Rattle.std.proofs.lemmas.List.{map-set, set-get_or}
use Rattle.world_laws.proofs.Types.{Out, Packet, Peer}
use Rattle.geo_base.specs.Client.{Acted}
use Rattle.geo_base.specs.Happening.{broker_does, broker_halts, client_does, stops}
use Rattle.geo_base.specs.Link.{Link, no_link, sent_on, took}
use Rattle.geo_base.specs.Planned.{Planned}
use Rattle.geo_base.specs.Setup.{Setup}
use Rattle.geo_base.specs.World.{Back, Forward, LinkName, Links, ToBroker, ToClient, World, delivered, from_broker, from_client, link_at, opening_world, stamped, table, taken_from, with_cell, with_link}
use Rattle.world_laws.specs.AlikeWorlds.{AreAlike, IsSound, LinksAlike, waiting, waiting_on}
use Rattle.world_laws.specs.Reached.{ReachedFrom}
use Rattle.world_laws.specs.Starts.{IsStart, resumed_world}
use Rattle.world_laws.proofs.KeptRuns.AlikeLinks.{IsLinkSound, Waits, after_stop, all_empty, empty_form, get_map, stopped_sound, with_waits}
use Rattle.world_laws.proofs.Counters.Bounds.{table_has}
use Rattle.world_laws.proofs.Induction.Reaching.{reached_has}
use Rattle.world_laws.proofs.Induction.Runs.{IsKept, by_events, kept_on}
use Rattle.world_laws.proofs.KeptRuns.Starting.{unused_links}
use Rattle.world_laws.proofs.Walks.Walk.{on_if}

-- ---- the form of the tables of links never changes

abbrev pub empty_row : List (List Packet) → List (List Packet)
empty_row r = map (λ (ps : List Packet). []) r

-- how many links there are, and in which rows
abbrev pub form : List (List Link) → Waits
form m = empty_form (waiting_on m)

set_empty : (r : List (List Packet)) (j : ℕ) (ps : List Packet) → empty_row (slice_set r j ps) ≡ empty_row r
set_empty [] j ps = refl
set_empty (q ∷ r) zero ps = refl
set_empty (q ∷ r) (suc j) ps = ap (λ (e : List (List Packet)). [] ∷ e) (set_empty r j ps)

with_form : (m : List (List Link)) (i j : ℕ) (l : Link) → form (with_cell m i j l) ≡ form m
with_form m i j l =
    let W = waiting_on m in let r = slice_index_or W i [] in
    ap empty_form (with_waits m i j l)
    ∙ map-set empty_row W i (slice_set r j (waiting l))
    ∙ ap (λ (e : List (List Packet)). slice_set (empty_form W) i e) (set_empty r j (waiting l) ∙ get_map empty_row W i [])
    ∙ set-get_or (empty_form W) i []

pub record FormAs (ks ls : Links) : Type 0 where
  pub forward : form ks.forward ≡ form ls.forward
  pub back : form ks.back ≡ form ls.back
  pub to_broker : form ks.to_broker ≡ form ls.to_broker
  pub to_client : form ks.to_client ≡ form ls.to_client

-- the form that a setup's tables have
abbrev pub AreTables : Setup → Links → Type 0
AreTables s ls = FormAs ls (opening_world s).links

link_form : (s : Setup) (ls : Links) (k : LinkName) (l : Link) → AreTables s ls → AreTables s (with_link ls k l)
link_form s ls (Forward n y) l h = record { forward = with_form ls.forward n y l ∙ h.forward; back = h.back; to_broker = h.to_broker; to_client = h.to_client }
link_form s ls (Back n y) l h = record { forward = h.forward; back = with_form ls.back n y l ∙ h.back; to_broker = h.to_broker; to_client = h.to_client }
link_form s ls (ToBroker c x) l h = record { forward = h.forward; back = h.back; to_broker = with_form ls.to_broker c x l ∙ h.to_broker; to_client = h.to_client }
link_form s ls (ToClient c x) l h = record { forward = h.forward; back = h.back; to_broker = h.to_broker; to_client = with_form ls.to_client c x l ∙ h.to_client }

sent_form : (s : Setup) (to : Peer → LinkName) (stamp : ℕ) (os : List Out) (ls : Links) → AreTables s ls → AreTables s (delivered to stamp os ls)
sent_form s to stamp [] ls h = h
sent_form s to stamp (o ∷ os) ls h = sent_form s to stamp os _ (link_form s ls (to o.to) (sent_on (link_at ls (to o.to)) (stamped stamp o)) h)

taken_form : (s : Setup) (o : Option LinkName) (ls : Links) → AreTables s ls → AreTables s (taken_from o ls)
taken_form s None ls h = h
taken_form s (Some k) ls h = link_form s ls k (took (link_at ls k)) h

twice_empty : (W : Waits) → empty_form (empty_form W) ≡ empty_form W
twice_empty [] = refl
twice_empty (r ∷ W) = rw (row r, twice_empty W) refl
  where
    row : (r : List (List Packet)) → empty_row (empty_row r) ≡ empty_row r
    row [] = refl
    row (ps ∷ r) = ap (λ (e : List (List Packet)). [] ∷ e) (row r)

stopped_form : (s : Setup) (ls : Links) → AreTables s ls → AreTables s (after_stop ls)
stopped_form s ls h = record {
  forward = ap empty_form (all_empty ls.forward) ∙ twice_empty (waiting_on ls.forward) ∙ h.forward;
  back = ap empty_form (all_empty ls.back) ∙ twice_empty (waiting_on ls.back) ∙ h.back;
  to_broker = ap empty_form (all_empty ls.to_broker) ∙ twice_empty (waiting_on ls.to_broker) ∙ h.to_broker;
  to_client = ap empty_form (all_empty ls.to_client) ∙ twice_empty (waiting_on ls.to_client) ∙ h.to_client;
}

abbrev pub Tables : Setup → World → Type 0
Tables s w = AreTables s w.links

does_form : (s : Setup) (w : World) (p : Planned) → Tables s w → Tables s (broker_does s w p)
unfolding broker_does
does_form s w p h = on_if (Tables s) p.plan.idle _ _ h (taken_form s p.takes _ (sent_form s (from_broker s p.topic p.cluster) _ p.plan.sent w.links h))

halts_form : (s : Setup) (w : World) (k : ℕ) (p : Planned) → Tables s w → Tables s (broker_halts s w k p)
unfolding broker_halts
halts_form s w k p h = taken_form s p.takes w.links h

client_form : (s : Setup) (w : World) (c : ℕ) (o : Option LinkName) (a : Acted) → Tables s w → Tables s (client_does s w c o a)
unfolding client_does
client_form s w c o a h = on_if (Tables s) a.idle _ _ h (sent_form s (from_client c) _ a.sent (taken_from o w.links) (taken_form s o w.links h))

stops_form : (s : Setup) (w : World) → Tables s w → Tables s (stops s w)
unfolding stops
stops_form s w h = stopped_form s w.links h

same_form : (ls : Links) → FormAs ls ls
same_form ls = record { forward = refl; back = refl; to_broker = refl; to_client = refl }

pub form_kept : (s : Setup) → IsKept s (Tables s)
form_kept s = record {
  opening = same_form (opening_world s).links;
  idle = λ w n h. h;
  round = λ w n h. h;
  does = λ w p shape h. does_form s w p h;
  halts = λ w k p shape h. halts_form s w k p h;
  goes = λ w c a h. client_form s w c None a h;
  gets = λ w c x a h. client_form s w c (Some (ToClient c x)) a h;
  stop = stops_form s;
}

form_there : (s : Setup) (v w : World) → IsStart s v → ReachedFrom s v w → Tables s w
form_there s v w start r =
    reached_has s (Tables s) (kept_on s (Tables s) (by_events s (Tables s) (form_kept s))) v w (subst (AreTables s) (sym (unused_links s v start)) (same_form (opening_world s).links)) r

-- ---- what is loaded of a world that was stopped

row_unused : (n : ℕ) → empty_row (map waiting (replicate n no_link)) ≡ map waiting (replicate n no_link)
row_unused zero = refl
row_unused (suc n) = ap (λ (r : List (List Packet)). [] ∷ r) (row_unused n)

unused_form : (rows columns : ℕ) → form (table rows columns) ≡ waiting_on (table rows columns)
unused_form zero columns = refl
unused_form (suc rows) columns =
    ap (λ (r : List (List Packet)). r ∷ form (table rows columns)) (row_unused columns) ∙ ap (λ (W : Waits). map waiting (replicate columns no_link) ∷ W) (unused_form rows columns)

pub unused_sound : (s : Setup) → IsSound (opening_world s).links
unused_sound s (Forward n y) = table_has IsLinkSound (length s.topics * length s.clusters) (length s.clusters) n y (omega arith)
unused_sound s (Back n y) = table_has IsLinkSound (length s.topics * length s.clusters) (length s.clusters) n y (omega arith)
unused_sound s (ToBroker c x) = table_has IsLinkSound (length s.clients) (length s.clusters) c x (omega arith)
unused_sound s (ToClient c x) = table_has IsLinkSound (length s.clients) (length s.clusters) c x (omega arith)

loaded_links : (s : Setup) (ls : Links) → AreTables s ls → LinksAlike (after_stop ls) (opening_world s).links
loaded_links s ls h =
    let n = length s.clusters in let nodes = length s.topics * n in let clients = length s.clients in
    record {
      forward = all_empty ls.forward ∙ h.forward ∙ unused_form nodes n;
      back = all_empty ls.back ∙ h.back ∙ unused_form nodes n;
      to_broker = all_empty ls.to_broker ∙ h.to_broker ∙ unused_form clients n;
      to_client = all_empty ls.to_client ∙ h.to_client ∙ unused_form clients n;
      left = stopped_sound ls;
      right = unused_sound s;
    }

loaded_alike : (s : Setup) (w : World) → Tables s w → AreAlike (stops s w) (resumed_world s (stops s w))
unfolding stops
loaded_alike s w h = record {
  brokers = refl;
  clients = refl;
  links = loaded_links s w.links h;
  events = refl;
  idle = refl;
  rounds = refl;
  frame_bytes = refl;
}

pub loaded : (s : Setup) (v w : World) → IsStart s v → ReachedFrom s v w → AreAlike (stops s w) (resumed_world s (stops s w))
loaded s v w start r = loaded_alike s w (form_there s v w start r)
