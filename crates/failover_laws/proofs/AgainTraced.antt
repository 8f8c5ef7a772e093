-- Where the places of an update come from: of each own snapshot its request and the answers to it stand here, each cut that is cached is
-- that of an own snapshot, and so are the places that an own update names. All over the entries es and the subscriptions vs of the topic
-- at cluster x, n being how many clusters there are.
use Rattle.std.proofs.Common.{◌≡◌, ℕ, ◌-◌, ◌<◌, ◌≤◌, Bool, true, false, List, [], length, sym, ap, subst, ◌∙◌, arith, inl, inr}
use Rattle.std.specs.Prelude.{Some, None, slice_get, slice_index_or}
use Rattle.std.proofs.lemmas.Bool.{false≢true}
use Rattle.std.proofs.lemmas.Option.{slice_get_within}
use Rattle.world_laws.proofs.Types.{CachedSnapshot, Change, ClusterPosition, Content, Cut, Entry, Position, Write}
use Rattle.world_laws.proofs.Types.change
use Rattle.world_laws.proofs.Types.content
use Rattle.world_laws.proofs.Types.marker
use Rattle.world_laws.proofs.Types.progress
use Rattle.geo_base.specs.Broker.{Broker, Site, cluster_name}
use Rattle.geo_base.specs.SnapshotBuilder.{named}
use Rattle.geo_base.specs.Cache.{cut_of}
use Rattle.geo_base.specs.Entry.{is_data}
use Rattle.geo_base.specs.Name.{is_name}
use Rattle.geo_base.specs.Plan.{all_changed, all_written}
use Rattle.geo_base.specs.Position.{no_position}
use Rattle.geo_base.specs.Subscription.{Subscription}
use Rattle.world_laws.proofs.TopicOrder.Added.{Added, Adds, appended}
use Rattle.world_laws.proofs.Telling.Announcing.{Announced, Announcing, announced}
use Rattle.world_laws.proofs.Snapshotting.Answering.{AnswerAt, Numbered, RequestAt, not_own, old_or_new, own_added}
use Rattle.world_laws.proofs.OnceInOrder.Appends.{all_changed_entries}
use Rattle.world_laws.proofs.Snapshotting.Building.{CacheChange, IsCached, Requests}
use Rattle.world_laws.proofs.Snapshotting.Caches.{AllCached, Brings, all_changed_cached, all_written_cached}
use Rattle.world_laws.proofs.Replicating.Effects.{Each, each_map}
use Rattle.world_laws.proofs.Snapshotting.Hearing.{Stays, grown_get, request_stays}
use Rattle.world_laws.proofs.Snapshotting.Making.{MadeAfter, Telling, writes_stay}
use Rattle.world_laws.proofs.Snapshotting.MakingEvents.{heard_made}
use Rattle.world_laws.proofs.Replicating.Prefixes.{is_of}
use Rattle.world_laws.proofs.Dispatching.SubFrames.{AllSubs, each_at_place}
use Rattle.world_laws.proofs.Walks.Walk.{left}
use Rattle.world_laws.proofs.FrameContents.Widths.{Named}
use Rattle.world_laws.proofs.Snapshotting.WrittenCuts.{cut_written}
use Rattle.failover_laws.proofs.SameIds.{SameIds, ids_written}

-- an answer of y to this id came here, and names position p
pub record AnsweredWith (y : ℕ) (es : List Entry) (id : List ℕ) (p : Position) : Type 0 where
  pub index : ℕ
  pub entry : Entry
  pub answer : ClusterPosition
  pub heard : AnswerAt y es index id answer entry
  pub names : answer.position ≡ p

-- a request of this id stands below index i, and each position of the cut is one with which its cluster answered it
pub record AskedFor (x : ℕ) (es : List Entry) (i : ℕ) (id : List ℕ) (cut : Cut) : Type 0 where
  pub request : ℕ
  pub below : request < i
  pub asks : RequestAt x es request id
  pub answers : (y : ℕ) (p : Position) → slice_index_or cut.remote y None ≡ Some p → AnsweredWith y es id p

-- the cut is that of an own snapshot that stands here
pub record IsCutHere (n x : ℕ) (es : List Entry) (cut : Cut) : Type 0 where
  pub index : ℕ
  pub entry : Entry
  pub id : List ℕ
  pub local : Position
  pub remote : List ClusterPosition
  pub at : slice_get es index ≡ Some entry
  pub of : is_of x entry ≡ true
  pub is : entry.content ≡ content.Marked (marker.Snapshot id local remote)
  pub same : cut ≡ cut_of x n local remote

-- what an own update names: a subscription by a name, and the places of such a cut
pub record IsTold (n x : ℕ) (es : List Entry) (m : List ℕ) (told : List ClusterPosition) : Type 0 where
  pub name : is_name m ≡ true
  pub cut : Cut
  pub here : IsCutHere n x es cut
  pub same : told ≡ named cut

abbrev pub CachedHere : ℕ → ℕ → List Entry → CachedSnapshot → Type 0
CachedHere n x es c = IsCutHere n x es c.cut

pub record Traced (n x : ℕ) (es : List Entry) (vs : List Subscription) : Type 0 where
  pub ids : SameIds x es
  pub snapshots : (i : ℕ) (e : Entry) (id : List ℕ) (local : Position) (remote : List ClusterPosition) → slice_get es i ≡ Some e → is_of x e ≡ true
      → e.content ≡ content.Marked (marker.Snapshot id local remote) → AskedFor x es i id (cut_of x n local remote)
  pub caches : AllCached (CachedHere n x es) vs
  pub updates : (i : ℕ) (e : Entry) (m : List ℕ) (told : List ClusterPosition) → slice_get es i ≡ Some e → is_of x e ≡ true
      → e.content ≡ content.Marked (marker.Update m told) → IsTold n x es m told

-- ---- growth

answered_grows : (y : ℕ) (es es' : List Entry) (ls ls' : List ℕ) (id : List ℕ) (p : Position) → Stays es es' ls ls' → AnsweredWith y es id p → AnsweredWith y es' id p
answered_grows y es es' ls ls' id p g a = record {
  index = a.index;
  entry = a.entry;
  answer = a.answer;
  heard = record { at = grown_get es es' ls ls' g a.index a.entry a.heard.at; of = a.heard.of; is = a.heard.is };
  names = a.names;
}

asked_grows : (x i : ℕ) (es es' : List Entry) (ls ls' : List ℕ) (id : List ℕ) (cut : Cut) → Stays es es' ls ls' → AskedFor x es i id cut → AskedFor x es' i id cut
asked_grows x i es es' ls ls' id cut g a = record {
  request = a.request;
  below = a.below;
  asks = request_stays x a.request es es' ls ls' id g a.asks;
  answers = λ y p kept. answered_grows y es es' ls ls' id p g (a.answers y p kept);
}

cut_here_grows : (n x : ℕ) (es es' : List Entry) (ls ls' : List ℕ) (cut : Cut) → Stays es es' ls ls' → IsCutHere n x es cut → IsCutHere n x es' cut
cut_here_grows n x es es' ls ls' cut g c = record {
  index = c.index;
  entry = c.entry;
  id = c.id;
  local = c.local;
  remote = c.remote;
  at = grown_get es es' ls ls' g c.index c.entry c.at;
  of = c.of;
  is = c.is;
  same = c.same;
}

told_grows : (n x : ℕ) (es es' : List Entry) (ls ls' : List ℕ) (m : List ℕ) (told : List ClusterPosition) → Stays es es' ls ls' → IsTold n x es m told → IsTold n x es' m told
told_grows n x es es' ls ls' m told g u = record { name = u.name; cut = u.cut; here = cut_here_grows n x es es' ls ls' u.cut g u.here; same = u.same }

-- ---- what is new

abbrev is_snapshot : Content → Bool
is_snapshot (content.Marked (marker.Snapshot id local remote)) = true
is_snapshot c = false

abbrev id_of : Content → List ℕ
id_of (content.Marked (marker.Snapshot id local remote)) = id
id_of c = []

abbrev local_of : Content → Position
local_of (content.Marked (marker.Snapshot id local remote)) = local
local_of c = no_position

abbrev remote_of : Content → List ClusterPosition
remote_of (content.Marked (marker.Snapshot id local remote)) = remote
remote_of c = []

abbrev MadeAt : Site → Broker → Type 0
MadeAt h b = MadeAfter (length h.clusters) h.own (cluster_name h h.own) b.entries b.ledgers b.builder

-- a new own snapshot is that of a builder that is done: it keeps what answered the request that it began with
new_snapshot : (h : Site) (b : Broker) (e : Entry) (i : ℕ) (id : List ℕ) (local : Position) (remote : List ClusterPosition) → h.own < length h.clusters → Numbered b.entries b.ledgers
    → MadeAt h b → length b.entries ≤ i → is_of h.own e ≡ true → e.content ≡ content.Marked (marker.Snapshot id local remote) → Added h b e
    → AskedFor h.own b.entries i id (cut_of h.own (length h.clusters) local remote)
new_snapshot h b e i id local remote small numbered m le of is (Added.Published e' own message) = absurd (false≢true (sym (ap is_data is) ∙ message))
new_snapshot h b e i id local remote small numbered m le of is (Added.Came e' z lt other from) = absurd (not_own h.own z e other from of)
new_snapshot h b e i id local remote small numbered m le of is (Added.Asked none) = absurd (false≢true (ap is_snapshot is))
new_snapshot h b e i id local remote small numbered m le of is (Added.AskedAgain y j f id' answer u u' next response heard) = absurd (false≢true (ap is_snapshot is))
new_snapshot h b e i id local remote small numbered m le of is (Added.Responded y j f id' source lt other at of_f asks) = absurd (false≢true (ap is_snapshot is))
new_snapshot h b e i id local remote small numbered m le of is (Added.Updated v cut) = absurd (false≢true (ap is_snapshot is))
new_snapshot h b e i id local remote small numbered m le of is (Added.Completed y j f id' answer u u' next response heard) =
    let x = h.own in let n = length h.clusters in
    let made = heard_made h b y j f id' answer u u' progress.Done small numbered next response heard m in
    let lt = slice_get_within b.entries made.asked.0 made.asked.2.entry made.asked.2.at in
    let asked : AskedFor x b.entries i u'.id u'.cut = record {
      request = made.asked.0;
      below = omega (arith, lt, le);
      asks = made.asked.2;
      answers = λ z p kept. let c = (made.first z p kept).counted in record { index = c.index; entry = c.entry; answer = c.answer; heard = c.heard; names = c.names };
    } in
    let C : Cut → Type 0 = λ c. AskedFor x b.entries i u'.id c in
    let L : Position → Type 0 = λ l. AskedFor x b.entries i u'.id (cut_of x n l remote) in
    let R : List ClusterPosition → Type 0 = λ r. AskedFor x b.entries i u'.id (cut_of x n u'.cut.local r) in
    let I : List ℕ → Type 0 = λ l. AskedFor x b.entries i l (cut_of x n local remote) in
    subst I (ap id_of is) (subst L (ap local_of is) (subst R (ap remote_of is) (subst C (sym (cut_written x n u'.cut made.places made.empty)) asked)))

-- what comes into a cache stands here
pub new_cached : (h : Site) (b : Broker) (c : CachedSnapshot) → IsCached h b c → CachedHere (length h.clusters) h.own b.entries c
new_cached h b c q = record {
  index = q.place;
  entry = q.entry;
  id = q.is.0;
  local = q.is.1;
  remote = q.is.2;
  at = q.stands;
  of = left (is_of h.own q.entry) q.sub.replicated q.is.4;
  is = q.is.3;
  same = ap (λ (d : CachedSnapshot). d.cut) q.is.6;
}

-- a new own update is of a cached one
new_update : (h : Site) (b c : Broker) (m : List ℕ) (told : List ClusterPosition) → AllSubs Named c → Announced (CachedHere (length h.clusters) h.own b.entries) c m told
    → IsTold (length h.clusters) h.own b.entries m told
new_update h b c m told names u = record {
  name = subst (λ (l : List ℕ). is_name l ≡ true) u.name (each_at_place Named c.subs u.stands.place u.sub names u.stands.is);
  cut = u.snapshot.cut;
  here = u.fact;
  same = sym u.is;
}

-- ---- an event

-- what its writes append, and what it brings into caches
pub record Does (h : Site) (b : Broker) (ws : List Write) (cs : List Change) : Type 0 where
  pub requests : Requests h b ws
  pub adds : Adds h b (appended ws)
  pub announcing : Announcing (CachedHere (length h.clusters) h.own b.entries) h b ws
  pub names : AllSubs Named (all_written h.per_ledger b ws)
  pub brings : Each (CacheChange h b) cs

pub event_traced : (h : Site) (b : Broker) (ws : List Write) (cs : List Change) → h.own < length h.clusters → Numbered b.entries b.ledgers
    → Telling h.per_ledger (cluster_name h h.own) b.ledgers → MadeAt h b → Does h b ws cs → Traced (length h.clusters) h.own b.entries b.subs
    → Traced (length h.clusters) h.own (all_changed (all_written h.per_ledger b ws) cs).entries (all_changed (all_written h.per_ledger b ws) cs).subs
event_traced h b ws cs small numbered tells m does old =
    subst (λ (es : List Entry). Traced n x es (all_changed c cs).subs) (sym (all_changed_entries c cs)) (record {
      ids = ids_written h b ws does.requests numbered tells m old.ids;
      snapshots = snapshots;
      caches = all_changed_cached (CachedHere n x c.entries) c cs (each_map (CacheChange h b) (Brings (CachedHere n x c.entries)) bring cs does.brings)
          (all_written_cached (CachedHere n x c.entries) h.per_ledger b ws (λ k v at j d is. still d (old.caches k v at j d is)));
      updates = updates;
    })
  where
    n : ℕ
    n = length h.clusters

    x : ℕ
    x = h.own

    c : Broker
    c = all_written h.per_ledger b ws

    g : Stays b.entries c.entries b.ledgers c.ledgers
    g = writes_stay h.per_ledger b ws numbered

    At : ℕ → Entry → List Entry → Type 0
    At i e l = slice_get l i ≡ Some e

    still : (d : CachedSnapshot) → CachedHere n x b.entries d → CachedHere n x c.entries d
    still d = cut_here_grows n x b.entries c.entries b.ledgers c.ledgers d.cut g

    bring : (a : Change) → CacheChange h b a → Brings (CachedHere n x c.entries) a
    bring (change.Cache k d) q = still d (new_cached h b d q)
    bring a q = tt

    snapshots : (i : ℕ) (e : Entry) (id : List ℕ) (local : Position) (remote : List ClusterPosition) → slice_get c.entries i ≡ Some e → is_of x e ≡ true
        → e.content ≡ content.Marked (marker.Snapshot id local remote) → AskedFor x c.entries i id (cut_of x n local remote)
    snapshots i e id local remote at of is =
        asked_grows x i b.entries c.entries b.ledgers c.ledgers id (cut_of x n local remote) g
        (elim (old_or_new b.entries (appended ws) i e (subst (At i e) g.is at)) [
          | inl o ↦ old.snapshots i e id local remote o.1 of is
          | inr k ↦
              new_snapshot h b e i id local remote small numbered m k.0 of is (own_added h b (appended ws) does.adds (i - length b.entries) e k.1 of).added
        ])

    updates : (i : ℕ) (e : Entry) (l : List ℕ) (told : List ClusterPosition) → slice_get c.entries i ≡ Some e → is_of x e ≡ true
        → e.content ≡ content.Marked (marker.Update l told) → IsTold n x c.entries l told
    updates i e l told at of is =
        told_grows n x b.entries c.entries b.ledgers c.ledgers l told g
        (elim (old_or_new b.entries (appended ws) i e (subst (At i e) g.is at)) [
          | inl o ↦ old.updates i e l told o.1 of is
          | inr k ↦
              new_update h b c l told does.names
              (announced (CachedHere n x b.entries) h h.per_ledger b ws does.announcing (i - length b.entries) e l told k.1 of is)
        ])
