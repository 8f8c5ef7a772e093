-- The opening world is a start; and what a start has, of all that every event keeps.
use Rattle.std.proofs.Common.{◌≡◌, ℕ, zero, suc, ◌+◌, ◌*◌, ◌%◌, ◌<◌, ◌≤◌, Bool, true, false, List, [], ◌∷◌, ◌++◌, length, map, replicate, refl, sym, ap, subst, ◌∙◌, arith, inl, inr}
use Rattle.std.specs.Prelude.{Option, Some, None, nat_lt, slice_get, slice_index, slice_index_or}
use Rattle.std.specs.List.{AllByRecursion}
use Rattle.std.proofs.lemmas.Bool.{ltb-true}
use Rattle.std.proofs.lemmas.Bool.Decides.{nat_tests}
use Rattle.std.proofs.lemmas.List.{append-nil, append_assoc, get_or-replicate, get_or_past}
use Rattle.std.proofs.lemmas.Nat.{mod-mul-add}
use Rattle.std.proofs.lemmas.Option.{none-some, same_Some}
use Rattle.world_laws.proofs.KeptRuns.IndexRuns.{opening_indexes}
use Rattle.world_laws.proofs.Types.{Entry, Session}
use Rattle.world_laws.proofs.Types.change
use Rattle.geo_base.specs.Broker.{Broker, changed, new_broker, no_broker}
use Rattle.geo_base.specs.Client.{Client, new_client}
use Rattle.geo_base.specs.Entry.{with_origin}
use Rattle.geo_base.specs.Safe.{AllOnce, IsOnce}
use Rattle.geo_base.specs.Replicator.{Replicator, new_replicator, replicator_restarted}
use Rattle.geo_base.specs.Setup.{Declared, Setup, declared_at}
use Rattle.geo_base.specs.Subscription.{cleared}
use Rattle.geo_base.specs.World.{Links, World, broker_at, client_at, node, opening_world, topic_at}
use Rattle.world_laws.specs.Reached.{IsPlainOrOf}
use Rattle.world_laws.specs.Starts.{AreStored, IsStart, IsStartBroker, IsStartClient, IsStartSub, most_at_start}
use Rattle.world_laws.specs.Within.{ClientWithin, ReplicatorWithin}
use Rattle.world_laws.proofs.Counters.Bounds.{AllStamps, opening_within}
use Rattle.world_laws.proofs.Snapshotting.Caches.{Cached}
use Rattle.world_laws.proofs.FrameContents.Carrying.{Carried, Stored, Suits, carried_unused}
use Rattle.world_laws.proofs.Replicating.Effects.{Each}
use Rattle.world_laws.proofs.Induction.Layers.{Everywhere}
use Rattle.world_laws.proofs.Replicating.LinkFrames.{HasCell}
use Rattle.world_laws.proofs.Counters.MarkerRuns.{Marked, NamedLinks, opening_named}
use Rattle.world_laws.proofs.TopicOrder.NoSelf.{NoSelf, no_self_kept}
use Rattle.world_laws.proofs.OnceInOrder.Once.{OnceIn, once_push}
use Rattle.world_laws.proofs.Counters.OwnNumbers.{FewMarkers, one_few}
use Rattle.world_laws.proofs.Counters.Places.{opening_places}
use Rattle.world_laws.proofs.Counters.Rising.{Counted}
use Rattle.world_laws.proofs.Replicating.Sizes.{IsThere, Sized, node_lt, sized_kept}
use Rattle.world_laws.proofs.Counters.Slow.{Below, SeeksAt}
use Rattle.world_laws.proofs.FrameContents.Widths.{AllWide, Named, Wide}
use Rattle.geo_base.proofs.Lists.{map_of_copies}

-- ---- lists

all_copies : {X : Type 0} (P : X → Type 0) (n : ℕ) (x : X) → P x → AllByRecursion P (replicate n x)
all_copies P zero x p = tt
all_copies P (suc n) x p = (p, all_copies P n x p)

pub all_made : {X Y : Type 0} (P : Y → Type 0) (f : X → Y) → ((x : X) → P (f x)) → (xs : List X) → AllByRecursion P (map f xs)
all_made P f p [] = tt
all_made P f p (x ∷ xs) = (p x, all_made P f p xs)

pub each_of : {X : Type 0} (P Q : X → Type 0) → ((x : X) → P x → Q x) → (xs : List X) → AllByRecursion P xs → Each Q xs
each_of P Q f [] h = tt
each_of P Q f (x ∷ xs) h = (f x h.0, each_of P Q f xs h.1)

at_place : {X : Type 0} (P : X → Type 0) (xs : List X) (d : X) (i : ℕ) → AllByRecursion P xs → P d → P (slice_index_or xs i d)
at_place P [] d i h none = none
at_place P (x ∷ xs) d zero h none = h.0
at_place P (x ∷ xs) d (suc i) h none = at_place P xs d i h.1 none

-- what is made of each of a list stands there
pub made_at : {X : Type 0} (P : X → Type 0) (f : X → X) → ((x : X) → P (f x)) → (xs : List X) (k : ℕ) (v : X) → slice_get (map f xs) k ≡ Some v → P v
made_at P f p [] k v at = absurd (none-some v at)
made_at P f p (x ∷ xs) zero v at = subst P (same_Some (f x) v at) (p x)
made_at P f p (x ∷ xs) (suc k) v at = made_at P f p xs k v at

pub made_or : {X : Type 0} (P : X → Type 0) (f : X → X) (d : X) → ((x : X) → P (f x)) → P d → (xs : List X) (k : ℕ) → P (slice_index_or (map f xs) k d)
made_or P f d p none [] k = none
made_or P f d p none (x ∷ xs) zero = p x
made_or P f d p none (x ∷ xs) (suc k) = made_or P f d p none xs k

-- ---- the opening world

new_starts : (clusters own clients : ℕ) → IsStartBroker clusters own (new_broker clusters clients)
new_starts clusters own clients = record {
  few = omega arith;
  entries = tt;
  replicators = all_copies (λ (v : Replicator). v.session ≤ most_at_start) clusters new_replicator (omega arith);
  subs = tt;
  at_rest = rw (map_of_copies replicator_restarted clusters new_replicator refl, map_of_copies (λ (r : Option ℕ). None) clusters None refl, map_of_copies (λ (v : Option Session). None) clients None refl) refl;
}

client_starts : (d : Declared) → IsStartClient (new_client d)
client_starts d = record { connection = omega arith; receipts = omega arith; duplicates = omega arith; errors = omega arith; apart = refl }

pub opening_starts : (s : Setup) → IsStart s (opening_world s)
opening_starts s =
    let n = length s.clusters in let new = new_broker n (length s.clients) in
    record {
      places = opening_places s;
      brokers = λ z within.
          let small : z < length s.topics * n = subst (λ (m : ℕ). z < m) (opening_places s).brokers within in
          subst (IsStartBroker n (z % n)) (sym (get_or-replicate (length s.topics * n) z new no_broker small)) (new_starts n (z % n) (length s.clients));
      clients = all_made IsStartClient new_client client_starts s.clients;
      indexes = opening_indexes s;
      counts = record { events = omega arith; rounds = omega arith; sent = omega arith };
      unused = refl;
    }

-- ---- links and brokers of a start

pub unused_links : (s : Setup) (v : World) → IsStart s v → v.links ≡ (opening_world s).links
unused_links s v h = ap (λ (w : World). w.links) (sym h.unused)

node_within : (s : Setup) (v : World) (t x : ℕ) → IsStart s v → IsThere s t x → node s t x < length v.brokers
node_within s v t x h there = subst (λ (m : ℕ). node s t x < m) (sym h.places.brokers) (node_lt s t x there)

pub start_at : (s : Setup) (v : World) (t x : ℕ) → IsStart s v → IsThere s t x → IsStartBroker (length s.clusters) x (topic_at s v t x)
start_at s v t x h there =
    subst (λ (y : ℕ). IsStartBroker (length s.clusters) y (topic_at s v t x)) (mod-mul-add t (length s.clusters) x there.1) (h.brokers (node s t x) (node_within s v t x h there))

start_sized : (s : Setup) (v : World) → IsStart s v → Sized s v
start_sized s v h = record {
  brokers = h.places.brokers;
  cells = λ t x y there lt. subst (λ (ls : Links). HasCell ls.forward (node s t x) y) (sym (unused_links s v h)) ((sized_kept s).opening.cells t x y there lt);
  wide = λ t x there. let p = h.places.each (node s t x) (node_within s v t x h there) in record { replicators = p.replicators; receivers = p.receivers };
}

start_wide : (s : Setup) (v : World) → IsStart s v → AllWide s v
start_wide s v h t x there =
    let b = topic_at s v t x in let n = length s.clusters in let start = start_at s v t x h there in
    record {
      names = each_of IsStartSub Named (λ u k. k.name) b.subs start.subs;
      caches = λ k u at. made_at (Cached (Wide n)) cleared (λ u k c at. absurd (none-some c at)) b.subs k u
          (ap (λ (c : Broker). slice_get c.subs k) start.at_rest ∙ at);
      builder = λ u is. absurd (none-some u (ap (λ (c : Broker). c.builder) start.at_rest ∙ is));
    }

-- ---- numbers

replicator_within : (n : ℕ) (b : Broker) (y : ℕ) → most_at_start ≤ n → AllByRecursion (λ (u : Replicator). u.session ≤ most_at_start) b.replicators → changed b change.Forget ≡ b
    → ReplicatorWithin n (slice_index_or b.replicators y new_replicator)
replicator_within n b y le sessions rest =
    let session : (slice_index_or b.replicators y new_replicator).session ≤ most_at_start = at_place (λ (u : Replicator). u.session ≤ most_at_start) b.replicators new_replicator y sessions (omega arith) in
    let next : (slice_index_or b.replicators y new_replicator).next ≤ 0 =
    subst (λ (c : Broker). (slice_index_or c.replicators y new_replicator).next ≤ 0) rest (made_or (λ (u : Replicator). u.next ≤ 0) replicator_restarted new_replicator (λ u. omega arith) (omega arith) b.replicators y) in
    record { session = omega (arith, session, le); next = omega (arith, next) }

none_below : (n : ℕ) → Below n no_broker
none_below n = record { replicators = λ y. record { session = omega arith; next = omega arith }; seeks = tt }

broker_below : (n clusters own : ℕ) (b : Broker) → most_at_start ≤ n → IsStartBroker clusters own b → Below n b
broker_below n clusters own b le h = record {
  replicators = λ y. replicator_within n b y le h.replicators h.at_rest;
  seeks = each_of IsStartSub (SeeksAt n) (λ u k. omega (arith, k.seeks, le)) b.subs h.subs;
}

client_within : (n : ℕ) (k : Client) → most_at_start ≤ n → IsStartClient k → ClientWithin n k
client_within n k le h = record {
  connection = omega (arith, le, h.connection);
  receipts = omega (arith, le, h.receipts);
  duplicates = omega (arith, le, h.duplicates);
  errors = omega (arith, le, h.errors);
}

pub start_counted : (s : Setup) (v : World) → IsStart s v → Counted most_at_start s v
start_counted s v h = (
  n,
  refl,
  record {
    brokers = broker_at_most;
    clients = λ c. client_within n (client_at s v c) le (at_place IsStartClient v.clients (new_client (declared_at s c)) c h.clients (client_starts (declared_at s c)));
    broker_clocks = λ z. let o = (opening_within s).broker_clocks z in
        let c : slice_index v.broker_clocks z ≤ 0 = subst (λ (w : World). slice_index w.broker_clocks z ≤ 0) h.unused o in omega (arith, c);
    client_clocks = λ c. let o = (opening_within s).client_clocks c in
        let k : slice_index v.client_clocks c ≤ 0 = subst (λ (w : World). slice_index w.client_clocks c ≤ 0) h.unused o in omega (arith, k);
    stamps = λ k i p at. let o = subst (λ (ls : Links). AllStamps 0 ls) (sym (unused_links s v h)) (opening_within s).stamps k i p at in omega (arith, o);
  },
)
  where
    n : ℕ
    n = most_at_start + v.events

    le : most_at_start ≤ n
    le = omega arith

    broker_at_most : (z : ℕ) → Below n (broker_at v z)
    broker_at_most z = by_place z (nat_lt z (length v.brokers)) refl
      where
        by_place : (z : ℕ) (t : Bool) → nat_lt z (length v.brokers) ≡ t → Below n (broker_at v z)
        by_place z true is = broker_below n (length s.clusters) (z % length s.clusters) (broker_at v z) le (h.brokers z (ltb-true z (length v.brokers) is))
        by_place z false is = subst (Below n) (sym (get_or_past v.brokers z no_broker (grind (arith, nat_tests, is)))) (none_below n)

-- own markers are no more than entries
few_stored : (clusters own : ℕ) (before es : List Entry) → AreStored clusters own before es → FewMarkers own before → FewMarkers own (before ++ es)
few_stored clusters own before [] h few = subst (FewMarkers own) (sym (append-nil before)) few
few_stored clusters own before (e ∷ es) h few =
    subst (FewMarkers own) (append_assoc before (e ∷ []) es)
    (few_stored clusters own (before ++ e ∷ []) es h.1 (one_few own before e h.0.marker few))

pub start_marked : (s : Setup) (v : World) → IsStart s v → Marked most_at_start s v
start_marked s v h = record {
  known = (start_sized s v h, subst (NoSelf s) h.unused (no_self_kept s).opening);
  links = subst (λ (ls : Links). NamedLinks ls) (sym (unused_links s v h)) (opening_named s);
  few = λ t x there.
      let start = start_at s v t x h there in
      let few = few_stored (length s.clusters) x [] (topic_at s v t x).entries start.entries (omega arith) in
      omega (arith, few, start.few);
}

-- ---- entries

once_stored : (clusters own : ℕ) (before es : List Entry) → AreStored clusters own before es → OnceIn before → OnceIn (before ++ es)
once_stored clusters own before [] h once = subst OnceIn (sym (append-nil before)) once
once_stored clusters own before (e ∷ es) h once =
    subst OnceIn (append_assoc before (e ∷ []) es) (once_stored clusters own (before ++ e ∷ []) es h.1 (once_push before e once h.0.new))

empty_once : OnceIn []
empty_once i j e f lt at at' same = absurd (none-some e at)

pub start_once : (s : Setup) (v : World) → IsStart s v → AllOnce v
start_once s v h z = by_place (nat_lt z (length v.brokers)) refl
  where
    by_place : (t : Bool) → nat_lt z (length v.brokers) ≡ t → IsOnce (broker_at v z)
    by_place true is =
        once_stored (length s.clusters) (z % length s.clusters) [] (broker_at v z).entries (h.brokers z (ltb-true z (length v.brokers) is)).entries empty_once
    by_place false is = subst IsOnce (sym (get_or_past v.brokers z no_broker (grind (arith, nat_tests, is)))) empty_once

-- each entry of a list, by what holds of it at its place
each_at : (E : Entry → Type 0) (clusters own : ℕ) (before es : List Entry) → AreStored clusters own before es → ((i : ℕ) (e : Entry) → slice_get es i ≡ Some e → E e)
    → Each (λ e. E e × (e.ident.origin < clusters)) es
each_at E clusters own before [] h f = tt
each_at E clusters own before (e ∷ es) h f = ((f zero e refl, h.0.origin), each_at E clusters own (before ++ e ∷ []) es h.1 (λ i g at. f (suc i) g at))

pub start_carried : (s : Setup) (v : World) → IsStart s v → Carried (IsPlainOrOf s v) s v
start_carried s v h = ((start_sized s v h, start_wide s v h), carried_unused (IsPlainOrOf s v) s v (unused_links s v h) entries)
  where
    entries : Everywhere s (λ x b. Each (Stored (IsPlainOrOf s v) s.clusters) b.entries) v
    entries t x there =
        each_at (IsPlainOrOf s v) (length s.clusters) x [] (topic_at s v t x).entries (start_at s v t x h there).entries
        (λ i e at. inr (record { topic = t; cluster = x; index = i; entry = e; there = there.1; stands = at; same = refl }))

-- plain entries, and those of the start, are so whoever stored them first
pub of_suits : (s : Setup) (v : World) → Suits s.clusters (IsPlainOrOf s v)
of_suits s v = record { plain = λ e h. inl h; moved = λ z e h. moved z e h }
  where
    moved : (z : ℕ) (e : Entry) → IsPlainOrOf s v e → IsPlainOrOf s v (with_origin z e)
    moved z e (inl h) = inl (record { listed = h.listed; some = h.some; from = tt; content = h.content; rest = h.rest })
    moved z e (inr h) =
        inr (record { topic = h.topic; cluster = h.cluster; index = h.index; entry = h.entry; there = h.there; stands = h.stands; same = ap (with_origin z) h.same })
