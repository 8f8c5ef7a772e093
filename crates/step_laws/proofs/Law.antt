-- The law: a reader of steps has the report, and what is kept gives each line of it.
use Rattle.std.proofs.Common.{◌≡◌, ℕ, zero, suc, ◌+◌, ◌<◌, ◌≤◌, Bool, true, false, List, [], ◌∷◌, ◌++◌, length, map, refl, sym, ap, subst, ◌∙◌, ◌==◌, arith, sum}
use Rattle.std.specs.Prelude.{Some, if◌then◌else◌, codes, slice_get, slice_index_or}
use Rattle.std.specs.Str.{bytes_eq}
use Rattle.std.proofs.lemmas.Option.{none-some, same_Some, slice_get-get_or, get_or_from_slice_get}
use Rattle.geo_base.specs.Broker.{Broker, no_broker, replicator_at}
use Rattle.geo_base.specs.Client.{Client}
use Rattle.geo_base.specs.Report.{broker_lines, client_line, client_lines, cluster_lines, got_line, replicator_line, replicator_lines, sub_line, topic_lines, words}
use Rattle.geo_base.specs.Run.{run_from}
use Rattle.geo_base.specs.Scripted.{AreDistinct}
use Rattle.geo_base.specs.Replicator.{Replicator, new_replicator}
use Rattle.geo_base.specs.Setup.{Declared, Setup, declared_at, nobody}
use Rattle.geo_base.specs.Subscription.{Subscription}
use Rattle.geo_base.specs.World.{World, broker_at, client_at, node, topic_at}
use Rattle.world_laws.proofs.Budget.Tails.{sum_cons}
use Rattle.world_laws.proofs.Dispatching.SubFrames.{NamesApart}
use Rattle.world_laws.proofs.Replicating.Effects.{Each}
use Rattle.world_laws.proofs.Replicating.Sizes.{node_lt}
use Rattle.world_laws.proofs.TopicOrder.Ledgers.{total}
use Rattle.step_laws.specs.StepsFold.{IsBeginning, KeptBroker, KeptSub, LawStepsFold, broker_lines_kept, client_lines_kept, cluster_lines_kept, kept_broker, kept_clients, kept_of, kept_replicators, kept_sub, lines_but, topic_lines_kept}
use Rattle.step_laws.proofs.Events.{Begun, each_at, number_of}
use Rattle.step_laws.proofs.Kept.{broker_place}
use Rattle.step_laws.proofs.Nodes.{Sound}
use Rattle.step_laws.proofs.Runs.{run_begun, run_reads}

-- ---- where a run may begin

total_is : (ls : List ℕ) → total ls ≡ sum ls
total_is [] = refl
total_is (l ∷ ls) = ap (λ (n : ℕ). l + n) (total_is ls) ∙ sym (sum_cons l ls)

abbrev names : List Subscription → List (List ℕ)
names vs = map (λ (v : Subscription). v.name) vs

each_differs : (n : List ℕ) (vs : List Subscription) → ((j : ℕ) (m : List ℕ) → slice_get (names vs) j ≡ Some m → bytes_eq n m ≡ false) → Each (λ (u : Subscription). bytes_eq n u.name ≡ false) vs
each_differs n [] h = tt
each_differs n (v ∷ vs) h = (h 0 v.name refl, each_differs n vs (λ j m at. h (suc j) m at))

apart_of : (vs : List Subscription) → AreDistinct (names vs) → NamesApart vs
apart_of [] h = tt
apart_of (v ∷ vs) h = (
  each_differs v.name vs (λ j m at. h 0 (suc j) v.name m (omega arith) refl at),
  apart_of vs (λ i j m n lt at_i at_j. h (suc i) (suc j) m n (omega (arith, lt)) at_i at_j),
)

differs_at : (n : List ℕ) (vs : List Subscription) (j : ℕ) (m : List ℕ) → Each (λ (u : Subscription). bytes_eq n u.name ≡ false) vs → slice_get (names vs) j ≡ Some m → bytes_eq n m ≡ false
differs_at n [] j m h at = absurd (none-some m at)
differs_at n (v ∷ vs) zero m h at = subst (λ (x : List ℕ). bytes_eq n x ≡ false) (same_Some v.name m at) h.0
differs_at n (v ∷ vs) (suc j) m h at = differs_at n vs j m h.1 at

distinct_of : (vs : List Subscription) → NamesApart vs → AreDistinct (names vs)
distinct_of [] h i j m n lt at_i at_j = absurd (none-some m at_i)
distinct_of (v ∷ vs) h zero zero m n lt at_i at_j = absurd (omega (arith, lt))
distinct_of (v ∷ vs) h zero (suc j) m n lt at_i at_j = subst (λ (x : List ℕ). bytes_eq x n ≡ false) (same_Some v.name m at_i) (differs_at v.name vs j n h.0 at_j)
distinct_of (v ∷ vs) h (suc i) zero m n lt at_i at_j = absurd (omega (arith, lt))
distinct_of (v ∷ vs) h (suc i) (suc j) m n lt at_i at_j = distinct_of vs h.1 i j m n (omega (arith, lt)) at_i at_j

each_of : {X : Type 0} (P : X → Type 0) (d : X) (xs : List X) → ((i : ℕ) → i < length xs → P (slice_index_or xs i d)) → Each P xs
each_of P d [] h = tt
each_of P d (x ∷ xs) h = (h 0 (omega arith), each_of P d xs (λ i lt. h (suc i) (omega (arith, lt))))

begins : (s : Setup) (w : World) → IsBeginning s w → Begun s w
begins s w h = record {
  brokers = h.brokers;
  clients = h.clients;
  each = each_of (Sound (length s.clusters)) no_broker w.brokers (λ i lt. record {
    numbered = record { some = h.some i lt; whole = total_is (broker_at w i).ledgers ∙ h.ledgers i lt };
    apart = apart_of (broker_at w i).subs (h.subs i lt);
    replicators = h.replicators i lt;
  });
}

begun_is : (s : Setup) (w : World) → Begun s w → IsBeginning s w
begun_is s w h = record {
  brokers = h.brokers;
  clients = h.clients;
  replicators = λ i lt. (sound i lt).replicators;
  some = λ i lt. (sound i lt).numbered.some;
  ledgers = λ i lt. sym (total_is (broker_at w i).ledgers) ∙ (sound i lt).numbered.whole;
  subs = λ i lt. distinct_of (broker_at w i).subs (sound i lt).apart;
}
  where
    sound : (i : ℕ) → i < length w.brokers → Sound (length s.clusters) (broker_at w i)
    sound i lt = each_at (Sound (length s.clusters)) w.brokers i no_broker h.each lt

-- ---- the lines of a report

replicators_lines : (own y : ℕ) (ns : List (List ℕ)) (b : Broker) (ss : List Replicator) → length ss ≡ length ns → ((i : ℕ) → i < length ss → slice_index_or ss i new_replicator ≡ replicator_at b (y + i))
    → lines_but own y (kept_replicators own y ns b) ≡ replicator_lines own y ns ss
replicators_lines own y [] b ss size at = refl
replicators_lines own y (n ∷ ns) b [] size at = absurd (omega (arith, size))
replicators_lines own y (n ∷ ns) b (q ∷ ss) size at =
    by (own == y) (replicators_lines own (y + 1) ns b ss (omega (arith, size)) (λ i lt. let more : y + suc i ≡ y + 1 + i = omega arith in at (suc i) (omega (arith, lt)) ∙ ap (replicator_at b) more))
  where
    here : replicator_at b y ≡ q
    here = let none : y ≡ y + 0 = omega arith in ap (replicator_at b) none ∙ sym (at 0 (omega arith))

    by : (t : Bool) → lines_but own (y + 1) (kept_replicators own (y + 1) ns b) ≡ replicator_lines own (y + 1) ns ss
        → (if t then lines_but own (y + 1) (kept_replicators own (y + 1) ns b) else (if t then [] else replicator_line n (replicator_at b y)) ∷ lines_but own (y + 1) (kept_replicators own (y + 1) ns b))
        ≡ (if t then replicator_lines own (y + 1) ns ss else replicator_line n q ∷ replicator_lines own (y + 1) ns ss)
    by true ih = ih
    by false ih = ap (λ (c : Replicator). replicator_line n c ∷ lines_but own (y + 1) (kept_replicators own (y + 1) ns b)) here ∙ ap (λ (ls : List (List ℕ)). replicator_line n q ∷ ls) ih

subs_lines : (b : Broker) (vs : List Subscription) → map (λ (v : KeptSub). v.line) (map (kept_sub b) vs) ≡ map (sub_line b) vs
subs_lines b [] = refl
subs_lines b (v ∷ vs) = ap (λ (ls : List (List ℕ)). sub_line b v ∷ ls) (subs_lines b vs)

one_broker : (s : Setup) (x : ℕ) (b : Broker) → length b.replicators ≡ length s.clusters → broker_lines_kept x (kept_broker s x b) ≡ broker_lines s.clusters x b
one_broker s x b size =
    let entries = (kept_broker s x b).entries in
    ap (λ (ls : List (List ℕ)). entries ++ (ls ++ map (λ (v : KeptSub). v.line) (map (kept_sub b) b.subs)))
    (replicators_lines x 0 s.clusters b b.replicators size (λ i lt. let none : i ≡ 0 + i = omega arith in ap (replicator_at b) none))
    ∙ ap (λ (ls : List (List ℕ)). entries ++ (replicator_lines x 0 s.clusters b.replicators ++ ls)) (subs_lines b b.subs)

cluster_whole : (s : Setup) (w : World) (t x : ℕ) (topic : List ℕ) (ns : List (List ℕ)) → Begun s w → t < length s.topics → x + length ns ≤ length s.clusters
    → cluster_lines_kept s (kept_of s w) t topic x ns ≡ cluster_lines s w t topic x ns
cluster_whole s w t x topic [] h there within = refl
cluster_whole s w t x topic (n ∷ ns) h there within =
    let lt : x < length s.clusters = omega (arith, within) in
    let at : node s t x < length w.brokers = subst (λ (m : ℕ). node s t x < m) (sym h.brokers) (node_lt s t x (there, lt)) in
    let b = topic_at s w t x in let line = words (codes "topic" ∷ topic ∷ codes "at" ∷ n ∷ []) in
    ap (λ (k : KeptBroker). line ∷ broker_lines_kept x k ++ cluster_lines_kept s (kept_of s w) t topic (x + 1) ns)
    (broker_place s 0 (node s t x) w.brokers at ∙ ap (λ (m : ℕ). kept_broker s m b) (number_of s t x lt))
    ∙ ap (λ (ls : List (List ℕ)). line ∷ ls ++ cluster_lines_kept s (kept_of s w) t topic (x + 1) ns)
    (one_broker s x b (each_at (Sound (length s.clusters)) w.brokers (node s t x) no_broker h.each at).replicators)
    ∙ ap (λ (ls : List (List ℕ)). line ∷ broker_lines s.clusters x b ++ ls) (cluster_whole s w t (x + 1) topic ns h there (omega (arith, within)))

clients_whole : (s : Setup) (w : World) (t c : ℕ) (ds : List Declared) (ks : List Client) → length ks ≡ length ds
    → ((i : ℕ) → i < length ds → slice_index_or ds i nobody ≡ declared_at s (c + i)) → ((i : ℕ) → i < length ks → (d : Client) → slice_index_or ks i d ≡ client_at s w (c + i))
    → client_lines_kept t ds (kept_clients s c ks) ≡ client_lines s w t c ds
clients_whole s w t c [] ks size at_d at_k = refl
clients_whole s w t c (d ∷ ds) [] size at_d at_k = absurd (omega (arith, size))
clients_whole s w t c (d ∷ ds) (k ∷ ks) size at_d at_k =
    let none : c + 0 ≡ c = omega arith in
    let named : d ≡ declared_at s c = at_d 0 (omega arith) ∙ ap (declared_at s) none in
    let here : k ≡ client_at s w c = at_k 0 (omega arith) k ∙ ap (client_at s w) none in
    ap (λ (e : Declared). (if d.topic == t then client_line s e k ∷ map (got_line s.clusters) k.got else []) ++ client_lines_kept t ds (kept_clients s (c + 1) ks)) (sym named)
    ∙ ap (λ (m : Client). (if d.topic == t then client_line s d m ∷ map (got_line s.clusters) m.got else []) ++ client_lines_kept t ds (kept_clients s (c + 1) ks)) here
    ∙ ap (λ (ls : List (List ℕ)). (if d.topic == t then client_line s d (client_at s w c) ∷ map (got_line s.clusters) (client_at s w c).got else []) ++ ls)
    (clients_whole s w t (c + 1) ds ks (omega (arith, size)) (λ i lt. let more : c + suc i ≡ c + 1 + i = omega arith in at_d (suc i) (omega (arith, lt)) ∙ ap (declared_at s) more)
    (λ i lt e. let more : c + suc i ≡ c + 1 + i = omega arith in at_k (suc i) (omega (arith, lt)) e ∙ ap (client_at s w) more))

topics_whole : (s : Setup) (w : World) (t : ℕ) (ns : List (List ℕ)) → Begun s w → t + length ns ≡ length s.topics → topic_lines_kept s (kept_of s w) t ns ≡ topic_lines s w t ns
topics_whole s w t [] h all = refl
topics_whole s w t (n ∷ ns) h all =
    let clusters = cluster_lines s w t n 0 s.clusters in
    let clients = client_lines_kept t s.clients (kept_clients s 0 w.clients) in
    ap (λ (ls : List (List ℕ)). ls ++ (clients ++ topic_lines_kept s (kept_of s w) (t + 1) ns)) (cluster_whole s w t 0 n s.clusters h (omega (arith, all)) (omega arith))
    ∙ ap (λ (ls : List (List ℕ)). clusters ++ (ls ++ topic_lines_kept s (kept_of s w) (t + 1) ns))
    (clients_whole s w t 0 s.clients w.clients h.clients (λ i lt. let none : i ≡ 0 + i = omega arith in ap (declared_at s) none) (λ i lt d. placed i lt d))
    ∙ ap (λ (ls : List (List ℕ)). clusters ++ (client_lines s w t 0 s.clients ++ ls)) (topics_whole s w (t + 1) ns h (omega (arith, all)))
  where
    placed : (i : ℕ) → i < length w.clients → (d : Client) → slice_index_or w.clients i d ≡ client_at s w (0 + i)
    placed i lt d =
        let none : i ≡ 0 + i = omega arith in
        get_or_from_slice_get w.clients i (client_at s w i) d (slice_get-get_or w.clients i _ lt) ∙ ap (client_at s w) none

pub fold_law : LawStepsFold
fold_law = record {
  kept = λ l s r es h. run_reads l s r es (begins s r.world h);
  whole = λ s w h. topics_whole s w 0 s.topics (begins s w h) (omega arith);
  still = λ l s r es h. begun_is s (run_from l s r es).world (run_begun l s r es (begins s r.world h));
}
