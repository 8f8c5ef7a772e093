-- The state that a script's run leaves after a stop fits a file.
use Rattle.std.proofs.Common.{◌≡◌, ℕ, zero, suc, ◌+◌, ◌/◌, ◌%◌, ◌^◌, ◌<◌, List, [], ◌∷◌, ◌++◌, length, map, ap, subst, ◌∙◌, arith}
use Rattle.std.specs.Prelude.{Option, None, if◌then◌else◌, is_some, slice_index_or}
use Rattle.std.proofs.lemmas.List.{length-map}
use Rattle.geo_base.specs.declared.entry.Entry.{Entry}
use Rattle.geo_base.specs.declared.event.Step.{Step}
use Rattle.geo_base.specs.declared.event.Step.TheVariants as step
use Rattle.geo_base.specs.Broker.{Broker, no_broker}
use Rattle.geo_base.specs.Client.{Client, new_client}
use Rattle.geo_base.specs.Happening.{stops}
use Rattle.geo_base.specs.Laws.{IsShort, begun}
use Rattle.geo_base.specs.Run.{Ran, all_limits, ends_or, run_under, steps}
use Rattle.geo_base.specs.Scripted.{IsScripted}
use Rattle.geo_base.specs.Setup.{Declared, Setup, declared_at, nobody}
use Rattle.geo_base.specs.World.{World, broker_at, client_at, node, opening_world, topic_at}
use Rattle.durable_parts.specs.Durable.{durable_part}
use Rattle.script_text.proofs.AllBack.{declarations_back}
use Rattle.script_text.specs.Scenario.{IsScenario}
use Rattle.script_text.specs.Script.{Script}
use Rattle.state_nodes.specs.ClientFitting.{IsClientState}
use Rattle.state_file.specs.Fitting.{AreClients, AreDurable, IsState}
use Rattle.state_file.specs.State.{state_in}
use Rattle.state_nodes.specs.Fitting.{IsDurable}
use Rattle.world_laws.specs.Plain.{IsPlainEntry}
use Rattle.world_laws.specs.Starts.{IsStart, IsStartClient, resumed_world}
use Rattle.world_laws.proofs.Replicating.Effects.{Each}
use Rattle.world_laws.proofs.ComesOver.FittingRuns.{Fitting, fitting_kept}
use Rattle.world_laws.proofs.KeptRuns.KeptStarts.{place_of}
use Rattle.world_laws.proofs.Induction.Layers.{Both, Everywhere}
use Rattle.world_laws.proofs.FrameContents.NewEntries.{IsFit}
use Rattle.world_laws.proofs.KeptRuns.ResumedRuns.{run_parts}
use Rattle.world_laws.proofs.Induction.Runs.{IsKeptByEvents, between_by_events, by_events}
use Rattle.world_laws.proofs.KeptRuns.SavedRuns.{saved}
use Rattle.world_laws.proofs.Replicating.Sizes.{IsThere, Sized}
use Rattle.world_laws.proofs.KeptRuns.Starting.{start_at}
use Rattle.kept_laws.specs.Saved.{IsShortState}
use Rattle.kept_laws.proofs.ClientStates.{client_fits}
use Rattle.kept_laws.proofs.Clients.{AllClients}
use Rattle.kept_laws.proofs.Entries.{AreNames, IsWritten, written}
use Rattle.kept_laws.proofs.FewSubs.{HasFew, few_steady}
use Rattle.kept_laws.proofs.Got.{Below, Goes, GotFew, going_kept, got_few_kept}
use Rattle.kept_laws.proofs.Lists.{at_place, each_recursion}
use Rattle.kept_laws.proofs.Nodes.{IsKeptBroker, durable_fits}
use Rattle.kept_laws.proofs.OwnReplicator.{IsUnused, unused_steady}
use Rattle.kept_laws.proofs.Sayable.{IsSayable}
use Rattle.kept_laws.proofs.Steady.{steady_kept}

-- ---- the world after the stop

kept_at : (s : Setup) (P : World → Type 0) → IsKeptByEvents s P → (es : List Step) → P (stops s (run_under all_limits s es).world)
kept_at s P k es = k.stop (run_under all_limits s es).world ((between_by_events s P P k (λ w p. p)).limited all_limits es)

pub record Behind (s : Setup) (w : World) : Type 0 where
  pub start : IsStart s (resumed_world s w)
  pub going : Below s w × (IsShort w → AllClients s (Goes s) w)
  pub few : Everywhere s (λ x b. HasFew b) w
  pub unused : Everywhere s IsUnused w
  pub fitting : Fitting s w
  pub got : GotFew s w

stopped : (s : Setup) (r : Ran) → r.ended ≡ None → all_limits (stops s r.world) ≡ None → steps all_limits s r step.Stop ≡ record { world = stops s r.world; ended = None }
unfolding steps
stopped s r none limits =
    let w : World = stops s r.world in
    ap (λ (e : Option ℕ). if is_some e then r else ends_or r w (all_limits w)) none ∙ ap (λ (o : Option ℕ). ends_or r w o) limits

pub behind : (s : Setup) → IsScripted s → (es : List Step) → (run_under all_limits s es).ended ≡ None → all_limits (stops s (run_under all_limits s es).world) ≡ None
    → Behind s (stops s (run_under all_limits s es).world)
behind s scripted es none limits = record {
  start = subst (λ (q : Ran). IsStart s (resumed_world s q.world)) whole (saved s scripted es (ap (λ (q : Ran). q.ended) whole));
  going = kept_at s (λ w. Below s w × (IsShort w → AllClients s (Goes s) w)) (going_kept s scripted) es;
  few = (kept_at s (Both (Sized s) (Everywhere s F)) (by_events s (Both (Sized s) (Everywhere s F)) (steady_kept s F (few_steady s))) es).1;
  unused = (kept_at s (Both (Sized s) (Everywhere s IsUnused)) (by_events s (Both (Sized s) (Everywhere s IsUnused)) (steady_kept s IsUnused (unused_steady s))) es).1;
  fitting = kept_at s (Fitting s) (by_events s (Fitting s) (fitting_kept s scripted)) es;
  got = kept_at s (GotFew s) (got_few_kept s) es;
}
  where
    F : ℕ → Broker → Type 0
    F x b = HasFew b

    r : Ran
    r = run_under all_limits s es

    whole : run_under all_limits s (es ++ step.Stop ∷ []) ≡ record { world = stops s r.world; ended = None }
    whole = run_parts all_limits s (begun (opening_world s)) es (step.Stop ∷ []) ∙ stopped s r none limits

short_behind : (s : Setup) (w : World) → Behind s w → IsShort w
short_behind s w h = let e = h.start.counts.events in omega (arith, e)

-- ---- brokers

names_of : (s : Setup) → IsScripted s → AreNames s.clusters
names_of s scripted = record { all_ = scripted.cluster_names.0; apart = scripted.cluster_names.1; few = scripted.clusters.1 }

all_written : (names : List (List ℕ)) (own : ℕ) (es : List Entry) → AreNames names → Each (λ (e : Entry). IsPlainEntry names None e × (e.ident.origin < length names)) es → Each IsSayable es → Each (IsFit names) es
    → Each (IsWritten names own) es
all_written names own [] ns plain say fit = tt
all_written names own (e ∷ es) ns plain say fit = (written names own e ns plain.0.0 say.0 plain.0.1 fit.0, all_written names own es ns plain.1 say.1 fit.1)

broker_kept : (s : Setup) → IsScripted s → (w : World) → Behind s w → (t x : ℕ) → IsThere s t x → IsKeptBroker s.per_ledger s.clusters x (topic_at s w t x)
broker_kept s scripted w h t x there =
    let short = short_behind s w h in
    let base = h.going.0.0.base in
    record {
      start = start_at s (resumed_world s w) t x h.start there;
      tidy = base.tidy.1 t x there;
      ledgers = let l = (base.few.1 t x there).ledgers in omega (arith, l, short);
      few = h.few t x there;
      unused = h.unused t x there;
      indexes = h.start.indexes (node s t x);
      replicators = (base.wide.0.wide t x there).replicators;
      entries = all_written s.clusters x (topic_at s w t x).entries (names_of s scripted) (h.going.0.1.1.entries t x there) ((h.going.0.0.say short).brokers t x there).stored (h.fitting.1 short t x there);
    }

node_fits : (s : Setup) → IsScripted s → (w : World) → Behind s w → (z : ℕ) → z < length w.brokers → IsDurable s.per_ledger s.clusters (z % length s.clusters) (durable_part (broker_at w z))
node_fits s scripted w h z lt =
    let p = place_of s z (subst (λ (m : ℕ). z < m) h.start.places.brokers lt) in
    let small : s.per_ledger < 2 ^ 64 = let l = scripted.ledger.1 in omega (arith, l) in
    subst (λ (k : ℕ). IsDurable s.per_ledger s.clusters (z % length s.clusters) (durable_part (broker_at w k))) p.is
    (durable_fits s.per_ledger s.clusters (z % length s.clusters) (topic_at s w (z / length s.clusters) (z % length s.clusters)) small
    (broker_kept s scripted w h (z / length s.clusters) (z % length s.clusters) p.there))

nodes_fit : (s : Setup) (k : ℕ) (bs : List Broker) → ((z : ℕ) → z < length bs → IsDurable s.per_ledger s.clusters ((k + z) % length s.clusters) (durable_part (slice_index_or bs z no_broker)))
    → AreDurable s k (map durable_part bs)
nodes_fit s k [] f = tt
nodes_fit s k (b ∷ bs) f =
    let here : k + 0 ≡ k = omega arith in (
      subst (λ (m : ℕ). IsDurable s.per_ledger s.clusters (m % length s.clusters) (durable_part b)) here (f zero (omega arith)),
      nodes_fit s (k + 1) bs
          (λ z lt. let next : k + suc z ≡ k + 1 + z = omega arith in
          subst (λ (m : ℕ). IsDurable s.per_ledger s.clusters (m % length s.clusters) (durable_part (slice_index_or bs z no_broker))) next (f (suc z) (omega (arith, lt)))),
    )

-- ---- clients

clients_fit : (n : ℕ) (ds : List Declared) (ks : List Client) (d : ℕ → Client) → length ks ≡ length ds
    → ((c : ℕ) → c < length ds → IsClientState n (slice_index_or ds c nobody).lines (slice_index_or ks c (d c))) → AreClients n ds ks
clients_fit n [] [] d same f = tt
clients_fit n [] (k ∷ ks) d same f = absurd (omega (arith, same))
clients_fit n (e ∷ ds) [] d same f = absurd (omega (arith, same))
clients_fit n (e ∷ ds) (k ∷ ks) d same f = (f zero (omega arith), clients_fit n ds ks (λ c. d (suc c)) (omega (arith, same)) (λ c lt. f (suc c) (omega (arith, lt))))

one_client : (s : Script) → IsScenario s → (w : World) → Behind s.setup w → (c : ℕ) → c < length s.setup.clients → IsClientState (length s.setup.clusters) (declared_at s.setup c).lines (client_at s.setup w c)
one_client s scenario w h c lt =
    let short = short_behind s.setup w h in
    let clusters : length s.setup.clusters < 2 ^ 32 = let l = scenario.setup.clusters.1 in omega (arith, l) in
    let lines : length (declared_at s.setup c).lines < 2 ^ 63 = let l = (scenario.clients c nobody lt).few in omega (arith, l) in
    let there : c < length w.clients = let l = h.start.places.clients in omega (arith, l, lt) in
    let got : length (client_at s.setup w c).got < 2 ^ 64 = let g = h.got c in omega (arith, g, short) in
    client_fits s.setup c (client_at s.setup w c) clusters lines
    (at_place IsStartClient w.clients c (new_client (declared_at s.setup c)) (each_recursion IsStartClient w.clients h.start.clients) there) (h.going.1 short c lt) got

-- ---- the state

pub state_fits : (s : Script) → IsScenario s → (w : World) → Behind s.setup w → IsShortState (state_in s w) → IsState (state_in s w)
state_fits s scenario w h short = record {
  declared = declarations_back s scenario;
  short = short;
  counts = let e = h.start.counts.events in record {
    events = omega (arith, e);
    idle = omega (arith, e);
    run = h.start.counts.events;
    rounds = h.start.counts.rounds;
    sent = h.start.counts.sent;
  };
  all_nodes = length-map w.brokers durable_part ∙ h.start.places.brokers;
  brokers = nodes_fit s.setup 0 w.brokers (λ z lt. let same : z ≡ 0 + z = omega arith in
      subst (λ (k : ℕ). IsDurable s.setup.per_ledger s.setup.clusters (k % length s.setup.clusters) (durable_part (broker_at w z))) same (node_fits s.setup scenario.setup w h z lt));
  clients = clients_fit (length s.setup.clusters) s.setup.clients w.clients (λ c. new_client (declared_at s.setup c)) h.start.places.clients (one_client s scenario w h);
}
