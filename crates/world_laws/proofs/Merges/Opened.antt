-- The opening world, node by node: each is in its opening state with clock 0, and every link is there and empty.
use Rattle.std.proofs.Common.{◌≡◌, ℕ, zero, suc, ◌-◌, ◌<◌, Bool, true, false, List, [], ◌∷◌, length, map, refl, sym, ap, subst, ◌∙◌, arith, nat_lt, replicate}
use Rattle.std.specs.Prelude.{if◌then◌else◌, slice_index, slice_index_or}
use Rattle.std.proofs.lemmas.Bool.{ltb-true}
use Rattle.std.proofs.lemmas.List.{get_or-replicate, length-map, length-replicate}
use Rattle.geo_base.specs.Agreement.{AreAlike, AreHistories}
use Rattle.geo_base.specs.Broker.{new_broker, no_broker}
use Rattle.geo_base.specs.Client.{new_client}
use Rattle.geo_base.specs.History.{RecordedEvent, Replays, sent_in, taken_in}
use Rattle.geo_base.specs.Link.{Link, no_link}
use Rattle.geo_base.specs.Merge.{IsMerge, Merged, history_of, of_node}
use Rattle.geo_base.specs.NodeState.{BrokerState, ClientState, NodeState, clock_at, opening_state, state_at}
use Rattle.geo_base.specs.Nodes.{broker_count, has_link, sender_of, taker_of}
use Rattle.geo_base.specs.Planned.{has_client}
use Rattle.geo_base.specs.Scripted.{IsScripted}
use Rattle.geo_base.specs.Setup.{Declared, Setup, declared_at, nobody}
use Rattle.geo_base.specs.World.{Back, Forward, LinkName, ToBroker, ToClient, cell, link_at, opening_world, table}
use Rattle.world_laws.proofs.Types.{Packet}
use Rattle.world_laws.proofs.Merges.Crossings.{Crossing}
use Rattle.world_laws.proofs.Induction.Frames.{at_copies}
use Rattle.world_laws.proofs.Replicating.LinkFrames.{HasCell}
use Rattle.world_laws.proofs.Merges.LinkTables.{HasLink}
use Rattle.world_laws.proofs.Merges.Merging.{Stands, still_sent, still_taken}
use Rattle.world_laws.proofs.Merges.NodeEvents.{Fits}
use Rattle.world_laws.proofs.Merges.Roles.{Role, opening_role}
use Rattle.world_laws.proofs.Walks.Walk.{left, right}

pub table_has : (rows columns i j : ℕ) → i < rows → j < columns → HasCell (table rows columns) i j
table_has rows columns i j lt lt' = record {
  row = let e = length-replicate rows (replicate columns no_link) in omega (arith, e, lt);
  column =
      let row = get_or-replicate rows i (replicate columns no_link) [] lt in
      let e = ap (λ (ls : List Link). length ls) row ∙ length-replicate columns no_link in
      omega (arith, e, lt');
}

opening_has : (s : Setup) (k : LinkName) → has_link s k ≡ true → HasLink (opening_world s).links k
opening_has s (Forward n y) h = table_has (broker_count s) (length s.clusters) n y (ltb-true _ _ (left _ _ h)) (ltb-true _ _ (right _ _ h))
opening_has s (Back n y) h = table_has (broker_count s) (length s.clusters) n y (ltb-true _ _ (left _ _ h)) (ltb-true _ _ (right _ _ h))
opening_has s (ToBroker c x) h =
    table_has (length s.clients) (length s.clusters) c x (ltb-true _ _ (left (has_client s c) _ h))
    (ltb-true _ _ (right (nat_lt (declared_at s c).topic (length s.topics)) _ (right (has_client s c) _ h)))
opening_has s (ToClient c x) h =
    table_has (length s.clients) (length s.clusters) c x (ltb-true _ _ (left (has_client s c) _ h))
    (ltb-true _ _ (right (nat_lt (declared_at s c).topic (length s.topics)) _ (right (has_client s c) _ h)))

opening_fits : (s : Setup) → Fits s (opening_world s)
opening_fits s = record {
  brokers = length-replicate (broker_count s) (new_broker (length s.clusters) (length s.clients));
  clients = length-map s.clients new_client;
  broker_clocks = length-replicate (broker_count s) 0;
  client_clocks = length-replicate (length s.clients) 0;
  links = opening_has s;
}

empty_cell : (rows columns i j : ℕ) → cell (table rows columns) i j ≡ no_link
empty_cell rows columns i j =
    at_copies (λ (r : List Link). slice_index_or r j no_link ≡ no_link) rows i (replicate columns no_link) []
    (at_copies (λ (l : Link). l ≡ no_link) columns j no_link no_link refl refl) refl

pub opening_link : (s : Setup) (k : LinkName) → link_at (opening_world s).links k ≡ no_link
opening_link s (Forward n y) = empty_cell (broker_count s) (length s.clusters) n y
opening_link s (Back n y) = empty_cell (broker_count s) (length s.clusters) n y
opening_link s (ToBroker c x) = empty_cell (length s.clients) (length s.clusters) c x
opening_link s (ToClient c x) = empty_cell (length s.clients) (length s.clusters) c x

pub opening_client : (ds : List Declared) (c : ℕ) → slice_index_or (map new_client ds) c (new_client (slice_index_or ds c nobody)) ≡ new_client (slice_index_or ds c nobody)
opening_client [] c = refl
opening_client (d ∷ ds) zero = refl
opening_client (d ∷ ds) (suc c) = opening_client ds c

pub opening_state_is : (s : Setup) (n : ℕ) → state_at s (opening_world s) n ≡ opening_state s n
opening_state_is s n = by (nat_lt n (broker_count s)) refl
  where
    by : (b : Bool) → nat_lt n (broker_count s) ≡ b
        → (if b then BrokerState (slice_index_or (opening_world s).brokers n no_broker)
        else ClientState (slice_index_or (opening_world s).clients (n - broker_count s) (new_client (declared_at s (n - broker_count s)))))
        ≡ (if b then BrokerState (new_broker (length s.clusters) (length s.clients)) else ClientState (new_client (declared_at s (n - broker_count s))))
    by true e = ap (λ b. BrokerState b) (get_or-replicate (broker_count s) n (new_broker (length s.clusters) (length s.clients)) no_broker (ltb-true n (broker_count s) e))
    by false e = ap (λ k. ClientState k) (opening_client s.clients (n - broker_count s))

pub opening_clock_is : (s : Setup) (n : ℕ) → clock_at s (opening_world s) n ≡ 0
opening_clock_is s n = by (nat_lt n (broker_count s))
  where
    none : (rows i : ℕ) → slice_index (replicate rows 0) i ≡ 0
    none rows i = at_copies (λ (m : ℕ). m ≡ 0) rows i 0 0 refl refl

    by : (b : Bool) → (if b then slice_index (opening_world s).broker_clocks n else slice_index (opening_world s).client_clocks (n - broker_count s)) ≡ 0
    by true = none (broker_count s) n
    by false = none (length s.clients) (n - broker_count s)

-- histories that each replay and agree on every link can be done from the opening world on
pub opening_stands : (s : Setup) (hs : List (List RecordedEvent)) (ms : List Merged) → IsScripted s → AreHistories s hs → IsMerge hs ms → Stands s (opening_world s) ms
opening_stands s hs ms scripted are merge = record {
  fits = opening_fits s;
  replay = λ n.
      let P : NodeState → ℕ → List RecordedEvent → Type 0 = λ st c ds. Replays s n st c ds in
      subst (λ (st : NodeState). P st (clock_at s (opening_world s) n) (of_node n ms)) (sym (opening_state_is s n))
      (subst (λ (c : ℕ). P (opening_state s n) c (of_node n ms)) (sym (opening_clock_is s n))
      (subst (P (opening_state s n) 0) (sym (merge.each n)) (are.replay n)));
  agree = λ k has.
      let taken_is : still_taken s (opening_world s) ms k ≡ taken_in s k (opening_state s (taker_of s k)) (history_of hs (taker_of s k)) =
      ap (λ (st : NodeState). taken_in s k st (of_node (taker_of s k) ms)) (opening_state_is s (taker_of s k))
      ∙ ap (taken_in s k (opening_state s (taker_of s k))) (merge.each (taker_of s k)) in
      let sent_is : still_sent s ms k ≡ sent_in s k (history_of hs (sender_of s k)) = ap (sent_in s k) (merge.each (sender_of s k)) in
      let begins = are.agree k has in
      record {
        packets = begins.front;
        alike = subst (λ (ps : List Packet). AreAlike s ps begins.front) (sym taken_is) begins.alike;
        crossing =
            subst (λ (l : Link). Crossing l begins.front (still_sent s ms k)) (sym (opening_link s k))
            (record { gone = []; waiting = []; rest = begins.rest; sent = refl; taken = refl; begins = sent_is ∙ begins.whole });
      };
  roles = λ n lt. subst (Role s n) (sym (opening_state_is s n)) (opening_role s n scripted lt);
}
