-- In every run of a script the number of a cluster's next own marker is at most the number of entries there.
use Rattle.std.proofs.Common.{◌≡◌, ℕ, ◌+◌, ◌*◌, ◌≤◌, true, List, [], ◌∷◌, length, map, refl, sym, ap, subst, ◌∙◌, arith}
use Rattle.std.specs.Prelude.{Option, Some, None, nat_lt, slice_get, slice_index_or, is_some, ◌==◌, ◌&&◌}
use Rattle.std.specs.List.{list_all}
use Rattle.std.proofs.lemmas.Bool.{ltb-true}
use Rattle.std.proofs.lemmas.List.{get_or-replicate}
use Rattle.world_laws.proofs.Types.{Event, Held, Ident, Line, Out, Packet, Peer, Position}
use Rattle.world_laws.proofs.Types.event
use Rattle.world_laws.proofs.Types.line
use Rattle.world_laws.proofs.Types.peer
use Rattle.geo_base.specs.Broker.{Broker, new_broker, no_broker}
use Rattle.geo_base.specs.Client.{Acted, Client, command, command_at, commands_at, connected_to, connects, reconnect}
use Rattle.geo_base.specs.Getting.{get}
use Rattle.geo_base.specs.Going.{acks_all, acks_one, acks_to, first_held, go, go_line, most_unanswered, past}
use Rattle.geo_base.specs.Happening.{broker_does, broker_halts, client_does, does_planned, halts_planned, happens, stops}
use Rattle.geo_base.specs.Laws.{IsShort}
use Rattle.geo_base.specs.Link.{Link, discarded, no_link, sent_on, took}
use Rattle.geo_base.specs.Name.{is_name}
use Rattle.geo_base.specs.Plan.{done, halted}
use Rattle.geo_base.specs.Planned.{Planned, has_client, planned}
use Rattle.geo_base.specs.Scripted.{IsScripted, is_declared, is_line, stays_or_is_silent}
use Rattle.geo_base.specs.Seeking.{restart}
use Rattle.geo_base.specs.Setup.{Declared, Setup, declared_at, nobody}
use Rattle.geo_base.specs.World.{Back, Forward, LinkName, Links, ToBroker, ToClient, World, cell, client_at, delivered, from_broker, from_client, link_at, node, opening_world, stamped, taken_from, topic_at, with_link}
use Rattle.geo_base.specs.Topic.{next_marker}
use Rattle.world_laws.specs.Starts.{most_at_start}
use Rattle.world_laws.specs.Within.{LawMarkers, MarkersRise}
use Rattle.world_laws.proofs.OnceInOrder.Appends.{done_entries, halted_entries}
use Rattle.world_laws.proofs.Counters.Bounds.{table_has}
use Rattle.world_laws.proofs.Merges.ClientRoams.{all_index}
use Rattle.world_laws.proofs.Counters.Counts.{shape_few}
use Rattle.world_laws.proofs.Replicating.Effects.{Each, each_both}
use Rattle.world_laws.proofs.Walks.EventWalk.{HasShape, planned_shape}
use Rattle.world_laws.proofs.Induction.Frames.{at_map, cell_set}
use Rattle.world_laws.proofs.Induction.Layers.{Both, Everywhere, both_kept, kept_with, one_node}
use Rattle.world_laws.proofs.TopicOrder.NoSelf.{NoSelf, no_self_kept}
use Rattle.world_laws.proofs.Counters.OwnNumbers.{NamedFrame, marks_few, marks_halt, shape_marks}
use Rattle.world_laws.proofs.Replicating.PairRoles.{shape_within}
use Rattle.world_laws.proofs.Induction.Runs.{IsKept, IsKeptByEvents, IsKeptOn, between_by_events, event_done, plan_halted}
use Rattle.world_laws.proofs.Walks.Shapes.{Shape}
use Rattle.world_laws.proofs.Replicating.Sizes.{IsThere, Sized, node_lt, node_there, sized_kept, stopped_at}
use Rattle.world_laws.proofs.Walks.Walk.{on_if, on_test}
use Rattle.geo_base.proofs.Bools.{and_first_of_five}

-- WHAT CLIENTS SEND

abbrev NamedOut : Out → Type 0
NamedOut o = NamedFrame o.frame

named_command : (s : Setup) (d : Declared) (k : Client) (i : ℕ) (o : Option Line) → is_name d.name ≡ true → Each NamedOut (command s d k i o)
named_command s d k i (Some line.Produce) named = (tt, tt)
named_command s d k i (Some (line.Sub n kind earliest replicated)) named = (tt, tt)
named_command s d k i (Some (line.Flow permits)) named = (tt, tt)
named_command s d k i (Some (line.Pub seq to key text)) named = (named, tt)
named_command s d k i (Some l) named = tt
named_command s d k i None named = tt

named_at : (s : Setup) (d : Declared) (k : Client) (i : Option ℕ) → is_name d.name ≡ true → Each NamedOut (command_at s d k i)
named_at s d k None named = tt
named_at s d k (Some i) named = named_command s d k i (slice_get d.lines i) named

named_commands : (s : Setup) (d : Declared) (k : Client) (is : List ℕ) → is_name d.name ≡ true → Each NamedOut (commands_at s d k is)
named_commands s d k [] named = tt
named_commands s d k (i ∷ is) named = each_both NamedOut (command_at s d k (Some i)) (commands_at s d k is) (named_at s d k (Some i) named) (named_commands s d k is named)

named_connects : (s : Setup) (d : Declared) (k : Client) → is_name d.name ≡ true → Each NamedOut (connects s d k).sent
named_connects s d k named = (
  tt,
  each_both NamedOut (command_at s d k k.produce) _ (named_at s d k k.produce named)
      (each_both NamedOut (command_at s d k k.sub) _ (named_at s d k k.sub named)
      (each_both NamedOut (command_at s d k k.flow) (commands_at s d k k.unanswered) (named_at s d k k.flow named) (named_commands s d k k.unanswered named))),
)

abbrev ActsNamed : Acted → Type 0
ActsNamed a = Each NamedOut a.sent

one_named : (k : Client) (i : Ident) (o : Option Position) → ActsNamed (acks_one k i o)
one_named k i None = tt
one_named k i (Some p) = (tt, tt)

to_named : (k : Client) (o : Option Position) → ActsNamed (acks_to k o)
to_named k None = tt
to_named k (Some p) = (tt, tt)

all_named : (k : Client) (hs : List Held) → ActsNamed (acks_all k hs)
all_named k [] = tt
all_named k (h ∷ hs) = (tt, tt)

line_named : (s : Setup) (d : Declared) (k : Client) (o : Option Line) → is_name d.name ≡ true → ActsNamed (go_line s d k o)
line_named s d k None named = tt
line_named s d k (Some line.Produce) named = (tt, tt)
line_named s d k (Some (line.Pub seq to key text)) named = on_if ActsNamed (is_some k.produce && nat_lt (length k.unanswered) most_unanswered) _ _ (named, tt) tt
line_named s d k (Some (line.Sub n kind earliest replicated)) named = (tt, tt)
line_named s d k (Some (line.Flow permits)) named = on_if ActsNamed (is_some k.sub) _ _ (tt, tt) tt
line_named s d k (Some (line.Ack i)) named = one_named k i (first_held k.held i)
line_named s d k (Some (line.AckTo i)) named = to_named k (first_held k.held i)
line_named s d k (Some line.AckAll) named = all_named k k.held
line_named s d k (Some line.Unsub) named = on_if ActsNamed (is_some k.sub) _ _ (tt, tt) tt
line_named s d k (Some line.Close) named = on_if ActsNamed (is_some k.sub) _ _ (tt, tt) tt
line_named s d k (Some line.CloseProducer) named = on_if ActsNamed (is_some k.produce && (length k.unanswered == 0)) _ _ (tt, tt) tt
line_named s d k (Some line.Ping) named = (tt, tt)
line_named s d k (Some (line.Move x)) named = named_connects s d (connected_to x (past k)) named

goes_named : (s : Setup) (d : Declared) (k : Client) → is_name d.name ≡ true → ActsNamed (go s d k)
unfolding go
goes_named s d k named = on_if ActsNamed k.connected _ _ (line_named s d k (slice_get d.lines k.done) named) tt

reconnects_named : (s : Setup) (d : Declared) (k : Client) → is_name d.name ≡ true → ActsNamed (reconnect s d k)
unfolding reconnect
reconnects_named s d k named = named_connects s d (connected_to k.cluster k) named

gets_named : (d : Declared) (k : Client) (o : Option Packet) → ActsNamed (get d k o)
unfolding get
gets_named d k None = tt
gets_named d k (Some p) = tt

client_name : (s : Setup) → IsScripted s → (c : ℕ) → has_client s c ≡ true → is_name (declared_at s c).name ≡ true
client_name s scripted c has =
    let d = declared_at s c in
    and_first_of_five (is_name d.name) (nat_lt d.topic (length s.topics)) (nat_lt d.cluster (length s.clusters)) (list_all (is_line s) d.lines) (stays_or_is_silent d.lines)
    (all_index (is_declared s) s.clients c nobody scripted.clients.0 (ltb-true c (length s.clients) has))

-- LINKS

abbrev pub AllNamed : Link → Type 0
AllNamed l = Each (λ (p : Packet). NamedFrame p.frame) l.sent

abbrev pub NamedLinks : Links → Type 0
NamedLinks ls = (c x : ℕ) → AllNamed (cell ls.to_broker c x)

broker_one : (s : Setup) (t x : ℕ) (to : Peer) (l : Link) (ls : Links) → (with_link ls (from_broker s t x to) l).to_broker ≡ ls.to_broker
broker_one s t x (peer.Forward y) l ls = refl
broker_one s t x (peer.Back y) l ls = refl
broker_one s t x (peer.Client c) l ls = refl
broker_one s t x (peer.Broker y) l ls = refl

broker_sends : (s : Setup) (t x stamp : ℕ) (os : List Out) (ls : Links) → (delivered (from_broker s t x) stamp os ls).to_broker ≡ ls.to_broker
broker_sends s t x stamp [] ls = refl
broker_sends s t x stamp (o ∷ os) ls =
    broker_sends s t x stamp os _ ∙ broker_one s t x o.to (sent_on (link_at ls (from_broker s t x o.to)) (stamped stamp o)) ls

named_taken : (k : Option LinkName) (ls : Links) → NamedLinks ls → NamedLinks (taken_from k ls)
named_taken None ls h = h
named_taken (Some (Forward a b)) ls h = h
named_taken (Some (Back a b)) ls h = h
named_taken (Some (ToBroker a b)) ls h = λ c x. cell_set AllNamed ls.to_broker a b (took (cell ls.to_broker a b)) c x (λ _ _. h a b) (h c x)
named_taken (Some (ToClient a b)) ls h = h

push_named : (stamp : ℕ) (o : Out) (l : Link) → NamedOut o → AllNamed l → AllNamed (sent_on l (stamped stamp o))
push_named stamp o l named h = each_both (λ (p : Packet). NamedFrame p.frame) l.sent (stamped stamp o ∷ []) h (named, tt)

client_one : (c stamp : ℕ) (o : Out) (to : Peer) (ls : Links) → NamedOut o → NamedLinks ls
    → NamedLinks (with_link ls (from_client c to) (sent_on (link_at ls (from_client c to)) (stamped stamp o)))
client_one c stamp o (peer.Broker y) ls named h = λ i j. cell_set AllNamed ls.to_broker c y _ i j (λ _ _. push_named stamp o (cell ls.to_broker c y) named (h c y)) (h i j)
client_one c stamp o (peer.Forward y) ls named h = λ i j. cell_set AllNamed ls.to_broker c y _ i j (λ _ _. push_named stamp o (cell ls.to_broker c y) named (h c y)) (h i j)
client_one c stamp o (peer.Back y) ls named h = λ i j. cell_set AllNamed ls.to_broker c y _ i j (λ _ _. push_named stamp o (cell ls.to_broker c y) named (h c y)) (h i j)
client_one c stamp o (peer.Client y) ls named h = λ i j. cell_set AllNamed ls.to_broker c y _ i j (λ _ _. push_named stamp o (cell ls.to_broker c y) named (h c y)) (h i j)

client_sends : (c stamp : ℕ) (os : List Out) (ls : Links) → Each NamedOut os → NamedLinks ls → NamedLinks (delivered (from_client c) stamp os ls)
client_sends c stamp [] ls named h = h
client_sends c stamp (o ∷ os) ls named h = client_sends c stamp os _ named.1 (client_one c stamp o o.to ls named.0 h)

discarded_named : (m : List (List Link)) (i j : ℕ) → AllNamed (cell m i j) → AllNamed (cell (map (λ (ls : List Link). map discarded ls) m) i j)
discarded_named m i j h =
    at_map (λ (r : List Link). AllNamed (slice_index_or r j no_link)) (λ (ls : List Link). map discarded ls) (λ r q. at_map AllNamed discarded (λ l p. p) r j no_link tt q) m i [] tt h

-- WORLDS

abbrev pub Known : Setup → World → Type 0
Known s = Both (Sized s) (NoSelf s)

known_kept : (s : Setup) → IsKept s (Known s)
known_kept s = both_kept s (Sized s) (NoSelf s) (sized_kept s) (kept_with s (Sized s) (NoSelf s) (no_self_kept s))

-- a broker's next own marker has a number below a bound
abbrev pub MarksTo : ℕ → ℕ → Broker → Type 0
MarksTo n x b = next_marker x b.entries ≤ n

-- an event writes three times at most, so it adds three at most to the number at the start
abbrev pub FewHere : ℕ → Setup → World → Type 0
FewHere m s w = Everywhere s (MarksTo (m + 3 * w.events)) w

pub record Marked (m : ℕ) (s : Setup) (w : World) : Type 0 where
  pub known : Known s w
  pub links : NamedLinks w.links
  pub few : FewHere m s w

does_links : (s : Setup) (w : World) (p : Planned) → NamedLinks w.links → NamedLinks (broker_does s w p).links
unfolding broker_does
does_links s w p h =
    on_if (λ (w' : World). NamedLinks w'.links) p.plan.idle _ _ h
    (named_taken p.takes _ (λ c x. subst (λ (m : List (List Link)). AllNamed (cell m c x)) (sym (broker_sends s p.topic p.cluster _ p.plan.sent w.links)) (h c x)))

more_few : (m : ℕ) (s : Setup) (w : World) → FewHere m s w → (t x : ℕ) → IsThere s t x → MarksTo (m + 3 * (w.events + 1)) x (topic_at s w t x)
more_few m s w few t x there = let h = few t x there in omega (arith, h)

does_few : (m : ℕ) (s : Setup) (w : World) (p : Planned) → Shape s w p → NoSelf s w → NamedLinks w.links → FewHere m s w → FewHere m s (broker_does s w p)
unfolding broker_does
does_few m s w p shape none links few =
    let b = topic_at s w p.topic p.cluster in
    on_if (FewHere m s) p.plan.idle _ _ few
    (one_node s (MarksTo (m + 3 * (w.events + 1))) w p.topic p.cluster (done s.per_ledger b p.plan) (shape_within s w p shape)
    (λ here.
    let same = ap (next_marker p.cluster) (done_entries s.per_ledger b p.plan) in
    let more = marks_few p.cluster b.entries p.plan.writes (shape_marks s w p shape none links) in
    let writes = shape_few s w p shape in let h = few p.topic p.cluster here in
    omega (arith, same, more, writes, h))
    (more_few m s w few))

halts_few : (m : ℕ) (s : Setup) (w : World) (k : ℕ) (p : Planned) → Shape s w p → NoSelf s w → NamedLinks w.links → FewHere m s w → FewHere m s (broker_halts s w k p)
unfolding broker_halts
halts_few m s w k p shape none links few =
    let b = topic_at s w p.topic p.cluster in
    one_node s (MarksTo (m + 3 * (w.events + 1))) w p.topic p.cluster (halted s.per_ledger b k p.plan) (shape_within s w p shape)
    (λ here.
    let same = ap (next_marker p.cluster) (halted_entries s.per_ledger b k p.plan) in
    let more = marks_halt p.cluster b.entries k p.plan.writes (shape_marks s w p shape none links) in
    let writes = shape_few s w p shape in let h = few p.topic p.cluster here in
    omega (arith, same, more, writes, h))
    (more_few m s w few)

halts_links : (s : Setup) (w : World) (k : ℕ) (p : Planned) → NamedLinks w.links → NamedLinks (broker_halts s w k p).links
unfolding broker_halts
halts_links s w k p h = named_taken p.takes w.links h

client_links : (s : Setup) (w : World) (c : ℕ) (k : Option LinkName) (a : Acted) → ActsNamed a → NamedLinks w.links → NamedLinks (client_does s w c k a).links
unfolding client_does
client_links s w c k a sends h = on_if (λ (w' : World). NamedLinks w'.links) a.idle _ _ h (client_sends c _ a.sent (taken_from k w.links) sends (named_taken k w.links h))

client_few : (m : ℕ) (s : Setup) (w : World) (c : ℕ) (k : Option LinkName) (a : Acted) → FewHere m s w → FewHere m s (client_does s w c k a)
unfolding client_does
client_few m s w c k a few = on_if (FewHere m s) a.idle _ _ few (more_few m s w few)

event_links : (s : Setup) → IsScripted s → (w : World) (e : Event) → NamedLinks w.links → NamedLinks (happens s w e).links
unfolding happens
event_links s scripted w (event.Go c) h =
    on_test (λ (w' : World). NamedLinks w'.links) (has_client s c) _ _ (λ has. client_links s w c None _ (goes_named s _ (client_at s w c) (client_name s scripted c has)) h) (λ none. h)
event_links s scripted w (event.Reconnect c) h =
    on_test (λ (w' : World). NamedLinks w'.links) (has_client s c) _ _ (λ has. client_links s w c None _ (reconnects_named s _ (client_at s w c) (client_name s scripted c has)) h) (λ none. h)
event_links s scripted w (event.Get c) h =
    on_test (λ (w' : World). NamedLinks w'.links) (has_client s c) _ _ (λ has. client_links s w c _ _ (gets_named _ (client_at s w c) _) h) (λ none. h)
event_links s scripted w e h = go (planned s w e)
  where
    go : (o : Option Planned) → NamedLinks (does_planned s w o).links
    go None = h
    go (Some p) = does_links s w p h

event_few : (m : ℕ) (s : Setup) (w : World) (e : Event) → NoSelf s w → NamedLinks w.links → FewHere m s w → FewHere m s (happens s w e)
unfolding happens
event_few m s w (event.Go c) none links few = on_if (FewHere m s) (has_client s c) _ _ (client_few m s w c _ _ few) few
event_few m s w (event.Reconnect c) none links few = on_if (FewHere m s) (has_client s c) _ _ (client_few m s w c _ _ few) few
event_few m s w (event.Get c) none links few = on_if (FewHere m s) (has_client s c) _ _ (client_few m s w c _ _ few) few
event_few m s w e none links few = go (planned s w e) (planned_shape s w e)
  where
    go : (o : Option Planned) → HasShape s w o → FewHere m s (does_planned s w o)
    go None shape = few
    go (Some p) shape = does_few m s w p shape none links few

halted_links : (s : Setup) (w : World) (k : ℕ) (o : Option Planned) → NamedLinks w.links → NamedLinks (halts_planned s w k o).links
halted_links s w k None h = h
halted_links s w k (Some p) h = halts_links s w k p h

halted_few : (m : ℕ) (s : Setup) (w : World) (k : ℕ) (o : Option Planned) → HasShape s w o → NoSelf s w → NamedLinks w.links → FewHere m s w → FewHere m s (halts_planned s w k o)
halted_few m s w k None shape none links few = few
halted_few m s w k (Some p) shape none links few = halts_few m s w k p shape none links few

stop_links : (s : Setup) (w : World) → NamedLinks w.links → NamedLinks (stops s w).links
unfolding stops
stop_links s w h = λ c x. discarded_named w.links.to_broker c x (h c x)

stop_few : (m : ℕ) (s : Setup) (w : World) → Sized s w → FewHere m s w → FewHere m s (stops s w)
unfolding stops restart
stop_few m s w z few t x there =
    subst (MarksTo (m + 3 * (w.events + 1)) x) (sym (stopped_at w.brokers (λ b. done s.per_ledger b restart) (node s t x) (node_there s w t x z there))) (more_few m s w few t x there)

pub opening_named : (s : Setup) → NamedLinks (opening_world s).links
opening_named s c x = table_has AllNamed (length s.clients) (length s.clusters) c x tt

opening_marked : (s : Setup) → Marked 0 s (opening_world s)
opening_marked s = record {
  known = (known_kept s).opening;
  links = opening_named s;
  few = λ t x there. let n = length s.clusters in
      subst (MarksTo 0 x) (sym (get_or-replicate (length s.topics * n) (node s t x) (new_broker n (length s.clients)) no_broker (node_lt s t x there))) (omega arith);
}

pub marked_on : (m : ℕ) (s : Setup) → IsScripted s → IsKeptOn s (Marked m s)
marked_on m s scripted = let k = known_kept s in record {
  idle = λ w n h. record { known = k.idle w n h.known; links = h.links; few = h.few };
  round = λ w n h. record { known = k.round w n h.known; links = h.links; few = h.few };
  event = λ w e h. record {
    known = event_done s (Known s) k w e h.known;
    links = event_links s scripted w e h.links;
    few = event_few m s w e h.known.1 h.links h.few;
  };
  halts = λ w n e h. record {
    known = plan_halted s (Known s) k w n (planned s w e) (planned_shape s w e) h.known;
    links = halted_links s w n (planned s w e) h.links;
    few = halted_few m s w n (planned s w e) (planned_shape s w e) h.known.1 h.links h.few;
  };
  stop = λ w h. record { known = k.stop w h.known; links = stop_links s w h.links; few = stop_few m s w h.known.0 h.few };
}

marked_kept : (s : Setup) → IsScripted s → IsKeptByEvents s (Marked 0 s)
marked_kept s scripted =
    let k = marked_on 0 s scripted in record { opening = opening_marked s; idle = k.idle; round = k.round; event = k.event; halts = k.halts; stop = k.stop }

pub told : (m : ℕ) (s : Setup) (w : World) → m ≤ most_at_start → Marked m s w → IsShort w → MarkersRise s w
told m s w low h short t x topic cluster =
    let there : IsThere s t x = (topic, cluster) in
    let few = h.few t x there in
    omega (arith, few, low, short)

pub markers_between : LawMarkers
markers_between s scripted = between_by_events s (Marked 0 s) (λ w. IsShort w → MarkersRise s w) (marked_kept s scripted) (λ w h. told 0 s w (omega arith) h)
