-- In every world: where a client's pub lines rise and no publish of it was refused, each receipt is of a message that stands.
use Rattle.std.proofs.Common.{◌≡◌, ℕ, zero, suc, ◌*◌, ◌<◌, ◌≤◌, Bool, true, false, List, [], ◌∷◌, length, map, refl, sym, ap, subst, ◌∙◌, arith, inl, inr}
use Rattle.std.specs.List.{list_all}
use Rattle.std.specs.Prelude.{Option, Some, None, nat_lt, option_map, slice_get}
use Rattle.std.specs.Str.{bytes_eq}
use Rattle.std.proofs.lemmas.Bool.{false≢true}
use Rattle.std.proofs.lemmas.List.{get_or-map, get_or-replicate}
use Rattle.std.proofs.lemmas.Option.{none-some, slice_get-get_or, slice_get-map, slice_get_within}
use Rattle.std.proofs.lemmas.Slice.Eq.{bytes_eq-Decides}
use Rattle.world_laws.proofs.Types.{Entry, Event, Frame, Packet, Position}
use Rattle.world_laws.proofs.Types.event
use Rattle.world_laws.proofs.Types.frame
use Rattle.geo_base.specs.Broker.{Broker, new_broker, no_broker}
use Rattle.geo_base.specs.Client.{Client, new_client, unconnected}
use Rattle.geo_base.specs.Happening.{client_acted, does_planned, halts_planned, happens, stops}
use Rattle.geo_base.specs.Link.{Link, discarded, next_packet, no_link}
use Rattle.geo_base.specs.Moments.{partly_written}
use Rattle.geo_base.specs.Name.{is_name}
use Rattle.geo_base.specs.Plan.{all_written, done}
use Rattle.geo_base.specs.Planned.{Planned, has_client, planned}
use Rattle.geo_base.specs.Scripted.{IsScripted, is_declared, is_line, stays_or_is_silent}
use Rattle.geo_base.specs.Seeking.{restart}
use Rattle.geo_base.specs.Setup.{Declared, Setup, declared_at, nobody}
use Rattle.geo_base.specs.Topic.{position_at}
use Rattle.geo_base.specs.World.{ToBroker, ToClient, World, client_at, link_at, node, opening_world}
use Rattle.world_laws.specs.Publishing.{LawRepeated, NoneRefused, PubsRise, RepeatsStand, StandsAt, ident_of}
use Rattle.world_laws.proofs.Clients.ClientLinks.{Packets, SentDown, stops_down}
use Rattle.world_laws.proofs.Dispatching.SubFrames.{each_at_place}
use Rattle.world_laws.proofs.Induction.Layers.{durable_written}
use Rattle.world_laws.proofs.Induction.Runs.{IsKeptByEvents, always_by_events, event_done, plan_halted}
use Rattle.world_laws.proofs.Merges.ClientRoams.{all_index}
use Rattle.world_laws.proofs.Merges.Opened.{opening_client, opening_link}
use Rattle.world_laws.proofs.OnceInOrder.Appends.{done_entries}
use Rattle.world_laws.proofs.OnceInOrder.Members.{below_or}
use Rattle.world_laws.proofs.Published.Chained.{Chained, home_there}
use Rattle.world_laws.proofs.Published.ClientCells.{Linked, linked_kept}
use Rattle.world_laws.proofs.Published.InTurn.{AllBelow, HasSeq, ReceiptStands, receipts_longer}
use Rattle.world_laws.proofs.Published.PublishedRuns.{chained_kept}
use Rattle.world_laws.proofs.Published.TurnActs.{core_acted, get_in_turn, go_in_turn, reconnect_in_turn}
use Rattle.world_laws.proofs.Published.TurnAsides.{forgotten_in}
use Rattle.world_laws.proofs.Published.TurnCore.{Core, core_stops}
use Rattle.world_laws.proofs.Published.TurnEvents.{core_does}
use Rattle.world_laws.proofs.Published.TurnHalts.{core_halts}
use Rattle.world_laws.proofs.Published.TurnLines.{IsNoError, new_hand}
use Rattle.world_laws.proofs.Published.TurnShapes.{CoreAt, NamesApart, NoErrorsAt, TurnOf, home_of, planned_turn}
use Rattle.world_laws.proofs.Replicating.Effects.{Each}
use Rattle.world_laws.proofs.Replicating.Pairs.{discarded_cell}
use Rattle.world_laws.proofs.Replicating.Sizes.{node_lt, node_there, stopped_at}
use Rattle.world_laws.proofs.Snapshotting.Answering.{AnswersAt, Numbered, answering_durable}
use Rattle.world_laws.proofs.Snapshotting.Grows.{grown_written}
use Rattle.world_laws.proofs.TopicOrder.Ledgers.{at_index}
use Rattle.world_laws.proofs.Walks.EventWalk.{HasShape, planned_shape}
use Rattle.world_laws.proofs.Walks.Walk.{on_if}
use Rattle.geo_base.proofs.Bools.{and_first_of_five}

-- of each client whose lines rise, while none of its publishes was refused
abbrev pub InTurnAll : Setup → World → Type 0
InTurnAll s w = (c : ℕ) → c < length s.clients → PubsRise (declared_at s c) → NoErrorsAt s c w → CoreAt s c w

-- ---- names of clients are told apart

name_at : (s : Setup) (c : ℕ) → c < length s.clients → slice_get (map (λ (d : Declared). d.name) s.clients) c ≡ Some (declared_at s c).name
name_at s c lt = slice_get-map (λ (d : Declared). d.name) s.clients c ∙ ap (option_map (λ (d : Declared). d.name)) (slice_get-get_or s.clients c nobody lt)

names_apart : (s : Setup) (c : ℕ) → IsScripted s → c < length s.clients → NamesApart s c
names_apart s c scripted lt = record {
  named = let d = declared_at s c in
      and_first_of_five (is_name d.name) (nat_lt d.topic (length s.topics)) (nat_lt d.cluster (length s.clusters)) (list_all (is_line s) d.lines) (stays_or_is_silent d.lines) (all_index (is_declared s) s.clients c nobody scripted.clients.0 lt);
  apart = λ z other small. elim (below_or z c) [
    | inl low ↦ scripted.clients.1 z c _ _ low (name_at s z small) (name_at s c lt)
    | inr high ↦
        let after : c < z = two_apart z c other high in
        turned_name (declared_at s z).name (declared_at s c).name (scripted.clients.1 c z _ _ after (name_at s c lt) (name_at s z small))
  ];
}
  where
    two_apart : (z c : ℕ) → (z ≡ c → ⊥) → c ≤ z → c < z
    two_apart z c other le = elim (below_or c z) [ inl lt ↦ lt | inr ge ↦ absurd (other (omega (arith, le, ge))) ]

    turned_name : (m n : List ℕ) → bytes_eq n m ≡ false → bytes_eq m n ≡ false
    turned_name m n h = by (bytes_eq m n) refl
      where
        by : (b : Bool) → bytes_eq m n ≡ b → b ≡ false
        by false is = refl
        by true is = absurd (false≢true (sym h ∙ (bytes_eq-Decides n m).1 (sym ((bytes_eq-Decides m n).0 is))))

-- ---- events

-- an event of a broker, done or stopped
planned_all : (s : Setup) (w : World) (o : Option Planned) → IsScripted s → HasShape s w o → ((c : ℕ) → TurnOf s w c o) → Chained s w → Linked s w → InTurnAll s w → InTurnAll s (does_planned s w o)
planned_all s w None scripted shape turn g linked h c lt rise fine = h c lt rise fine
planned_all s w (Some p) scripted shape turn g linked h c lt rise fine = core_does s c w p scripted lt (names_apart s c scripted lt) shape (turn c) g linked (h c lt rise) fine

halted_all : (s : Setup) (w : World) (n : ℕ) (o : Option Planned) → IsScripted s → HasShape s w o → ((c : ℕ) → TurnOf s w c o) → Chained s w → Linked s w → InTurnAll s w → InTurnAll s (halts_planned s w n o)
halted_all s w n None scripted shape turn g linked h c lt rise fine = h c lt rise fine
halted_all s w n (Some p) scripted shape turn g linked h c lt rise fine = core_halts s c w n p scripted lt (names_apart s c scripted lt) shape (turn c) g linked (h c lt rise) fine

pub event_all : (s : Setup) (w : World) (e : Event) → IsScripted s → Chained s w → Linked s w → InTurnAll s w → InTurnAll s (happens s w e)
unfolding happens
event_all s w (event.Go z) scripted g linked h =
    on_if (InTurnAll s) (has_client s z) _ _
    (λ c lt rise fine. core_acted s c w z None (client_acted s (client_at s w z) (event.Go z) None) scripted lt linked refl (go_in_turn s c w z scripted g lt rise) (h c lt rise) fine) h
event_all s w (event.Reconnect z) scripted g linked h =
    on_if (InTurnAll s) (has_client s z) _ _
    (λ c lt rise fine. core_acted s c w z None (client_acted s (client_at s w z) (event.Reconnect z) None) scripted lt linked refl (reconnect_in_turn s c w z scripted g lt rise) (h c lt rise) fine) h
event_all s w (event.Get z) scripted g linked h =
    on_if (InTurnAll s) (has_client s z) _ _
    (λ c lt rise fine. core_acted s c w z (Some (ToClient z (client_at s w z).cluster)) (client_acted s (client_at s w z) (event.Get z) (next_packet (link_at w.links (ToClient z (client_at s w z).cluster)))) scripted lt linked refl
    (get_in_turn s c w z scripted g lt) (h c lt rise) fine) h
event_all s w e scripted g linked h = planned_all s w (planned s w e) scripted (planned_shape s w e) (λ c. planned_turn s w c e) g linked h

-- ---- a stop of everything, and the opening world

stop_all : (s : Setup) (w : World) → IsScripted s → Chained s w → InTurnAll s w → InTurnAll s (stops s w)
unfolding stops restart
stop_all s w scripted g h c lt rise fine =
    let d = declared_at s c in let x = d.cluster in let home = home_of s w c in let k = client_at s w c in let l = link_at w.links (ToBroker c x) in
    let down : SentDown (stops s w).links c x ≡ SentDown w.links c x = stops_down s w c x in
    let old = h c lt rise (subst (Packets IsNoError) down fine) in
    let broker : home_of s (stops s w) c ≡ done s.per_ledger home restart = stopped_at w.brokers (λ b. done s.per_ledger b restart) (node s d.topic x) (node_there s w d.topic x g.ground.0.0.sized (home_there s scripted c lt)) in
    let size = (g.clients c).meets.size in
    let client : client_at s (stops s w) c ≡ unconnected k = get_or-map unconnected w.clients c (new_client d) (new_client d) (omega (arith, lt, size)) in
    let b' = done s.per_ledger home restart in
    let core = core_stops d c home b' l k (SentDown w.links c x) (done_entries s.per_ledger home restart) (forgotten_in c (λ n. ⊥) (all_written s.per_ledger home restart.writes)) old in
    subst (λ (ds : List Packet). Core d c (home_of s (stops s w) c) (link_at (stops s w).links (ToBroker c x)) (client_at s (stops s w) c) ds) (sym down)
    (subst (λ (b : Broker). Core d c b (link_at (stops s w).links (ToBroker c x)) (client_at s (stops s w) c) (SentDown w.links c x)) (sym broker)
    (subst (λ (m : Link). Core d c b' m (client_at s (stops s w) c) (SentDown w.links c x)) (sym (discarded_cell w.links.to_broker c x))
    (subst (λ (j : Client). Core d c b' (discarded l) j (SentDown w.links c x)) (sym client) core)))

new_core : (d : Declared) (c : ℕ) (b : Broker) → b.entries ≡ [] → Core d c b no_link (new_client d) []
new_core d c b none = record {
  turned = (record { order = λ i p at. absurd (none-some p at); begun = λ i j p p' lt at. absurd (none-some p at) }, new_hand d b.entries []);
  begins = λ u is i p q lt. absurd (omega (arith, lt));
  below = subst (AllBelow d) (sym none) tt;
  receipts = tt;
  within = omega arith;
}

opening_all : (s : Setup) → IsScripted s → InTurnAll s (opening_world s)
opening_all s scripted c lt rise fine =
    let d = declared_at s c in let x = d.cluster in let n = length s.clusters in let w = opening_world s in
    let broker : home_of s w c ≡ new_broker n (length s.clients) = get_or-replicate (length s.topics * n) (node s d.topic x) (new_broker n (length s.clients)) no_broker (node_lt s d.topic x (home_there s scripted c lt)) in
    subst (λ (ds : List Packet). Core d c (home_of s w c) (link_at w.links (ToBroker c x)) (client_at s w c) ds) (sym (ap (λ (l : Link). l.sent) (opening_link s (ToClient c x))))
    (subst (λ (l : Link). Core d c (home_of s w c) l (client_at s w c) []) (sym (opening_link s (ToBroker c x)))
    (subst (λ (k : Client). Core d c (home_of s w c) no_link k []) (sym (opening_client s.clients c)) (new_core d c (home_of s w c) (ap (λ (b : Broker). b.entries) broker))))

record Repeated (s : Setup) (w : World) : Type 0 where
  chain : Chained s w
  linked : Linked s w
  turns : InTurnAll s w

repeated_kept : (s : Setup) → IsScripted s → IsKeptByEvents s (Repeated s)
repeated_kept s scripted = let k = chained_kept s scripted in let l = linked_kept s in record {
  opening = record { chain = k.opening; linked = l.opening; turns = opening_all s scripted };
  idle = λ w n h. record { chain = k.idle w n h.chain; linked = l.idle w n h.linked; turns = h.turns };
  round = λ w n h. record { chain = k.round w n h.chain; linked = l.round w n h.linked; turns = h.turns };
  event = λ w e h. record { chain = k.event w e h.chain; linked = event_done s (Linked s) l w e h.linked; turns = event_all s w e scripted h.chain h.linked h.turns };
  halts = λ w n e h. record {
    chain = k.halts w n e h.chain;
    linked = plan_halted s (Linked s) l w n (planned s w e) (planned_shape s w e) h.linked;
    turns = halted_all s w n (planned s w e) scripted (planned_shape s w e) (λ c. planned_turn s w c e) h.chain h.linked h.turns;
  };
  stop = λ w h. record { chain = k.stop w h.chain; linked = l.stop w h.linked; turns = stop_all s w scripted h.chain h.turns };
}

-- ---- what it says

each_from : {X : Type 0} (P : X → Type 0) (xs : List X) → ((i : ℕ) (x : X) → slice_get xs i ≡ Some x → P x) → Each P xs
each_from P [] h = tt
each_from P (x ∷ xs) h = (h zero x refl, each_from P xs (λ i y at. h (suc i) y at))

no_errors : (s : Setup) (w : World) (c : ℕ) → NoneRefused s w c → NoErrorsAt s c w
no_errors s w c none = each_from (λ (p : Packet). IsNoError p.session p.frame) (SentDown w.links c (declared_at s c).cluster) (λ i p at. by i p at p.frame refl)
  where
    by : (i : ℕ) (p : Packet) → slice_get (SentDown w.links c (declared_at s c).cluster) i ≡ Some p → (f : Frame) → p.frame ≡ f → IsNoError p.session f
    by i p at (frame.SendError id seq code) is = absurd (none i p id seq code at is)
    by i p at f is = tt

-- what stands has a position
stands_at : (d : Declared) (b : Broker) (q : ℕ) → Numbered b.entries b.ledgers → HasSeq d b.entries q → (p : Position) × StandsAt b (ident_of d q) p
stands_at d b q numbered h =
    let i = h.stands.place in let lt = slice_get_within b.entries i h.entry h.stands.is in let whole = numbered.whole in
    (position_at b.ledgers i, record { index = i; entry = h.entry; stands = h.stands.is; named = h.named; at = at_index b.ledgers i (omega (arith, lt, whole)) })

-- of a world, or of one in the midst of an event, whose topics are longer
repeats_stand : (s : Setup) (w w' : World) → ((c x : ℕ) → SentDown w'.links c x ≡ SentDown w.links c x)
    → ((c : ℕ) → c < length s.clients → Packets (ReceiptStands (declared_at s c) (home_of s w c).entries) (SentDown w.links c (declared_at s c).cluster)
    → Packets (ReceiptStands (declared_at s c) (home_of s w' c).entries) (SentDown w.links c (declared_at s c).cluster))
    → ((c : ℕ) → c < length s.clients → Numbered (home_of s w' c).entries (home_of s w' c).ledgers) → InTurnAll s w → RepeatsStand s w'
repeats_stand s w w' same longer numbered h c i p id seq o lt rise none at is =
    let d = declared_at s c in let x = d.cluster in
    let fine = subst (Packets IsNoError) (same c x) (no_errors s w' c none) in
    let receipts = longer c lt (h c lt rise fine).receipts in
    let at' : slice_get (SentDown w.links c x) i ≡ Some p = subst (λ (ps : List Packet). slice_get ps i ≡ Some p) (same c x) at in
    let one = each_at_place (λ (q : Packet). ReceiptStands d (home_of s w' c).entries q.session q.frame) (SentDown w.links c x) i p receipts at' in
    stands_at d (home_of s w' c) seq (numbered c lt) (subst (ReceiptStands d (home_of s w' c).entries p.session) is one)

pub repeated_always : LawRepeated
repeated_always s scripted =
    always_by_events s (Repeated s) (RepeatsStand s) (repeated_kept s scripted)
    (λ w h. repeats_stand s w w (λ c x. refl) (λ c lt r. r) (λ c lt. (h.chain.ground.1 (declared_at s c).topic (declared_at s c).cluster (home_there s scripted c lt)).numbered) h.turns)
    (λ w n p shape h.
    let w' = partly_written s w n (Some p) in let grown = grown_written s w n p shape h.chain.ground.1 in
    let answers = durable_written s (AnswersAt s) (answering_durable s) w n p shape h.chain.ground.0.1 h.chain.ground.1 in
    repeats_stand s w w' (λ c x. refl)
    (λ c lt r.
    let d = declared_at s c in let g = grown d.topic d.cluster (home_there s scripted c lt) in
    subst (λ (es : List Entry). Packets (ReceiptStands d es) (SentDown w.links c d.cluster)) (sym g.is) (receipts_longer d (home_of s w c).entries g.more (SentDown w.links c d.cluster) r))
    (λ c lt. (answers (declared_at s c).topic (declared_at s c).cluster (home_there s scripted c lt)).numbered) h.turns)
