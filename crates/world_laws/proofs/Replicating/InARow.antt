-- Two plans in a row are done as one: the writes of the second do not look at what the changes of the first touch.
use Rattle.std.proofs.Common.{◌≡◌, ℕ, zero, suc, List, [], ◌∷◌, ◌++◌, refl, sym, ap, subst, ◌∙◌}
use Rattle.std.specs.Prelude.{slice_set, slice_index_or}
use Rattle.world_laws.proofs.Types.{Change, Packet, Write}
use Rattle.world_laws.proofs.Types.change
use Rattle.world_laws.proofs.Types.replicator_state
use Rattle.world_laws.proofs.Types.write
use Rattle.geo_base.specs.Broker.{Broker, Site, at_replicator, changed, written}
use Rattle.geo_base.specs.Cursor.{with_index}
use Rattle.geo_base.specs.Plan.{Plan, all_changed, all_written, done}
use Rattle.geo_base.specs.Replicator.{Replicator, new_replicator, without_number}
use Rattle.world_laws.proofs.Replicating.Effects.{Each}
use Rattle.world_laws.proofs.Walks.Shapes.{Answered, Taken, in_a_row}

-- a write and a change in either order
abbrev Swaps : ℕ → Change → Write → Type 0
Swaps per c w = (b : Broker) → changed (written per b w) c ≡ written per (changed b c) w

swap_one : (per : ℕ) (P : Change → Type 0) (w : Write) → ((c : Change) → P c → Swaps per c w) → (cs : List Change) → Each P cs → (b : Broker)
    → all_changed (written per b w) cs ≡ written per (all_changed b cs) w
swap_one per P w h [] k b = refl
swap_one per P w h (c ∷ cs) k b = ap (λ (d : Broker). all_changed d cs) (h c k.0 b) ∙ swap_one per P w h cs k.1 (changed b c)

swap_all : (per : ℕ) (P : Change → Type 0) (Q : Write → Type 0) → ((c : Change) (w : Write) → P c → Q w → Swaps per c w)
    → (cs : List Change) (ws : List Write) → Each P cs → Each Q ws → (b : Broker) → all_changed (all_written per b ws) cs ≡ all_written per (all_changed b cs) ws
swap_all per P Q h cs [] k l b = refl
swap_all per P Q h cs (w ∷ ws) k l b =
    swap_all per P Q h cs ws k l.1 (written per b w) ∙ ap (λ (d : Broker). all_written per d ws) (swap_one per P w (λ c p. h c w p l.0) cs k b)

writes_both : (per : ℕ) (b : Broker) (ws vs : List Write) → all_written per b (ws ++ vs) ≡ all_written per (all_written per b ws) vs
writes_both per b [] vs = refl
writes_both per b (w ∷ ws) vs = writes_both per (written per b w) ws vs

changes_both : (b : Broker) (cs ds : List Change) → all_changed b (cs ++ ds) ≡ all_changed (all_changed b cs) ds
changes_both b [] ds = refl
changes_both b (c ∷ cs) ds = changes_both (changed b c) cs ds

row_done : (per : ℕ) (P : Change → Type 0) (Q : Write → Type 0) → ((c : Change) (w : Write) → P c → Q w → Swaps per c w)
    → (b : Broker) (p q : Plan) → Each P p.changes → Each Q q.writes → done per b (in_a_row p q) ≡ done per (done per b p) q
row_done per P Q h b p q k l =
    changes_both (all_written per b (p.writes ++ q.writes)) p.changes q.changes
    ∙ ap (λ (d : Broker). all_changed (all_changed d p.changes) q.changes) (writes_both per b p.writes q.writes)
    ∙ ap (λ (d : Broker). all_changed d q.changes) (swap_all per P Q h p.changes q.writes k l (all_written per b p.writes))

-- take: the session of a receiving side, and entries
abbrev IsSessionChange : Change → Type 0
IsSessionChange (change.Receiver x r) = Unit {0}
IsSessionChange c = ⊥

abbrev IsAppend : Write → Type 0
IsAppend (write.Append e) = Unit {0}
IsAppend w = ⊥

take_swaps : (per : ℕ) (c : Change) (w : Write) → IsSessionChange c → IsAppend w → Swaps per c w
take_swaps per (change.Receiver x r) (write.Append e) h k b = refl
take_swaps per (change.Receiver x r) w h k b = absurd k
take_swaps per c w h k b = absurd h

taken_changes : (h : Site) (b : Broker) (x : ℕ) (p : Packet) (q : Plan) → Taken h b x p q → Each IsSessionChange q.changes
taken_changes h b x p q (Taken.Unreadable is) = (tt, tt)
taken_changes h b x p q (Taken.Opens topic id request name is opening) = (tt, tt)
taken_changes h b x p q (Taken.Discards other shut) = tt
taken_changes h b x p q (Taken.Refuses other at may) = (tt, tt)
taken_changes h b x p q (Taken.Stores id seq source e is at may new) = tt
taken_changes h b x p q (Taken.Repeats id seq source e is at may old) = tt

taken_writes : (h : Site) (b : Broker) (x : ℕ) (p : Packet) (q : Plan) → Taken h b x p q → Each IsAppend q.writes
taken_writes h b x p q (Taken.Unreadable is) = tt
taken_writes h b x p q (Taken.Opens topic id request name is opening) = tt
taken_writes h b x p q (Taken.Discards other shut) = tt
taken_writes h b x p q (Taken.Refuses other at may) = tt
taken_writes h b x p q (Taken.Stores id seq source e is at may new) = (tt, tt)
taken_writes h b x p q (Taken.Repeats id seq source e is at may old) = tt

pub taken_in_a_row : (per : ℕ) (h : Site) (b c : Broker) (x : ℕ) (p : Packet) (q q' : Plan) → Taken h b x p q → Taken h c x p q' → (d : Broker)
    → done per d (in_a_row q q') ≡ done per (done per d q) q'
taken_in_a_row per h b c x p q q' t t' d =
    row_done per IsSessionChange IsAppend (take_swaps per) d q q' (taken_changes h b x p q t) (taken_writes h c x p q' t')

-- receipt: the cursor of a replicator, and its memory
at_twice : (f g : Replicator → Replicator) → ((s : Replicator) → f (g s) ≡ g (f s)) → (ss : List Replicator) (z : ℕ)
    → slice_set (slice_set ss z (g (slice_index_or ss z new_replicator))) z (f (slice_index_or (slice_set ss z (g (slice_index_or ss z new_replicator))) z new_replicator))
    ≡ slice_set (slice_set ss z (f (slice_index_or ss z new_replicator))) z (g (slice_index_or (slice_set ss z (f (slice_index_or ss z new_replicator))) z new_replicator))
at_twice f g h [] z = refl
at_twice f g h (s ∷ ss) zero = ap (λ (t : Replicator). t ∷ ss) (h s)
at_twice f g h (s ∷ ss) (suc z) = ap (λ (l : List Replicator). s ∷ l) (at_twice f g h ss z)

replicator_swaps : (b : Broker) (z : ℕ) (f g : Replicator → Replicator) → ((s : Replicator) → f (g s) ≡ g (f s)) → at_replicator (at_replicator b z g) z f ≡ at_replicator (at_replicator b z f) z g
replicator_swaps b z f g h = ap (λ (ss : List Replicator). record b { replicators = ss }) (at_twice f g h b.replicators z)

abbrev IsMemoryOf : ℕ → Change → Type 0
IsMemoryOf y (change.Opened z) = z ≡ y
IsMemoryOf y (change.Unpend z n) = z ≡ y
IsMemoryOf y c = ⊥

abbrev IsAckOf : ℕ → Write → Type 0
IsAckOf y (write.ReplicatorAck z i) = z ≡ y
IsAckOf y w = ⊥

memory_swaps : (per y : ℕ) (c : Change) (w : Write) → IsMemoryOf y c → IsAckOf y w → Swaps per c w
memory_swaps per y (change.Opened z) (write.ReplicatorAck v i) h k b =
    let P : ℕ → Type 0 = λ n. changed (written per b (write.ReplicatorAck n i)) (change.Opened z) ≡ written per (changed b (change.Opened z)) (write.ReplicatorAck n i) in
    subst P (h ∙ sym k) (replicator_swaps b z (λ s. record s { state = replicator_state.Open }) (λ s. record s { cursor = with_index s.cursor i }) (λ s. refl))
memory_swaps per y (change.Unpend z n) (write.ReplicatorAck v i) h k b =
    let P : ℕ → Type 0 = λ m. changed (written per b (write.ReplicatorAck m i)) (change.Unpend z n) ≡ written per (changed b (change.Unpend z n)) (write.ReplicatorAck m i) in
    subst P (h ∙ sym k) (replicator_swaps b z (λ s. record s { pending = without_number s.pending n }) (λ s. record s { cursor = with_index s.cursor i }) (λ s. refl))
memory_swaps per y (change.Opened z) w h k b = absurd k
memory_swaps per y (change.Unpend z n) w h k b = absurd k
memory_swaps per y c w h k b = absurd h

answered_changes : (b : Broker) (y : ℕ) (p : Packet) (q : Plan) → Answered b y p q → Each (IsMemoryOf y) q.changes
answered_changes b y p q (Answered.Stale other) = tt
answered_changes b y p q (Answered.Other at other) = tt
answered_changes b y p q (Answered.Opened request name at is state) = (refl, tt)
answered_changes b y p q (Answered.OpenBefore request name at is state) = tt
answered_changes b y p q (Answered.ClosedBefore request name at is state) = tt
answered_changes b y p q (Answered.Received id n i position at is pending) = (refl, tt)
answered_changes b y p q (Answered.ReceivedBefore id n position at is pending) = tt

answered_writes : (b : Broker) (y : ℕ) (p : Packet) (q : Plan) → Answered b y p q → Each (IsAckOf y) q.writes
answered_writes b y p q (Answered.Stale other) = tt
answered_writes b y p q (Answered.Other at other) = tt
answered_writes b y p q (Answered.Opened request name at is state) = tt
answered_writes b y p q (Answered.OpenBefore request name at is state) = tt
answered_writes b y p q (Answered.ClosedBefore request name at is state) = tt
answered_writes b y p q (Answered.Received id n i position at is pending) = (refl, tt)
answered_writes b y p q (Answered.ReceivedBefore id n position at is pending) = tt

pub answered_in_a_row : (per : ℕ) (b c : Broker) (y : ℕ) (p : Packet) (q q' : Plan) → Answered b y p q → Answered c y p q' → (d : Broker)
    → done per d (in_a_row q q') ≡ done per (done per d q) q'
answered_in_a_row per b c y p q q' t t' d =
    row_done per (IsMemoryOf y) (IsAckOf y) (memory_swaps per y) d q q' (answered_changes b y p q t) (answered_writes c y p q' t')
