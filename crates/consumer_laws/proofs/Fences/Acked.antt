-- What a replicator has acknowledged stays so: through writes, changes in memory, plans and stops.
use Rattle.std.proofs.Common.{◌≡◌, ℕ, ◌<◌, ◌==◌, true, List, [], ◌∷◌, length, sym, subst, inl, inr}
use Rattle.std.specs.Prelude.{take}
use Rattle.std.proofs.lemmas.Bool.{false≢true}
use Rattle.world_laws.proofs.Types.{Change, Write}
use Rattle.world_laws.proofs.Types.change
use Rattle.world_laws.proofs.Types.write
use Rattle.geo_base.specs.Broker.{Broker, replicator_at}
use Rattle.geo_base.specs.Cursor.{has, with_index}
use Rattle.geo_base.specs.Plan.{Plan, done, halted}
use Rattle.geo_base.specs.Replicator.{Replicator, new_replicator}
use Rattle.world_laws.proofs.OnceInOrder.Members.{below_or}
use Rattle.world_laws.proofs.Replicating.Cursors.{has_more}
use Rattle.world_laws.proofs.Replicating.Effects.{done_replicator, halted_replicator, replicator_after, replicator_changed, replicator_then, replicator_written}
use Rattle.world_laws.proofs.Walks.Walk.{on_if}
use Rattle.consumer_laws.proofs.Worlds.Growing.{past_none}

abbrev Acks : ℕ → Replicator → Type 0
Acks i s = has s.cursor i ≡ true

one_write : (y i : ℕ) (s : Replicator) (w : Write) → Acks i s → Acks i (replicator_written y s w)
one_write y i s (write.ReplicatorAck z j) h = on_if (Acks i) (z == y) (record s { cursor = with_index s.cursor j }) s (has_more s.cursor j i h) h
one_write y i s (write.SessionNumber z n) h = on_if (Acks i) (z == y) (record s { session = n }) s h h
one_write y i s w h = h

some_writes : (y i : ℕ) (s : Replicator) (ws : List Write) → Acks i s → Acks i (replicator_after y s ws)
some_writes y i s [] h = h
some_writes y i s (w ∷ ws) h = some_writes y i (replicator_written y s w) ws (one_write y i s w h)

one_change : (y i : ℕ) (s : Replicator) (c : Change) → Acks i s → Acks i (replicator_changed y s c)
one_change y i s (change.Opening z) h = on_if (Acks i) (z == y) _ s h h
one_change y i s (change.Opened z) h = on_if (Acks i) (z == y) _ s h h
one_change y i s (change.Pend z j) h = on_if (Acks i) (z == y) _ s h h
one_change y i s (change.ReadTo z j) h = on_if (Acks i) (z == y) _ s h h
one_change y i s (change.Unpend z n) h = on_if (Acks i) (z == y) _ s h h
one_change y i s change.Forget h = h
one_change y i s c h = h

some_changes : (y i : ℕ) (s : Replicator) (cs : List Change) → Acks i s → Acks i (replicator_then y s cs)
some_changes y i s [] h = h
some_changes y i s (c ∷ cs) h = some_changes y i (replicator_changed y s c) cs (one_change y i s c h)

-- one broker, of all its replicators
abbrev pub StaysAcked : Broker → Broker → Type 0
StaysAcked b c = (y i : ℕ) → has (replicator_at b y).cursor i ≡ true → has (replicator_at c y).cursor i ≡ true

-- a replicator that is not there has acknowledged nothing
there : (b : Broker) (y i : ℕ) → has (replicator_at b y).cursor i ≡ true → y < length b.replicators
there b y i h =
    elim (below_or y (length b.replicators)) [
      | inl lt ↦ lt
      | inr le ↦ absurd (false≢true (subst (λ (s : Replicator). has s.cursor i ≡ true) (past_none b.replicators y new_replicator le) h))
    ]

pub done_acked : (per : ℕ) (b : Broker) (p : Plan) → StaysAcked b (done per b p)
done_acked per b p y i h =
    subst (Acks i) (sym (done_replicator per b y p (there b y i h)))
    (some_changes y i (replicator_after y (replicator_at b y) p.writes) p.changes (some_writes y i (replicator_at b y) p.writes h))

pub halted_acked : (per : ℕ) (b : Broker) (k : ℕ) (p : Plan) → StaysAcked b (halted per b k p)
halted_acked per b k p y i h = subst (Acks i) (sym (halted_replicator per b y k p (there b y i h))) (some_writes y i (replicator_at b y) (take k p.writes) h)
