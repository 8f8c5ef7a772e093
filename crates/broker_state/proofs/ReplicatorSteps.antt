-- A step of one replicator, and room that stays, seen in a broker's whole state.
use Rattle.std.proofs.Common.{◌≡◌, ◌∙◌, ◌+◌, ◌≤◌, ℕ, List, ap, subst, length, arith}
use Rattle.std.proofs.lemmas.List.{length-set}
use Rattle.std.specs.Prelude.{slice_set}
use Rattle.geo_base.specs.Broker.{Broker, at_replicator, replicator_at}
use Rattle.geo_base.specs.Replicator.{Replicator}
use Rattle.broker_subs.specs.Table.{room_at}
use Rattle.broker_state.specs.Fits.{SameShape}
use Rattle.broker_state.specs.Room.{ChangeLeaves, Room, WriteLeaves, change_replicators}
use Rattle.broker_state.specs.State.{StateView}
use Rattle.broker_state.specs.declared.change.StateChange.{StateChange}
use Rattle.broker_state.specs.declared.write.StateWrite.TheVariants as state_write

pub step_replicator : (t v : StateView) (ss : List Replicator) (y : ℕ) (f : Replicator → Replicator) → t ≡ v → ss ≡ slice_set t.broker.replicators y (f (replicator_at t.broker y))
    → record t.broker { replicators = ss } ≡ at_replicator v.broker y f
step_replicator t v ss y f same is =
    subst (λ (b : StateView). ◌≡◌ {A = Broker} (record t.broker { replicators = ss }) (at_replicator b.broker y f)) same (ap (λ (xs : List Replicator). record t.broker { replicators = xs }) is)

pub step_shape : (t v : StateView) (ss : List Replicator) (y : ℕ) (s : Replicator) → t ≡ v → ss ≡ slice_set t.broker.replicators y s → SameShape v.broker (record t.broker { replicators = ss })
step_shape t v ss y s same is = record {
  replicators = ap (λ (xs : List Replicator). length xs) is ∙ length-set t.broker.replicators y s ∙ ap (λ (b : StateView). length b.broker.replicators) same;
  receivers = ap (λ (b : StateView). length b.broker.receivers) same;
  sessions = ap (λ (b : StateView). length b.broker.sessions) same;
}

pub step_leaves : (k : ℕ) (c : StateChange) (t v : StateView) (n : ℕ) → t ≡ v → t.room.replicators ≤ n + change_replicators c → ChangeLeaves k c v.room (record t.room { replicators = n })
step_leaves k c t v n same few = record {
  room = omega (arith, ap (λ (b : StateView). (room_at b.room.subs k).room) same);
  replicators = omega (arith, few, ap (λ (b : StateView). b.room.replicators) same);
}

pub room_kept : (k : ℕ) (c : StateChange) (old new : Room) → new ≡ old → ChangeLeaves k c old new
room_kept k c old new same = record {
  room = omega (arith, ap (λ (r : Room). (room_at r.subs k).room) same);
  replicators = omega (arith, ap (λ (r : Room). r.replicators) same);
}

pub ack_leaves : (k y i : ℕ) (t v : StateView) (n : ℕ) → t ≡ v → n + 1 ≡ t.room.replicators → WriteLeaves k (state_write.ReplicatorAck y i) v.room (record t.room { replicators = n })
ack_leaves k y i t v n same taken = record {
  entries = omega (arith, ap (λ (b : StateView). b.room.entries) same);
  streams = omega (arith, ap (λ (b : StateView). b.room.streams) same);
  places = omega (arith, ap (λ (b : StateView). b.room.places) same);
  acks = omega (arith, ap (λ (b : StateView). (room_at b.room.subs k).acks) same);
  room = omega (arith, ap (λ (b : StateView). (room_at b.room.subs k).room) same);
  replicators = omega (arith, taken, ap (λ (b : StateView). b.room.replicators) same);
}

pub session_leaves : (k y session : ℕ) (t v : StateView) (n : ℕ) → t ≡ v → n + 0 ≡ t.room.replicators
    → WriteLeaves k (state_write.SessionNumber y session) v.room (record t.room { replicators = n })
session_leaves k y session t v n same taken = record {
  entries = omega (arith, ap (λ (b : StateView). b.room.entries) same);
  streams = omega (arith, ap (λ (b : StateView). b.room.streams) same);
  places = omega (arith, ap (λ (b : StateView). b.room.places) same);
  acks = omega (arith, ap (λ (b : StateView). (room_at b.room.subs k).acks) same);
  room = omega (arith, ap (λ (b : StateView). (room_at b.room.subs k).room) same);
  replicators = omega (arith, taken, ap (λ (b : StateView). b.room.replicators) same);
}
