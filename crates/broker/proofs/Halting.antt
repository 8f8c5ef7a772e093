-- A stop within a prepared event is an event that can be committed.
use Rattle.std.proofs.Common.{◌≡◌, ℕ, zero, suc, ◌+◌, ◌≤◌, List, [], ◌∷◌, ◌++◌, length, map, min, sym, subst, arith}
use Rattle.std.specs.Prelude.{take, false, slice_get}
use Rattle.geo_base.specs.declared.entry.Entry.{Entry}
use Rattle.geo_base.specs.Broker.{Broker, Site, written}
use Rattle.broker_subs.specs.Table.{names_of, room_at}
use Rattle.broker_subs.specs.declared.writing.SubWrite.TheVariants as sub_write
use Rattle.broker_state.specs.Fits.{AllWritesFit, NamedFits, WritesNamed, names_after}
use Rattle.broker_state.specs.Plan.{PlanView, halted_view, name_in, name_of}
use Rattle.broker_state.specs.Room.{AllAcksFit, HasRoom, Room, acks_left, entries_of, places_of, replicators_of, streams_of, total}
use Rattle.broker_state.specs.Writes.{machine_write}
use Rattle.broker_state.specs.declared.change.StateChange.TheVariants as state_change
use Rattle.broker_state.specs.declared.write.StateWrite.{StateWrite}
use Rattle.broker_state.specs.declared.write.StateWrite.TheVariants as state_write
use Rattle.broker_state.proofs.Halts.{same_name}
use Rattle.broker_plans.specs.Storable.{WritesStorable}
use Rattle.broker.specs.Node.{IsReady, BrokerView}

-- the first k writes, and the ledger that opens
abbrev pub halted_writes : ℕ → List StateWrite → List StateWrite
halted_writes k ws = take k ws ++ state_write.Ledger ∷ []

-- ---- what is stored can be written, whatever the event's subscription is called

stored_too : (h : Site) (n m : List ℕ) (es : List Entry) (k : ℕ) (ws : List StateWrite) → WritesStorable h (map (machine_write n es) ws) → WritesStorable h (map (machine_write m es) (halted_writes k ws))
stored_too h n m es zero ws ok = tt
stored_too h n m es (suc k) [] ok = tt
stored_too h n m es (suc k) (state_write.Append e stream ∷ ws) ok = (ok.0, stored_too h n m es k ws ok.1)
stored_too h n m es (suc k) (state_write.Create s latest ∷ ws) ok = stored_too h n m es k ws ok
stored_too h n m es (suc k) (state_write.Delete ∷ ws) ok = stored_too h n m es k ws ok
stored_too h n m es (suc k) (state_write.Sub (sub_write.Acks is) ∷ ws) ok = stored_too h n m es k ws ok
stored_too h n m es (suc k) (state_write.Sub (sub_write.AckTo i) ∷ ws) ok = stored_too h n m es k ws ok
stored_too h n m es (suc k) (state_write.Sub (sub_write.UpdateTo i from runs) ∷ ws) ok = stored_too h n m es k ws ok
stored_too h n m es (suc k) (state_write.Sub (sub_write.Seek i) ∷ ws) ok = stored_too h n m es k ws ok
stored_too h n m es (suc k) (state_write.Sub (sub_write.Alter kind replicated) ∷ ws) ok = stored_too h n m es k ws ok
stored_too h n m es (suc k) (state_write.ReplicatorAck y i ∷ ws) ok = stored_too h n m es k ws ok
stored_too h n m es (suc k) (state_write.SessionNumber y session ∷ ws) ok = stored_too h n m es k ws ok
stored_too h n m es (suc k) (state_write.Ledger ∷ ws) ok = stored_too h n m es k ws ok

-- ---- the steps fit

named_too : (n : List ℕ) (sub_index : ℕ) (ns : List (List ℕ)) (k : ℕ) (ws : List StateWrite) → WritesNamed n sub_index ns ws → WritesNamed n sub_index ns (halted_writes k ws)
named_too n sub_index ns zero ws ok = (tt, tt)
named_too n sub_index ns (suc k) [] ok = (tt, tt)
named_too n sub_index ns (suc k) (w ∷ ws) ok = (ok.0, named_too n sub_index (names_after sub_index ns w) k ws ok.1)

writes_fit_too : (per : ℕ) (n : List ℕ) (es : List Entry) (sub_index : ℕ) (b : Broker) (k : ℕ) (ws : List StateWrite) → AllWritesFit per n es sub_index b ws → AllWritesFit per n es sub_index b (halted_writes k ws)
writes_fit_too per n es sub_index b zero ws ok = (tt, tt)
writes_fit_too per n es sub_index b (suc k) [] ok = (tt, tt)
writes_fit_too per n es sub_index b (suc k) (w ∷ ws) ok = (ok.0, writes_fit_too per n es sub_index (written per b (machine_write n es w)) k ws ok.1)

-- the stop of an event about the subscription at a place
abbrev halted_at : ℕ → ℕ → List StateWrite → PlanView
halted_at sub_index k ws = record { idle = false; sub = sub_index; writes = halted_writes k ws; changes = state_change.Forget ∷ []; sent = [] }

-- a ledger alone fits under any name; after the first write at least, the stop is about the event's subscription
fits_too : (per : ℕ) (b : Broker) (sub_index k : ℕ) (ws : List StateWrite) → WritesNamed (name_of b.subs sub_index ws) sub_index (names_of b.subs) ws → AllWritesFit per (name_of b.subs sub_index ws) b.entries sub_index b ws
    → NamedFits per (name_of b.subs sub_index (halted_writes k ws)) b (halted_at sub_index k ws)
fits_too per b sub_index zero ws named fit = record { writes_named = (tt, tt); changes_named = (tt, tt); writes = (tt, tt); changes = (tt, tt) }
fits_too per b sub_index (suc k) [] named fit = record { writes_named = (tt, tt); changes_named = (tt, tt); writes = (tt, tt); changes = (tt, tt) }
fits_too per b sub_index (suc k) (w ∷ ws) named fit =
    let n : List ℕ = name_of b.subs sub_index (w ∷ ws) in
    subst (λ (m : List ℕ). NamedFits per m b (halted_at sub_index (suc k) (w ∷ ws))) (sym (same_name (slice_get b.subs sub_index) w (halted_writes k ws) ws))
    (record {
      writes_named = named_too n sub_index (names_of b.subs) (suc k) (w ∷ ws) named;
      changes_named = (tt, tt);
      writes = writes_fit_too per n b.entries sub_index b (suc k) (w ∷ ws) fit;
      changes = (tt, tt);
    })

-- ---- the steps find their room

few_too : (f : StateWrite → ℕ) (k : ℕ) (ws : List StateWrite) → total f (halted_writes k ws) ≤ total f ws + f state_write.Ledger
few_too f zero ws = omega arith
few_too f (suc k) [] = omega arith
few_too f (suc k) (w ∷ ws) = omega (arith, few_too f k ws)

few_each : (f : StateWrite → ℕ) → ((w : StateWrite) → f w ≤ 1) → (k : ℕ) (ws : List StateWrite) → total f (halted_writes k ws) ≤ min (length ws) k + f state_write.Ledger
few_each f one zero ws = omega arith
few_each f one (suc k) [] = omega arith
few_each f one (suc k) (w ∷ ws) = omega (arith, one w, few_each f one k ws)

one_entry : (w : StateWrite) → entries_of w ≤ 1
one_entry (state_write.Append e stream) = omega arith
one_entry (state_write.Create s latest) = omega arith
one_entry state_write.Delete = omega arith
one_entry (state_write.Sub w) = omega arith
one_entry (state_write.ReplicatorAck y i) = omega arith
one_entry (state_write.SessionNumber y session) = omega arith
one_entry state_write.Ledger = omega arith

one_stream : (w : StateWrite) → streams_of w ≤ 1
one_stream (state_write.Append e stream) = omega arith
one_stream (state_write.Create s latest) = omega arith
one_stream state_write.Delete = omega arith
one_stream (state_write.Sub w) = omega arith
one_stream (state_write.ReplicatorAck y i) = omega arith
one_stream (state_write.SessionNumber y session) = omega arith
one_stream state_write.Ledger = omega arith

acks_too : (acks : ℕ) (k : ℕ) (ws : List StateWrite) → AllAcksFit acks ws → AllAcksFit acks (halted_writes k ws)
acks_too acks zero ws ok = (tt, tt)
acks_too acks (suc k) [] ok = (tt, tt)
acks_too acks (suc k) (w ∷ ws) ok = (ok.0, acks_too (acks_left acks w) k ws ok.1)

-- each write that stays takes an entry or a ledger at most, and the ledger that opens one more
room_too : (old new : Room) (k n : ℕ) (p : PlanView) → HasRoom old p → n ≡ min (length p.writes) k + 1 → n ≤ new.entries → n ≤ new.streams
    → new ≡ record old { entries = new.entries; streams = new.streams } → HasRoom new (halted_view k p)
room_too old new k n p room count entries streams rest =
    let e : total entries_of (halted_writes k p.writes) ≤ new.entries = omega (arith, few_each entries_of one_entry k p.writes) in
    let s : total streams_of (halted_writes k p.writes) ≤ new.streams = omega (arith, few_each streams_of one_stream k p.writes) in
    rw rest (record {
      writes = record {
        entries = e;
        streams = s;
        places = omega (arith, few_too places_of k p.writes, room.writes.places);
        acks = acks_too (room_at old.subs p.sub).acks k p.writes room.writes.acks;
        replicators = omega (arith, few_too replicators_of k p.writes, room.writes.replicators);
      };
      given = omega arith;
      replicators = omega (arith, few_too replicators_of k p.writes, room.replicators);
    })

pub halted_ready : (v w : BrokerView) (k n : ℕ) (p : PlanView) → IsReady v p → n ≡ min (length p.writes) k + 1 → n ≤ w.room.entries → n ≤ w.room.streams
    → w.room ≡ record v.room { entries = w.room.entries; streams = w.room.streams } → w.broker ≡ v.broker → w.site ≡ v.site → IsReady w (halted_view k p)
halted_ready v w k n p is count entries streams rest broker site = record {
  room = room_too v.room w.room k n p is.room count entries streams rest;
  fits = rw (broker, site) (fits_too v.site.per_ledger v.broker p.sub k p.writes is.fits.writes_named is.fits.writes);
  stored = rw (broker, site) (record { writes = stored_too v.site (name_in v.broker.subs p) (name_in v.broker.subs (halted_view k p)) v.broker.entries k p.writes is.stored.writes; changes = tt });
}
