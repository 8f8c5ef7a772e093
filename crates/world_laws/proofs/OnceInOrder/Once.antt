-- Once and in order: writes that append accepted entries alone keep the order, and every event writes so.
use Rattle.std.proofs.Common.{◌≡◌, ℕ, zero, suc, ◌*◌, ◌<◌, true, List, [], ◌∷◌, ◌++◌, length, sym, subst, arith, inl, inr}
use Rattle.std.specs.Prelude.{Option, Some, None, ◌&&◌, ◌||◌, not, nat_lt, slice_get, take}
use Rattle.std.proofs.lemmas.Option.{none-some, same_Some}
use Rattle.std.proofs.lemmas.Bool.Decides.{nat_tests}
use Rattle.world_laws.proofs.Types.{Entry, Ident, Write}
use Rattle.world_laws.proofs.Types.write
use Rattle.geo_base.specs.Broker.{Broker, new_broker, no_broker}
use Rattle.geo_base.specs.Client.{Acted}
use Rattle.geo_base.specs.Entry.{same_stream}
use Rattle.geo_base.specs.Happening.{broker_does, broker_halts, client_does, stops}
use Rattle.geo_base.specs.Laws.{LawOnce}
use Rattle.geo_base.specs.Moments.{partly_written}
use Rattle.geo_base.specs.Plan.{Plan, all_written, done, halted}
use Rattle.geo_base.specs.Planned.{Planned}
use Rattle.geo_base.specs.Safe.{AllOnce, IsOnce}
use Rattle.geo_base.specs.Seeking.{restart}
use Rattle.geo_base.specs.Setup.{Setup}
use Rattle.geo_base.specs.Topic.{accepts}
use Rattle.geo_base.specs.World.{LinkName, ToClient, World, broker_at, node, opening_world}
use Rattle.world_laws.proofs.OnceInOrder.Appends.{after_writes, done_entries, fresh, fresh_halt, fresh_take, halted_entries, written_entries}
use Rattle.world_laws.proofs.Induction.Frames.{at_copies, at_map, at_set}
use Rattle.world_laws.proofs.OnceInOrder.Fresh.{Fresh, restart_fresh, shape_fresh}
use Rattle.world_laws.proofs.OnceInOrder.Members.{get_push}
use Rattle.world_laws.proofs.Induction.Runs.{IsKept, always}
use Rattle.world_laws.proofs.Walks.Shapes.{Shape}
use Rattle.world_laws.proofs.Walks.Walk.{left, on_if, right}

-- of two entries of one origin and producer the earlier has the smaller sequence id
abbrev pub OnceIn : List Entry → Type 0
OnceIn es = (i j : ℕ) (e f : Entry) → i < j → slice_get es i ≡ Some e → slice_get es j ≡ Some f → same_stream e.ident f.ident ≡ true → e.ident.seq < f.ident.seq

-- what an accepted entry is newer than
pub accepts_newer : (es : List Entry) (i : Ident) → accepts es i ≡ true → (k : ℕ) (a : Entry) → slice_get es k ≡ Some a → same_stream a.ident i ≡ true → a.ident.seq < i.seq
accepts_newer [] i h k a g s = absurd (none-some a g)
accepts_newer (e ∷ es) i h zero a g s =
    let e_is : e ≡ a = same_Some _ _ g in
    let P : Entry → Type 0 = λ e. ((not (same_stream e.ident i) || nat_lt e.ident.seq i.seq) && accepts es i) ≡ true in
    let h' : P a = subst P e_is h in
    grind (arith, nat_tests)
accepts_newer (e ∷ es) i h (suc k) a g s =
    accepts_newer es i (grind (arith, nat_tests)) k a g s

pub once_push : (es : List Entry) (e : Entry) → OnceIn es → accepts es e.ident ≡ true → OnceIn (es ++ e ∷ [])
once_push es e once ok i j a b lt ga gb same =
    elim (get_push es e i a ga) [
      | inl p ↦ elim (get_push es e j b gb) [
        | inl q ↦ once i j a b lt p.1 q.1 same
        | inr q ↦
            let P : Entry → Type 0 = λ b. same_stream a.ident b.ident ≡ true → a.ident.seq < b.ident.seq in
            subst P q.1 (accepts_newer es e.ident ok i a p.1) same
      ]
      | inr p ↦ elim (get_push es e j b gb) [
        | inl q ↦ absurd (omega (arith, p.0, q.0))
        | inr q ↦ absurd (omega (arith, p.0, q.0))
      ]
    ]

-- writes whose appends are accepted keep the order
after_once : (es : List Entry) (ws : List Write) → fresh es ws ≡ true → OnceIn es → OnceIn (after_writes es ws)
after_once es [] h once = once
after_once es (write.Append e ∷ ws) h once =
    after_once (es ++ e ∷ []) ws (right (accepts es e.ident) (fresh (es ++ e ∷ []) ws) h) (once_push es e once (left (accepts es e.ident) (fresh (es ++ e ∷ []) ws) h))
after_once es (w ∷ ws) h once = after_once es ws h once

done_once : (per : ℕ) (b : Broker) (p : Plan) → Fresh b p → IsOnce b → IsOnce (done per b p)
done_once per b p h once = subst OnceIn (sym (done_entries per b p)) (after_once b.entries p.writes h once)

halted_once : (per : ℕ) (b : Broker) (k : ℕ) (p : Plan) → Fresh b p → IsOnce b → IsOnce (halted per b k p)
halted_once per b k p h once =
    subst OnceIn (sym (halted_entries per b k p)) (after_once b.entries (take k p.writes ++ write.Ledger ∷ []) (fresh_halt b.entries k p.writes h) once)

-- after each single durable write
written_once : (per : ℕ) (b : Broker) (k : ℕ) (p : Plan) → Fresh b p → IsOnce b → IsOnce (all_written per b (take k p.writes))
written_once per b k p h once = subst OnceIn (sym (written_entries per b (take k p.writes))) (after_once b.entries (take k p.writes) (fresh_take b.entries k p.writes h) once)

empty_once : IsOnce no_broker
empty_once i j e f lt at at' same = absurd (none-some e at)

does_once : (s : Setup) (w : World) (p : Planned) → Shape s w p → AllOnce w → AllOnce (broker_does s w p)
unfolding broker_does
does_once s w p shape once z =
    on_if (λ (w' : World). IsOnce (broker_at w' z)) p.plan.idle _ _ (once z)
    (at_set IsOnce w.brokers (node s p.topic p.cluster) z _ no_broker
    (λ _. done_once s.per_ledger (broker_at w (node s p.topic p.cluster)) p.plan (shape_fresh s w p shape) (once (node s p.topic p.cluster))) (once z))

halts_once : (s : Setup) (w : World) (k : ℕ) (p : Planned) → Shape s w p → AllOnce w → AllOnce (broker_halts s w k p)
unfolding broker_halts
halts_once s w k p shape once z =
    at_set IsOnce w.brokers (node s p.topic p.cluster) z _ no_broker
    (λ _. halted_once s.per_ledger (broker_at w (node s p.topic p.cluster)) k p.plan (shape_fresh s w p shape) (once (node s p.topic p.cluster))) (once z)

pub writes_once : (s : Setup) (w : World) (k : ℕ) (p : Planned) → Shape s w p → AllOnce w → AllOnce (partly_written s w k (Some p))
writes_once s w k p shape once z =
    at_set IsOnce w.brokers (node s p.topic p.cluster) z _ no_broker
    (λ _. written_once s.per_ledger (broker_at w (node s p.topic p.cluster)) k p.plan (shape_fresh s w p shape) (once (node s p.topic p.cluster))) (once z)

client_once : (s : Setup) (w : World) (c : ℕ) (k : Option LinkName) (a : Acted) → AllOnce w → AllOnce (client_does s w c k a)
unfolding client_does
client_once s w c k a once z = on_if (λ (w' : World). IsOnce (broker_at w' z)) a.idle _ _ (once z) (once z)

stops_once : (s : Setup) (w : World) → AllOnce w → AllOnce (stops s w)
unfolding stops
stops_once s w once z =
    at_map IsOnce (λ b. done s.per_ledger b restart) (λ b o. done_once s.per_ledger b restart (restart_fresh b) o) w.brokers z no_broker empty_once (once z)

opening_once : (s : Setup) → AllOnce (opening_world s)
opening_once s z =
    at_copies IsOnce (length s.topics * length s.clusters) z (new_broker (length s.clusters) (length s.clients)) no_broker empty_once empty_once

pub once_kept : (s : Setup) → IsKept s AllOnce
once_kept s = record {
  opening = opening_once s;
  idle = λ w n once. once;
  round = λ w n once. once;
  does = does_once s;
  halts = halts_once s;
  goes = λ w c a once. client_once s w c None a once;
  gets = λ w c x a once. client_once s w c (Some (ToClient c x)) a once;
  stop = stops_once s;
}

-- at every moment
pub once_always : LawOnce
once_always s = always s AllOnce AllOnce (once_kept s) (λ w once. once) (writes_once s)
