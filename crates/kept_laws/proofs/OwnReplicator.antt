-- The sender of a cluster to itself is never used.
use Rattle.std.proofs.Common.{◌≡◌, ℕ, suc, List, [], ◌∷◌, length, refl, sym, ap, subst, ◌∙◌, ◌==◌, arith}
use Rattle.std.specs.Prelude.{is_some}
use Rattle.std.proofs.lemmas.Bool.{eqb-true, eqb-false}
use Rattle.std.proofs.lemmas.Option.{none-some}
use Rattle.world_laws.proofs.Types.{Change, Packet, Write}
use Rattle.world_laws.proofs.Types.change
use Rattle.world_laws.proofs.Types.replicator_state
use Rattle.world_laws.proofs.Types.write
use Rattle.geo_base.specs.Broker.{Broker, Site, at_replicator, changed, replicator_at, sub_named, written}
use Rattle.geo_base.specs.Plan.{Plan, all_changed, all_written, done, quiet_plan}
use Rattle.geo_base.specs.Planned.{Planned}
use Rattle.geo_base.specs.Seeking.{restart}
use Rattle.geo_base.specs.Cursor.{with_index}
use Rattle.geo_base.specs.Replicator.{Replicator, new_replicator, pending_index, replicator_reset, replicator_restarted, replicator_sent, without_number}
use Rattle.geo_base.specs.Setup.{Setup, declared_at}
use Rattle.geo_base.specs.World.{World, site, topic_at}
use Rattle.world_laws.proofs.Replicating.Effects.{Each, each_both, each_map}
use Rattle.world_laws.proofs.Induction.Frames.{at_copies, at_map, at_set}
use Rattle.world_laws.proofs.TopicOrder.NoSelf.{remote_other}
use Rattle.world_laws.proofs.Replicating.Reach.{Incoming, IncomingChange, IncomingWrite, Outgoing, OutgoingChange, OutgoingWrite, fated_in, fated_out, offers_out, reads_out, resets_out, seeks_out, served_out, snaps_out}
use Rattle.world_laws.proofs.Walks.Shapes.{Answered, Fated, Reads, Shape}
use Rattle.world_laws.proofs.Walks.Walk.{by_test, on_if}
use Rattle.kept_laws.proofs.Steady.{Along, IsSteady}

abbrev pub IsUnused : ℕ → Broker → Type 0
IsUnused own b = replicator_at b own ≡ new_replicator

-- ---- what leaves it so

abbrev ElseWrite : ℕ → Write → Type 0
ElseWrite own (write.ReplicatorAck v i) = v ≡ own → ⊥
ElseWrite own (write.SessionNumber v n) = v ≡ own → ⊥
ElseWrite own w = Unit {0}

abbrev ElseChange : ℕ → Change → Type 0
ElseChange own (change.Opening v) = v ≡ own → ⊥
ElseChange own (change.Opened v) = v ≡ own → ⊥
ElseChange own (change.Pend v i) = v ≡ own → ⊥
ElseChange own (change.ReadTo v i) = v ≡ own → ⊥
ElseChange own (change.Unpend v n) = v ≡ own → ⊥
ElseChange own c = Unit {0}

record Else (own : ℕ) (p : Plan) : Type 0 where
  writes : Each (ElseWrite own) p.writes
  changes : Each (ElseChange own) p.changes

other_replicator : (own y : ℕ) (b : Broker) (f : Replicator → Replicator) → (y ≡ own → ⊥) → IsUnused own b → IsUnused own (at_replicator b y f)
other_replicator own y b f other h = at_set (λ (v : Replicator). v ≡ new_replicator) b.replicators y own (f (replicator_at b y)) new_replicator (λ is. absurd (other is)) h

written_else : (own per : ℕ) (b : Broker) (w : Write) → ElseWrite own w → IsUnused own b → IsUnused own (written per b w)
written_else own per b (write.ReplicatorAck y i) other h = other_replicator own y b (λ s. record s { cursor = with_index s.cursor i }) other h
written_else own per b (write.SessionNumber y n) other h = other_replicator own y b (λ s. record s { session = n }) other h
written_else own per b (write.Create n kind replicated latest) other h = on_if (IsUnused own) (is_some (sub_named b.subs n)) b _ h h
written_else own per b (write.Append e) other h = h
written_else own per b (write.Alter n kind replicated) other h = h
written_else own per b (write.Delete n) other h = h
written_else own per b (write.Acks n is) other h = h
written_else own per b (write.Seek n i) other h = h
written_else own per b write.Ledger other h = h

forgotten : (own : ℕ) (b : Broker) → IsUnused own b → IsUnused own (changed b change.Forget)
forgotten own b h =
    at_map (λ (v : Replicator). v ≡ new_replicator) replicator_restarted (λ v is. ap replicator_restarted is) b.replicators own new_replicator refl h

changed_else : (own : ℕ) (b : Broker) (c : Change) → ElseChange own c → IsUnused own b → IsUnused own (changed b c)
changed_else own b (change.Opening y) other h = other_replicator own y b replicator_reset other h
changed_else own b (change.Opened y) other h = other_replicator own y b (λ s. record s { state = replicator_state.Open }) other h
changed_else own b (change.Pend y i) other h = other_replicator own y b (replicator_sent i) other h
changed_else own b (change.ReadTo y i) other h = other_replicator own y b (λ s. record s { read_index = i }) other h
changed_else own b (change.Unpend y n) other h = other_replicator own y b (λ s. record s { pending = without_number s.pending n }) other h
changed_else own b change.Forget other h = forgotten own b h
changed_else own b (change.Receiver x r) other h = h
changed_else own b (change.Client c r) other h = h
changed_else own b (change.Attach n k) other h = h
changed_else own b (change.Detach c) other h = h
changed_else own b (change.Permit n c permits) other h = h
changed_else own b (change.Skipped n i) other h = h
changed_else own b (change.Given n i at) other h = h
changed_else own b (change.Cache n c) other h = h
changed_else own b (change.Acked n) other h = h
changed_else own b (change.Cleared n) other h = h
changed_else own b (change.Building u) other h = h

else_along : (own per : ℕ) (b : Broker) (ws : List Write) → Each (ElseWrite own) ws → IsUnused own b → Along (IsUnused own) per b ws
else_along own per b [] other h = tt
else_along own per b (w ∷ ws) other h = let k = written_else own per b w other.0 h in (k, else_along own per (written per b w) ws other.1 k)

else_written : (own per : ℕ) (b : Broker) (ws : List Write) → Each (ElseWrite own) ws → IsUnused own b → IsUnused own (all_written per b ws)
else_written own per b [] other h = h
else_written own per b (w ∷ ws) other h = else_written own per (written per b w) ws other.1 (written_else own per b w other.0 h)

else_changed : (own : ℕ) (b : Broker) (cs : List Change) → Each (ElseChange own) cs → IsUnused own b → IsUnused own (all_changed b cs)
else_changed own b [] other h = h
else_changed own b (c ∷ cs) other h = else_changed own (changed b c) cs other.1 (changed_else own b c other.0 h)

-- ---- what an event does

out_write : (own cluster z : ℕ) → (z ≡ own → ⊥) → (w : Write) → OutgoingWrite cluster z w → ElseWrite own w
out_write own cluster z other (write.ReplicatorAck v i) h = λ is. other (sym h ∙ is)
out_write own cluster z other (write.SessionNumber v n) h = λ is. other (sym h ∙ is)
out_write own cluster z other w h = tt

out_change : (own z : ℕ) → (z ≡ own → ⊥) → (c : Change) → OutgoingChange z c → ElseChange own c
out_change own z other (change.Opening v) h = λ is. other (sym h ∙ is)
out_change own z other (change.Opened v) h = λ is. other (sym h ∙ is)
out_change own z other (change.Pend v i) h = λ is. other (sym h ∙ is)
out_change own z other (change.ReadTo v i) h = λ is. other (sym h ∙ is)
out_change own z other (change.Unpend v n) h = λ is. other (sym h ∙ is)
out_change own z other c h = tt

out_else : (own cluster z : ℕ) (p : Plan) → (z ≡ own → ⊥) → Outgoing cluster z p → Else own p
out_else own cluster z p other o = record {
  writes = each_map (OutgoingWrite cluster z) (ElseWrite own) (out_write own cluster z other) p.writes o.writes;
  changes = each_map (OutgoingChange z) (ElseChange own) (out_change own z other) p.changes o.changes;
}

in_write : (own z : ℕ) (w : Write) → IncomingWrite z w → ElseWrite own w
in_write own z (write.ReplicatorAck v i) h = absurd h
in_write own z (write.SessionNumber v n) h = absurd h
in_write own z w h = tt

in_change : (own z : ℕ) (c : Change) → IncomingChange z c → ElseChange own c
in_change own z (change.Opening v) h = absurd h
in_change own z (change.Opened v) h = absurd h
in_change own z (change.Pend v i) h = absurd h
in_change own z (change.ReadTo v i) h = absurd h
in_change own z (change.Unpend v n) h = absurd h
in_change own z c h = tt

in_else : (own z : ℕ) (p : Plan) → Incoming z p → Else own p
in_else own z p o = record {
  writes = each_map (IncomingWrite z) (ElseWrite own) (in_write own z) p.writes o.writes;
  changes = each_map (IncomingChange z) (ElseChange own) (in_change own z) p.changes o.changes;
}

-- what reaches no sender
any_else : (own cluster : ℕ) (p : Plan) → Outgoing cluster (suc own) p → Else own p
any_else own cluster p o = out_else own cluster (suc own) p (λ is. omega (arith, is)) o

reads_else : (h : Site) (b : Broker) (y : ℕ) (q : Plan) → Reads h b y q → Else h.own q
reads_else h b y q Reads.NothingToRead = record { writes = tt; changes = tt }
reads_else h b y q (Reads.Forwards i e next out) = out_else h.own h.own y q (remote_other h y next.0) (reads_out h b y q (Reads.Forwards i e next out))
reads_else h b y q (Reads.Skips i e next other) = out_else h.own h.own y q (remote_other h y next.0) (reads_out h b y q (Reads.Skips i e next other))
reads_else h b y q (Reads.Responds i e id source next of is) = out_else h.own h.own y q (remote_other h y next.0) (reads_out h b y q (Reads.Responds i e id source next of is))
reads_else h b y q (Reads.Counts i e id answer u u' next is heard) =
    out_else h.own h.own y q (remote_other h y next.0) (reads_out h b y q (Reads.Counts i e id answer u u' next is heard))
reads_else h b y q (Reads.AsksAgain i e id answer u u' next is heard) =
    out_else h.own h.own y q (remote_other h y next.0) (reads_out h b y q (Reads.AsksAgain i e id answer u u' next is heard))
reads_else h b y q (Reads.Completes i e id answer u u' next is heard) =
    out_else h.own h.own y q (remote_other h y next.0) (reads_out h b y q (Reads.Completes i e id answer u u' next is heard))
reads_else h b y q (Reads.CreatesAt i j e n remote next is named) =
    out_else h.own h.own y q (remote_other h y next.0) (reads_out h b y q (Reads.CreatesAt i j e n remote next is named))
reads_else h b y q (Reads.ActsOnUpdate i j e n remote v ws next is named after) =
    out_else h.own h.own y q (remote_other h y next.0) (reads_out h b y q (Reads.ActsOnUpdate i j e n remote v ws next is named after))

-- an answer to a session that was never begun does nothing
answered_else : (own : ℕ) (b : Broker) (p : Packet) (q : Plan) → IsUnused own b → Answered b own p q → Else own q
answered_else own b p q h (Answered.Stale other) = record { writes = tt; changes = tt }
answered_else own b p q h (Answered.Other at other) = record { writes = tt; changes = tt }
answered_else own b p q h (Answered.Opened request name at is state) = absurd (never (ap (λ (v : Replicator). v.state) (sym h) ∙ state))
  where
    never : replicator_state.Closed ≡ replicator_state.Opening → ⊥
    never e = absurd cc
answered_else own b p q h (Answered.OpenBefore request name at is state) = record { writes = tt; changes = tt }
answered_else own b p q h (Answered.ClosedBefore request name at is state) = record { writes = tt; changes = tt }
answered_else own b p q h (Answered.Received id n i position at is pending) =
    absurd (none-some i (ap (λ (v : Replicator). pending_index v.pending n) (sym h) ∙ pending))
answered_else own b p q h (Answered.ReceivedBefore id n position at is pending) = record { writes = tt; changes = tt }

else_done : (own per : ℕ) (b : Broker) (p : Plan) → Else own p → IsUnused own b → IsUnused own (done per b p)
else_done own per b p other h = else_changed own (all_written per b p.writes) p.changes other.changes (else_written own per b p.writes other.writes h)

fated_else : (own per : ℕ) (b : Broker) (p : Packet) (q : Plan) → IsUnused own b → Fated per b (λ c. Answered c own p) (quiet_plan []) q → Else own q
fated_else own per b p q h (Fated.Once r t) = answered_else own b p r h t
fated_else own per b p q h Fated.Lost = record { writes = tt; changes = tt }
fated_else own per b p q h (Fated.Twice r r' t t') =
    let f = answered_else own b p r h t in
    let g = answered_else own (done per b r) p r' (else_done own per b r f h) t' in
    record { writes = each_both (ElseWrite own) r.writes r'.writes f.writes g.writes; changes = each_both (ElseChange own) r.changes r'.changes f.changes g.changes }

receipt_else : (own per y : ℕ) (b : Broker) (p : Packet) (q : Plan) → IsUnused own b → Fated per b (λ c. Answered c y p) (quiet_plan []) q → Else own q
receipt_else own per y b p q h t =
    by_test (y == own) (λ is. fated_else own per b p q h (subst (λ (z : ℕ). Fated per b (λ c. Answered c z p) (quiet_plan []) q) (eqb-true y own is) t))
    (λ is. out_else own own y q (eqb-false y own is) (fated_out per b own y p q t))

shape_else : (s : Setup) (w : World) (p : Planned) → Shape s w p → IsUnused p.cluster (topic_at s w p.topic p.cluster) → Else p.cluster p.plan
unfolding restart
shape_else s w p (Shape.Idle t x within) h = record { writes = tt; changes = tt }
shape_else s w p (Shape.Empty t x k within next) h = record { writes = tt; changes = tt }
shape_else s w p (Shape.Serve x c q plan within next served) h = any_else x x plan (served_out (site s (declared_at s c).topic x) _ c q (suc x) plan served)
shape_else s w p (Shape.Drop x c v within at) h = record { writes = tt; changes = (tt, (tt, tt)) }
shape_else s w p (Shape.Reset t x y within remote) h = out_else x x y _ (remote_other (site s t x) y remote) (resets_out (site s t x) x y _)
shape_else s w p (Shape.Read t x y plan within reads) h = reads_else (site s t x) _ y plan reads
shape_else s w p (Shape.Take t x y q plan within next taken) h = in_else y x plan (fated_in s.per_ledger (site s t y) _ x q plan taken)
shape_else s w p (Shape.Receipt t x y q plan within next answered) h = receipt_else x s.per_ledger y _ q plan h answered
shape_else s w p (Shape.Snap t x plan within snaps) h = any_else x x plan (snaps_out (site s t x) _ (suc x) plan snaps)
shape_else s w p (Shape.Offer t x n plan within offers) h = any_else x x plan (offers_out (site s t x) _ _ (suc x) plan offers)
shape_else s w p (Shape.Seek t x n to plan within seeks) h = any_else x x plan (seeks_out (site s t x) _ _ to (suc x) plan seeks)
shape_else s w p (Shape.Restart t x within) h = record { writes = (tt, tt); changes = (tt, tt) }

pub unused_steady : (s : Setup) → IsSteady s IsUnused
unused_steady s = record {
  opening = λ x. at_copies (λ (v : Replicator). v ≡ new_replicator) (length s.clusters) x new_replicator new_replicator refl refl;
  ledger = λ x b h. h;
  forgets = forgotten;
  writes = λ w p shape h. else_along p.cluster s.per_ledger (topic_at s w p.topic p.cluster) p.plan.writes (shape_else s w p shape h).writes h;
  changes = λ w p shape h b k. else_changed p.cluster b p.plan.changes (shape_else s w p shape h).changes k;
}
