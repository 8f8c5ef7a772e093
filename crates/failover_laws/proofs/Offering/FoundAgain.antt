-- What passes over a marker finds its subscription again, with the index in its cursor, and appends an update or nothing.
use Rattle.std.proofs.Common.{◌≡◌, zero, suc, true, List, ◌∷◌, ◌++◌, refl, sym, subst, ℕ, []}
use Rattle.std.specs.Prelude.{Option, Some, None, slice_get}
use Rattle.std.specs.Str.{bytes_eq}
use Rattle.std.proofs.lemmas.Bool.{false≢true}
use Rattle.std.proofs.lemmas.Option.{none-some, same_Some}
use Rattle.world_laws.proofs.Types.{Change, Cut, Entry, Write}
use Rattle.world_laws.proofs.Types.change
use Rattle.world_laws.proofs.Types.write
use Rattle.geo_base.specs.Broker.{Broker, Site, changed, sub_named, written}
use Rattle.geo_base.specs.Cache.{cached}
use Rattle.geo_base.specs.Cursor.{with_indexes}
use Rattle.geo_base.specs.Dispatcher.{skipped_index}
use Rattle.geo_base.specs.Entry.{is_data}
use Rattle.geo_base.specs.Offering.{message}
use Rattle.geo_base.specs.Plan.{Plan, all_changed, all_written, done, plan_of}
use Rattle.geo_base.specs.Storing.{appending_update}
use Rattle.geo_base.specs.Subscription.{Subscription, after_acks, with_acks}
use Rattle.world_laws.proofs.Dispatching.Serving.{at_own, named_at}
use Rattle.world_laws.proofs.Dispatching.SubFrames.{at_name, sub_after, sub_changed, sub_then, sub_written}
use Rattle.world_laws.proofs.Replicating.Effects.{Each}
use Rattle.world_laws.proofs.TopicOrder.Added.{appended}
use Rattle.world_laws.proofs.Walks.Walk.{on_if}
use Rattle.failover_laws.proofs.Ending.Became.{done_entries}

abbrev KeepsName : Write → Type 0
KeepsName (write.Acks n is) = Unit {0}
KeepsName (write.Append e) = Unit {0}
KeepsName w = ⊥

abbrev pub NamesStay : Change → Type 0
NamesStay (change.Cache n c) = Unit {0}
NamesStay (change.Skipped n i) = Unit {0}
NamesStay (change.Acked n) = Unit {0}
NamesStay c = ⊥

found_written : (per : ℕ) (b : Broker) (n : List ℕ) (v : Subscription) (w : Write) → KeepsName w → sub_named b.subs n ≡ Some v → sub_named (written per b w).subs n ≡ Some (sub_written v w)
found_written per b n v (write.Acks m is) k h = named_at b.subs n m (with_acks is) v (λ u. refl) h
found_written per b n v (write.Append e) k h = h
found_written per b n v w k h = absurd k

found_after : (per : ℕ) (b : Broker) (n : List ℕ) (v : Subscription) (ws : List Write) → Each KeepsName ws → sub_named b.subs n ≡ Some v → sub_named (all_written per b ws).subs n ≡ Some (sub_after v ws)
found_after per b n v [] k h = h
found_after per b n v (w ∷ ws) k h = found_after per (written per b w) n (sub_written v w) ws k.1 (found_written per b n v w k.0 h)

found_changed : (b : Broker) (n : List ℕ) (v : Subscription) (c : Change) → NamesStay c → sub_named b.subs n ≡ Some v → sub_named (changed b c).subs n ≡ Some (sub_changed v c)
found_changed b n v (change.Cache m c) k h = named_at b.subs n m (λ s. record s { cache = cached s.cache c }) v (λ u. refl) h
found_changed b n v (change.Skipped m i) k h = named_at b.subs n m (skipped_index i) v (λ u. refl) h
found_changed b n v (change.Acked m) k h = named_at b.subs n m after_acks v (λ u. refl) h
found_changed b n v c k h = absurd k

found_then : (b : Broker) (n : List ℕ) (v : Subscription) (cs : List Change) → Each NamesStay cs → sub_named b.subs n ≡ Some v → sub_named (all_changed b cs).subs n ≡ Some (sub_then v cs)
found_then b n v [] k h = h
found_then b n v (c ∷ cs) k h = found_then (changed b c) n (sub_changed v c) cs k.1 (found_changed b n v c k.0 h)

found_done : (per : ℕ) (b : Broker) (n : List ℕ) (v : Subscription) (p : Plan) → Each KeepsName p.writes → Each NamesStay p.changes → sub_named b.subs n ≡ Some v
    → sub_named (done per b p).subs n ≡ Some (sub_then (sub_after v p.writes) p.changes)
found_done per b n v p k l h = found_then (all_written per b p.writes) n (sub_after v p.writes) p.changes l (found_after per b n v p.writes k h)

-- replicated, and its cursor is this set
pub record IsAt (set : List ℕ) (v : Subscription) : Type 0 where
  pub replicated : v.replicated ≡ true
  pub cursor : v.cursor ≡ set

changed_at : (set : List ℕ) (v : Subscription) (c : Change) → NamesStay c → IsAt set v → IsAt set (sub_changed v c)
changed_at set v (change.Cache m c) k h = on_if (IsAt set) (bytes_eq v.name m) _ _ (record { replicated = h.replicated; cursor = h.cursor }) h
changed_at set v (change.Skipped m i) k h = on_if (IsAt set) (bytes_eq v.name m) _ _ (record { replicated = h.replicated; cursor = h.cursor }) h
changed_at set v (change.Acked m) k h = on_if (IsAt set) (bytes_eq v.name m) _ _ (record { replicated = h.replicated; cursor = h.cursor }) h
changed_at set v c k h = absurd k

then_at : (set : List ℕ) (v : Subscription) (cs : List Change) → Each NamesStay cs → IsAt set v → IsAt set (sub_then v cs)
then_at set v [] k h = h
then_at set v (c ∷ cs) k h = then_at set (sub_changed v c) cs k.1 (changed_at set v c k.0 h)

update_stays : (h : Site) (b : Broker) (n : List ℕ) (o : Option Cut) (v : Subscription) → sub_after v (appending_update h b n o) ≡ v
update_stays h b n None v = refl
update_stays h b n (Some cut) v = refl

update_names : (h : Site) (b : Broker) (n : List ℕ) (o : Option Cut) → Each KeepsName (appending_update h b n o)
update_names h b n None = tt
update_names h b n (Some cut) = (tt, tt)

pub no_message : (h : Site) (b : Broker) (n : List ℕ) (o : Option Cut) (j : ℕ) (e : Entry) → slice_get (appended (appending_update h b n o)) j ≡ Some e → is_data e.content ≡ true → ⊥
no_message h b n None j e at message = none-some e at
no_message h b n (Some cut) zero e at message = false≢true (subst (λ (x : Entry). is_data x.content ≡ true) (sym (same_Some _ e at)) message)
no_message h b n (Some cut) (suc j) e at message = none-some e at

-- the plan that passes over the marker at index i, with or without a snapshot for the cache
abbrev pub passing_plan : Site → Broker → Subscription → ℕ → Option Cut → List Change → Plan
passing_plan h b v i o cs = plan_of (write.Acks v.name (i ∷ []) ∷ appending_update h b v.name o) cs []

pub record Passes (h : Site) (b : Broker) (n : List ℕ) (v : Subscription) (i : ℕ) (o : Option Cut) (c : Broker) : Type 0 where
  pub sub : Subscription
  pub here : sub_named c.subs n ≡ Some sub
  pub is : IsAt (with_indexes v.cursor (i ∷ [])) sub
  pub entries : c.entries ≡ b.entries ++ appended (appending_update h b v.name o)

pub plan_passes : (per : ℕ) (h : Site) (b : Broker) (n : List ℕ) (v : Subscription) (i : ℕ) (o : Option Cut) (cs : List Change) → Each NamesStay cs → sub_named b.subs n ≡ Some v → v.replicated ≡ true
    → Passes h b n v i o (done per b (passing_plan h b v i o cs))
plan_passes per h b n v i o cs stay here replicated = record {
  sub = sub_then (sub_after v (passing_plan h b v i o cs).writes) cs;
  here = found_done per b n v (passing_plan h b v i o cs) (tt, update_names h b v.name o) stay here;
  is = then_at (with_indexes v.cursor (i ∷ [])) _ cs stay
      (subst (IsAt (with_indexes v.cursor (i ∷ []))) (sym (update_stays h b v.name o (at_name v.name (with_acks (i ∷ [])) v)))
      (subst (IsAt (with_indexes v.cursor (i ∷ []))) (sym (at_own (with_acks (i ∷ [])) v)) (record { replicated = replicated; cursor = refl })));
  entries = done_entries per b (passing_plan h b v i o cs);
}
