-- An event lengthens topics, and changes no entry that is stored.
use Rattle.std.proofs.Common.{◌≡◌, ℕ, zero, suc, List, [], ◌∷◌, ◌++◌, map, sym, subst, ◌∙◌}
use Rattle.std.proofs.lemmas.List.{append-nil}
use Rattle.std.specs.Prelude.{Option, Some, None, slice_index_or, slice_set, take}
use Rattle.geo_base.specs.declared.entry.Entry.{Entry}
use Rattle.geo_base.specs.declared.event.Event.{Event}
use Rattle.geo_base.specs.declared.event.Event.TheVariants as event
use Rattle.geo_base.specs.declared.write.Write.TheVariants as write
use Rattle.geo_base.specs.Broker.{Broker, no_broker}
use Rattle.geo_base.specs.Client.{Acted}
use Rattle.geo_base.specs.Happening.{broker_does, broker_halts, client_does, does_planned, halts_planned, happens, stops}
use Rattle.geo_base.specs.Plan.{Plan, done, halted}
use Rattle.geo_base.specs.Planned.{Planned, has_client, planned}
use Rattle.geo_base.specs.Seeking.{restart}
use Rattle.geo_base.specs.Setup.{Setup}
use Rattle.geo_base.specs.World.{LinkName, World, broker_at, node}
use Rattle.world_laws.proofs.TopicOrder.Added.{after_is, appended}
use Rattle.world_laws.proofs.OnceInOrder.Appends.{done_entries, halted_entries}
use Rattle.world_laws.proofs.Induction.Frames.{at_set}
use Rattle.world_laws.proofs.Walks.Walk.{on_if}

-- one topic, from one broker to the next
pub record Longer (b b' : Broker) : Type 0 where
  pub more : List Entry
  pub is : b'.entries ≡ b.entries ++ more

-- all topics, by their brokers' numbers
abbrev pub AllLonger : List Broker → List Broker → Type 0
AllLonger bs bs' = (k : ℕ) → Longer (slice_index_or bs k no_broker) (slice_index_or bs' k no_broker)

same_longer : (b : Broker) → Longer b b
same_longer b = record { more = []; is = sym (append-nil b.entries) }

all_same : (bs : List Broker) → AllLonger bs bs
all_same bs k = same_longer (slice_index_or bs k no_broker)

done_longer : (per : ℕ) (b : Broker) (p : Plan) → Longer b (done per b p)
done_longer per b p = record { more = appended p.writes; is = done_entries per b p ∙ after_is b.entries p.writes }

halted_longer : (per : ℕ) (b : Broker) (k : ℕ) (p : Plan) → Longer b (halted per b k p)
halted_longer per b k p =
    let ws = take k p.writes ++ write.Ledger ∷ [] in
    record { more = appended ws; is = halted_entries per b k p ∙ after_is b.entries ws }

set_longer : (bs : List Broker) (n : ℕ) (b : Broker) → Longer (slice_index_or bs n no_broker) b → AllLonger bs (slice_set bs n b)
set_longer bs n b longer k =
    at_set (λ (c : Broker). Longer (slice_index_or bs k no_broker) c) bs n k b no_broker (λ is. subst (λ (j : ℕ). Longer (slice_index_or bs j no_broker) b) is longer)
    (same_longer (slice_index_or bs k no_broker))

map_longer : (f : Broker → Broker) → ((b : Broker) → Longer b (f b)) → (bs : List Broker) → AllLonger bs (map f bs)
map_longer f h [] k = same_longer no_broker
map_longer f h (b ∷ bs) zero = h b
map_longer f h (b ∷ bs) (suc k) = map_longer f h bs k

-- ---- events

broker_longer : (s : Setup) (w : World) (p : Planned) → AllLonger w.brokers (broker_does s w p).brokers
unfolding broker_does
broker_longer s w p =
    let n = node s p.topic p.cluster in
    on_if (λ (v : World). AllLonger w.brokers v.brokers) p.plan.idle _ _ (all_same w.brokers)
    (set_longer w.brokers n (done s.per_ledger (broker_at w n) p.plan) (done_longer s.per_ledger (broker_at w n) p.plan))

client_longer : (s : Setup) (w : World) (c : ℕ) (takes : Option LinkName) (a : Acted) → AllLonger w.brokers (client_does s w c takes a).brokers
unfolding client_does
client_longer s w c takes a = on_if (λ (v : World). AllLonger w.brokers v.brokers) a.idle _ _ (all_same w.brokers) (all_same w.brokers)

planned_longer : (s : Setup) (w : World) (o : Option Planned) → AllLonger w.brokers (does_planned s w o).brokers
planned_longer s w None = all_same w.brokers
planned_longer s w (Some p) = broker_longer s w p

pub happens_longer : (s : Setup) (w : World) (e : Event) → AllLonger w.brokers (happens s w e).brokers
unfolding happens
happens_longer s w (event.Go c) = on_if (λ (v : World). AllLonger w.brokers v.brokers) (has_client s c) _ _ (client_longer s w c _ _) (all_same w.brokers)
happens_longer s w (event.Reconnect c) = on_if (λ (v : World). AllLonger w.brokers v.brokers) (has_client s c) _ _ (client_longer s w c _ _) (all_same w.brokers)
happens_longer s w (event.Get c) = on_if (λ (v : World). AllLonger w.brokers v.brokers) (has_client s c) _ _ (client_longer s w c _ _) (all_same w.brokers)
happens_longer s w (event.Serve x c) = planned_longer s w (planned s w (event.Serve x c))
happens_longer s w (event.Drop x c) = planned_longer s w (planned s w (event.Drop x c))
happens_longer s w (event.Reset t x y) = planned_longer s w (planned s w (event.Reset t x y))
happens_longer s w (event.Read t x y) = planned_longer s w (planned s w (event.Read t x y))
happens_longer s w (event.Take t x y f) = planned_longer s w (planned s w (event.Take t x y f))
happens_longer s w (event.Receipt t x y f) = planned_longer s w (planned s w (event.Receipt t x y f))
happens_longer s w (event.Snap t x) = planned_longer s w (planned s w (event.Snap t x))
happens_longer s w (event.Offer t x n) = planned_longer s w (planned s w (event.Offer t x n))
happens_longer s w (event.Seek t x n to) = planned_longer s w (planned s w (event.Seek t x n to))
happens_longer s w (event.Restart t x) = planned_longer s w (planned s w (event.Restart t x))

pub halts_longer : (s : Setup) (w : World) (k : ℕ) (o : Option Planned) → AllLonger w.brokers (halts_planned s w k o).brokers
unfolding broker_halts
halts_longer s w k None = all_same w.brokers
halts_longer s w k (Some p) =
    let n = node s p.topic p.cluster in
    set_longer w.brokers n (halted s.per_ledger (broker_at w n) k p.plan) (halted_longer s.per_ledger (broker_at w n) k p.plan)

pub stops_longer : (s : Setup) (w : World) → AllLonger w.brokers (stops s w).brokers
unfolding stops
stops_longer s w = map_longer (λ (b : Broker). done s.per_ledger b restart) (λ b. done_longer s.per_ledger b restart) w.brokers
