-- A subscription that is here, or is created, acknowledges what another cluster could have had.
use Rattle.std.proofs.Common.{◌≡◌, ℕ, ◌+◌, ◌<◌, ◌≤◌, Bool, true, false, List, [], ◌∷◌, ◌++◌, length, map, refl, sym, ◌∙◌, ap, subst, arith}
use Rattle.std.specs.Prelude.{◌^◌, if◌then◌else◌, Option, Some, None, IfSome, slice_get, slice_index_or, slice_set}
use Rattle.std.specs.Str.{bytes_eq}
use Rattle.std.proofs.lemmas.List.{length-map, map-append}
use Rattle.std.proofs.lemmas.Option.{slice_get_past}
use Rattle.std.proofs.lemmas.Slice.Eq.{bytes_eq-Decides}
use Rattle.geo_base.specs.declared.change.Change.TheVariants as change
use Rattle.geo_base.specs.declared.entry.Entry.{Entry}
use Rattle.geo_base.specs.declared.frame.SubKind.TheVariants as sub_kind
use Rattle.geo_base.specs.declared.snapshot.CachedSnapshot.{CachedSnapshot}
use Rattle.geo_base.specs.declared.snapshot.Cut.{Cut}
use Rattle.geo_base.specs.declared.write.Write.{Write}
use Rattle.geo_base.specs.declared.write.Write.TheVariants as write
use Rattle.geo_base.specs.Broker.{Broker, Site, replicator_at, sub_named, written}
use Rattle.geo_base.specs.Cache.{last_passed}
use Rattle.geo_base.specs.Cursor.{mark, with_index}
use Rattle.geo_base.specs.Name.{is_name}
use Rattle.geo_base.specs.Plan.{Plan, all_written, plan_of}
use Rattle.geo_base.specs.Replicator.{Replicator, new_replicator}
use Rattle.geo_base.specs.Storing.{cursor_write}
use Rattle.geo_base.specs.Subscription.{Subscription, new_subscription}
use Rattle.geo_base.specs.Updating.{handled, updated_indexes, update_writes}
use Rattle.replicated_subs.specs.Alone.{alone}
use Rattle.broker_subs.specs.Steps.{sub_written}
use Rattle.broker_subs.specs.SubView.{SubView}
use Rattle.broker_subs.specs.Table.{names_of, sub_at}
use Rattle.broker_subs.specs.declared.changing.SubChange.TheVariants as sub_change
use Rattle.broker_subs.specs.declared.writing.SubWrite.{SubWrite}
use Rattle.broker_subs.specs.declared.writing.SubWrite.TheVariants as sub_write
use Rattle.broker_state.specs.Fits.{AllWritesFit, NamedFits, WritesNamed, all_names_after, names_after}
use Rattle.broker_state.specs.Plan.{PlanView, name_in, named_plan, quiet_view}
use Rattle.broker_state.specs.declared.change.StateChange.TheVariants as state_change
use Rattle.broker_state.specs.Room.{HasRoom, Room, WritesHaveRoom}
use Rattle.broker_state.specs.Writes.{machine_write}
use Rattle.broker_state.specs.declared.write.StateWrite.{StateWrite}
use Rattle.broker_state.specs.declared.write.StateWrite.TheVariants as state_write
use Rattle.broker_state.specs.Site.{IsSite}
use Rattle.broker_plans.specs.Prepared.{ArePackets, IsPrepared, unsent}
use Rattle.broker_plans.specs.Storable.{IsWritable, PlanStorable, WritesStorable}
use Rattle.broker_plans.specs.Updates.{IsAppend, cursor_writes, update_after, update_write, with_update}
use Rattle.broker_plans.proofs.Places.{name_there, there}
use Rattle.broker_plans.proofs.Updates.{cache_at, cursor_fits, cursor_named, cursor_names, cursor_steps, cursor_stored}
use Rattle.broker_tasks.specs.Reading.{IsReading, handled_view}
use Rattle.broker_tasks.specs.Updating.{acked_view, creating_writes, update_acks}
use Rattle.broker_tasks.proofs.Plans.{acked_replicator, reads_on}
use Rattle.geo_base.proofs.Lists.{get_pushed}

-- an event about a subscription whose name is known
with_name : (h : Site) (b : Broker) (plan : Plan) (p : PlanView) (n : List ℕ) → name_in b.subs p ≡ n → named_plan n b.entries p ≡ unsent plan → ArePackets h.clusters plan.sent p.sent
    → NamedFits h.per_ledger n b p → PlanStorable h plan → IsPrepared h b plan p
with_name h b plan p n is steps sent fits stored = record {
  steps = subst (λ (m : List ℕ). named_plan m b.entries p ≡ unsent plan) (sym is) steps;
  sent = sent;
  fits = subst (λ (m : List ℕ). NamedFits h.per_ledger m b p) (sym is) fits;
  stored = stored;
}

-- ---- a replicator's cursor is written after some writes

named_more : (n : List ℕ) (k y i : ℕ) (ns : List (List ℕ)) (ws : List StateWrite) → WritesNamed n k ns ws → WritesNamed n k ns (ws ++ state_write.ReplicatorAck y i ∷ [])
named_more n k y i ns [] all = (tt, tt)
named_more n k y i ns (w ∷ ws) all = (all.0, named_more n k y i (names_after k ns w) ws all.1)

names_more : (k y i : ℕ) (ns : List (List ℕ)) (ws : List StateWrite) → all_names_after k ns (ws ++ state_write.ReplicatorAck y i ∷ []) ≡ all_names_after k ns ws
names_more k y i ns [] = refl
names_more k y i ns (w ∷ ws) = names_more k y i (names_after k ns w) ws

fits_more : (per : ℕ) (n : List ℕ) (es : List Entry) (k y i : ℕ) (b : Broker) (ws : List StateWrite) → AllWritesFit per n es k b ws
    → y < length (all_written per b (map (machine_write n es) ws)).replicators → i + 1 < 2 ^ 64 → AllWritesFit per n es k b (ws ++ state_write.ReplicatorAck y i ∷ [])
fits_more per n es k y i b [] all within fits = ((within, fits), tt)
fits_more per n es k y i b (w ∷ ws) all within fits = (all.0, fits_more per n es k y i (written per b (machine_write n es w)) ws all.1 within fits)

stored_more : (h : Site) (y i : ℕ) (ws : List Write) → WritesStorable h ws → WritesStorable h (ws ++ write.ReplicatorAck y i ∷ [])
stored_more h y i [] all = tt
stored_more h y i (write.Append e ∷ ws) all = (all.0, stored_more h y i ws all.1)
stored_more h y i (write.Create n kind replicated latest ∷ ws) all = stored_more h y i ws all
stored_more h y i (write.Alter n kind replicated ∷ ws) all = stored_more h y i ws all
stored_more h y i (write.Delete n ∷ ws) all = stored_more h y i ws all
stored_more h y i (write.Acks n is ∷ ws) all = stored_more h y i ws all
stored_more h y i (write.Seek n j ∷ ws) all = stored_more h y i ws all
stored_more h y i (write.ReplicatorAck x j ∷ ws) all = stored_more h y i ws all
stored_more h y i (write.SessionNumber x session ∷ ws) all = stored_more h y i ws all
stored_more h y i (write.Ledger ∷ ws) all = stored_more h y i ws all

written_last : (per : ℕ) (b : Broker) (ws : List Write) (w : Write) → all_written per b (ws ++ w ∷ []) ≡ written per (all_written per b ws) w
written_last per b [] w = refl
written_last per b (v ∷ ws) w = written_last per (written per b v) ws w

-- the replicators then, where no write before touched one
replicators_acked : (per : ℕ) (n : List ℕ) (es : List Entry) (y i : ℕ) (b : Broker) (ws : List StateWrite) → (all_written per b (map (machine_write n es) ws)).replicators ≡ b.replicators
    → (all_written per b (map (machine_write n es) (ws ++ state_write.ReplicatorAck y i ∷ []))).replicators ≡ slice_set b.replicators y (acked_replicator b y i)
replicators_acked per n es y i b ws same =
    ap (λ (xs : List Write). (all_written per b xs).replicators) (map-append (machine_write n es) ws (state_write.ReplicatorAck y i ∷ []))
    ∙ ap (λ (c : Broker). c.replicators) (written_last per b (map (machine_write n es) ws) (write.ReplicatorAck y i))
    ∙ ap (λ (ss : List Replicator). slice_set ss y (record (slice_index_or ss y new_replicator) { cursor = with_index (slice_index_or ss y new_replicator).cursor i })) same

-- ---- a subscription that is here

update_replicators : (per : ℕ) (h : Site) (b now : Broker) (m n : List ℕ) (es : List Entry) (o : Option Cut) → (all_written per now (map (machine_write m es) (with_update (update_write h b n o)))).replicators ≡ now.replicators
update_replicators per h b now m n es None = refl
update_replicators per h b now m n es (Some cut) = refl

-- its cursor's write and the update touch no replicator
cursor_replicators : (per : ℕ) (h : Site) (b : Broker) (n : List ℕ) (k : ℕ) (cursor : List ℕ) (y j : ℕ) (cache : List CachedSnapshot)
    → (all_written per b (map (machine_write n b.entries) (cursor_writes (update_acks b.entries cursor y j) (update_after h b k (update_acks b.entries cursor y j) cache)))).replicators ≡ b.replicators
cursor_replicators per h b n k cursor y j cache =
    let s = sub_at b.subs k in
    let w = update_acks b.entries cursor y j in
    update_replicators per h b (written per b (write.Acks n (updated_indexes y 0 (j + 1) b.entries))) n s.name b.entries (if s.replicated then last_passed (mark (sub_written b.entries w s).cursor) cache else None)

-- where reading goes on, once the replicators are known
reads_behind : (b now : Broker) (y i : ℕ) → y < length b.replicators → (replicator_at b y).next ≤ i → now.replicators ≡ slice_set b.replicators y (acked_replicator b y i)
    → (y < length now.replicators) × ((replicator_at now y).next ≤ i + 1)
reads_behind b now y i within sent is = rw is (reads_on b.replicators y i (acked_replicator b y i) within sent)

abbrev pub acknowledging_view : Site → Broker → ℕ → ℕ → ℕ → PlanView
acknowledging_view h b k y j =
    let s = sub_at b.subs k in
    let w = update_acks b.entries s.cursor y j in
    acked_view k (cursor_writes w (update_after h b k w s.cache))

pub acknowledges : (h : Site) (b : Broker) (k y i j : ℕ) (p : PlanView) → IsSite h → IsWritable h b → IsReading h b y i → k < length b.subs → is_name (sub_at b.subs k).name ≡ true → j < length b.entries
    → p ≡ handled_view y i (acknowledging_view h b k y j)
    → IsPrepared h b (handled y i (cursor_write h b (sub_at b.subs k) (write.Acks (sub_at b.subs k).name (updated_indexes y 0 (j + 1) b.entries))) (change.Acked (sub_at b.subs k).name ∷ [])) p
acknowledges h b k y i j p site writable at within named stands is =
    let s = sub_at b.subs k in
    let w = update_acks b.entries s.cursor y j in
    let ws = cursor_writes w (update_after h b k w s.cache) in
    let machine = cursor_write h b s (write.Acks s.name (updated_indexes y 0 (j + 1) b.entries)) in
    let steps : map (machine_write s.name b.entries) (ws ++ state_write.ReplicatorAck y i ∷ []) ≡ machine ++ write.ReplicatorAck y i ∷ []
    = map-append (machine_write s.name b.entries) ws (state_write.ReplicatorAck y i ∷ []) ∙ ap (λ (xs : List Write). xs ++ write.ReplicatorAck y i ∷ []) (cursor_steps h b k w s.cache) in
    let same = cursor_replicators h.per_ledger h b s.name k s.cursor y j s.cache in
    rw is
    (with_name h b (handled y i machine (change.Acked s.name ∷ [])) (handled_view y i (acknowledging_view h b k y j)) s.name (rw (there b.subs k within) refl)
    (ap (λ (xs : List Write). plan_of xs (change.Acked s.name ∷ change.ReadTo y (i + 1) ∷ []) []) steps) tt
    (record {
      writes_named = named_more s.name k y i (names_of b.subs) ws (cursor_named h b k w s.cache within);
      changes_named = rw (names_more k y i (names_of b.subs) ws, cursor_names h b k w s.cache (names_of b.subs)) (name_there b.subs k within, (tt, tt));
      writes = fits_more h.per_ledger s.name b.entries k y i b ws (cursor_fits h.per_ledger h b s.name k w s.cache (stands, omega arith)) (rw same at.replicator) at.fits;
      changes = (tt, (reads_behind b (all_written h.per_ledger b (map (machine_write s.name b.entries) (ws ++ state_write.ReplicatorAck y i ∷ []))) y i at.replicator at.next (replicators_acked h.per_ledger s.name b.entries y i b ws same), tt));
    })
    (record { writes = stored_more h y i machine (cursor_stored h b s b.entries w site named (cache_at h b.subs k writable.caches)); changes = tt }))

pub acknowledges_room : (room : Room) (k y i : ℕ) (w : SubWrite) (o : Option StateWrite) (p : PlanView) → WritesHaveRoom room k (cursor_writes w o) → 1 ≤ room.replicators → IfSome o IsAppend
    → p ≡ handled_view y i (acked_view k (cursor_writes w o)) → HasRoom room p
acknowledges_room room k y i w None p has replicators appends is =
    rw is (record {
      writes = record { entries = omega arith; streams = omega arith; places = omega arith; acks = (has.acks.0, (tt, tt)); replicators = omega (arith, replicators) };
      given = omega arith;
      replicators = omega (arith, replicators);
    })
acknowledges_room room k y i w (Some (state_write.Append e stream)) p has replicators appends is =
    rw is (record {
      writes = record { entries = omega (arith, has.entries); streams = omega (arith, has.streams); places = omega arith; acks = (has.acks.0, (tt, (tt, tt))); replicators = omega (arith, replicators) };
      given = omega arith;
      replicators = omega (arith, replicators);
    })
acknowledges_room room k y i w (Some (state_write.Create s latest)) p has replicators appends is = absurd appends
acknowledges_room room k y i w (Some state_write.Delete) p has replicators appends is = absurd appends
acknowledges_room room k y i w (Some (state_write.Sub v)) p has replicators appends is = absurd appends
acknowledges_room room k y i w (Some (state_write.ReplicatorAck x j)) p has replicators appends is = absurd appends
acknowledges_room room k y i w (Some (state_write.SessionNumber x session)) p has replicators appends is = absurd appends
acknowledges_room room k y i w (Some state_write.Ledger) p has replicators appends is = absurd appends

-- the event, step by step
pub acknowledges_is : (k y i : ℕ) (w v : SubWrite) (o u : Option StateWrite) (q r p : PlanView) → q ≡ record (quiet_view k) { writes = cursor_writes w o }
    → r ≡ record q { changes = q.changes ++ state_change.Sub sub_change.Acked ∷ [] } → p ≡ handled_view y i r → w ≡ v → o ≡ u → p ≡ handled_view y i (acked_view k (cursor_writes v u))
acknowledges_is k y i w v o u q r p begun changed is write update = is ∙ rw (changed, begun, write, update) refl

-- the one that was found by its name has it
abbrev name_or : List ℕ → Option Subscription → List ℕ
name_or n None = n
name_or n (Some s) = s.name

name_first : (n : List ℕ) (t s : Subscription) (rest : Option Subscription) (e : Bool) → bytes_eq t.name n ≡ e → (rest ≡ Some s → s.name ≡ n) → (if e then Some t else rest) ≡ Some s → s.name ≡ n
name_first n t s rest true same later is = ap (name_or n) (sym is) ∙ (bytes_eq-Decides t.name n).0 same
name_first n t s rest false same later is = later is

name_found : (ss : List Subscription) (n : List ℕ) (s : Subscription) → sub_named ss n ≡ Some s → s.name ≡ n
name_found [] n s is = absurd cc
name_found (t ∷ ts) n s is = name_first n t s (sub_named ts n) (bytes_eq t.name n) refl (name_found ts n s) is

pub there_prepared : (h : Site) (b : Broker) (y i : ℕ) (n is : List ℕ) (s : Subscription) (p : PlanView) → sub_named b.subs n ≡ Some s
    → IsPrepared h b (handled y i (cursor_write h b s (write.Acks s.name is)) (change.Acked s.name ∷ [])) p
    → IsPrepared h b (handled y i (update_writes h b n is (sub_named b.subs n)) (change.Acked n ∷ [])) p
there_prepared h b y i n is s p found prepared =
    let named : s.name ≡ n = name_found b.subs n s found in
    rw found (subst (λ (m : List ℕ). IsPrepared h b (handled y i (cursor_write h b s (write.Acks m is)) (change.Acked m ∷ [])) p) named prepared)

pub missing_prepared : (h : Site) (b : Broker) (y i : ℕ) (n is : List ℕ) (p : PlanView) → sub_named b.subs n ≡ None
    → IsPrepared h b (handled y i (update_writes h b n is None) (change.Acked n ∷ [])) p
    → IsPrepared h b (handled y i (update_writes h b n is (sub_named b.subs n)) (change.Acked n ∷ [])) p
missing_prepared h b y i n is p missing prepared = rw missing prepared

-- ---- one that is created

abbrev pub created_sub : List ℕ → ℕ → ℕ → SubView
created_sub n room acks = record { sub = new_subscription n sub_kind.Exclusive true []; room = room; acks = acks }

last_sub : (ss : List Subscription) (s d : Subscription) → slice_index_or (ss ++ s ∷ []) (length ss) d ≡ s
last_sub [] s d = refl
last_sub (t ∷ ss) s d = last_sub ss s d

created_of : (h : Site) (b : Broker) (y i : ℕ) (n : List ℕ) (j room acks : ℕ) → IsReading h b y i → sub_named b.subs n ≡ None → j < length b.entries
    → IsPrepared h b (handled y i (update_writes h b n (updated_indexes y 0 (j + 1) b.entries) None) (change.Acked n ∷ []))
    (handled_view y i (acked_view (length b.subs) (creating_writes (created_sub n room acks) (update_acks b.entries [] y j))))
created_of h b y i n j room acks at missing stands =
    let past : slice_get b.subs (length b.subs) ≡ None = slice_get_past b.subs (length b.subs) (omega arith) in
    let many : length b.subs ≡ length (names_of b.subs) = sym (length-map b.subs (λ (s : Subscription). s.name)) in
    let last : slice_get (names_of b.subs ++ n ∷ []) (length b.subs) ≡ Some n = rw many (get_pushed (names_of b.subs) n) in
    let new = last_sub b.subs (new_subscription n sub_kind.Exclusive true []) (new_subscription [] sub_kind.Exclusive false []) in
    with_name h b (handled y i (update_writes h b n (updated_indexes y 0 (j + 1) b.entries) None) (change.Acked n ∷ []))
    (handled_view y i (acked_view (length b.subs) (creating_writes (created_sub n room acks) (update_acks b.entries [] y j)))) n (rw past refl)
    refl tt
    (record {
      writes_named = ((many, refl), (last, (tt, tt)));
      changes_named = (last, (tt, tt));
      writes = rw missing ((refl, refl), ((refl, (stands, rw new (omega arith))), ((at.replicator, at.fits), tt)));
      changes = rw missing (tt, (reads_on b.replicators y i (acked_replicator b y i) at.replicator at.next, tt));
    })
    (record { writes = tt; changes = tt })

created_is : (n : List ℕ) (sub : SubView) → sub.sub ≡ new_subscription n sub_kind.Exclusive true [] → sub ≡ created_sub n sub.room sub.acks
created_is n sub new = ap (λ (s : Subscription). record { sub = s; room = sub.room; acks = sub.acks }) new

pub created : (h : Site) (b : Broker) (y i : ℕ) (n : List ℕ) (j : ℕ) (sub : SubView) (p : PlanView) → IsReading h b y i → sub_named b.subs n ≡ None → j < length b.entries
    → sub.sub ≡ new_subscription n sub_kind.Exclusive true []
    → p ≡ handled_view y i (acked_view (length b.subs) (creating_writes sub (update_acks b.entries [] y j)))
    → IsPrepared h b (handled y i (update_writes h b n (updated_indexes y 0 (j + 1) b.entries) None) (change.Acked n ∷ [])) p
created h b y i n j sub p at missing stands new is =
    let w = update_acks b.entries [] y j in
    let plan = handled y i (update_writes h b n (updated_indexes y 0 (j + 1) b.entries) None) (change.Acked n ∷ []) in
    rw is
    (subst (λ (s : SubView). IsPrepared h b plan (handled_view y i (acked_view (length b.subs) (creating_writes s w)))) (sym (created_is n sub new))
    (created_of h b y i n j sub.room sub.acks at missing stands))

pub created_room : (room : Room) (es : List Entry) (k y i j : ℕ) (sub : SubView) (p : PlanView) → room.places ≡ 1 → 1 ≤ room.replicators → alone [] (updated_indexes y 0 (j + 1) es) + 1 ≤ sub.acks
    → p ≡ handled_view y i (acked_view k (creating_writes sub (update_acks es [] y j))) → HasRoom room p
created_room room es k y i j sub p places replicators acks is =
    rw is (record {
      writes = record { entries = omega arith; streams = omega arith; places = omega (arith, places); acks = (omega (arith, acks), (omega (arith, acks), (tt, tt))); replicators = omega (arith, replicators) };
      given = omega arith;
      replicators = omega (arith, replicators);
    })

-- the event, step by step
pub created_steps : (k y i j runs : ℕ) (sub : SubView) (q q' q'' r p : PlanView) → q ≡ quiet_view k → q' ≡ record q { writes = q.writes ++ state_write.Create sub false ∷ [] }
    → q'' ≡ record q' { writes = q'.writes ++ state_write.Sub (sub_write.UpdateTo j y runs) ∷ [] } → r ≡ record q'' { changes = q''.changes ++ state_change.Sub sub_change.Acked ∷ [] } → p ≡ handled_view y i r
    → p ≡ handled_view y i (acked_view k (creating_writes sub (sub_write.UpdateTo j y runs)))
created_steps k y i j runs sub q q' q'' r p quiet create write change is = is ∙ rw (change, write, create, quiet) refl
