-- A consumer that joins a subscription.
use Rattle.std.proofs.Common.{◌≡◌, ℕ, ◌<◌, ◌≤◌, Bool, true, false, List, [], ◌∷◌, ◌++◌, length, refl, sym, ◌∙◌, ap, subst, arith}
use Rattle.std.specs.Prelude.{if◌then◌else◌, not, ◌&&◌, ◌||◌, Option, Some, None, slice_get}
use Rattle.std.specs.List.{list_any}
use Rattle.std.specs.Str.{bytes_eq}
use Rattle.std.proofs.lemmas.Bool.{lt-ltb}
use Rattle.std.proofs.lemmas.List.{length-map}
use Rattle.std.proofs.lemmas.Option.{none-some, same_Some, slice_get_past}
use Rattle.std.proofs.lemmas.Slice.Eq.{bytes_eq-Decides}
use Rattle.geo_base.specs.declared.frame.SubKind.{SubKind}
use Rattle.geo_base.specs.declared.frame.SubKind.TheVariants as sub_kind
use Rattle.geo_base.specs.declared.write.Write.{Write}
use Rattle.geo_base.specs.declared.write.Write.TheVariants as write
use Rattle.geo_base.specs.declared.session.Session.{Session}
use Rattle.geo_base.specs.Answers.{consumer_busy, refuses, unknown_error}
use Rattle.geo_base.specs.Broker.{Broker, Site, sub_named}
use Rattle.geo_base.specs.Name.{is_name}
use Rattle.geo_base.specs.Subscribing.{altering, has_room, is_busy, joins, same_kind, serve_subscribe, subscribes}
use Rattle.geo_base.specs.Subscription.{Subscription, is_attached, new_subscription}
use Rattle.dispatcher.specs.Dispatch.{turns_away}
use Rattle.broker_subs.specs.SubView.{SubView}
use Rattle.broker_subs.specs.Table.{names_of, room_at, sub_at}
use Rattle.broker_subs.specs.declared.writing.SubWrite.TheVariants as sub_write
use Rattle.broker_state.specs.Plan.{PlanView, name_in, quiet_view}
use Rattle.broker_packets.proofs.Shapes.{chosen, plan_at, with_name}
use Rattle.broker_subs.specs.declared.writing.SubWrite.{SubWrite}
use Rattle.broker_state.specs.Room.{HasRoom, Room}
use Rattle.broker_state.specs.declared.change.StateChange.{StateChange}
use Rattle.broker_state.specs.declared.write.StateWrite.TheVariants as state_write
use Rattle.broker_plans.specs.Prepared.{IsPrepared}
use Rattle.broker_plans.proofs.Places.{name_there, there}
use Rattle.broker_packets.specs.Subscribing.{alter_writes, altered, attach, denial, joining}
use Rattle.geo_base.proofs.Lists.{get_pushed}

-- ---- one that is created

abbrev pub create_view : ℕ → ℕ → ℕ → SubView → Bool → PlanView
create_view k c id sub latest = record (quiet_view k) { writes = state_write.Create sub latest ∷ []; changes = attach c id ∷ [] }

pub creates : (h : Site) (b : Broker) (c id : ℕ) (n : List ℕ) (kind : SubKind) (replicated latest : Bool) (sub : SubView) (p : PlanView) → sub_named b.subs n ≡ None → sub.sub ≡ new_subscription n kind replicated []
    → p ≡ create_view (length b.subs) c id sub latest
    → IsPrepared h b (joining c n id (write.Create n kind replicated latest ∷ [])) p
creates h b c id n kind replicated latest sub p missing new is =
    let past : slice_get b.subs (length b.subs) ≡ None = slice_get_past b.subs (length b.subs) (omega arith) in
    let many : length b.subs ≡ length (names_of b.subs) = sym (length-map b.subs (λ (s : Subscription). s.name)) in
    let last : slice_get (names_of b.subs ++ n ∷ []) (length b.subs) ≡ Some n = rw many (get_pushed (names_of b.subs) n) in
    let named : name_in b.subs (create_view (length b.subs) c id sub latest) ≡ n = rw past (ap (λ (t : Subscription). t.name) new) in
    rw is
    (with_name h b (joining c n id (write.Create n kind replicated latest ∷ [])) (create_view (length b.subs) c id sub latest) n named
    (ap (λ (t : Subscription). joining c n id (write.Create t.name t.kind t.replicated latest ∷ [])) new) tt
    (record { writes_named = ((many, ap (λ (t : Subscription). t.name) new), tt); changes_named = (rw new last, tt); writes = ((rw new refl, rw new missing), tt); changes = (tt, tt) })
    (record { writes = tt; changes = tt }))

pub create_room : (room : Room) (k c id : ℕ) (latest : Bool) (sub : SubView) (p : PlanView) → room.places ≡ 1 → sub.room ≡ 1 → 1 ≤ sub.acks
    → p ≡ create_view k c id sub latest → HasRoom room p
create_room room k c id latest sub p places own acks is =
    rw is (record { writes = record { entries = omega arith; streams = omega arith; places = omega (arith, places); acks = (acks, tt); replicators = omega arith }; given = omega (arith, own); replicators = omega arith })

pub create_is : (k j c id : ℕ) (latest : Bool) (sub : SubView) (x : StateChange) (q r p : PlanView) → j ≡ k → q ≡ quiet_view j → r ≡ record q { writes = q.writes ++ state_write.Create sub latest ∷ [] }
    → x ≡ attach c id → p ≡ record r { changes = r.changes ++ x ∷ [] } → p ≡ create_view k c id sub latest
create_is k j c id latest sub x q r p many quiet written comes is = is ∙ rw (written, quiet, many, comes) refl

-- a new subscription of a name that was made of the text n
pub new_of : (n m : List ℕ) (kind : SubKind) (replicated : Bool) (sub : SubView) → m ≡ n → sub.sub ≡ new_subscription m kind replicated [] → sub.sub ≡ new_subscription n kind replicated []
new_of n m kind replicated sub name new = new ∙ rw name refl

-- ---- one that is here

kind_is : (a b : SubKind) → same_kind a b ≡ true → a ≡ b
kind_is sub_kind.Exclusive sub_kind.Exclusive h = refl
kind_is sub_kind.Shared sub_kind.Shared h = refl
kind_is sub_kind.Failover sub_kind.Failover h = refl
kind_is sub_kind.KeyShared sub_kind.KeyShared h = refl
kind_is sub_kind.Exclusive sub_kind.Shared h = absurd cc
kind_is sub_kind.Exclusive sub_kind.Failover h = absurd cc
kind_is sub_kind.Exclusive sub_kind.KeyShared h = absurd cc
kind_is sub_kind.Shared sub_kind.Exclusive h = absurd cc
kind_is sub_kind.Shared sub_kind.Failover h = absurd cc
kind_is sub_kind.Shared sub_kind.KeyShared h = absurd cc
kind_is sub_kind.Failover sub_kind.Exclusive h = absurd cc
kind_is sub_kind.Failover sub_kind.Shared h = absurd cc
kind_is sub_kind.Failover sub_kind.KeyShared h = absurd cc
kind_is sub_kind.KeyShared sub_kind.Exclusive h = absurd cc
kind_is sub_kind.KeyShared sub_kind.Shared h = absurd cc
kind_is sub_kind.KeyShared sub_kind.Failover h = absurd cc

same_where_free : (x y : Bool) → (true && (not x || y)) ≡ false → x ≡ true
same_where_free true y h = refl
same_where_free false y h = absurd cc

-- where consumers are attached that it joins, the kind is theirs
free_kind : (s : Subscription) (kind : SubKind) → is_busy kind s ≡ false → 0 < length s.consumers → kind ≡ s.kind
free_kind s kind free some =
    let tested : (true && (not (same_kind kind s.kind) || same_kind kind sub_kind.Exclusive)) ≡ false =
    subst (λ (b : Bool). (b && (not (same_kind kind s.kind) || same_kind kind sub_kind.Exclusive)) ≡ false) (lt-ltb 0 (length s.consumers) some) free in
    kind_is kind s.kind (same_where_free (same_kind kind s.kind) (same_kind kind sub_kind.Exclusive) tested)

abbrev pub join_view : ℕ → ℕ → ℕ → Option SubWrite → PlanView
join_view k c id o = record (quiet_view k) { writes = alter_writes o; changes = attach c id ∷ [] }

abbrev alters : Subscription → SubKind → Bool → Bool → List Write
alters s kind r b = if b then [] else write.Alter s.name kind (s.replicated || r) ∷ []

altered_is : (h : Site) (b : Broker) (k c id : ℕ) (kind : SubKind) (r keep : Bool) (p : PlanView) → k < length b.subs → is_busy kind (sub_at b.subs k) ≡ false
    → p ≡ join_view k c id (if keep then None else Some (sub_write.Alter kind ((sub_at b.subs k).replicated || r)))
    → IsPrepared h b (joining c (sub_at b.subs k).name id (alters (sub_at b.subs k) kind r keep)) p
altered_is h b k c id kind r true p within free is =
    let n = (sub_at b.subs k).name in
    rw is
    (with_name h b (joining c n id []) (join_view k c id None) n (rw (there b.subs k within) refl) refl tt
    (record { writes_named = tt; changes_named = (name_there b.subs k within, tt); writes = tt; changes = (tt, tt) })
    (record { writes = tt; changes = tt }))
altered_is h b k c id kind r false p within free is =
    let s = sub_at b.subs k in
    rw is
    (with_name h b (joining c s.name id (write.Alter s.name kind (s.replicated || r) ∷ [])) (join_view k c id (Some (sub_write.Alter kind (s.replicated || r)))) s.name (rw (there b.subs k within) refl) refl tt
    (record { writes_named = (name_there b.subs k within, tt); changes_named = (name_there b.subs k within, tt); writes = ((refl, λ some. free_kind s kind free some), tt); changes = (tt, tt) })
    (record { writes = tt; changes = tt }))

pub joined : (h : Site) (b : Broker) (k c id : ℕ) (kind : SubKind) (r : Bool) (p : PlanView) → k < length b.subs → is_busy kind (sub_at b.subs k) ≡ false
    → p ≡ join_view k c id (altered (sub_at b.subs k) kind r)
    → IsPrepared h b (joining c (sub_at b.subs k).name id (altering (sub_at b.subs k) kind r)) p
joined h b k c id kind r p within free is = altered_is h b k c id kind r (same_kind kind (sub_at b.subs k).kind && ((sub_at b.subs k).replicated || not r)) p within free is

room_is : (room : Room) (k c id : ℕ) (kind : SubKind) (r keep : Bool) (p : PlanView) → (room_at room.subs k).room ≡ 1
    → p ≡ join_view k c id (if keep then None else Some (sub_write.Alter kind r)) → HasRoom room p
room_is room k c id kind r true p given is =
    rw is (record { writes = record { entries = omega arith; streams = omega arith; places = omega arith; acks = tt; replicators = omega arith }; given = omega (arith, given); replicators = omega arith })
room_is room k c id kind r false p given is =
    rw is (record { writes = record { entries = omega arith; streams = omega arith; places = omega arith; acks = (omega arith, tt); replicators = omega arith }; given = omega (arith, given); replicators = omega arith })

pub join_room : (room : Room) (k c id : ℕ) (s : Subscription) (kind : SubKind) (r : Bool) (p : PlanView) → (room_at room.subs k).room ≡ 1
    → p ≡ join_view k c id (altered s kind r) → HasRoom room p
join_room room k c id s kind r p given is = room_is room k c id kind (s.replicated || r) (same_kind kind s.kind && (s.replicated || not r)) p given is

pub join_is : (k c id : ℕ) (o u : Option SubWrite) (x : StateChange) (q p : PlanView) → o ≡ u → q ≡ record (quiet_view k) { writes = alter_writes o } → x ≡ attach c id → p ≡ record q { changes = q.changes ++ x ∷ [] }
    → p ≡ join_view k c id u
join_is k c id o u x q p same plan comes is = is ∙ rw (plan, same, comes) refl

-- ---- SUBSCRIBE

subscribe_served : (h : Site) (b : Broker) (c : ℕ) (s : Session) (topic n : List ℕ) (kind : SubKind) (id request : ℕ) (earliest replicated : Bool)
    → serve_subscribe h b c s topic n kind id request earliest replicated
    ≡ plan_at (denial h b c topic n) (λ code. refuses c s request code) (subscribes c s n kind id request earliest replicated (sub_named b.subs n))
subscribe_served h b c s topic n kind id request earliest replicated =
    chosen (not (bytes_eq topic h.topic && is_name n && has_room b n)) (list_any (is_attached c) b.subs) unknown_error consumer_busy (λ code. refuses c s request code)
    (subscribes c s n kind id request earliest replicated (sub_named b.subs n))

pub denied : (h : Site) (b : Broker) (c : ℕ) (s : Session) (topic n : List ℕ) (kind : SubKind) (id request : ℕ) (earliest replicated : Bool) (code : ℕ) → denial h b c topic n ≡ Some code
    → refuses c s request code ≡ serve_subscribe h b c s topic n kind id request earliest replicated
denied h b c s topic n kind id request earliest replicated code is =
    sym
    (subscribe_served h b c s topic n kind id request earliest replicated
    ∙ ap (λ (o : Option ℕ). plan_at o (λ k. refuses c s request k) (subscribes c s n kind id request earliest replicated (sub_named b.subs n))) is)

pub admitted : (h : Site) (b : Broker) (c : ℕ) (s : Session) (topic n : List ℕ) (kind : SubKind) (id request : ℕ) (earliest replicated : Bool) → denial h b c topic n ≡ None
    → subscribes c s n kind id request earliest replicated (sub_named b.subs n) ≡ serve_subscribe h b c s topic n kind id request earliest replicated
admitted h b c s topic n kind id request earliest replicated is =
    sym
    (subscribe_served h b c s topic n kind id request earliest replicated
    ∙ ap (λ (o : Option ℕ). plan_at o (λ k. refuses c s request k) (subscribes c s n kind id request earliest replicated (sub_named b.subs n))) is)

-- a name finds a subscription of that name
pub same_name : (ss : List Subscription) (n : List ℕ) (s : Subscription) → sub_named ss n ≡ Some s → s.name ≡ n
same_name [] n s h = absurd (none-some s h)
same_name (x ∷ xs) n s h = by (bytes_eq x.name n) refl h (same_name xs n s)
  where
    by : (t : Bool) → bytes_eq x.name n ≡ t → (if t then Some x else sub_named xs n) ≡ Some s → (sub_named xs n ≡ Some s → s.name ≡ n) → s.name ≡ n
    by true is e more = subst (λ (u : Subscription). u.name ≡ n) (same_Some x s e) ((bytes_eq-Decides x.name n).0 is)
    by false is e more = more e

neither : (a b : Bool) → (a || b) ≡ false → (a ≡ false) × (b ≡ false)
neither true b h = absurd cc
neither false b h = (refl, h)

-- a client that has no consumer has none at the subscription of a name
pub apart_named : (c : ℕ) (ss : List Subscription) (n : List ℕ) (s : Subscription) → list_any (is_attached c) ss ≡ false → sub_named ss n ≡ Some s → is_attached c s ≡ false
apart_named c [] n s none h = absurd (none-some s h)
apart_named c (x ∷ xs) n s none h =
    let apart = neither (is_attached c x) (list_any (is_attached c) xs) none in
    by (bytes_eq x.name n) h apart.0 (apart_named c xs n s apart.1)
  where
    by : (t : Bool) → (if t then Some x else sub_named xs n) ≡ Some s → is_attached c x ≡ false → (sub_named xs n ≡ Some s → is_attached c s ≡ false) → is_attached c s ≡ false
    by true e apart more = subst (λ (u : Subscription). is_attached c u ≡ false) (same_Some x s e) apart
    by false e apart more = more e

pub turned_away : (c : ℕ) (kind : SubKind) (s : Subscription) → is_attached c s ≡ false → turns_away c kind s ≡ is_busy kind s
turned_away c kind s apart = rw apart refl

pub busy_refused : (c : ℕ) (s : Session) (n : List ℕ) (kind : SubKind) (id request : ℕ) (earliest replicated : Bool) (v : Subscription) → is_busy kind v ≡ true
    → refuses c s request consumer_busy ≡ subscribes c s n kind id request earliest replicated (Some v)
busy_refused c s n kind id request earliest replicated v busy = ap (λ (t : Bool). if t then refuses c s request consumer_busy else joins c s n id request (altering v kind replicated)) (sym busy)

pub free_joins : (c : ℕ) (s : Session) (n : List ℕ) (kind : SubKind) (id request : ℕ) (earliest replicated : Bool) (v : Subscription) → v.name ≡ n → is_busy kind v ≡ false
    → joins c s v.name id request (altering v kind replicated) ≡ subscribes c s n kind id request earliest replicated (Some v)
free_joins c s n kind id request earliest replicated v named free =
    ap (λ (m : List ℕ). joins c s m id request (altering v kind replicated)) named
    ∙ ap (λ (t : Bool). if t then refuses c s request consumer_busy else joins c s n id request (altering v kind replicated)) (sym free)
