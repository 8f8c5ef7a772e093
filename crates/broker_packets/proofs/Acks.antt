-- What ACK makes of the indexes that it names.
use Rattle.std.proofs.Common.{◌≡◌, ℕ, ◌+◌, ◌<◌, Bool, true, false, List, [], ◌∷◌, ◌++◌, length, refl, sym, ◌∙◌, ap, subst, arith}
use Rattle.std.specs.Prelude.{if◌then◌else◌, Option, Some, None, IfSome, Result, Ok, Err, is_err}
use Rattle.std.specs.List.{All}
use Rattle.std.proofs.lemmas.List.Elements.{All-push}
use Rattle.std.proofs.lemmas.Option.{none-some, same_Some}
use Rattle.std.proofs.lemmas.List.FromFn.{length-range_with_len}
use Rattle.geo_base.specs.declared.change.Change.TheVariants as change
use Rattle.geo_base.specs.declared.entry.Entry.{Entry}
use Rattle.geo_base.specs.declared.write.Write.{Write}
use Rattle.geo_base.specs.declared.write.Write.TheVariants as write
use Rattle.geo_base.specs.declared.frame.AckKind.{AckKind}
use Rattle.geo_base.specs.declared.frame.AckKind.TheVariants as ack_kind
use Rattle.geo_base.specs.declared.position.Position.{Position}
use Rattle.geo_base.specs.Acknowledging.{acked_indexes, acks, allows_cumulative, cumulative_indexes, up_to}
use Rattle.geo_base.specs.Broker.{Broker, Site}
use Rattle.geo_base.specs.Cursor.{below}
use Rattle.geo_base.specs.Name.{is_name}
use Rattle.geo_base.specs.Plan.{plan_of, quiet_plan}
use Rattle.geo_base.specs.Storing.{cursor_write}
use Rattle.geo_base.specs.Subscribing.{consumed_by}
use Rattle.geo_base.specs.Subscription.{Subscription, has_consumer}
use Rattle.dispatcher.specs.declared.fault.AckFault.{AckFault}
use Rattle.dispatcher.specs.declared.fault.AckFault.TheVariants as ack_fault
use Rattle.dispatcher.specs.Acks.{ack_answer, kind_answer}
use Rattle.broker_subs.specs.Steps.{SubWriteFits, machine_sub_write}
use Rattle.broker_subs.specs.Table.{names_of, sub_at}
use Rattle.broker_subs.specs.declared.changing.SubChange.TheVariants as sub_change
use Rattle.broker_subs.specs.declared.writing.SubWrite.{SubWrite}
use Rattle.broker_subs.specs.declared.writing.SubWrite.TheVariants as sub_write
use Rattle.broker_state.specs.Fits.{ChangesNamed}
use Rattle.broker_state.specs.Plan.{PlanView, quiet_view}
use Rattle.broker_state.specs.Room.{HasRoom, Room, WritesHaveRoom}
use Rattle.broker_state.specs.declared.change.StateChange.TheVariants as state_change
use Rattle.broker_state.specs.declared.write.StateWrite.{StateWrite}
use Rattle.broker_state.specs.Site.{IsSite}
use Rattle.broker_plans.specs.Prepared.{IsPrepared}
use Rattle.broker_plans.specs.Storable.{IsWritable}
use Rattle.broker_plans.specs.Updates.{cursor_writes, update_after}
use Rattle.broker_plans.proofs.Places.{name_there, there}
use Rattle.broker_plans.proofs.Updates.{cache_at, cursor_fits, cursor_named, cursor_names, cursor_steps, cursor_stored}
use Rattle.broker_packets.specs.Acknowledging.{WritesAcks}
use Rattle.broker_packets.proofs.Shapes.{with_name}

-- ---- the write

pub writes_none : (es : List Entry) (s : Subscription) (is : List ℕ) → is ≡ [] → WritesAcks es s is None
writes_none es s is e = WritesAcks.nothing e refl

pub each_of : (es : List Entry) (s : Subscription) (is : List ℕ) → 0 < length is → All (λ i. i < length es) is → WritesAcks es s is (Some (sub_write.Acks is))
each_of es s [] n within = absurd (omega arith)
each_of es s (i ∷ is) n within = WritesAcks.some i is (sub_write.Acks (i ∷ is)) refl refl refl within

pub writes_some : (es : List Entry) (s : Subscription) (is js : List ℕ) (o : Option SubWrite) → WritesAcks es s is o → is ≡ js → WritesAcks es s js o
writes_some es s is js o writes same = subst (λ (xs : List ℕ). WritesAcks es s xs o) same writes

some_of : (es : List Entry) (s : Subscription) (is : List ℕ) (w : SubWrite) → 0 < length is → machine_sub_write s.name es w ≡ write.Acks s.name is → SubWriteFits es s w → WritesAcks es s is (Some w)
some_of es s [] w n same fits = absurd (omega arith)
some_of es s (i ∷ is) w n same fits = WritesAcks.some i is w refl refl same fits

pub writes_to : (es : List Entry) (s : Subscription) (i : ℕ) → i < length es → WritesAcks es s (below (i + 1)) (Some (sub_write.AckTo i))
writes_to es s i within = some_of es s (below (i + 1)) (sub_write.AckTo i) (omega (arith, length-range_with_len 0 (i + 1))) refl within

pub to_some : (es : List Entry) (s : Subscription) (o : Option ℕ) (i : ℕ) → o ≡ Some i → IfSome o (λ j. j < length es) → WritesAcks es s (up_to o) (Some (sub_write.AckTo i))
to_some es s o i is h = subst (λ (x : Option ℕ). IfSome x (λ j. j < length es) → WritesAcks es s (up_to x) (Some (sub_write.AckTo i))) (sym is) (λ within. writes_to es s i within) h

-- the subscription that has the consumer which acknowledges
pub consumed : (ss : List Subscription) (c id : ℕ) (s : Subscription) → consumed_by ss c id ≡ Some s → has_consumer c id s ≡ true
consumed [] c id s h = absurd (none-some s h)
consumed (x ∷ xs) c id s h = by (has_consumer c id x) refl h (consumed xs c id s)
  where
    by : (t : Bool) → has_consumer c id x ≡ t → (if t then Some x else consumed_by xs c id) ≡ Some s → (consumed_by xs c id ≡ Some s → has_consumer c id s ≡ true) → has_consumer c id s ≡ true
    by true is e more = subst (λ (u : Subscription). has_consumer c id u ≡ true) (same_Some x s e) is
    by false is e more = more e

abbrev cumulative_answer : Bool → Result (Unit {0}) AckFault
cumulative_answer t = if t then Ok tt else Err ack_fault.CumulativeNotAllowed

abbrev answered : Bool → AckKind → Subscription → Result (Unit {0}) AckFault
answered b asked s = if b then kind_answer asked s else Err ack_fault.ConsumerNotFound

-- what is answered to it, by its kind and the subscription's
answer_is : (c id : ℕ) (asked : AckKind) (s : Subscription) (r : Result (Unit {0}) AckFault) → has_consumer c id s ≡ true → r ≡ ack_answer c id asked s → r ≡ kind_answer asked s
answer_is c id asked s r here told = told ∙ ap (λ (t : Bool). answered t asked s) here

-- one that is refused would acknowledge nothing
none_refused : (ledgers : List ℕ) (ps : List Position) (asked : AckKind) (s : Subscription) → is_err (kind_answer asked s) ≡ true → acked_indexes ledgers s.kind ps asked ≡ []
none_refused ledgers ps ack_kind.Individual s h = absurd cc
none_refused ledgers ps ack_kind.Cumulative s h = by (allows_cumulative s.kind) h
  where
    by : (t : Bool) → is_err (cumulative_answer t) ≡ true → (if t then cumulative_indexes ledgers ps else []) ≡ []
    by true e = absurd cc
    by false e = refl

pub refused_writes : (es : List Entry) (ledgers : List ℕ) (ps : List Position) (c id : ℕ) (asked : AckKind) (s : Subscription) (r : Result (Unit {0}) AckFault) → has_consumer c id s ≡ true
    → r ≡ ack_answer c id asked s → is_err r ≡ true → WritesAcks es s (acked_indexes ledgers s.kind ps asked) None
refused_writes es ledgers ps c id asked s r here told err =
    writes_none es s (acked_indexes ledgers s.kind ps asked) (none_refused ledgers ps asked s (sym (ap is_err (answer_is c id asked s r here told)) ∙ err))

-- one that is not acknowledges what it names
all_allowed : (ledgers : List ℕ) (ps : List Position) (s : Subscription) → is_err (kind_answer ack_kind.Cumulative s) ≡ false → acked_indexes ledgers s.kind ps ack_kind.Cumulative ≡ cumulative_indexes ledgers ps
all_allowed ledgers ps s h = by (allows_cumulative s.kind) h
  where
    by : (t : Bool) → is_err (cumulative_answer t) ≡ false → (if t then cumulative_indexes ledgers ps else []) ≡ cumulative_indexes ledgers ps
    by true e = refl
    by false e = absurd cc

pub allowed_writes : (es : List Entry) (ledgers : List ℕ) (ps : List Position) (c id : ℕ) (asked : AckKind) (s : Subscription) (r : Result (Unit {0}) AckFault) (o : Option SubWrite) → asked ≡ ack_kind.Cumulative
    → has_consumer c id s ≡ true → r ≡ ack_answer c id asked s → is_err r ≡ false → WritesAcks es s (cumulative_indexes ledgers ps) o → WritesAcks es s (acked_indexes ledgers s.kind ps asked) o
allowed_writes es ledgers ps c id asked s r o is here told ok writes =
    let allowed : is_err (kind_answer ack_kind.Cumulative s) ≡ false =
    sym (ap (λ (a : AckKind). is_err (kind_answer a s)) is) ∙ sym (ap is_err (answer_is c id asked s r here told)) ∙ ok in
    writes_some es s (cumulative_indexes ledgers ps) (acked_indexes ledgers s.kind ps asked) o writes
    (sym (ap (λ (a : AckKind). acked_indexes ledgers s.kind ps a) is ∙ all_allowed ledgers ps s allowed))

-- ---- the indexes

pub all_with : (n i : ℕ) (is : List ℕ) → All (λ j. j < n) is → i < n → All (λ j. j < n) (is ++ i ∷ [])
all_with n i is all h = All-push (λ (j : ℕ). j < n) is i all h

-- ---- the plan

pub no_acks : (h : Site) (b : Broker) (s : Subscription) (is : List ℕ) → is ≡ [] → acks h b s is ≡ quiet_plan []
no_acks h b s is e = rw e refl

pub some_acks : (h : Site) (b : Broker) (s : Subscription) (is : List ℕ) (i : ℕ) (more : List ℕ) → is ≡ i ∷ more
    → acks h b s is ≡ plan_of (cursor_write h b s (write.Acks s.name is)) (change.Acked s.name ∷ []) []
some_acks h b s is i more e = rw e refl

-- the event that writes the cursor of the subscription at place k
abbrev pub ack_view : ℕ → SubWrite → Option StateWrite → PlanView
ack_view k w o = record (quiet_view k) { writes = cursor_writes w o; changes = state_change.Sub sub_change.Acked ∷ [] }

pub acked : (h : Site) (b : Broker) (k : ℕ) (w : SubWrite) (p : PlanView) → IsSite h → IsWritable h b → k < length b.subs → is_name (sub_at b.subs k).name ≡ true → SubWriteFits b.entries (sub_at b.subs k) w
    → p ≡ ack_view k w (update_after h b k w (sub_at b.subs k).cache)
    → IsPrepared h b (plan_of (cursor_write h b (sub_at b.subs k) (machine_sub_write (sub_at b.subs k).name b.entries w)) (change.Acked (sub_at b.subs k).name ∷ []) []) p
acked h b k w p site writable within named fits is =
    let s = sub_at b.subs k in
    let names : ChangesNamed s.name k (names_of b.subs) (state_change.Sub sub_change.Acked ∷ []) = (name_there b.subs k within, tt) in
    let o = update_after h b k w s.cache in
    rw is
    (with_name h b (plan_of (cursor_write h b s (machine_sub_write s.name b.entries w)) (change.Acked s.name ∷ []) []) (ack_view k w o) s.name (rw (there b.subs k within) refl)
    (ap (λ (ws : List Write). plan_of ws (change.Acked s.name ∷ []) []) (cursor_steps h b k w s.cache)) tt
    (record {
      writes_named = cursor_named h b k w s.cache within;
      changes_named = rw (cursor_names h b k w s.cache (names_of b.subs)) names;
      writes = cursor_fits h.per_ledger h b s.name k w s.cache fits;
      changes = (tt, tt);
    })
    (record { writes = cursor_stored h b s b.entries w site named (cache_at h b.subs k writable.caches); changes = tt }))

pub ack_room : (room : Room) (k : ℕ) (w : SubWrite) (o : Option StateWrite) (p : PlanView) → WritesHaveRoom room k (cursor_writes w o) → p ≡ ack_view k w o → HasRoom room p
ack_room room k w o p writes is = rw is (record { writes = writes; given = omega arith; replicators = omega (arith, writes.replicators) })

pub ack_is : (k : ℕ) (w : SubWrite) (o : Option StateWrite) (q p : PlanView) → q ≡ record (quiet_view k) { writes = cursor_writes w o } → p ≡ record q { changes = q.changes ++ state_change.Sub sub_change.Acked ∷ [] } → p ≡ ack_view k w o
ack_is k w o q p begun is = is ∙ rw begun refl

pub after_is : (k : ℕ) (w : SubWrite) (o u : Option StateWrite) (p : PlanView) → o ≡ u → p ≡ ack_view k w o → p ≡ ack_view k w u
after_is k w o u p same is = is ∙ ap (λ (x : Option StateWrite). ack_view k w x) same
