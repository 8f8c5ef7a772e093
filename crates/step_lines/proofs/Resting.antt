-- Where all that an event writes is of replicators, its broker's entries and subscriptions rest, and only replicators are told.
use Rattle.std.proofs.Common.{◌≡◌, ℕ, ◌+◌, ◌<◌, ◌==◌, Bool, true, false, not, List, [], ◌∷◌, ◌++◌, length, map, filter, drop, refl, sym, ◌∙◌, ap, subst, arith}
use Rattle.std.proofs.Math.Seq.{drop-length}
use Rattle.std.proofs.lemmas.Bool.{eq-eqb, false≢true}
use Rattle.std.proofs.lemmas.List.{append-nil, get_or-set_same, length-map}
use Rattle.std.proofs.lemmas.Slice.Eq.{bytes_eq-Decides}
use Rattle.std.specs.Prelude.{◌&&◌, Option, Some, if◌then◌else◌, is_some, slice_get}
use Rattle.std.specs.Str.{bytes_eq}
use Rattle.broker.proofs.Ready.{idle_is}
use Rattle.broker.specs.Node.{BrokerView}
use Rattle.broker_state.specs.declared.write.StateWrite.{StateWrite}
use Rattle.broker_state.specs.declared.write.StateWrite.TheVariants as state_write
use Rattle.broker_state.specs.Plan.{PlanView, name_in}
use Rattle.broker_state.specs.Writes.{machine_write}
use Rattle.geo_base.specs.declared.change.Change.{Change}
use Rattle.geo_base.specs.declared.change.Change.TheVariants as change
use Rattle.geo_base.specs.declared.entry.Entry.{Entry}
use Rattle.geo_base.specs.declared.event.Event.{Event}
use Rattle.geo_base.specs.declared.frame.SubKind.{SubKind}
use Rattle.geo_base.specs.declared.frame.SubKind.TheVariants as sub_kind
use Rattle.geo_base.specs.declared.write.Write.TheVariants as write
use Rattle.geo_base.specs.Broker.{Broker, changed, no_broker, sub_named, written}
use Rattle.geo_base.specs.Cache.{cached}
use Rattle.geo_base.specs.Cursor.{backlog_from, mark}
use Rattle.geo_base.specs.Dispatcher.{given, skipped_index}
use Rattle.geo_base.specs.Entry.{is_data}
use Rattle.geo_base.specs.Happening.{broker_does, happens}
use Rattle.geo_base.specs.Plan.{Plan, all_changed, all_written, done}
use Rattle.geo_base.specs.Planned.{Planned}
use Rattle.geo_base.specs.Report.{entry_lines, sub_line}
use Rattle.geo_base.specs.Setup.{Setup}
use Rattle.geo_base.specs.Subscribing.{same_kind}
use Rattle.geo_base.specs.Subscription.{Subscription, after_acks, attached, cleared, detached, permitted}
use Rattle.geo_base.specs.World.{World, node, topic_at}
use Rattle.report_lines.proofs.Added.{drop_here}
use Rattle.script_text.specs.Scenario.{IsEvent}
use Rattle.step_laws.specs.Steps.{NewEntry, ReportChange, SubGone, SubNow, broker_changes, change_line, gone_subs, new_entries, other_replicators, other_subs, same_bool, same_sub, sub_unless_same}
use Rattle.step_lines.specs.declared.heads.Indent.{Indent}
use Rattle.step_lines.specs.declared.noted.NotedBroker.{NotedBroker}
use Rattle.step_lines.specs.Changes.{placed, stood_lines}
use Rattle.step_lines.specs.Noted.{AreReplicators, IsNoted}
use Rattle.step_lines.specs.Resting.{IsSeen, MayRest, Rests, are_apart, are_of_replicators, is_of_replicator}
use Rattle.world.proofs.Places.{in_range_is, node_below, stands_at}
use Rattle.world.specs.Foreseen.{IsForeseen}
use Rattle.world.specs.World.{IsAt, WorldView, kept_of, node_at}
use Rattle.kept_laws.proofs.Keeping.{done_is, event_plan}
use Rattle.kept_laws.specs.Events.{IsBrokers, cluster_of, node_of, plan_in, topic_of}
use Rattle.kept_laws.specs.Standing.{Stands}
use Rattle.world_laws.proofs.Dispatching.SubFrames.{at_name}
use Rattle.world_laws.proofs.OnceInOrder.Appends.{all_changed_entries}
use Rattle.world_laws.proofs.Replicating.Effects.{Each, each_map}
use Rattle.world_laws.proofs.Walks.Walk.{left, right}

-- ---- writes, from one on

write_at : (ws : List StateWrite) (i : ℕ) (w : StateWrite) → slice_get ws i ≡ Some w → are_of_replicators (drop i ws) ≡ (is_of_replicator w && are_of_replicators (drop (i + 1) ws))
write_at ws i w at = ap are_of_replicators (drop_here ws i w at)

pub of_replicators_here : (ws : List StateWrite) (i : ℕ) (w : StateWrite) (total : Bool) → slice_get ws i ≡ Some w → is_of_replicator w ≡ false → are_of_replicators (drop i ws) ≡ total → false ≡ total
of_replicators_here ws i w total at other before = sym (ap (λ (b : Bool). b && are_of_replicators (drop (i + 1) ws)) other) ∙ (sym (write_at ws i w at) ∙ before)

pub of_replicators_next : (ws : List StateWrite) (i : ℕ) (w : StateWrite) (total : Bool) → slice_get ws i ≡ Some w → is_of_replicator w ≡ true → are_of_replicators (drop i ws) ≡ total
    → are_of_replicators (drop (i + 1) ws) ≡ total
of_replicators_next ws i w total at same before = sym (ap (λ (b : Bool). b && are_of_replicators (drop (i + 1) ws)) same) ∙ (sym (write_at ws i w at) ∙ before)

-- ---- what changes in memory and writes of replicators leave of subscriptions

mapped_rest : (f : Subscription → Subscription) → ((v : Subscription) → cleared (f v) ≡ cleared v) → (vs : List Subscription) → map cleared (map f vs) ≡ map cleared vs
mapped_rest f same [] = refl
mapped_rest f same (v ∷ vs) =
    ap (λ (u : Subscription). u ∷ map cleared (map f vs)) (same v) ∙ ap (λ (us : List Subscription). cleared v ∷ us) (mapped_rest f same vs)

named_rest : (n : List ℕ) (f : Subscription → Subscription) → ((v : Subscription) → cleared (f v) ≡ cleared v) → (v : Subscription) → cleared (at_name n f v) ≡ cleared v
named_rest n f same v = by (bytes_eq v.name n)
  where
    by : (t : Bool) → cleared (if t then f v else v) ≡ cleared v
    by true = same v
    by false = refl

at_rest : (b : Broker) (n : List ℕ) (f : Subscription → Subscription) → ((v : Subscription) → cleared (f v) ≡ cleared v) → map cleared (map (at_name n f) b.subs) ≡ map cleared b.subs
at_rest b n f same = mapped_rest (at_name n f) (named_rest n f same) b.subs

change_rests : (b : Broker) (c : Change) → map cleared (changed b c).subs ≡ map cleared b.subs
change_rests b (change.Attach n k) = at_rest b n (attached k) (λ v. refl)
change_rests b (change.Detach c) = mapped_rest (detached c) (λ v. refl) b.subs
change_rests b (change.Permit n c permits) = at_rest b n (permitted c permits) (λ v. refl)
change_rests b (change.Skipped n i) = at_rest b n (skipped_index i) (λ v. refl)
change_rests b (change.Given n i at) = at_rest b n (given i at) (λ v. refl)
change_rests b (change.Cache n c) = at_rest b n (λ s. record s { cache = cached s.cache c }) (λ v. refl)
change_rests b (change.Acked n) = at_rest b n after_acks (λ v. refl)
change_rests b (change.Cleared n) = at_rest b n cleared (λ v. refl)
change_rests b change.Forget = mapped_rest cleared (λ v. refl) b.subs
change_rests b c = refl

pub changes_rest : (b : Broker) (cs : List Change) → map cleared (all_changed b cs).subs ≡ map cleared b.subs
changes_rest b [] = refl
changes_rest b (c ∷ cs) = changes_rest (changed b c) cs ∙ change_rests b c

-- writes of replicators change neither entries nor subscriptions
record SameParts (b a : Broker) : Type 0 where
  entries : a.entries ≡ b.entries
  subs : a.subs ≡ b.subs

writes_rest : (per : ℕ) (n : List ℕ) (es : List Entry) (b : Broker) (ws : List StateWrite) → are_of_replicators ws ≡ true → SameParts b (all_written per b (map (machine_write n es) ws))
writes_rest per n es b [] h = record { entries = refl; subs = refl }
writes_rest per n es b (state_write.ReplicatorAck y i ∷ ws) h =
    let rest = writes_rest per n es (written per b (write.ReplicatorAck y i)) ws h in record { entries = rest.entries; subs = rest.subs }
writes_rest per n es b (state_write.SessionNumber y session ∷ ws) h =
    let rest = writes_rest per n es (written per b (write.SessionNumber y session)) ws h in record { entries = rest.entries; subs = rest.subs }
writes_rest per n es b (state_write.Append e stream ∷ ws) h = absurd (false≢true h)
writes_rest per n es b (state_write.Create s latest ∷ ws) h = absurd (false≢true h)
writes_rest per n es b (state_write.Delete ∷ ws) h = absurd (false≢true h)
writes_rest per n es b (state_write.Sub w ∷ ws) h = absurd (false≢true h)
writes_rest per n es b (state_write.Ledger ∷ ws) h = absurd (false≢true h)

done_rests : (per : ℕ) (b : Broker) (q : Plan) (n : List ℕ) (ws : List StateWrite) → map (machine_write n b.entries) ws ≡ q.writes → are_of_replicators ws ≡ true → are_apart b.subs ≡ true
    → Rests b (done per b q)
done_rests per b q n ws is alone apart =
    let wrote = subst (λ (vs : _). SameParts b (all_written per b vs)) is (writes_rest per n b.entries b ws alone) in
    record {
      entries = all_changed_entries (all_written per b q.writes) q.changes ∙ wrote.entries;
      subs = changes_rest (all_written per b q.writes) q.changes ∙ ap (map cleared) wrote.subs;
      apart = apart;
    }

-- ---- what rests is not told

abbrev IsFound : List Subscription → Subscription → Type 0
IsFound vs v = sub_named vs v.name ≡ Some v

found_later : (v : Subscription) (vs : List Subscription) (u : Subscription) → not (is_some (sub_named vs v.name)) ≡ true → IsFound vs u → IsFound (v ∷ vs) u
found_later v vs u none found = by (bytes_eq v.name u.name) refl
  where
    by : (t : Bool) → bytes_eq v.name u.name ≡ t → (if t then Some v else sub_named vs u.name) ≡ Some u
    by false is = found
    by true is =
        let there : sub_named vs v.name ≡ Some u = ap (sub_named vs) ((bytes_eq-Decides v.name u.name).0 is) ∙ found in
        absurd (false≢true (sym (ap (λ (o : Option Subscription). not (is_some o)) there) ∙ none))

all_found : (vs : List Subscription) → are_apart vs ≡ true → Each (IsFound vs) vs
all_found [] h = tt
all_found (v ∷ vs) h =
    let none = left (not (is_some (sub_named vs v.name))) (are_apart vs) h in (
      ap (λ (t : Bool). if t then Some v else sub_named vs v.name) ((bytes_eq-Decides v.name v.name).1 refl),
      each_map (IsFound vs) (IsFound (v ∷ vs)) (λ u found. found_later v vs u none found) vs (all_found vs (right (not (is_some (sub_named vs v.name))) (are_apart vs) h)),
    )

abbrev first_of : List Subscription → List ℕ
first_of [] = []
first_of (v ∷ vs) = v.name

abbrev first_or : Subscription → List Subscription → Subscription
first_or d [] = d
first_or d (v ∷ vs) = v

abbrev rest_of : List Subscription → List Subscription
rest_of [] = []
rest_of (v ∷ vs) = vs

named_alike : (n : List ℕ) (vs us : List Subscription) → map cleared us ≡ map cleared vs → is_some (sub_named us n) ≡ is_some (sub_named vs n)
named_alike n [] [] same = refl
named_alike n [] (u ∷ us) same = absurd (omega (arith, ap length same))
named_alike n (v ∷ vs) [] same = absurd (omega (arith, ap length same))
named_alike n (v ∷ vs) (u ∷ us) same =
    ap (λ (m : List ℕ). is_some (if bytes_eq m n then Some u else sub_named us n)) (ap first_of same) ∙ by (bytes_eq v.name n) (named_alike n vs us (ap rest_of same))
  where
    by : (t : Bool) → is_some (sub_named us n) ≡ is_some (sub_named vs n) → is_some (if t then Some u else sub_named us n) ≡ is_some (if t then Some v else sub_named vs n)
    by true more = refl
    by false more = more

gone_rest : (b a : Broker) (xs : List Subscription) → map cleared a.subs ≡ map cleared b.subs → Each (IsFound b.subs) xs
    → map (λ (v : Subscription). SubGone v.name) (filter (λ (v : Subscription). not (is_some (sub_named a.subs v.name))) xs) ≡ []
gone_rest b a [] same found = refl
gone_rest b a (v ∷ xs) same found =
    let left_over : List Subscription = filter (λ (v : Subscription). not (is_some (sub_named a.subs v.name))) xs in
    let there : is_some (sub_named a.subs v.name) ≡ true = named_alike v.name b.subs a.subs same ∙ ap is_some found.0 in
    ap (λ (t : Bool). map (λ (v : Subscription). SubGone v.name) (if not t then v ∷ left_over else left_over)) there ∙ gone_rest b a xs same found.1

kind_self : (k : SubKind) → same_kind k k ≡ true
kind_self sub_kind.Exclusive = refl
kind_self sub_kind.Shared = refl
kind_self sub_kind.Failover = refl
kind_self sub_kind.KeyShared = refl

bool_self : (t : Bool) → same_bool t t ≡ true
bool_self true = refl
bool_self false = refl

-- what a report shows of v, in a topic of the entries es, is what it shows of one whose durable part is c, in one of the entries fs
abbrev same_parts : Subscription → List Entry → Subscription → List Entry → Bool
same_parts v es c fs =
    same_kind v.kind c.kind && same_bool v.replicated c.replicated && (mark v.cursor == mark c.cursor)
    && (backlog_from v.cursor 0 (map (λ (e : Entry). is_data e.content) es) == backlog_from c.cursor 0 (map (λ (e : Entry). is_data e.content) fs)) && (v.seeks == c.seeks)

parts_self : (v : Subscription) (es : List Entry) → same_parts v es v es ≡ true
parts_self v es =
    let n : ℕ = backlog_from v.cursor 0 (map (λ (e : Entry). is_data e.content) es) in
    rw (kind_self v.kind, bool_self v.replicated, eq-eqb (mark v.cursor) (mark v.cursor) refl, eq-eqb n n refl, eq-eqb v.seeks v.seeks refl) refl

sub_rests : (b a : Broker) (v u : Subscription) → a.entries ≡ b.entries → cleared u ≡ cleared v → same_sub b v a u ≡ true
sub_rests b a v u entries same =
    ap (λ (c : Subscription). same_parts v b.entries c a.entries) same
    ∙ (ap (λ (es : List Entry). same_parts v b.entries v es) entries ∙ parts_self v b.entries)

other_rest : (b a : Broker) (xs ys : List Subscription) → a.entries ≡ b.entries → map cleared ys ≡ map cleared xs → Each (IsFound b.subs) xs → other_subs b a ys ≡ []
other_rest b a [] [] entries same found = refl
other_rest b a [] (u ∷ ys) entries same found = absurd (omega (arith, ap length same))
other_rest b a (v ∷ xs) [] entries same found = absurd (omega (arith, ap length same))
other_rest b a (v ∷ xs) (u ∷ ys) entries same found =
    let part : cleared u ≡ cleared v = ap (first_or v) same in
    let there : sub_named b.subs u.name ≡ Some v = ap (sub_named b.subs) (ap (λ (c : Subscription). c.name) part) ∙ found.0 in
    ap (λ (o : Option Subscription). sub_unless_same b o a u ++ other_subs b a ys) there
    ∙ (ap (λ (t : Bool). (if t then [] else SubNow u.name (sub_line a u) ∷ []) ++ other_subs b a ys) (sub_rests b a v u entries part)
    ∙ other_rest b a xs ys entries (ap rest_of same) found.1)

rest_changes : (names : List (List ℕ)) (own : ℕ) (b a : Broker) → Rests b a → other_replicators own 0 names b a ≡ broker_changes names own b a
rest_changes names own b a rests =
    let found = all_found b.subs rests.apart in let n = length b.entries in
    let none : new_entries names b a ≡ [] =
    ap (λ (es : List Entry). map (λ (line : List ℕ). NewEntry line) (entry_lines names a.ledgers n es)) (ap (drop n) rests.entries ∙ drop-length b.entries) in
    let gone : gone_subs b a ≡ [] = gone_rest b a b.subs rests.subs found in
    let others : other_subs b a a.subs ≡ [] = other_rest b a b.subs a.subs rests.entries rests.subs found in
    let replicators = other_replicators own 0 names b a in
    sym
    (ap (λ (cs : List ReportChange). cs ++ (replicators ++ (gone_subs b a ++ other_subs b a a.subs))) none
    ∙ (ap (λ (cs : List ReportChange). replicators ++ (cs ++ other_subs b a a.subs)) gone
    ∙ (ap (λ (cs : List ReportChange). replicators ++ cs) others ∙ append-nil replicators)))

pub rest_lines : (names : List (List ℕ)) (own : ℕ) (b a : Broker) (i : Indent) (old : List ℕ) → Rests b a
    → old ++ stood_lines i (map change_line (other_replicators own 0 names b a)) ≡ old ++ stood_lines i (map change_line (broker_changes names own b a))
rest_lines names own b a i old rests = ap (λ (cs : List ReportChange). old ++ stood_lines i (map change_line cs)) (rest_changes names own b a rests)

-- and where no replicator is told either, nothing stands under the place
pub rest_nothing : (names : List (List ℕ)) (own : ℕ) (b a : Broker) (i : Indent) (place : List ℕ) (old : List ℕ) → Rests b a → other_replicators own 0 names b a ≡ []
    → old ≡ old ++ stood_lines i (placed place (broker_changes names own b a))
rest_nothing names own b a i place old rests none =
    sym (append-nil old) ∙ ap (λ (cs : List ReportChange). old ++ stood_lines i (placed place cs)) (sym none ∙ rest_changes names own b a rests)

-- ---- an event's broker

does_at : (s : Setup) (w : World) (p : Planned) → p.plan.idle ≡ false → node s p.topic p.cluster < length w.brokers
    → topic_at s (broker_does s w p) p.topic p.cluster ≡ done s.per_ledger (topic_at s w p.topic p.cluster) p.plan
unfolding broker_does
does_at s w p busy lt = rw busy (get_or-set_same w.brokers (node s p.topic p.cluster) (done s.per_ledger (topic_at s w p.topic p.cluster) p.plan) no_broker lt)

-- the event's broker after it
pub done_after : (s : Setup) (w : World) (old new : WorldView) (e : Event) (p : PlanView) → IsBrokers e → IsEvent s e → IsAt s old → IsAt s new → Stands s (kept_of old) w
    → Stands s (kept_of new) (happens s w e) → IsForeseen s w e (node_at old.brokers (node_of s e)) p → p.idle ≡ false
    → (node_at new.brokers (node_of s e)).broker ≡ done s.per_ledger (node_at old.brokers (node_of s e)).broker (plan_in s w e)
done_after s w old new e p brokers here at at' stands stands' f busy =
    let n = node_of s e in let v : BrokerView = node_at old.brokers n in let a : Broker = (node_at new.brokers n).broker in let y = topic_of s e in let x = cluster_of e in
    let low = node_below s old e at brokers here in
    let before : v.broker ≡ topic_at s w y x = stands_at s old w n stands low in
    let behind : a ≡ topic_at s (happens s w e) y x = stands_at s new (happens s w e) n stands' (node_below s new e at' brokers here) in
    let there : n < length w.brokers =
    subst (λ (m : ℕ). n < m) (sym (length-map old.brokers (λ (u : BrokerView). u.broker)) ∙ ap (λ (bs : List Broker). length bs) stands.brokers) low in
    let idle : (plan_in s w e).idle ≡ false = sym (idle_is v.site v.broker (plan_in s w e) p f.prepared) ∙ busy in
    let did : topic_at s (happens s w e) y x ≡ done s.per_ledger (topic_at s w y x) (plan_in s w e) =
    ap (λ (u : World). topic_at s u y x) (done_is s w e brokers (in_range_is s e here)) ∙ does_at s w (event_plan s w e) idle there in
    behind ∙ (did ∙ ap (λ (c : Broker). done s.per_ledger c (plan_in s w e)) (sym before))

pub rests_after : (s : Setup) (w : World) (old new : WorldView) (e : Event) (p : PlanView) → IsBrokers e → IsEvent s e → IsAt s old → IsAt s new → Stands s (kept_of old) w
    → Stands s (kept_of new) (happens s w e) → IsForeseen s w e (node_at old.brokers (node_of s e)) p → p.idle ≡ false → are_of_replicators p.writes ≡ true
    → are_apart (node_at old.brokers (node_of s e)).broker.subs ≡ true → Rests (node_at old.brokers (node_of s e)).broker (node_at new.brokers (node_of s e)).broker
rests_after s w old new e p brokers here at at' stands stands' f busy alone apart =
    let b : Broker = (node_at old.brokers (node_of s e)).broker in
    let rests : Rests b (done s.per_ledger b (plan_in s w e)) =
    done_rests s.per_ledger b (plan_in s w e) (name_in b.subs p) p.writes (ap (λ (q : Plan). q.writes) f.prepared.steps) alone apart in
    subst (λ (c : Broker). Rests b c) (sym (done_after s w old new e p brokers here at at' stands stands' f busy)) rests

pub may_rest : (r : Bool) (b a : Broker) → (r ≡ true → Rests b a) → MayRest r b a
may_rest true b a rests = rests refl
may_rest false b a rests = tt

pub seen_many : (r : Bool) (n : ℕ) (b : Broker) (k : NotedBroker) → IsSeen r n b k → length k.replicators.items ≡ n
seen_many true n b k seen = seen.many
seen_many false n b k seen = seen.replicators.many

-- what is noted and known where it is known whether it rests
pub as_replicators : (r : Bool) (n : ℕ) (b : Broker) (k : NotedBroker) → r ≡ true → IsSeen r n b k → AreReplicators n b k.replicators.items
as_replicators true n b k is seen = seen
as_replicators false n b k is seen = absurd (false≢true is)

pub as_noted : (r : Bool) (n : ℕ) (b : Broker) (k : NotedBroker) → r ≡ false → IsSeen r n b k → IsNoted n b k
as_noted true n b k is seen = absurd (false≢true (sym is))
as_noted false n b k is seen = seen

pub as_rests : (r : Bool) (b a : Broker) → r ≡ true → MayRest r b a → Rests b a
as_rests true b a is rests = rests
as_rests false b a is rests = absurd (false≢true is)

pub same_seen : (r q : Bool) (n : ℕ) (b : Broker) (k l : NotedBroker) → q ≡ r → l ≡ k → IsSeen r n b k → IsSeen q n b l
same_seen r q n b k l rests noted seen = subst (λ (m : NotedBroker). IsSeen q n b m) (sym noted) (subst (λ (t : Bool). IsSeen t n b k) (sym rests) seen)
