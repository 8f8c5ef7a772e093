-- Backlogs are counted on over the durable writes of an event.
use Rattle.std.proofs.Common.{◌≡◌, ℕ, zero, suc, ◌+◌, ◌<◌, Bool, true, false, not, List, [], ◌∷◌, ◌++◌, length, map, drop, refl, sym, ◌∙◌, ap, arith}
use Rattle.std.proofs.lemmas.Bool.{false≢true}
use Rattle.std.proofs.lemmas.List.{length-map, map-append}
use Rattle.std.specs.Prelude.{◌&&◌, Some, if◌then◌else◌, filter, is_some, slice_get, unwrap_or, Option}
use Rattle.std.specs.Str.{bytes_eq}
use Rattle.broker_state.specs.declared.write.StateWrite.{StateWrite}
use Rattle.broker_state.specs.declared.write.StateWrite.TheVariants as state_write
use Rattle.broker_state.specs.Plan.{PlanView, name_in, name_or}
use Rattle.broker_state.specs.Writes.{machine_write}
use Rattle.broker_subs.specs.declared.writing.SubWrite.{SubWrite}
use Rattle.broker_subs.specs.declared.writing.SubWrite.TheVariants as sub_write
use Rattle.broker_subs.specs.Steps.{machine_sub_write, sub_written}
use Rattle.broker_subs.specs.SubView.{SubView}
use Rattle.broker_subs.specs.Table.{sub_at}
use Rattle.geo_base.specs.declared.entry.Entry.{Entry}
use Rattle.geo_base.specs.declared.write.Write.TheVariants as write
use Rattle.geo_base.specs.Broker.{Broker, backlog, sub_named, written}
use Rattle.geo_base.specs.Cursor.{backlog_from, below, has}
use Rattle.geo_base.specs.Entry.{is_data}
use Rattle.geo_base.specs.Plan.{all_written}
use Rattle.geo_base.specs.Subscription.{Subscription, new_subscription}
use Rattle.report_lines.proofs.Added.{drop_here}
use Rattle.step_lines.specs.Backlogs.{KnownBacklogs, after_writes, are_silent, backlog_with, backlog_written, backlogs_of, is_other, is_silent, known_at, nothing_known, wrote}
use Rattle.step_lines.specs.Counting.{open_messages}
use Rattle.world_laws.proofs.Walks.Walk.{left, right}

abbrev flags : List Entry → List Bool
flags es = map (λ (e : Entry). is_data e.content) es

abbrev one : Bool → ℕ
one b = if b then 1 else 0

-- ---- one entry more

split : (set : List ℕ) (i : ℕ) (xs : List Bool) (d : Bool) → backlog_from set i (xs ++ d ∷ []) ≡ backlog_from set i xs + one (d && not (has set (i + length xs)))
split set i [] d =
    let here : i + 0 ≡ i = omega arith in
    rw here (omega arith)
split set i (x ∷ xs) d =
    let next : i + 1 + length xs ≡ i + suc (length xs) = omega arith in
    let rest = rw next at (split set (i + 1) xs d) in
    omega (arith, rest)

with_one : (b : Broker) (e : Entry) (v : Subscription) → backlog_with b e v ≡ backlog b v + one (is_data e.content && not (has v.cursor (length b.entries)))
with_one b e v =
    let many : 0 + length (flags b.entries) ≡ length b.entries = omega (arith, length-map b.entries (λ (x : Entry). is_data x.content)) in
    ap (λ (ds : List Bool). backlog_from v.cursor 0 ds) (map-append (λ (x : Entry). is_data x.content) b.entries (e ∷ []))
    ∙ (split v.cursor 0 (flags b.entries) (is_data e.content) ∙ ap (λ (n : ℕ). backlog b v + one (is_data e.content && not (has v.cursor n))) many)

one_of : (d h : Bool) (x : ℕ) → d ≡ true → h ≡ false → x + one (d && not h) ≡ x + 1
one_of d h x shown free = rw (shown, free) refl

none_marker : (d h : Bool) (x : ℕ) → d ≡ false → x + one (d && not h) ≡ x
none_marker d h x marker = rw marker (omega arith)

none_acked : (d h : Bool) (x : ℕ) → h ≡ true → x + one (d && not h) ≡ x
none_acked true h x acked = rw acked (omega arith)
none_acked false h x acked = omega arith

pub with_open : (b : Broker) (e : Entry) (v : Subscription) → is_data e.content ≡ true → has v.cursor (length b.entries) ≡ false → backlog_with b e v ≡ backlog b v + 1
with_open b e v message free = with_one b e v ∙ one_of (is_data e.content) (has v.cursor (length b.entries)) (backlog b v) message free

pub with_acked : (b : Broker) (e : Entry) (v : Subscription) → has v.cursor (length b.entries) ≡ true → backlog_with b e v ≡ backlog b v
with_acked b e v acked = with_one b e v ∙ none_acked (is_data e.content) (has v.cursor (length b.entries)) (backlog b v) acked

pub with_marker : (b : Broker) (e : Entry) (v : Subscription) → is_data e.content ≡ false → backlog_with b e v ≡ backlog b v
with_marker b e v marker = with_one b e v ∙ none_marker (is_data e.content) (has v.cursor (length b.entries)) (backlog b v) marker

-- ---- writes that change no backlog

record SameBacklogs (b a : Broker) : Type 0 where
  subs : a.subs ≡ b.subs
  each : (v : Subscription) → backlog a v ≡ backlog b v

silent_write : (per : ℕ) (n : List ℕ) (es : List Entry) (b : Broker) (w : StateWrite) → is_silent w ≡ true → SameBacklogs b (written per b (machine_write n es w))
silent_write per n es b (state_write.Append e stream) is = record { subs = refl; each = λ v. with_marker b e v (marker (is_data e.content) is) }
  where
    marker : (t : Bool) → not t ≡ true → t ≡ false
    marker true h = sym h
    marker false h = refl
silent_write per n es b (state_write.ReplicatorAck y i) is = record { subs = refl; each = λ v. refl }
silent_write per n es b (state_write.SessionNumber y session) is = record { subs = refl; each = λ v. refl }
silent_write per n es b state_write.Ledger is = record { subs = refl; each = λ v. refl }
silent_write per n es b (state_write.Create s latest) is = absurd (false≢true is)
silent_write per n es b state_write.Delete is = absurd (false≢true is)
silent_write per n es b (state_write.Sub w) is = absurd (false≢true is)

silent_writes : (per : ℕ) (n : List ℕ) (es : List Entry) (b : Broker) (ws : List StateWrite) → are_silent ws ≡ true → SameBacklogs b (all_written per b (map (machine_write n es) ws))
silent_writes per n es b [] is = record { subs = refl; each = λ v. refl }
silent_writes per n es b (w ∷ ws) is =
    let first = silent_write per n es b w (left (is_silent w) (are_silent ws) is) in
    let rest = silent_writes per n es (written per b (machine_write n es w)) ws (right (is_silent w) (are_silent ws) is) in
    record { subs = rest.subs ∙ first.subs; each = λ v. rest.each v ∙ first.each v }

each_same : (f g : Subscription → ℕ) → ((v : Subscription) → f v ≡ g v) → (vs : List Subscription) → map f vs ≡ map g vs
each_same f g same [] = refl
each_same f g same (v ∷ vs) = ap (λ (n : ℕ). n ∷ map f vs) (same v) ∙ ap (λ (ns : List ℕ). g v ∷ ns) (each_same f g same vs)

backlogs_same : (b a : Broker) → SameBacklogs b a → backlogs_of a ≡ backlogs_of b
backlogs_same b a same = each_same (backlog a) (backlog b) same.each a.subs ∙ ap (map (backlog b)) same.subs

-- all writes, where the first was counted and the others are silent
pub first_counted : (per : ℕ) (b : Broker) (p : PlanView) (w : StateWrite) (counts : List ℕ) → slice_get p.writes 0 ≡ Some w → are_silent (drop 1 p.writes) ≡ true
    → counts ≡ backlogs_of (after_writes per b p (w ∷ [])) → counts ≡ backlogs_of (wrote per b p)
first_counted per b p w counts at silent counted = by p.writes at silent
  where
    n : List ℕ
    n = name_in b.subs p

    after : List StateWrite → Broker
    after ws = all_written per b (map (machine_write n b.entries) ws)

    by : (ws : List StateWrite) → slice_get ws 0 ≡ Some w → are_silent (drop 1 ws) ≡ true → counts ≡ backlogs_of (after ws)
    by [] at silent = absurd (cc)
    by (x ∷ ws) at silent =
        let is : x ≡ w = ap (λ (o : Option StateWrite). unwrap_or o x) at in
        counted
        ∙ (ap (λ (y : StateWrite). backlogs_of (after (y ∷ []))) (sym is)
        ∙ sym (backlogs_same (after (x ∷ [])) (after (x ∷ ws)) (silent_writes per n b.entries (after (x ∷ [])) ws silent)))

pub none_written : (per : ℕ) (b : Broker) (p : PlanView) → length p.writes ≡ 0 → wrote per b p ≡ b
none_written per b p none = by p.writes none
  where
    by : (ws : List StateWrite) → length ws ≡ 0 → all_written per b (map (machine_write (name_in b.subs p) b.entries) ws) ≡ b
    by [] none = refl
    by (w ∷ ws) none = absurd (omega (arith, none))

-- ---- a write of the subscription of a plan

mapped : (f : Subscription → ℕ) (g : Subscription → Subscription) (vs : List Subscription) → map (λ (v : Subscription). f (g v)) vs ≡ map f (map g vs)
mapped f g [] = refl
mapped f g (v ∷ vs) = ap (λ (ns : List ℕ). f (g v) ∷ ns) (mapped f g vs)

abbrev written_named : Broker → List ℕ → SubWrite → Subscription → Subscription
written_named b n w u = if bytes_eq u.name n then sub_written b.entries w u else u

sub_wrote : (per : ℕ) (b : Broker) (n : List ℕ) (w : SubWrite) → map (backlog b) (map (written_named b n w) b.subs) ≡ backlogs_of (written per b (machine_sub_write n b.entries w))
sub_wrote per b n (sub_write.Acks is) = refl
sub_wrote per b n (sub_write.AckTo i) = refl
sub_wrote per b n (sub_write.UpdateTo i from runs) = refl
sub_wrote per b n (sub_write.Seek i) = refl
sub_wrote per b n (sub_write.Alter kind replicated) = refl

pub sub_counted : (per : ℕ) (b : Broker) (p : PlanView) (v : Subscription) (w : SubWrite) → slice_get b.subs p.sub ≡ Some v
    → map (backlog_written b v.name w) b.subs ≡ backlogs_of (after_writes per b p (state_write.Sub w ∷ []))
sub_counted per b p v w at =
    let named : name_in b.subs p ≡ v.name = ap (λ (o : Option Subscription). name_or o p.writes) at in
    mapped (backlog b) (written_named b v.name w) b.subs
    ∙ (sub_wrote per b v.name w ∙ ap (λ (n : List ℕ). backlogs_of (written per b (machine_sub_write n b.entries w))) (sym named))

-- ---- a subscription that is deleted, and one that is created

pub deleted_counted : (per : ℕ) (b : Broker) (p : PlanView) (v : Subscription) → slice_get b.subs p.sub ≡ Some v
    → map (backlog b) (filter (is_other v.name) b.subs) ≡ backlogs_of (after_writes per b p (state_write.Delete ∷ []))
deleted_counted per b p v at =
    let named : name_in b.subs p ≡ v.name = ap (λ (o : Option Subscription). name_or o p.writes) at in
    ap (λ (n : List ℕ). backlogs_of (written per b (write.Delete n))) (sym named)

pub created_none : (per : ℕ) (b : Broker) (p : PlanView) (s : SubView) (latest : Bool) (counts : List ℕ) → is_some (sub_named b.subs s.sub.name) ≡ true → counts ≡ backlogs_of b
    → counts ≡ backlogs_of (after_writes per b p (state_write.Create s latest ∷ []))
created_none per b p s latest counts here are =
    let same : after_writes per b p (state_write.Create s latest ∷ []) ≡ b = rw here refl in
    are ∙ sym (ap backlogs_of same)

pub created_more : (per : ℕ) (b : Broker) (p : PlanView) (s : SubView) (latest : Bool) (first : ℕ) (old new : List ℕ) → is_some (sub_named b.subs s.sub.name) ≡ false
    → first ≡ (if latest then length b.entries else 0) → old ≡ backlogs_of b → new ≡ old ++ open_messages b.entries (below first) ∷ []
    → new ≡ backlogs_of (after_writes per b p (state_write.Create s latest ∷ []))
created_more per b p s latest first old new other is are added =
    let v : Subscription = new_subscription s.sub.name s.sub.kind s.sub.replicated (if latest then below (length b.entries) else []) in
    let after : Broker = record b { subs = b.subs ++ v ∷ [] } in
    let wrote : after_writes per b p (state_write.Create s latest ∷ []) ≡ after = rw other refl in
    added
    ∙ (ap (λ (ns : List ℕ). ns ++ open_messages b.entries (below first) ∷ []) are
    ∙ (ap (λ (n : ℕ). backlogs_of b ++ n ∷ []) (begins latest is)
    ∙ (sym (map-append (backlog b) b.subs (v ∷ [])) ∙ sym (ap backlogs_of wrote))))
  where
    begins : (t : Bool) → first ≡ (if t then length b.entries else 0) → open_messages b.entries (below first) ≡ open_messages b.entries (if t then below (length b.entries) else [])
    begins true is = ap (λ n. open_messages b.entries (below n)) is
    begins false is = ap (λ n. open_messages b.entries (below n)) is

-- ---- the writes of an event, from one on

silent_at : (ws : List StateWrite) (i : ℕ) (w : StateWrite) → slice_get ws i ≡ Some w → are_silent (drop i ws) ≡ (is_silent w && are_silent (drop (i + 1) ws))
silent_at ws i w at = ap are_silent (drop_here ws i w at)

pub silent_here : (ws : List StateWrite) (i : ℕ) (w : StateWrite) (total : Bool) → slice_get ws i ≡ Some w → is_silent w ≡ false → are_silent (drop i ws) ≡ total → false ≡ total
silent_here ws i w total at other before = sym (ap (λ (b : Bool). b && are_silent (drop (i + 1) ws)) other) ∙ (sym (silent_at ws i w at) ∙ before)

pub silent_next : (ws : List StateWrite) (i : ℕ) (w : StateWrite) (total : Bool) → slice_get ws i ≡ Some w → is_silent w ≡ true → are_silent (drop i ws) ≡ total
    → are_silent (drop (i + 1) ws) ≡ total
silent_next ws i w total at same before = sym (ap (λ (b : Bool). b && are_silent (drop (i + 1) ws)) same) ∙ (sym (silent_at ws i w at) ∙ before)

-- ---- the rows of all brokers

pub one_row_more : (ks : List KnownBacklogs) (k : ℕ) → known_at (ks ++ nothing_known ∷ []) k ≡ known_at ks k
one_row_more [] zero = refl
one_row_more [] (suc k) = refl
one_row_more (r ∷ ks) zero = refl
one_row_more (r ∷ ks) (suc k) = one_row_more ks k

-- ---- one of a broker's backlogs

pub backlog_there : (b : Broker) (cs : List ℕ) (k c : ℕ) → cs ≡ backlogs_of b → k < length b.subs → slice_get cs k ≡ Some c → c ≡ backlog b (sub_at b.subs k)
backlog_there b cs k c are lt at = by b.subs k lt (ap (λ (ds : List ℕ). slice_get ds k) (sym are) ∙ at)
  where
    by : (vs : List Subscription) (k : ℕ) → k < length vs → slice_get (map (backlog b) vs) k ≡ Some c → c ≡ backlog b (sub_at vs k)
    by [] k lt at = absurd (omega (arith, lt))
    by (v ∷ vs) zero lt at = ap (λ (o : Option ℕ). unwrap_or o c) (sym at)
    by (v ∷ vs) (suc k) lt at = by vs k (omega (arith, lt)) at

pub place_within : (b : Broker) (cs : List ℕ) (k : ℕ) → cs ≡ backlogs_of b → k < length b.subs → k < length cs
place_within b cs k are lt = let many : length cs ≡ length b.subs = ap length are ∙ length-map b.subs (backlog b) in omega (arith, many, lt)
