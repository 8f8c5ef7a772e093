-- One write of the machine, told by its line: an audit that accepts the line sees after it what the write leaves.
use Rattle.std.proofs.Common.{◌≡◌, ℕ, zero, suc, ◌+◌, ◌-◌, ◌<◌, ◌≤◌, Bool, true, false, List, [], ◌∷◌, ◌++◌, length, map, filter, refl, sym, ap, ◌∙◌, arith, not}
use Rattle.std.specs.Prelude.{Option, Some, None, if◌then◌else◌, find, is_none, is_some, nat_le, nat_lt, slice_index_or, slice_set, Ok}
use Rattle.std.specs.Str.{bytes_eq}
use Rattle.std.proofs.lemmas.Bool.Decides.{nat_tests}
use Rattle.std.proofs.lemmas.List.{map-append, map-set}
use Rattle.world_laws.proofs.Types.{Entry, Position, Write}
use Rattle.world_laws.proofs.Types.write
use Rattle.geo_base.specs.Broker.{Broker, no_broker, sub_named, written}
use Rattle.geo_base.specs.Cursor.{below, with_indexes}
use Rattle.geo_base.specs.Plan.{all_written}
use Rattle.geo_base.specs.Setup.{Setup}
use Rattle.geo_base.specs.Subscription.{Subscription, new_subscription, sought, with_acks}
use Rattle.geo_base.specs.Topic.{next_position, or_first, position_at, position_from}
use Rattle.geo_base.specs.World.{site}
use Rattle.world_laws.proofs.Snapshotting.Answering.{Numbered}
use Rattle.world_laws.proofs.Replicating.Effects.{Each}
use Rattle.world_laws.proofs.Dispatching.SubFrames.{at_name}
use Rattle.world_laws.proofs.Walks.Walk.{on_if}
use Rattle.geo_base.specs.declared.planned.Cause.{Cause}
use Rattle.geo_base.specs.TraceItems.{Acks, Act, Appends, Creates, Deletes, Item, Seeks, Writes}
use Rattle.geo_base.specs.Traced.{act_of, acts_of, cursor_of, gained, snapshot_told, told_at}
use Rattle.geo_base.specs.Mirror.{Mirror, MirrorSub, Mirrors, acted, mirror_at, no_mirror, mirror_number, told, with_cursor}
use Rattle.geo_base.specs.Audit.{act_refused, judged, refused, unless_broken}
use Rattle.geo_base.specs.Run.{or_else}
use Rattle.audit.specs.Strict.{act_gaps, audited_from_by, may_follow, refused_by}
use Rattle.audit.specs.declared.strictness.Strictness.TheVariants as strictness
use Rattle.trace_laws.specs.Seen.{positions_in, seen, sub_seen}
use Rattle.trace_laws.proofs.Gained.{gains_same}
use Rattle.trace_laws.proofs.Places.{positions_more}
use Rattle.cursor_acks.proofs.Sets.{Rising}

-- what an audit sees where topic t at x has broker b, among these brokers, at event n
abbrev pub seen_with : Setup → List Broker → ℕ → ℕ → ℕ → Broker → Mirrors
seen_with s bs n t x b = record { topics = map seen (slice_set bs (mirror_number s t x) b); events = n }

abbrev mirror_of : List Entry → List Position → List MirrorSub → Mirror
mirror_of es ps vs = record { entries = es; positions = ps; subs = vs }

abbrev cursor_with : Subscription → List ℕ → MirrorSub
cursor_with v c = record { name = v.name; cursor = c }

abbrev pub option_seen : Option Subscription → Option MirrorSub
option_seen None = None
option_seen (Some v) = Some (sub_seen v)

some_seen : (o : Option Subscription) → is_some (option_seen o) ≡ is_some o
some_seen None = refl
some_seen (Some v) = refl

within_le : (i n : ℕ) → i ≤ n → nat_le i n ≡ true
within_le i n le = grind (arith, nat_tests, le)

-- ---- lists

set_get : {X : Type 0} (xs : List X) (k : ℕ) (v d : X) → k < length xs → slice_index_or (slice_set xs k v) k d ≡ v
set_get [] k v d lt = absurd (omega (arith, lt))
set_get (x ∷ xs) zero v d lt = refl
set_get (x ∷ xs) (suc k) v d lt = set_get xs k v d (omega (arith, lt))

pub set_twice : {X : Type 0} (xs : List X) (k : ℕ) (v u : X) → slice_set (slice_set xs k v) k u ≡ slice_set xs k u
set_twice [] k v u = refl
set_twice (x ∷ xs) zero v u = refl
set_twice (x ∷ xs) (suc k) v u = ap (λ ys. x ∷ ys) (set_twice xs k v u)

pub seen_at : (bs : List Broker) (k : ℕ) → slice_index_or (map seen bs) k no_mirror ≡ seen (slice_index_or bs k no_broker)
seen_at [] k = refl
seen_at (b ∷ bs) zero = refl
seen_at (b ∷ bs) (suc k) = seen_at bs k

pub seen_here : (s : Setup) (bs : List Broker) (n t x : ℕ) (b : Broker) → mirror_number s t x < length bs → mirror_at s (seen_with s bs n t x b) t x ≡ seen b
seen_here s bs n t x b lt = seen_at (slice_set bs (mirror_number s t x) b) (mirror_number s t x) ∙ ap seen (set_get bs (mirror_number s t x) b no_broker lt)

-- ---- subscriptions

-- what is done to a subscription, and what an audit sees of that
seen_map : (f : Subscription → Subscription) (g : MirrorSub → MirrorSub) → (vs : List Subscription) → Each (λ v. sub_seen (f v) ≡ g (sub_seen v)) vs
    → map sub_seen (map f vs) ≡ map g (map sub_seen vs)
seen_map f g [] h = refl
seen_map f g (v ∷ vs) h = ap (λ (u : MirrorSub). u ∷ map sub_seen (map f vs)) h.0 ∙ ap (λ (us : List MirrorSub). g (sub_seen v) ∷ us) (seen_map f g vs h.1)

pub seen_same : (f : Subscription → Subscription) → ((v : Subscription) → sub_seen (f v) ≡ sub_seen v) → (vs : List Subscription) → map sub_seen (map f vs) ≡ map sub_seen vs
seen_same f h [] = refl
seen_same f h (v ∷ vs) = ap (λ (u : MirrorSub). u ∷ map sub_seen (map f vs)) (h v) ∙ ap (λ (us : List MirrorSub). sub_seen v ∷ us) (seen_same f h vs)

seen_filter : (n : List ℕ) (vs : List Subscription)
    → map sub_seen (filter (λ (v : Subscription). not (bytes_eq v.name n)) vs) ≡ filter (λ (v : MirrorSub). not (bytes_eq v.name n)) (map sub_seen vs)
seen_filter n [] = refl
seen_filter n (v ∷ vs) = by (not (bytes_eq v.name n)) (seen_filter n vs)
  where
    by : (b : Bool) → map sub_seen (filter (λ (u : Subscription). not (bytes_eq u.name n)) vs) ≡ filter (λ (u : MirrorSub). not (bytes_eq u.name n)) (map sub_seen vs)
        → map sub_seen (if b then v ∷ filter (λ (u : Subscription). not (bytes_eq u.name n)) vs else filter (λ (u : Subscription). not (bytes_eq u.name n)) vs)
        ≡ (if b then sub_seen v ∷ filter (λ (u : MirrorSub). not (bytes_eq u.name n)) (map sub_seen vs) else filter (λ (u : MirrorSub). not (bytes_eq u.name n)) (map sub_seen vs))
    by true ih = ap (λ (us : List MirrorSub). sub_seen v ∷ us) ih
    by false ih = ih

pub sub_found : (n : List ℕ) (vs : List Subscription) → find (λ (v : MirrorSub). bytes_eq v.name n) (map sub_seen vs) ≡ option_seen (sub_named vs n)
sub_found n [] = refl
sub_found n (v ∷ vs) = by (bytes_eq v.name n) (sub_found n vs)
  where
    by : (b : Bool) → find (λ (u : MirrorSub). bytes_eq u.name n) (map sub_seen vs) ≡ option_seen (sub_named vs n)
        → (if b then Some (sub_seen v) else find (λ (u : MirrorSub). bytes_eq u.name n) (map sub_seen vs)) ≡ option_seen (if b then Some v else sub_named vs n)
    by true ih = refl
    by false ih = ih

-- the cursors of the subscriptions of a name
cursor_seen : (n : List ℕ) (f : Subscription → Subscription) (g : List ℕ → List ℕ) (vs : List Subscription)
    → Each (λ v. bytes_eq v.name n ≡ true → sub_seen (f v) ≡ record (sub_seen v) { cursor = g v.cursor }) vs
    → map sub_seen (map (at_name n f) vs) ≡ with_cursor n g (map sub_seen vs)
cursor_seen n f g [] h = refl
cursor_seen n f g (v ∷ vs) h =
    ap (λ (u : MirrorSub). u ∷ map sub_seen (map (at_name n f) vs)) (by (bytes_eq v.name n) refl)
    ∙ ap (λ (us : List MirrorSub). (if bytes_eq v.name n then record (sub_seen v) { cursor = g v.cursor } else sub_seen v) ∷ us) (cursor_seen n f g vs h.1)
  where
    by : (b : Bool) → bytes_eq v.name n ≡ b → sub_seen (if b then f v else v) ≡ (if b then record (sub_seen v) { cursor = g v.cursor } else sub_seen v)
    by true is = h.0 is
    by false is = refl

-- ---- what a write leaves, as an audit sees it

-- of one name the cursors are one, and ascend
abbrev pub OneCursor : List ℕ → List ℕ → List Subscription → Type 0
OneCursor n set vs = Each (λ (v : Subscription). bytes_eq v.name n ≡ true → v.cursor ≡ set) vs

acks_seen : (n set is : List ℕ) (vs : List Subscription) → Rising 0 set → OneCursor n set vs
    → Each (λ (v : Subscription). bytes_eq v.name n ≡ true → sub_seen (with_acks is v) ≡ record (sub_seen v) { cursor = with_indexes v.cursor (gained set is) }) vs
acks_seen n set is [] rising h = tt
acks_seen n set is (v ∷ vs) rising h = (
  λ same.
      let one = h.0 same in
      let mine : with_indexes v.cursor is ≡ with_indexes v.cursor (gained set is) =
      ap (λ (c : List ℕ). with_indexes c is) one ∙ (sym (gains_same set is rising) ∙ ap (λ (c : List ℕ). with_indexes c (gained set is)) (sym one)) in
      ap (λ (c : List ℕ). cursor_with v c) mine,
  acks_seen n set is vs rising h.1,
)

seeks_seen : (n : List ℕ) (i : ℕ) (vs : List Subscription)
    → Each (λ (v : Subscription). bytes_eq v.name n ≡ true → sub_seen (sought i v) ≡ record (sub_seen v) { cursor = below i }) vs
seeks_seen n i [] = tt
seeks_seen n i (v ∷ vs) = (λ same. refl, seeks_seen n i vs)

-- a ledger that opens holds nothing yet
opened_from : (ls : List ℕ) (k i : ℕ) → position_from (ls ++ 0 ∷ []) k i ≡ position_from ls k i
opened_from [] k i = ap (λ (b : Bool). if b then Some (record { ledger = k; entry = i }) else None) (never i)
  where
    never : (i : ℕ) → nat_lt i 0 ≡ false
    never i = grind (arith, nat_tests)
opened_from (l ∷ ls) k i = ap (λ (o : Option Position). if nat_lt i l then Some (record { ledger = k; entry = i }) else o) (opened_from ls (k + 1) (i - l))

positions_open : (ls : List ℕ) (k n : ℕ) → positions_in (ls ++ 0 ∷ []) k n ≡ positions_in ls k n
positions_open ls k zero = refl
positions_open ls k (suc n) =
    ap (λ (o : Option Position). or_first o ∷ positions_in (ls ++ 0 ∷ []) (k + 1) n) (opened_from ls 0 k)
    ∙ ap (λ (ps : List Position). position_at ls k ∷ ps) (positions_open ls (k + 1) n)

pub opened_seen : (b : Broker) → seen (record b { ledgers = b.ledgers ++ 0 ∷ [] }) ≡ seen b
opened_seen b = ap (λ (ps : List Position). mirror_of b.entries ps (map sub_seen b.subs)) (positions_open b.ledgers 0 (length b.entries))

-- why the line of a write is accepted, b being the broker before it, among the brokers bs
abbrev pub IsAccepted : Setup → List Broker → ℕ → ℕ → ℕ → Broker → Act → Type 0
IsAccepted s bs n t x b a = act_refused s (seen_with s bs n t x b) t x (seen b) a ≡ None

abbrev pub WriteHolds : Setup → List Broker → ℕ → ℕ → ℕ → Cause → Broker → Write → Type 0
WriteHolds s bs n t x c b (write.Append e) =
    Numbered b.entries b.ledgers
    × (IsAccepted s bs n t x b (Appends (next_position s.per_ledger b.ledgers) e (snapshot_told (site s t x) b e e.content)) × (may_follow s (seen_with s bs n t x b) t x e ≡ true))
WriteHolds s bs n t x c b (write.Create m kind replicated latest) = sub_named b.subs m ≡ None
WriteHolds s bs n t x c b (write.Delete m) = is_some (sub_named b.subs m) ≡ true
WriteHolds s bs n t x c b (write.Acks m is) =
    Rising 0 (cursor_of (sub_named b.subs m)) × OneCursor m (cursor_of (sub_named b.subs m)) b.subs
    × IsAccepted s bs n t x b (Acks m (gained (cursor_of (sub_named b.subs m)) is) c)
WriteHolds s bs n t x c b (write.Seek m i) = (is_some (sub_named b.subs m) ≡ true) × (i ≤ length b.entries)
WriteHolds s bs n t x c b w = Unit {0}

abbrev pub PlanHolds : Setup → List Broker → ℕ → ℕ → ℕ → Cause → Broker → List Write → Type 0
PlanHolds s bs n t x c b [] = Unit {0}
PlanHolds s bs n t x c b (w ∷ ws) = WriteHolds s bs n t x c b w × PlanHolds s bs n t x c (written s.per_ledger b w) ws

-- ---- one line

-- an accepted line makes of what an audit sees what the write makes of the broker
one_act : (s : Setup) (bs : List Broker) (n t x : ℕ) (b b' : Broker) (a : Act) (rest : List Item) → mirror_number s t x < length bs → IsAccepted s bs n t x b a
    → act_gaps s (seen_with s bs n t x b) t x a ≡ None → acted (seen b) a ≡ seen b'
    → audited_from_by strictness.Whole s (seen_with s bs n t x b) (Writes t x a ∷ rest) ≡ audited_from_by strictness.Whole s (seen_with s bs n t x b') rest
unfolding refused
one_act s bs n t x b b' a rest lt accepted free is =
    let k = mirror_number s t x in let A = seen_with s bs n t x b in
    let here = seen_here s bs n t x b lt in
    let fine : refused_by strictness.Whole s A (Writes t x a) ≡ None =
    ap (λ (m : Mirror). or_else (act_refused s A t x m a) (act_gaps s A t x a)) here ∙ (ap (λ (o : Option ℕ). or_else o (act_gaps s A t x a)) accepted ∙ free) in
    let topics : slice_set (map seen (slice_set bs k b)) k (acted (mirror_at s A t x) a) ≡ map seen (slice_set bs k b') =
    ap (λ (m : Mirror). slice_set (map seen (slice_set bs k b)) k m) (ap (λ (m : Mirror). acted m a) here ∙ is)
    ∙ (sym (map-set seen (slice_set bs k b) k b') ∙ ap (map seen) (set_twice bs k b b')) in
    ap (λ (o : Option ℕ). judged n o (audited_from_by strictness.Whole s (told s A (Writes t x a)) rest)) fine
    ∙ ap (λ (ms : List Mirror). audited_from_by strictness.Whole s (record { topics = ms; events = n }) rest) topics

-- a write without a line leaves what an audit sees
no_act : (s : Setup) (bs : List Broker) (n t x : ℕ) (b b' : Broker) (rest : List Item) → seen b ≡ seen b'
    → audited_from_by strictness.Whole s (seen_with s bs n t x b) rest ≡ audited_from_by strictness.Whole s (seen_with s bs n t x b') rest
no_act s bs n t x b b' rest same =
    let k = mirror_number s t x in
    ap (λ (ms : List Mirror). audited_from_by strictness.Whole s (record { topics = ms; events = n }) rest)
    (map-set seen bs k b ∙ (ap (λ (m : Mirror). slice_set (map seen bs) k m) same ∙ sym (map-set seen bs k b')))

pub one_write : (s : Setup) (bs : List Broker) (n t x : ℕ) (c : Cause) (b : Broker) (w : Write) (rest : List Act) → mirror_number s t x < length bs → WriteHolds s bs n t x c b w
    → audited_from_by strictness.Whole s (seen_with s bs n t x b) (told_at t x (act_of (site s t x) c b w ++ rest)) ≡ audited_from_by strictness.Whole s (seen_with s bs n t x (written s.per_ledger b w)) (told_at t x rest)
one_write s bs n t x c b (write.Append e) rest lt h =
    one_act s bs n t x b _ _ (told_at t x rest) lt h.1.0 (ap (λ (f : Bool). unless_broken 12 f None) h.1.1)
    (ap (λ (ps : List Position). mirror_of (b.entries ++ e ∷ []) ps (map sub_seen b.subs)) (sym (positions_more s.per_ledger b.entries e b.ledgers h.0)))
one_write s bs n t x c b (write.Create m kind replicated latest) rest lt h =
    one_act s bs n t x b (written s.per_ledger b (write.Create m kind replicated latest)) (Creates m latest) (told_at t x rest) lt
    (ap (λ (o : Option MirrorSub). unless_broken 7 (is_none o) None) (sub_found m b.subs ∙ ap option_seen h)) refl made
  where
    new : Subscription
    new = new_subscription m kind replicated (if latest then below (length b.entries) else [])

    more : Broker
    more = record b { subs = b.subs ++ new ∷ [] }

    is : more ≡ written s.per_ledger b (write.Create m kind replicated latest)
    is = ap (λ (o : Option Subscription). if is_some o then b else more) (sym h)

    made : acted (seen b) (Creates m latest) ≡ seen (written s.per_ledger b (write.Create m kind replicated latest))
    made = ap (λ (vs : List MirrorSub). mirror_of b.entries (positions_in b.ledgers 0 (length b.entries)) vs) (sym (map-append sub_seen b.subs (new ∷ []))) ∙ ap seen is
one_write s bs n t x c b (write.Delete m) rest lt h =
    one_act s bs n t x b (written s.per_ledger b (write.Delete m)) (Deletes m) (told_at t x rest) lt
    (ap (λ (b' : Bool). unless_broken 7 b' None) (ap is_some (sub_found m b.subs) ∙ (some_seen (sub_named b.subs m) ∙ h))) refl
    (ap (λ (vs : List MirrorSub). mirror_of b.entries (positions_in b.ledgers 0 (length b.entries)) vs) (sym (seen_filter m b.subs)))
one_write s bs n t x c b (write.Acks m is) rest lt h =
    one_act s bs n t x b (written s.per_ledger b (write.Acks m is)) (Acks m (gained (cursor_of (sub_named b.subs m)) is) c) (told_at t x rest) lt h.2 refl
    (ap (λ (vs : List MirrorSub). mirror_of b.entries (positions_in b.ledgers 0 (length b.entries)) vs)
    (sym (cursor_seen m (with_acks is) (λ set. with_indexes set (gained (cursor_of (sub_named b.subs m)) is)) b.subs (acks_seen m (cursor_of (sub_named b.subs m)) is b.subs h.0 h.1))))
one_write s bs n t x c b (write.Seek m i) rest lt h =
    one_act s bs n t x b (written s.per_ledger b (write.Seek m i)) (Seeks m i) (told_at t x rest) lt
    (ap (λ (b' : Bool). unless_broken 7 b' (unless_broken 11 (nat_le i (length b.entries)) None)) (ap is_some (sub_found m b.subs) ∙ (some_seen (sub_named b.subs m) ∙ h.0))
    ∙ ap (λ (b' : Bool). unless_broken 11 b' None) (within_le i (length b.entries) h.1))
    refl
    (ap (λ (vs : List MirrorSub). mirror_of b.entries (positions_in b.ledgers 0 (length b.entries)) vs) (sym (cursor_seen m (sought i) (λ set. below i) b.subs (seeks_seen m i b.subs))))
one_write s bs n t x c b (write.Alter m kind replicated) rest lt h =
    no_act s bs n t x b (written s.per_ledger b (write.Alter m kind replicated)) (told_at t x rest)
    (ap (λ (vs : List MirrorSub). mirror_of b.entries (positions_in b.ledgers 0 (length b.entries)) vs)
    (sym (seen_same (at_name m (λ v. record v { kind = kind; replicated = replicated }))
    (λ v. on_if (λ (u : Subscription). sub_seen u ≡ sub_seen v) (bytes_eq v.name m) (record v { kind = kind; replicated = replicated }) v refl refl) b.subs)))
one_write s bs n t x c b (write.ReplicatorAck y i) rest lt h = no_act s bs n t x b (written s.per_ledger b (write.ReplicatorAck y i)) (told_at t x rest) refl
one_write s bs n t x c b (write.SessionNumber y i) rest lt h = no_act s bs n t x b (written s.per_ledger b (write.SessionNumber y i)) (told_at t x rest) refl
one_write s bs n t x c b write.Ledger rest lt h =
    no_act s bs n t x b (written s.per_ledger b write.Ledger) (told_at t x rest)
    (sym (opened_seen b))

-- and so do all writes of a plan
pub all_accepted : (s : Setup) (bs : List Broker) (n t x : ℕ) (c : Cause) (b : Broker) (ws : List Write) → mirror_number s t x < length bs → PlanHolds s bs n t x c b ws
    → audited_from_by strictness.Whole s (seen_with s bs n t x b) (told_at t x (acts_of (site s t x) c b ws)) ≡ Ok (seen_with s bs n t x (all_written s.per_ledger b ws))
all_accepted s bs n t x c b [] lt h = refl
all_accepted s bs n t x c b (w ∷ ws) lt h =
    one_write s bs n t x c b w (acts_of (site s t x) c (written s.per_ledger b w) ws) lt h.0 ∙ all_accepted s bs n t x c (written s.per_ledger b w) ws lt h.1
