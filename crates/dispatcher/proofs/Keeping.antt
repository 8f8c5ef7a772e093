-- One key, one consumer, in rising order: by induction over the calls.
use Rattle.std.proofs.Common.{◌≡◌, ℕ, ◌+◌, ◌<◌, ◌≤◌, ◌%◌, Bool, true, false, List, [], ◌∷◌, ◌++◌, length, refl, sym, ◌∙◌, ap, arith}
use Rattle.std.specs.Prelude.{Option, Some, None, if◌then◌else◌, ⊤, slice_get, min, not, nat_le}
use Rattle.std.specs.List.{All, AllPairs}
use Rattle.std.proofs.lemmas.List.Elements.{All-cons}
use Rattle.std.proofs.lemmas.List.Kept.{AllPairs-cons}
use Rattle.geo_base.specs.declared.consumer.Consumer.{Consumer}
use Rattle.geo_base.specs.declared.entry.Entry.{Entry}
use Rattle.geo_base.specs.declared.frame.SubKind.{SubKind}
use Rattle.geo_base.specs.declared.frame.SubKind.TheVariants as sub_kind
use Rattle.geo_base.specs.Cursor.{has}
use Rattle.geo_base.specs.Dispatcher.{consumer_at, given, key_number, least_due, skipped_index, pick, served}
use Rattle.geo_base.specs.Entry.{is_data, key_bytes}
use Rattle.geo_base.specs.Subscription.{has_consumer, is_of, most_permits, permitted}
use Rattle.dispatcher.specs.declared.offering.Choice.{Choice}
use Rattle.dispatcher.specs.declared.offering.Choice.TheVariants as does
use Rattle.dispatcher.specs.Dispatch.{Dispatch, dispatch_of, sub_with}
use Rattle.dispatcher.specs.Offers.{after_choice, choice_at, choice_data, choice_entry}
use Rattle.dispatcher.specs.Keys.{Call, CursorsGrow, ForgetEach, ForgetTo, Forget, GivenTo, LawKeys, Offer, OnAck, Permits, Turn, after_call, all_given, given_by, given_in, key_at, key_of, keyed_choice}
use Rattle.dispatcher.proofs.Consumers.{SameConsumers, key_place, permitted_same, same_consumers, served_same}
use Rattle.dispatcher.proofs.Dues.{IsLeastFrom, PastBelow, due_reached, filter_fewer, least_is, past_offered, still_past}

-- a message from index m on, given to the consumer at the place that the key names among consumers that stay
pub record IsNext (base : List Consumer) (m : ℕ) (g : GivenTo) : Type 0 where
  pub reached : m ≤ g.index
  pub client : g.client ≡ (consumer_at base (key_number g.key % length base)).client
  pub id : g.id ≡ (consumer_at base (key_number g.key % length base)).id

-- messages from index m on, in rising order, each with the consumer that its key names
abbrev pub Named : List Consumer → ℕ → List GivenTo → Type 0
Named base m [] = ⊤
Named base m (g ∷ gs) = IsNext base m g × Named base (g.index + 1) gs

named_lower : (base : List Consumer) (m n : ℕ) (gs : List GivenTo) → n ≤ m → Named base m gs → Named base n gs
named_lower base m n [] le h = tt
named_lower base m n (g ∷ gs) le h =
    (record { reached = omega (arith, h.0.reached, le); client = h.0.client; id = h.0.id }, h.1)

all_above : (base : List Consumer) (m i : ℕ) (gs : List GivenTo) → i < m → Named base m gs → All (λ (h : GivenTo). i < h.index) gs
all_above base m i [] lt h = λ k d n. absurd (omega arith)
all_above base m i (g ∷ gs) lt h =
    All-cons (λ (h : GivenTo). i < h.index) g gs (omega (arith, h.0.reached, lt)) (all_above base (g.index + 1) i gs (omega (arith, h.0.reached, lt)) h.1)

rising : (base : List Consumer) (m : ℕ) (gs : List GivenTo) → Named base m gs → AllPairs (λ (g h : GivenTo). g.index < h.index) gs
rising base m [] h = λ i j d a b. absurd (omega arith)
rising base m (g ∷ gs) h =
    AllPairs-cons (λ (g h : GivenTo). g.index < h.index) g gs (all_above base (g.index + 1) g.index gs (omega arith) h.1) (rising base (g.index + 1) gs h.1)

abbrev OneConsumer : GivenTo → GivenTo → Type 0
OneConsumer g h = g.key ≡ h.key → (g.client ≡ h.client) × (g.id ≡ h.id)

one_of_key : (base : List Consumer) (m n : ℕ) (g h : GivenTo) → IsNext base m g → IsNext base n h → OneConsumer g h
one_of_key base m n g h a b same = (
  a.client ∙ ap (λ (k : List ℕ). (consumer_at base (key_number k % length base)).client) same ∙ sym b.client,
  a.id ∙ ap (λ (k : List ℕ). (consumer_at base (key_number k % length base)).id) same ∙ sym b.id,
)

one_of_each : (base : List Consumer) (m n : ℕ) (g : GivenTo) (gs : List GivenTo) → IsNext base n g → Named base m gs → All (λ (h : GivenTo). OneConsumer g h) gs
one_of_each base m n g [] a h = λ k d l. absurd (omega arith)
one_of_each base m n g (h ∷ hs) a r =
    All-cons (λ (h : GivenTo). OneConsumer g h) h hs (one_of_key base n m g h a r.0) (one_of_each base (h.index + 1) n g hs a r.1)

one_consumer : (base : List Consumer) (m : ℕ) (gs : List GivenTo) → Named base m gs → AllPairs (λ (g h : GivenTo). OneConsumer g h) gs
one_consumer base m [] h = λ i j d a b. absurd (omega arith)
one_consumer base m (g ∷ gs) h =
    AllPairs-cons (λ (g h : GivenTo). OneConsumer g h) g gs (one_of_each base (g.index + 1) m g gs h.0 h.1) (one_consumer base (g.index + 1) gs h.1)

-- what an offer may do: nothing, skip the index that is due first, or give it to the consumer that its key names
pub data Shape (d : Dispatch) (cursor : List ℕ) (es : List Entry) (c : Choice) : Type 0 where
  Nothing : c ≡ does.Idle → Shape d cursor es c
  Skips : (i : ℕ) → least_due (sub_with cursor d) (length es) ≡ Some i → c ≡ does.Skip i → Shape d cursor es c
  Gives : (i at : ℕ) → least_due (sub_with cursor d) (length es) ≡ Some i → pick d.kind d.consumers (key_at es (Some i)) ≡ Some at → c ≡ does.Give i at → Shape d cursor es c

shape_data : (d : Dispatch) (cursor : List ℕ) (es : List Entry) (i : ℕ) (key : List ℕ) (o : Option ℕ) → least_due (sub_with cursor d) (length es) ≡ Some i → key_at es (Some i) ≡ key → pick d.kind d.consumers key ≡ o → Shape d cursor es (choice_data i o)
shape_data d cursor es i key None e same p = Nothing refl
shape_data d cursor es i key (Some at) e same p = Gives i at e (ap (λ (k : List ℕ). pick d.kind d.consumers k) same ∙ p) refl

shape_content : (d : Dispatch) (cursor : List ℕ) (es : List Entry) (i : ℕ) (key : List ℕ) (b : Bool) → least_due (sub_with cursor d) (length es) ≡ Some i → key_at es (Some i) ≡ key → Shape d cursor es (if b then choice_data i (pick d.kind d.consumers key) else does.Skip i)
shape_content d cursor es i key true e same = shape_data d cursor es i key (pick d.kind d.consumers key) e same refl
shape_content d cursor es i key false e same = Skips i e refl

shape_entry : (d : Dispatch) (cursor : List ℕ) (es : List Entry) (i : ℕ) (o : Option Entry) → least_due (sub_with cursor d) (length es) ≡ Some i → slice_get es i ≡ o → Shape d cursor es (choice_entry pick d i o)
shape_entry d cursor es i None e is = Nothing refl
shape_entry d cursor es i (Some x) e is = shape_content d cursor es i (key_bytes x.meta.key) (is_data x.content) e (ap key_of is)

shape_at : (d : Dispatch) (cursor : List ℕ) (es : List Entry) (o : Option ℕ) → least_due (sub_with cursor d) (length es) ≡ o → Shape d cursor es (choice_at pick d es o)
shape_at d cursor es None e = Nothing refl
shape_at d cursor es (Some i) e = shape_entry d cursor es i (slice_get es i) e refl

offer_shape : (d : Dispatch) (cursor : List ℕ) (es : List Entry) → Shape d cursor es (keyed_choice d cursor es)
offer_shape d cursor es = shape_at d cursor es (least_due (sub_with cursor d) (length es)) refl

-- what holds between two calls: the kind, the consumers that stay, and which indexes are never due again
pub record Stands (base : List Consumer) (m : ℕ) (d : Dispatch) (cursor : List ℕ) : Type 0 where
  pub kind : d.kind ≡ sub_kind.KeyShared
  pub same : SameConsumers base d.consumers
  pub past : PastBelow m d cursor

-- what a call gives, and how things stand then
pub record Kept (base : List Consumer) (m : ℕ) (gs : List GivenTo) (d : Dispatch) (cursor : List ℕ) : Type 0 where
  pub after : ℕ
  pub higher : m ≤ after
  pub named : (rest : List GivenTo) → Named base after rest → Named base m (gs ++ rest)
  pub stands : Stands base after d cursor

nothing_given : (base : List Consumer) (m : ℕ) (d : Dispatch) (cursor : List ℕ) → Stands base m d cursor → Kept base m [] d cursor
nothing_given base m d cursor h = record { after = m; higher = omega arith; named = λ rest r. r; stands = h }

pass_kept : (base : List Consumer) (m i : ℕ) (d : Dispatch) (cursor : List ℕ) → IsLeastFrom (sub_with cursor d) 0 i → Stands base m d cursor → Kept base m [] (dispatch_of (skipped_index i (sub_with [] d))) cursor
pass_kept base m i d cursor least h =
    let reached = due_reached m i d cursor h.past least.due in
    record {
      after = i + 1;
      higher = omega (arith, reached);
      named = λ rest r. named_lower base (i + 1) m rest (omega (arith, reached)) r;
      stands = record { kind = h.kind; same = h.same; past = past_offered i d (dispatch_of (skipped_index i (sub_with [] d))) cursor least refl refl };
    }

served_kept : (base : List Consumer) (kind : SubKind) (ks : List Consumer) (at : ℕ) → kind ≡ sub_kind.KeyShared → SameConsumers base ks → SameConsumers base (served kind ks at)
served_kept base kind ks at e h = rw e (served_same base ks at h)

is_next : (base : List Consumer) (kind : SubKind) (ks : List Consumer) (key : List ℕ) (m i at : ℕ) → m ≤ i → kind ≡ sub_kind.KeyShared → SameConsumers base ks → pick kind ks key ≡ Some at → IsNext base m (record { index = i; key = key; client = (consumer_at ks at).client; id = (consumer_at ks at).id })
is_next base kind ks key m i at le e h p =
    let place : at ≡ key_number key % length ks = key_place ks key at (rw e at p) in
    let same : at ≡ key_number key % length base = rw h.many at place in
    record {
      reached = le;
      client = h.client at ∙ ap (λ z. (consumer_at base z).client) same;
      id = h.id at ∙ ap (λ z. (consumer_at base z).id) same;
    }

give_kept : (base : List Consumer) (m i at : ℕ) (key : List ℕ) (d : Dispatch) (cursor : List ℕ) → IsLeastFrom (sub_with cursor d) 0 i → pick d.kind d.consumers key ≡ Some at → Stands base m d cursor → Kept base m (record { index = i; key = key; client = (consumer_at d.consumers at).client; id = (consumer_at d.consumers at).id } ∷ []) (dispatch_of (given i at (sub_with [] d))) cursor
give_kept base m i at key d cursor least p h =
    let reached = due_reached m i d cursor h.past least.due in
    record {
      after = i + 1;
      higher = omega (arith, reached);
      named = λ rest r. (is_next base d.kind d.consumers key m i at reached h.kind h.same p, r);
      stands = record {
        kind = h.kind;
        same = served_kept base d.kind d.consumers at h.kind h.same;
        past = past_offered i d (dispatch_of (given i at (sub_with [] d))) cursor least refl refl;
      };
    }

offer_kept : (base : List Consumer) (m : ℕ) (d : Dispatch) (cursor : List ℕ) (es : List Entry) (c : Choice) → Shape d cursor es c → Stands base m d cursor → Kept base m (given_by d es c) (after_choice d c) cursor
offer_kept base m d cursor es c (Nothing e) h = rw e (nothing_given base m d cursor h)
offer_kept base m d cursor es c (Skips i l e) h =
    rw e (pass_kept base m i d cursor (least_is (sub_with cursor d) (length es) i l) h)
offer_kept base m d cursor es c (Gives i at l p e) h =
    rw e (give_kept base m i at (key_at es (Some i)) d cursor (least_is (sub_with cursor d) (length es) i l) p h)

-- the consumers stay, nothing more is due again, and reading goes on where it did
change_kept : (base : List Consumer) (m : ℕ) (d e : Dispatch) (cursor : List ℕ) → Stands base m d cursor → e.kind ≡ d.kind → SameConsumers base e.consumers → ((i : ℕ) → has e.due i ≡ true → has d.due i ≡ true) → e.read_index ≡ d.read_index → Kept base m [] e cursor
change_kept base m d e cursor h kind same fewer read =
    nothing_given base m e cursor (record {
      kind = kind ∙ h.kind;
      same = same;
      past = still_past m d e cursor cursor (λ i x. x) fewer (omega (arith, read)) h.past;
    })

permit_kept : (base : List Consumer) (m : ℕ) (d : Dispatch) (here : Bool) (c n : ℕ) (cursor : List ℕ) → Stands base m d cursor → Kept base m [] (if here then dispatch_of (permitted c n (sub_with [] d)) else d) cursor
permit_kept base m d false c n cursor h = nothing_given base m d cursor h
permit_kept base m d true c n cursor h =
    change_kept base m d (dispatch_of (permitted c n (sub_with [] d))) cursor h refl (permitted_same base d.consumers (is_of c) (λ (k : Consumer). min most_permits (k.permits + n)) h.same) (λ i x. x) refl

call_kept : (base : List Consumer) (m : ℕ) (d : Dispatch) (call : Call) (cursor : List ℕ) (es : List Entry) → Stands base m d cursor → Kept base m (given_in d call cursor es) (after_call d call cursor es) cursor
call_kept base m d Offer cursor es h = offer_kept base m d cursor es (keyed_choice d cursor es) (offer_shape d cursor es) h
call_kept base m d OnAck cursor es h = nothing_given base m d cursor h
call_kept base m d (Permits c id n) cursor es h = permit_kept base m d (has_consumer c id (sub_with [] d)) c n cursor h
call_kept base m d Forget cursor es h =
    change_kept base m d (after_call d Forget cursor es) cursor h refl h.same (filter_fewer (λ i. not (has cursor i)) d.due) refl
call_kept base m d (ForgetEach is) cursor es h =
    change_kept base m d (after_call d (ForgetEach is) cursor es) cursor h refl h.same (filter_fewer (λ i. not (has is i)) d.due) refl
call_kept base m d (ForgetTo k) cursor es h =
    change_kept base m d (after_call d (ForgetTo k) cursor es) cursor h refl h.same (filter_fewer (λ i. not (nat_le i k)) d.due) refl

stands_on : (base : List Consumer) (m : ℕ) (d : Dispatch) (had cursor : List ℕ) → ((i : ℕ) → has had i ≡ true → has cursor i ≡ true) → Stands base m d had → Stands base m d cursor
stands_on base m d had cursor grows h = record {
  kind = h.kind;
  same = h.same;
  past = still_past m d d had cursor grows (λ i x. x) (omega arith) h.past;
}

all_named : (base : List Consumer) (m : ℕ) (d : Dispatch) (had : List ℕ) (ts : List Turn) → Stands base m d had → CursorsGrow had ts → Named base m (all_given d ts)
all_named base m d had [] h grows = tt
all_named base m d had (t ∷ ts) h grows =
    let k = call_kept base m d t.call t.cursor t.entries (stands_on base m d had t.cursor grows.0 h) in
    k.named (all_given (after_call d t.call t.cursor t.entries) ts) (all_named base k.after (after_call d t.call t.cursor t.entries) t.cursor ts k.stands grows.1)

pub keys_stay : LawKeys
keys_stay d ts kind grows =
    let named : Named d.consumers 0 (all_given d ts) = all_named d.consumers 0 d [] ts (record { kind = kind; same = same_consumers d.consumers; past = λ j lt. absurd (omega arith) }) grows in
    record { rising = rising d.consumers 0 (all_given d ts) named; one_consumer = one_consumer d.consumers 0 (all_given d ts) named }
