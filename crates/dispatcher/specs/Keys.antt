-- What the dispatcher of a Key_Shared subscription gives its consumers, call after call, while they stay (Pulsar manual,
-- Key_Shared: messages with the same key are delivered to the same consumer).
use Rattle.std.specs.Prelude.{◌≡◌, ℕ, ◌<◌, if◌then◌else◌, true, List, [], ◌∷◌, ◌++◌, Option, Some, None, slice_get, ⊤}
use Rattle.std.specs.List.{AllPairs}
use Rattle.geo_base.specs.declared.entry.Entry.{Entry}
use Rattle.geo_base.specs.declared.frame.SubKind.TheVariants as sub_kind
use Rattle.geo_base.specs.Cursor.{has}
use Rattle.geo_base.specs.Dispatcher.{consumer_at, pick}
use Rattle.geo_base.specs.Entry.{key_bytes}
use Rattle.geo_base.specs.Subscription.{forgotten, has_consumer, permitted}
use Rattle.dispatcher.specs.declared.offering.Choice.{Choice}
use Rattle.dispatcher.specs.declared.offering.Choice.TheVariants as does
use Rattle.dispatcher.specs.Dispatch.{Dispatch, dispatch_of, sub_with, without_indexes, without_to}
use Rattle.dispatcher.specs.Offers.{after_choice, choice}

-- the calls of a dispatcher while its consumers stay: none joins or leaves, nothing is redelivered, and there is no seek.
-- A client's consumer of an id gains so many permits; what the cursor has, some indexes or all up to one are forgotten
pub data Call : Type 0 where
  Offer : Call
  OnAck : Call
  Permits : ℕ → ℕ → ℕ → Call
  Forget : Call
  ForgetEach : List ℕ → Call
  ForgetTo : ℕ → Call

-- a call, and what the cursor has and the topic holds then
pub record Turn : Type 0 where
  pub call : Call
  pub cursor : List ℕ
  pub entries : List Entry

-- the key of an entry: no byte where it has none
abbrev pub key_of : Option Entry → List ℕ
key_of None = []
key_of (Some e) = key_bytes e.meta.key

-- the key of the entry at an index
abbrev pub key_at : List Entry → Option ℕ → List ℕ
key_at es None = []
key_at es (Some i) = key_of (slice_get es i)

-- what an offer does where the rule by keys picks the consumer
abbrev pub keyed_choice : Dispatch → List ℕ → List Entry → Choice
keyed_choice d cursor es = choice pick d cursor es

-- the dispatcher after a call; one that is refused changes nothing, and neither does a test of an acknowledgement
abbrev pub after_call : Dispatch → Call → List ℕ → List Entry → Dispatch
after_call d Offer cursor es = after_choice d (keyed_choice d cursor es)
after_call d OnAck cursor es = d
after_call d (Permits c id n) cursor es = if has_consumer c id (sub_with [] d) then dispatch_of (permitted c n (sub_with [] d)) else d
after_call d Forget cursor es = dispatch_of (forgotten (sub_with cursor d))
after_call d (ForgetEach is) cursor es = without_indexes is d
after_call d (ForgetTo k) cursor es = without_to k d

-- a message that was given to a client's consumer: its index and its key, the client and the consumer's id
pub record GivenTo : Type 0 where
  pub index : ℕ
  pub key : List ℕ
  pub client : ℕ
  pub id : ℕ

-- what an offer gives: one message or none
abbrev pub given_by : Dispatch → List Entry → Choice → List GivenTo
given_by d es does.Idle = []
given_by d es (does.Skip i) = []
given_by d es (does.Give i at) = record { index = i; key = key_at es (Some i); client = (consumer_at d.consumers at).client; id = (consumer_at d.consumers at).id } ∷ []

-- no call but an offer gives any
abbrev pub given_in : Dispatch → Call → List ℕ → List Entry → List GivenTo
given_in d Offer cursor es = given_by d es (keyed_choice d cursor es)
given_in d OnAck cursor es = []
given_in d (Permits c id n) cursor es = []
given_in d Forget cursor es = []
given_in d (ForgetEach is) cursor es = []
given_in d (ForgetTo k) cursor es = []

-- the messages that some calls give, in order
abbrev pub all_given : Dispatch → List Turn → List GivenTo
all_given d [] = []
all_given d (t ∷ ts) = given_in d t.call t.cursor t.entries ++ all_given (after_call d t.call t.cursor t.entries) ts

-- from call to call the cursor keeps what it had before
abbrev pub CursorsGrow : List ℕ → List Turn → Type 0
CursorsGrow had [] = ⊤
CursorsGrow had (t ∷ ts) = ((i : ℕ) → has had i ≡ true → has t.cursor i ≡ true) × CursorsGrow t.cursor ts

-- of any two messages the one given later stands later in the topic, so each is given at most once; and those of one key
-- went to one consumer
pub record KeepsKeys (gs : List GivenTo) : Type 0 where
  pub rising : AllPairs (λ (g h : GivenTo). g.index < h.index) gs
  pub one_consumer : AllPairs (λ (g h : GivenTo). g.key ≡ h.key → (g.client ≡ h.client) × (g.id ≡ h.id)) gs

-- so it is whatever the dispatcher of a Key_Shared subscription had out and due before, and whatever the calls
abbrev pub LawKeys : Type 0
LawKeys = (d : Dispatch) (ts : List Turn) → d.kind ≡ sub_kind.KeyShared → CursorsGrow [] ts → KeepsKeys (all_given d ts)
