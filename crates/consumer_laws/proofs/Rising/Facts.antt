-- What is known of a world where what is sent to each consumer rises: client lines, links and subscriptions.
use Rattle.std.proofs.Common.{◌≡◌, ℕ, Bool, true, List, [], ◌∷◌}
use Rattle.std.specs.Prelude.{Option, Some, slice_get}
use Rattle.world_laws.proofs.Types.{Consumer, Frame, Line, Packet, Position, SubKind}
use Rattle.world_laws.proofs.Types.frame
use Rattle.world_laws.proofs.Types.line
use Rattle.geo_base.specs.Broker.{Broker}
use Rattle.geo_base.specs.Client.{Client}
use Rattle.geo_base.specs.Dispatcher.{is_due}
use Rattle.geo_base.specs.Settled.{serves_one}
use Rattle.geo_base.specs.Setup.{Declared, Setup, declared_at}
use Rattle.geo_base.specs.Subscription.{Subscription}
use Rattle.geo_base.specs.Topic.{index_of}
use Rattle.geo_base.specs.World.{Links, World, cell, client_at, topic_at}
use Rattle.world_laws.proofs.Clients.ClientLinks.{Packets, SentDown, SentUp}
use Rattle.world_laws.proofs.Dispatching.SubFrames.{AllSubs}
use Rattle.world_laws.proofs.Replicating.Effects.{Each, each_map}
use Rattle.world_laws.proofs.Replicating.Sizes.{IsThere}
use Rattle.consumer_laws.specs.Lines.{IsKindLine}
use Rattle.consumer_laws.proofs.Rising.Links.{CameOf, RisesAfter, SubsOnce, TakenOn}
use Rattle.consumer_laws.proofs.Rising.Subs.{NoneTo, RiseFact, RiseOf, UndueOf, UndueTo}
use Rattle.consumer_laws.proofs.Subscriptions.Plans.{numbers}
use Rattle.consumer_laws.proofs.Worlds.Facts.{AllAfter}

-- the lines in force of a client are of their kinds
abbrev pub IsPub : Option Line → Type 0
IsPub (Some (line.Pub seq to key text)) = Unit {0}
IsPub o = ⊥

abbrev pub IsProduce : Option Line → Type 0
IsProduce (Some line.Produce) = Unit {0}
IsProduce o = ⊥

abbrev pub IsFlow : Option Line → Type 0
IsFlow (Some (line.Flow permits)) = Unit {0}
IsFlow o = ⊥

pub record LineKinds (d : Declared) (k : Client) : Type 0 where
  pub produce : (i : ℕ) → k.produce ≡ Some i → IsProduce (slice_get d.lines i)
  pub flow : (i : ℕ) → k.flow ≡ Some i → IsFlow (slice_get d.lines i)
  pub unanswered : Each (λ i. IsPub (slice_get d.lines i)) k.unanswered

-- the SUBSCRIBE of this session and id was taken on c's link at x
abbrev pub SubTaken : Links → ℕ → ℕ → ℕ → ℕ → Type 0
SubTaken ls x c session id = TakenOn session id (cell ls.to_broker c x)

-- a consumer was attached by one, num being the number of each client's session
abbrev pub JoinedAt : Links → ℕ → (ℕ → ℕ) → ℕ → ℕ → Type 0
JoinedAt ls x num c id = SubTaken ls x c (num c) id

abbrev pub RisesAt : Setup → World → ℕ → ℕ → Broker → Type 0
RisesAt s w t x b = AllSubs (RiseFact (JoinedAt w.links x (numbers b)) b.ledgers (numbers b) (λ c. SentDown w.links c x)) b

pub record RiseWorld (s : Setup) (w : World) : Type 0 where
  pub kinds : (c : ℕ) → LineKinds (declared_at s c) (client_at s w c)
  pub once : (c x : ℕ) → IsThere s (declared_at s c).topic x → SubsOnce (SentUp w.links c x)
  pub came : (c x : ℕ) → Packets (CameOf (SubTaken w.links x c)) (SentDown w.links c x)
  pub subs : (t x : ℕ) → IsThere s t x → RisesAt s w t x (topic_at s w t x)
  pub links : (c x : ℕ) → IsThere s (declared_at s c).topic x → (n : List ℕ) (kind : SubKind) (id : ℕ) → IsKindLine (declared_at s c) id n kind → serves_one kind ≡ true
      → AllAfter (RisesAfter (topic_at s w (declared_at s c).topic x).ledgers id) (SentDown w.links c x)

-- ---- where the context of a subscription changes

pub record Moves (joined joined' : ℕ → ℕ → Type 0) (ls ls' : List ℕ) (num num' : ℕ → ℕ) (sent sent' : ℕ → List Packet) (k : Consumer) : Type 0 where
  pub joins : joined k.client k.id → joined' k.client k.id
  pub none : NoneTo num sent k → NoneTo num' sent' k
  pub undue : (due : ℕ → Bool) → UndueTo ls num sent due k → UndueTo ls' num' sent' due k

each_moved : {X : Type 0} (M P Q : X → Type 0) → ((x : X) → M x → P x → Q x) → (xs : List X) → Each M xs → Each P xs → Each Q xs
each_moved M P Q f [] m h = tt
each_moved M P Q f (x ∷ xs) m h = (f x m.0 h.0, each_moved M P Q f xs m.1 h.1)

pub moved_fact : (joined joined' : ℕ → ℕ → Type 0) (ls ls' : List ℕ) (num num' : ℕ → ℕ) (sent sent' : ℕ → List Packet) (v : Subscription) → Each (Moves joined joined' ls ls' num num' sent sent') v.consumers
    → RiseFact joined ls num sent v → RiseFact joined' ls' num' sent' v
moved_fact joined joined' ls ls' num num' sent sent' v m h = record {
  joins = each_moved (Moves joined joined' ls ls' num num' sent sent') (λ (k : Consumer). joined k.client k.id) (λ (k : Consumer). joined' k.client k.id) (λ k a g. a.joins g) v.consumers m h.joins;
  one = λ one. let g = h.one one in (g.0, rise v.consumers m g.1);
}
  where
    M : Consumer → Type 0
    M k = Moves joined joined' ls ls' num num' sent sent' k

    rise : (ks : List Consumer) → Each M ks → RiseOf ls num sent (is_due v) ks → RiseOf ls' num' sent' (is_due v) ks
    rise [] a g = tt
    rise (k ∷ ks) a g = (a.0.undue (is_due v) g.0, each_moved M (NoneTo num sent) (NoneTo num' sent') (λ j b f. b.none f) ks a.1 g.1)

-- positions that are stored stay
undue_grows : (ls ls' : List ℕ) → ((p : Position) (i : ℕ) → index_of ls p ≡ Some i → index_of ls' p ≡ Some i) → (due : ℕ → Bool) (session id s : ℕ) (f : Frame) → UndueOf ls due session id s f
    → UndueOf ls' due session id s f
undue_grows ls ls' g due session id s (frame.Message a p source e) h = λ same is. let u = h same is in (u.0, g p u.0 u.1, u.2)
undue_grows ls ls' g due session id s f h = tt

pub undues_grow : (ls ls' : List ℕ) → ((p : Position) (i : ℕ) → index_of ls p ≡ Some i → index_of ls' p ≡ Some i) → (due : ℕ → Bool) (session id : ℕ) (ps : List Packet) → Packets (UndueOf ls due session id) ps
    → Packets (UndueOf ls' due session id) ps
undues_grow ls ls' g due session id ps h =
    each_map (λ (p : Packet). UndueOf ls due session id p.session p.frame) (λ (p : Packet). UndueOf ls' due session id p.session p.frame) (λ p u. undue_grows ls ls' g due session id p.session p.frame u) ps h
