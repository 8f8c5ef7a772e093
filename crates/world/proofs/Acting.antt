-- An event of a broker, which is done where it is enabled; and as a run has it, which counts it where it is not.
use Rattle.std.proofs.Common.{◌≡◌, ℕ, ◌+◌, Bool, true, false, refl, sym, ◌∙◌, ap, subst, arith}
use Rattle.std.proofs.lemmas.Bool.{false≢true}
use Rattle.std.specs.Prelude.{Option, Some, None, Result, Ok, Err, OnOk}
use Rattle.geo_base.specs.declared.event.Event.{Event}
use Rattle.geo_base.specs.Happening.{happens}
use Rattle.geo_base.specs.Setup.{Setup}
use Rattle.geo_base.specs.World.{World, node}
use Rattle.broker_state.specs.Plan.{PlanView}
use Rattle.script_text.specs.Scenario.{IsEvent}
use Rattle.links.proofs.Found.{next_found}
use Rattle.links.specs.Queues.{IsFound, WireLinks, bytes_of, packet_in, packet_on}
use Rattle.wire_ends.specs.declared.packet.WirePacket.{WirePacket}
use Rattle.kept_laws.proofs.Keeping.{counts}
use Rattle.kept_laws.specs.Events.{IsBrokers, node_of, sender_of, takes_of}
use Rattle.kept_laws.specs.Kept.{Kept, broker_acted, idled}
use Rattle.kept_laws.specs.Standing.{Stands, limit_of}
use Rattle.kept_laws.specs.Reached.{Reached}
use Rattle.world.specs.declared.fault.RunFault.{RunFault}
use Rattle.world.specs.declared.fault.RunFault.TheVariants as fault
use Rattle.world.specs.declared.broker_ref.BrokerRef.{BrokerRef}
use Rattle.broker.specs.Node.{IsReady}
use Rattle.world.specs.Foreseen.{IsHalfDone}
use Rattle.world.specs.Steps.{Acts, IsBrokerOf, IsFinished, IsLater, Leads, PreparesAt, done_at, broker_ref_at}
use Rattle.world.specs.World.{IsAt, SameWorld, WorldView, kept_of, node_at}
use Rattle.world.proofs.After.{after_event}
use Rattle.world.proofs.Halting.{ok_err}
use Rattle.world.proofs.Leading.{Answer, failed, foreseen_stands, idle_stands, leads_by, on_ok, stands_same, wants}

-- ---- what was prepared at the event's broker

-- the brokers may have got other room
pub record IsPlanned (s : Setup) (old mid : WorldView) (e : Event) (broker_ref : BrokerRef) (n : ℕ) (p : PlanView) : Type 0 where
  pub at : IsAt s old
  pub same : SameWorld old mid
  pub brokers : IsBrokers e
  pub scripted : IsEvent s e
  pub there : broker_ref ≡ broker_ref_at s old.links e
  pub number : n ≡ node_of s e
  pub prepares : PreparesAt old n (packet_in old.links broker_ref.takes) e p

pub number_is : (s : Setup) (ls : WireLinks) (e : Event) (broker_ref : BrokerRef) (n : ℕ) → broker_ref ≡ broker_ref_at s ls e → n ≡ node s broker_ref.topic broker_ref.cluster → n ≡ node_of s e
number_is s ls e broker_ref n is number = number ∙ ap (λ (a : BrokerRef). node s a.topic a.cluster) is

-- the link that it takes from was found
pub found_there : (s : Setup) (ls : WireLinks) (e : Event) (broker_ref : BrokerRef) → broker_ref ≡ broker_ref_at s ls e → IsFound ls broker_ref.takes
found_there s ls e broker_ref is = subst (λ (a : BrokerRef). IsFound ls a.takes) (sym is) refl

pub broker_of : (s : Setup) (ls : WireLinks) (e : Event) (broker_ref : BrokerRef) → broker_ref ≡ broker_ref_at s ls e → IsBrokerOf s e broker_ref
broker_of s ls e broker_ref is = record { topic = ap (λ (a : BrokerRef). a.topic) is; cluster = ap (λ (a : BrokerRef). a.cluster) is }

pub ref_same : (s : Setup) (old mid : WorldView) (e : Event) (broker_ref : BrokerRef) → SameWorld old mid → broker_ref ≡ broker_ref_at s old.links e → broker_ref ≡ broker_ref_at s mid.links e
ref_same s old mid e broker_ref same is = is ∙ ap (λ (k : Kept). broker_ref_at s k.links e) (sym same.kept)

pub plans : (s : Setup) (old mid : WorldView) (e : Event) (broker_ref : BrokerRef) (n : ℕ) (p : PlanView) → IsAt s old → SameWorld old mid → IsBrokers e → IsEvent s e
    → broker_ref ≡ broker_ref_at s old.links e → n ≡ node s broker_ref.topic broker_ref.cluster → PreparesAt old n (packet_in old.links broker_ref.takes) e p → IsPlanned s old mid e broker_ref n p
plans s old mid e broker_ref n p at same brokers scripted there number prepares = record {
  at = at;
  same = same;
  brokers = brokers;
  scripted = scripted;
  there = there;
  number = number_is s old.links e broker_ref n there number;
  prepares = prepares;
}

pub prepared_there : (s : Setup) (old mid : WorldView) (e : Event) (broker_ref : BrokerRef) (n : ℕ) (p : PlanView) → IsPlanned s old mid e broker_ref n p
    → PreparesAt old (node_of s e) (packet_on old.links (takes_of e)) e p
prepared_there s old mid e broker_ref n p h =
    let taken : packet_in old.links broker_ref.takes ≡ packet_on old.links (takes_of e) =
    next_found old.links broker_ref.takes (found_there s old.links e broker_ref h.there) ∙ ap (λ (a : BrokerRef). packet_on old.links a.takes.link) h.there in
    subst (λ (o : Option WirePacket). PreparesAt old (node_of s e) o e p) taken (subst (λ (m : ℕ). PreparesAt old m (packet_in old.links broker_ref.takes) e p) h.number h.prepares)

-- ---- what it leads to

pub acts_idle : (s : Setup) (old mid : WorldView) (w : World) (e : Event) (broker_ref : BrokerRef) (n : ℕ) (p : PlanView) → IsPlanned s old mid e broker_ref n p → p.idle ≡ true
    → Reached s w → Stands s (kept_of old) w → Acts s old mid (happens s w e) (Ok false)
acts_idle s old mid w e broker_ref n p h idle reached stands =
    idle_stands s old mid w e p h.at h.same h.brokers h.scripted reached stands (prepared_there s old mid e broker_ref n p h) idle

pub acts_wants : (s : Setup) (old new : WorldView) (next : World) → Acts s old new next (Err fault.Memory)
acts_wants s old new next = tt

-- ---- counts

pub later_same : (old mid : WorldView) → SameWorld old mid → IsLater old mid
later_same old mid same =
    let events : mid.events ≡ old.events = ap (λ (k : Kept). k.events) same.kept in
    record { events = omega (arith, events); idle = ap (λ (k : Kept). k.idle) same.kept; rounds = ap (λ (k : Kept). k.rounds) same.kept }

-- the answer that an event was enabled is not the one that it was not
answer_of : Result Bool RunFault → Bool
answer_of (Ok enabled) = enabled
answer_of (Err f) = false

abbrev answers : Bool → Result Bool RunFault
answers enabled = Ok enabled

pub never_idle : {X : Type 0} → answers true ≡ answers false → X
unfolding answer_of
never_idle is = absurd (false≢true (sym (ap answer_of is)))

-- ---- as a run has it

-- the number of the limit that an answer tells
abbrev told : Answer → ℕ
told (Err (fault.TooLarge n)) = n
told r = 0

pub same_limit : (n i : ℕ) → failed (fault.TooLarge n) ≡ failed (fault.TooLarge i) → Some n ≡ Some i
same_limit n i is = ap (λ (r : Answer). Some (told r)) is

pub leads_acted : (s : Setup) (old new : WorldView) (next : World) (enabled : Bool) → enabled ≡ true → Acts s old new next (Ok enabled) → Leads s old new next (Ok tt)
leads_acted s old new next true is acts = record { done = acts; large = λ i no. absurd (ok_err tt (fault.TooLarge i) no) }
leads_acted s old new next false is acts = absurd (false≢true is)

pub leads_failed : (s : Setup) (old new : WorldView) (next : World) (f : RunFault) → Acts s old new next (Err f) → Leads s old new next (Err f)
leads_failed s old new next (fault.TooLarge n) acts = record { done = tt; large = λ i is. acts.1 ∙ same_limit n i is }
leads_failed s old new next fault.Memory acts = wants s old new next

-- one that is not enabled is counted then
pub leads_idled : (s : Setup) (old mid new : WorldView) (next : World) (enabled : Bool) (r : Answer) → enabled ≡ false → Acts s old mid next (Ok enabled)
    → OnOk r (new ≡ record mid { idle = mid.idle + 1 }) → OnOk r (limit_of mid.events (mid.idle + 1) mid.frame_bytes ≡ None)
    → ((i : ℕ) → r ≡ Err (fault.TooLarge i) → limit_of mid.events (mid.idle + 1) mid.frame_bytes ≡ Some i) → Leads s old new next r
leads_idled s old mid new next true r is acts ok within large = absurd (false≢true (sym is))
leads_idled s old mid new next false r is acts ok within large = leads_by s old new (idled (kept_of mid)) next r acts (on_ok r (λ all. ap kept_of all) ok) within large

-- ---- the second half of an event

-- what follows its first half
pub record IsHalved (s : Setup) (b : WorldView) (e : Event) (broker_ref : BrokerRef) (n : ℕ) (p : PlanView) : Type 0 where
  pub at : IsAt s b
  pub brokers : IsBrokers e
  pub scripted : IsEvent s e
  pub there : broker_ref ≡ broker_ref_at s b.links e
  pub number : n ≡ node_of s e
  pub half : IsHalfDone s b e p

pub halves : (s : Setup) (b : WorldView) (e : Event) (broker_ref : BrokerRef) (n : ℕ) (p : PlanView) → IsAt s b → IsBrokers e → IsEvent s e → broker_ref ≡ broker_ref_at s b.links e
    → n ≡ node s broker_ref.topic broker_ref.cluster → IsHalfDone s b e p → IsHalved s b e broker_ref n p
halves s b e broker_ref n p at brokers scripted there number half = record {
  at = at;
  brokers = brokers;
  scripted = scripted;
  there = there;
  number = number_is s b.links e broker_ref n there number;
  half = half;
}

pub half_ready : (s : Setup) (b : WorldView) (e : Event) (broker_ref : BrokerRef) (n : ℕ) (p : PlanView) → IsHalved s b e broker_ref n p → IsReady (node_at b.brokers n) p
half_ready s b e broker_ref n p h = subst (λ (m : ℕ). IsReady (node_at b.brokers m) p) (sym h.number) h.half.ready

-- what is kept where it was done
abbrev acted : Setup → WorldView → Event → PlanView → Kept
acted s b e p = broker_acted (kept_of b) (node_of s e) (sender_of s e) (takes_of e) (done_at (node_at b.brokers (node_of s e)) p) p.sent

stands_acted : (s : Setup) (b : WorldView) (w : World) (e : Event) (broker_ref : BrokerRef) (n : ℕ) (p : PlanView) → IsHalved s b e broker_ref n p → Reached s w → Stands s (kept_of b) w
    → Stands s (acted s b e p) (happens s w e)
stands_acted s b w e broker_ref n p h reached stands =
    foreseen_stands s b w e p h.at h.brokers h.scripted reached stands (h.half.foreseen w reached stands).prepared h.half.busy

pub acts_done : (s : Setup) (b new : WorldView) (w : World) (e : Event) (broker_ref : BrokerRef) (n : ℕ) (p : PlanView) → IsHalved s b e broker_ref n p → IsFinished broker_ref n p b new
    → limit_of (b.events + 1) b.idle (b.frame_bytes + bytes_of p.sent) ≡ None → Reached s w → Stands s (kept_of b) w → Acts s b new (happens s w e) (Ok true)
acts_done s b new w e broker_ref n p h finished low reached stands =
    let next = stands_acted s b w e broker_ref n p h reached stands in
    let there : IsFinished (broker_ref_at s b.links e) (node_of s e) p b new =
    subst (λ (m : ℕ). IsFinished (broker_ref_at s b.links e) m p b new) h.number (subst (λ (a : BrokerRef). IsFinished a n p b new) h.there finished) in
    (subst (λ (k : Kept). Stands s k (happens s w e)) (sym (there.kept refl)) next, counts s (acted s b e p) (happens s w e) next ∙ low)

pub acts_past : (s : Setup) (b new : WorldView) (w : World) (e : Event) (broker_ref : BrokerRef) (n : ℕ) (p : PlanView) (f : RunFault) → IsHalved s b e broker_ref n p
    → ((i : ℕ) → failed f ≡ failed (fault.TooLarge i) → limit_of (b.events + 1) b.idle (b.frame_bytes + bytes_of p.sent) ≡ Some i)
    → Reached s w → Stands s (kept_of b) w → Acts s b new (happens s w e) (Err f)
acts_past s b new w e broker_ref n p (fault.TooLarge i) h large reached stands =
    let next = stands_acted s b w e broker_ref n p h reached stands in
    (sym next.idle, counts s (acted s b e p) (happens s w e) next ∙ large i refl)
acts_past s b new w e broker_ref n p fault.Memory h large reached stands = tt

pub later_done : (s : Setup) (b new : WorldView) (e : Event) (broker_ref : BrokerRef) (n : ℕ) (p : PlanView) → IsHalved s b e broker_ref n p → IsFinished broker_ref n p b new → IsLater b new
later_done s b new e broker_ref n p h done =
    let kept = done.kept (found_there s b.links e broker_ref h.there) in
    let more : new.events ≡ b.events + 1 = ap (λ (k : Kept). k.events) kept in
    record { events = omega (arith, more); idle = ap (λ (k : Kept). k.idle) kept; rounds = ap (λ (k : Kept). k.rounds) kept }

-- where it is done, the next event can begin
pub at_done : (s : Setup) (b new : WorldView) (e : Event) (broker_ref : BrokerRef) (n : ℕ) (p : PlanView) → IsHalved s b e broker_ref n p → IsFinished broker_ref n p b new
    → limit_of (b.events + 1) b.idle (b.frame_bytes + bytes_of p.sent) ≡ None → IsAt s new
at_done s b new e broker_ref n p h finished low =
    after_event s b new e (Ok tt) h.at (λ w reached stands. leads_acted s b new (happens s w e) true refl (acts_done s b new w e broker_ref n p h finished low reached stands))
    (finished.same s h.at.brokers) tt

-- ---- both halves

-- an event that acts from a world that is the same
pub acts_from : (s : Setup) (old mid new : WorldView) (next : World) (r : Result Bool RunFault) → SameWorld old mid → Acts s mid new next r → Acts s old new next r
acts_from s old mid new next (Ok true) same acts = acts
acts_from s old mid new next (Ok false) same acts = acts
acts_from s old mid new next (Err (fault.TooLarge n)) same acts = (acts.0 ∙ ap (λ (k : Kept). k.idle) same.kept, acts.1)
acts_from s old mid new next (Err fault.Memory) same acts = tt

pub later_from : (old mid new : WorldView) → SameWorld old mid → IsLater mid new → IsLater old new
later_from old mid new same later =
    let events : mid.events ≡ old.events = ap (λ (k : Kept). k.events) same.kept in
    record {
      events = omega (arith, events, later.events);
      idle = later.idle ∙ ap (λ (k : Kept). k.idle) same.kept;
      rounds = later.rounds ∙ ap (λ (k : Kept). k.rounds) same.kept;
    }

pub same_both : (old mid new : WorldView) → SameWorld old mid → SameWorld mid new → SameWorld old new
same_both old mid new h k = record { kept = k.kept ∙ h.kept; brokers = λ s there. k.brokers s (h.brokers s there) }

pub stands_from : (s : Setup) (old mid : WorldView) (w : World) → SameWorld old mid → Stands s (kept_of old) w → Stands s (kept_of mid) w
stands_from s old mid w same stands = stands_same s old mid w same stands
