-- A run as an observer sees it: settling event by event and round by round, and step by step.
use Rattle.std.proofs.Common.{◌≡◌, ℕ, zero, suc, ◌+◌, ◌<◌, ◌≤◌, ◌==◌, Bool, true, false, List, [], ◌∷◌, length, drop, get_or, refl, sym, ◌∙◌, ap, subst, arith}
use Rattle.std.proofs.lemmas.Bool.{eq-eqb, false≢true}
use Rattle.std.proofs.lemmas.List.{drop_all, drop_more}
use Rattle.std.specs.Prelude.{Option, Some, None, Result, Ok, Err, OnErr, OnOk, ◌||◌, is_some}
use Rattle.geo_base.specs.declared.event.Event.{Event}
use Rattle.geo_base.specs.declared.event.Step.{Step}
use Rattle.geo_base.specs.declared.event.Step.TheVariants as step
use Rattle.geo_base.specs.Happening.{halts_planned, happens, stops}
use Rattle.geo_base.specs.Planned.{planned}
use Rattle.geo_base.specs.Run.{Ran, all_limits, all_settle, budget, counting_round, ends_or, pairs, resets_of, round_of, rounds_of, run_from, settled_world, steps}
use Rattle.geo_base.specs.Setup.{Setup}
use Rattle.geo_base.specs.World.{World}
use Rattle.kept_laws.specs.Kept.{Kept}
use Rattle.kept_laws.specs.Standing.{Stands}
use Rattle.kept_laws.proofs.Reaching.{event_reached, idle_reached, round_reached}
use Rattle.kept_laws.specs.Reached.{Reached}
use Rattle.world.specs.declared.fault.RunFault.{RunFault}
use Rattle.world.specs.declared.fault.RunFault.TheVariants as fault
use Rattle.world.specs.Observing.{Ends, IsRounding, IsSeen, IsSettling, Rounds, Settles, Sight, rounds_seen, run_seen, settle_seen, settling_seen, step_seen, unless_ended}
use Rattle.world.specs.Runs.{Comes, at_world}
use Rattle.world.specs.Settling.{EndsWithin, settled_by}
use Rattle.world.specs.Steps.{IsLater, Leads}
use Rattle.world.specs.World.{IsAt, SameWorld, WorldView, kept_of}
use Rattle.world.proofs.ManySteps.{reaches, stays}
use Rattle.world.proofs.SettlingSteps.{counted_stands}
use Rattle.world.proofs.SettlingRuns.{counted, differ, ended_at, ends_here, ends_in_time, ends_later, ends_next, goes_on, resets_done, resets_ended, round_ended, round_last, round_more}

abbrev Answer : Type 0
Answer = Result (Unit {0}) RunFault

by_ok : (X : Type 0) (a : Answer) (u : Unit {0}) → a ≡ Ok u → OnOk a X → X
by_ok X a u is h = subst (λ (b : Answer). OnOk b X) is h

abbrev IsOk : {T E : Type 0} → Result T E → Type 0
IsOk (Ok t) = Unit {0}
IsOk (Err e) = ⊥

pub fails : {T E : Type 0} (t : T) (e : E) → Ok t ≡ Err e → ⊥
fails {T} {E} t e is = subst (λ (a : Result T E). IsOk a) is tt

succeeds : {T E : Type 0} (t : T) (e : E) → Err e ≡ Ok t → ⊥
succeeds {T} {E} t e is = fails t e (sym is)

bool_of : Result Bool RunFault → Bool
bool_of (Ok b) = b
bool_of (Err f) = false

fault_of : {T : Type 0} → Result T RunFault → RunFault
fault_of (Ok t) = fault.Memory
fault_of (Err f) = f

abbrev failing : (T : Type 0) → RunFault → Result T RunFault
failing T f = Err f

abbrev answering : Bool → Result Bool RunFault
answering b = Ok b

-- the same fault, where something else was to be answered
pub same_fault : (T U : Type 0) (f g : RunFault) → failing T f ≡ failing T g → failing U f ≡ failing U g
unfolding fault_of
same_fault T U f g is = ap (failing U) (ap (λ (a : Result T RunFault). fault_of a) is)

same_answer : (b c : Bool) → answering b ≡ answering c → b ≡ c
unfolding bool_of
same_answer b c is = ap bool_of is

-- ---- events

-- an event that passes no limit, and those after it
settling_on : {T : Type 0} (o : Sight T) (s : Setup) (w : World) (e : Event) (es : List Event) (t : T) → all_limits (settled_by s w e) ≡ None
    → settling_seen o all_limits s (at_world w) (e ∷ es) t ≡ settling_seen o all_limits s (at_world (settled_by s w e)) es (o.settling s w e t)
settling_on o s w e es t is =
    ap (λ (l : Option ℕ). settling_seen o all_limits s (ends_or (at_world w) (settled_by s w e) l) es (unless_ended (ends_or (at_world w) (settled_by s w e) l) t (o.settling s w e t))) is

abbrev pub LeadsBy : Setup → (old new : WorldView) → Event → Answer → Type 0
LeadsBy s old new e a = (w : World) → Reached s w → Stands s (kept_of old) w → Leads s old new (settled_by s w e) a

abbrev pub SeesBy : {T : Type 0} → Sight T → Setup → WorldView → (old new : T) → Event → Answer → Type 0
SeesBy o s b old new e a = (w : World) → Reached s w → Stands s (kept_of b) w → OnOk a (new ≡ o.settling s w e old)

abbrev pub PastSame : (old new : WorldView) → Answer → Type 0
PastSame old new a = (n : ℕ) → a ≡ Err (fault.TooLarge n) → SameWorld old new

pub each_next : {T : Type 0} (o : Sight T) (s : Setup) (now new : WorldView) (t u : T) (es : List Event) (i : ℕ) (d : Event) (r : Ran) (all : T) (a : Answer) (unit : Unit {0}) → i < length es → a ≡ Ok unit
    → IsSettling o s now t (drop i es) r all → LeadsBy s now new (get_or es i d) a → SeesBy o s now t u (get_or es i d) a → IsSettling o s new u (drop (i + 1) es) r all
each_next {T} o s now new t u es i d r all a unit lt is h leads sees =
    let w = h.world in let e = get_or es i d in let led = by_ok _ a unit is (leads w h.reached h.stands).done in
    let seen = by_ok _ a unit is (sees w h.reached h.stands) in let left = drop_more es i d lt in
    record {
      world = settled_by s w e;
      reached = idle_reached s (happens s w e) w.idle (event_reached s w e h.reached);
      stands = led.0;
      comes = sym (goes_on s w e (drop (i + 1) es) led.1) ∙ (sym (ap (all_settle all_limits s (at_world w)) left) ∙ h.comes);
      seen =
          ap (λ (v : T). settling_seen o all_limits s (at_world (settled_by s w e)) (drop (i + 1) es) v) seen
          ∙ (sym (settling_on o s w e (drop (i + 1) es) t led.1) ∙ (sym (ap (λ (ds : List Event). settling_seen o all_limits s (at_world w) ds t) left) ∙ h.seen));
    }

at_limit : (s : Setup) (new : WorldView) (w : World) (n : ℕ) (r : Ran) → ended_at w n ≡ r → Stands s (kept_of new) w → Stands s (kept_of new) r.world × (r.ended ≡ Some n)
at_limit s new w n r is h = subst (λ (q : Ran). Stands s (kept_of new) q.world × (q.ended ≡ Some n)) is (h, refl)

pub each_ended : {T : Type 0} (o : Sight T) (s : Setup) (now new : WorldView) (t u : T) (es : List Event) (i : ℕ) (d : Event) (r : Ran) (all : T) (a : Answer) (f : RunFault) → i < length es → a ≡ Err f
    → IsSettling o s now t (drop i es) r all → LeadsBy s now new (get_or es i d) a → PastSame now new a → Settles o s new u r all (Err f)
each_ended o s now new t u es i d r all a f lt is h leads same =
    let w = h.world in let e = get_or es i d in
    let ended : (n : ℕ) → a ≡ Err (fault.TooLarge n) → ended_at w n ≡ r = λ n past.
    sym (ends_here s w e (drop (i + 1) es) n ((leads w h.reached h.stands).large n past)) ∙ (sym (ap (all_settle all_limits s (at_world w)) (drop_more es i d lt)) ∙ h.comes) in
    let still : (n : ℕ) → a ≡ Err (fault.TooLarge n) → Stands s (kept_of new) w = λ n past. subst (λ (k : Kept). Stands s k w) (sym (same n past).kept) h.stands in
    record { done = tt; large = λ n past. at_limit s new w n r (ended n (is ∙ past)) (still n (is ∙ past)) }

pub each_done : {T : Type 0} (o : Sight T) (s : Setup) (now : WorldView) (t : T) (es : List Event) (i : ℕ) (r : Ran) (all : T) (u : Unit {0}) → length es ≤ i → IsSettling o s now t (drop i es) r all
    → Settles o s now t r all (Ok u)
each_done o s now t es i r all u past h = record {
  done = subst (λ (ds : List Event). IsSettling o s now t ds r all) (drop_all i es past) h;
  large = λ n is. absurd (fails u (fault.TooLarge n) is);
}

-- ---- a round

abbrev pub SettlesAll : {T : Type 0} → Sight T → Setup → (old mid : WorldView) → (t u : T) → List Event → Answer → Type 0
SettlesAll {T} o s old mid t u es a = (q : Ran) (all : T) → IsSettling o s old t es q all → Settles o s mid u q all a

abbrev all_of : {T : Type 0} → Sight T → Setup → World → T → List Event → T
all_of o s w t es = settling_seen o all_limits s (at_world w) es t

begins : {T : Type 0} (o : Sight T) (s : Setup) (b : WorldView) (w : World) (t : T) (es fs : List Event) → es ≡ fs → Reached s w → Stands s (kept_of b) w
    → IsSettling o s b t es (all_settle all_limits s (at_world w) fs) (all_of o s w t fs)
begins o s b w t es fs is reached stands = record {
  world = w;
  reached = reached;
  stands = stands;
  comes = ap (all_settle all_limits s (at_world w)) is;
  seen = ap (all_of o s w t) is;
}

-- where its events end well, the machine is at a world for which this one stands, and they are seen
record IsRoundDone {T : Type 0} (o : Sight T) (s : Setup) (mid : WorldView) (w : World) (t u : T) (es : List Event) : Type 0 where
  world : World
  reached : Reached s world
  stands : Stands s (kept_of mid) world
  comes : all_settle all_limits s (at_world w) es ≡ at_world world
  seen : u ≡ all_of o s w t es

all_done : {T : Type 0} (o : Sight T) (s : Setup) (old mid : WorldView) (w : World) (t u : T) (es fs : List Event) (a : Answer) (unit : Unit {0}) → es ≡ fs → a ≡ Ok unit → Reached s w
    → Stands s (kept_of old) w → SettlesAll o s old mid t u es a → IsRoundDone o s mid w t u fs
all_done o s old mid w t u es fs a unit is ok reached stands sees =
    let h = by_ok _ a unit ok (sees (all_settle all_limits s (at_world w) fs) (all_of o s w t fs) (begins o s old w t es fs is reached stands)).done in
    record { world = h.world; reached = h.reached; stands = h.stands; comes = sym h.comes; seen = h.seen }

-- what is seen of a round, and of those after it
abbrev seen_behind : {T : Type 0} → Sight T → Setup → ℕ → World → T → Ran → T
seen_behind {T} o s more w u q = elim (is_some q.ended || (q.world.events == w.events)) as (λ b. T) [ true ↦ u | false ↦ rounds_seen more o all_limits s (counting_round q) u ]

behind : {T : Type 0} (o : Sight T) (s : Setup) (more : ℕ) (w v : World) (t : T) → all_settle all_limits s (at_world w) (round_of (pairs s)) ≡ at_world v
    → rounds_seen (suc more) o all_limits s (at_world w) t ≡ seen_behind o s more w (all_of o s w t (round_of (pairs s))) (at_world v)
behind o s more w v t is = ap (λ (q : Ran). seen_behind o s more w (all_of o s w t (round_of (pairs s))) q) is

on_false : {T : Type 0} (b : Bool) (x y : T) → b ≡ false → elim b as (λ b. T) [ true ↦ x | false ↦ y ] ≡ y
on_false {T} true x y is = absurd (false≢true (sym is))
on_false {T} false x y is = refl

on_true : {T : Type 0} (b : Bool) (x y : T) → b ≡ true → elim b as (λ b. T) [ true ↦ x | false ↦ y ] ≡ x
on_true {T} true x y is = refl
on_true {T} false x y is = absurd (false≢true is)

more_seen : {T : Type 0} (o : Sight T) (s : Setup) (more : ℕ) (w v : World) (t : T) → all_settle all_limits s (at_world w) (round_of (pairs s)) ≡ at_world v → (v.events ≡ w.events → ⊥)
    → rounds_seen (suc more) o all_limits s (at_world w) t ≡ rounds_seen more o all_limits s (at_world (counted v)) (all_of o s w t (round_of (pairs s)))
more_seen o s more w v t is busy =
    let u = all_of o s w t (round_of (pairs s)) in
    behind o s more w v t is ∙ on_false (v.events == w.events) u (rounds_seen more o all_limits s (at_world (counted v)) u) (differ v.events w.events busy)

last_seen : {T : Type 0} (o : Sight T) (s : Setup) (more : ℕ) (w v : World) (t : T) → all_settle all_limits s (at_world w) (round_of (pairs s)) ≡ at_world v → v.events ≡ w.events
    → rounds_seen (suc more) o all_limits s (at_world w) t ≡ all_of o s w t (round_of (pairs s))
last_seen o s more w v t is quiet =
    let u = all_of o s w t (round_of (pairs s)) in
    behind o s more w v t is ∙ on_true (v.events == w.events) u (rounds_seen more o all_limits s (at_world (counted v)) u) (eq-eqb v.events w.events quiet)

-- a round that did something
pub round_counted : {T : Type 0} (o : Sight T) (s : Setup) (old mid new : WorldView) (t u : T) (es : List Event) (r : Ran) (all : T) (a : Answer) (unit : Unit {0}) → es ≡ round_of (pairs s) → a ≡ Ok unit
    → SettlesAll o s old mid t u es a → IsLater old mid → (mid.events ≡ old.events → ⊥) → new ≡ record mid { rounds = mid.rounds + 1 } → IsRounding o s old t r all
    → Rounds o s new u r all (Ok true)
round_counted {T} o s old mid new t u es r all a unit is ok sees later busy counts h = record {
  more = λ yes. by h.most h.ends h.comes h.seen;
  done = λ other. absurd (false≢true (sym (same_answer true false other)));
  large = λ n past. absurd (fails true (fault.TooLarge n) past);
}
  where
    by : (most : ℕ) → EndsWithin most s h.world → rounds_of most all_limits s (at_world h.world) ≡ r → rounds_seen most o all_limits s (at_world h.world) t ≡ all
        → IsRounding o s new u r all
    by zero ends same seen = absurd (ends_later s h.world ends)
    by (suc rest) ends same seen =
        let w = h.world in let d = all_done o s old mid w t u es (round_of (pairs s)) a unit is ok h.reached h.stands sees in let v = d.world in
        let differs : v.events ≡ w.events → ⊥ = λ e. busy (d.stands.events ∙ e ∙ sym h.stands.events) in
        let rounds : v.rounds ≡ w.rounds = sym d.stands.rounds ∙ later.rounds ∙ h.stands.rounds in
        record {
          world = counted v;
          most = rest;
          reached = round_reached s v (v.rounds + 1) d.reached;
          stands = counted_stands s mid new v counts d.stands;
          ends = ends_next s rest w v ends d.comes differs rounds;
          comes = sym (round_more all_limits s rest w v d.comes differs) ∙ same;
          seen = ap (λ (x : T). rounds_seen rest o all_limits s (at_world (counted v)) x) d.seen ∙ (sym (more_seen o s rest w v t d.comes differs) ∙ seen);
        }

-- one that did nothing
pub round_still : {T : Type 0} (o : Sight T) (s : Setup) (old mid : WorldView) (t u : T) (es : List Event) (r : Ran) (all : T) (a : Answer) (unit : Unit {0}) → es ≡ round_of (pairs s) → a ≡ Ok unit
    → SettlesAll o s old mid t u es a → mid.events ≡ old.events → IsRounding o s old t r all → Rounds o s mid u r all (Ok false)
round_still {T} o s old mid t u es r all a unit is ok sees quiet h = record {
  more = λ yes. absurd (false≢true (same_answer false true yes));
  done = λ other. by h.most h.ends h.comes h.seen;
  large = λ n past. absurd (fails false (fault.TooLarge n) past);
}
  where
    by : (most : ℕ) → EndsWithin most s h.world → rounds_of most all_limits s (at_world h.world) ≡ r → rounds_seen most o all_limits s (at_world h.world) t ≡ all
        → IsSeen s mid u r all
    by zero ends same seen = absurd (ends_later s h.world ends)
    by (suc rest) ends same seen =
        let w = h.world in let d = all_done o s old mid w t u es (round_of (pairs s)) a unit is ok h.reached h.stands sees in let v = d.world in
        let equal : v.events ≡ w.events = sym d.stands.events ∙ quiet ∙ h.stands.events in
        let last : at_world v ≡ r = sym (round_last all_limits s rest w v d.comes equal) ∙ same in
        record {
          stands = subst (λ (q : Ran). Stands s (kept_of mid) q.world) last d.stands;
          going = sym (ap (λ (q : Ran). q.ended) last);
          seen = d.seen ∙ (sym (last_seen o s rest w v t d.comes equal) ∙ seen);
        }

-- one that came to a limit
pub round_past : {T : Type 0} (o : Sight T) (s : Setup) (old mid : WorldView) (t u : T) (es : List Event) (r : Ran) (all : T) (a : Answer) (f : RunFault) → es ≡ round_of (pairs s) → a ≡ Err f
    → SettlesAll o s old mid t u es a → IsRounding o s old t r all → Rounds o s mid u r all (Err f)
round_past {T} o s old mid t u es r all a f is err sees h = record {
  more = λ yes. absurd (succeeds true f yes);
  done = λ other. absurd (succeeds false f other);
  large = λ n past. by n (err ∙ same_fault Bool (Unit {0}) f (fault.TooLarge n) past) h.most h.ends h.comes;
}
  where
    by : (n : ℕ) → a ≡ Err (fault.TooLarge n) → (most : ℕ) → EndsWithin most s h.world → rounds_of most all_limits s (at_world h.world) ≡ r
        → Stands s (kept_of mid) r.world × (r.ended ≡ Some n)
    by n past zero ends same = absurd (ends_later s h.world ends)
    by n past (suc rest) ends same =
        let w = h.world in let q : Ran = all_settle all_limits s (at_world w) (round_of (pairs s)) in
        let d = (sees q (all_of o s w t (round_of (pairs s))) (begins o s old w t es (round_of (pairs s)) is h.reached h.stands)).large n past in
        subst (λ (p : Ran). Stands s (kept_of mid) p.world × (p.ended ≡ Some n)) (sym (round_ended all_limits s rest w n d.1) ∙ same) d

-- ---- rounds

pub rounds_done : {T : Type 0} (o : Sight T) (s : Setup) (new : WorldView) (t : T) (r : Ran) (all : T) (a : Result Bool RunFault) (n : ℕ) → a ≡ Ok false → Rounds o s new t r all a
    → Ends s new t r all (Ok n)
rounds_done o s new t r all a n is h = record { done = h.done is; large = λ i past. absurd (fails n (fault.TooLarge i) past) }

pub rounds_past : {T : Type 0} (o : Sight T) (s : Setup) (new : WorldView) (t : T) (r : Ran) (all : T) (a : Result Bool RunFault) (f : RunFault) → a ≡ Err f → Rounds o s new t r all a
    → Ends {E = ℕ} s new t r all (Err f)
rounds_past o s new t r all a f is h = record { done = tt; large = λ n past. h.large n (is ∙ same_fault ℕ Bool f (fault.TooLarge n) past) }

-- ---- settling

settled_seen : {T : Type 0} (o : Sight T) (s : Setup) (w v : World) (t : T) → all_settle all_limits s (at_world w) (resets_of (pairs s)) ≡ at_world v
    → settle_seen o all_limits s (at_world w) t ≡ rounds_seen (suc (budget s w)) o all_limits s (at_world v) (all_of o s w (o.settles s w t) (resets_of (pairs s)))
settled_seen o s w v t is =
    let one : budget s w + 1 ≡ suc (budget s w) = omega arith in
    let u = all_of o s w (o.settles s w t) (resets_of (pairs s)) in
    ap (λ (m : ℕ). rounds_seen m o all_limits s (all_settle all_limits s (at_world w) (resets_of (pairs s))) u) one
    ∙ ap (λ (r : Ran). rounds_seen (suc (budget s w)) o all_limits s r u) is

-- where no reset came to a limit, rounds begin
pub rounds_begin : {T : Type 0} (o : Sight T) (s : Setup) (old mid : WorldView) (w : World) (t from u : T) (es : List Event) (a : Answer) (unit : Unit {0}) → es ≡ resets_of (pairs s) → a ≡ Ok unit
    → from ≡ o.settles s w t → SettlesAll o s old mid from u es a → IsLater old mid → Reached s w → Stands s (kept_of old) w
    → IsRounding o s mid u (settled_world all_limits s (at_world w)) (settle_seen o all_limits s (at_world w) t)
rounds_begin {T} o s old mid w t from u es a unit is ok first sees later reached stands =
    let d = all_done o s old mid w from u es (resets_of (pairs s)) a unit is ok reached stands sees in let v = d.world in
    record {
      world = v;
      most = suc (budget s w);
      reached = d.reached;
      stands = d.stands;
      ends = ends_in_time s w v d.comes (sym d.stands.rounds ∙ later.rounds ∙ stands.rounds);
      comes = resets_done s w v d.comes;
      seen =
          ap (λ (x : T). rounds_seen (suc (budget s w)) o all_limits s (at_world v) x) (d.seen ∙ ap (λ (x : T). all_of o s w x (resets_of (pairs s))) first)
          ∙ sym (settled_seen o s w v t d.comes);
    }

pub resets_past : {T : Type 0} (o : Sight T) (s : Setup) (old mid : WorldView) (w : World) (t u : T) (es : List Event) (a : Answer) (f : RunFault) → es ≡ resets_of (pairs s) → a ≡ Err f
    → SettlesAll o s old mid t u es a → Reached s w → Stands s (kept_of old) w → Comes {T = ℕ} s mid (settled_world all_limits s (at_world w)) (Err f)
resets_past o s old mid w t u es a f is err sees reached stands = record {
  done = tt;
  large = λ n past.
      let q : Ran = all_settle all_limits s (at_world w) (resets_of (pairs s)) in
      let d = (sees q (all_of o s w t (resets_of (pairs s))) (begins o s old w t es (resets_of (pairs s)) is reached stands)).large n (err ∙ same_fault ℕ (Unit {0}) f (fault.TooLarge n) past) in
      subst (λ (p : Ran). Stands s (kept_of mid) p.world × (p.ended ≡ Some n)) (sym (resets_ended s w n d.1)) d;
}

settle_step : (s : Setup) (w : World) → steps all_limits s (at_world w) step.Settle ≡ settled_world all_limits s (at_world w)
unfolding steps
settle_step s w = refl

pub settled_reached : (s : Setup) (w : World) → Reached s w → Reached s (settled_world all_limits s (at_world w)).world
settled_reached s w reached = subst (λ (r : Ran). Reached s r.world) (settle_step s w) (reaches s (at_world w) step.Settle reached)

-- and where they end
pub ends_come : {T E : Type 0} (s : Setup) (new : WorldView) (t : T) (r : Ran) (all : T) (a : Result E RunFault) → Ends s new t r all a → Comes s new r a
ends_come {T} {E} s new t r all (Ok n) h = record { done = (h.done.stands, h.done.going); large = h.large }
ends_come {T} {E} s new t r all (Err f) h = record { done = tt; large = h.large }

-- ---- a step

stands_same : (s : Setup) (old new : WorldView) (w : World) → SameWorld old new → Stands s (kept_of old) w → Stands s (kept_of new) w
stands_same s old new w same stands = subst (λ (k : Kept). Stands s k w) (sym same.kept) stands

ends : (s : Setup) (new : WorldView) (w next : World) (n : ℕ) → all_limits next ≡ Some n → Stands s (kept_of new) w
    → Stands s (kept_of new) (ends_or (at_world w) next (all_limits next)).world × ((ends_or (at_world w) next (all_limits next)).ended ≡ Some n)
ends s new w next n is stands =
    subst (λ (l : Option ℕ). Stands s (kept_of new) (ends_or (at_world w) next l).world × ((ends_or (at_world w) next l).ended ≡ Some n)) (sym is) (stands, refl)

abbrev goes_to : World → World → Ran
goes_to w next = ends_or (at_world w) next (all_limits next)

comes_by : (s : Setup) (old new : WorldView) (w next : World) (a : Answer) → Stands s (kept_of old) w → Leads s old new next a → PastSame old new a → Comes s new (goes_to w next) a
comes_by s old new w next (Ok unit) stands leads same = record {
  done = subst (λ (l : Option ℕ). Stands s (kept_of new) (ends_or (at_world w) next l).world × ((ends_or (at_world w) next l).ended ≡ None)) (sym leads.done.1) (leads.done.0, refl);
  large = λ n past. absurd (fails unit (fault.TooLarge n) past);
}
comes_by s old new w next (Err f) stands leads same = record {
  done = tt;
  large = λ n past. ends s new w next n (leads.large n past) (stands_same s old new w (same n past) stands);
}

seen_by : {T : Type 0} (s : Setup) (new : WorldView) (w next : World) (t u v : T) (a : Answer) → Comes s new (goes_to w next) a → OnOk a (v ≡ u) → OnOk a (v ≡ unless_ended (goes_to w next) t u)
seen_by {T} s new w next t u v (Ok unit) comes seen =
    seen ∙ sym (ap (λ (l : Option ℕ). unless_ended (record { world = (goes_to w next).world; ended = l }) t u) comes.done.1)
seen_by {T} s new w next t u v (Err f) comes seen = tt

pub plain_comes : (s : Setup) (old new : WorldView) (w : World) (k : Step) (e : Event) (a : Answer) → k ≡ step.Plain e → Stands s (kept_of old) w → Leads s old new (happens s w e) a → PastSame old new a
    → Comes s new (steps all_limits s (at_world w) k) a
unfolding steps
plain_comes s old new w k e a is stands leads same =
    subst (λ (j : Step). Comes s new (steps all_limits s (at_world w) j) a) (sym is) (comes_by s old new w (happens s w e) a stands leads same)

pub plain_seen : {T : Type 0} (o : Sight T) (s : Setup) (old new : WorldView) (w : World) (k : Step) (e : Event) (t u : T) (a : Answer) → k ≡ step.Plain e → Stands s (kept_of old) w
    → Leads s old new (happens s w e) a → PastSame old new a → OnOk a (u ≡ o.event s w e t) → OnOk a (u ≡ step_seen o all_limits s (at_world w) k t)
unfolding steps step_seen
plain_seen {T} o s old new w k e t u a is stands leads same seen =
    subst (λ (j : Step). OnOk a (u ≡ step_seen o all_limits s (at_world w) j t)) (sym is)
    (seen_by s new w (happens s w e) t (o.event s w e t) u a (comes_by s old new w (happens s w e) a stands leads same) seen)

pub halt_comes : (s : Setup) (old new : WorldView) (w : World) (k : Step) (n : ℕ) (e : Event) (a : Answer) → k ≡ step.Halt n e → Stands s (kept_of old) w
    → Leads s old new (halts_planned s w n (planned s w e)) a → PastSame old new a → Comes s new (steps all_limits s (at_world w) k) a
unfolding steps
halt_comes s old new w k n e a is stands leads same =
    subst (λ (j : Step). Comes s new (steps all_limits s (at_world w) j) a) (sym is) (comes_by s old new w (halts_planned s w n (planned s w e)) a stands leads same)

pub halt_seen : {T : Type 0} (o : Sight T) (s : Setup) (old new : WorldView) (w : World) (k : Step) (n : ℕ) (e : Event) (t u : T) (a : Answer) → k ≡ step.Halt n e → Stands s (kept_of old) w
    → Leads s old new (halts_planned s w n (planned s w e)) a → PastSame old new a → OnOk a (u ≡ o.halt s w n e t) → OnOk a (u ≡ step_seen o all_limits s (at_world w) k t)
unfolding steps step_seen
halt_seen {T} o s old new w k n e t u a is stands leads same seen =
    subst (λ (j : Step). OnOk a (u ≡ step_seen o all_limits s (at_world w) j t)) (sym is)
    (seen_by s new w (halts_planned s w n (planned s w e)) t (o.halt s w n e t) u a (comes_by s old new w (halts_planned s w n (planned s w e)) a stands leads same) seen)

pub stop_comes : (s : Setup) (old new : WorldView) (w : World) (k : Step) (a : Answer) → k ≡ step.Stop → Stands s (kept_of old) w → Leads s old new (stops s w) a → PastSame old new a
    → Comes s new (steps all_limits s (at_world w) k) a
unfolding steps
stop_comes s old new w k a is stands leads same =
    subst (λ (j : Step). Comes s new (steps all_limits s (at_world w) j) a) (sym is) (comes_by s old new w (stops s w) a stands leads same)

pub stop_seen : {T : Type 0} (o : Sight T) (s : Setup) (old new : WorldView) (w : World) (k : Step) (t u : T) (a : Answer) → k ≡ step.Stop → Stands s (kept_of old) w
    → Leads s old new (stops s w) a → PastSame old new a → OnOk a (u ≡ o.stop s w t) → OnOk a (u ≡ step_seen o all_limits s (at_world w) k t)
unfolding steps step_seen
stop_seen {T} o s old new w k t u a is stands leads same seen =
    subst (λ (j : Step). OnOk a (u ≡ step_seen o all_limits s (at_world w) j t)) (sym is)
    (seen_by s new w (stops s w) t (o.stop s w t) u a (comes_by s old new w (stops s w) a stands leads same) seen)

-- settling, however many rounds it took
pub settled_comes : (s : Setup) (new : WorldView) (w : World) (k : Step) (rounds : ℕ) (unit : Unit {0}) → k ≡ step.Settle
    → Comes {T = ℕ} s new (settled_world all_limits s (at_world w)) (Ok rounds) → Comes s new (steps all_limits s (at_world w) k) (Ok unit)
unfolding steps
settled_comes s new w k rounds unit is comes =
    subst (λ (j : Step). Comes s new (steps all_limits s (at_world w) j) (Ok unit)) (sym is) (record { done = comes.done; large = λ n past. absurd (fails unit (fault.TooLarge n) past) })

pub settled_ends : (s : Setup) (new : WorldView) (w : World) (k : Step) (f : RunFault) → k ≡ step.Settle
    → Comes {T = ℕ} s new (settled_world all_limits s (at_world w)) (Err f) → Comes {T = Unit {0}} s new (steps all_limits s (at_world w) k) (Err f)
unfolding steps
settled_ends s new w k f is comes =
    subst (λ (j : Step). Comes {T = Unit {0}} s new (steps all_limits s (at_world w) j) (Err f)) (sym is)
    (record { done = tt; large = λ n past. comes.large n (same_fault (Unit {0}) ℕ f (fault.TooLarge n) past) })

pub step_settled_seen : {T : Type 0} (o : Sight T) (s : Setup) (w : World) (k : Step) (t u : T) → k ≡ step.Settle → (settled_world all_limits s (at_world w)).ended ≡ None
    → u ≡ o.settled s (settled_world all_limits s (at_world w)).world (settle_seen o all_limits s (at_world w) t) → u ≡ step_seen o all_limits s (at_world w) k t
unfolding steps step_seen
step_settled_seen {T} o s w k t u is going seen =
    let q : Ran = settled_world all_limits s (at_world w) in let x = settle_seen o all_limits s (at_world w) t in
    subst (λ (j : Step). u ≡ step_seen o all_limits s (at_world w) j t) (sym is)
    (seen ∙ sym (ap (λ (l : Option ℕ). unless_ended (record { world = q.world; ended = l }) x (o.settled s q.world x)) going))

-- ---- steps

-- what is left from here comes to what all comes to, and who sees it has seen all
pub record GoesOn {T : Type 0} (o : Sight T) (s : Setup) (old now : WorldView) (t u : T) (all left : List Step) : Type 0 where
  pub at : IsAt s now
  pub comes : (w : World) → Reached s w → Stands s (kept_of old) w
      → (v : World) × Reached s v × Stands s (kept_of now) v × (run_from all_limits s (at_world w) all ≡ run_from all_limits s (at_world v) left)
      × (run_seen o all_limits s (at_world v) left u ≡ run_seen o all_limits s (at_world w) all t)

pub first_of : {T : Type 0} (o : Sight T) (s : Setup) (b : WorldView) (t : T) (all : List Step) → IsAt s b → GoesOn o s b b t t all all
first_of o s b t all h = record { at = h; comes = λ w reached stands. (w, reached, stands, refl, refl) }

ran_is : (r : Ran) → r.ended ≡ None → r ≡ at_world r.world
ran_is r is = ap (λ (o : Option ℕ). record { world = r.world; ended = o }) is

abbrev pub ComesBy : Setup → (now new : WorldView) → Step → Answer → Type 0
ComesBy s now new k a = (w : World) → Reached s w → Stands s (kept_of now) w → Comes s new (steps all_limits s (at_world w) k) a

abbrev pub SeenBy : {T : Type 0} → Sight T → Setup → WorldView → (old new : T) → Step → Answer → Type 0
SeenBy o s now old new k a = (w : World) → Reached s w → Stands s (kept_of now) w → OnOk a (new ≡ step_seen o all_limits s (at_world w) k old)

pub goes_on_by : {T : Type 0} (o : Sight T) (s : Setup) (old now new : WorldView) (t mid u : T) (all left : List Step) (k : Step) (unit : Unit {0}) → GoesOn o s old now t mid all (k ∷ left)
    → ComesBy s now new k (Ok unit) → SeenBy o s now mid u k (Ok unit) → IsAt s new → GoesOn o s old new t u all left
goes_on_by {T} o s old now new t mid u all left k unit goes step seen at = record {
  at = at;
  comes = λ w reached stands.
      let from = goes.comes w reached stands in let v : World = from.0 in let r : Ran = steps all_limits s (at_world v) k in
      let came = (step v from.1 from.2).done in let is = ran_is r came.1 in (
        r.world,
        reaches s (at_world v) k from.1,
        came.0,
        from.3 ∙ ap (λ (q : Ran). run_from all_limits s q left) is,
        ap (λ (x : T). run_seen o all_limits s (at_world r.world) left x) (seen v from.1 from.2)
            ∙ (ap (λ (q : Ran). run_seen o all_limits s q left (step_seen o all_limits s (at_world v) k mid)) (sym is) ∙ from.4),
      );
}

pub all_seen : {T : Type 0} (o : Sight T) (s : Setup) (old now : WorldView) (t u : T) (all : List Step) (w : World) → GoesOn o s old now t u all [] → Reached s w → Stands s (kept_of old) w
    → u ≡ run_seen o all_limits s (at_world w) all t
all_seen o s old now t u all w goes reached stands = (goes.comes w reached stands).4

pub ends_there : {T : Type 0} (o : Sight T) (s : Setup) (old now new : WorldView) (t u : T) (all left : List Step) (k : Step) (f : RunFault) (w : World) → GoesOn o s old now t u all (k ∷ left)
    → ComesBy s now new k (Err f) → Reached s w → Stands s (kept_of old) w → Comes {T = Unit {0}} s new (run_from all_limits s (at_world w) all) (Err f)
ends_there o s old now new t u all left k f w goes step reached stands =
    let from = goes.comes w reached stands in let v : World = from.0 in let r : Ran = steps all_limits s (at_world v) k in
    subst (λ (q : Ran). Comes {T = Unit {0}} s new q (Err f)) (sym from.3) (record {
      done = tt;
      large = λ n past.
          let came = (step v from.1 from.2).large n past in
          subst (λ (q : Ran). Stands s (kept_of new) q.world × (q.ended ≡ Some n)) (sym (stays s r left n came.1)) came;
    })

-- ---- faults

-- what no fault changed no limit changed
pub past_of : (X : Type 0) (a : Answer) → OnErr a X → (n : ℕ) → a ≡ Err (fault.TooLarge n) → X
past_of X a h n is = subst (λ (b : Answer). OnErr b X) is h

-- want of memory says nothing of a run
abbrev IsWant : {T : Type 0} → Result T RunFault → Type 0
IsWant (Err fault.Memory) = Unit {0}
IsWant r = ⊥

abbrev wanting : Answer
wanting = Err fault.Memory

pub past_wants : (X : Type 0) (n : ℕ) → wanting ≡ Err (fault.TooLarge n) → X
past_wants X n is = absurd (subst (λ (a : Answer). IsWant a) is tt)

pub wants_come : {T : Type 0} (s : Setup) (new : WorldView) (r : Ran) → Comes {T = T} s new r (Err fault.Memory)
wants_come {T} s new r = record { done = tt; large = λ n is. absurd (subst (λ (a : Result T RunFault). IsWant a) is tt) }
