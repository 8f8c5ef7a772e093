-- Turns of actors, and of crews.
use Rattle.std.proofs.Common.{◌≡◌, ℕ, zero, suc, ◌+◌, ◌%◌, ◌<◌, ◌≤◌, Bool, true, false, List, [], ◌∷◌, length, refl, sym, ap, subst, ◌∙◌, add-one, arith}
use Rattle.std.specs.Prelude.{Result, Ok, Err, IfOk, IsErr, slice_index_or, slice_set, ◌==◌}
use Rattle.std.proofs.lemmas.Bool.{false≢true}
use Rattle.std.proofs.lemmas.Bool.Decides.{nat_tests}
use Rattle.std.proofs.lemmas.List.{get_or_default}
use Rattle.actors.specs.Tries.{Actor}
use Rattle.geo_base.specs.declared.memory.Memory.{Memory}
use Rattle.geo_base.specs.Nodes.{node_count}
use Rattle.live_run.specs.Crews.{crews_below, members_in}
use Rattle.live_run.specs.Rotation.{IsMembers, IsRun, IsVisit, Rotates, TakesTurn, Visits, own_count}
use Rattle.live_run.specs.Turns.{AllRan, TookTurns}
use Rattle.live_run.specs.declared.crew.Crew.{Crew}
use Rattle.live_run.specs.declared.crew.Ended.{Ended}
use Rattle.live_run.specs.declared.crew.Ended.TheVariants as ended
use Rattle.live_run.specs.declared.crew.Member.{Member}
use Rattle.script_text.specs.Script.{Script}

-- ---- visits

pub visit_nowhere : (n : ℕ) (a : Actor) → n ≡ 0 → Visits n a a (Ok false)
visit_nowhere n a is = subst (λ (k : ℕ). Visits k a a (Ok false)) (sym is) (Visits.nowhere a)

memories : (e f : Memory) → e ≡ f
memories e f = refl

pub visit_wants : (n m : ℕ) {a a' : Actor} {r : Result Bool Memory} {e : Memory} → m + 1 ≡ n → IsVisit a a' r → r ≡ Err e → (q : Result Bool Memory) → IsErr q → Visits n a a' q
visit_wants n m {a} {a'} {r} {e} is visit was (Ok b) err = absurd (false≢true err)
visit_wants n m {a} {a'} {r} {e} is visit was (Err f) err =
    subst (λ (k : ℕ). Visits k a a' (Err f)) (sym (add-one m) ∙ is) (Visits.wants m a a' f (subst (λ (q : Result Bool Memory). IsVisit a a' q) (was ∙ ap (λ (g : Memory). Err g) (memories e f)) visit))

pub visit_ends : (n m : ℕ) {a a' : Actor} {r : Result Bool Memory} {did : Bool} → m + 1 ≡ n → IsVisit a a' r → r ≡ Ok did → did ≡ true → Visits n a a' (Ok true)
visit_ends n m {a} {a'} {r} {did} is visit was so =
    subst (λ (k : ℕ). Visits k a a' (Ok true)) (sym (add-one m) ∙ is) (Visits.does m a a' (subst (λ (q : Result Bool Memory). IsVisit a a' q) (was ∙ ap (λ (b : Bool). Ok b) so) visit))

pub visit_goes_on : (n m : ℕ) {a mid a' : Actor} {r q : Result Bool Memory} {did : Bool} → m + 1 ≡ n → IsVisit a mid r → r ≡ Ok did → did ≡ false → Visits m mid a' q → Visits n a a' q
visit_goes_on n m {a} {mid} {a'} {r} {q} {did} is visit was so rest =
    subst (λ (k : ℕ). Visits k a a' q) (sym (add-one m) ∙ is) (Visits.goes_on m a mid a' q (subst (λ (p : Result Bool Memory). IsVisit a mid p) (was ∙ ap (λ (b : Bool). Ok b) so) visit) rest)

-- ---- a turn of a crew

none_left : (ms : List Member) → length ms ≡ 0 → ms ≡ []
none_left [] is = refl
none_left (m ∷ ms) is = absurd (omega (arith, is))

pub idle : (logs turn : ℕ) (ms : List Member) → length ms ≡ 0 → TakesTurn logs turn ms ms (Ok tt)
idle logs turn ms is = TakesTurn.Idle (none_left ms is) refl

takes_one : (logs turn : ℕ) (ms ms' : List Member) (old new : Member) (r : Result Bool Memory) → 0 < length ms → slice_index_or ms (turn % length ms) old ≡ old
    → Visits (own_count logs old) old.actor new.actor r → new ≡ record old { actor = new.actor } → ms' ≡ slice_set ms (turn % length ms) new → IsMembers logs turn ms ms' r
takes_one logs turn ms ms' old new r some whose visits rest members =
    record { some = some; old = old; new = new; whose = whose; visits = visits; rest = rest; members = members }

pub takes : (logs turn : ℕ) (ms ms' : List Member) (old new : Member) (r : Result Bool Memory) (did : Bool) → 0 < length ms → slice_index_or ms (turn % length ms) old ≡ old
    → Visits (own_count logs old) old.actor new.actor r → new ≡ record old { actor = new.actor } → ms' ≡ slice_set ms (turn % length ms) new → r ≡ Ok did → TakesTurn logs turn ms ms' (Ok tt)
takes logs turn ms ms' old new r did some whose visits rest members was =
    TakesTurn.Takes did (subst (λ (q : Result Bool Memory). IsMembers logs turn ms ms' q) was (takes_one logs turn ms ms' old new r some whose visits rest members))

pub wants : (logs turn : ℕ) (ms ms' : List Member) (old new : Member) (r : Result Bool Memory) (e : Memory) → 0 < length ms → slice_index_or ms (turn % length ms) old ≡ old
    → Visits (own_count logs old) old.actor new.actor r → new ≡ record old { actor = new.actor } → ms' ≡ slice_set ms (turn % length ms) new → r ≡ Err e → TakesTurn logs turn ms ms' (Err e)
wants logs turn ms ms' old new r e some whose visits rest members was =
    TakesTurn.Wants e (subst (λ (q : Result Bool Memory). IsMembers logs turn ms ms' q) was (takes_one logs turn ms ms' old new r some whose visits rest members))

-- ---- all its turns

pub starts : (logs : ℕ) (ms : List Member) → Rotates logs ms 0 ms
starts logs ms = Rotates.starts

pub one_turn : (logs n : ℕ) (ms mid ms' : List Member) (r : Result (Unit {0}) Memory) → Rotates logs ms n mid → TakesTurn logs n mid ms' r → r ≡ Ok tt → Rotates logs ms (n + 1) ms'
one_turn logs n ms mid ms' r before turn was =
    subst (λ (k : ℕ). Rotates logs ms k ms') (sym (add-one n)) (Rotates.turns n mid ms' before (subst (λ (q : Result (Unit {0}) Memory). TakesTurn logs n mid ms' q) was turn))

pub all_turns : (logs turns n : ℕ) (ms ms' : List Member) → n ≤ turns → turns ≤ n → Rotates logs ms n ms' → IsRun logs turns ms ms' ended.Whole
all_turns logs turns n ms ms' le ge done =
    let is : n ≡ turns = omega (arith, le, ge) in IsRun.All (subst (λ (k : ℕ). Rotates logs ms k ms') is done)

pub wanted : (logs turns n : ℕ) (ms mid ms' : List Member) (r : Result (Unit {0}) Memory) (e : Memory) → n < turns → Rotates logs ms n mid → TakesTurn logs n mid ms' r → r ≡ Err e
    → IsRun logs turns ms ms' ended.Wanting
wanted logs turns n ms mid ms' r e lt before turn was = IsRun.Wants n mid e lt before (subst (λ (q : Result (Unit {0}) Memory). TakesTurn logs n mid ms' q) was turn)

pub stopped : (logs turns n : ℕ) (ms ms' : List Member) → n < turns → Rotates logs ms n ms' → IsRun logs turns ms ms' ended.Stopped
stopped logs turns n ms ms' lt before = IsRun.Stops n lt before

-- ---- all crews

abbrev AreWhole : ℕ → List Crew → Type 0
AreWhole n cs = (k : ℕ) (c : Crew) → k < n → (slice_index_or cs k c).ended ≡ ended.Whole

pub none_whole : (cs : List Crew) → AreWhole 0 cs
none_whole cs = λ k c lt. absurd (omega (arith, lt))

pub one_whole : (cs : List Crew) (n : ℕ) (d : Crew) → n < length cs → (slice_index_or cs n d).ended ≡ ended.Whole → AreWhole n cs → AreWhole (n + 1) cs
one_whole cs n d within whole before = λ k c lt. by k c (k == n) refl lt
  where
    by : (k : ℕ) (c : Crew) (same : Bool) → (k == n) ≡ same → k < n + 1 → (slice_index_or cs k c).ended ≡ ended.Whole
    by k c true so lt =
        let is : k ≡ n = grind (arith, nat_tests, so) in
        subst (λ (j : ℕ). (slice_index_or cs j c).ended ≡ ended.Whole) (sym is) (ap (λ (x : Crew). x.ended) (get_or_default cs n c d within) ∙ whole)
    by k c false so lt = before k c (grind (arith, nat_tests, so, lt))

rotated : (logs turns : ℕ) (ms ms' : List Member) (e : Ended) → IsRun logs turns ms ms' e → e ≡ ended.Whole → Rotates logs ms turns ms'
rotated logs turns ms ms' ended.Whole (IsRun.All done) is = done
rotated logs turns ms ms' ended.Wanting run is = absurd (cc)
rotated logs turns ms ms' ended.Stopped run is = absurd (cc)

pub on_any : {X : Type 0} (r : Result X Memory) (P : Type 0) → P → IfOk r (λ x. P)
on_any (Ok x) P p = p
on_any (Err e) P p = tt

pub took : (s : Script) (workers turns logs n : ℕ) (old new : List Crew) → members_in old ≡ crews_below s workers workers → length old ≡ workers → n ≡ length new → length new ≡ length old
    → logs ≡ node_count s.setup → AllRan logs turns old new → AreWhole n new → TookTurns s workers turns
took s workers turns logs n old new formed count all same nodes ran whole = record {
  formed = old;
  ran = new;
  crews = formed;
  turned = λ k c lt.
      subst (λ (l : ℕ). Rotates l (slice_index_or old k c).members.items turns (slice_index_or new k c).members.items) nodes
      (rotated logs turns _ _ _ (ran k c (omega (arith, lt, count))) (whole k c (omega (arith, lt, count, all, same))));
}
