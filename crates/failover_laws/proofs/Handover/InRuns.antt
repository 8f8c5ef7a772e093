-- What is claimed of the run of some steps, where none of its parts is too long.
use Rattle.std.proofs.Common.{◌≡◌, ℕ, ◌<◌, List, [], ◌∷◌, ◌++◌, length, sym, ap, subst, ◌∙◌, append_assoc}
use Rattle.std.specs.Prelude.{take}
use Rattle.world_laws.proofs.Types.{Step}
use Rattle.world_laws.proofs.Types.step
use Rattle.geo_base.specs.Laws.{IsShort, begun}
use Rattle.geo_base.specs.Moments.{NotBegun, Settling, settling_so_far, world_between}
use Rattle.geo_base.specs.Run.{Ran, no_limits, run, run_from}
use Rattle.geo_base.specs.Scripted.{IsScripted}
use Rattle.geo_base.specs.Setup.{Setup, sub_name, sub_names}
use Rattle.geo_base.specs.World.{World, opening_world, topic_at}
use Rattle.world_laws.specs.Reached.{ReachedFrom}
use Rattle.world_laws.proofs.Induction.Reaching.{goes_on}
use Rattle.world_laws.proofs.KeptRuns.ResumedRuns.{run_parts}
use Rattle.failover_laws.specs.Ended.{NoneIsMaking, asking_steps}
use Rattle.failover_laws.specs.Moves.{AllActedOn, AllCovered, AllDrained, AllEnded, AllHandedOver, AllOffered, AllSwitchedOver, AlwaysRoom, MayMove, led_on, move_steps}
use Rattle.failover_laws.specs.Procedure.{HasTakenOver, offers}
use Rattle.failover_laws.specs.Run.{AllLeave}
use Rattle.failover_laws.specs.Switched.{HasRoomFrom, LeftFrom}
use Rattle.failover_laws.proofs.Acting.Acted.{acts_law}
use Rattle.failover_laws.proofs.Acting.LeftRuns.{all_left, left_reached, left_since, settling_left}
use Rattle.failover_laws.proofs.Acting.RunOn.{open_at, settled_on}
use Rattle.failover_laws.proofs.Acting.SwitchedOver.{switched}
use Rattle.failover_laws.proofs.Covers.Covering.{covers_law}
use Rattle.failover_laws.proofs.Covers.Known.{reached_then}
use Rattle.failover_laws.proofs.DrainedGiven.{drained_law}
use Rattle.failover_laws.proofs.Ending.EndedRuns.{none_law}
use Rattle.failover_laws.proofs.Ending.Snapped.{snapped}
use Rattle.failover_laws.proofs.Handover.HandedOver.{handed_over}
use Rattle.failover_laws.proofs.Offering.Offered.{offered}
use Rattle.failover_laws.proofs.Room.RoomRuns.{room_law}

-- each part of the steps leads to a world of fewer than 2^62 events, also inside a settling that follows it
abbrev pub HasShortParts : Setup → List Step → Type 0
HasShortParts s es = (part rest : List Step) (at : Settling) → es ≡ part ++ rest → IsShort (world_between no_limits s part at)

-- ---- worlds of a run

-- further steps go on from the world that the first ones lead to
steps_on : (s : Setup) (before between : List Step) → run_from no_limits s (begun (opening_world s)) (before ++ between) ≡ run_from no_limits s (begun (run s before)) between
steps_on s before between =
    run_parts no_limits s (begun (opening_world s)) before between ∙ ap (λ (r : Ran). run_from no_limits s r between) (open_at s (opening_world s) before)

from_opening : (s : Setup) (es : List Step) → ReachedFrom s (opening_world s) (run s es)
from_opening s es = (goes_on s (opening_world s)).limited no_limits es

leads_on : (s : Setup) (before between : List Step) (at : Settling) → ReachedFrom s (run s before) (led_on s before between at)
leads_on s before between at =
    subst (λ (r : Ran). ReachedFrom s (run s before) (settling_so_far no_limits s r at).world) (sym (steps_on s before between)) ((goes_on s (run s before)).between no_limits between at)

left_on : (s : Setup) (before between : List Step) (t y : ℕ) (n : List ℕ) (at : Settling) → AllLeave no_limits s t y n (begun (run s before)) between
    → LeftFrom s t y n (run s before) (led_on s before between at)
left_on s before between t y n at leave =
    subst (λ (r : Ran). LeftFrom s t y n (run s before) (settling_so_far no_limits s r at).world) (sym (steps_on s before between))
    (settling_left no_limits s t y n (run s before) (run_from no_limits s (begun (run s before)) between) at
    (all_left no_limits s t y n (run s before) (begun (run s before)) between leave LeftFrom.Starting))

-- what is parted in three is parted in two
joined : (before between rest : List Step) → before ++ (between ++ rest) ≡ (before ++ between) ++ rest
joined before between rest = sym (append_assoc before between rest)

-- there is room wherever the run goes
room_from : (s : Setup) → IsScripted s → (v : World) → ReachedFrom s (opening_world s) v → (t y num : ℕ) → t < length s.topics → y < length s.clusters → num < length (sub_names s t)
    → HasRoomFrom s v t y (sub_name s t num)
room_from s scripted v from t y num lt small known o path =
    (room_law s scripted o (reached_then s (opening_world s) v o from (left_reached s t y (sub_name s t num) v o path))).named t y num lt small known

-- ---- each claim

all_drained : (s : Setup) (es : List Step) → AllDrained s es
all_drained s es before between rest t y n u at is here none leave =
    let v = run s before in let w = led_on s before between at in
    let d = drained_law.report (topic_at s v t y) n u here none in
    (d, drained_law.given s t y n v w d (left_since s t y n v w (left_on s before between t y n at leave)))

all_covered : (s : Setup) → IsScripted s → (es : List Step) → HasShortParts s es → AllCovered s es
all_covered s scripted es short before between rest at is =
    let v = run s before in let w = led_on s before between at in let from = from_opening s before in let more = leads_on s before between at in
    let few : IsShort w = short (before ++ between) rest at (is ∙ joined before between rest) in
    (covers_law.covers s scripted v w from more few, covers_law.again s scripted v w from more few)

all_acted : (s : Setup) → IsScripted s → (es : List Step) → HasShortParts s es → AllActedOn s es
all_acted s scripted es short before between rest t y a k num told at is lt known pair leave m unread =
    let n = sub_name s t num in let v = run s before in let w = led_on s before between at in let from = from_opening s before in
    acts_law s scripted v w t y a k n told from (left_on s before between t y n at leave) (short (before ++ between) rest at (is ∙ joined before between rest)) pair
    (room_from s scripted v from t y num lt pair.0 known) m unread

all_ended : (s : Setup) → IsScripted s → (es : List Step) → HasShortParts s es → AllEnded s es
all_ended s scripted es short = record {
  none = λ before rest is.
      let settled = settled_on s before in
      let few : IsShort (run s (before ++ step.Settle ∷ [])) = short (before ++ step.Settle ∷ []) rest NotBegun (is ∙ joined before (step.Settle ∷ []) rest) in
      subst (NoneIsMaking s) (sym settled) ((none_law s scripted).run before (subst IsShort settled few));
  stored = λ before rest t x is lt small any.
      let first = before ++ step.Settle ∷ [] in
      snapped s scripted before t x lt small any (short (first ++ asking_steps t x) rest NotBegun (is ∙ joined first (asking_steps t x) rest));
}

all_switched : (s : Setup) → IsScripted s → (es : List Step) → HasShortParts s es → AllSwitchedOver s es
all_switched s scripted es short before after rest t y a k num told is lt known pair asked m goes since leave =
    switched s scripted before after t y a k (sub_name s t num) told pair
    (short (before ++ after ++ step.Settle ∷ []) rest NotBegun (is ∙ joined (before ++ after) (step.Settle ∷ []) rest)) asked m goes since leave
    (room_from s scripted (run s before) (from_opening s before) t y num lt pair.1 known)

all_offered : (s : Setup) → IsScripted s → (es : List Step) → HasShortParts s es → AllOffered s es
all_offered s scripted es short before after rest t x y num k u remote is lt known pair asked here replicated drained lacks enough leave =
    let some = before ++ (after ++ offers k t x num) in
    offered s scripted before after t x y num k u remote lt known pair asked here replicated drained lacks enough
    (short (some ++ step.Settle ∷ []) rest NotBegun (is ∙ joined some (step.Settle ∷ []) rest)) leave

-- the steps of the procedure, as its law parts them
as_parted : (before : List Step) (t x num k : ℕ) → before ++ move_steps k t x num ≡ (before ++ step.Settle ∷ []) ++ (asking_steps t x ++ offers k t x num) ++ step.Settle ∷ []
as_parted before t x num k =
    let end = step.Settle ∷ [] in let first = before ++ end in let some = asking_steps t x ++ offers k t x num in
    sym (append_assoc before end (some ++ end)) ∙ sym (append_assoc first some end)

all_handed_over : (s : Setup) → IsScripted s → (es : List Step) → HasShortParts s es → AllHandedOver s es
all_handed_over s scripted es short before rest t x y num k u is lt known pair here replicated none enough =
    let n = sub_name s t num in let v = run s (before ++ step.Settle ∷ []) in let parted = as_parted before t x num k in
    let few : IsShort (run s (before ++ move_steps k t x num)) = short (before ++ move_steps k t x num) rest NotBegun is in
    subst (λ (fs : List Step). HasTakenOver s v (run s fs) t y x n) (sym parted)
    (handed_over s scripted before t x y num k u lt known pair here replicated (drained_law.report (topic_at s v t x) n u here none) enough
    (subst (λ (fs : List Step). IsShort (run s fs)) parted few))

always_room : (s : Setup) → IsScripted s → (es : List Step) → AlwaysRoom s es
always_room s scripted es k at = room_law s scripted (world_between no_limits s (take k es) at) ((goes_on s (opening_world s)).between no_limits (take k es) at)

-- of the run of an accepted script, where none of its parts is too long
pub may_move : (s : Setup) → IsScripted s → (es : List Step) → HasShortParts s es → MayMove s es
may_move s scripted es short = record {
  room = always_room s scripted es;
  drained = all_drained s es;
  covers = all_covered s scripted es short;
  acts = all_acted s scripted es short;
  ended = all_ended s scripted es short;
  switched = all_switched s scripted es short;
  offered = all_offered s scripted es short;
  handed_over = all_handed_over s scripted es short;
}
