-- What `lost` shows of a run: what is lost if a cluster goes at its end. The cluster is named by a word, which has to be declared (own).
use Rattle.std.specs.Prelude.{◌≡◌, ℕ, ◌+◌, ◌-◌, ◌==◌, Bool, true, not, if◌then◌else◌, List, length, Result, Ok, Err, slice_index_or}
use Rattle.geo_base.specs.declared.event.Event.TheVariants as event
use Rattle.geo_base.specs.declared.event.Step.{Step}
use Rattle.geo_base.specs.declared.marker.ClusterPosition.{ClusterPosition}
use Rattle.geo_base.specs.Happening.{happens}
use Rattle.geo_base.specs.Run.{run}
use Rattle.geo_base.specs.Setup.{Setup}
use Rattle.geo_base.specs.Subscription.{Subscription}
use Rattle.geo_base.specs.World.{World}
use Rattle.failover_laws.specs.UpdatedTo.{MayUpdateTo}
use Rattle.failover_laws.specs.Since.{Since}
use Rattle.loss_laws.specs.LossLaws.{AgainBehind, MissingIsEnd, NamesLost}
use Rattle.loss_laws.specs.LostLines.{lost_text}
use Rattle.script_rows.specs.NameBytes.{is_among, number_in}
use Rattle.script_text.specs.Lines.{lines_of}
use Rattle.script_text.specs.Script.{Fault, Script}
use Rattle.state_file.specs.State.{SavedState}
use Rattle.run_report.specs.States.{resumed}

-- ---- the cluster, by its name

abbrev pub Declares : Setup → List ℕ → Type 0
Declares s name = is_among s.clusters name ≡ true

abbrev pub cluster_number : Setup → List ℕ → ℕ
cluster_number s name = number_in s.clusters name

-- a name that is not declared is refused by the rule on names that are not, as one of an event, and stands after the last line
abbrev pub undeclared : List ℕ → Fault
undeclared lines = record { line = length (lines_of lines) + 1; rule = 15 }

-- what lines lead to, if the setup declares the cluster
abbrev pub if_declared : {A : Type 0} → Setup → List ℕ → List ℕ → A → Result A Fault
if_declared s name lines a = if is_among s.clusters name then Ok a else Err (undeclared lines)

-- a script that declares it
abbrev pub declaring : List ℕ → List ℕ → Result Script Fault → Result Script Fault
declaring name input (Ok n) = if_declared n.setup name input n
declaring name input (Err f) = Err f

-- steps after a state that declares it
abbrev pub declaring_on : Setup → List ℕ → List ℕ → Result (List Step) Fault → Result (List Step) Fault
declaring_on s name lines (Ok es) = if_declared s name lines es
declaring_on s name lines (Err f) = Err f

-- lines as they are counted: those that a line feed ends, one more by a byte that is one, and whether there is one more after the last
abbrev pub with_end : ℕ → ℕ → ℕ
with_end ended byte = if byte == 10 then ended + 1 else ended

abbrev pub is_cut : List ℕ → Bool
is_cut bytes = not (slice_index_or bytes (length bytes - 1) 10 == 10)

-- ---- the bytes: of a script's run, with the messages' names or without, and of a run that goes on from a state

abbrev pub lost_of : List ℕ → Bool → Script → List ℕ
lost_of name names n = lost_text names n.setup (run n.setup n.steps) (cluster_number n.setup name)

abbrev pub lost_on : List ℕ → SavedState → List Step → List ℕ
lost_on name f es = lost_text true f.scenario.setup (resumed f es) (cluster_number f.scenario.setup name)

-- ---- what holds of the messages that are named, of each topic, each cluster x that goes and each other one y
pub record LossHolds (s : Setup) (w : World) : Type 0 where
  -- What x has for y is as much of it as stands at y, and a rest; of this rest the messages are missing at y, in order.
  pub missing : MissingIsEnd s w
  -- After an event that acts on an update of x for a subscription, which names index j at y, those of x's messages that would come
  -- again to it there stand after j, until it is deleted or sought there.
  pub again : (u : World) (t x y j : ℕ) (v : Subscription) (remote : List ClusterPosition) → MayUpdateTo s u t y x v.name remote j
      → Since s t y v.name (happens s u (event.Read t y x)) w → AgainBehind s w t x y v j
  -- What is lost stands at no other cluster, and each message of x that is named as lost, alone or differing nowhere stands at each one
  -- that it is meant for.
  pub lost : NamesLost s w
