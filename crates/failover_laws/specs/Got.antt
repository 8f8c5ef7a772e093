-- What a client gets after a move: the messages that the got lines of a report name.
use Rattle.std.specs.Prelude.{◌≡◌, ℕ, ◌<◌, ◌⊎◌, false, List, [], ◌∷◌, ◌++◌, Some}
use Rattle.geo_base.specs.declared.entry.Entry.{Entry}
use Rattle.geo_base.specs.declared.entry.Ident.{Ident}
use Rattle.geo_base.specs.declared.event.Event.TheVariants as event
use Rattle.geo_base.specs.declared.event.Step.{Step}
use Rattle.geo_base.specs.declared.marker.ClusterPosition.{ClusterPosition}
use Rattle.geo_base.specs.Entry.{meant_for}
use Rattle.geo_base.specs.Happening.{happens}
use Rattle.geo_base.specs.Laws.{begun}
use Rattle.geo_base.specs.Moments.{Settling}
use Rattle.geo_base.specs.Run.{no_limits, run, run_from}
use Rattle.geo_base.specs.Safe.{IsEntry}
use Rattle.geo_base.specs.Scripted.{IsScripted}
use Rattle.geo_base.specs.Setup.{Setup, declared_at}
use Rattle.geo_base.specs.World.{World, client_at, opening_world, topic_at}
use Rattle.world_laws.specs.AlikeWorlds.{AreAlike, world_on}
use Rattle.world_laws.specs.Reached.{ReachedFrom}
use Rattle.world_laws.specs.Starts.{resumed_world}
use Rattle.world_laws.specs.SubLines.{IsSubLine}
use Rattle.failover_laws.specs.UpdatedTo.{HasUpdatedTo}
use Rattle.failover_laws.specs.Run.{ActsOn, AllLeave}
use Rattle.failover_laws.specs.Since.{Since}

-- client c is on a connection to y that it opened since world v
pub record IsConnectedSince (s : Setup) (v w : World) (c y : ℕ) : Type 0 where
  pub newer : (client_at s v c).connection < (client_at s w c).connection
  pub cluster : (client_at s w c).cluster ≡ y

-- the sub line in force names n
abbrev pub SubsTo : Setup → World → ℕ → List ℕ → Type 0
SubsTo s w c n = (i : ℕ) × ((client_at s w c).sub ≡ Some i) × IsSubLine (declared_at s c) i n

-- the message of this identity stands at y after index j, or is not meant for a
pub record IsBehindOrApart (s : Setup) (w : World) (t y a j : ℕ) (ident : Ident) : Type 0 where
  pub index : ℕ
  pub entry : Entry
  pub stands : IsEntry (topic_at s w t y) index entry
  pub is : entry.ident ≡ ident
  pub late : (j < index) ⊎ (meant_for a entry ≡ false)

-- a world that a run comes to, which may have been kept on the way and gone on from there, however often
pub data CameTo (s : Setup) : World → Type 0 where
  Opening : CameTo s (opening_world s)
  Going : (u v : World) → CameTo s u → ReachedFrom s u v → CameTo s v
  GoingOn : (u : World) → CameTo s u → CameTo s (resumed_world s u)

-- each message that a get adds to what c got, on a connection to y that c opened since n had passed over index j there, stands at y after
-- j, or is not meant for a. A client works on one topic
abbrev pub GetsBehind : Setup → Type 0
GetsBehind s = (v w : World) (y c : ℕ) (n : List ℕ) (a j : ℕ) (ident : Ident) → CameTo s v
    → let t = (declared_at s c).topic in HasUpdatedTo (topic_at s v t y) n a j → Since s t y n v w → IsConnectedSince s v w c y → SubsTo s w c n
    → (client_at s (happens s w (event.Get c)) c).got ≡ (client_at s w c).got ++ ident ∷ []
    → IsBehindOrApart s w t y a j ident

-- in the run of these steps from v: so it is on each connection to y that c opened after a step that acts on an update of a for n
abbrev pub IsNeverGotAgain : Setup → World → List Step → Type 0
IsNeverGotAgain s v es = (before between rest : List Step) (e : Step) (y a c : ℕ) (n : List ℕ) (remote : List ClusterPosition) (j : ℕ) (at : Settling) (ident : Ident)
    → es ≡ before ++ e ∷ (between ++ rest)
    → let t = (declared_at s c).topic in let behind = run_from no_limits s (begun v) (before ++ e ∷ []) in
    ActsOn s (run_from no_limits s (begun v) before) t y a n remote j e → AllLeave no_limits s t y n behind between
    → let w = world_on s v (before ++ e ∷ between) at in IsConnectedSince s behind.world w c y → SubsTo s w c n
    → (client_at s (happens s w (event.Get c)) c).got ≡ (client_at s w c).got ++ ident ∷ []
    → IsBehindOrApart s w t y a j ident

-- of a run from the opening world, and of one that goes on over links that were never used from a world that is alike to where such a
-- run came, as from what was kept of it after a stop
pub record LawGot : Type 0 where
  pub gets : (s : Setup) → GetsBehind s
  pub script : (s : Setup) → IsScripted s → (es : List Step) → IsNeverGotAgain s (opening_world s) es
  pub resumed : (s : Setup) → IsScripted s → (v : World) (before es : List Step) → AreAlike (run s before) v → resumed_world s v ≡ v → IsNeverGotAgain s v es
