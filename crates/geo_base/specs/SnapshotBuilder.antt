-- The builder of a snapshot (PIP-33): it asks every remote cluster for a position, once where there is one remote cluster and
-- in two rounds where there are more, so that what a cluster's answer names has reached the others by the end.
use Rattle.std.specs.Prelude.{ℕ, ◌+◌, nat_lt, ◌==◌, Bool, true, false, not, ◌&&◌, ◌||◌, if◌then◌else◌, List, [], ◌∷◌, ◌++◌, length, replicate, Option, Some, None, slice_set, decimal}
use Rattle.std.specs.Str.{bytes_eq}
use Rattle.geo_base.specs.Types.{SnapshotBuilder, ClusterPosition, Cut, Position, Progress}
use Rattle.geo_base.specs.Types.cluster_ref
use Rattle.geo_base.specs.Types.progress
use Rattle.geo_base.specs.Cursor.{has}
use Rattle.geo_base.specs.Position.{later_position}

-- a snapshot's id: the cluster's name and the position of its request, as a:0:1 (own)
abbrev pub snapshot_id : List ℕ → Position → List ℕ
snapshot_id name p = name ++ (58 ∷ (decimal p.ledger ++ (58 ∷ decimal p.entry)))

-- the id of the second round, as a:0:1/2 (own: a repeated answer of the first round cannot pass for one of the second)
abbrev pub second_id : List ℕ → List ℕ
second_id id = id ++ (47 ∷ 50 ∷ [])

abbrev pub current_id : SnapshotBuilder → List ℕ
current_id b = if b.second then second_id b.id else b.id

-- a builder of the cluster own among n, in round one, with nothing heard
abbrev pub started : List ℕ → ℕ → ℕ → SnapshotBuilder
started id own n = record { id = id; own = own; clusters = n; second = false; heard = []; cut = record { local = record { ledger = 0; entry = 0 }; remote = replicate n None }; finished = false }

-- a response counts where it has the current id and is the cluster's first one in this round
abbrev pub counts : SnapshotBuilder → List ℕ → ℕ → Bool
counts b id c = not b.finished && bytes_eq id (current_id b) && not (c == b.own) && nat_lt c b.clusters && not (has b.heard c)

-- one more response: round one keeps the position that it names; the cut's local position is the greatest of all
-- responses that counted (own: they may be stored in another order than they are read)
abbrev pub with_response : SnapshotBuilder → ℕ → Position → Position → SnapshotBuilder
with_response b c remote local = record b {
  heard = c ∷ b.heard;
  cut = record { local = later_position b.cut.local local; remote = if b.second then b.cut.remote else slice_set b.cut.remote c (Some remote) };
}

-- what a builder has become, and how far it is
pub record Heard : Type 0 where
  pub progress : Progress
  pub builder : SnapshotBuilder

-- the round ends when every remote cluster was heard
abbrev pub judged : SnapshotBuilder → Heard
judged b =
    if nat_lt (length b.heard + 1) b.clusters then record { progress = progress.Kept; builder = b }
    else if b.second || (b.clusters == 2) then record { progress = progress.Done; builder = record b { finished = true } }
    else record { progress = progress.SecondRound; builder = record b { second = true; heard = [] } }

abbrev pub on_response : SnapshotBuilder → List ℕ → ℕ → Position → Position → Heard
on_response b id c remote local =
    if counts b id c then judged (with_response b c remote local) else record { progress = progress.Ignored; builder = b }

-- a cut's remote positions as a marker names them, in cluster order from cluster c on
abbrev pub named_from : ℕ → List (Option Position) → List ClusterPosition
named_from c [] = []
named_from c (None ∷ ps) = named_from (c + 1) ps
named_from c (Some p ∷ ps) = record { cluster = cluster_ref.Known c; position = p } ∷ named_from (c + 1) ps

abbrev pub named : Cut → List ClusterPosition
named cut = named_from 0 cut.remote
