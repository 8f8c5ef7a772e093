-- What is known of a client that was read.
use Rattle.std.specs.Prelude.{◌≡◌, ℕ, ◌<◌, ◌≤◌, ◌==◌, true, ◌||◌, not, List, [], length, is_some}
use Rattle.std.specs.Str.{is_utf8}
use Rattle.geo_base.specs.declared.client.Line.{Line}
use Rattle.geo_base.specs.declared.entry.Ident.{Ident}
use Rattle.geo_base.specs.Client.{Client, unconnected}
use Rattle.geo_base.specs.Going.{most_unanswered}
use Rattle.geo_base.specs.Scripted.{is_produce}
use Rattle.state_nodes.specs.Clients.{is_flow, is_in_force, is_sub}
use Rattle.state_nodes.specs.ClientFitting.{IsPublish}
use Rattle.state_items.specs.Fitting.{AllFit}
use Rattle.state_items.specs.Limits.{most_count}

-- an identity of an origin among so many clusters
pub record IsKnownIdent (clusters : ℕ) (before : List Ident) (i : Ident) : Type 0 where
  pub origin : i.origin < clusters
  pub readable : is_utf8 i.producer ≡ true

-- a client that a stop left with these lines
pub record IsKnownClient (clusters : ℕ) (lines : List Line) (k : Client) : Type 0 where
  pub cluster : k.cluster < clusters
  pub connection : k.connection ≤ most_count
  pub done : k.done ≤ length lines
  pub produce : is_in_force is_produce lines k.done k.produce ≡ true
  pub sub : is_in_force is_sub lines k.done k.sub ≡ true
  pub flow : is_in_force is_flow lines k.done k.flow ≡ true
  pub flows : (not (is_some k.flow) || is_some k.sub) ≡ true
  pub window : length k.unanswered ≤ most_unanswered
  pub publishes : ((length k.unanswered == 0) || is_some k.produce) ≡ true
  pub unanswered : AllFit (IsPublish lines k.done) [] k.unanswered
  pub receipts : k.receipts ≤ most_count
  pub duplicates : k.duplicates ≤ most_count
  pub errors : k.errors ≤ most_count
  pub got : AllFit (IsKnownIdent clusters) [] k.got
  pub stopped : unconnected k ≡ k
