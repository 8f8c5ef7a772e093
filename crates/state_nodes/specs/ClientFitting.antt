-- Clients that are read again as they were written.
use Rattle.std.specs.Prelude.{◌≡◌, ℕ, ◌<◌, ◌≤◌, ◌==◌, ◌^◌, true, ◌||◌, not, List, [], length, is_some}
use Rattle.std.specs.Str.{is_utf8}
use Rattle.geo_base.specs.declared.client.Line.{Line}
use Rattle.geo_base.specs.declared.entry.Ident.{Ident}
use Rattle.geo_base.specs.Client.{Client, unconnected}
use Rattle.geo_base.specs.Going.{most_unanswered}
use Rattle.geo_base.specs.Scripted.{is_produce}
use Rattle.state_nodes.specs.Clients.{is_done, is_flow, is_in_force, is_pub, is_sub}
use Rattle.state_items.specs.Fitting.{AllFit}
use Rattle.state_items.specs.Limits.{most_count}

-- an identity of an origin among so many clusters
pub record IsIdent (clusters : ℕ) (before : List Ident) (i : Ident) : Type 0 where
  pub origin : i.origin < clusters
  pub short : length i.producer < 2 ^ 32
  pub readable : is_utf8 i.producer ≡ true
  pub seq : i.seq < 2 ^ 64

-- a publish that is done
abbrev pub IsPublish : List Line → ℕ → List ℕ → ℕ → Type 0
IsPublish lines done before i = is_done is_pub lines done i ≡ true

-- a client that a stop left with these lines
pub record IsClientState (clusters : ℕ) (lines : List Line) (k : Client) : Type 0 where
  pub clusters_few : clusters < 2 ^ 32
  pub lines_few : length lines < 2 ^ 63
  pub cluster : k.cluster < clusters
  pub connection : k.connection ≤ most_count
  pub done : k.done ≤ length lines
  pub produce : is_in_force is_produce lines k.done k.produce ≡ true
  pub sub : is_in_force is_sub lines k.done k.sub ≡ true
  pub flow : is_in_force is_flow lines k.done k.flow ≡ true
  pub flows : (not (is_some k.flow) || is_some k.sub) ≡ true
  pub window : length k.unanswered ≤ most_unanswered
  pub publishes : ((length k.unanswered == 0) || is_some k.produce) ≡ true
  pub unanswered : AllFit (IsPublish lines k.done) [] k.unanswered
  pub receipts : k.receipts ≤ most_count
  pub duplicates : k.duplicates ≤ most_count
  pub errors : k.errors ≤ most_count
  pub got_few : length k.got < 2 ^ 64
  pub got : AllFit (IsIdent clusters) [] k.got
  pub stopped : unconnected k ≡ k
