use Rattle.std.proofs.Common.{◌≡◌, ℕ, ◌<◌, [], fold, get_or, length}
use Rattle.geo_base.specs.Setup.{with_client}
use Rattle.script_text.proofs.subs.all_names.Given as goal

abbrev pub invariant-loop-topic : goal.invariant-loop-topic
invariant-loop-topic l = record {
  many : length l.all ≡ l.topic;
  each : (t : ℕ) → t < l.topic → get_or l.all t [] ≡ fold (with_client t) [] l.clients;
}
