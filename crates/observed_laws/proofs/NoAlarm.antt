-- What is observed of a run is safe, so nothing is found.
use Rattle.std.proofs.Common.{List, arith}
use Rattle.geo_base.specs.Setup.{Setup}
use Rattle.world_laws.proofs.Types.{Step}
use Rattle.observation.specs.declared.said.Said.{Said}
use Rattle.observation.specs.Safe.{IsObservedSafe}
use Rattle.observation.proofs.Silent.{safe_silent}
use Rattle.observed_laws.specs.Reads.{LawObserved, Reading, observation_of}
use Rattle.observed_laws.proofs.Facts.{alike_seen, brought_seen, once_seen, only_seen, received_seen, stored_seen}
use Rattle.observed_laws.proofs.Markers.{cut_seen, told_seen}
use Rattle.observed_laws.proofs.Seeing.{IsRead, was_read}

is_safe : (s : Setup) (es : List Step) (r : Reading) (logs : List Said) → IsRead s es r logs → IsObservedSafe s (observation_of s es r logs)
is_safe s es r logs read = record {
  once = λ t x topic cluster. once_seen s es r logs t x (topic, cluster);
  brought = λ t x y topic here there differ read_x read_y.
      brought_seen s es r logs t x y read (topic, here) (topic, there) differ (was_read s es r logs t x (topic, here) read_x) (was_read s es r logs t y (topic, there) read_y);
  alike = λ t y x z topic unread lt there differ_x differ_z not_read read_x read_z.
      alike_seen s es r logs t y x z read (topic, unread) (topic, omega (arith, lt, there)) (topic, there) differ_x differ_z
      (was_read s es r logs t x (topic, omega (arith, lt, there)) read_x) (was_read s es r logs t z (topic, there) read_z);
  received = λ t x y topic here there differ read_x read_y.
      received_seen s es r logs t x y read (topic, here) (topic, there) differ (was_read s es r logs t x (topic, here) read_x) (was_read s es r logs t y (topic, there) read_y);
  stored = λ t k g p topic at. stored_seen s es r logs t k g p read topic at;
  cuts = λ t x i e id local remote topic cluster at own is. cut_seen s es r logs t x i e id local remote read (topic, cluster) at own is;
  told = λ t x i e n remote topic cluster at is. told_seen s es r logs t x i e n remote read (topic, cluster) at is;
  only = λ t x k i v e topic cluster sub inside at. only_seen s es r logs t x k i v e read (topic, cluster) sub inside at;
}

pub observed_law : LawObserved
observed_law s scripted es short r first rest logs all receipts =
    let safe = is_safe s es r logs (record { scripted = scripted; short = short; first = first; rest = rest; all = all; receipts = receipts }) in
    (safe, safe_silent s (observation_of s es r logs) safe)
