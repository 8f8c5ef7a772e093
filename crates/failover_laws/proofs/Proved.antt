-- The law, from its parts.
use Rattle.geo_base.specs.World.{topic_at}
use Rattle.failover_laws.specs.Again.{LawAgain}
use Rattle.failover_laws.proofs.Given.{not_again}
use Rattle.failover_laws.proofs.Lasting.{since_keeps, still_passed, within_keeps}
use Rattle.failover_laws.proofs.Passed.{halted_passes, read_passes}

pub law_holds : LawAgain
law_holds = record {
  stays = since_keeps;
  within = within_keeps;
  passed = read_passes;
  halted = halted_passes;
  still = λ s t y n v w a j r h. still_passed n (topic_at s v t y) (topic_at s w t y) a j (since_keeps s t y n v w r) h;
  again = not_again;
}
