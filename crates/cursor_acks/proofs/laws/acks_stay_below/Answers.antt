use Rattle.std.proofs.Common.{arith}
use Rattle.std.proofs.lemmas.Bool.Decides.{nat_tests}
use Rattle.cursor_acks.proofs.Sets.{has_all, has_up_to, has_with_index}
use Rattle.cursor_acks.proofs.laws.acks_stay_below.Goals as goal

pub returns : goal.returns
returns c = record {
  none = λ len i e. absurd (grind (arith, e));
  all = λ len i e. grind (arith, nat_tests, has_all len i, e);
  one = λ set i len h lt j e. grind (arith, nat_tests, has_with_index set i j, h j, e);
  up_to = λ set i len h lt j e. grind (arith, nat_tests, has_up_to set i j, h j, e);
}
