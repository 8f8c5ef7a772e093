use Rattle.std.proofs.Common.{◌≡◌, true, false, arith}
use Rattle.state_file.proofs.Loaded.{has_unknown, is_whole}
use Rattle.state_file.specs.State.{state_of}
use Rattle.state_file.proofs.loading.load.Goals as goal

pub returns-then-not-is_known : goal.returns-then-not-is_known
returns-then-not-is_known c =
    let test = c.if-not-is_known.true in
    let strange : c.is_known.result ≡ false = grind (arith, test) in
    has_unknown c.args.bytes.now c.in-Ok.read.0 c.in-Ok.read.1.now c.is_known.result c.in-Ok.ensures.read c.is_known.ensures strange

pub returns-in-Ok-body_at : goal.returns-in-Ok-body_at
returns-in-Ok-body_at c =
    let test = c.if-not-is_known.false in
    let known : c.is_known.result ≡ true = grind (arith, test) in
    is_whole c.args.bytes.now c.in-Ok.read.0 c.in-Ok.read.1.now c.is_known.result c.in-Ok-number_at.read.0 c.in-Ok-number_at.read.1.now c.front_of-body.result.now (state_of c.in-Ok-body_at.saved) c.in-Ok.ensures.read c.is_known.ensures known c.in-Ok-number_at.ensures.read c.front_of-body.ensures.front c.in-Ok-body_at.ensures.told
