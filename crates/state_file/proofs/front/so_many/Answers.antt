use Rattle.std.proofs.Common.{arith}
use Rattle.state_file.proofs.Declared.{refused, same, other}
use Rattle.state_file.proofs.front.so_many.Goals as goal

pub returns-in-Err-Rule : goal.returns-in-Err-Rule
returns-in-Err-Rule c =
    rw c.at-in-Err-Rule.ensures (refused c.args.len c.args.bytes.now c.split_at.result.0.now (record { line = c.in-Err-Rule.field-0-0; rule = c.in-Err-Rule.field-0-1 }) (omega (arith, c.if-bytes-len.false)) c.split_at.ensures.front (c.in-Err-Rule.ensures.rule c.in-Err-Rule.field-0-0 c.in-Err-Rule.field-0-1 (grind (arith, c.in-Err-Rule.field-0-is, c.in-Err-Rule.is))))

pub returns-then-is_canonical : goal.returns-then-is_canonical
returns-then-is_canonical c =
    same c.args.len c.args.bytes.now c.split_at.result.0.now c.split_at.result.1.now c.in-Ok.scenario c.in-Ok-is_canonical.is_canonical (omega (arith, c.if-bytes-len.false)) c.split_at.ensures.front c.split_at.ensures.back c.in-Ok.ensures.ok c.in-Ok-is_canonical.ensures c.if-is_canonical.true

pub returns-else-is_canonical : goal.returns-else-is_canonical
returns-else-is_canonical c =
    rw c.at-else-is_canonical.ensures (other c.args.len c.args.bytes.now c.split_at.result.0.now c.in-Ok.scenario c.in-Ok-is_canonical.is_canonical (omega (arith, c.if-bytes-len.false)) c.split_at.ensures.front c.in-Ok.ensures.ok c.in-Ok-is_canonical.ensures c.if-is_canonical.false)
