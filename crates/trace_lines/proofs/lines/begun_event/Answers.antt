use Rattle.std.proofs.Common.{rules}
use Rattle.trace_lines.proofs.Begun.{begins_none}
use Rattle.trace_lines.proofs.lines.begun_event.Goals as goal

pub returns-else-is_word-clause-none : goal.returns-else-is_word-clause-none
returns-else-is_word-clause-none c = λ names number is. begins_none names c.args.line.now c.in_ok-kind.kind.now c.next_word.new.self number (search rules) (search rules) is
