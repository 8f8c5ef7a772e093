use Rattle.state_nodes.proofs.EntryExits.{EntriesGo}
use Rattle.state_nodes.proofs.entries.entries_at.Given as goal

abbrev pub invariant-loop : goal.invariant-loop
invariant-loop l = EntriesGo l.names l.own l.count l.counter l.topic_so_far l.rest l.bytes
