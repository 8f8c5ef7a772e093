use Rattle.std.proofs.Common.{◌≡◌, take}
use Rattle.node_cases.specs.Small.{peers_in}
use Rattle.node_cases.proofs.logs.ends_of.Given as goal

-- the peers so far
abbrev pub invariant-loop-peer : goal.invariant-loop-peer
invariant-loop-peer l = peers_in l.rows.items ≡ take l.peer-index l.peers
