use Rattle.std.proofs.Common.{◌≡◌, ◌+◌, drop}
use Rattle.log_parts.specs.Sending.{places_to}
use Rattle.log_parts.proofs.sending.places_to.Given as goal

abbrev pub invariant-loop-addressed : goal.invariant-loop-addressed
invariant-loop-addressed l = l.places + places_to l.to (drop l.addressed-index l.parcels) ≡ places_to l.to l.parcels
