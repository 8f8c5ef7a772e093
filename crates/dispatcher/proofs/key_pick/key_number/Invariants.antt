use Rattle.std.proofs.Common.{◌≡◌, ◌+◌, ◌*◌, ◌<◌, ◌%◌, drop}
use Rattle.std.specs.Prelude.{fold}
use Rattle.geo_base.specs.Dispatcher.{key_number}
use Rattle.dispatcher.proofs.key_pick.key_number.Given as goal

-- going on from this number with the bytes that are left gives the key's number
abbrev pub invariant-loop-byte : goal.invariant-loop-byte
invariant-loop-byte l = record {
  rest : fold (λ h b. (h * 31 + b) % 65536) l.number (drop l.byte-index l.key) ≡ key_number l.key;
  small : l.number < 65536;
}
