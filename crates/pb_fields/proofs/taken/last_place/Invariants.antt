use Rattle.std.proofs.Common.{◌≡◌, take, MatchOption, None}
use Rattle.pb_fields.specs.Message.{IsLastAt, last_value}
use Rattle.pb_fields.proofs.taken.last_place.Given as goal

abbrev pub invariant-loop-place : goal.invariant-loop-place
invariant-loop-place l =
    MatchOption l.last (last_value l.number (take l.place l.fields) ≡ None) (IsLastAt l.number (take l.place l.fields) l.fields)
