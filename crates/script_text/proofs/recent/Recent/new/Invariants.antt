use Rattle.std.proofs.Common.{◌≡◌, All, length}
use Rattle.script_text.specs.Recent.{IsNothing}
use Rattle.script_text.proofs.recent.Recent.new.Given as goal

abbrev pub invariant-loop-place : goal.invariant-loop-place
invariant-loop-place l = record {
  none : All IsNothing l.places.items;
  many : length l.places.items ≡ l._place;
}
