use Rattle.std.proofs.Common.{◌≡◌, ◌++◌, take}
use Rattle.std.specs.List.{flat_map}
use Rattle.durable_parts.specs.Parts.{subs_of}
use Rattle.state_nodes.specs.Subs.{sub_text}
use Rattle.state_nodes.proofs.writing.put_each_sub.Given as goal

abbrev pub invariant-loop-sub : goal.invariant-loop-sub
invariant-loop-sub l = l.out ≡ l.initial.out ++ flat_map (sub_text l.entries) (subs_of (take l.sub-index l.subs))
