use Rattle.std.proofs.Common.{◌≡◌, take}
use Rattle.world.proofs.saving.copied_idents.Given as goal

-- those so far
abbrev pub invariant-loop-ident : goal.invariant-loop-ident
invariant-loop-ident l = l.copies.items ≡ take l.ident-index l.idents
