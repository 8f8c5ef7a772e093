use Rattle.std.proofs.Common.{ℕ, arith, length-take, length-drop}
use Rattle.geo_io.proofs.Parts.{take-filled}
use Rattle.geo_io.proofs.steady.fill.Goals as goal

pub returns-clause-filled : goal.returns-clause-filled
returns-clause-filled c = take-filled c.args.buffer.now c.copy_front.new.to _ c.args.piece.now c.args.at c.copy_front.result c.requires (omega (arith, c.copy_front.auto.to, length-take {A = ℕ}, length-drop {A = ℕ})) (omega (arith, c.copy_front.ensures.count, c.copy_front.auto.to)) c.copy_front.ensures.copied
