use Rattle.std.proofs.Common.{◌<◌, arith, drop, length-drop, subst, sym, ℕ}
use Rattle.script_rows.proofs.Masks.{mask_small}
use Rattle.script_rows.proofs.name_list.mask_of.Goals as goal

pub overflow_mul-mask : goal.overflow_mul-mask
overflow_mul-mask c =
    let small = subst (λ (m : ℕ). m < 128) (sym c.loop-at.invariant.so_far) (mask_small (drop c.loop-at.at c.args.table.now) c.args.names.now (omega (arith, length-drop c.loop-at.at c.args.table.now))) in
    omega arith
