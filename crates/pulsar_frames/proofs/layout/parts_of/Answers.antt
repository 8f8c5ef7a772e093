use Rattle.std.proofs.Common.{refl, length, ap, eq-eqb, List, ℕ}
use Rattle.pulsar_frames.specs.Layout.{command, checksum, meta}
use Rattle.pulsar_frames.proofs.layout.parts_of.Goals as goal

pub returns-in_default-clause-err : goal.returns-in_default-clause-err
returns-in_default-clause-err c = command c.in_default.ensures

pub returns-then-has_checksum-clause-err : goal.returns-then-has_checksum-clause-err
returns-then-has_checksum-clause-err c = checksum c.in-Some.command.now c.in-Some.after.now c.in-Some.ensures (c.if-has_checksum.ensures.0 refl)

pub returns-in_default-sized_at-clause-err : goal.returns-in_default-sized_at-clause-err
returns-in_default-sized_at-clause-err c =
    meta c.in-Some.command.now c.in-Some.after.now c.in-Some.ensures
    (λ e. let h = eq-eqb (length c.in-Some.after.now) 0 (ap (λ (xs : List ℕ). length xs) e) in let k = c.if-is_empty.ensures in cc)
    (λ h. let e = c.if-has_checksum.ensures.1 h in cc)
    c.in_default-sized_at.ensures
