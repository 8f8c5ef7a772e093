-- A mask has eight bits, so no bit past them is set.
use Rattle.std.proofs.Common.{◌≡◌, ℕ, ◌<◌, ◌≤◌, ◌/◌, ◌%◌, ◌^◌, ◌==◌, nat_lt, false, refl, sym, ◌∙◌, arith}
use Prim.Native.Nat.{zero}
use Rattle.std.proofs.Math.Nat.{div-eq_of_lt}
use Rattle.std.proofs.Math.Pow.{pow_mono}
use Rattle.std.proofs.lemmas.Bool.Decides.{nat_tests}
use Rattle.geo_base.proofs.entry.is_bit_set.Goals as goal

past_mask : (mask bit : ℕ) → mask < 2 ^ 8 → 8 ≤ bit → ((mask / (2 ^ bit)) % 2 == 1) ≡ false
past_mask mask bit b h =
    let within : mask < 2 ^ bit = omega (arith, pow_mono {i = 8} {j = bit} h) in
    let none : mask / (2 ^ bit) ≡ zero = div-eq_of_lt within in
    rw none refl

pub returns-else-bit-lt-BITS : goal.returns-else-bit-lt-BITS
returns-else-bit-lt-BITS c =
    let within : c.args.mask < 2 ^ 8 = c.ranges.mask.fits in
    let past : nat_lt c.args.bit 8 ≡ false = grind (arith, nat_tests) in
    past ∙ sym (past_mask c.args.mask c.args.bit within c.if-bit-lt-BITS.false)
