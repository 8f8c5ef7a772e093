use Rattle.std.proofs.Common.{◌≡◌, ◌+◌, ◌*◌, ◌^◌, ◌%◌, ◌≤◌, get_or, arith}
use Rattle.std.proofs.lemmas.List.{take_rest}
use Rattle.pb_fields.proofs.Varints.{HasRead-too_large, HasRead-last, HasRead-more, HasRead-ends, shifted, within_64}
use Rattle.pb_fields.proofs.read.varint_at.Goals as goal
use Rattle.pb_fields.proofs.read.varint_at.Goals.{After-from, else-index-eq-LAST_BYTE-via-then-index-eq-LAST_BYTE+else-byte-gt1, else-index-eq-LAST_BYTE-via-else-index-eq-LAST_BYTE}

-- a tenth byte that was let through is at most 1
tenth : (c : After-from) → c.loop-index.index ≡ 9 → get_or c.args.bytes.now c.loop-index.index 0 ≤ 1
tenth c nine =
    elim c.else-index-eq-LAST_BYTE.branch [
      | else-index-eq-LAST_BYTE-via-then-index-eq-LAST_BYTE+else-byte-gt1 w ↦ omega (arith, w.if-byte-gt1.false)
      | else-index-eq-LAST_BYTE-via-else-index-eq-LAST_BYTE w ↦ absurd (w.if-index-eq-LAST_BYTE.false nine)
    ]

-- the number with the byte's group
group : (c : After-from) → (c.from.result * 2 ^ (7 * c.loop-index.index)) % 2 ^ 64 ≡ (get_or c.args.bytes.now c.loop-index.index 0 % 128) * 2 ^ (7 * c.loop-index.index)
group c = rw c.from.ensures (shifted (get_or c.args.bytes.now c.loop-index.index 0) c.loop-index.index c.loop-index.invariant.within (tenth c))

pub returns-then-byte-gt1-clause-err : goal.returns-then-byte-gt1-clause-err
returns-then-byte-gt1-clause-err c = HasRead-too_large c.args.bytes.now c.loop-index.index c.loop-index.number c.loop-index.invariant (omega arith) c.if-index-eq-LAST_BYTE.true c.if-byte-gt1.true

pub overflow_add-number : goal.overflow_add-number
overflow_add-number c = rw (group c) (omega (arith, within_64 c.loop-index.number (get_or c.args.bytes.now c.loop-index.index 0) c.loop-index.index c.loop-index.invariant.below c.loop-index.invariant.within (tenth c)))

pub returns-then-byte-lt128-clause-ok : goal.returns-then-byte-lt128-clause-ok
returns-then-byte-lt128-clause-ok c =
    let at = (goal.at.returns-then-byte-lt128-clause-ok c).After-from in
    let taken = HasRead-last c.args.bytes.now c.loop-index.index c.loop-index.number c.loop-index.invariant (omega arith) c.if-byte-lt128.true (tenth at) in
    rw (group at, take_rest c.args.bytes.now (c.loop-index.index + 1)) taken

pub loop-index-preserved : goal.loop-index-preserved
loop-index-preserved c =
    let at = (goal.at.loop-index-preserved c).After-from in
    rw (group at) (HasRead-more c.args.bytes.now c.loop-index.index c.loop-index.number c.loop-index.invariant (omega arith) c.if-byte-lt128.false (omega (arith, c.type_inv.bytes c.loop-index.index)) (tenth at))

pub returns-clause-err : goal.returns-clause-err
returns-clause-err c = HasRead-ends c.args.bytes.now c.loop-index.index c.loop-index.number c.loop-index.invariant (omega arith)
