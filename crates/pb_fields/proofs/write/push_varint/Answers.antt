use Rattle.std.proofs.Common.{◌≡◌, ◌+◌, ◌%◌, ◌∷◌, [], ◌++◌, ◌∙◌, ap, ℕ, arith}
use Rattle.pb_fields.proofs.Written.{goes_on, varint-push, varint-end, Extends-append}
use Rattle.pb_fields.proofs.write.push_varint.Goals as goal

pub loop-rest-preserved : goal.loop-rest-preserved
loop-rest-preserved c =
    let pushed : c.push.new.self ≡ c.loop-rest.out ++ (128 + c.loop-rest.rest % 128) ∷ [] = c.in_ok-push.ensures.ok ∙ ap (λ (b : ℕ). c.loop-rest.out ++ b ∷ []) (goes_on c.loop-rest.rest) in
    record {
      so_far = rw pushed (varint-push c.loop-rest.out c.args.out.now c.loop-rest.rest c.args.number c.loop-rest-test.true (omega (arith, c.loop-rest.auto.rest-fits)) c.loop-rest.invariant.so_far);
      begins = rw pushed (Extends-append c.args.out.now c.loop-rest.out _ c.loop-rest.invariant.begins);
    }

pub returns-clause-ok : goal.returns-clause-ok
returns-clause-ok c = rw c.in_ok-push-2.ensures.ok (varint-end c.loop-rest.out c.args.out.now c.loop-rest.rest c.args.number c.loop-rest-test.false c.loop-rest.invariant.so_far)
