use Rattle.std.proofs.Common.{◌∙◌, ◌≡◌, List, ℕ, [], take, drop, arith, rules, subst, sym}
use Rattle.std.proofs.lemmas.Bool.Decides.{nat_tests}
use Rattle.std.proofs.lemmas.List.{take_rest}
use Rattle.std.proofs.Math.Seq.{take-add}
use Rattle.geo_io.specs.Sink.{Gains, Gains-more}
use Rattle.geo_io.proofs.Parts.{none_taken, with_none}
use Rattle.geo_io.proofs.whole.write_all.Goals as goal

pub loop-out-preserved : goal.loop-out-preserved
loop-out-preserved g c =
    let start = g.K.Sink.held c.args.sink.now in
    let old = g.K.Sink.held c.loop-out.sink in
    let new = g.K.Sink.held c.write.new.self in
    let rest = drop c.loop-out.out c.args.bytes.now in
    let took : Gains old new (take c.in-Ok.n rest) =
    subst (λ (piece : List ℕ). Gains old new (take c.in-Ok.n piece)) (take_rest c.args.bytes.now c.loop-out.out) c.in-Ok.ensures.bytes in
    let given : g.K.Sink.taken c.loop-out.sink c.write.new.self (take c.in-Ok.n rest) =
    subst (λ (piece : List ℕ). g.K.Sink.taken c.loop-out.sink c.write.new.self (take c.in-Ok.n piece)) (take_rest c.args.bytes.now c.loop-out.out) c.in-Ok.ensures.taken in
    record {
      within = search rules;
      taken = subst (λ (bytes : List ℕ). g.K.Sink.taken c.args.sink.now c.write.new.self bytes) (sym (take-add c.loop-out.out c.in-Ok.n c.args.bytes.now)) (g.met.K.Sink.taken_more c.args.sink.now c.loop-out.sink c.write.new.self _ _ c.loop-out.invariant.taken given);
      so_far = subst (λ (taken : List ℕ). Gains start new taken) (sym (take-add c.loop-out.out c.in-Ok.n c.args.bytes.now)) (Gains-more start old new _ _ c.loop-out.invariant.so_far took);
      steady = c.in-Ok.ensures.steady (search rules) ∙ c.loop-out.invariant.steady;
      later = omega (arith, c.in-Ok.ensures.later, c.loop-out.invariant.later);
    }

pub returns-in_default-clause-handed : goal.returns-in_default-clause-handed
returns-in_default-clause-handed g c =
    let none : c.in-Ok.n ≡ 0 = grind (arith, nat_tests, c.if-n-gt0.false) in
    with_none (λ (bytes : List ℕ). g.K.Sink.taken c.args.sink.now c.write.new.self bytes) (take c.loop-out.out c.args.bytes.now)
    (g.met.K.Sink.taken_more c.args.sink.now c.loop-out.sink c.write.new.self _ [] c.loop-out.invariant.taken
    (none_taken (λ (bytes : List ℕ). g.K.Sink.taken c.loop-out.sink c.write.new.self bytes) c.in-Ok.n _ none c.in-Ok.ensures.taken))

pub returns-in_default-2-clause-handed : goal.returns-in_default-2-clause-handed
returns-in_default-2-clause-handed g c =
    with_none (λ (bytes : List ℕ). g.K.Sink.taken c.args.sink.now c.write.new.self bytes) (take c.loop-out.out c.args.bytes.now)
    (g.met.K.Sink.taken_more c.args.sink.now c.loop-out.sink c.write.new.self _ [] c.loop-out.invariant.taken c.in_default.ensures.taken)
