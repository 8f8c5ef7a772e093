use Rattle.std.proofs.Common.{◌-◌, ◌<◌, ◌≤◌, ◌≡◌, ◌++◌, ℕ, List, [], take, length, arith}
use Rattle.std.proofs.lemmas.Bool.Decides.{nat_tests}
use Rattle.geo_io.specs.Source.{Consumes-more}
use Rattle.geo_io.proofs.Parts.{OnErr-from, consumed_still, none_taken, over, with_none, within}
use Rattle.geo_io.proofs.whole.read_all.Goals as goal

pub returns-then-n-max-clause-rest : goal.returns-then-n-max-clause-rest
returns-then-n-max-clause-rest g c = (
  c.loop-bytes.bytes ++ take c.in_ok-n.n c.read.new.buf,
  g.met.S.Source.given_more c.args.source.now c.loop-bytes.source c.read.new.self _ _ c.loop-bytes.invariant.given c.in_ok-n.ensures.given,
  Consumes-more _ _ _ _ _ c.loop-bytes.invariant.so_far c.in_ok-n.ensures.bytes.0,
)

pub returns-in_err-append-clause-rest : goal.returns-in_err-append-clause-rest
returns-in_err-append-clause-rest g c =
    OnErr-from c.from_residual-in_err-append.result (
      c.loop-bytes.bytes ++ take c.in_ok-n.n c.read.new.buf,
      g.met.S.Source.given_more c.args.source.now c.loop-bytes.source c.read.new.self _ _ c.loop-bytes.invariant.given c.in_ok-n.ensures.given,
      Consumes-more _ _ _ _ _ c.loop-bytes.invariant.so_far c.in_ok-n.ensures.bytes.0,
    )

pub returns-in_err-append-clause-memory : goal.returns-in_err-append-clause-memory
returns-in_err-append-clause-memory g c = λ _.
    let room : c.in_ok-n.n ≤ c.args.max - length c.loop-bytes.bytes = grind (arith, nat_tests, c.if-n-max.false, c.as_slice.ensures) in (
      c.loop-bytes.bytes ++ take c.in_ok-n.n c.read.new.buf,
      Consumes-more _ _ _ _ _ c.loop-bytes.invariant.so_far c.in_ok-n.ensures.bytes.0,
      within c.loop-bytes.bytes c.read.new.buf c.in_ok-n.n c.args.max c.loop-bytes.invariant.short room,
    )

pub returns-in_err-n-clause-rest : goal.returns-in_err-n-clause-rest
returns-in_err-n-clause-rest g c =
    OnErr-from c.from_residual.result (
      c.loop-bytes.bytes,
      with_none (λ (bytes : List ℕ). g.S.Source.given c.args.source.now c.read.new.self bytes) c.loop-bytes.bytes
          (g.met.S.Source.given_more c.args.source.now c.loop-bytes.source c.read.new.self _ [] c.loop-bytes.invariant.given c.in_err-n.ensures.given),
      consumed_still _ _ _ _ c.loop-bytes.invariant.so_far c.in_err-n.ensures.bytes,
    )

pub returns-then-n-eq0-clause-given : goal.returns-then-n-eq0-clause-given
returns-then-n-eq0-clause-given g c =
    let none : c.in_ok-n.n ≡ 0 = grind (arith, nat_tests, c.if-n-eq0.true) in
    with_none (λ (bytes : List ℕ). g.S.Source.given c.args.source.now c.read.new.self bytes) c.loop-bytes.bytes
    (g.met.S.Source.given_more c.args.source.now c.loop-bytes.source c.read.new.self _ [] c.loop-bytes.invariant.given
    (none_taken (λ (bytes : List ℕ). g.S.Source.given c.loop-bytes.source c.read.new.self bytes) c.in_ok-n.n _ none c.in_ok-n.ensures.given))

pub returns-then-n-max-clause-over : goal.returns-then-n-max-clause-over
returns-then-n-max-clause-over g c = λ _.
    let more : c.args.max - length c.loop-bytes.bytes < c.in_ok-n.n = grind (arith, nat_tests, c.if-n-max.true, c.as_slice.ensures) in (
      c.loop-bytes.bytes ++ take c.in_ok-n.n c.read.new.buf,
      g.met.S.Source.given_more c.args.source.now c.loop-bytes.source c.read.new.self _ _ c.loop-bytes.invariant.given c.in_ok-n.ensures.given,
      Consumes-more _ _ _ _ _ c.loop-bytes.invariant.so_far c.in_ok-n.ensures.bytes.0,
      over c.loop-bytes.bytes c.read.new.buf c.in_ok-n.n c.args.max c.loop-bytes.invariant.short c.in_ok-n.ensures.within.0 more,
    )
