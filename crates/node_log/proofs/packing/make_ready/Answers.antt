use Rattle.std.proofs.Common.{◌≡◌, ◌+◌, ◌<◌, ◌^◌, ◌∙◌, ℕ, ap, arith, false, max, rules}
use Rattle.node_log.proofs.Packs.{lacks_join, may_join}
use Rattle.node_log.proofs.packing.make_ready.Goals as goal

pub returns-clause-ready : goal.returns-clause-ready
returns-clause-ready g c =
    let last_is : c.max-last.result ≡ max c.args.log.now.clock c.args.shown = first_of (cc, search rules, grind arith) in
    let on : c.args.is_idle ≡ false = first_of (cc, search rules, grind arith) in
    let low : max c.args.log.now.clock c.args.shown < 2 ^ 63 = (let test = c.if-last-ge-STAMPS.false in omega (arith, test, last_is)) in
    may_join g.E.End.free g.E.End.fits c.args.is_idle c.new.result (max c.args.log.now.clock c.args.shown) c.args.outs.items c.pack_ready.new.ends.rows.items c.pack_ready.result on low
    (c.new.ensures ∙ ap (λ (n : ℕ). 1 + n) last_is) c.pack_ready.ensures.packed

pub returns-clause-unready : goal.returns-clause-unready
returns-clause-unready g c =
    let last_is : c.max-last.result ≡ max c.args.log.now.clock c.args.shown = first_of (cc, search rules, grind arith) in
    let on : c.args.is_idle ≡ false = first_of (cc, search rules, grind arith) in
    lacks_join g.E.End.free g.E.End.looks g.E.End.fits c.args.is_idle c.new.result (max c.args.log.now.clock c.args.shown) c.args.outs.items c.args.ends.now.rows.items c.pack_ready.new.ends.rows.items c.pack_ready.result on
    (c.new.ensures ∙ ap (λ (n : ℕ). 1 + n) last_is) c.pack_ready.ensures.full
