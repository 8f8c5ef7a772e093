use Rattle.std.proofs.Common.{◌≡◌, ◌<◌, ◌^◌, ◌∙◌, ℕ, length, subst, sym, ap, arith}
use Rattle.std.specs.List.{sum}
use Rattle.tiered_storage.specs.Calls.{offloaded}
use Rattle.tiered_storage.specs.Ledgers.{AreFirstsIfAny}
use Rattle.tiered_storage.specs.Tiered.{Holds, Tiered}
use Rattle.tiered_storage.proofs.Cutting.{fresh_holds, fresh_is, lengths_are, none_away}
use Rattle.tiered_storage.proofs.tiered.TieredLedger.new.Goals as goal

pub firsts_of-requires : goal.firsts_of-requires
firsts_of-requires g c =
    let ls = g.S.EntryStore.ledgers c.args.store.now in
    let es = g.S.EntryStore.entries c.args.store.now in
    let same : c.as_slice-2.result.now ≡ ls = lengths_are ls es c.in_ok-parts.parts.items c.as_slice.result.now c.in_ok-lengths.lengths.items c.as_slice-2.result.now c.in_ok-parts.ensures c.as_slice.ensures.value c.in_ok-lengths.ensures c.as_slice-2.ensures.value c.len-len.ensures.counted in
    let few : length es < 2 ^ 64 = let fits = c.len-len.type_inv in let long = c.len-len.ensures.len in omega (arith, fits, long) in
    let total : sum c.as_slice-2.result.now ≡ length es = ap sum same ∙ c.len-len.ensures.counted in
    omega (arith, few, total)

pub invariant_of-result : goal.invariant_of-result
invariant_of-result g c =
    let ls = g.S.EntryStore.ledgers c.args.store.now in
    let es = g.S.EntryStore.entries c.args.store.now in
    let same : c.as_slice-2.result.now ≡ ls = lengths_are ls es c.in_ok-parts.parts.items c.as_slice.result.now c.in_ok-lengths.lengths.items c.as_slice-2.result.now c.in_ok-parts.ensures c.as_slice.ensures.value c.in_ok-lengths.ensures c.as_slice-2.ensures.value c.len-len.ensures.counted in
    let total : sum c.as_slice-2.result.now ≡ c.len-len.result = ap sum same ∙ c.len-len.ensures.counted ∙ sym c.len-len.ensures.len in
    subst (λ (n : ℕ). AreFirstsIfAny c.in_ok-firsts.firsts.items n) total c.in_ok-firsts.ensures.firsts

pub returns-clause-value : goal.returns-clause-value
returns-clause-value g c =
    let ls = g.S.EntryStore.ledgers c.args.store.now in
    let es = g.S.EntryStore.entries c.args.store.now in
    let same : c.as_slice-2.result.now ≡ ls = lengths_are ls es c.in_ok-parts.parts.items c.as_slice.result.now c.in_ok-lengths.lengths.items c.as_slice-2.result.now c.in_ok-parts.ensures c.as_slice.ensures.value c.in_ok-lengths.ensures c.as_slice-2.ensures.value c.len-len.ensures.counted in
    let is = fresh_is c.args.own (g.S.EntryStore.per_ledger c.args.store.now) ls es c.args.tier c.in_ok-firsts.firsts.items c.as_slice-2.result.now c.len-len.result c.next.result c.in_ok-parts.parts.items c.in_ok-parts.ensures same c.len-len.ensures.counted c.len-len.ensures.len c.in_ok-firsts.ensures.lengths c.next.ensures in
    is

pub returns-clause-holds : goal.returns-clause-holds
returns-clause-holds g c = λ names tellable.
    let ls = g.S.EntryStore.ledgers c.args.store.now in
    let es = g.S.EntryStore.entries c.args.store.now in
    let same : c.as_slice-2.result.now ≡ ls = lengths_are ls es c.in_ok-parts.parts.items c.as_slice.result.now c.in_ok-lengths.lengths.items c.as_slice-2.result.now c.in_ok-parts.ensures c.as_slice.ensures.value c.in_ok-lengths.ensures c.as_slice-2.ensures.value c.len-len.ensures.counted in
    let is = fresh_is c.args.own (g.S.EntryStore.per_ledger c.args.store.now) ls es c.args.tier c.in_ok-firsts.firsts.items c.as_slice-2.result.now c.len-len.result c.next.result c.in_ok-parts.parts.items c.in_ok-parts.ensures same c.len-len.ensures.counted c.len-len.ensures.len c.in_ok-firsts.ensures.lengths c.next.ensures in
    let few : length es < 2 ^ 64 = let fits = c.len-len.type_inv in let long = c.len-len.ensures.len in omega (arith, fits, long) in
    subst (λ (v : Tiered g.row.T.Denot). Holds names g.T.Tier.kept es v) (sym is) (fresh_holds names g.T.Tier.kept c.args.own (g.S.EntryStore.per_ledger c.args.store.now) ls es c.args.tier c.len-len.ensures.counted few tellable)

pub returns-clause-none : goal.returns-clause-none
returns-clause-none g c =
    let ls = g.S.EntryStore.ledgers c.args.store.now in
    let es = g.S.EntryStore.entries c.args.store.now in
    let same : c.as_slice-2.result.now ≡ ls = lengths_are ls es c.in_ok-parts.parts.items c.as_slice.result.now c.in_ok-lengths.lengths.items c.as_slice-2.result.now c.in_ok-parts.ensures c.as_slice.ensures.value c.in_ok-lengths.ensures c.as_slice-2.ensures.value c.len-len.ensures.counted in
    let is = fresh_is c.args.own (g.S.EntryStore.per_ledger c.args.store.now) ls es c.args.tier c.in_ok-firsts.firsts.items c.as_slice-2.result.now c.len-len.result c.next.result c.in_ok-parts.parts.items c.in_ok-parts.ensures same c.len-len.ensures.counted c.len-len.ensures.len c.in_ok-firsts.ensures.lengths c.next.ensures in
    ap (λ (v : Tiered g.row.T.Denot). offloaded v) is ∙ none_away ls es
