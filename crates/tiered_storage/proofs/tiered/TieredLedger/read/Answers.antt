use Rattle.std.proofs.Common.{◌≡◌, ◌<◌, ◌∙◌, ℕ, List, length, refl, subst, sym, ap, arith}
use Rattle.std.specs.Prelude.{Some, None, slice_get}
use Rattle.geo_base.specs.declared.entry.Entry.{Entry}
use Rattle.geo_base.specs.Topic.{position_of}
use Rattle.topic_store.specs.Firsts.{lengths_of}
use Rattle.tiered_storage.specs.declared.part.Part.TheVariants as part
use Rattle.tiered_storage.specs.Calls.{asks, calls_if, recalled_after}
use Rattle.tiered_storage.specs.Ledgers.{entries_in}
use Rattle.tiered_storage.specs.Tiered.{Holds, Tiered}
use Rattle.tiered_storage.proofs.Keeping.{here_is, last_if, part_at, read_from}
use Rattle.tiered_storage.proofs.Standing.{ledger_there, none_there, place_found}
use Rattle.tiered_storage.proofs.tiered.TieredLedger.read.Goals as goal

pub returns-in_default-clause-ok : goal.returns-in_default-clause-ok
returns-in_default-clause-ok g c =
    let t : Tiered g.row.T.Denot = record { own = c.self.inside.own; ledgers = lengths_of c.self.inside.firsts.items c.self.inside.len; unclosed = c.self.inside.unclosed; parts = c.self.inside.parts.items; recalled = c.self.inside.recalled; tier = c.self.inside.tier } in
    let holds : Holds c.args.names.now g.T.Tier.kept g.entries t = subst (λ (v : Tiered g.row.T.Denot). Holds c.args.names.now g.T.Tier.kept g.entries v) (sym c.self.view_is) c.requires.1.1 in
    let asked : position_of t.ledgers c.args.i ≡ c.position_of.result = ap (λ (fs : List ℕ). position_of (lengths_of fs c.self.inside.len) c.args.i) (sym c.as_slice.ensures.value) ∙ sym c.position_of.ensures in
    sym (none_there t.ledgers g.entries c.args.i holds.counted (asked ∙ c.in_default.is))

pub index-requires : goal.index-requires
index-requires g c =
    let t : Tiered g.row.T.Denot = record { own = c.self.inside.own; ledgers = lengths_of c.self.inside.firsts.items c.self.inside.len; unclosed = c.self.inside.unclosed; parts = c.self.inside.parts.items; recalled = c.self.inside.recalled; tier = c.self.inside.tier } in
    let holds : Holds c.args.names.now g.T.Tier.kept g.entries t = subst (λ (v : Tiered g.row.T.Denot). Holds c.args.names.now g.T.Tier.kept g.entries v) (sym c.self.view_is) c.requires.1.1 in
    let asked : position_of t.ledgers c.args.i ≡ c.position_of.result = ap (λ (fs : List ℕ). position_of (lengths_of fs c.self.inside.len) c.args.i) (sym c.as_slice.ensures.value) ∙ sym c.position_of.ensures in
    let p = c.in-Some.position in
    let at : position_of t.ledgers c.args.i ≡ Some p = asked ∙ c.in-Some.is in
    let within : p.ledger < length t.parts = let there = ledger_there t.ledgers g.entries c.args.i p at in let many = holds.many in omega (arith, there, many) in
    let long = c.self.inside.parts.ok.0 in
    omega (arith, within, long)

pub returns-in-Here-clause-ok : goal.returns-in-Here-clause-ok
returns-in-Here-clause-ok g c =
    let t : Tiered g.row.T.Denot = record { own = c.self.inside.own; ledgers = lengths_of c.self.inside.firsts.items c.self.inside.len; unclosed = c.self.inside.unclosed; parts = c.self.inside.parts.items; recalled = c.self.inside.recalled; tier = c.self.inside.tier } in
    let holds : Holds c.args.names.now g.T.Tier.kept g.entries t = subst (λ (v : Tiered g.row.T.Denot). Holds c.args.names.now g.T.Tier.kept g.entries v) (sym c.self.view_is) c.requires.1.1 in
    let asked : position_of t.ledgers c.args.i ≡ c.position_of.result = ap (λ (fs : List ℕ). position_of (lengths_of fs c.self.inside.len) c.args.i) (sym c.as_slice.ensures.value) ∙ sym c.position_of.ensures in
    let p = c.in-Some.position in
    let at : position_of t.ledgers c.args.i ≡ Some p = asked ∙ c.in-Some.is in
    let within : p.ledger < length t.parts = let there = ledger_there t.ledgers g.entries c.args.i p at in let many = holds.many in omega (arith, there, many) in
    let here : slice_get t.parts p.ledger ≡ Some (part.Here c.in-Here.entries) = part_at c.self.inside.parts.items p.ledger c.index.result.now (part.Here c.in-Here.entries) within c.index.ensures c.in-Here.is in
    let is : c.as_slice-in-Here.result.now ≡ entries_in t.ledgers g.entries p.ledger = c.as_slice-in-Here.ensures ∙ here_is c.args.names.now g.T.Tier.kept g.entries t p.ledger c.in-Here.entries holds here in
    c.in_ok-copy_at.ensures ∙ ap (λ (xs : List Entry). slice_get xs p.entry) is ∙ place_found t.ledgers g.entries c.args.i p at

pub returns-in-Here-clause-calls : goal.returns-in-Here-clause-calls
returns-in-Here-clause-calls g c =
    let t : Tiered g.row.T.Denot = record { own = c.self.inside.own; ledgers = lengths_of c.self.inside.firsts.items c.self.inside.len; unclosed = c.self.inside.unclosed; parts = c.self.inside.parts.items; recalled = c.self.inside.recalled; tier = c.self.inside.tier } in
    let holds : Holds c.args.names.now g.T.Tier.kept g.entries t = subst (λ (v : Tiered g.row.T.Denot). Holds c.args.names.now g.T.Tier.kept g.entries v) (sym c.self.view_is) c.requires.1.1 in
    let asked : position_of t.ledgers c.args.i ≡ c.position_of.result = ap (λ (fs : List ℕ). position_of (lengths_of fs c.self.inside.len) c.args.i) (sym c.as_slice.ensures.value) ∙ sym c.position_of.ensures in
    let p = c.in-Some.position in
    let at : position_of t.ledgers c.args.i ≡ Some p = asked ∙ c.in-Some.is in
    let within : p.ledger < length t.parts = let there = ledger_there t.ledgers g.entries c.args.i p at in let many = holds.many in omega (arith, there, many) in
    let here : slice_get t.parts p.ledger ≡ Some (part.Here c.in-Here.entries) = part_at c.self.inside.parts.items p.ledger c.index.result.now (part.Here c.in-Here.entries) within c.index.ensures c.in-Here.is in
    let none : g.T.Tier.calls t.tier ≡ calls_if (asks t c.args.i) (g.T.Tier.calls t.tier) = rw (at, here) refl in
    subst (λ (v : Tiered g.row.T.Denot). g.T.Tier.calls v.tier ≡ calls_if (asks v c.args.i) (g.T.Tier.calls v.tier)) c.self.view_is none

pub returns-in-Here-clause-recalled : goal.returns-in-Here-clause-recalled
returns-in-Here-clause-recalled g c =
    let t : Tiered g.row.T.Denot = record { own = c.self.inside.own; ledgers = lengths_of c.self.inside.firsts.items c.self.inside.len; unclosed = c.self.inside.unclosed; parts = c.self.inside.parts.items; recalled = c.self.inside.recalled; tier = c.self.inside.tier } in
    let holds : Holds c.args.names.now g.T.Tier.kept g.entries t = subst (λ (v : Tiered g.row.T.Denot). Holds c.args.names.now g.T.Tier.kept g.entries v) (sym c.self.view_is) c.requires.1.1 in
    let asked : position_of t.ledgers c.args.i ≡ c.position_of.result = ap (λ (fs : List ℕ). position_of (lengths_of fs c.self.inside.len) c.args.i) (sym c.as_slice.ensures.value) ∙ sym c.position_of.ensures in
    let p = c.in-Some.position in
    let at : position_of t.ledgers c.args.i ≡ Some p = asked ∙ c.in-Some.is in
    let within : p.ledger < length t.parts = let there = ledger_there t.ledgers g.entries c.args.i p at in let many = holds.many in omega (arith, there, many) in
    let here : slice_get t.parts p.ledger ≡ Some (part.Here c.in-Here.entries) = part_at c.self.inside.parts.items p.ledger c.index.result.now (part.Here c.in-Here.entries) within c.index.ensures c.in-Here.is in
    let same : t.recalled ≡ recalled_after t g.entries c.args.i = rw (at, here) refl in
    subst (λ (v : Tiered g.row.T.Denot). v.recalled ≡ recalled_after v g.entries c.args.i) c.self.view_is same

pub read_away-requires : goal.read_away-requires
read_away-requires g c =
    let t : Tiered g.row.T.Denot = record { own = c.self.inside.own; ledgers = lengths_of c.self.inside.firsts.items c.self.inside.len; unclosed = c.self.inside.unclosed; parts = c.self.inside.parts.items; recalled = c.self.inside.recalled; tier = c.self.inside.tier } in
    let holds : Holds c.args.names.now g.T.Tier.kept g.entries t = subst (λ (v : Tiered g.row.T.Denot). Holds c.args.names.now g.T.Tier.kept g.entries v) (sym c.self.view_is) c.requires.1.1 in
    let asked : position_of t.ledgers c.args.i ≡ c.position_of.result = ap (λ (fs : List ℕ). position_of (lengths_of fs c.self.inside.len) c.args.i) (sym c.as_slice.ensures.value) ∙ sym c.position_of.ensures in
    let p = c.in-Some.position in
    let at : position_of t.ledgers c.args.i ≡ Some p = asked ∙ c.in-Some.is in
    let within : p.ledger < length t.parts = let there = ledger_there t.ledgers g.entries c.args.i p at in let many = holds.many in omega (arith, there, many) in
    let gone : slice_get t.parts p.ledger ≡ Some part.Away = part_at c.self.inside.parts.items p.ledger c.index.result.now part.Away within c.index.ensures c.in_default-index.is in
    let away : slice_get c.args.self.now.parts p.ledger ≡ Some part.Away = subst (λ (v : Tiered g.row.T.Denot). slice_get v.parts p.ledger ≡ Some part.Away) c.self.view_is gone in
    let place : position_of c.args.self.now.ledgers c.args.i ≡ Some p = subst (λ (v : Tiered g.row.T.Denot). position_of v.ledgers c.args.i ≡ Some p) c.self.view_is at in
    λ κs lasts. (lasts, (c.requires.1.0, (c.requires.1.1, away)))

pub returns-clause-ok : goal.returns-clause-ok
returns-clause-ok g c =
    let t : Tiered g.row.T.Denot = record { own = c.self.inside.own; ledgers = lengths_of c.self.inside.firsts.items c.self.inside.len; unclosed = c.self.inside.unclosed; parts = c.self.inside.parts.items; recalled = c.self.inside.recalled; tier = c.self.inside.tier } in
    let holds : Holds c.args.names.now g.T.Tier.kept g.entries t = subst (λ (v : Tiered g.row.T.Denot). Holds c.args.names.now g.T.Tier.kept g.entries v) (sym c.self.view_is) c.requires.1.1 in
    let asked : position_of t.ledgers c.args.i ≡ c.position_of.result = ap (λ (fs : List ℕ). position_of (lengths_of fs c.self.inside.len) c.args.i) (sym c.as_slice.ensures.value) ∙ sym c.position_of.ensures in
    let p = c.in-Some.position in
    let at : position_of t.ledgers c.args.i ≡ Some p = asked ∙ c.in-Some.is in
    let within : p.ledger < length t.parts = let there = ledger_there t.ledgers g.entries c.args.i p at in let many = holds.many in omega (arith, there, many) in
    let gone : slice_get t.parts p.ledger ≡ Some part.Away = part_at c.self.inside.parts.items p.ledger c.index.result.now part.Away within c.index.ensures c.in_default-index.is in
    let away : slice_get c.args.self.now.parts p.ledger ≡ Some part.Away = subst (λ (v : Tiered g.row.T.Denot). slice_get v.parts p.ledger ≡ Some part.Away) c.self.view_is gone in
    let place : position_of c.args.self.now.ledgers c.args.i ≡ Some p = subst (λ (v : Tiered g.row.T.Denot). position_of v.ledgers c.args.i ≡ Some p) c.self.view_is at in
    read_from c.args.self.now.ledgers g.entries c.args.i p c.read_away.result place c.read_away.ensures.ok

pub returns-clause-calls : goal.returns-clause-calls
returns-clause-calls g c =
    let t : Tiered g.row.T.Denot = record { own = c.self.inside.own; ledgers = lengths_of c.self.inside.firsts.items c.self.inside.len; unclosed = c.self.inside.unclosed; parts = c.self.inside.parts.items; recalled = c.self.inside.recalled; tier = c.self.inside.tier } in
    let holds : Holds c.args.names.now g.T.Tier.kept g.entries t = subst (λ (v : Tiered g.row.T.Denot). Holds c.args.names.now g.T.Tier.kept g.entries v) (sym c.self.view_is) c.requires.1.1 in
    let asked : position_of t.ledgers c.args.i ≡ c.position_of.result = ap (λ (fs : List ℕ). position_of (lengths_of fs c.self.inside.len) c.args.i) (sym c.as_slice.ensures.value) ∙ sym c.position_of.ensures in
    let p = c.in-Some.position in
    let at : position_of t.ledgers c.args.i ≡ Some p = asked ∙ c.in-Some.is in
    let within : p.ledger < length t.parts = let there = ledger_there t.ledgers g.entries c.args.i p at in let many = holds.many in omega (arith, there, many) in
    let gone : slice_get t.parts p.ledger ≡ Some part.Away = part_at c.self.inside.parts.items p.ledger c.index.result.now part.Away within c.index.ensures c.in_default-index.is in
    let away : slice_get c.args.self.now.parts p.ledger ≡ Some part.Away = subst (λ (v : Tiered g.row.T.Denot). slice_get v.parts p.ledger ≡ Some part.Away) c.self.view_is gone in
    let place : position_of c.args.self.now.ledgers c.args.i ≡ Some p = subst (λ (v : Tiered g.row.T.Denot). position_of v.ledgers c.args.i ≡ Some p) c.self.view_is at in
    rw (place, away) c.read_away.ensures.calls

pub returns-clause-recalled : goal.returns-clause-recalled
returns-clause-recalled g c =
    let t : Tiered g.row.T.Denot = record { own = c.self.inside.own; ledgers = lengths_of c.self.inside.firsts.items c.self.inside.len; unclosed = c.self.inside.unclosed; parts = c.self.inside.parts.items; recalled = c.self.inside.recalled; tier = c.self.inside.tier } in
    let holds : Holds c.args.names.now g.T.Tier.kept g.entries t = subst (λ (v : Tiered g.row.T.Denot). Holds c.args.names.now g.T.Tier.kept g.entries v) (sym c.self.view_is) c.requires.1.1 in
    let asked : position_of t.ledgers c.args.i ≡ c.position_of.result = ap (λ (fs : List ℕ). position_of (lengths_of fs c.self.inside.len) c.args.i) (sym c.as_slice.ensures.value) ∙ sym c.position_of.ensures in
    let p = c.in-Some.position in
    let at : position_of t.ledgers c.args.i ≡ Some p = asked ∙ c.in-Some.is in
    let within : p.ledger < length t.parts = let there = ledger_there t.ledgers g.entries c.args.i p at in let many = holds.many in omega (arith, there, many) in
    let gone : slice_get t.parts p.ledger ≡ Some part.Away = part_at c.self.inside.parts.items p.ledger c.index.result.now part.Away within c.index.ensures c.in_default-index.is in
    let away : slice_get c.args.self.now.parts p.ledger ≡ Some part.Away = subst (λ (v : Tiered g.row.T.Denot). slice_get v.parts p.ledger ≡ Some part.Away) c.self.view_is gone in
    let place : position_of c.args.self.now.ledgers c.args.i ≡ Some p = subst (λ (v : Tiered g.row.T.Denot). position_of v.ledgers c.args.i ≡ Some p) c.self.view_is at in
    c.read_away.ensures.recalled ∙ rw (place, away) (last_if c.read_away.result p.ledger c.args.self.now.ledgers g.entries c.args.self.now.recalled c.requires.1.1.recalled)

pub returns-in_default-clause-calls : goal.returns-in_default-clause-calls
returns-in_default-clause-calls g c =
    let t : Tiered g.row.T.Denot = record { own = c.self.inside.own; ledgers = lengths_of c.self.inside.firsts.items c.self.inside.len; unclosed = c.self.inside.unclosed; parts = c.self.inside.parts.items; recalled = c.self.inside.recalled; tier = c.self.inside.tier } in
    let asked : position_of t.ledgers c.args.i ≡ c.position_of.result = ap (λ (fs : List ℕ). position_of (lengths_of fs c.self.inside.len) c.args.i) (sym c.as_slice.ensures.value) ∙ sym c.position_of.ensures in
    let at : position_of t.ledgers c.args.i ≡ None = asked ∙ c.in_default.is in
    let none : g.T.Tier.calls t.tier ≡ calls_if (asks t c.args.i) (g.T.Tier.calls t.tier) = rw at refl in
    subst (λ (v : Tiered g.row.T.Denot). g.T.Tier.calls v.tier ≡ calls_if (asks v c.args.i) (g.T.Tier.calls v.tier)) c.self.view_is none

pub returns-in_default-clause-recalled : goal.returns-in_default-clause-recalled
returns-in_default-clause-recalled g c =
    let t : Tiered g.row.T.Denot = record { own = c.self.inside.own; ledgers = lengths_of c.self.inside.firsts.items c.self.inside.len; unclosed = c.self.inside.unclosed; parts = c.self.inside.parts.items; recalled = c.self.inside.recalled; tier = c.self.inside.tier } in
    let asked : position_of t.ledgers c.args.i ≡ c.position_of.result = ap (λ (fs : List ℕ). position_of (lengths_of fs c.self.inside.len) c.args.i) (sym c.as_slice.ensures.value) ∙ sym c.position_of.ensures in
    let at : position_of t.ledgers c.args.i ≡ None = asked ∙ c.in_default.is in
    let same : t.recalled ≡ recalled_after t g.entries c.args.i = rw at refl in
    subst (λ (v : Tiered g.row.T.Denot). v.recalled ≡ recalled_after v g.entries c.args.i) c.self.view_is same
