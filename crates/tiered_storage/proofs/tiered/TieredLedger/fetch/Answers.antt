use Rattle.std.proofs.Common.{◌≡◌, List, Ok, Err, inr, refl, subst, sym, ◌∙◌}
use Rattle.std.specs.Prelude.{Some, slice_get}
use Rattle.geo_base.specs.declared.entry.Entry.{Entry}
use Rattle.state_items.specs.declared.fault.Broken.{Broken}
use Rattle.state_items.specs.Reading.{Answer}
use Rattle.topic_store.specs.Firsts.{lengths_of}
use Rattle.tiered_storage.specs.declared.tier.Held.TheVariants as held
use Rattle.tiered_storage.specs.declared.part.Part.TheVariants as part
use Rattle.geo_io.specs.Faults.{one_more}
use Rattle.tiered_storage.specs.Calls.{AtMostOne}
use Rattle.tiered_storage.specs.Ledgers.{entries_in}
use Rattle.tiered_storage.specs.Tiered.{Holds, Tiered}
use Rattle.tiered_storage.proofs.Keeping.{got_text, kept_still, read_with}
use Rattle.tiered_storage.proofs.tiered.TieredLedger.fetch.Goals as goal

same_entries : (xs ys : List Entry) → ◌≡◌ {A = Answer (List Entry)} (Ok xs) (Ok ys) → ys ≡ xs
same_entries xs ys h = cc

no_fault : (xs : List Entry) (b : Broken) → ◌≡◌ {A = Answer (List Entry)} (Ok xs) (Err b) → ⊥
no_fault xs b h = cc

pub returns-in_err-get-clause-holds : goal.returns-in_err-get-clause-holds
returns-in_err-get-clause-holds g c =
    let t : Tiered g.row.T.Denot = record { own = c.self.inside.own; ledgers = lengths_of c.self.inside.firsts.items c.self.inside.len; unclosed = c.self.inside.unclosed; parts = c.self.inside.parts.items; recalled = c.self.inside.recalled; tier = c.self.inside.tier } in
    let holds : Holds c.args.names.now g.T.Tier.kept g.entries t = subst (λ (v : Tiered g.row.T.Denot). Holds c.args.names.now g.T.Tier.kept g.entries v) (sym c.self.view_is) c.requires.1.1.0 in
    kept_still c.args.names.now g.T.Tier.kept g.entries t c.get.new.self holds c.get.ensures.kept

pub returns-in-Ok-clause-holds : goal.returns-in-Ok-clause-holds
returns-in-Ok-clause-holds g c =
    let t : Tiered g.row.T.Denot = record { own = c.self.inside.own; ledgers = lengths_of c.self.inside.firsts.items c.self.inside.len; unclosed = c.self.inside.unclosed; parts = c.self.inside.parts.items; recalled = c.self.inside.recalled; tier = c.self.inside.tier } in
    let holds : Holds c.args.names.now g.T.Tier.kept g.entries t = subst (λ (v : Tiered g.row.T.Denot). Holds c.args.names.now g.T.Tier.kept g.entries v) (sym c.self.view_is) c.requires.1.1.0 in
    kept_still c.args.names.now g.T.Tier.kept g.entries t c.get.new.self holds c.get.ensures.kept

pub returns-in-Err-Memory-clause-holds : goal.returns-in-Err-Memory-clause-holds
returns-in-Err-Memory-clause-holds g c =
    let t : Tiered g.row.T.Denot = record { own = c.self.inside.own; ledgers = lengths_of c.self.inside.firsts.items c.self.inside.len; unclosed = c.self.inside.unclosed; parts = c.self.inside.parts.items; recalled = c.self.inside.recalled; tier = c.self.inside.tier } in
    let holds : Holds c.args.names.now g.T.Tier.kept g.entries t = subst (λ (v : Tiered g.row.T.Denot). Holds c.args.names.now g.T.Tier.kept g.entries v) (sym c.self.view_is) c.requires.1.1.0 in
    kept_still c.args.names.now g.T.Tier.kept g.entries t c.get.new.self holds c.get.ensures.kept

pub returns-in-Ok-clause-ok : goal.returns-in-Ok-clause-ok
returns-in-Ok-clause-ok g c =
    let t : Tiered g.row.T.Denot = record { own = c.self.inside.own; ledgers = lengths_of c.self.inside.firsts.items c.self.inside.len; unclosed = c.self.inside.unclosed; parts = c.self.inside.parts.items; recalled = c.self.inside.recalled; tier = c.self.inside.tier } in
    let holds : Holds c.args.names.now g.T.Tier.kept g.entries t = subst (λ (v : Tiered g.row.T.Denot). Holds c.args.names.now g.T.Tier.kept g.entries v) (sym c.self.view_is) c.requires.1.1.0 in
    let away : slice_get t.parts c.args.ledger ≡ Some part.Away = subst (λ (v : Tiered g.row.T.Denot). slice_get v.parts c.args.ledger ≡ Some part.Away) (sym c.self.view_is) c.requires.1.1.1 in
    let got = got_text c.args.names.now g.T.Tier.kept g.entries t c.args.ledger c.new-bytes.result c.get.new.out c.in_ok-get.field-0 holds away c.new-bytes.ensures c.in_ok-get.ensures.ok in
    let read : ◌≡◌ {A = Answer (List Entry)} (Ok (entries_in t.ledgers g.entries c.args.ledger)) (Ok c.in-Ok.entries.items) =
    read_with c.args.names.now g.T.Tier.kept g.entries t c.args.ledger c.as_slice.result.now (λ (fs : List Entry). ◌≡◌ {A = Answer (List Entry)} (Ok fs) (Ok c.in-Ok.entries.items)) holds away (c.as_slice.ensures ∙ got.1) c.in-Ok.ensures.read in
    let is : c.from_vec.result ≡ entries_in t.ledgers g.entries c.args.ledger = c.from_vec.ensures ∙ same_entries (entries_in t.ledgers g.entries c.args.ledger) c.in-Ok.entries.items read in
    subst (λ (v : Tiered g.row.T.Denot). c.from_vec.result ≡ entries_in v.ledgers g.entries c.args.ledger) c.self.view_is is

pub unreachable-requires : goal.unreachable-requires
unreachable-requires g c =
    let t : Tiered g.row.T.Denot = record { own = c.self.inside.own; ledgers = lengths_of c.self.inside.firsts.items c.self.inside.len; unclosed = c.self.inside.unclosed; parts = c.self.inside.parts.items; recalled = c.self.inside.recalled; tier = c.self.inside.tier } in
    let holds : Holds c.args.names.now g.T.Tier.kept g.entries t = subst (λ (v : Tiered g.row.T.Denot). Holds c.args.names.now g.T.Tier.kept g.entries v) (sym c.self.view_is) c.requires.1.1.0 in
    let away : slice_get t.parts c.args.ledger ≡ Some part.Away = subst (λ (v : Tiered g.row.T.Denot). slice_get v.parts c.args.ledger ≡ Some part.Away) (sym c.self.view_is) c.requires.1.1.1 in
    let got = got_text c.args.names.now g.T.Tier.kept g.entries t c.args.ledger c.new-bytes.result c.get.new.out c.in_ok-get.field-0 holds away c.new-bytes.ensures c.in_ok-get.ensures.ok in
    let fault = c.in-Err-Broken.field-0-is in
    no_fault (entries_in t.ledgers g.entries c.args.ledger) c.in-Err-Broken.field-0-0
    (read_with c.args.names.now g.T.Tier.kept g.entries t c.args.ledger c.as_slice.result.now (λ (fs : List Entry). ◌≡◌ {A = Answer (List Entry)} (Ok fs) (Err c.in-Err-Broken.field-0-0)) holds away (c.as_slice.ensures ∙ got.1)
    (rw fault at c.in-Err-Broken.ensures.read))

pub unreachable-requires-in-No : goal.unreachable-requires-in-No
unreachable-requires-in-No g c =
    let t : Tiered g.row.T.Denot = record { own = c.self.inside.own; ledgers = lengths_of c.self.inside.firsts.items c.self.inside.len; unclosed = c.self.inside.unclosed; parts = c.self.inside.parts.items; recalled = c.self.inside.recalled; tier = c.self.inside.tier } in
    let holds : Holds c.args.names.now g.T.Tier.kept g.entries t = subst (λ (v : Tiered g.row.T.Denot). Holds c.args.names.now g.T.Tier.kept g.entries v) (sym c.self.view_is) c.requires.1.1.0 in
    let away : slice_get t.parts c.args.ledger ≡ Some part.Away = subst (λ (v : Tiered g.row.T.Denot). slice_get v.parts c.args.ledger ≡ Some part.Away) (sym c.self.view_is) c.requires.1.1.1 in
    let got = got_text c.args.names.now g.T.Tier.kept g.entries t c.args.ledger c.new-bytes.result c.get.new.out c.in_ok-get.field-0 holds away c.new-bytes.ensures c.in_ok-get.ensures.ok in
    let not : c.in_ok-get.field-0 ≡ held.No = c.in-No.is in
    let yes : c.in_ok-get.field-0 ≡ held.Yes = got.0 in
    cc

pub returns-in_err-get-clause-counted : goal.returns-in_err-get-clause-counted
returns-in_err-get-clause-counted g c =
    subst (λ (v : Tiered g.row.T.Denot). AtMostOne (g.T.Tier.calls v.tier) (g.T.Tier.calls c.get.new.self)) c.self.view_is (inr c.get.ensures.counted)

pub returns-in_err-get-clause-value : goal.returns-in_err-get-clause-value
returns-in_err-get-clause-value g c =
    let t : Tiered g.row.T.Denot = record { own = c.self.inside.own; ledgers = lengths_of c.self.inside.firsts.items c.self.inside.len; unclosed = c.self.inside.unclosed; parts = c.self.inside.parts.items; recalled = c.self.inside.recalled; tier = c.self.inside.tier } in
    subst (λ (v : Tiered g.row.T.Denot). ◌≡◌ {A = Tiered g.row.T.Denot} (record t { tier = c.get.new.self }) (record v { tier = c.get.new.self })) c.self.view_is refl

pub returns-in-Ok-clause-counted : goal.returns-in-Ok-clause-counted
returns-in-Ok-clause-counted g c =
    subst (λ (v : Tiered g.row.T.Denot). AtMostOne (g.T.Tier.calls v.tier) (g.T.Tier.calls c.get.new.self)) c.self.view_is (inr c.get.ensures.counted)

pub returns-in-Ok-clause-value : goal.returns-in-Ok-clause-value
returns-in-Ok-clause-value g c =
    let t : Tiered g.row.T.Denot = record { own = c.self.inside.own; ledgers = lengths_of c.self.inside.firsts.items c.self.inside.len; unclosed = c.self.inside.unclosed; parts = c.self.inside.parts.items; recalled = c.self.inside.recalled; tier = c.self.inside.tier } in
    subst (λ (v : Tiered g.row.T.Denot). ◌≡◌ {A = Tiered g.row.T.Denot} (record t { tier = c.get.new.self }) (record v { tier = c.get.new.self })) c.self.view_is refl

pub returns-in-Err-Memory-clause-counted : goal.returns-in-Err-Memory-clause-counted
returns-in-Err-Memory-clause-counted g c =
    subst (λ (v : Tiered g.row.T.Denot). AtMostOne (g.T.Tier.calls v.tier) (g.T.Tier.calls c.get.new.self)) c.self.view_is (inr c.get.ensures.counted)

pub returns-in-Err-Memory-clause-value : goal.returns-in-Err-Memory-clause-value
returns-in-Err-Memory-clause-value g c =
    let t : Tiered g.row.T.Denot = record { own = c.self.inside.own; ledgers = lengths_of c.self.inside.firsts.items c.self.inside.len; unclosed = c.self.inside.unclosed; parts = c.self.inside.parts.items; recalled = c.self.inside.recalled; tier = c.self.inside.tier } in
    subst (λ (v : Tiered g.row.T.Denot). ◌≡◌ {A = Tiered g.row.T.Denot} (record t { tier = c.get.new.self }) (record v { tier = c.get.new.self })) c.self.view_is refl

pub returns-in-Ok-clause-calls : goal.returns-in-Ok-clause-calls
returns-in-Ok-clause-calls g c =
    subst (λ (v : Tiered g.row.T.Denot). g.T.Tier.calls c.get.new.self ≡ one_more (g.T.Tier.calls v.tier)) c.self.view_is c.get.ensures.counted
