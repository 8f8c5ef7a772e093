use Rattle.std.proofs.Common.{◌≡◌, ◌<◌, List, length, sym, ap, subst, ◌∙◌, arith}
use Rattle.std.specs.Prelude.{IfOk, Option, slice_index_or}
use Rattle.std.specs.Option.{option_copied}
use Rattle.wire_ends.specs.declared.packet.WirePacket.{WirePacket}
use Rattle.merge_history.specs.declared.packets.Packets.{Packets}
use Rattle.merge_history.specs.Differences.{Takes}
use Rattle.merge_history.specs.Kept.{Kept}
use Rattle.merge_history.proofs.Pairs.{place_there, sent_is, some_taken, takes_it, taken_there}
use Rattle.merge_history.proofs.packets.packets_of.Goals as goal

pub bounds-histories-difference : goal.bounds-histories-difference
bounds-histories-difference c = c.requires.found.node

pub bounds-events-found : goal.bounds-events-found
bounds-events-found c =
    let d = c.args.difference.now in
    subst (λ (h : List Kept). d.found.place < length h) (sym c.events-events.ensures)
    (place_there c.args.layout.now c.args.histories.now d.node d.found c.index-histories-difference.result c.requires.found.node c.index-histories-difference.is c.requires.found.found)

pub unreachable-requires : goal.unreachable-requires
unreachable-requires c =
    let d = c.args.difference.now in
    let e : Kept = c.index-events-found.result in
    some_taken c.args.layout.now c.args.histories.now d.node d.found c.index-histories-difference.result c.requires.found.node c.index-histories-difference.is c.requires.found.found e
    (c.index-events-found.is ∙ ap (λ (h : List Kept). slice_index_or h d.found.place e) c.events-events.ensures) (sym (ap (λ (x : Kept). x.taken) c.done.view_is) ∙ c.in-None.is)

pub end_of-end-requires : goal.end_of-end-requires
end_of-end-requires c = omega (arith, c.requires.found.node, c.requires.few)

pub returns-clause-sent : goal.returns-clause-sent
returns-clause-sent c =
    let d = c.args.difference.now in
    subst (λ (o : Option WirePacket). IfOk c.both.result (λ (p : Packets). p.sent ≡ o))
    (sent_is c.args.layout.now c.args.histories.now d.node d.found c.end_of-end.result (option_copied c.in_ok-sent.sent) c.requires.found.found c.end_of-end.ensures c.in_ok-sent.ensures)
    c.both.ensures.sent

pub returns-clause-taken : goal.returns-clause-taken
returns-clause-taken c =
    let d = c.args.difference.now in
    let e : Kept = c.index-events-found.result in
    takes_it c.both.result c.in-Some.taken (Takes c.args.layout.now c.args.histories.now d.node d.found.place d.found.peer) c.both.ensures.taken
    (taken_there c.args.layout.now c.args.histories.now d.node d.found c.index-histories-difference.result c.requires.found.node c.index-histories-difference.is c.requires.found.found e c.in-Some.taken
    (c.index-events-found.is ∙ ap (λ (h : List Kept). slice_index_or h d.found.place e) c.events-events.ensures) (sym (ap (λ (x : Kept). x.taken) c.done.view_is) ∙ c.in-Some.is))
