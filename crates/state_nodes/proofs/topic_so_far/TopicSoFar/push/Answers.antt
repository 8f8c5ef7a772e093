use Rattle.std.proofs.Common.{◌≡◌, true, subst, sym}
use Rattle.state_nodes.specs.TopicSoFar.{EntryList}
use Rattle.state_nodes.specs.Entries.{is_next}
use Rattle.state_nodes.proofs.Turns.{push_kept}
use Rattle.state_nodes.proofs.topic_so_far.TopicSoFar.push.Goals as goal

pub invariant_of-self-2 : goal.invariant_of-self-2
invariant_of-self-2 c =
    let next = subst (λ (v : EntryList). is_next v.own v.entries c.args.entry.ident ≡ true) (sym c.self.view_is) c.requires in
    push_kept c.self.inside.own c.self.inside.entries.items c.room_for_one.new.entries.items c.push_reserved.new.self.items c.args.entry c.self.inside.dedup.rows c.room_for_one.new.dedup.rows c.note.new.self _ c.in-Ok.stream c.self.inside.last c.last_with-last.result c.is_own_marker.result c.self.invariant.0 c.self.invariant.1 next c.room_for_one.ensures.rows c.in-Ok.ensures c.note.ensures c.room_for_one.ensures.items c.push_reserved.ensures.items c.is_own_marker.ensures c.last_with-last.ensures
