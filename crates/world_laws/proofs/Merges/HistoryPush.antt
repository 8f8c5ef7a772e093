-- One more entry at the end of a history.
use Rattle.std.proofs.Common.{◌≡◌, ℕ, List, [], ◌∷◌, ◌++◌, refl, sym, ap, ◌∙◌}
use Rattle.std.proofs.lemmas.List.{append-nil, append_assoc}
use Rattle.world_laws.proofs.Types.{Packet}
use Rattle.geo_base.specs.History.{HappensAt, RecordedEvent, Replays, last_stamp, replayed, sent_in, sent_over, state_after, taken_in, taken_over}
use Rattle.geo_base.specs.NodeState.{NodeState, takes_from}
use Rattle.geo_base.specs.Nodes.{node_of}
use Rattle.geo_base.specs.Setup.{Setup}
use Rattle.geo_base.specs.World.{LinkName}

pub replays_push : (s : Setup) (n : ℕ) (st : NodeState) (clock : ℕ) (ds : List RecordedEvent) (d : RecordedEvent) → Replays s n st clock ds
    → HappensAt s n (replayed s st ds) (last_stamp clock ds) d → Replays s n st clock (ds ++ d ∷ [])
replays_push s n st clock [] d r h = (h, tt)
replays_push s n st clock (e ∷ ds) d r h = (r.0, replays_push s n (state_after s st e) e.stamp ds d r.1 h)

pub replayed_push : (s : Setup) (st : NodeState) (ds : List RecordedEvent) (d : RecordedEvent) → replayed s st (ds ++ d ∷ []) ≡ state_after s (replayed s st ds) d
replayed_push s st [] d = refl
replayed_push s st (e ∷ ds) d = replayed_push s (state_after s st e) ds d

pub last_stamp_push : (clock : ℕ) (ds : List RecordedEvent) (d : RecordedEvent) → last_stamp clock (ds ++ d ∷ []) ≡ d.stamp
last_stamp_push clock [] d = refl
last_stamp_push clock (e ∷ ds) d = last_stamp_push e.stamp ds d

pub sent_push : (s : Setup) (k : LinkName) (ds : List RecordedEvent) (d : RecordedEvent) → sent_in s k (ds ++ d ∷ []) ≡ sent_in s k ds ++ sent_over s k (node_of s d.event) d.sent
sent_push s k [] d = append-nil (sent_over s k (node_of s d.event) d.sent)
sent_push s k (e ∷ ds) d =
    ap (λ (ps : List Packet). sent_over s k (node_of s e.event) e.sent ++ ps) (sent_push s k ds d)
    ∙ sym (append_assoc (sent_over s k (node_of s e.event) e.sent) (sent_in s k ds) (sent_over s k (node_of s d.event) d.sent))

pub taken_push : (s : Setup) (k : LinkName) (st : NodeState) (ds : List RecordedEvent) (d : RecordedEvent)
    → taken_in s k st (ds ++ d ∷ []) ≡ taken_in s k st ds ++ taken_over s k (node_of s d.event) (takes_from (replayed s st ds) d.event) d.taken
taken_push s k st [] d = append-nil (taken_over s k (node_of s d.event) (takes_from st d.event) d.taken)
taken_push s k st (e ∷ ds) d =
    let here = taken_over s k (node_of s e.event) (takes_from st e.event) e.taken in
    ap (λ (ps : List Packet). here ++ ps) (taken_push s k (state_after s st e) ds d)
    ∙ sym (append_assoc here (taken_in s k (state_after s st e) ds)
    (taken_over s k (node_of s d.event) (takes_from (replayed s (state_after s st e) ds) d.event) d.taken))
