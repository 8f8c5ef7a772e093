-- A log whose configuration is borrowed, and whose state is matched.
use Rattle.std.proofs.Common.{◌≡◌, ℕ, List, sym, ap, ◌∙◌}
use Rattle.log_parts.specs.declared.table.EndRow.{EndRow}
use Rattle.node_log.specs.declared.state.NodeState.{NodeState as Kept}
use Rattle.node_log.specs.Logs.{NodeLogView, log_view}
use Rattle.script_text.specs.Script.{Script}
use Rattle.wire_ends.specs.declared.packet.WirePacket.{WirePacket}
use Rattle.world_laws.specs.ByteHistories.{ByteEvent}

-- before an event: it is the value that the log had
pub borrowed_was : {E : Type 0} (sc sc' : Script) (st st' : Kept) (h : List (ByteEvent WirePacket)) (k : ℕ) (rs : List (EndRow E)) (v : NodeLogView E) → sc' ≡ sc → st ≡ st' → log_view sc st h k rs ≡ v → log_view sc' st' h k rs ≡ v
borrowed_was sc sc' st st' h k rs v borrowed matched view =
    ap (λ (a : Script). log_view a st' h k rs) borrowed ∙ ap (λ (t : Kept). log_view sc t h k rs) (sym matched) ∙ view

-- and after it
pub borrowed_is : {E : Type 0} (sc sc' : Script) (st : Kept) (h : List (ByteEvent WirePacket)) (k : ℕ) (rs : List (EndRow E)) → sc' ≡ sc → log_view sc' st h k rs ≡ log_view sc st h k rs
borrowed_is sc sc' st h k rs borrowed = ap (λ (a : Script). log_view a st h k rs) borrowed
