-- Pieces that are popped and joined.
use Rattle.std.proofs.Common.{◌≡◌, ℕ, ◌+◌, ◌-◌, List, [], ◌∷◌, ◌++◌, length, refl, sym, ap, ◌∙◌, arith, true≢false}
use Rattle.std.specs.Prelude.{None, is_some, slice_get, take}
use Rattle.std.proofs.lemmas.List.{append-nil, append_assoc, length-append}
use Rattle.std.proofs.Math.Seq.{take-append_seam}
use Rattle.wire_ends.specs.declared.packet.WirePacket.{WirePacket}
use Rattle.wire_ends.specs.declared.piece.Piece.{Piece}
use Rattle.wire_ends.specs.Joined.{Joined, with_piece, with_pieces}
use Rattle.wire_ends.specs.Pieces.{begun_after, begun_at_end, gives, packets, packets_from}
use Rattle.wire_ends.proofs.Joining.{begun_append, packets_append}
use Rattle.link_rings.specs.Gathering.{Gives, all_but_last, behind, nothing}

-- pieces one after another
both : (j : Joined) (ps qs : List Piece) → with_pieces j (ps ++ qs) ≡ with_pieces (with_pieces j ps) qs
both j ps qs =
    ap (λ (ws : List WirePacket). record { begun = begun_at_end j.begun (ps ++ qs); whole = j.whole ++ ws }) (packets_append j.begun ps qs)
    ∙ ap (λ (ws : List WirePacket). record { begun = begun_at_end j.begun (ps ++ qs); whole = ws }) (sym (append_assoc j.whole (packets_from j.begun ps) _))
    ∙ ap (λ o. record { begun = o; whole = j.whole ++ packets_from j.begun ps ++ packets_from (begun_at_end j.begun ps) qs }) (begun_append j.begun ps qs)

-- a piece that is popped waits to be joined
pub popped : (received new : List Piece) (taken : List WirePacket) (g : Joined) (p : Piece) → new ≡ received ++ p ∷ [] → Gives received taken g [] → Gives new taken g (p ∷ [])
popped received new taken g p more h =
    let here : with_pieces (behind taken g) [] ≡ behind taken g = ap (λ (ws : List WirePacket). record { begun = g.begun; whole = ws }) (append-nil (taken ++ g.whole)) in
    ap (with_pieces nothing) more ∙ both nothing received (p ∷ []) ∙ ap (λ (j : Joined). with_pieces j (p ∷ [])) (h ∙ here)

-- one that was joined waits no more
pub joins : (received : List Piece) (taken : List WirePacket) (g : Joined) (p : Piece) → Gives received taken g (p ∷ []) → Gives received taken (with_piece g p) []
joins received taken g p h =
    h ∙ ap (λ (ws : List WirePacket). record { begun = begun_after g.begun p; whole = ws })
    (append_assoc taken g.whole (gives g.begun p ++ []) ∙ ap (λ (ws : List WirePacket). taken ++ ws) (sym (append_assoc g.whole (gives g.begun p) [])) ∙ sym (append_assoc taken (g.whole ++ gives g.begun p) []))

-- the next packet is taken
pub takes : (received : List Piece) (taken : List WirePacket) (g after : Joined) (w : WirePacket) (ps : List Piece) → g.whole ≡ w ∷ after.whole → after.begun ≡ g.begun
    → Gives received taken g ps → Gives received (taken ++ w ∷ []) after ps
takes received taken g after w ps first same h =
    h ∙ ap (λ (ws : List WirePacket). with_pieces (record { begun = g.begun; whole = taken ++ ws }) ps) first
    ∙ ap (λ (ws : List WirePacket). with_pieces (record { begun = g.begun; whole = ws }) ps) (sym (append_assoc taken (w ∷ []) after.whole))
    ∙ ap (λ o. with_pieces (record { begun = o; whole = taken ++ w ∷ [] ++ after.whole }) ps) (sym same)

-- where no packet is shown, none was gathered
pub none_shown : (ws : List WirePacket) → slice_get ws 0 ≡ None → ws ≡ []
none_shown [] e = refl
none_shown (w ∷ ws) e = absurd (true≢false (ap is_some e))

none_there : (ws : List WirePacket) → length ws ≡ 0 → ws ≡ []
none_there [] e = refl
none_there (w ∷ ws) e = absurd (omega (arith, e))

-- a piece is popped while none is gathered: those before it give the packets that were taken
pub last_one : (received new : List Piece) (taken : List WirePacket) (g : Joined) (p : Piece) → new ≡ received ++ p ∷ [] → length g.whole ≡ 0 → Gives received taken g []
    → packets (all_but_last new) ≡ taken
last_one received new taken g p more none h =
    let count : length (received ++ p ∷ []) - 1 ≡ length received = omega (arith, length-append received (p ∷ [])) in
    let before : all_but_last (received ++ p ∷ []) ≡ received = ap (λ (n : ℕ). take n (received ++ p ∷ [])) count ∙ take-append_seam received (p ∷ []) in
    ap (λ (ps : List Piece). packets (all_but_last ps)) more ∙ ap packets before
    ∙ ap (λ (j : Joined). j.whole) h ∙ append-nil (taken ++ g.whole) ∙ ap (λ (ws : List WirePacket). taken ++ ws) (none_there g.whole none) ∙ append-nil taken
