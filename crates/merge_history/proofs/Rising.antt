-- Histories of bytes and the histories of values that they stand for have the same events, and stamps that rise.
use Rattle.std.proofs.Common.{◌≡◌, ℕ, zero, suc, ◌<◌, List, [], ◌∷◌, length, sym, subst, arith}
use Rattle.std.specs.Prelude.{Some, slice_get}
use Rattle.std.proofs.lemmas.Option.{none-some, same_Some}
use Rattle.geo_base.specs.declared.packet.Packet.{Packet}
use Rattle.geo_base.specs.History.{RecordedEvent}
use Rattle.geo_base.specs.Merge.{history_of}
use Rattle.wire_ends.specs.declared.packet.WirePacket.{WirePacket}
use Rattle.world_laws.proofs.Replicating.Effects.{Each}
use Rattle.world_laws.proofs.Merges.MergeOrder.{Rises}
use Rattle.world_laws.specs.ByteHistories.{StandAll}
use Rattle.merge_history.specs.Kept.{Kept, kept_by}
use Rattle.merge_history.specs.Turns.{AlikeAll, AlikeEvents, AreAbove, Rise}

-- ---- the same events
alike_events : (R : WirePacket → Packet → Type 0) (xs : List Kept) (ds : List RecordedEvent) → StandAll R xs ds → AlikeEvents xs ds
alike_events R [] [] h = tt
alike_events R [] (d ∷ ds) h = absurd h
alike_events R (x ∷ xs) [] h = absurd h
alike_events R (x ∷ xs) (d ∷ ds) h = ((sym h.0.event, sym h.0.stamp), alike_events R xs ds h.1)

pub alike_all : (R : WirePacket → Packet → Type 0) (kept : List (List Kept)) (said : List (List RecordedEvent)) → length kept ≡ length said
    → ((n : ℕ) → StandAll R (kept_by kept n) (history_of said n)) → AlikeAll kept said
alike_all R [] [] same h = tt
alike_all R [] (ds ∷ said) same h = absurd (omega (arith, same))
alike_all R (xs ∷ kept) [] same h = absurd (omega (arith, same))
alike_all R (xs ∷ kept) (ds ∷ said) same h = (alike_events R xs ds (h 0), alike_all R kept said (omega (arith, same)) (λ n. h (suc n)))

-- ---- stamps
above : (low : ℕ) (ds : List RecordedEvent) → Each (λ (e : RecordedEvent). low < e.stamp) ds → AreAbove low ds
above low [] h = tt
above low (d ∷ ds) h = (h.0, above low ds h.1)

pub rise_is : (ds : List RecordedEvent) → Rises ds → Rise ds
rise_is [] h = tt
rise_is (d ∷ ds) h = (above d.stamp ds h.0, rise_is ds h.1)

kept_above : (R : WirePacket → Packet → Type 0) (low : ℕ) (xs : List Kept) (ds : List RecordedEvent) → StandAll R xs ds → Each (λ (e : RecordedEvent). low < e.stamp) ds
    → (i : ℕ) (e : Kept) → slice_get xs i ≡ Some e → low < e.stamp
kept_above R low [] ds stand h i e at = absurd (none-some e at)
kept_above R low (x ∷ xs) [] stand h i e at = absurd stand
kept_above R low (x ∷ xs) (d ∷ ds) stand h zero e at =
    let lt = h.0 in let same = stand.0.stamp in subst (λ (k : Kept). low < k.stamp) (same_Some x e at) (omega (arith, lt, same))
kept_above R low (x ∷ xs) (d ∷ ds) stand h (suc i) e at = kept_above R low xs ds stand.1 h.1 i e at

pub kept_rise : (R : WirePacket → Packet → Type 0) (xs : List Kept) (ds : List RecordedEvent) → StandAll R xs ds → Rises ds
    → (i j : ℕ) (d e : Kept) → i < j → slice_get xs i ≡ Some d → slice_get xs j ≡ Some e → d.stamp < e.stamp
kept_rise R [] ds stand h i j a b lt at at' = absurd (none-some a at)
kept_rise R (x ∷ xs) [] stand h i j a b lt at at' = absurd stand
kept_rise R (x ∷ xs) (d ∷ ds) stand h i zero a b lt at at' = absurd (omega (arith, lt))
kept_rise R (x ∷ xs) (d ∷ ds) stand h zero (suc j) a b lt at at' =
    let more = kept_above R d.stamp xs ds stand.1 h.0 j b at' in let same = stand.0.stamp in
    subst (λ (k : Kept). k.stamp < b.stamp) (same_Some x a at) (omega (arith, more, same))
kept_rise R (x ∷ xs) (d ∷ ds) stand h (suc i) (suc j) a b lt at at' = kept_rise R xs ds stand.1 h.1 i j a b (omega (arith, lt)) at at'
