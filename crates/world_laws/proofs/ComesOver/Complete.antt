-- When settling has ended, all has come over: each replicator is open and has acknowledged all of its topic, and every entry that a
-- cluster is to have stands there.
use Rattle.std.proofs.Common.{◌≡◌, ℕ, zero, ◌+◌, ◌<◌, Bool, true, false, List, [], ◌∷◌, ◌++◌, length, refl, sym, subst, ◌∙◌, ◌==◌, arith, inl, inr}
use Rattle.std.specs.Prelude.{Some, nat_lt, slice_get}
use Rattle.std.proofs.lemmas.Bool.{ltb-true, eqb-true}
use Rattle.std.proofs.lemmas.Bool.Decides.{nat_tests}
use Rattle.std.proofs.lemmas.List.{append-nil}
use Rattle.std.proofs.lemmas.Option.{slice_get_within}
use Rattle.world_laws.proofs.Types.{Entry, Event}
use Rattle.geo_base.specs.Broker.{replicator_at}
use Rattle.geo_base.specs.Cursor.{has}
use Rattle.geo_base.specs.Entry.{is_outbound}
use Rattle.geo_base.specs.Happening.{happens}
use Rattle.geo_base.specs.Laws.{ArePair, BetweenEvents, IsComplete, IsShort, LawBudget, SettlesAll, after_settling, of_origin, outbound}
use Rattle.geo_base.specs.Run.{is_quiet, no_limits, pairs, resets_of}
use Rattle.geo_base.specs.Setup.{Setup}
use Rattle.geo_base.specs.World.{Back, Forward, World, link_at, node, topic_at}
use Rattle.world_laws.proofs.ComesOver.Fitting.{Fits}
use Rattle.world_laws.proofs.ComesOver.FittingRuns.{Fitting, fits_of, fitting_kept}
use Rattle.world_laws.proofs.Budget.InTime.{always_in_time, settles_in_time, start_within}
use Rattle.world_laws.proofs.Induction.Layers.{Both, both_kept, kept_with}
use Rattle.world_laws.proofs.ComesOver.Live.{Live}
use Rattle.world_laws.proofs.ComesOver.LiveFrames.{LiveIn}
use Rattle.world_laws.proofs.ComesOver.LiveRounds.{Ground, Lives, lives_on}
use Rattle.world_laws.proofs.ComesOver.LiveStarts.{all_begun, ground_kept}
use Rattle.world_laws.proofs.Budget.Lowering.{InRound, IsPair, all_in_round, all_pairs, weight_lowered}
use Rattle.world_laws.proofs.OnceInOrder.Members.{Stands, from_filter, get_left, get_right, stands_here, to_filter}
use Rattle.world_laws.proofs.OnceInOrder.Once.{OnceIn}
use Rattle.world_laws.proofs.Replicating.Prefixes.{Begins, InOrder, filter_order, is_of, not_twice, of_out}
use Rattle.world_laws.proofs.ComesOver.Quiet.{IsStill, pair_still}
use Rattle.world_laws.proofs.Budget.Rounds.{IsLowered, Works, after, all_reset, at, settled_has}
use Rattle.world_laws.proofs.Induction.Runs.{IsKept, all_settled, between_events, event_done}
use Rattle.world_laws.proofs.ComesOver.Waiting.{none_waits}
use Rattle.world_laws.proofs.Budget.Weights.{weight}

-- where all entries for y stand at y, nothing is left after the beginning that y has
all_arrived : (x y : ℕ) (near far : List Entry) → OnceIn near → Begins x y near far
    → ((i : ℕ) (e : Entry) → slice_get near i ≡ Some e → is_outbound x y e ≡ true → Stands far e) → outbound x y near ≡ of_origin x far
all_arrived x y near far once begins all = by begins.0 begins.1
  where
    by : (rest : List Entry) → outbound x y near ≡ of_origin x far ++ rest → outbound x y near ≡ of_origin x far
    by [] is = is ∙ append-nil (of_origin x far)
    by (e ∷ rest) is =
        let P : List Entry → Type 0 = λ l. Stands l e in
        let G : ℕ → List Entry → Type 0 = λ n l. slice_get l n ≡ Some e in
        let left_out = from_filter (is_outbound x y) near e (subst P (sym is) (stands_here (of_origin x far) rest e)) in
        let there : Stands far e = all left_out.stands.place e left_out.stands.is left_out.passes in
        let first : Stands (of_origin x far) e = to_filter (is_of x) far e there.place there.is (of_out x y e left_out.passes) in
        let size = slice_get_within (of_origin x far) first.place e first.is in
        let twice : InOrder near e e =
        filter_order (is_outbound x y) near e e first.place (length (of_origin x far) + zero) (omega (arith, size))
        (subst (G first.place) (sym is) (get_left (of_origin x far) (e ∷ rest) first.place e first.is))
        (subst (G (length (of_origin x far) + zero)) (sym is) (get_right (of_origin x far) (e ∷ rest) zero)) in
        absurd (not_twice near e once twice)

-- a session that lives in a quiet world has brought all over
pub complete : (s : Setup) (w : World) (t x y : ℕ) → t < length s.topics → ArePair s x y → Ground s w → LiveIn s w t x y → is_quiet s w ≡ true → IsComplete s w t x y
complete s w t x y lt pair ground live quiet = by live
  where
    is : IsPair s t x y
    is = record { topic = lt; source = pair.0; target = pair.1; other = apart (x == y) refl }
      where
        apart : (b : Bool) → (x == y) ≡ b → (x == y) ≡ false
        apart true e = absurd (pair.2 (eqb-true x y e))
        apart false e = e

    still : IsStill s w t x y
    still = pair_still s w t x y is pair quiet

    by : LiveIn s w t x y → IsComplete s w t x y
    by (Live.Asks a) =
        absurd (none_waits (link_at w.links (Forward (node s t x) y)) a.packet still.forward (record { place = a.place; behind = a.ahead; at = a.at }))
    by (Live.Opens o) = absurd (none_waits (link_at w.links (Back (node s t x) y)) o.success.packet still.back o.success.waits)
    by (Live.Runs h) =
        let facts = ground.0.pairs t x y lt pair in
        let a = topic_at s w t x in
        let acked : (i : ℕ) → i < length a.entries → has (replicator_at a y).cursor i ≡ true = λ i within. at_index i within (nat_lt i (replicator_at a y).read_index) refl in
        record {
          opened = h.state;
          acknowledged = acked;
          arrived =
              all_arrived x y a.entries (topic_at s w t y).entries (ground.0.once (node s t x)) facts.carried.begins
              (λ i e at out. facts.carried.received i e (acked i (slice_get_within a.entries i e at)) at out);
        }
      where
        at_index : (i : ℕ) → i < length (topic_at s w t x).entries → (b : Bool) → nat_lt i (replicator_at (topic_at s w t x) y).read_index ≡ b
            → has (replicator_at (topic_at s w t x) y).cursor i ≡ true
        at_index i within true read =
            elim (h.read i (ltb-true _ _ read)) [
              | inl acked ↦ acked
              | inr w' ↦ elim (h.awaited w'.element w'.stands) [
                | inl c ↦ absurd (none_waits (link_at w.links (Forward (node s t x) y)) c.packet still.forward c.waits)
                | inr c ↦ absurd (none_waits (link_at w.links (Back (node s t x) y)) c.packet still.back c.waits)
              ]
            ]
        at_index i within false unread =
            still.read h.state (ground.0.pairs t x y lt pair).session.read_within i (grind (arith, nat_tests, unread)) within

-- SETTLING

-- a fact that each event of a round keeps may go along with the weight
with_fact : (s : Setup) (M : World → ℕ) (P : World → Type 0) (R : Event → Type 0) → IsLowered s M (λ w. Unit {0}) R
    → ((w : World) (e : Event) → R e → w.events < (after s w e).events → P w → P (after s w e)) → ((w : World) (n : ℕ) → P w → P (record w { rounds = n }))
    → IsLowered s M P R
with_fact s M P R h keeps rounds = record { works = λ w e r p. by w e r p (h.works w e r tt); rounds = h.rounds; kept = rounds }
  where
    by : (w : World) (e : Event) → R e → P w → Works s M (λ v. Unit {0}) w e → Works s M P w e
    by w e r p (Works.Idle same idle) = Works.Idle same idle
    by w e r p (Works.Lowers more less as_many _) = Works.Lowers more less as_many (keeps w e r more p)

-- what settling keeps: all that every event keeps, with a fact F of which it follows that own entries fit, and each session while
-- the run is short
abbrev Base : Setup → (World → Type 0) → World → Type 0
Base s F = Both (Ground s) F

abbrev Lasting : Setup → (World → Type 0) → World → Type 0
Lasting s F w = Base s F w × (IsShort w → Lives s w)

base_kept : (s : Setup) (F : World → Type 0) → IsKept s F → IsKept s (Base s F)
base_kept s F k = both_kept s (Ground s) F (ground_kept s) (kept_with s (Ground s) F k)

lasting_after : (s : Setup) (F : World → Type 0) → IsKept s F → ((w : World) → F w → IsShort w → Fits s w) → (w : World) (e : Event) → InRound s e
    → w.events < (after s w e).events → Lasting s F w → Lasting s F (after s w e)
lasting_after s F k fits w e r more h =
    let base = base_kept s F k in (
      base.idle (happens s w e) w.idle (event_done s (Base s F) base w e h.0),
      λ short. let was : IsShort w = omega (arith, more, short) in lives_on s w e r h.0.0 (fits w h.0.1 was) (h.1 was),
    )

-- when every link is reset
lasting_begun : (s : Setup) (F : World → Type 0) → IsKept s F → (w : World) → Base s F w → Lasting s F (all_reset s w)
lasting_begun s F k w base =
    (all_settled no_limits s (Base s F) (base_kept s F k) (at w) (resets_of (pairs s)) base, λ short. all_begun s w (all_pairs s) base.0)

settles_all : (s : Setup) (F : World → Type 0) → IsKept s F → ((w : World) → F w → IsShort w → Fits s w) → (w : World) → Base s F w
    → IsShort (after_settling s w) → SettlesAll s w
settles_all s F k fits w base short t x y lt pair =
    let h : Lasting s F (after_settling s w) =
    settled_has s (weight s) (Lasting s F) (InRound s)
    (with_fact s (weight s) (Lasting s F) (InRound s) (weight_lowered s) (lasting_after s F k fits) (λ v n lasting. ((base_kept s F k).round v n lasting.0, lasting.1)))
    (all_in_round s) w (lasting_begun s F k w base) (start_within s w (omega (arith, pair.0))) in
    complete s (after_settling s w) t x y lt pair h.0.0 (h.1 short t x y lt pair) (settles_in_time s w).quiet

-- so it is from whatever world a run comes to, where settling ends in a short one
always_complete : (s : Setup) (F : World → Type 0) → IsKept s F → ((w : World) → F w → IsShort w → Fits s w)
    → BetweenEvents s (λ w. IsShort (after_settling s w) → SettlesAll s w)
always_complete s F k fits =
    between_events s (Base s F) (λ w. IsShort (after_settling s w) → SettlesAll s w) (base_kept s F k) (λ w base. settles_all s F k fits w base)

-- of setups that a script can declare own entries fit
pub budget_always : LawBudget
budget_always = record { in_time = always_in_time; complete = λ s scripted. always_complete s (Fitting s) (fitting_kept s scripted) (fits_of s) }
