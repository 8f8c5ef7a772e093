-- In a run an update that is read next names one stored position and a name, so it has an effect where there is room.
use Rattle.std.proofs.Common.{◌≡◌, ℕ, ◌<◌, true, List, [], ◌∷◌, length, sym, subst, arith}
use Rattle.std.specs.Prelude.{Some}
use Rattle.std.proofs.lemmas.Bool.{eq-eqb}
use Rattle.world_laws.proofs.Types.{ClusterPosition, Position}
use Rattle.geo_base.specs.Laws.{Always, BetweenEvents, IsShort, NamesSettled}
use Rattle.geo_base.specs.Name.{is_name}
use Rattle.geo_base.specs.Settled.{SettledSoFar}
use Rattle.geo_base.specs.Setup.{Setup}
use Rattle.geo_base.specs.Subscribing.{has_room}
use Rattle.geo_base.specs.Topic.{index_of}
use Rattle.geo_base.specs.Updating.{only_index, positions_for}
use Rattle.geo_base.specs.World.{World, topic_at}
use Rattle.world_laws.proofs.Snapshotting.Asked.{named as names_of}
use Rattle.world_laws.proofs.TopicOrder.Ledgers.{of_index}
use Rattle.world_laws.proofs.Induction.Runs.{between_events}
use Rattle.world_laws.proofs.Snapshotting.SecondRound.{Knows, knows_now}
use Rattle.world_laws.proofs.Telling.ToldLaws.{update_always}
use Rattle.world_laws.proofs.Walks.Walk.{both}
use Rattle.failover_laws.specs.UpdatedTo.{LawEffects, MayUpdateTo, ReadsUpdate, UpdatesHaveEffect}
use Rattle.failover_laws.proofs.Behind.{at_home}
use Rattle.failover_laws.proofs.TracedRuns.{AllTraced, Tracing, tracing_kept}

may_pass : (s : Setup) (w : World) (settled : SettledSoFar) → Knows s w → AllTraced s w → NamesSettled s w settled → (t y a : ℕ) (n : List ℕ) (told : List ClusterPosition)
    → ReadsUpdate s w t y a n told → has_room (topic_at s w t y) n ≡ true → (j : ℕ) × MayUpdateTo s w t y a n told j
may_pass s w settled k traced names t y a n told r room = (one.1, record { next = r; names = at; stands = stands; may = both (is_name n) (has_room (topic_at s w t y) n) named room })
  where
    one : (p : Position) × (j : ℕ) × (positions_for y told ≡ p ∷ []) × (index_of (topic_at s w t y).ledgers p ≡ Some j)
    one = let h = names t y r.index a y n told r.pair.0 r.pair.0 (λ is. r.pair.2 (sym is)) r.update in (h.0, h.1, h.2, h.3)

    at : only_index (topic_at s w t y).ledgers (positions_for y told) ≡ Some one.1
    at = subst (λ (ps : List Position). only_index (topic_at s w t y).ledgers ps ≡ Some one.1) (sym one.2) one.3

    stands : one.1 < length (topic_at s w t y).entries
    stands =
        let within = (of_index (topic_at s w t y).ledgers one.0 one.1 one.3).within in
        let whole = (k.answers t y (r.topic, r.pair.0)).numbered.whole in omega (arith, within, whole)

    named : is_name n ≡ true
    named =
        let e = r.update.entry in
        let home = at_home s w t y r.index a e k r.update.stands r.update.origin r.pair.1 r.pair.0 in
        ((traced t a (r.topic, r.pair.1)).updates home.place e n told home.is (eq-eqb e.ident.origin a r.update.origin) r.update.is).name

pub passes_between : LawEffects
passes_between s scripted = record {
  run = λ es short. given.run es short _ (told.run es short);
  limited = λ l es short. given.limited l es short _ (told.limited l es short);
  between = λ l es at short. given.between l es at short _ (told.between l es at short);
}
  where
    given : BetweenEvents s (λ w. IsShort w → (settled : SettledSoFar) → NamesSettled s w settled → UpdatesHaveEffect s w)
    given =
        between_events s (Tracing s) (λ w. IsShort w → (settled : SettledSoFar) → NamesSettled s w settled → UpdatesHaveEffect s w) (tracing_kept s (names_of s scripted))
        (λ w h short settled names. may_pass s w settled (knows_now s w h.0.0 short) (h.1 short) names)

    told : Always s (λ w settled. IsShort w → NamesSettled s w settled)
    told = update_always s scripted
