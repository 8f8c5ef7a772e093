-- What is known of a topic in a world; and an answer that stands there has its request beside it.
use Rattle.std.proofs.Common.{◌≡◌, ◌<◌, true, List, length, subst, arith, ℕ}
use Rattle.std.specs.Prelude.{Some, slice_get}
use Rattle.std.proofs.lemmas.Bool.{eqb-true}
use Rattle.world_laws.proofs.Types.{ClusterPosition, Entry, Targets}
use Rattle.geo_base.specs.Entry.{goes_to}
use Rattle.geo_base.specs.Laws.{ArePair}
use Rattle.geo_base.specs.Setup.{Setup}
use Rattle.geo_base.specs.World.{World, topic_at}
use Rattle.world_laws.proofs.OnceInOrder.Members.{Stands}
use Rattle.world_laws.proofs.Replicating.Pairs.{Replicates}
use Rattle.world_laws.proofs.Replicating.Prefixes.{Begins, is_of}
use Rattle.world_laws.proofs.Replicating.Sizes.{IsThere}
use Rattle.world_laws.proofs.Snapshotting.Answering.{AnswerAt, Answers, RequestAt}
use Rattle.world_laws.proofs.Snapshotting.Completing.{goes_only}
use Rattle.world_laws.proofs.Snapshotting.SecondRound.{Knows}
use Rattle.world_laws.proofs.Snapshotting.SnapshotFacts.{out_there}
use Rattle.world_laws.proofs.TopicOrder.NoSelf.{NoSelf}
use Rattle.world_laws.proofs.TopicOrder.Order.{of_source}
use Rattle.world_laws.proofs.Walks.Walk.{right}
use Rattle.failover_laws.proofs.Acting.ActingOn.{Awaits, not_awaited}
use Rattle.failover_laws.proofs.Behind.{begins, flip}

-- what is known of a topic in a world
pub record Facts (s : Setup) (w : World) (t x : ℕ) : Type 0 where
  pub there : IsThere s t x
  pub knows : Knows s w
  pub replicates : Replicates s w
  pub none : NoSelf s w

pub request_of : (s : Setup) (w : World) (t x y p : ℕ) (id : List ℕ) (answer : ClusterPosition) (e : Entry) → Facts s w t x → ArePair s x y
    → AnswerAt y (topic_at s w t x).entries p id answer e → (r : ℕ) × RequestAt x (topic_at s w t x).entries r id
request_of s w t x y p id answer e f pair at =
    (source.place, record { entry = asked.entry; at = source.is; of = asked.of; asks = asked.asks })
  where
    near : List Entry
    near = (topic_at s w t y).entries

    far : List Entry
    far = (topic_at s w t x).entries

    from : Begins y x near far
    from = begins s w t y x f.knows (flip s x y pair)

    stands : Stands near e
    stands = of_source y x near far from p e at.at at.of

    h : Answers (length s.clusters) y near (topic_at s w t y).ledgers stands.place id answer e
    h = (f.knows.answers t y (f.there.0, pair.1)).answers stands.place id answer e (record { at = stands.is; of = at.of; is = at.is })

    mine : h.asker ≡ x
    mine =
        let out = out_there x y near far from p e at.at at.of in
        goes_only x h.asker (subst (λ (to : Targets). goes_to x to ≡ true) h.to (right (is_of y e) (goes_to x e.to) out))

    asked : RequestAt x near h.index id
    asked = subst (λ (z : ℕ). RequestAt z near h.index id) mine h.request

    source : Stands far asked.entry
    source = of_source x y far near (begins s w t x y f.knows pair) h.index asked.entry asked.at asked.of

pub awaits : (s : Setup) (w : World) (t x y i : ℕ) (e : Entry) → Facts s w t x → ArePair s x y
    → (i < length (topic_at s w t x).entries → slice_get (topic_at s w t x).entries i ≡ Some e) → is_of y e ≡ true → Awaits s w t x y i
awaits s w t x y i e f pair at of =
    let wide = (f.replicates.sized.wide t x f.there).replicators in let small = pair.1 in
    record { there = f.there; size = omega (arith, wide, small); none = not_awaited s w t x y i e f.replicates f.there.0 pair at (eqb-true e.ident.origin y of) }
