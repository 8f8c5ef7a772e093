-- A snapshot that is done is a cut: from what is known in a world, by the cut on values.
use Rattle.std.proofs.Common.{◌≡◌, ℕ, zero, ◌+◌, ◌-◌, ◌*◌, ◌/◌, ◌%◌, ◌^◌, ◌<◌, ◌==◌, Bool, true, false, List, length, refl, sym, ap, subst, ◌∙◌, arith, inl, inr, ◌⊎◌}
use Rattle.std.specs.Prelude.{Some, None, ◌||◌, nat_lt, slice_index_or}
use Rattle.std.proofs.Math.Nat.{div-eq_of_lt}
use Rattle.std.proofs.lemmas.Bool.{eqb-true, false≢true}
use Rattle.std.proofs.lemmas.Bool.Decides.{nat_tests}
use Rattle.std.proofs.lemmas.Nat.{div-mul-add, mod-mul-add, pow-add, pow_below, pow_pos}
use Rattle.world_laws.proofs.Types.{SnapshotBuilder, ClusterPosition, Position, Progress}
use Rattle.world_laws.proofs.Types.progress
use Rattle.world_laws.proofs.Types.targets
use Rattle.geo_base.specs.Broker.{Broker}
use Rattle.geo_base.specs.SnapshotBuilder.{Heard, counts, judged, on_response, with_response}
use Rattle.geo_base.specs.Cuts.{CoversCluster, IsCut}
use Rattle.geo_base.specs.Entry.{goes_to}
use Rattle.geo_base.specs.Setup.{Setup}
use Rattle.geo_base.specs.Topic.{index_of, position_at}
use Rattle.geo_base.specs.World.{World, node, topic_at}
use Rattle.world_laws.proofs.Snapshotting.Asked.{name_of}
use Rattle.world_laws.proofs.Snapshotting.Hearing.{all_heard}
use Rattle.world_laws.proofs.TopicOrder.Ledgers.{at_index}
use Rattle.world_laws.proofs.OnceInOrder.Members.{below_or}
use Rattle.world_laws.proofs.TopicOrder.NextPosition.{le_index}
use Rattle.world_laws.proofs.Snapshotting.SecondRound.{Knows}
use Rattle.world_laws.proofs.Walks.Shapes.{Hears}
use Rattle.world_laws.proofs.Replicating.Sizes.{IsThere}
use Rattle.world_laws.proofs.Snapshotting.SnapshotFacts.{Around, CoversAll, Finished, Made, cut_done}
use Rattle.world_laws.proofs.Walks.Walk.{on_if, on_test}
use Rattle.geo_base.proofs.Bools.{or_cases}

plus_nothing : (n : ℕ) → n ≡ n + 0
plus_nothing n = omega arith

-- what is for one cluster goes to it alone
pub goes_only : (x z : ℕ) → goes_to x (targets.Only (2 ^ z)) ≡ true → z ≡ x
goes_only x z h =
    elim (below_or z x) [
      | inl lt ↦
          let none : (2 ^ z) / (2 ^ x) ≡ zero = div-eq_of_lt (pow_below z x lt) in
          let P : ℕ → Type 0 = λ n. (n % 2 == 1) ≡ true in
          absurd (false≢true (subst P none h))
      | inr le ↦ elim (below_or x z) [
        | inl lt ↦ absurd (even (z - x - 1) (omega (arith, lt)))
        | inr le' ↦ omega (arith, le, le')
      ]
    ]
  where
    even : (d : ℕ) → z ≡ (d + 1) + x → ⊥
    even d is =
        let whole : 2 ^ z ≡ 2 ^ (d + 1) * 2 ^ x + 0 = ap (λ (n : ℕ). 2 ^ n) is ∙ pow-add 2 (d + 1) x ∙ plus_nothing (2 ^ (d + 1) * 2 ^ x) in
        let share : (2 ^ z) / (2 ^ x) ≡ 2 ^ (d + 1) = ap (λ (n : ℕ). n / (2 ^ x)) whole ∙ div-mul-add (2 ^ (d + 1)) (2 ^ x) 0 (pow_pos x) in
        let two : 2 ^ (d + 1) ≡ 2 ^ d * 2 + 0 = pow-add 2 d 1 ∙ (let one : 2 ^ 1 ≡ 2 = refl in ap (λ (n : ℕ). 2 ^ d * n) one) ∙ plus_nothing (2 ^ d * 2) in
        let rest : ((2 ^ z) / (2 ^ x)) % 2 ≡ 0 = ap (λ (n : ℕ). n % 2) (share ∙ two) ∙ mod-mul-add (2 ^ d) 2 0 (omega arith) in
        let P : ℕ → Type 0 = λ n. (n == 1) ≡ true in
        false≢true (subst P rest h)

-- a builder whose last round is over
pub record Over (u : SnapshotBuilder) : Type 0 where
  pub heard : nat_lt (length u.heard + 1) u.clusters ≡ false
  pub last : (u.second ≡ true) ⊎ (u.clusters ≡ 2)

abbrev is_done : Progress → Bool
is_done progress.Done = true
is_done g = false

abbrev OverIfDone : Heard → Type 0
OverIfDone r = is_done r.progress ≡ true → Over r.builder

judged_over : (u : SnapshotBuilder) → OverIfDone (judged u)
judged_over u =
    on_test OverIfDone (nat_lt (length u.heard + 1) u.clusters) _ _ (λ more is. absurd (false≢true is))
    (λ ended. on_test OverIfDone (u.second || (u.clusters == 2)) _ _
    (λ last is. record { heard = ended; last = elim (or_cases u.second (u.clusters == 2) last) [ inl second ↦ inl second | inr two ↦ inr (eqb-true u.clusters 2 two) ] })
    (λ more is. absurd (false≢true is)))

response_over : (u : SnapshotBuilder) (id : List ℕ) (c : ℕ) (remote local : Position) → OverIfDone (on_response u id c remote local)
response_over u id c remote local =
    on_if OverIfDone (counts u id c) _ _ (judged_over (with_response u c remote local)) (λ is. absurd (false≢true is))

pub heard_over : (b : Broker) (y i : ℕ) (id : List ℕ) (answer : ClusterPosition) (u u' : SnapshotBuilder) → Hears b y i id answer u progress.Done u' → Over u'
heard_over b y i id answer u u' heard = subst OverIfDone heard (response_over u id y answer.position (position_at b.ledgers i)) refl

-- all topics of a name, in a world
around : (s : Setup) (w : World) (t x : ℕ) → Knows s w → IsThere s t x
    → Around (length s.clusters) x (name_of s) (λ v. (topic_at s w t v).entries) (λ v. (topic_at s w t v).ledgers)
around s w t x k there = record {
  begins = λ v z hv hz other. k.prefix t v z (hv, hz, other);
  once = λ v hv. k.once (node s t v);
  follows = λ y hy other. k.ordered.follows t x y there.0 (there.1, hy, other);
  chain = λ c y hc hy xc xy cy. k.ordered.chain t x c y there.0 (there.1, hc, xc) (there.1, hy, xy) (hc, hy, cy);
  own = λ v hv. record { answering = k.answers t v (there.0, hv); forms = (k.asked t v (there.0, hv)).forms };
  low = λ i l local lt le at.
      let b = topic_at s w t x in let whole = (k.answers t x there).numbered.whole in
      le_index b.ledgers (position_at b.ledgers i) local i l (at_index b.ledgers i (omega (arith, lt, whole))) at le;
  only = goes_only x;
}

-- the cut of a builder that is done
pub cut_made : (s : Setup) (w : World) (t x : ℕ) (u : SnapshotBuilder) → Knows s w → IsThere s t x
    → Made (length s.clusters) x (name_of s x) (topic_at s w t x).entries (topic_at s w t x).ledgers u → Over u → IsCut s w t x u.cut
cut_made s w t x u k there made over = (local.0, local.1, each)
  where
    n : ℕ
    n = length s.clusters

    finished : Finished n x u
    finished = record {
      heard = all_heard n x (name_of s x) (topic_at s w t x).entries (topic_at s w t x).ledgers u there.1 made over.heard;
      last = elim over.last [ inl second ↦ inl second | inr two ↦ inr (sym made.clusters ∙ two) ];
    }

    some : (u.second ≡ true) ⊎ (0 < length u.heard)
    some = elim over.last [
      | inl second ↦ inl second
      | inr two ↦ inr (let h = over.heard in grind (arith, nat_tests, h, two))
    ]

    local : (l : ℕ) × (index_of (topic_at s w t x).ledgers u.cut.local ≡ Some l)
    local = made.local some

    each : (y : ℕ) → y < n → (x ≡ y → ⊥)
        → (p : Position) × (slice_index_or u.cut.remote y None ≡ Some p) × CoversCluster s w t x local.0 y p
    each y lt other =
        let c : CoversAll x (topic_at s w t x).entries (topic_at s w t y).entries (topic_at s w t y).ledgers u y local.0 =
        cut_done n x y local.0 (name_of s) (λ v. (topic_at s w t v).entries) (λ v. (topic_at s w t v).ledgers) u (around s w t x k there) made finished local.1 there.1 lt other in
        (c.position, c.kept, (c.index, c.stands, λ i e le at message meant. let r = c.covers i e le at meant in (r.place, (let below = r.below in omega (arith, below)), r.is)))
