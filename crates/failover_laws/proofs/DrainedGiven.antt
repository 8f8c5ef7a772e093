-- Nothing that stood where a subscription was drained is given to its consumers.
use Rattle.std.proofs.Common.{◌≡◌, ℕ, zero, suc, ◌+◌, Bool, true, false, List, [], ◌∷◌, length, map, refl, sym, ap, subst, ◌∙◌, arith, inl, inr}
use Rattle.std.specs.Prelude.{Some, ◌&&◌, if◌then◌else◌, not, slice_get}
use Rattle.std.proofs.lemmas.Bool.{false≢true}
use Rattle.std.proofs.lemmas.Option.{none-some, same_Some}
use Rattle.world_laws.proofs.Types.{Entry}
use Rattle.geo_base.specs.Broker.{Broker, backlog, sub_named}
use Rattle.geo_base.specs.Cursor.{backlog_from, has}
use Rattle.geo_base.specs.Entry.{is_data}
use Rattle.geo_base.specs.Planned.{planned}
use Rattle.geo_base.specs.Setup.{Setup}
use Rattle.geo_base.specs.Subscription.{Subscription}
use Rattle.geo_base.specs.World.{World, topic_at}
use Rattle.world_laws.proofs.Walks.EventWalk.{planned_shape}
use Rattle.world_laws.proofs.OnceInOrder.Members.{below_or}
use Rattle.failover_laws.specs.Drained.{IsDrained, LawDrained, OnlyFrom}
use Rattle.failover_laws.specs.Since.{Since}
use Rattle.failover_laws.proofs.Given.{planned_open}
use Rattle.failover_laws.proofs.Lasting.{since_keeps}

-- ---- a backlog of none

none_left : (a b : Bool) (m : ℕ) → ((if a && not b then 1 else 0) + m ≡ 0) → a ≡ true → b ≡ true
none_left true true m is h = refl
none_left true false m is h = absurd (omega (arith, is))
none_left false b m is h = absurd (false≢true h)

rest_left : (a : Bool) (m : ℕ) → ((if a then 1 else 0) + m ≡ 0) → m ≡ 0
rest_left true m is = absurd (omega (arith, is))
rest_left false m is = omega (arith, is)

none_behind : (set : List ℕ) (from : ℕ) (es : List Entry) → backlog_from set from (map (λ (e : Entry). is_data e.content) es) ≡ 0
    → (i : ℕ) (e : Entry) → slice_get es i ≡ Some e → is_data e.content ≡ true → has set (from + i) ≡ true
none_behind set from [] is i e at message = absurd (none-some e at)
none_behind set from (a ∷ es) is zero e at message =
    let same : from ≡ from + 0 = omega arith in
    subst (λ (k : ℕ). has set k ≡ true) same
    (none_left (is_data a.content) (has set from) _ is (ap (λ (x : Entry). is_data x.content) (same_Some a e at) ∙ message))
none_behind set from (a ∷ es) is (suc i) e at message =
    let same : from + 1 + i ≡ from + suc i = omega arith in
    subst (λ (k : ℕ). has set k ≡ true) same
    (none_behind set (from + 1) es (rest_left (is_data a.content && not (has set from)) _ is) i e at message)

reported : (b : Broker) (n : List ℕ) (v : Subscription) → sub_named b.subs n ≡ Some v → backlog b v ≡ 0 → IsDrained b n
reported b n v here none = record { sub = v; here = here; all = λ i e at message. let same : 0 + i ≡ i = omega arith in subst (λ (k : ℕ). has v.cursor k ≡ true) same (none_behind v.cursor 0 b.entries none i e at message) }

-- ---- what is given

given_later : (s : Setup) (t y : ℕ) (n : List ℕ) (v w : World) → IsDrained (topic_at s v t y) n → Since s t y n v w → OnlyFrom s w t y n (length (topic_at s v t y).entries)
given_later s t y n v w d since e i f gives at message =
    let b = topic_at s v t y in let b' = topic_at s w t y in
    let stays = since_keeps s t y n v w since in
    elim (below_or i (length b.entries)) [
      | inl lt ↦
          let open_at = planned_open n i s w t y (planned s w e) (planned_shape s w e) gives in
          let still = stays.cursor d.sub d.here in
          let kept = still.all i (d.all i f (stays.same i f lt at) message) in
          let sub : still.sub ≡ open_at.0 = same_Some _ _ (sym still.here ∙ open_at.1) in
          absurd (false≢true (sym open_at.2 ∙ subst (λ (z : Subscription). has z.cursor i ≡ true) sub kept))
      | inr le ↦ le
    ]

pub drained_law : LawDrained
drained_law = record { report = reported; given = given_later }
