-- What comes again stands where no update that was acted on has passed.
use Rattle.std.proofs.Common.{◌≡◌, ℕ, ◌+◌, ◌<◌, true, false, sym, subst, ◌∙◌, arith, inl, inr}
use Rattle.std.specs.Prelude.{Some, ◌&&◌, not, slice_get}
use Rattle.std.proofs.lemmas.Bool.{and_parts, false≢true, not-true}
use Rattle.geo_base.specs.declared.entry.Entry.{Entry}
use Rattle.geo_base.specs.Broker.{Broker}
use Rattle.geo_base.specs.Cursor.{has}
use Rattle.geo_base.specs.Entry.{is_data, meant_for}
use Rattle.geo_base.specs.Safe.{IsEntry}
use Rattle.geo_base.specs.Setup.{Setup}
use Rattle.geo_base.specs.Subscription.{Subscription}
use Rattle.geo_base.specs.Traced.{cursor_of}
use Rattle.geo_base.specs.World.{World, topic_at}
use Rattle.failover_laws.specs.UpdatedTo.{HasUpdatedTo}
use Rattle.failover_laws.proofs.Proved.{law_holds}
use Rattle.world_laws.proofs.OnceInOrder.Members.{below_or}
use Rattle.loss_laws.specs.Lost.{again, comes_again, cursor_at, has_place, place_of}
use Rattle.loss_laws.specs.LossLaws.{AgainBehind, LawComesAgain}
use Rattle.loss_laws.proofs.Chosen.{chosen_get}
use Rattle.geo_base.proofs.Bools.{unless_true}

-- a message that comes again, by its index
record Comes (b : Broker) (v : Subscription) (c : Broker) (e : Entry) : Type 0 where
  at : ℕ
  stands : IsEntry c at e
  again : comes_again b v c at e ≡ true

comes : (b : Broker) (v : Subscription) (c : Broker) (k : ℕ) (e : Entry) → slice_get (again b v c) k ≡ Some e → Comes b v c e
comes b v c k e h =
    let f = chosen_get (comes_again b v c) 0 c.entries e k h in
    let same : 0 + f.at ≡ f.at = omega arith in
    record { at = f.at; stands = f.stands; again = subst (λ (i : ℕ). comes_again b v c i e ≡ true) same f.picked }

-- the cursor there lacks it
lacked : (b : Broker) (v : Subscription) (c : Broker) (i : ℕ) (e : Entry) → comes_again b v c i e ≡ true → has (cursor_at c v.name) i ≡ false
lacked b v c i e h =
    let d = is_data e.content in let n = not (has (cursor_at c v.name) i) in let p = has_place v.cursor (place_of b.entries e.ident) in
    not-true (has (cursor_at c v.name) i) (and_parts d n (and_parts (d && n) p h).0).1

-- and what was passed over is in it
is_behind : (b : Broker) (v : Subscription) (c : Broker) (x j : ℕ) (e : Entry) → HasUpdatedTo c v.name x j → meant_for x e ≡ true → (f : Comes b v c e) → j < f.at
is_behind b v c x j e h meant f =
    elim (below_or j f.at) [
      | inl lt ↦ lt
      | inr le ↦
          let passed = h.passed f.at e le f.stands (unless_true (is_data e.content) (meant_for x e) meant) in
          let lacks = subst (λ o. has (cursor_of o) f.at ≡ false) h.here (lacked b v c f.at e f.again) in
          absurd (false≢true (sym lacks ∙ passed))
    ]

behind : (s : Setup) (w : World) (t x y j : ℕ) (v : Subscription) → HasUpdatedTo (topic_at s w t y) v.name x j → AgainBehind s w t x y v j
behind s w t x y j v h k e at meant =
    let b = topic_at s w t x in let c = topic_at s w t y in let f = comes b v c k e at in (f.at, is_behind b v c x j e h meant f, f.stands)

pub comes_law : LawComesAgain
comes_law = record {
  listed = λ s w t x y k v e at. let f = comes (topic_at s w t x) v (topic_at s w t y) k e at in (f.at, f.stands, f.again);
  passed = behind;
  since = λ s u w t x y j v remote may since.
      behind s w t x y j v (law_holds.still s t y v.name _ w x j since (law_holds.passed s u t y x v.name remote j may));
  halted = λ s u w t x y j k v remote may writes since.
      behind s w t x y j v (law_holds.still s t y v.name _ w x j since (law_holds.halted s u t y x v.name remote j k may writes));
}
