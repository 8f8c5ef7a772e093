-- What a replicator's mark counts stands at the other cluster, and what that lacks is the last of it.
use Rattle.std.proofs.Common.{◌≡◌, ℕ, zero, ◌+◌, ◌-◌, ◌<◌, ◌≤◌, true, List, [], ◌∷◌, ◌++◌, length, refl, sym, ap, subst, ◌∙◌, arith, inl, inr, ◌⊎◌, length-append}
use Rattle.std.specs.Prelude.{Some, drop, slice_get, take}
use Rattle.std.proofs.lemmas.List.Elements.{filter-append}
use Rattle.std.proofs.lemmas.List.Sums.{count_by-le-length, length-filter}
use Rattle.std.proofs.lemmas.List.{length-drop, take-append-drop}
use Rattle.std.proofs.lemmas.Option.{slice_get_within}
use Rattle.world_laws.proofs.Types.{Entry}
use Rattle.geo_base.specs.Broker.{replicator_at}
use Rattle.geo_base.specs.Cursor.{mark}
use Rattle.geo_base.specs.Entry.{is_outbound}
use Rattle.geo_base.specs.Laws.{IsPrefix, of_origin, outbound}
use Rattle.geo_base.specs.Moments.{partly_written}
use Rattle.geo_base.specs.Setup.{Setup}
use Rattle.geo_base.specs.World.{World, node, topic_at}
use Rattle.world_laws.specs.Residency.{IsMarked, LacksAtMost, LawMarked, StandsBelow}
use Rattle.world_laws.proofs.FrameContents.Carrying.{entry_there}
use Rattle.world_laws.proofs.Induction.Runs.{always}
use Rattle.world_laws.proofs.OnceInOrder.Members.{Passes, Stands, from_filter, get_left, get_right, head_is, stands_here, tail_is, to_filter}
use Rattle.world_laws.proofs.OnceInOrder.Once.{OnceIn}
use Rattle.world_laws.proofs.Replicating.Pairs.{replicates_laws, written_laws}
use Rattle.world_laws.proofs.Replicating.Prefixes.{Begins, InOrder, filter_order, is_of, not_twice, of_out, once_left}
use Rattle.world_laws.proofs.Residing.Resident.{Shows, shows, shows_written}
use Rattle.world_laws.proofs.Snapshotting.Positions.{Answered, answered_kept}
use Rattle.world_laws.proofs.Telling.Passing.{below_mark}
use Rattle.geo_base.proofs.Lists.{get_of_take}

-- ---- lists

-- of two beginnings of one list the second goes on past the first, or what is left after the first is no longer than what is left after the
-- second
record GoesOn {X : Type 0} (A B : List X) : Type 0 where
  next : X
  more : List X
  is : B ≡ A ++ next ∷ more

two_ways : {X : Type 0} (A rest B C : List X) → A ++ rest ≡ B ++ C → (length rest ≤ length C) ⊎ GoesOn A B
two_ways [] rest [] C is = inl (let h = ap length is in omega (arith, h))
two_ways [] rest (b ∷ B) C is = inr (record { next = b; more = B; is = refl })
two_ways (a ∷ A) rest [] C is = inl (let h = ap length is in let l = length-append A rest in omega (arith, h, l))
two_ways {X = X} (a ∷ A) rest (b ∷ B) C is =
    let same : a ≡ b = head_is a a b (A ++ rest) (B ++ C) is in
    elim (two_ways A rest B C (tail_is a b (A ++ rest) (B ++ C) is)) [
      | inl le ↦ inl le
      | inr g ↦ inr (record { next = g.next; more = g.more; is = (λ j. sym same j ∷ g.is j) })
    ]

-- ---- marks

stands_below : (s : Setup) (w : World) → Shows s w → StandsBelow s w
stands_below s w h t x y i e pair lt at out =
    let there = entry_there s w t x i e h.size pair.0 at in
    let cursor = (replicator_at (topic_at s w t x) y).cursor in
    let r = (h.carried t x y there.0 pair).received i e (below_mark cursor zero i (omega arith) lt) at out in (r.place, r.is)

-- the beginning at y does not end before the mark
not_shorter : (x y : ℕ) (near far before after : List Entry) → near ≡ before ++ after → OnceIn near → ((j : ℕ) (g : Entry) → slice_get before j ≡ Some g → is_outbound x y g ≡ true → Stands far g)
    → GoesOn (of_origin x far) (outbound x y before) → ⊥
not_shorter x y near far before after whole once all g =
    let A = of_origin x far in let f = g.next in let r = g.more in
    let P : List Entry → Type 0 = λ l. Stands l f in
    let passes : Passes (is_outbound x y) before f = from_filter (is_outbound x y) before f (subst P (sym g.is) (stands_here A r f)) in
    let far_has : Stands far f = all passes.stands.place f passes.stands.is passes.passes in
    let one : Stands A f = to_filter (is_of x) far f far_has.place far_has.is (of_out x y f passes.passes) in
    let G : ℕ → List Entry → Type 0 = λ n l. slice_get l n ≡ Some f in
    let size : one.place < length A = slice_get_within A one.place f one.is in
    let order : InOrder before f f =
    filter_order (is_outbound x y) before f f one.place (length A + zero) (omega (arith, size)) (subst (G one.place) (sym g.is) (get_left A (f ∷ r) one.place f one.is))
    (subst (G (length A + zero)) (sym g.is) (get_right A (f ∷ r) zero)) in
    not_twice before f (once_left before after (subst OnceIn whole once)) order

lacks_few : (x y m : ℕ) (near far : List Entry) (begins : Begins x y near far) → OnceIn near → ((j : ℕ) (g : Entry) → j < m → slice_get near j ≡ Some g → is_outbound x y g ≡ true → Stands far g)
    → length begins.0 ≤ length near - m
lacks_few x y m near far begins once all =
    let A = of_origin x far in let before = take m near in let after = drop m near in
    let whole = sym (take-append-drop m near) in
    let both : A ++ begins.0 ≡ outbound x y before ++ outbound x y after = sym begins.1 ∙ ap (outbound x y) whole ∙ filter-append (is_outbound x y) before after in
    elim (two_ways A begins.0 (outbound x y before) (outbound x y after) both) [
      | inl le ↦ let size = length-drop m near in let counted = length-filter (is_outbound x y) after in let most = count_by-le-length (is_outbound x y) after in
          omega (arith, le, counted, most, size)
      | inr g ↦ absurd (not_shorter x y near far before after whole once (λ j f at out. let r = get_of_take m near j f at in all j f r.0 r.1 out) g)
    ]

lacks_at_most : (s : Setup) (w : World) → Shows s w → IsPrefix s w → LacksAtMost s w
lacks_at_most s w h prefix t x y pair =
    let near = (topic_at s w t x).entries in let far = (topic_at s w t y).entries in let begins = prefix t x y pair in
    let m = mark (replicator_at (topic_at s w t x) y).cursor in
    (begins.0, begins.1, lacks_few x y m near far begins (h.once (node s t x)) (λ j g lt at out. let r = stands_below s w h t x y j g pair lt at out in record { place = r.0; is = r.1 }))

marked : (s : Setup) (w : World) → Shows s w → IsPrefix s w → IsMarked s w
marked s w h prefix = record { stands = stands_below s w h; lacks = lacks_at_most s w h prefix }

pub marked_always : LawMarked
marked_always s =
    always s (Answered s) (IsMarked s) (answered_kept s) (λ w h. marked s w (shows s w h) (replicates_laws s w h.0.0).0)
    (λ w k p shape h. marked s (partly_written s w k (Some p)) (shows_written s w k p shape h) (written_laws s w k p shape h.0.0).0)
