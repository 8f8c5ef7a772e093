-- What each topic knows of its own requests and of the snapshot that it makes, in every world of a short run.
use Rattle.std.proofs.Common.{◌≡◌, ℕ, zero, suc, ◌*◌, ◌<◌, ◌==◌, Bool, true, false, List, [], ◌∷◌, length, refl, sym, subst, ◌∙◌, arith, inl, inr}
use Rattle.std.specs.Prelude.{Option, Some, None, ◌&&◌, ◌||◌, nat_le, nat_lt, slice_get, slice_index_or, take}
use Rattle.std.specs.List.{list_all}
use Rattle.std.proofs.lemmas.Bool.{eqb-true, false≢true}
use Rattle.std.proofs.lemmas.List.{get_or-replicate}
use Rattle.std.proofs.lemmas.Option.{none-some}
use Rattle.std.proofs.lemmas.Slice.Eq.{bytes_eq-Decides}
use Rattle.geo_base.specs.Broker.{Broker, new_broker, no_broker}
use Rattle.geo_base.specs.Client.{Acted}
use Rattle.geo_base.specs.Cursor.{has}
use Rattle.geo_base.specs.Happening.{broker_does, broker_halts, client_does, stops}
use Rattle.geo_base.specs.Laws.{IsShort}
use Rattle.geo_base.specs.Moments.{partly_written}
use Rattle.geo_base.specs.Name.{is_name, most_name_bytes, name_byte}
use Rattle.geo_base.specs.Plan.{done, halted, all_written}
use Rattle.geo_base.specs.Planned.{Planned}
use Rattle.geo_base.specs.Scripted.{IsScripted}
use Rattle.geo_base.specs.Seeking.{restart}
use Rattle.geo_base.specs.Setup.{Setup}
use Rattle.geo_base.specs.World.{LinkName, ToClient, World, node, opening_world, site, topic_at}
use Rattle.world_laws.proofs.Snapshotting.Building.{Building, shape_building}
use Rattle.world_laws.proofs.Merges.ClientRoams.{all_index}
use Rattle.world_laws.proofs.Counters.Counts.{FewAt, few_kept, few_room, next_small, stored_small}
use Rattle.world_laws.proofs.Induction.Layers.{Both, Everywhere, Grounds, both_kept, kept_over, one_node}
use Rattle.world_laws.proofs.Snapshotting.Making.{MadeAfter, Making, Telling}
use Rattle.world_laws.proofs.Snapshotting.MakingEvents.{making_done, making_halted, making_written}
use Rattle.world_laws.proofs.OnceInOrder.Members.{below_or}
use Rattle.world_laws.proofs.TopicOrder.Ordered.{Ordered, ordered_kept}
use Rattle.world_laws.proofs.Replicating.PairRoles.{shape_within}
use Rattle.world_laws.proofs.Snapshotting.Positions.{Answered, answered_kept}
use Rattle.world_laws.proofs.Induction.Runs.{IsKept}
use Rattle.world_laws.proofs.Walks.Shapes.{Shape}
use Rattle.world_laws.proofs.Induction.Short.{KeptShort, WhileShort, short_kept}
use Rattle.world_laws.proofs.Replicating.Sizes.{IsThere, node_lt, node_there, stopped_at}
use Rattle.world_laws.proofs.Walks.Walk.{left, on_if, right}

-- NAMES

abbrev pub name_of : Setup → ℕ → List ℕ
name_of s x = slice_index_or s.clusters x []

-- the names of clusters have no byte of those that ids are put together with, and differ
pub record Named (s : Setup) : Type 0 where
  pub no_colon : (x : ℕ) → x < length s.clusters → has (name_of s x) 58 ≡ false
  pub no_slash : (x : ℕ) → x < length s.clusters → has (name_of s x) 47 ≡ false
  pub same : (x y : ℕ) → x < length s.clusters → y < length s.clusters → name_of s x ≡ name_of s y → x ≡ y

lacks : (k : ℕ) → name_byte k ≡ false → (n : List ℕ) → list_all name_byte n ≡ true → has n k ≡ false
lacks k bad [] h = refl
lacks k bad (b ∷ n) h = by (b == k) refl (lacks k bad n (right (name_byte b) (list_all name_byte n) h))
  where
    by : (t : Bool) → (b == k) ≡ t → has n k ≡ false → (t || has n k) ≡ false
    by true e rest = absurd (false≢true (sym bad ∙ subst (λ (c : ℕ). name_byte c ≡ true) (eqb-true b k e) (left (name_byte b) (list_all name_byte n) h)))
    by false e rest = rest

third : (a b c : Bool) → (a && b && c) ≡ true → c ≡ true
third a b c h = grind (arith, h)

name_lacks : (s : Setup) (k : ℕ) → name_byte k ≡ false → list_all is_name s.clusters ≡ true → (x : ℕ) → x < length s.clusters → has (name_of s x) k ≡ false
name_lacks s k bad names x lt =
    let n = name_of s x in
    lacks k bad n (third (nat_lt 0 (length n)) (nat_le (length n) most_name_bytes) (list_all name_byte n) (all_index is_name s.clusters x [] names lt))

got : (xs : List (List ℕ)) (i : ℕ) → i < length xs → slice_get xs i ≡ Some (slice_index_or xs i [])
got [] i lt = absurd (omega (arith, lt))
got (x ∷ xs) zero lt = refl
got (x ∷ xs) (suc i) lt = got xs i (omega (arith, lt))

pub named : (s : Setup) → IsScripted s → Named s
named s scripted = record {
  no_colon = name_lacks s 58 refl scripted.cluster_names.0;
  no_slash = name_lacks s 47 refl scripted.cluster_names.0;
  same = same;
}
  where
    apart : (x y : ℕ) → x < y → x < length s.clusters → y < length s.clusters → name_of s x ≡ name_of s y → ⊥
    apart x y lt lx ly is =
        let differ = scripted.cluster_names.1 x y (name_of s x) (name_of s y) lt (got s.clusters x lx) (got s.clusters y ly) in
        false≢true (sym differ ∙ (bytes_eq-Decides (name_of s x) (name_of s y)).1 is)

    same : (x y : ℕ) → x < length s.clusters → y < length s.clusters → name_of s x ≡ name_of s y → x ≡ y
    same x y lx ly is =
        elim (below_or x y) [
          | inl lt ↦ absurd (apart x y lt lx ly is)
          | inr le ↦ elim (below_or y x) [
            | inl lt ↦ absurd (apart y x lt ly lx (sym is))
            | inr le' ↦ omega (arith, le, le')
          ]
        ]

-- WORLDS

-- what stands below: answers, sizes, order
abbrev pub Counted : Setup → World → Type 0
Counted s = Both (Answered s) (FewAt s)

abbrev pub Standing : Setup → World → Type 0
Standing s = Both (Counted s) (Ordered s)

standing_kept : (s : Setup) → IsKept s (Standing s)
standing_kept s =
    both_kept s (Counted s) (Ordered s) (both_kept s (Answered s) (FewAt s) (answered_kept s) (kept_over s (Answered s) (Grounds s) (FewAt s) (λ w h. h.0) (few_kept s)))
    (kept_over s (Counted s) _ (Ordered s) (λ w h. h.0.0.0) (ordered_kept s))

abbrev pub MakingAt : Setup → ℕ → Broker → Type 0
MakingAt s x b = Making (length s.clusters) x (name_of s x) b.entries b.ledgers b.builder

abbrev pub MakesAt : Setup → ℕ → Broker → Type 0
MakesAt s x b = MadeAfter (length s.clusters) x (name_of s x) b.entries b.ledgers b.builder

abbrev pub Asked : Setup → World → Type 0
Asked s w = Everywhere s (MakesAt s) w

pub telling : (s : Setup) → Named s → (w : World) → IsShort w → Standing s w → (t x : ℕ) → IsThere s t x → Telling s.per_ledger (name_of s x) (topic_at s w t x).ledgers
telling s names w short h t x there =
    let b = topic_at s w t x in let numbered = (h.0.0.1 t x there).numbered in
    record {
      no_colon = names.no_colon x there.1;
      no_slash = names.no_slash x there.1;
      stored = λ p i at. stored_small b p i (few_room s w short h.0.1 t x there) numbered at;
      next = next_small s.per_ledger w.events b short (h.0.1 t x there) numbered;
    }

asked_does : (s : Setup) → Named s → (w : World) (p : Planned) → Shape s w p → IsShort w → Standing s w → Asked s w → Asked s (broker_does s w p)
unfolding broker_does
asked_does s names w p shape short h asked =
    let b = topic_at s w p.topic p.cluster in let x = p.cluster in
    on_if (Asked s) p.plan.idle _ _ asked
    (one_node s (MakesAt s) w p.topic x (done s.per_ledger b p.plan) (shape_within s w p shape)
    (λ here. making_done (site s p.topic x) b p.plan (shape_building s w p shape h.0.0.0.1) here.1 (h.0.0.1 p.topic x here).numbered (telling s names w short h p.topic x here)
    (asked p.topic x here)) asked)

asked_halts : (s : Setup) (w : World) (k : ℕ) (p : Planned) → Shape s w p → Standing s w → Asked s w → Asked s (broker_halts s w k p)
unfolding broker_halts
asked_halts s w k p shape h asked =
    let b = topic_at s w p.topic p.cluster in let x = p.cluster in
    one_node s (MakesAt s) w p.topic x (halted s.per_ledger b k p.plan) (shape_within s w p shape)
    (λ here. making_halted (site s p.topic x) b k p.plan (shape_building s w p shape h.0.0.0.1) (h.0.0.1 p.topic x here).numbered (asked p.topic x here).making) asked

-- what is asked after each single durable write of an event
abbrev pub AskedNow : Setup → World → Type 0
AskedNow s w = Everywhere s (MakingAt s) w

pub asked_now : (s : Setup) (w : World) → Asked s w → AskedNow s w
asked_now s w asked t x there = (asked t x there).making

pub asked_written : (s : Setup) (w : World) (k : ℕ) (p : Planned) → Shape s w p → Standing s w → Asked s w → AskedNow s (partly_written s w k (Some p))
asked_written s w k p shape h asked =
    let b = topic_at s w p.topic p.cluster in let x = p.cluster in
    one_node s (MakingAt s) w p.topic x (all_written s.per_ledger b (take k p.plan.writes)) (shape_within s w p shape)
    (λ here. making_written (site s p.topic x) b k p.plan (shape_building s w p shape h.0.0.0.1) (h.0.0.1 p.topic x here).numbered (asked p.topic x here).making)
    (asked_now s w asked)

asked_client : (s : Setup) (w : World) (c : ℕ) (k : Option LinkName) (a : Acted) → Asked s w → Asked s (client_does s w c k a)
unfolding client_does
asked_client s w c k a asked = on_if (Asked s) a.idle _ _ asked asked

asked_stops : (s : Setup) → Named s → (w : World) → IsShort w → Standing s w → Asked s w → Asked s (stops s w)
unfolding stops restart
asked_stops s names w short h asked t x there =
    let b = topic_at s w t x in
    subst (MakesAt s x) (sym (stopped_at w.brokers (λ c. done s.per_ledger c restart) (node s t x) (node_there s w t x h.0.0.0.0.sized there)))
    (making_done (site s t x) b restart (Building.Ends restart (tt, tt) refl (tt, tt)) there.1 (h.0.0.1 t x there).numbered (telling s names w short h t x there) (asked t x there))

asked_opening : (s : Setup) → Asked s (opening_world s)
asked_opening s t x there =
    let n = length s.clusters in
    subst (MakesAt s x) (sym (get_or-replicate (length s.topics * n) (node s t x) (new_broker n (length s.clients)) no_broker (node_lt s t x there)))
    (record {
      making = record { forms = λ k id r. absurd (none-some r.entry r.at); made = λ u is. absurd (none-some u is) };
      not_yet = λ u is. absurd (none-some u is);
    })

pub asked_kept : (s : Setup) → Named s → KeptShort s (Standing s) (Asked s)
asked_kept s names = record {
  opening = asked_opening s;
  idle = λ w n h asked. asked;
  round = λ w n h asked. asked;
  does = λ w p shape short h h' asked. asked_does s names w p shape short h asked;
  halts = λ w k p shape short h h' asked. asked_halts s w k p shape h asked;
  goes = λ w c a short h h' asked. asked_client s w c None a asked;
  gets = λ w c x a short h h' asked. asked_client s w c (Some (ToClient c x)) a asked;
  stop = λ w short h h' asked. asked_stops s names w short h asked;
}

-- all of it, in every world
abbrev pub Knowing : Setup → World → Type 0
Knowing s = Both (Standing s) (WhileShort (Asked s))

pub knowing_kept : (s : Setup) → Named s → IsKept s (Knowing s)
knowing_kept s names = both_kept s (Standing s) (WhileShort (Asked s)) (standing_kept s) (short_kept s (Standing s) (Asked s) (asked_kept s names))
