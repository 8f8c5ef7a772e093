-- Each event, and each stop in the midst of one, keeps what is known of cursors, links and clients, with what it hands out.
use Rattle.std.proofs.Common.{◌≡◌, ℕ, ◌+◌, true, List, [], ◌++◌, refl, sym, subst, ◌==◌}
use Rattle.std.specs.Prelude.{Option, Some, None}
use Rattle.std.specs.List.{list_any}
use Rattle.std.proofs.lemmas.Bool.{eq-eqb}
use Rattle.std.proofs.lemmas.List.{append_assoc}
use Rattle.world_laws.proofs.Types.{Event, Ident}
use Rattle.world_laws.proofs.Types.event
use Rattle.geo_base.specs.Client.{reconnect}
use Rattle.geo_base.specs.Entry.{same_ident}
use Rattle.geo_base.specs.Going.{go}
use Rattle.geo_base.specs.Happening.{client_acted, does_planned, happens, halts_planned, stops}
use Rattle.geo_base.specs.Laws.{IsShort}
use Rattle.geo_base.specs.Link.{next_packet}
use Rattle.geo_base.specs.Planned.{Planned, has_client, planned}
use Rattle.geo_base.specs.Settled.{SettledSoFar, settled_event}
use Rattle.geo_base.specs.Setup.{Setup, declared_at}
use Rattle.geo_base.specs.World.{ToClient, World, client_at, link_at, opening_world, topic_at}
use Rattle.world_laws.proofs.Snapshotting.Asked.{Named}
use Rattle.world_laws.proofs.Walks.EventWalk.{HasShape, planned_shape}
use Rattle.world_laws.proofs.Dispatching.Keeping.{Remembering, remembering_kept}
use Rattle.world_laws.proofs.Telling.OnlyTold.{first_included}
use Rattle.world_laws.proofs.Dispatching.Remembers.{any_left, any_right}
use Rattle.world_laws.proofs.Induction.Runs.{event_done}
use Rattle.world_laws.proofs.Induction.Short.{client_short, does_short, halts_short, stops_short}
use Rattle.world_laws.proofs.Replicating.Sizes.{IsThere}
use Rattle.world_laws.proofs.Telling.Told.{Includes, IsToldKept, TellsAll, ToldOver, nothing_told, told_now}
use Rattle.world_laws.proofs.Telling.ToldLaws.{told_kept}
use Rattle.world_laws.proofs.Walks.Walk.{on_test, on_true}
use Rattle.world_laws.proofs.Telling.TellingRuns.{IsOfSettling, after_event, after_writes}
use Rattle.world_laws.proofs.Telling.ToldRuns.{TellsSome, event_kept, some_told}
use Rattle.consumer_laws.specs.Handed.{handing, got_by, got_event, handed_behind, handed_event, skipped_event}
use Rattle.world_laws.proofs.Clients.ClientSends.{go_out, reconnect_out}
use Rattle.consumer_laws.proofs.Clients.Going.{go_leaves, reconnect_leaves}
use Rattle.consumer_laws.proofs.Clients.Getting.{TellsGet}
use Rattle.consumer_laws.proofs.Worlds.ClientEvents.{hands_gets, hands_goes, hands_idle, hands_round}
use Rattle.consumer_laws.proofs.Worlds.Acting.{hands_more}
use Rattle.consumer_laws.proofs.Worlds.BrokerEvents.{Around, hands_does}
use Rattle.consumer_laws.proofs.Worlds.Stops.{hands_halts, hands_opening, hands_stops}
use Rattle.consumer_laws.proofs.Runs.Acks.{Skipping, all_more, handed_tells}
use Rattle.consumer_laws.proofs.Worlds.Facts.{Hands}
use Rattle.world_laws.proofs.Clients.Meeting.{idle_meets}

-- ---- what a run keeps

pub record HandedOver (s : Setup) (told : SettledSoFar) (w : World) : Type 0 where
  pub told_over : ToldOver s told w
  pub hands : IsShort w → Hands s told w
  pub remembers : Remembering w

pub around : (s : Setup) (told more : SettledSoFar) (w : World) → Includes told more → ToldOver s more w → HandedOver s told w → IsShort w → Around s more w
around s told more w inc over h short = record { hands = hands_more s told more w inc (h.hands short); now = told_now s more w over short; remembers = h.remembers }

skipping_after : (s : Setup) (told : SettledSoFar) (w : World) (e : Event) → Includes (Skipping s told w e) (after_event (handing s) told w e)
skipping_after s told w e t n x h =
    let R : List Ident → Type 0 = λ l. list_any (same_ident x.ident) l ≡ true in
    subst R (append_assoc (told t n) (skipped_event s w t n e) (got_event s w t n e)) (any_left (same_ident x.ident) (told t n ++ skipped_event s w t n e) (got_event s w t n e) h)

-- ---- events: links and clients

planned_hands : (s : Setup) (told : SettledSoFar) (w : World) (o : Option Planned) → HasShape s w o → (IsShort w → Around s told w) → IsShort (does_planned s w o) → Hands s told (does_planned s w o)
planned_hands s told w None shape a short = let h = (a short).hands in hands_idle s told w (w.idle + 1) (λ c. idle_meets s c w (w.idle + 1) (h.meets c)) h
planned_hands s told w (Some p) shape a short = hands_does s told w p shape (a (does_short s w p short))

tells_get : (s : Setup) (told : SettledSoFar) (w : World) (c : ℕ) → let d = declared_at s c in let k = client_at s w c in
    TellsGet told (after_event (handing s) told w (event.Get c)) d.topic d k (next_packet (link_at w.links (ToClient c k.cluster)))
tells_get s told w c = record {
  includes = first_included told (λ t n. handed_event s w t n (event.Get c));
  got = λ n e h.
      let d = declared_at s c in let k = client_at s w c in let t = d.topic in
      let new : List Ident = got_by d k (next_packet (link_at w.links (ToClient c k.cluster))) n in
      any_right (same_ident e.ident) (told t n) (skipped_event s w t n (event.Get c) ++ got_event s w t n (event.Get c))
      (any_right (same_ident e.ident) (skipped_event s w t n (event.Get c)) (got_event s w t n (event.Get c))
      (subst (λ (l : List Ident). list_any (same_ident e.ident) l ≡ true) (sym (on_true (t == t) new [] (eq-eqb t t refl))) h));
}

event_hands : (s : Setup) (told : SettledSoFar) (w : World) (e : Event) → (IsShort w → Hands s told w) → (IsShort w → Around s (after_event (handing s) told w e) w) → IsShort (happens s w e)
    → Hands s (after_event (handing s) told w e) (happens s w e)
unfolding happens
event_hands s told w (event.Go c) h a =
    let d = declared_at s c in let k = client_at s w c in let more = after_event (handing s) told w (event.Go c) in
    on_test (λ (w' : World). IsShort w' → Hands s more w') (has_client s c) _ _
    (λ has short.
    let now = (a (client_short s w c None (go s d k) short)).hands in
    hands_goes s more w c (go s d k) has (go_out s d k)
    (go_leaves more d.topic (λ y. topic_at s w d.topic y) (λ y. IsThere s d.topic y) s d k (now.client c).sub (now.client c).all (now.client c).held) now)
    (λ none short. let now = (a short).hands in hands_idle s more w (w.idle + 1) (λ z. idle_meets s z w (w.idle + 1) (now.meets z)) now)
event_hands s told w (event.Reconnect c) h a =
    let d = declared_at s c in let k = client_at s w c in let more = after_event (handing s) told w (event.Reconnect c) in
    on_test (λ (w' : World). IsShort w' → Hands s more w') (has_client s c) _ _
    (λ has short.
    let now = (a (client_short s w c None (reconnect s d k) short)).hands in
    hands_goes s more w c (reconnect s d k) has (reconnect_out s d k)
    (reconnect_leaves more d.topic (λ y. topic_at s w d.topic y) (λ y. IsThere s d.topic y) s d k (now.client c).sub (now.client c).all) now)
    (λ none short. let now = (a short).hands in hands_idle s more w (w.idle + 1) (λ z. idle_meets s z w (w.idle + 1) (now.meets z)) now)
event_hands s told w (event.Get c) h a =
    let d = declared_at s c in let k = client_at s w c in let more = after_event (handing s) told w (event.Get c) in
    let l = ToClient c k.cluster in let o = next_packet (link_at w.links l) in
    on_test (λ (w' : World). IsShort w' → Hands s more w') (has_client s c) _ _
    (λ has short. hands_gets s told more w c o has refl (tells_get s told w c) (h (client_short s w c (Some l) (client_acted s k (event.Get c) o) short)))
    (λ none short. let now = (a short).hands in hands_idle s more w (w.idle + 1) (λ z. idle_meets s z w (w.idle + 1) (now.meets z)) now)
event_hands s told w e h a = planned_hands s (after_event (handing s) told w e) w (planned s w e) (planned_shape s w e) a

-- ---- an event

pub event_handed : (s : Setup) → Named s → (told : SettledSoFar) (w : World) (e : Event) → HandedOver s told w → HandedOver s (after_event (handing s) told w e) (happens s w e)
event_handed s names told w e h = record {
  told_over = event_kept s (ToldOver s) k more w e tells over;
  hands = event_hands s told w e h.hands (λ short. around s told more w inc over h short);
  remembers = event_done s Remembering (remembering_kept s) w e h.remembers;
}
  where
    k : IsToldKept s (ToldOver s)
    k = told_kept s names

    more : SettledSoFar
    more = after_event (handing s) told w e

    inc : Includes told more
    inc = first_included told (λ t n. handed_event s w t n e)

    over : ToldOver s more w
    over = k.more told more w inc h.told_over

    tells : TellsAll s w more (planned s w e)
    tells = all_more s w (Skipping s told w e) more (planned s w e) (λ short p is there. skipping_after s told w e) (handed_tells s told w e h.told_over h.hands)

-- ---- a stop inside it

pub behind_tells : (s : Setup) (told : SettledSoFar) (w : World) (m : ℕ) (e : Event) → HandedOver s told w → TellsSome s w (after_writes (handing s) told w m e) m (planned s w e)
behind_tells s told w m e h = some_told s w told (λ t n. skipped_event s w t n e) m (planned s w e) (handed_tells s told w e h.told_over h.hands)

halted_over : (s : Setup) (k : IsToldKept s (ToldOver s)) (told : SettledSoFar) (w : World) (m : ℕ) (o : Option Planned) → HasShape s w o → TellsSome s w told m o → ToldOver s told w
    → (IsShort w → Around s told w) → Remembering w → HandedOver s told (halts_planned s w m o)
halted_over s k told w m None shape tells over a r = record {
  told_over = k.idle told w (w.idle + 1) over;
  hands = λ short. let h = (a short).hands in hands_idle s told w (w.idle + 1) (λ c. idle_meets s c w (w.idle + 1) (h.meets c)) h;
  remembers = (remembering_kept s).idle w (w.idle + 1) r;
}
halted_over s k told w m (Some p) shape tells over a r = record {
  told_over = k.halts told w m p shape tells over;
  hands = λ short. hands_halts s told w m p shape (a (halts_short s w m p short));
  remembers = (remembering_kept s).halts w m p shape r;
}

pub halt_handed : (s : Setup) → Named s → (told : SettledSoFar) (w : World) (m : ℕ) (e : Event) → HandedOver s told w → HandedOver s (after_writes (handing s) told w m e) (halts_planned s w m (planned s w e))
halt_handed s names told w m e h =
    let k = told_kept s names in let more = after_writes (handing s) told w m e in let inc = first_included told (λ t n. handed_behind m s w t n e) in let over = k.more told more w inc h.told_over in
    halted_over s k more w m (planned s w e) (planned_shape s w e) (behind_tells s told w m e h) over (λ short. around s told more w inc over h short) h.remembers

-- ---- a stop of everything, counts, more that is told

pub stop_handed : (s : Setup) → Named s → (told : SettledSoFar) (w : World) → HandedOver s told w → HandedOver s told (stops s w)
stop_handed s names told w h = record {
  told_over = (told_kept s names).stop told w h.told_over;
  hands = λ short. hands_stops s told w h.told_over.0.0.0.0.0.0.0.sized (around s told told w (λ t n e g. g) h.told_over h (stops_short s w short));
  remembers = (remembering_kept s).stop w h.remembers;
}

pub idle_handed : (s : Setup) → Named s → (told : SettledSoFar) (w : World) (n : ℕ) → HandedOver s told w → HandedOver s told (record w { idle = n })
idle_handed s names told w n h = record {
  told_over = (told_kept s names).idle told w n h.told_over;
  hands = λ short. let g = h.hands short in hands_idle s told w n (λ c. idle_meets s c w n (g.meets c)) g;
  remembers = (remembering_kept s).idle w n h.remembers;
}

pub round_handed : (s : Setup) → Named s → (told : SettledSoFar) (w : World) (n : ℕ) → HandedOver s told w → HandedOver s told (record w { rounds = n })
round_handed s names told w n h = record {
  told_over = (told_kept s names).round told w n h.told_over;
  hands = λ short. hands_round s told w n (h.hands short);
  remembers = (remembering_kept s).round w n h.remembers;
}

pub more_handed : (s : Setup) → Named s → (told more : SettledSoFar) (w : World) → Includes told more → HandedOver s told w → HandedOver s more w
more_handed s names told more w inc h = record {
  told_over = (told_kept s names).more told more w inc h.told_over;
  hands = λ short. hands_more s told more w inc (h.hands short);
  remembers = h.remembers;
}

pub opening_handed : (s : Setup) → Named s → HandedOver s nothing_told (opening_world s)
opening_handed s names = record { told_over = (told_kept s names).opening; hands = λ short. hands_opening s nothing_told; remembers = (remembering_kept s).opening }

-- settling hands out nothing
pub hands_none : (s : Setup) (w : World) (t : ℕ) (n : List ℕ) (e : Event) → IsOfSettling e → handed_event s w t n e ≡ []
unfolding settled_event
hands_none s w t n (event.Reset u x y) h = refl
hands_none s w t n (event.Take u x y f) h = refl
hands_none s w t n (event.Receipt u x y f) h = refl
hands_none s w t n (event.Read u x y) h = refl
hands_none s w t n e h = absurd h
