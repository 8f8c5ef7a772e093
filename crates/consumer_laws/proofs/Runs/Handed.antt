-- What holds in a world to which a run comes: each message of a cursor is handed out, and where one consumer at a time is served a get
-- takes no message before those that stand before it. So it is in every run, at every moment.
use Rattle.std.proofs.Common.{ℕ, List, refl, subst}
use Rattle.std.specs.Prelude.{Option, Some, None, take}
use Rattle.world_laws.proofs.Types.{Entry, Event, Step}
use Rattle.geo_base.specs.Broker.{Broker}
use Rattle.geo_base.specs.Client.{Client}
use Rattle.geo_base.specs.Laws.{IsShort}
use Rattle.geo_base.specs.Link.{Link}
use Rattle.geo_base.specs.Moments.{Settling, partly_written, world_between}
use Rattle.geo_base.specs.Planned.{Planned, planned}
use Rattle.geo_base.specs.Run.{Limits}
use Rattle.geo_base.specs.Settled.{IsSettled, SettledSoFar}
use Rattle.geo_base.specs.Setup.{Declared, Setup, declared_at}
use Rattle.geo_base.specs.World.{ToClient, World, client_at, link_at, topic_at}
use Rattle.world_laws.proofs.Snapshotting.Asked.{Named, named}
use Rattle.world_laws.proofs.Walks.EventWalk.{HasShape, planned_shape}
use Rattle.world_laws.proofs.Telling.OnlyTold.{first_included}
use Rattle.world_laws.proofs.Snapshotting.SecondRound.{knows_now, knows_written}
use Rattle.world_laws.specs.Telling.{AlwaysTold, BetweenTold, told_under}
use Rattle.geo_base.specs.Scripted.{IsScripted}
use Rattle.world_laws.proofs.Telling.TellingRuns.{IsKeptTelling, after_writes, always_told, between, between_told}
use Rattle.world_laws.proofs.Telling.ToldRuns.{TellsSome}
use Rattle.world_laws.proofs.Telling.ToldLaws.{only_settled}
use Rattle.world_laws.proofs.Telling.ToldWorlds.{told_written}
use Rattle.consumer_laws.specs.Handed.{OnlyHanded, handed_behind, handing}
use Rattle.consumer_laws.specs.InOrder.{FirstInOrder, GetsInOrder}
use Rattle.consumer_laws.proofs.Runs.FirstReceipts.{earlier_before}
use Rattle.consumer_laws.proofs.Clients.Getting.{came_told}
use Rattle.consumer_laws.proofs.Runs.Events.{HandedOver, behind_tells, event_handed, halt_handed, hands_none, idle_handed, more_handed, opening_handed, round_handed, stop_handed}
use Rattle.consumer_laws.proofs.Worlds.Facts.{DownFact, LinkFact, Passed, Sent}
use Rattle.world_laws.proofs.Clients.ClientLinks.{SentDown}

handed_kept : (s : Setup) → Named s → IsKeptTelling (handing s) s (HandedOver s)
handed_kept s names = record {
  more = λ told more w inc h. more_handed s names told more w inc h;
  event = λ told w e h. event_handed s names told w e h;
  halts = λ told w m e h. halt_handed s names told w m e h;
  stop = λ told w h. stop_handed s names told w h;
  idle = λ told w n h. idle_handed s names told w n h;
  round = λ told w n h. round_handed s names told w n h;
  quiet = hands_none s;
}

pub handed_between : (l : Limits) (s : Setup) → Named s → (es : List Step) (at : Settling) → HandedOver s (told_under (handing s) l s es) (world_between l s es at)
handed_between l s names es at = between (handing s) l s (HandedOver s) (handed_kept s names) (opening_handed s names) es at

-- ---- what holds in such a world

pub only_handed : (s : Setup) (told : SettledSoFar) (w : World) → HandedOver s told w → IsShort w → OnlyHanded s w told
only_handed s told w p short = only_settled s w told (knows_now s w p.told_over.0.0 short) (p.told_over.1 short)

in_order : (s : Setup) (told : SettledSoFar) (w : World) → HandedOver s told w → IsShort w → GetsInOrder s w told
in_order s told w p short c n kind e topic cluster one g = record {
  index = sent.index;
  stands = sent.stands;
  before = λ j f lt at message. old f (sent.order n kind g.line one j f lt at message);
}
  where
    t : ℕ
    t = (declared_at s c).topic

    x : ℕ
    x = (client_at s w c).cluster

    d : Declared
    d = declared_at s c

    k : Client
    k = client_at s w c

    b : Broker
    b = topic_at s w t x

    l : Link
    l = link_at w.links (ToClient c x)

    link : LinkFact told t x b d k (SentDown w.links c x) l
    link = (p.hands short).down c x (topic, cluster)

    sent : Sent told t x b d k.done (take l.taken l.sent) g.packet.session g.id g.position g.source e
    sent = subst (DownFact told t x b d k.done (take l.taken l.sent) g.packet.session) g.is (link.after l.taken g.packet g.next)

    old : (f : Entry) → Passed told t n (take l.taken l.sent) g.packet.session g.id f → IsSettled told t n f
    old f (Passed.IsHanded h) = h
    old f (Passed.Earlier a) = came_told told t d k (take l.taken l.sent) g.packet.session g.id n kind f g.current g.sub g.line (link.taken refl g.connected) a

first_order : (s : Setup) (told : SettledSoFar) (w : World) → HandedOver s told w → IsShort w → FirstInOrder s w told
first_order s told w p short c n kind e topic cluster one g i f at message stream lt how =
    let t = (declared_at s c).topic in let x = (client_at s w c).cluster in
    let next = in_order s told w p short c n kind e topic cluster one g in
    let m = earlier_before s w t x i next.index f e (knows_now s w p.told_over.0.0 short) (topic, cluster) next.stands at stream lt how in
    next.before m.0 f m.1 m.2 message

-- and in the midst of an event's writes
partly_handed : (s : Setup) → Named s → (told : SettledSoFar) (w : World) (m : ℕ) (e : Event) → HandedOver s told w → IsShort (partly_written s w m (planned s w e))
    → OnlyHanded s (partly_written s w m (planned s w e)) (after_writes (handing s) told w m e)
partly_handed s names told w m e p = by (planned s w e) (planned_shape s w e) (behind_tells s told w m e p)
  where
    now : SettledSoFar
    now = after_writes (handing s) told w m e

    p' : HandedOver s now w
    p' = more_handed s names told now w (first_included told (λ t n. handed_behind m s w t n e)) p

    by : (o : Option Planned) → HasShape s w o → TellsSome s w now m o → IsShort (partly_written s w m o) → OnlyHanded s (partly_written s w m o) now
    by None shape tells short = only_handed s now w p' short
    by (Some q) shape tells short =
        only_settled s (partly_written s w m (Some q)) now (knows_written s w m q shape p'.told_over.0.0 short) (told_written s now w m q shape tells p'.told_over short)

-- ---- so it is in every run

abbrev pub HandedWhileShort : Setup → World → SettledSoFar → Type 0
HandedWhileShort s w handed = IsShort w → OnlyHanded s w handed

abbrev pub InOrderWhileShort : Setup → World → SettledSoFar → Type 0
InOrderWhileShort s w handed = IsShort w → GetsInOrder s w handed

abbrev pub FirstWhileShort : Setup → World → SettledSoFar → Type 0
FirstWhileShort s w handed = IsShort w → FirstInOrder s w handed

pub handed_always : (s : Setup) → IsScripted s → AlwaysTold (handing s) s (HandedWhileShort s)
handed_always s scripted =
    let names = named s scripted in
    always_told (handing s) s (HandedOver s) (HandedWhileShort s) (handed_kept s names) (opening_handed s names) (λ told w h short. only_handed s told w h short)
    (λ told w m e h short. partly_handed s names told w m e h short)

pub order_between : (s : Setup) → IsScripted s → BetweenTold (handing s) s (InOrderWhileShort s)
order_between s scripted =
    let names = named s scripted in
    between_told (handing s) s (HandedOver s) (InOrderWhileShort s) (handed_kept s names) (opening_handed s names) (λ told w h short. in_order s told w h short)

pub first_between : (s : Setup) → IsScripted s → BetweenTold (handing s) s (FirstWhileShort s)
first_between s scripted =
    let names = named s scripted in
    between_told (handing s) s (HandedOver s) (FirstWhileShort s) (handed_kept s names) (opening_handed s names) (λ told w h short. first_order s told w h short)
