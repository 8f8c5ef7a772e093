-- The law, of a run that goes on from a world that is alike to the one to which other steps came: what it says is the same of worlds that
-- are alike.
use Rattle.std.proofs.Common.{◌≡◌, ℕ, ◌^◌, ◌<◌, List, ◌++◌, refl, sym, ap, subst, ◌∙◌}
use Rattle.std.specs.Prelude.{Option, Some, None, take}
use Rattle.std.specs.Option.{option_map}
use Rattle.std.proofs.lemmas.Option.{none-some, same_Some}
use Rattle.world_laws.proofs.Types.{Entry, Packet, Step, SubKind}
use Rattle.geo_base.specs.Broker.{Broker}
use Rattle.geo_base.specs.Client.{Client}
use Rattle.geo_base.specs.Laws.{IsShort}
use Rattle.geo_base.specs.Link.{next_packet}
use Rattle.geo_base.specs.Moments.{Settling, world_between}
use Rattle.geo_base.specs.Run.{no_limits, run}
use Rattle.geo_base.specs.Settled.{SettledSoFar}
use Rattle.geo_base.specs.Setup.{Setup}
use Rattle.geo_base.specs.World.{ToClient, World, client_at, link_at}
use Rattle.world_laws.specs.AlikeWorlds.{AreAlike, without_stamp, world_on}
use Rattle.world_laws.proofs.KeptRuns.AlikeLinks.{next_alike}
use Rattle.world_laws.proofs.KeptRuns.ResumedRuns.{always_told_on, between_alike, between_told_on}
use Rattle.world_laws.proofs.Snapshotting.Asked.{named}
use Rattle.consumer_laws.specs.Got.{OnlyGot}
use Rattle.consumer_laws.specs.Handed.{OnlyHanded, handing}
use Rattle.consumer_laws.specs.InOrder.{FirstInOrder, GetsInOrder, GetsNext}
use Rattle.consumer_laws.specs.Laws.{LawStillHanded}
use Rattle.consumer_laws.proofs.Runs.Got.{all_got}
use Rattle.consumer_laws.proofs.Runs.Handed.{FirstWhileShort, HandedWhileShort, InOrderWhileShort, first_between, handed_always, order_between}

short_back : (v w : World) → AreAlike v w → IsShort w → IsShort v
short_back v w h short = subst (λ (n : ℕ). n < 2 ^ 62) (sym h.events) short

same_handed : (s : Setup) (v w : World) (told : SettledSoFar) → AreAlike v w → HandedWhileShort s v told → HandedWhileShort s w told
same_handed s v w told h only short = subst (λ (bs : List Broker). OnlyHanded s (record v { brokers = bs }) told) h.brokers (only (short_back v w h short))

-- ---- the next packet, but for its stamp

record Alike (o : Option Packet) (p : Packet) : Type 0 where
  packet : Packet
  is : o ≡ Some packet
  same : without_stamp packet ≡ without_stamp p

alike_packet : (o : Option Packet) (p : Packet) → option_map without_stamp o ≡ Some (without_stamp p) → Alike o p
alike_packet None p h = absurd (none-some (without_stamp p) h)
alike_packet (Some q) p h = record { packet = q; is = refl; same = same_Some (without_stamp q) (without_stamp p) h }

gets_back : (s : Setup) (v w : World) (c : ℕ) (n : List ℕ) (kind : SubKind) (e : Entry) → AreAlike v w → GetsNext s w c n kind e
    → GetsNext s (record v { brokers = w.brokers; clients = w.clients }) c n kind e
gets_back s v w c n kind e h g = record {
  packet = a.packet;
  next = a.is;
  current = ap (λ (p : Packet). p.session) a.same ∙ g.current;
  connected = g.connected;
  id = g.id;
  position = g.position;
  source = g.source;
  is = ap (λ (p : Packet). p.frame) a.same ∙ g.is;
  sub = g.sub;
  line = g.line;
}
  where
    a : Alike (next_packet (link_at v.links (ToClient c (client_at s w c).cluster))) g.packet
    a = alike_packet _ g.packet (next_alike v.links w.links h.links (ToClient c (client_at s w c).cluster) ∙ ap (λ (o : Option Packet). option_map without_stamp o) g.next)

-- what holds of a world holds of it with the brokers and clients of one that is alike
of_nodes : (v w : World) (P : World → Type 0) → AreAlike v w → P v → P (record v { brokers = w.brokers; clients = w.clients })
of_nodes v w P h p =
    subst (λ (ks : List Client). P (record v { brokers = w.brokers; clients = ks })) h.clients (subst (λ (bs : List Broker). P (record v { brokers = bs; clients = v.clients })) h.brokers p)

same_order : (s : Setup) (v w : World) (told : SettledSoFar) → AreAlike v w → InOrderWhileShort s v told → InOrderWhileShort s w told
same_order s v w told h order short c n kind e topic cluster one g =
    let there = of_nodes v w (λ u. GetsInOrder s u told) h (order (short_back v w h short)) in
    let next = there c n kind e topic cluster one (gets_back s v w c n kind e h g) in
    record { index = next.index; stands = next.stands; before = next.before }

same_first : (s : Setup) (v w : World) (told : SettledSoFar) → AreAlike v w → FirstWhileShort s v told → FirstWhileShort s w told
same_first s v w told h first short c n kind e topic cluster one g i f at message stream lt how =
    of_nodes v w (λ u. FirstInOrder s u told) h (first (short_back v w h short)) c n kind e topic cluster one (gets_back s v w c n kind e h g) i f at message stream lt how

same_got : (s : Setup) (v w : World) → AreAlike v w → OnlyGot s v → OnlyGot s w
same_got s v w h got t x sub small stands i inside =
    let o = of_nodes v w (OnlyGot s) h got t x sub small stands i inside in
    (o.0, o.1, λ message. let g = o.2 message in record { client = g.client; topic = g.topic; line = g.line; names = g.names; got = g.got })

still_got : (s : Setup) → (v : World) (before es : List Step) → AreAlike (run s before) v → (k : ℕ) (at : Settling)
    → (IsShort (world_between no_limits s (before ++ take k es) at) → OnlyGot s (world_between no_limits s (before ++ take k es) at))
    → IsShort (world_on s v (take k es) at) → OnlyGot s (world_on s v (take k es) at)
still_got s v before es h k at law short =
    let alike = between_alike s v before (take k es) at h in
    same_got s (world_between no_limits s (before ++ take k es) at) (world_on s v (take k es) at) alike
    (law (short_back (world_between no_limits s (before ++ take k es) at) (world_on s v (take k es) at) alike short))

pub still_holds : LawStillHanded
still_holds = record {
  handed = λ s scripted v before es h. always_told_on (handing s) s (HandedWhileShort s) (same_handed s) (handed_always s scripted) v before es h;
  in_order = λ s scripted v before es h. between_told_on (handing s) s (InOrderWhileShort s) (same_order s) (order_between s scripted) v before es h;
  first = λ s scripted v before es h. between_told_on (handing s) s (FirstWhileShort s) (same_first s) (first_between s scripted) v before es h;
  got = λ s scripted all v before es h k at none short.
      still_got s v before es h k at (λ short. all_got s (named s scripted) all no_limits (before ++ take k es) at none short) short;
}
