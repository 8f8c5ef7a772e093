-- What it says at every moment: nothing is invented, and receipts, messages and what was got hold.
use Rattle.std.proofs.Common.{◌≡◌, ℕ, ◌*◌, ◌<◌, Bool, true, false, length, refl, sym, subst, ◌∙◌, ◌==◌}
use Rattle.std.specs.Prelude.{Some}
use Rattle.std.proofs.lemmas.Bool.{eq-eqb, eqb-false, eqb-true}
use Rattle.std.proofs.lemmas.List.{length-set}
use Rattle.world_laws.proofs.Types.{Packet}
use Rattle.geo_base.specs.Laws.{IsPrefix}
use Rattle.geo_base.specs.Moments.{partly_written}
use Rattle.geo_base.specs.Planned.{Planned}
use Rattle.geo_base.specs.Safe.{IsEntry}
use Rattle.geo_base.specs.Scripted.{IsScripted}
use Rattle.geo_base.specs.Setup.{Setup, declared_at}
use Rattle.geo_base.specs.World.{World, client_at, node, topic_at}
use Rattle.world_laws.specs.Publishing.{GotStands, IsChain, IsPublished, LawPublished, MessagesHold, NothingInvented, ReceiptsHold}
use Rattle.world_laws.proofs.Clients.ClientLinks.{Packets, SentDown}
use Rattle.world_laws.proofs.Dispatching.SubFrames.{each_at_place}
use Rattle.world_laws.proofs.FrameContents.Carrying.{entry_there}
use Rattle.world_laws.proofs.Induction.Layers.{Everywhere, durable_written}
use Rattle.world_laws.proofs.Induction.Runs.{always_by_events}
use Rattle.world_laws.proofs.Published.BrokerEvents.{OwnEverywhere, own_written}
use Rattle.world_laws.proofs.Published.Chained.{Chained, GotThere, all_got_longer, there_of}
use Rattle.world_laws.proofs.Published.ClientPackets.{Told, packets_longer}
use Rattle.world_laws.proofs.Published.OwnMessages.{OwnPublished}
use Rattle.world_laws.proofs.Published.PublishedRuns.{chained_kept}
use Rattle.world_laws.proofs.Replicating.Effects.{Each}
use Rattle.world_laws.proofs.Replicating.Pairs.{replicates_laws, written_laws}
use Rattle.world_laws.proofs.Replicating.Sizes.{IsThere}
use Rattle.world_laws.proofs.Snapshotting.Answering.{AnswersAt, answering_durable}
use Rattle.world_laws.proofs.Snapshotting.Grows.{grown_written}
use Rattle.world_laws.proofs.TopicOrder.Order.{of_source}
use Rattle.world_laws.proofs.Walks.Shapes.{Shape}

-- ---- what it says

pub record Shows (s : Setup) (w : World) : Type 0 where
  size : length w.brokers ≡ length s.topics * length s.clusters
  answers : Everywhere s (AnswersAt s) w
  prefix : IsPrefix s w
  own : OwnEverywhere s w
  down : (c x : ℕ) → IsThere s (declared_at s c).topic x → Packets (Told (declared_at s c) x (topic_at s w (declared_at s c).topic x)) (SentDown w.links c x)
  got : (c : ℕ) → c < length s.clients → Each (GotThere s w (declared_at s c).topic) (client_at s w c).got

pub shows : (s : Setup) (w : World) → Chained s w → Shows s w
shows s w h = record {
  size = h.ground.0.0.sized.brokers;
  answers = h.ground.1;
  prefix = (replicates_laws s w h.ground.0.0).0;
  own = h.own;
  down = λ c x there. (h.clients c).down x there;
  got = λ c lt. (h.clients c).got lt;
}

-- after each single durable write
pub shows_written : (s : Setup) (w : World) (n : ℕ) (p : Planned) → IsScripted s → Shape s w p → Chained s w → Shows s (partly_written s w n (Some p))
shows_written s w n p scripted shape h =
    let w' = partly_written s w n (Some p) in let grown = grown_written s w n p shape h.ground.1 in
    record {
      size = length-set w.brokers (node s p.topic p.cluster) _ ∙ h.ground.0.0.sized.brokers;
      answers = durable_written s (AnswersAt s) (answering_durable s) w n p shape h.ground.0.1 h.ground.1;
      prefix = (written_laws s w n p shape h.ground.0.0).0;
      own = own_written s w n p shape h;
      down = λ c x there. let d = declared_at s c in
          packets_longer d x (topic_at s w d.topic x) (topic_at s w' d.topic x) (SentDown w.links c x) (grown d.topic x there) ((h.clients c).down x there);
      got = λ c lt. all_got_longer s w w' c (client_at s w c).got scripted lt grown ((h.clients c).got lt);
    }

invented_not : (s : Setup) (w : World) → Shows s w → NothingInvented s w
invented_not s w h t x i e small at message = by (x == e.ident.origin) refl
  where
    there : IsThere s t x
    there = entry_there s w t x i e h.size small at

    z : ℕ
    z = e.ident.origin

    within : z < length s.clusters
    within = (h.answers t x there).origins i e at

    -- an entry of z that stands at z
    own : (k : ℕ) → IsEntry (topic_at s w t z) k e → IsPublished s t z e
    own k stands = each_at_place (OwnPublished s t z) (topic_at s w t z).entries k e (h.own t z (there.0, within)) stands refl message

    by : (b : Bool) → (x == z) ≡ b → IsPublished s t z e
    by true is = own i (subst (λ (n : ℕ). IsEntry (topic_at s w t n) i e) (eqb-true x z is) at)
    by false is =
        let r = of_source z x (topic_at s w t z).entries (topic_at s w t x).entries (h.prefix t z x (within, small, (λ same. eqb-false x z is (sym same)))) i e at (eq-eqb z z refl) in
        own r.place r.is

receipts_hold : (s : Setup) (w : World) → IsScripted s → Shows s w → ReceiptsHold s w
receipts_hold s w scripted h c x i p id seq o lt small at is =
    let d = declared_at s c in let b = topic_at s w d.topic x in
    (subst (Told d x b p.session) is (each_at_place (λ (q : Packet). Told d x b q.session q.frame) (SentDown w.links c x) i p (h.down c x (there_of s scripted c x lt small)) at)).0

messages_hold : (s : Setup) (w : World) → IsScripted s → Shows s w → MessagesHold s w
messages_hold s w scripted h c x i q id p source e lt small at is =
    let d = declared_at s c in let b = topic_at s w d.topic x in
    (subst (Told d x b q.session) is (each_at_place (λ (r : Packet). Told d x b r.session r.frame) (SentDown w.links c x) i q (h.down c x (there_of s scripted c x lt small)) at)).1

got_stands : (s : Setup) (w : World) → Shows s w → GotStands s w
got_stands s w h c i g lt at = each_at_place (GotThere s w (declared_at s c).topic) (client_at s w c).got i g (h.got c lt) at

chain_of : (s : Setup) (w : World) → IsScripted s → Shows s w → IsChain s w
chain_of s w scripted h = record { invented = invented_not s w h; receipts = receipts_hold s w scripted h; messages = messages_hold s w scripted h; got = got_stands s w h }

-- at every moment
pub published_always : LawPublished
published_always s scripted =
    always_by_events s (Chained s) (IsChain s) (chained_kept s scripted) (λ w h. chain_of s w scripted (shows s w h))
    (λ w n p shape h. chain_of s (partly_written s w n (Some p)) scripted (shows_written s w n p scripted shape h))
