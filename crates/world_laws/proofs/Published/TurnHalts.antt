-- A stop inside an event of a broker keeps it.
use Rattle.std.proofs.Common.{◌≡◌, ℕ, ◌<◌, Bool, true, false, List, [], ◌∷◌, ◌++◌, length, refl, sym, ap, subst, ◌∙◌, inl, inr, ◌⊎◌}
use Rattle.std.specs.Prelude.{Some, if◌then◌else◌, slice_set, take}
use Rattle.std.proofs.lemmas.List.{append-nil}
use Rattle.world_laws.proofs.Types.{Entry, Packet}
use Rattle.world_laws.proofs.Types.write
use Rattle.geo_base.specs.Broker.{Broker}
use Rattle.geo_base.specs.Happening.{broker_halts}
use Rattle.geo_base.specs.Link.{Link, took}
use Rattle.geo_base.specs.Plan.{Plan, all_written, halted, idle_plan}
use Rattle.geo_base.specs.Planned.{Planned}
use Rattle.geo_base.specs.Scripted.{IsScripted}
use Rattle.geo_base.specs.Setup.{Declared, Setup, declared_at}
use Rattle.geo_base.specs.World.{LinkName, ToBroker, World, client_at, link_at, node, taken_from, topic_at}
use Rattle.world_laws.proofs.Clients.ClientLinks.{Packets, SentDown, halts_down}
use Rattle.world_laws.proofs.OnceInOrder.Appends.{after_halt, halted_entries}
use Rattle.world_laws.proofs.Published.Chained.{Chained, home_there}
use Rattle.world_laws.proofs.Published.ClientCells.{Linked, taken_at, takes_it}
use Rattle.world_laws.proofs.Published.InTurn.{IsOther, ReceiptStands, receipts_longer}
use Rattle.world_laws.proofs.Published.OwnMessages.{next_publishes}
use Rattle.world_laws.proofs.Published.TurnAsides.{SessionsIn, forgotten_in}
use Rattle.world_laws.proofs.Published.TurnCore.{Core, WasOpen, core_aside, core_empty, core_serves}
use Rattle.world_laws.proofs.Published.TurnEvents.{AtHome, at_home, set_else, set_home}
use Rattle.world_laws.proofs.Published.TurnLines.{IsNoError}
use Rattle.world_laws.proofs.Published.TurnServes.{OpenAfter, serve_leaves}
use Rattle.world_laws.proofs.Published.TurnShapes.{CoreAt, FindsNone, NamesApart, NoErrorsAt, ServesHome, TurnOf, home_of, shape_aside, shape_serves}
use Rattle.world_laws.proofs.Replicating.Effects.{Each, each_take}
use Rattle.world_laws.proofs.Replicating.PairRoles.{shape_within}
use Rattle.world_laws.proofs.TopicOrder.Added.{after_is, appended, appended_take}
use Rattle.world_laws.proofs.Walks.Shapes.{Shape}

pub core_halts : (s : Setup) (c : ℕ) (w : World) (n : ℕ) (p : Planned) → IsScripted s → c < length s.clients → NamesApart s c → Shape s w p → TurnOf s w c (Some p) → Chained s w → Linked s w → (NoErrorsAt s c w → CoreAt s c w)
    → NoErrorsAt s c (broker_halts s w n p) → CoreAt s c (broker_halts s w n p)
unfolding broker_halts
core_halts s c w n p scripted lt names shape turn g linked old fine = by (takes_it p.takes k) refl
  where
    d : Declared
    d = declared_at s c

    x : ℕ
    x = d.cluster

    k : LinkName
    k = ToBroker c x

    home : Broker
    home = home_of s w c

    l : Link
    l = link_at w.links k

    f : Broker → Broker
    f b = halted s.per_ledger b n p.plan

    b' : Broker
    b' = home_of s (record w { brokers = slice_set w.brokers (node s p.topic p.cluster) (f (topic_at s w p.topic p.cluster)) }) c

    ds' : List Packet
    ds' = SentDown (taken_from p.takes w.links) c x

    same_down : ds' ≡ SentDown w.links c x
    same_down = halts_down c x p.takes w.links

    h : CoreAt s c w
    h = old (subst (Packets IsNoError) same_down fine)

    j : ℕ
    j = (appended_take n p.plan.writes).0

    more : List Entry
    more = take j (appended p.plan.writes)

    entries : b' ≡ f home → b'.entries ≡ home.entries ++ more
    entries is =
        ap (λ (b : Broker). b.entries) is ∙ halted_entries s.per_ledger home n p.plan ∙ after_halt home.entries (take n p.plan.writes) ∙ after_is home.entries (take n p.plan.writes)
        ∙ ap (λ (es : List Entry). home.entries ++ es) (appended_take n p.plan.writes).1

    receipts : (es : List Entry) → Packets (ReceiptStands d (home.entries ++ es)) ds'
    receipts es = subst (Packets (ReceiptStands d (home.entries ++ es))) (sym same_down) (receipts_longer d home.entries es (SentDown w.links c x) h.receipts)

    none : (W : ℕ → Type 0) → b' ≡ f home → SessionsIn c W b'
    none W is = subst (SessionsIn c W) (sym is) (forgotten_in c W (all_written s.per_ledger home (take n p.plan.writes ++ write.Ledger ∷ [])))

    link' : link_at (taken_from p.takes w.links) k ≡ (if takes_it p.takes k then took l else l)
    link' = taken_at p.takes w.links k (linked c x lt (home_there s scripted c lt).1).0

    C : Link → Type 0
    C m = Core d c b' m (client_at s w c) ds'

    elsewhere : (p.topic ≡ d.topic → p.cluster ≡ x → ⊥) → Core d c b' l (client_at s w c) ds'
    elsewhere other =
        let is = set_else s c w p (f (topic_at s w p.topic p.cluster)) scripted lt (shape_within s w p shape) other in
        core_aside d c home b' l (client_at s w c) (SentDown w.links c x) ds' [] (ap (λ (b : Broker). b.entries) is ∙ sym (append-nil home.entries)) tt (subst (SessionsIn c (WasOpen home c)) (sym is) (λ v there. (v, there, refl))) (receipts []) h

    found_none : p.plan ≡ idle_plan → AtHome s c w p ⊎ (p.topic ≡ d.topic → p.cluster ≡ x → ⊥) → Core d c b' l (client_at s w c) ds'
    found_none idle (inl at) =
        let is = set_home s c w p f scripted lt g at in
        core_aside d c home b' l (client_at s w c) (SentDown w.links c x) ds' more (entries is) (each_take (IsOther d) j (appended p.plan.writes) (subst (λ (q : Plan). Each (IsOther d) (appended q.writes)) (sym idle) tt))
        (none (WasOpen home c) is) (receipts more) h
    found_none idle (inr other) = elsewhere other

    served : takes_it p.takes k ≡ true → FindsNone s w c p ⊎ ServesHome s w c p → Core d c b' (took l) (client_at s w c) ds'
    served it (inr serves) =
        let q = serves.packet in
        let is = set_home s c w p f scripted lt g (record { topic = serves.topic; cluster = serves.cluster }) in
        let leaves = serve_leaves s c home l.sent l.taken q p.plan names.named (turn it q serves.next) serves.served (next_publishes s w c x q (λ i y. (g.clients i).up y) serves.next) h.turned.0 h.begins h.below serves.next in
        core_serves d c home b' l (client_at s w c) (SentDown w.links c x) ds' more q serves.next (entries is) (leaves.below j) (none (OpenAfter home c q) is) (λ u at v z session asks. absurd (none (λ i. ⊥) is u at)) (receipts more) h
    served it (inl empty) = core_empty d c b' l (client_at s w c) ds' empty.next (found_none empty.plan (at_home s c w p))

    aside : takes_it p.takes k ≡ false → AtHome s c w p ⊎ (p.topic ≡ d.topic → p.cluster ≡ x → ⊥) → Core d c b' l (client_at s w c) ds'
    aside it (inl at) =
        let a = shape_aside s w c (WasOpen home c) p shape g.ground.0.1 (λ i y. (g.clients i).up y) names at.cluster it in
        let is = set_home s c w p f scripted lt g at in
        core_aside d c home b' l (client_at s w c) (SentDown w.links c x) ds' more (entries is) (each_take (IsOther d) j (appended p.plan.writes) a.others) (none (WasOpen home c) is) (receipts more) h
    aside it (inr other) = elsewhere other

    by : (t : Bool) → takes_it p.takes k ≡ t → CoreAt s c (broker_halts s w n p)
    by true it = subst C (sym (link' ∙ ap (λ (t : Bool). if t then took l else l) it)) (served it (shape_serves s w c p shape it))
    by false it = subst C (sym (link' ∙ ap (λ (t : Bool). if t then took l else l) it)) (aside it (at_home s c w p))
