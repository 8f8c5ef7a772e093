-- What a stop leaves of a broker, by its parts.
use Rattle.std.proofs.Common.{◌≡◌, ℕ, ◌+◌, ◌<◌, List, [], ◌∷◌, ◌++◌, length, map, take, get_or, sym, ap, subst, ◌∙◌}
use Rattle.std.proofs.lemmas.List.{map_more, map_push}
use Rattle.std.proofs.lemmas.List.Elements.{All-push}
use Rattle.std.specs.List.{All}
use Rattle.std.specs.Prelude.{Result, Ok, Err, IfOk}
use Rattle.broker.specs.Node.{BrokerView}
use Rattle.broker_plans.specs.Storable.{AreStorable}
use Rattle.durable_parts.specs.Durable.{durable_part}
use Rattle.geo_base.specs.declared.entry.Entry.{Entry}
use Rattle.geo_base.specs.declared.memory.Memory.{Memory}
use Rattle.geo_base.specs.Broker.{Broker, Site}
use Rattle.geo_base.specs.Replicator.{Replicator}
use Rattle.geo_base.specs.Subscription.{Subscription}
use Rattle.state_nodes.specs.declared.brokers.NodeParts.{NodeParts}
use Rattle.state_nodes.specs.Nodes.{broker_of, broker_with}
use Rattle.state_nodes.specs.Writing.{HaveRests}
use Rattle.world.specs.Saving.{behind_stop}
use Rattle.world.specs.World.{brokers_of}
use Rattle.world.proofs.SavedWorlds.{have_rests}

-- a new ledger is open, and all else is as it was
pub left : (b : Broker) (ls ls' : List ℕ) (es es' : List Entry) (subs : List Subscription) (replicators : List Replicator) (r : Result NodeParts Memory)
    → broker_with ls es subs replicators ≡ durable_part b → es' ≡ es → ls' ≡ ls ++ 0 ∷ [] → IfOk r (λ p. broker_of p ≡ broker_with ls' es' subs replicators)
    → IfOk r (λ p. broker_of p ≡ behind_stop b)
left b ls ls' es es' subs replicators (Ok p) before entries ledgers is =
    is ∙ (ap (λ (x : List ℕ). broker_with x es' subs replicators) ledgers ∙ (ap (λ (x : List Entry). broker_with (ls ++ 0 ∷ []) x subs replicators) entries
    ∙ ap (λ (c : Broker). record c { ledgers = c.ledgers ++ 0 ∷ [] }) before))
left b ls ls' es es' subs replicators (Err e) before entries ledgers is = tt

pub rests_left : (h : Site) (ls : List ℕ) (es es' : List Entry) (subs : List Subscription) (replicators : List Replicator) (r : Result NodeParts Memory) → AreStorable h es → es' ≡ es
    → IfOk r (λ p. broker_of p ≡ broker_with ls es' subs replicators) → IfOk r (λ p. HaveRests p.entries.items)
rests_left h ls es es' subs replicators (Ok p) storable same is = subst HaveRests (sym (ap (λ (c : Broker). c.entries) is ∙ same)) (have_rests h es storable)
rests_left h ls es es' subs replicators (Err e) storable same is = tt

-- ---- one broker more

pub one_more : (ps ps' : List NodeParts) (vs : List BrokerView) (i : ℕ) (p : NodeParts) (v : BrokerView) → i < length vs → ps' ≡ ps ++ p ∷ [] → v ≡ get_or vs i v
    → map broker_of ps ≡ map behind_stop (brokers_of (take i vs)) → broker_of p ≡ behind_stop v.broker → map broker_of ps' ≡ map behind_stop (brokers_of (take (i + 1) vs))
one_more ps ps' vs i p v lt is read before here =
    let front = brokers_of (take i vs) in
    let last = (get_or vs i v).broker in
    ap (λ (xs : List NodeParts). map broker_of xs) is ∙ (map_push broker_of ps p ∙ (ap (λ (bs : List Broker). bs ++ broker_of p ∷ []) before
    ∙ (ap (λ (b : Broker). map behind_stop front ++ b ∷ []) (here ∙ ap (λ (u : BrokerView). behind_stop u.broker) read)
    ∙ sym (ap (λ (bs : List Broker). map behind_stop bs) (map_more (λ (u : BrokerView). u.broker) vs i v lt) ∙ map_push behind_stop front last))))

pub rests_more : (ps ps' : List NodeParts) (p : NodeParts) → ps' ≡ ps ++ p ∷ [] → All (λ (b : Broker). HaveRests b.entries) (map broker_of ps) → HaveRests p.entries.items
    → All (λ (b : Broker). HaveRests b.entries) (map broker_of ps')
rests_more ps ps' p is before here =
    subst (λ (xs : List NodeParts). All (λ (b : Broker). HaveRests b.entries) (map broker_of xs)) (sym is)
    (subst (λ (bs : List Broker). All (λ (b : Broker). HaveRests b.entries) bs) (sym (map_push broker_of ps p))
    (All-push (λ (b : Broker). HaveRests b.entries) (map broker_of ps) (broker_of p) before here))
