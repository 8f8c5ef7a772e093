-- Held messages: the first so many are acknowledged at once.
use Rattle.std.proofs.Common.{◌≡◌, ◌<◌, List, [], ◌∷◌, length, take, drop, map, Some, refl, arith}
use Rattle.geo_base.specs.declared.client.Held.{Held}
use Rattle.geo_base.specs.declared.frame.AckKind.TheVariants as ack_kind
use Rattle.geo_base.specs.declared.frame.Frame.TheVariants as frame
use Rattle.geo_base.specs.declared.position.Position.{Position}
use Rattle.geo_base.specs.Client.{Client, becomes, id_of, stays, to_broker}
use Rattle.geo_base.specs.Going.{acks_all, most_acks, past}
use Rattle.client.specs.declared.client.change.ClientChange.TheVariants as change
use Rattle.client.specs.Changing.{ClientPlan, acted}

acks_some : (k : Client) (hs : List Held) → 0 < length hs
    → acks_all k hs ≡ becomes (record (past k) { held = drop most_acks hs })
    (to_broker k (frame.Ack (id_of k.sub) ack_kind.Individual (map (λ (h : Held). h.position) (take most_acks hs))))
acks_some k [] h = absurd (omega arith)
acks_some k (h ∷ hs) l = refl

pub acked_all : (k : Client) (p : ClientPlan) (ps : List Position) → 0 < length k.held → ps ≡ map (λ (h : Held). h.position) (take most_acks k.held)
    → p ≡ record { change = Some change.AcknowledgesAll; sent = to_broker k (frame.Ack (id_of k.sub) ack_kind.Individual ps) } → acted p k ≡ acks_all k k.held
acked_all k p ps some positions is = rw (is, positions, acks_some k k.held some) refl

pub acks_none : (k : Client) (hs : List Held) → length hs ≡ 0 → acks_all k hs ≡ stays k
acks_none k [] e = refl
acks_none k (h ∷ hs) e = absurd (omega arith)
