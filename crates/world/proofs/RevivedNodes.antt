-- Brokers go on one after another.
use Rattle.std.proofs.Common.{◌≡◌, ℕ, suc, ◌+◌, ◌%◌, ◌<◌, List, [], ◌∷◌, ◌++◌, length, refl, sym, ap, subst, ◌∙◌, append_assoc, arith}
use Rattle.std.specs.Prelude.{slice_index_or}
use Rattle.std.proofs.lemmas.List.{append-nil, get_or_append_left, get_or_push, length-append, length_push}
use Rattle.std.proofs.lemmas.Bool.{cases_lt}
use Rattle.std.proofs.Common.{inl, inr}
use Rattle.geo_base.specs.Broker.{Broker, no_broker}
use Rattle.geo_base.specs.Setup.{Setup}
use Rattle.state_file.specs.Known.{IsKnownBehind}
use Rattle.state_items.specs.Fitting.{AllFit}
use Rattle.state_nodes.specs.Known.{IsKnownNode}
use Rattle.broker.specs.Node.{BrokerView}
use Rattle.world.specs.Saving.{AreRevived, IsRevived}
use Rattle.world.specs.World.{no_node, node_at}

-- of all brokers some were made, and the others are left
pub record IsOnTheWay (s : Setup) (all left : List Broker) (vs : List BrokerView) : Type 0 where
  pub made : List Broker
  pub parts : made ++ left ≡ all
  pub revived : AreRevived s made vs

pub on_the_way : (s : Setup) (all left : List Broker) → left ≡ all → IsOnTheWay s all left []
on_the_way s all left is = record { made = []; parts = is; revived = record { count = refl; each = λ k lt. absurd (omega (arith, lt)) } }

-- the last one is made
pub all_made : (s : Setup) (all left : List Broker) (vs : List BrokerView) → left ≡ [] → IsOnTheWay s all left vs → AreRevived s all vs
all_made s all left vs none h =
    let whole : h.made ≡ all = sym (append-nil h.made) ∙ ap (λ (bs : List Broker). h.made ++ bs) (sym none) ∙ h.parts in
    subst (λ (bs : List Broker). AreRevived s bs vs) whole h.revived

-- the next one has a number, and passed each test
pub next_number : (s : Setup) (all left rest : List Broker) (b : Broker) (vs : List BrokerView) (n : ℕ) → left ≡ b ∷ rest → length all ≡ n → IsOnTheWay s all left vs → length vs < n
next_number s all left rest b vs n is size h =
    let parts : length (h.made ++ left) ≡ length all = ap (λ (bs : List Broker). length bs) h.parts in
    let some : length left ≡ suc (length rest) = ap (λ (bs : List Broker). length bs) is in
    omega (arith, size, parts, some, length-append h.made left, h.revived.count)

known_next : (s : Setup) (made before : List Broker) (b : Broker) (rest : List Broker) → AllFit (IsKnownBehind s) before (made ++ b ∷ rest)
    → IsKnownNode s.per_ledger s.clusters ((length before + length made) % length s.clusters) b
known_next s [] before b rest h =
    let same : length before ≡ length before + 0 = omega arith in
    subst (λ (k : ℕ). IsKnownNode s.per_ledger s.clusters (k % length s.clusters) b) same h.0
known_next s (a ∷ made) before b rest h =
    let same : length (before ++ a ∷ []) + length made ≡ length before + length (a ∷ made) = omega (arith, length_push before a) in
    subst (λ (k : ℕ). IsKnownNode s.per_ledger s.clusters (k % length s.clusters) b) same (known_next s made (before ++ a ∷ []) b rest h.1)

pub next_known : (s : Setup) (all left rest : List Broker) (b : Broker) (vs : List BrokerView) → left ≡ b ∷ rest → AllFit (IsKnownBehind s) [] all → IsOnTheWay s all left vs
    → IsKnownNode s.per_ledger s.clusters (length vs % length s.clusters) b
next_known s all left rest b vs is known h =
    let parts : h.made ++ b ∷ rest ≡ all = ap (λ (bs : List Broker). h.made ++ bs) (sym is) ∙ h.parts in
    let at = known_next s h.made [] b rest (subst (AllFit (IsKnownBehind s) []) (sym parts) known) in
    let same : 0 + length h.made ≡ length vs = omega (arith, h.revived.count) in
    subst (λ (k : ℕ). IsKnownNode s.per_ledger s.clusters (k % length s.clusters) b) same at

-- one more is made
pushed : (s : Setup) (made : List Broker) (vs : List BrokerView) (b : Broker) (v : BrokerView) → AreRevived s made vs → IsRevived s (length vs) b v → AreRevived s (made ++ b ∷ []) (vs ++ v ∷ [])
pushed s made vs b v h new = record {
  count = omega (arith, length_push made b, length_push vs v, h.count);
  each = λ k lt.
      elim (cases_lt k (length made)) [
        | inl low ↦
            let here : k < length vs = omega (arith, low, h.count) in
            let old : slice_index_or (made ++ b ∷ []) k no_broker ≡ slice_index_or made k no_broker = get_or_append_left made (b ∷ []) no_broker k low in
            let same : node_at (vs ++ v ∷ []) k ≡ node_at vs k = get_or_append_left vs (v ∷ []) no_node k here in
            subst (λ (c : Broker). IsRevived s k c (node_at (vs ++ v ∷ []) k)) (sym old) (subst (λ (u : BrokerView). IsRevived s k (slice_index_or made k no_broker) u) (sym same) (h.each k low))
        | inr high ↦
            let last : k ≡ length made = omega (arith, lt, high, length_push made b) in
            let at : k ≡ length vs = omega (arith, last, h.count) in
            let one : slice_index_or (made ++ b ∷ []) k no_broker ≡ b = get_or_push made b no_broker k (sym last) in
            let it : node_at (vs ++ v ∷ []) k ≡ v = get_or_push vs v no_node k (sym at) in
            subst (λ (c : Broker). IsRevived s k c (node_at (vs ++ v ∷ []) k)) (sym one)
            (subst (λ (u : BrokerView). IsRevived s k b u) (sym it) (subst (λ (n : ℕ). IsRevived s n b v) (sym at) new))
      ];
}

pub one_more : (s : Setup) (all left rest : List Broker) (b : Broker) (vs : List BrokerView) (v : BrokerView) → left ≡ b ∷ rest → IsOnTheWay s all left vs → IsRevived s (length vs) b v
    → IsOnTheWay s all rest (vs ++ v ∷ [])
one_more s all left rest b vs v is h new = record {
  made = h.made ++ b ∷ [];
  parts = append_assoc h.made (b ∷ []) rest ∙ ap (λ (bs : List Broker). h.made ++ bs) (sym is) ∙ h.parts;
  revived = pushed s h.made vs b v h.revived new;
}
