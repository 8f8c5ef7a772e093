-- Consumers that stay: their clients and ids are the same place by place, whatever permits they have.
use Rattle.std.proofs.Common.{◌≡◌, ℕ, zero, suc, ◌%◌, nat_lt, Bool, true, false, List, [], ◌∷◌, length, refl, sym, ◌∙◌, arith}
use Rattle.std.specs.Prelude.{Some, None, if◌then◌else◌, slice_set, map}
use Rattle.geo_base.specs.declared.consumer.Consumer.{Consumer}
use Rattle.geo_base.specs.declared.frame.SubKind.TheVariants as sub_kind
use Rattle.geo_base.specs.Dispatcher.{consumer_at, key_number, pick, served, used}

pub record SameConsumers (base ks : List Consumer) : Type 0 where
  pub many : length ks ≡ length base
  pub client : (i : ℕ) → (consumer_at ks i).client ≡ (consumer_at base i).client
  pub id : (i : ℕ) → (consumer_at ks i).id ≡ (consumer_at base i).id

pub same_consumers : (ks : List Consumer) → SameConsumers ks ks
same_consumers ks = record { many = refl; client = λ i. refl; id = λ i. refl }

then_same : (xs ys zs : List Consumer) → SameConsumers xs ys → SameConsumers ys zs → SameConsumers xs zs
then_same xs ys zs h k = record {
  many = k.many ∙ h.many;
  client = λ i. k.client i ∙ h.client i;
  id = λ i. k.id i ∙ h.id i;
}

-- a change of permits alone
mapped_same : (f : Consumer → Consumer) → ((k : Consumer) → (f k).client ≡ k.client) → ((k : Consumer) → (f k).id ≡ k.id) → (ks : List Consumer) → SameConsumers ks (map f ks)
mapped_same f c d [] = record { many = refl; client = λ i. refl; id = λ i. refl }
mapped_same f c d (k ∷ ks) =
    let rest = mapped_same f c d ks in
    record {
      many = omega (arith, rest.many);
      client = λ i. client_of f c k ks i (rest.client);
      id = λ i. id_of f d k ks i (rest.id);
    }
  where
    client_of : (f : Consumer → Consumer) → ((k : Consumer) → (f k).client ≡ k.client) → (k : Consumer) (ks : List Consumer) (i : ℕ) → ((j : ℕ) → (consumer_at (map f ks) j).client ≡ (consumer_at ks j).client) → (consumer_at (map f (k ∷ ks)) i).client ≡ (consumer_at (k ∷ ks) i).client
    client_of f c k ks zero h = c k
    client_of f c k ks (suc i) h = h i

    id_of : (f : Consumer → Consumer) → ((k : Consumer) → (f k).id ≡ k.id) → (k : Consumer) (ks : List Consumer) (i : ℕ) → ((j : ℕ) → (consumer_at (map f ks) j).id ≡ (consumer_at ks j).id) → (consumer_at (map f (k ∷ ks)) i).id ≡ (consumer_at (k ∷ ks) i).id
    id_of f d k ks zero h = d k
    id_of f d k ks (suc i) h = h i

pub permitted_same : (base ks : List Consumer) (b : Consumer → Bool) (n : Consumer → ℕ) → SameConsumers base ks → SameConsumers base (map (λ (k : Consumer). if b k then record k { permits = n k } else k) ks)
permitted_same base ks b n h =
    then_same base ks (map (λ (k : Consumer). if b k then record k { permits = n k } else k) ks) h (mapped_same (λ (k : Consumer). if b k then record k { permits = n k } else k) (λ k. client_if (b k) k (n k)) (λ k. id_if (b k) k (n k)) ks)
  where
    client_if : (b : Bool) (k : Consumer) (n : ℕ) → (if b then record k { permits = n } else k).client ≡ k.client
    client_if true k n = refl
    client_if false k n = refl

    id_if : (b : Bool) (k : Consumer) (n : ℕ) → (if b then record k { permits = n } else k).id ≡ k.id
    id_if true k n = refl
    id_if false k n = refl

set_same : (ks : List Consumer) (at : ℕ) (v : Consumer) → v.client ≡ (consumer_at ks at).client → v.id ≡ (consumer_at ks at).id → SameConsumers ks (slice_set ks at v)
set_same [] at v c d = record { many = refl; client = λ i. refl; id = λ i. refl }
set_same (k ∷ ks) zero v c d = record { many = refl; client = λ i. client_of k ks v c i; id = λ i. id_of k ks v d i }
  where
    client_of : (k : Consumer) (ks : List Consumer) (v : Consumer) → v.client ≡ k.client → (i : ℕ) → (consumer_at (v ∷ ks) i).client ≡ (consumer_at (k ∷ ks) i).client
    client_of k ks v c zero = c
    client_of k ks v c (suc i) = refl

    id_of : (k : Consumer) (ks : List Consumer) (v : Consumer) → v.id ≡ k.id → (i : ℕ) → (consumer_at (v ∷ ks) i).id ≡ (consumer_at (k ∷ ks) i).id
    id_of k ks v c zero = c
    id_of k ks v c (suc i) = refl
set_same (k ∷ ks) (suc at) v c d =
    let rest = set_same ks at v c d in
    record {
      many = omega (arith, rest.many);
      client = λ i. client_of k ks (slice_set ks at v) i rest.client;
      id = λ i. id_of k ks (slice_set ks at v) i rest.id;
    }
  where
    client_of : (k : Consumer) (ks ls : List Consumer) (i : ℕ) → ((j : ℕ) → (consumer_at ls j).client ≡ (consumer_at ks j).client) → (consumer_at (k ∷ ls) i).client ≡ (consumer_at (k ∷ ks) i).client
    client_of k ks ls zero h = refl
    client_of k ks ls (suc i) h = h i

    id_of : (k : Consumer) (ks ls : List Consumer) (i : ℕ) → ((j : ℕ) → (consumer_at ls j).id ≡ (consumer_at ks j).id) → (consumer_at (k ∷ ls) i).id ≡ (consumer_at (k ∷ ks) i).id
    id_of k ks ls zero h = refl
    id_of k ks ls (suc i) h = h i

pub served_same : (base ks : List Consumer) (at : ℕ) → SameConsumers base ks → SameConsumers base (served sub_kind.KeyShared ks at)
served_same base ks at h =
    then_same base ks (slice_set ks at (used (consumer_at ks at))) h (set_same ks at (used (consumer_at ks at)) refl refl)

-- the place that a key names
if_some : (b : Bool) (i j : ℕ) → (if b then Some i else None) ≡ Some j → i ≡ j
if_some true i j h = cc
if_some false i j h = absurd (cc)

pub key_place : (ks : List Consumer) (key : List ℕ) (at : ℕ) → pick sub_kind.KeyShared ks key ≡ Some at → at ≡ key_number key % length ks
key_place [] key at h = absurd (cc)
key_place (k ∷ ks) key at h =
    sym (if_some (nat_lt 0 (consumer_at (k ∷ ks) (key_number key % length (k ∷ ks))).permits) (key_number key % length (k ∷ ks)) at h)
