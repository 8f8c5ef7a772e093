-- A write does what the machine's write does that it stands for.
use Rattle.std.proofs.Common.{◌≡◌, ◌∙◌, ℕ, suc, ◌+◌, Bool, true, false, List, [], ◌∷◌, get_or, map, refl, sym, ap, arith}
use Rattle.std.specs.Prelude.{if◌then◌else◌, slice_set, Result, Ok, Err, OnOk}
use Rattle.std.specs.List.{All}
use Rattle.std.specs.Str.{bytes_eq}
use Rattle.geo_base.specs.declared.write.Write as machine
use Rattle.geo_base.specs.Broker.{Broker, replicator_at, written}
use Rattle.geo_base.specs.Cursor.{below, with_indexes}
use Rattle.geo_base.specs.Subscription.{Subscription, sought, with_acks}
use Rattle.durable_parts.specs.declared.write.Write.{Write}
use Rattle.durable_parts.specs.declared.write.Write.TheVariants as whole
use Rattle.durable_parts.specs.Applied.{StandsFor, applied}
use Rattle.durable_parts.proofs.Named.{with_name}

-- two changes that are one for the subscription of a name
changed_alike : (f g : Subscription → Subscription) (n : List ℕ) (ss : List Subscription) → All (λ (s : Subscription). bytes_eq s.name n ≡ true → f s ≡ g s) ss → map (with_name f n) ss ≡ map (with_name g n) ss
changed_alike f g n [] h = refl
changed_alike f g n (s ∷ ss) h =
    let head : with_name f n s ≡ with_name g n s = by_name (bytes_eq s.name n) f g s (h 0 s (omega arith)) in
    let tail : map (with_name f n) ss ≡ map (with_name g n) ss = changed_alike f g n ss (λ k d lt. h (suc k) d (omega arith)) in
    ap (λ (x : Subscription). x ∷ map (with_name f n) ss) head ∙ ap (λ (xs : List Subscription). with_name g n s ∷ xs) tail
  where
    by_name : (b : Bool) (f g : Subscription → Subscription) (s : Subscription) → (b ≡ true → f s ≡ g s) → (if b then f s else s) ≡ (if b then g s else s)
    by_name true f g s h = h refl
    by_name false f g s h = refl

acks_alike : (is c : List ℕ) (s : Subscription) → c ≡ with_indexes s.cursor is → record s { cursor = c } ≡ with_acks is s
acks_alike is c s e = ap (λ (x : List ℕ). record s { cursor = x }) e

seek_alike : (i k : ℕ) (c : List ℕ) (s : Subscription) → (c ≡ below i) × (k ≡ s.seeks + 1) → record s { cursor = c; seeks = k } ≡ sought i s
seek_alike i k c s e = ap (λ (x : List ℕ). record s { cursor = x; seeks = k }) e.0 ∙ ap (λ (x : ℕ). record s { cursor = below i; seeks = x }) e.1

pub stands : (per : ℕ) (b : Broker) (w : Write) (m : machine.Write) → StandsFor b w m → applied per b w ≡ written per b m
stands per b (whole.Append e) m h = ap (λ (x : machine.Write). written per b x) (sym h)
stands per b (whole.Create n kind replicated latest) m h = ap (λ (x : machine.Write). written per b x) (sym h)
stands per b (whole.Change n kind replicated) m h = ap (λ (x : machine.Write). written per b x) (sym h)
stands per b (whole.Delete n) m h = ap (λ (x : machine.Write). written per b x) (sym h)
stands per b (whole.Session y session) m h = ap (λ (x : machine.Write). written per b x) (sym h)
stands per b whole.Ledger m h = ap (λ (x : machine.Write). written per b x) (sym h)
stands per b (whole.Acks n c) m h =
    ap (λ (ss : List Subscription). record b { subs = ss }) (changed_alike (λ s. record s { cursor = c.indexes }) (with_acks h.0) n b.subs (λ k d lt is. acks_alike h.0 c.indexes (get_or b.subs k d) (h.2 k d lt is)))
    ∙ ap (λ (x : machine.Write). written per b x) (sym h.1)
stands per b (whole.Seek n c seeks) m h =
    ap (λ (ss : List Subscription). record b { subs = ss }) (changed_alike (λ s. record s { cursor = c.indexes; seeks = seeks }) (sought h.0) n b.subs (λ k d lt is. seek_alike h.0 seeks c.indexes (get_or b.subs k d) (h.2 k d lt is)))
    ∙ ap (λ (x : machine.Write). written per b x) (sym h.1)
stands per b (whole.ReplicatorAcks y c) m h =
    ap (λ (x : List ℕ). record b { replicators = slice_set b.replicators y (record (replicator_at b y) { cursor = x }) }) h.2
    ∙ ap (λ (x : machine.Write). written per b x) (sym h.1)

-- so does one that was done
pub stands_done : {E : Type 0} (per : ℕ) (b c : Broker) (w : Write) (m : machine.Write) (r : Result (Unit {0}) E) → StandsFor b w m → OnOk r (c ≡ applied per b w) → OnOk r (c ≡ written per b m)
stands_done {E} per b c w m (Ok u) h done = done ∙ stands per b w m h
stands_done {E} per b c w m (Err e) h done = tt
