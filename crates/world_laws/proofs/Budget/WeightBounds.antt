-- What a world weighs is within the budget of its settling: no entry, packet, snapshot or builder weighs more than the budget has
-- rounds for it.
use Rattle.std.proofs.Common.{◌≡◌, ℕ, suc, ◌+◌, ◌-◌, ◌*◌, ◌^◌, ◌<◌, ◌≤◌, Bool, true, false, List, [], ◌∷◌, length, map, refl, sym, ap, ◌∙◌, arith}
use Rattle.std.specs.Prelude.{Option, Some, None, if◌then◌else◌, ◌%◌, is_some, sum}
use Rattle.std.proofs.Math.Nat.{mod-lt, mul-add, mul-one, mul-suc, mul_assoc, mul_comm}
use Rattle.std.proofs.lemmas.Nat.{mul-le}
use Rattle.world_laws.proofs.Types.{SnapshotBuilder, Entry, Frame, Packet}
use Rattle.world_laws.proofs.Types.frame
use Rattle.geo_base.specs.Broker.{Broker}
use Rattle.geo_base.specs.Link.{Link, untaken}
use Rattle.geo_base.specs.Run.{untaken_of, waiting_of}
use Rattle.geo_base.specs.Replicator.{Replicator}
use Rattle.geo_base.specs.Subscription.{Subscription}
use Rattle.world_laws.proofs.Budget.Counting.{each_peer, request_part, unread_most}
use Rattle.world_laws.proofs.Budget.Tails.{at_le, at_times, from_most, from_sum, sum_at, sum_cons, sum_from}
use Rattle.world_laws.proofs.Walks.Walk.{on_if}
use Rattle.world_laws.proofs.Budget.Weights.{ahead, asking, back_weight, behind, broker_weight, building, cached_in, dear, forward_weight, is_peer, is_request, table_weight, unread}
use Rattle.geo_base.proofs.Sums.{cube}

-- the rounds that the budget has for one thing
unfoldable pub share : ℕ → ℕ
share n = 8 * n ^ 3

-- each thing fits
pub record Fits (n : ℕ) : Type 0 where
  pub entry : asking (n - 1) ≤ share n
  pub snapshot : dear (n - 1) ≤ share n
  pub builder : asking (n - 1) + dear (n - 1) ≤ share n
  pub packet : 2 + (n - 1) + dear (n - 1) ≤ share n
  pub answer : 1 ≤ share n
  pub pair : n * n + n * n ≤ share n

dear_is : (m : ℕ) → dear m ≡ (3 + m) * m
unfolding dear
dear_is m = refl

asking_is : (m : ℕ) → asking m ≡ (3 + m + dear m) * m
unfolding asking
asking_is m = refl

share_is : (n : ℕ) → share n ≡ 8 * (n * n * n)
unfolding share
share_is n = ap (λ (k : ℕ). 8 * k) (cube n)

-- each is a few times a power of n, whose square is d and whose cube is e
fit : (n m d e : ℕ) → n ≡ suc m → n * n ≡ d → d * n ≡ e → share n ≡ 8 * e → Fits n
fit n m d e is square third have = record {
  entry = omega (arith, have, all, same_asking);
  snapshot = omega (arith, have, whole, same_dear, grow);
  builder = omega (arith, have, all, whole, same_asking, same_dear, grow);
  packet = omega (arith, have, whole, same_dear, grow);
  answer = omega (arith, have, grow, some);
  pair = omega (arith, have, square, grow);
}
  where
    same_m : n - 1 ≡ m
    same_m = omega (arith, is)

    same_dear : dear (n - 1) ≡ dear m
    same_dear = ap dear same_m

    same_asking : asking (n - 1) ≡ asking m
    same_asking = ap asking same_m

    some : 1 ≤ d
    some = let h = mul-le 1 1 n n (omega (arith, is)) (omega (arith, is)) in omega (arith, h, square)

    grow : d ≤ e
    grow = let h = mul-le d 1 d n (omega arith) (omega (arith, is)) in let k = mul-one d in omega (arith, h, k, third)

    -- (3 + m) * n is (3 + m) * m and 3 + m
    part : (3 + m) * n ≡ (3 + m) * m + (3 + m)
    part = ap (λ (k : ℕ). (3 + m) * k) is ∙ mul-suc (3 + m) m

    low : (3 + m) * n ≤ 3 * d
    low = let h = mul-le (3 + m) n (3 * n) n (omega (arith, is)) (omega arith) in let k = mul_assoc 3 n n ∙ ap (λ (j : ℕ). 3 * j) square in omega (arith, h, k)

    whole : 3 + m + dear m ≤ 3 * d
    whole = let k = dear_is m in omega (arith, part, low, k)

    all : asking m ≤ 3 * e
    all =
        let h = mul-le (3 + m + dear m) m (3 * d) n whole (omega (arith, is)) in
        let k = mul_assoc 3 d n ∙ ap (λ (j : ℕ). 3 * j) third in let l = asking_is m in omega (arith, h, k, l)

pub fits : (n : ℕ) → 0 < n → Fits n
fits n some = let is : n ≡ suc (n - 1) = omega (arith, some) in fit n (n - 1) (n * n) (n * n * n) is refl refl (share_is n)

-- sums of things that fit
pub from_times : {X : Type 0} (f g : X → ℕ) (c : ℕ) → ((x : X) → f x ≤ c * g x) → (xs : List X) → sum_from f 0 xs ≤ c * sum (map g xs)
from_times f g c h [] = omega arith
from_times f g c h (x ∷ xs) =
    let e = ap (λ (k : ℕ). c * k) (sum_cons (g x) (map g xs)) ∙ mul-add c (g x) (sum (map g xs)) in omega (arith, e, h x, from_times f g c h xs)

-- what one replicator has to read
behind_most : (n x y : ℕ) (es : List Entry) (s : Replicator) → behind n x es y s ≤ (if is_peer n x y then (3 + (n - 1) + dear (n - 1)) * length es else 0)
behind_most n x y es s = by (is_peer n x y)
  where
    m : ℕ
    m = n - 1

    one : (e : Entry) → unread m x y e ≤ 3 + m + dear m
    one e =
        let most : request_part m e ≤ dear m = on_if (λ (k : ℕ). k ≤ dear m) (is_request e.content) (dear m) 0 (omega arith) (omega arith) in
        omega (arith, unread_most m x y e, most)

    by : (b : Bool) → (if b then sum_from (unread m x y) s.read_index es else 0) ≤ (if b then (3 + m + dear m) * length es else 0)
    by true =
        let h = from_most (unread m x y) (3 + m + dear m) one s.read_index es in
        omega (arith, h, mul-le (3 + m + dear m) (length es - s.read_index) (3 + m + dear m) (length es) (omega arith) (omega arith))
    by false = omega arith

-- and all of a broker
left_most : (n x : ℕ) (es : List Entry) (ss : List Replicator) → x < n → sum_at (behind n x es) 0 ss ≤ asking (n - 1) * length es
unfolding asking
left_most n x es ss lt =
    let m = n - 1 in
    let u = 3 + m + dear m in
    let each =
    at_le (behind n x es) (λ y (s : Replicator). if is_peer n x y then u * length es else 0) (λ y s. behind_most n x y es s) 0 ss in
    let turned : u * length es * m ≡ u * m * length es = mul_assoc u (length es) m ∙ ap (λ (k : ℕ). u * k) (mul_comm (length es) m) ∙ sym (mul_assoc u m (length es)) in
    omega (arith, each, each_peer n x (u * length es) lt ss, turned)

building_most : (m c : ℕ) (o : Option SnapshotBuilder) → asking m + dear m ≤ c → building m o ≤ c * (if is_some o then 1 else 0)
building_most m c None le = omega arith
building_most m c (Some u) le =
    let h = on_if (λ (k : ℕ). k ≤ c) u.second (dear m) (asking m + dear m) (omega (arith, le)) le in let e = mul-one c in omega (arith, h, e)

all_fit : (c l k o a d e : ℕ) → a ≤ c * l → d ≤ c * k → e ≤ c * o → a + (d + e) ≤ c * (l + (k + o))
all_fit c l k o a d e entries snapshots builder =
    let p = mul-add c l (k + o) in let q = mul-add c k o in omega (arith, entries, snapshots, builder, p, q)

broker_most : (n x : ℕ) (b : Broker) → x < n → broker_weight n x b ≤ share n * waiting_of b
broker_most n x b lt =
    let m = n - 1 in
    let c = share n in
    let f = fits n (omega (arith, lt)) in
    let caches : ℕ = sum (map (λ (v : Subscription). length v.cache) b.subs) in
    let built : ℕ = if is_some b.builder then 1 else 0 in
    let same = ap (λ (k : ℕ). dear m * k) (from_sum (λ (v : Subscription). length v.cache) b.subs) in
    let left = left_most n x b.entries b.replicators lt in
    let entries = mul-le (asking m) (length b.entries) c (length b.entries) f.entry (omega arith) in
    let snapshots = mul-le (dear m) caches c caches f.snapshot (omega arith) in
    let builder = building_most m c b.builder f.builder in
    all_fit c (length b.entries) caches built (sum_at (behind n x b.entries) 0 b.replicators) (dear m * cached_in b.subs) (building m b.builder)
    (omega (arith, left, entries)) (omega (arith, same, snapshots)) builder

pub brokers_most : (n : ℕ) (bs : List Broker) → 0 < n → sum_at (λ j b. broker_weight n (j % n) b) 0 bs ≤ share n * sum (map waiting_of bs)
brokers_most n bs some =
    let each = at_le (λ j b. broker_weight n (j % n) b) (λ j b. share n * waiting_of b) (λ j b. broker_most n (j % n) b (mod-lt j some)) 0 bs in
    omega (arith, each, at_times waiting_of (share n) 0 bs)

-- of the links
ahead_most : (m : ℕ) (f : Frame) → ahead m f ≤ 2 + m + dear m
ahead_most m (frame.Send id seq source e) =
    let most : request_part m e ≤ dear m = on_if (λ (k : ℕ). k ≤ dear m) (is_request e.content) (dear m) 0 (omega arith) (omega arith) in omega (arith, most)
ahead_most m f = omega arith

table_most : (f : Link → ℕ) (c : ℕ) → ((l : Link) → f l ≤ c * untaken l) → (ls : List (List Link)) → table_weight f ls ≤ c * untaken_of ls
table_most f c h ls = from_times (λ (r : List Link). sum_from f 0 r) (λ (r : List Link). sum (map untaken r)) c (λ r. from_times f untaken c h r) ls

pub forward_most : (n : ℕ) (ls : List (List Link)) → 0 < n → table_weight (forward_weight (n - 1)) ls ≤ share n * untaken_of ls
forward_most n ls some =
    let f = fits n some in
    table_most (forward_weight (n - 1)) (share n)
    (λ l. from_most (λ (p : Packet). ahead (n - 1) p.frame) (share n) (λ p. omega (arith, ahead_most (n - 1) p.frame, f.packet)) l.taken l.sent) ls

pub back_most : (n : ℕ) (ls : List (List Link)) → 0 < n → table_weight back_weight ls ≤ share n * untaken_of ls
back_most n ls some = let f = fits n some in table_most back_weight (share n) (λ l. from_most (λ (p : Packet). 1) (share n) (λ p. f.answer) l.taken l.sent) ls
