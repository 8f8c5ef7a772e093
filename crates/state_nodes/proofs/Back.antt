-- Counts, subscriptions and replicators are read again as they were written.
use Rattle.std.proofs.Common.{◌≡◌, ℕ, suc, ◌+◌, ◌<◌, ◌≤◌, ◌^◌, ◌==◌, Bool, true, false, List, [], ◌∷◌, ◌++◌, length, inl, inr, Ok, refl, sym, ap, ◌∙◌, append_assoc, arith}
use Rattle.std.specs.Prelude.{nat_le, is_none, Option, None, if◌then◌else◌}
use Rattle.std.specs.List.{flat_map}
use Rattle.std.proofs.lemmas.Bool.Decides.{nat_tests}
use Rattle.std.proofs.lemmas.List.{append-nil, length-append}
use Rattle.geo_base.specs.declared.frame.SubKind.{SubKind}
use Rattle.geo_base.specs.declared.frame.SubKind.TheVariants as kind
use Rattle.geo_base.specs.Broker.{sub_named}
use Rattle.geo_base.specs.Name.{is_name}
use Rattle.geo_base.specs.Replicator.{Replicator}
use Rattle.geo_base.specs.Subscribing.{most_subs}
use Rattle.geo_base.specs.Subscription.{Subscription}
use Rattle.state_items.specs.declared.rule.Rule.TheVariants as rule
use Rattle.state_items.specs.Fitting.{AllFit}
use Rattle.state_items.specs.Limits.{most_count}
use Rattle.state_items.specs.Reading.{many}
use Rattle.state_items.specs.Texts.{cursor, number, text}
use Rattle.state_items.proofs.Again.{cursor_again, many_again, number_again, text_again, within_again}
use Rattle.state_nodes.specs.declared.counts.Counts.{Counts}
use Rattle.state_nodes.specs.Counts.{counts_at, counts_text}
use Rattle.state_nodes.specs.Fitting.{AreCounts, AreReplicators, AreSubs, IsPlace, IsReplicator, IsSub}
use Rattle.state_nodes.specs.Replicators.{place_at, replicator_at, replicator_text, replicators_at, replicators_from, replicators_text}
use Rattle.state_nodes.specs.Subs.{byte_within, flag_byte, kind_byte, kind_of, name_at, seeks_at, sub_at, sub_text, subs_at, subs_text}
use Rattle.state_nodes.proofs.Names.{name_short}

-- ---- counts

pub counts_again : (c : Counts) (rest : List ℕ) → AreCounts c → counts_at (counts_text c ++ rest) ≡ Ok (c, rest)
unfolding counts_at
counts_again c rest h =
    let regrouped : counts_text c ++ rest ≡ number c.events ++ (number c.idle ++ (number c.rounds ++ (number c.frame_bytes ++ rest))) =
    append_assoc (number c.events) (number c.idle ++ (number c.rounds ++ number c.frame_bytes)) rest
    ∙ ap (λ (b : List ℕ). number c.events ++ b) (append_assoc (number c.idle) (number c.rounds ++ number c.frame_bytes) rest ∙ ap (λ (b : List ℕ). number c.idle ++ b) (append_assoc (number c.rounds) (number c.frame_bytes) rest)) in
    let idle : nat_le c.idle most_count ≡ true = grind (arith, nat_tests, h.idle) in
    let run : nat_le (c.events + c.idle) 2000000 ≡ true = grind (arith, nat_tests, h.run) in
    ap counts_at regrouped
    ∙ rw (within_again most_count c.events rule.Count (number c.idle ++ (number c.rounds ++ (number c.frame_bytes ++ rest))) h.events (omega (arith, h.events)), number_again c.idle (number c.rounds ++ (number c.frame_bytes ++ rest)) (omega (arith, h.idle)), idle, run, within_again most_count c.rounds rule.Count (number c.frame_bytes ++ rest) h.rounds (omega (arith, h.rounds)), within_again 1073741824 c.frame_bytes rule.Count rest h.sent (omega (arith, h.sent))) refl

-- ---- subscriptions

kind_small : (k : SubKind) → nat_le (kind_byte k) 3 ≡ true
kind_small kind.Exclusive = refl
kind_small kind.Shared = refl
kind_small kind.Failover = refl
kind_small kind.KeyShared = refl

kind_back : (k : SubKind) → kind_of (kind_byte k) ≡ k
kind_back kind.Exclusive = refl
kind_back kind.Shared = refl
kind_back kind.Failover = refl
kind_back kind.KeyShared = refl

flag_small : (b : Bool) → nat_le (flag_byte b) 1 ≡ true
flag_small true = refl
flag_small false = refl

flag_back : (b : Bool) → (flag_byte b == 1) ≡ b
flag_back true = refl
flag_back false = refl

name_again : (before : List Subscription) (n rest : List ℕ) → length n < 2 ^ 32 → is_name n ≡ true → sub_named before n ≡ None → name_at before (text n ++ rest) ≡ Ok (n, rest)
unfolding name_at
name_again before n rest lt is new =
    let none : is_none (sub_named before n) ≡ true = ap (λ (o : Option Subscription). is_none o) new in
    rw (text_again n rest lt, is, none) refl

byte_again : (most b : ℕ) (rest : List ℕ) → nat_le b most ≡ true → byte_within most (b ∷ rest) ≡ Ok (b, rest)
unfolding byte_within
byte_again most b rest h = rw h refl

seeks_again : (n : ℕ) (rest : List ℕ) → n ≤ most_count → seeks_at 2 (number n ++ rest) ≡ Ok (n, rest)
unfolding seeks_at
seeks_again n rest le = within_again most_count n rule.Count rest le (omega (arith, le))

pub sub_again : (n : ℕ) → n < 2 ^ 64 → (before : List Subscription) (s : Subscription) (rest : List ℕ) → IsSub n before s → sub_at 2 n before (sub_text n s ++ rest) ≡ Ok (s, rest)
unfolding sub_at
sub_again n lt before s rest h =
    let c : List ℕ = cursor n s.cursor in
    let k : ℕ = kind_byte s.kind in
    let f : ℕ = flag_byte s.replicated in
    let regrouped : sub_text n s ++ rest ≡ text s.name ++ (k ∷ f ∷ (c ++ (number s.seeks ++ rest))) =
    append_assoc (text s.name) (k ∷ f ∷ (c ++ number s.seeks)) rest ∙ ap (λ (b : List ℕ). text s.name ++ (k ∷ f ∷ b)) (append_assoc c (number s.seeks) rest) in
    ap (sub_at 2 n before) regrouped
    ∙ rw (name_again before s.name (k ∷ f ∷ (c ++ (number s.seeks ++ rest))) (name_short s.name h.name) h.name h.new, byte_again 3 k (f ∷ (c ++ (number s.seeks ++ rest))) (kind_small s.kind), byte_again 1 f (c ++ (number s.seeks ++ rest)) (flag_small s.replicated), cursor_again n s.cursor (number s.seeks ++ rest) lt h.acked, seeks_again s.seeks rest h.seeks, kind_back s.kind, flag_back s.replicated) (ap (λ (x : Subscription). Ok (x, rest)) h.at_rest)

pub subs_again : (n : ℕ) → n < 2 ^ 64 → (ss : List Subscription) (rest : List ℕ) → AreSubs n ss → subs_at 2 n (subs_text n ss ++ rest) ≡ Ok (ss, rest)
unfolding subs_at
subs_again n lt ss rest h =
    let few : nat_le (length ss) most_subs ≡ true = grind (arith, nat_tests, h.few) in
    ap (subs_at 2 n) (append_assoc (number (length ss)) (flat_map (sub_text n) ss) rest)
    ∙ rw (number_again (length ss) (flat_map (sub_text n) ss ++ rest) (omega (arith, h.few)), few) (many_again (sub_at 2 n) (sub_text n) (IsSub n) (sub_again n lt) ss [] rest h.each)

-- ---- replicators

replicator_again : (n : ℕ) → n < 2 ^ 64 → (s : Replicator) (rest : List ℕ) → IsReplicator n s → replicator_at n (replicator_text n s ++ rest) ≡ Ok (s, rest)
unfolding replicator_at
replicator_again n lt s rest h =
    ap (replicator_at n) (append_assoc (number s.session) (cursor n s.cursor) rest)
    ∙ rw (within_again most_count s.session rule.Count (cursor n s.cursor ++ rest) h.session (omega (arith, h.session)), cursor_again n s.cursor rest lt h.acked) (ap (λ (x : Replicator). Ok (x, rest)) h.restarted)

-- the text of a place
abbrev place_text : ℕ → ℕ → ℕ → Replicator → List ℕ
place_text n own y s = if y == own then [] else replicator_text n s

place_again : (n own : ℕ) → n < 2 ^ 64 → (before : List Replicator) (s : Replicator) (rest : List ℕ) → IsPlace n own before s → place_at n own before (place_text n own (length before) s ++ rest) ≡ Ok (s, rest)
place_again n own lt before s rest (inl h) =
    let here : (length before == own) ≡ true = grind (arith, nat_tests, h.0) in
    rw here (ap (λ (x : Replicator). Ok (x, rest)) (sym h.1))
place_again n own lt before s rest (inr h) =
    let other : (length before == own) ≡ false = grind (arith, nat_tests, h.0) in
    rw other (replicator_again n lt s rest h.1)

replicators_again_from : (n own : ℕ) → n < 2 ^ 64 → (ss before : List Replicator) (rest : List ℕ) → AllFit (IsPlace n own) before ss → many (place_at n own) (length ss) before (replicators_from n own (length before) ss ++ rest) ≡ Ok (before ++ ss, rest)
unfolding many
replicators_again_from n own lt [] before rest h = ap (λ (xs : List Replicator). Ok (xs, rest)) (sym (append-nil before))
replicators_again_from n own lt (s ∷ ss) before rest h =
    let len : length before + 1 ≡ length (before ++ s ∷ []) = omega (arith, length-append before (s ∷ [])) in
    let regrouped : replicators_from n own (length before) (s ∷ ss) ++ rest ≡ place_text n own (length before) s ++ (replicators_from n own (length (before ++ s ∷ [])) ss ++ rest) =
    append_assoc (place_text n own (length before) s) (replicators_from n own (length before + 1) ss) rest
    ∙ ap (λ (y : ℕ). place_text n own (length before) s ++ (replicators_from n own y ss ++ rest)) len in
    ap (λ (b : List ℕ). many (place_at n own) (suc (length ss)) before b) regrouped
    ∙ rw (place_again n own lt before s (replicators_from n own (length (before ++ s ∷ [])) ss ++ rest) h.0) (replicators_again_from n own lt ss (before ++ s ∷ []) rest h.1 ∙ ap (λ (xs : List Replicator). Ok (xs, rest)) (append_assoc before (s ∷ []) ss))

pub replicators_again : (n own : ℕ) → n < 2 ^ 64 → (ss : List Replicator) (rest : List ℕ) → AreReplicators n own ss → replicators_at n own (length ss) (replicators_text n own ss ++ rest) ≡ Ok (ss, rest)
replicators_again n own lt ss rest h = replicators_again_from n own lt ss [] rest h
