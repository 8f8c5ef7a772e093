-- What each part of a broker's or a client's lines leaves of the whole.
use Rattle.std.proofs.Common.{◌≡◌, ℕ, ◌+◌, ◌<◌, ◌≤◌, ◌==◌, Bool, true, false, if◌then◌else◌, List, [], ◌∷◌, ◌++◌, length, drop, get_or, map, refl, sym, ap, ◌∙◌, append_assoc, arith}
use Rattle.std.proofs.Math.ListN.{drop_of_length-le}
use Rattle.std.proofs.lemmas.List.{append-nil, drop_more}
use Rattle.geo_base.specs.Broker.{Broker}
use Rattle.geo_base.specs.Report.{broker_lines, entry_lines, replicator_line, replicator_lines, sub_line, with_line_feeds}
use Rattle.geo_base.specs.Replicator.{Replicator, new_replicator}
use Rattle.geo_base.specs.Subscription.{Subscription, new_subscription}
use Rattle.geo_base.specs.declared.frame.SubKind.TheVariants as sub_kind
use Rattle.broker_subs.specs.Table.{sub_at}
use Rattle.report_lines.proofs.Added.{line_added}

pub with_line_feeds-append : (ls ms : List (List ℕ)) → with_line_feeds (ls ++ ms) ≡ with_line_feeds ls ++ with_line_feeds ms
with_line_feeds-append [] ms = refl
with_line_feeds-append (l ∷ ls) ms = rw (with_line_feeds-append ls ms, append_assoc) refl

-- some lines of those that are left
pub lines_added : (old new whole : List ℕ) (some rest : List (List ℕ)) → new ≡ old ++ with_line_feeds some
    → old ++ with_line_feeds (some ++ rest) ≡ whole → new ++ with_line_feeds rest ≡ whole
lines_added old new whole some rest added before = rw (added, append_assoc, ← with_line_feeds-append) before

without_own : (b : Bool) (l : List ℕ) (rest : List (List ℕ)) → (if b then rest else l ∷ rest) ≡ (if b then [] else l ∷ []) ++ rest
without_own true l rest = refl
without_own false l rest = refl

-- the replicator to a cluster, unless it is the own one
pub replicator_added : (own i : ℕ) (names : List (List ℕ)) (replicators : List Replicator) (n : List ℕ) (old new whole : List ℕ)
    → i < length names → length replicators ≡ length names → n ≡ get_or names i n
    → new ≡ old ++ with_line_feeds (if own == i then [] else replicator_line n (get_or replicators i new_replicator) ∷ [])
    → old ++ with_line_feeds (replicator_lines own i (drop i names) (drop i replicators)) ≡ whole
    → new ++ with_line_feeds (replicator_lines own (i + 1) (drop (i + 1) names) (drop (i + 1) replicators)) ≡ whole
replicator_added own i names replicators n old new whole within many name added before =
    let here : drop i names ≡ n ∷ drop (i + 1) names = drop_more names i n within ∙ ap (λ (m : List ℕ). m ∷ drop (i + 1) names) (sym name) in
    let there : i < length replicators = omega (arith, within, many) in
    lines_added old new whole (if own == i then [] else replicator_line n (get_or replicators i new_replicator) ∷ []) (replicator_lines own (i + 1) (drop (i + 1) names) (drop (i + 1) replicators)) added
    (rw (here, drop_more replicators i new_replicator there, without_own) at before)

pub no_more_replicators : (own i : ℕ) (names : List (List ℕ)) (replicators : List Replicator) (new whole : List ℕ) → length names ≤ i
    → new ++ with_line_feeds (replicator_lines own i (drop i names) replicators) ≡ whole → new ≡ whole
no_more_replicators own i names replicators new whole past before = sym (append-nil new) ∙ (rw (drop_of_length-le names past) at before)

-- the subscription at a place
pub sub_added : (b : Broker) (subs : List Subscription) (i : ℕ) (old new whole : List ℕ) → i < length subs
    → new ≡ old ++ (sub_line b (sub_at subs i) ++ 10 ∷ [])
    → old ++ with_line_feeds (map (sub_line b) (drop i subs)) ≡ whole
    → new ++ with_line_feeds (map (sub_line b) (drop (i + 1) subs)) ≡ whole
sub_added b subs i old new whole within added before =
    line_added old new (sub_line b (sub_at subs i)) whole (map (sub_line b) (drop (i + 1) subs)) added
    (rw (drop_more subs i (new_subscription [] sub_kind.Exclusive false []) within) at before)

pub no_more_subs : (b : Broker) (subs : List Subscription) (i : ℕ) (new whole : List ℕ) → length subs ≤ i
    → new ++ with_line_feeds (map (sub_line b) (drop i subs)) ≡ whole → new ≡ whole
no_more_subs b subs i new whole past before = sym (append-nil new) ∙ (rw (drop_of_length-le subs past) at before)

-- entries, then replicators, then subscriptions
pub broker_whole : (names : List (List ℕ)) (own : ℕ) (b : Broker) (old one two : List ℕ) → one ≡ old ++ with_line_feeds (entry_lines names b.ledgers 0 b.entries)
    → two ≡ one ++ with_line_feeds (replicator_lines own 0 names b.replicators)
    → old ++ with_line_feeds (broker_lines names own b) ≡ two ++ with_line_feeds (map (sub_line b) b.subs)
broker_whole names own b old one two entries replicators =
    let es = entry_lines names b.ledgers 0 b.entries in
    let ss = replicator_lines own 0 names b.replicators in
    let ks = map (sub_line b) b.subs in
    rw (replicators, entries, with_line_feeds-append es (ss ++ ks), with_line_feeds-append ss ks) (simp append_assoc)
