-- What is known of a broker that was read.
use Rattle.std.proofs.Common.{◌≡◌, ℕ, ◌<◌, ◌≤◌, ◌==◌, nat_lt, List, [], length, Ok, refl, sym, subst, ◌∙◌}
use Rattle.std.specs.List.{sum}
use Rattle.std.proofs.lemmas.Bool.{eqb-true, ltb-true}
use Rattle.geo_base.specs.declared.entry.Entry.{Entry}
use Rattle.geo_base.specs.Broker.{Broker}
use Rattle.geo_base.specs.Replicator.{Replicator}
use Rattle.geo_base.specs.Subscription.{Subscription}
use Rattle.state_items.specs.declared.rule.Rule.TheVariants as rule
use Rattle.state_items.specs.Fitting.{AllFit}
use Rattle.state_items.specs.Reading.{judge, number_at}
use Rattle.state_items.specs.Telling.{Then}
use Rattle.state_items.proofs.Known.{all_told, came, judged, listed_all, listed_count, many_known, same_value, told, within_known}
use Rattle.state_nodes.specs.Entries.{AreEntries, IsEntry}
use Rattle.state_nodes.specs.Fitting.{AreSubs}
use Rattle.state_nodes.specs.Known.{IsKnownEntry, IsKnownNode}
use Rattle.state_nodes.specs.Ledgers.{entry_count, ledgers_at, length_at}
use Rattle.state_nodes.specs.Nodes.{IsNode, behind_entries, counted_ledgers_at, shares_at}
use Rattle.state_nodes.specs.Replicators.{replicators_at}
use Rattle.state_nodes.specs.Subs.{subs_at}
use Rattle.state_nodes.proofs.Known.{AllReplicators, entry_known, replicators_known, subs_known}

record AreKnownLedgers (per : ℕ) (ls : List ℕ) : Type 0 where
  pub opened : 0 < length ls
  pub each : AllFit (λ before l. l ≤ per) [] ls

length_known : (per : ℕ) (before : List ℕ) (bytes : List ℕ) (x : ℕ × List ℕ) → length_at per before bytes ≡ Ok x → x.0 ≤ per
length_known per before bytes x h = within_known per rule.Ledgers bytes x h

ledgers_known : (per : ℕ) (bytes : List ℕ) (x : List ℕ × List ℕ) → ledgers_at per bytes ≡ Ok x → AreKnownLedgers per x.0
unfolding ledgers_at
ledgers_known per bytes x h =
    let a = came (number_at bytes) _ x h in
    let b = came (judge (nat_lt 0 a.first.0) bytes rule.Ledgers) _ x a.next in
    let all = many_known (length_at per) (λ before l. l ≤ per) (length_known per) a.first.0 [] a.first.1 x b.next in
    record {
      opened = subst (λ (k : ℕ). 0 < k) (sym (listed_count (λ before l. l ≤ per) a.first.0 x.0 all)) (ltb-true 0 a.first.0 (judged _ bytes rule.Ledgers b.first b.is));
      each = listed_all (λ before l. l ≤ per) a.first.0 x.0 all;
    }

count_known : (ls bytes : List ℕ) (x : ℕ × List ℕ) → entry_count ls bytes ≡ Ok x → sum ls ≡ x.0
unfolding entry_count
count_known ls bytes x h =
    let a = came (number_at bytes) _ x h in
    let b = came (judge (sum ls == a.first.0) bytes rule.Ledgers) _ x a.next in
    subst (λ (y : ℕ × List ℕ). sum ls ≡ y.0) (same_value a.first x b.next) (eqb-true (sum ls) a.first.0 (judged _ bytes rule.Ledgers b.first b.is))

record AreCounted (per : ℕ) (ls : List ℕ) (count : ℕ) : Type 0 where
  pub ledgers : AreKnownLedgers per ls
  pub together : sum ls ≡ count

counted_known : (per : ℕ) (bytes : List ℕ) (x : (List ℕ × ℕ) × List ℕ) → counted_ledgers_at per bytes ≡ Ok x → AreCounted per x.0.0 x.0.1
unfolding counted_ledgers_at
counted_known per bytes x h =
    let a = came (ledgers_at per bytes) _ x h in
    let b = came (entry_count a.first.0 a.first.1) _ x a.next in
    subst (λ (y : (List ℕ × ℕ) × List ℕ). AreCounted per y.0.0 y.0.1) (same_value _ x b.next) (record { ledgers = ledgers_known per bytes a.first a.is; together = count_known a.first.0 a.first.1 b.first b.is })

record AreShares (own clusters n : ℕ) (vs : List Subscription) (ss : List Replicator) : Type 0 where
  pub subs : AreSubs n vs
  pub replicators : AllReplicators n own clusters ss

shares_known : (version own clusters n : ℕ) (bytes : List ℕ) (x : (List Subscription × List Replicator) × List ℕ) → shares_at version own clusters n bytes ≡ Ok x → AreShares own clusters n x.0.0 x.0.1
unfolding shares_at
shares_known version own clusters n bytes x h =
    let a = came (subs_at version n bytes) _ x h in
    let b = came (replicators_at n own clusters a.first.1) _ x a.next in
    subst (λ (y : (List Subscription × List Replicator) × List ℕ). AreShares own clusters n y.0.0 y.0.1) (same_value _ x b.next)
    (record { subs = subs_known version n bytes a.first a.is; replicators = replicators_known n own clusters a.first.1 b.first b.is })

behind_known : (version per : ℕ) (names : List (List ℕ)) (own : ℕ) (ledgers : List ℕ) (entries : List Entry) (bytes : List ℕ) (x : Broker × List ℕ) → AreCounted per ledgers (length entries)
    → AllFit (IsKnownEntry names own) [] entries → behind_entries version own (length names) ledgers entries bytes ≡ Ok x → IsKnownNode per names own x.0
unfolding behind_entries
behind_known version per names own ledgers entries bytes x counted each h =
    let a = came (shares_at version own (length names) (length entries) bytes) _ x h in
    let shares = shares_known version own (length names) (length entries) bytes a.first a.is in
    subst (λ (y : Broker × List ℕ). IsKnownNode per names own y.0) (same_value _ x a.next) (record {
      opened = counted.ledgers.opened;
      ledgers = counted.ledgers.each;
      together = counted.together;
      entries = each;
      subs = shares.subs;
      all_replicators = shares.replicators.count;
      replicators = shares.replicators.each;
      durable = refl;
    })

pub node_known : (version per : ℕ) (names : List (List ℕ)) (own : ℕ) (bytes : List ℕ) (x : Broker × List ℕ) → IsNode version per names own bytes (Ok x) → IsKnownNode per names own x.0
node_known version per names own bytes x h =
    let a = told (λ r. r ≡ counted_ledgers_at per bytes) (λ ls r. Then (AreEntries names own ls.0.1 ls.1) (λ es q. q ≡ behind_entries version own (length names) ls.0.0 es.0 es.1) r) x h in
    let b = told (AreEntries names own a.first.0.1 a.first.1) (λ es q. q ≡ behind_entries version own (length names) a.first.0.0 es.0 es.1) x a.next in
    let counted = counted_known per bytes a.first (sym a.is) in
    let all = all_told (IsEntry names own) (IsKnownEntry names own) (entry_known names own) a.first.0.1 [] a.first.1 b.first b.is in
    behind_known version per names own a.first.0.0 b.first.0 b.first.1 x
    (record { ledgers = counted.ledgers; together = counted.together ∙ sym (listed_count (IsKnownEntry names own) a.first.0.1 b.first.0 all) })
    (listed_all (IsKnownEntry names own) a.first.0.1 b.first.0 all) (sym b.next)
