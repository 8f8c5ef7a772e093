-- Ledgers have as many entries as their topic, and none has more than a ledger takes.
use Rattle.std.proofs.Common.{◌≡◌, ℕ, ◌<◌, ◌≤◌, List, [], ◌∷◌, ◌++◌, length, sym, subst, arith}
use Rattle.std.specs.Prelude.{nat_lt, is_some}
use Rattle.std.proofs.lemmas.Bool.{ltb-true}
use Rattle.std.proofs.lemmas.List.{length_push}
use Rattle.world_laws.proofs.Types.{Change, Entry, Write}
use Rattle.world_laws.proofs.Types.change
use Rattle.world_laws.proofs.Types.write
use Rattle.geo_base.specs.Broker.{Broker, changed, sub_named, written}
use Rattle.geo_base.specs.Topic.{grown}
use Rattle.world_laws.proofs.Replicating.Effects.{Each, each_both}
use Rattle.world_laws.proofs.TopicOrder.Ledgers.{grown_is, grown_some, one_more, opened_some, total, total_grown, total_opened}
use Rattle.world_laws.proofs.Walks.Walk.{on_if, on_test}

pub record AreLedgersOf (per : ℕ) (es : List Entry) (ls : List ℕ) : Type 0 where
  pub some : 0 < length ls
  pub whole : total ls ≡ length es
  pub each : Each (λ (l : ℕ). l ≤ per) ls

abbrev pub HasLedgers : ℕ → Broker → Type 0
HasLedgers per b = AreLedgersOf per b.entries b.ledgers

more_each : (per : ℕ) (ls : List ℕ) → 1 ≤ per → Each (λ (l : ℕ). l ≤ per) ls → Each (λ (l : ℕ). l ≤ per) (one_more per ls)
more_each per [] one h = (one, tt)
more_each per (l ∷ []) one h =
    on_test (Each (λ (m : ℕ). m ≤ per)) (nat_lt l per) _ _ (λ is. let lt = ltb-true l per is in (omega (arith, lt), tt)) (λ is. (h.0, (one, tt)))
more_each per (l ∷ m ∷ ls) one h = (h.0, more_each per (m ∷ ls) one h.1)

appended : (per : ℕ) (b : Broker) (e : Entry) → 1 ≤ per → HasLedgers per b → AreLedgersOf per (b.entries ++ e ∷ []) (grown per b.ledgers)
appended per b e one h = record {
  some = grown_some per b.ledgers h.some;
  whole = let t = total_grown per b.ledgers h.some in let l = length_push b.entries e in let w = h.whole in omega (arith, t, l, w);
  each = subst (Each (λ (l : ℕ). l ≤ per)) (sym (grown_is per b.ledgers h.some)) (more_each per b.ledgers one h.each);
}

opened : (per : ℕ) (b : Broker) → HasLedgers per b → AreLedgersOf per b.entries (b.ledgers ++ 0 ∷ [])
opened per b h = record {
  some = opened_some b.ledgers;
  whole = let t = total_opened b.ledgers in let w = h.whole in omega (arith, t, w);
  each = each_both (λ (l : ℕ). l ≤ per) b.ledgers (0 ∷ []) h.each (omega arith, tt);
}

same_ledgers : (per : ℕ) (es : List Entry) (ls : List ℕ) → AreLedgersOf per es ls → AreLedgersOf per es ls
same_ledgers per es ls h = h

pub written_ledgers : (per : ℕ) → 1 ≤ per → (b : Broker) (w : Write) → HasLedgers per b → HasLedgers per (written per b w)
written_ledgers per one b (write.Append e) h = appended per b e one h
written_ledgers per one b (write.Create n kind replicated latest) h = on_if (HasLedgers per) (is_some (sub_named b.subs n)) b _ h (same_ledgers per b.entries b.ledgers h)
written_ledgers per one b write.Ledger h = opened per b h
written_ledgers per one b (write.Alter n kind replicated) h = same_ledgers per b.entries b.ledgers h
written_ledgers per one b (write.Delete n) h = same_ledgers per b.entries b.ledgers h
written_ledgers per one b (write.Acks n is) h = same_ledgers per b.entries b.ledgers h
written_ledgers per one b (write.Seek n i) h = same_ledgers per b.entries b.ledgers h
written_ledgers per one b (write.ReplicatorAck y i) h = same_ledgers per b.entries b.ledgers h
written_ledgers per one b (write.SessionNumber y n) h = same_ledgers per b.entries b.ledgers h

pub changed_ledgers : (per : ℕ) (b : Broker) (c : Change) → HasLedgers per b → HasLedgers per (changed b c)
changed_ledgers per b (change.Receiver x r) h = same_ledgers per b.entries b.ledgers h
changed_ledgers per b (change.Client c r) h = same_ledgers per b.entries b.ledgers h
changed_ledgers per b (change.Attach n k) h = same_ledgers per b.entries b.ledgers h
changed_ledgers per b (change.Detach c) h = same_ledgers per b.entries b.ledgers h
changed_ledgers per b (change.Permit n c permits) h = same_ledgers per b.entries b.ledgers h
changed_ledgers per b (change.Skipped n i) h = same_ledgers per b.entries b.ledgers h
changed_ledgers per b (change.Given n i at) h = same_ledgers per b.entries b.ledgers h
changed_ledgers per b (change.Cache n c) h = same_ledgers per b.entries b.ledgers h
changed_ledgers per b (change.Acked n) h = same_ledgers per b.entries b.ledgers h
changed_ledgers per b (change.Cleared n) h = same_ledgers per b.entries b.ledgers h
changed_ledgers per b (change.Opening y) h = same_ledgers per b.entries b.ledgers h
changed_ledgers per b (change.Opened y) h = same_ledgers per b.entries b.ledgers h
changed_ledgers per b (change.Pend y i) h = same_ledgers per b.entries b.ledgers h
changed_ledgers per b (change.ReadTo y i) h = same_ledgers per b.entries b.ledgers h
changed_ledgers per b (change.Unpend y n) h = same_ledgers per b.entries b.ledgers h
changed_ledgers per b (change.Building u) h = same_ledgers per b.entries b.ledgers h
changed_ledgers per b change.Forget h = same_ledgers per b.entries b.ledgers h
