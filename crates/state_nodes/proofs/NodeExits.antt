-- A broker, exit by exit.
use Rattle.std.proofs.Common.{◌≡◌, ℕ, List, Result, Ok, Err, refl, sym}
use Rattle.std.specs.Prelude.{length}
use Rattle.geo_base.specs.declared.entry.Entry.{Entry}
use Rattle.geo_base.specs.Broker.{Broker}
use Rattle.state_items.specs.declared.fault.ItemFault.{ItemFault}
use Rattle.state_items.specs.declared.fault.ItemFault.TheVariants as item_fault
use Rattle.state_items.specs.Reading.{Fails, Gives}
use Rattle.state_items.specs.Telling.{Tells, TellsFault, goes, stops}
use Rattle.state_nodes.specs.Entries.{AreEntries}
use Rattle.state_nodes.specs.Nodes.{IsNode, behind_entries, counted_ledgers_at}

pub ledgers_stop : (version per : ℕ) (names : List (List ℕ)) (own : ℕ) (bytes : List ℕ) (e : ItemFault) → Fails e (counted_ledgers_at per bytes) → TellsFault e (IsNode version per names own bytes)
ledgers_stop version per names own bytes item_fault.Memory h = tt
ledgers_stop version per names own bytes (item_fault.Broken b) h = stops b (sym h) refl

pub entries_stop : (version per : ℕ) (names : List (List ℕ)) (own : ℕ) (bytes ledgers : List ℕ) (count : ℕ) (rest : List ℕ) (e : ItemFault) → counted_ledgers_at per bytes ≡ Ok ((ledgers, count), rest) → TellsFault e (AreEntries names own count rest) → TellsFault e (IsNode version per names own bytes)
entries_stop version per names own bytes ledgers count rest item_fault.Memory read h = tt
entries_stop version per names own bytes ledgers count rest (item_fault.Broken b) read h = goes ((ledgers, count), rest) (sym read) (stops b h refl)

pub behind_told : {X : Type 0} (version per : ℕ) (names : List (List ℕ)) (own : ℕ) (bytes ledgers : List ℕ) (count : ℕ) (rest : List ℕ) (entries : List Entry) (behind : List ℕ) (view : X → Broker × List ℕ) (r : Result X ItemFault) → counted_ledgers_at per bytes ≡ Ok ((ledgers, count), rest)
    → AreEntries names own count rest (Ok (entries, behind)) → Gives view r (behind_entries version own (length names) ledgers entries behind) → Tells view r (IsNode version per names own bytes)
behind_told version per names own bytes ledgers count rest entries behind view (Ok x) read es g = goes ((ledgers, count), rest) (sym read) (goes (entries, behind) es (sym g))
behind_told version per names own bytes ledgers count rest entries behind view (Err item_fault.Memory) read es g = tt
behind_told version per names own bytes ledgers count rest entries behind view (Err (item_fault.Broken b)) read es g = goes ((ledgers, count), rest) (sym read) (goes (entries, behind) es (sym g))
