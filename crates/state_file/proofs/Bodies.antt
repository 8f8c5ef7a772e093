-- A body, exit by exit.
use Rattle.std.proofs.Common.{◌≡◌, ℕ, List, length, Result, Ok, Err, refl, sym}
use Rattle.geo_base.specs.Broker.{Broker}
use Rattle.script_text.specs.Script.{Script}
use Rattle.state_items.specs.declared.fault.ItemFault.{ItemFault}
use Rattle.state_items.specs.declared.fault.ItemFault.TheVariants as item_fault
use Rattle.state_items.specs.Reading.{Fails, Gives}
use Rattle.state_items.specs.Telling.{Tells, TellsFault, goes, stops}
use Rattle.state_file.specs.Reading.{AreNodes, IsBody, head_at, tail_at}
use Rattle.state_file.specs.State.{SavedState}
use Rattle.state_nodes.specs.declared.counts.Counts.{Counts}

pub head_stops : (version size : ℕ) (body : List ℕ) (e : ItemFault) → Fails e (head_at body) → TellsFault e (IsBody version size body)
head_stops version size body item_fault.Memory h = tt
head_stops version size body (item_fault.Broken b) h = stops b (sym h) refl

pub nodes_stop : (version size : ℕ) (body : List ℕ) (script : Script) (counts : Counts) (rest : List ℕ) (e : ItemFault) → head_at body ≡ Ok ((script, counts), rest) → TellsFault e (AreNodes version script.setup rest) → TellsFault e (IsBody version size body)
nodes_stop version size body script counts rest item_fault.Memory read h = tt
nodes_stop version size body script counts rest (item_fault.Broken b) read h = goes ((script, counts), rest) (sym read) (stops b h refl)

pub tail_told : {X : Type 0} (version size : ℕ) (body : List ℕ) (script : Script) (counts : Counts) (rest : List ℕ) (brokers : List Broker) (behind : List ℕ) (view : X → SavedState) (r : Result X ItemFault) → head_at body ≡ Ok ((script, counts), rest)
    → AreNodes version script.setup rest (Ok (brokers, behind)) → Gives view r (tail_at size (length body) script counts brokers behind) → Tells view r (IsBody version size body)
tail_told version size body script counts rest brokers behind view (Ok x) read ns g = goes ((script, counts), rest) (sym read) (goes (brokers, behind) ns (sym g))
tail_told version size body script counts rest brokers behind view (Err item_fault.Memory) read ns g = tt
tail_told version size body script counts rest brokers behind view (Err (item_fault.Broken b)) read ns g = goes ((script, counts), rest) (sym read) (goes (brokers, behind) ns (sym g))
