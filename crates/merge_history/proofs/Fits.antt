-- What the merge answers.
use Rattle.std.proofs.Common.{◌≡◌, ℕ, Bool, List, length, refl, sym, ap, subst, ◌∙◌, inl, inr}
use Rattle.std.specs.Prelude.{Err, IfOk, IfSome, None, Ok, Option, Result, Some, slice_get}
use Rattle.std.proofs.lemmas.Option.{none-some, same_Some}
use Rattle.geo_base.specs.declared.event.Step.{Step}
use Rattle.geo_base.specs.declared.memory.Memory.{Memory}
use Rattle.geo_base.specs.History.{RecordedEvent}
use Rattle.geo_base.specs.Merge.{history_of, merge_of, steps_of}
use Rattle.geo_base.specs.NodeState.{NodeState, opening_state}
use Rattle.geo_base.specs.Nodes.{node_count}
use Rattle.geo_base.specs.Run.{run}
use Rattle.geo_base.specs.Scripted.{IsScripted}
use Rattle.geo_base.specs.Setup.{Setup}
use Rattle.frame_laws.specs.Logs.{StandsAs}
use Rattle.world_laws.proofs.Merges.MergeOrder.{Rises, rises}
use Rattle.world_laws.specs.Recorded.{IsAsRecorded}
use Rattle.script_text.specs.Script.{Script}
use Rattle.wire_ends.specs.declared.packet.WirePacket.{WirePacket}
use Rattle.world_laws.proofs.OnceInOrder.Members.{below_or}
use Rattle.merge_history.proofs.Firsts.{nothing_past}
use Rattle.merge_history.proofs.Runs.{runs_begun, runs_whole}
use Rattle.merge_history.specs.declared.differences.PacketDifference.{PacketDifference}
use Rattle.merge_history.specs.Differences.{AllSent, Takes, sent_there}
use Rattle.merge_history.specs.Ends.{AreStood, layout_of}
use Rattle.merge_history.specs.Firsts.{AreRising, ComesBefore, IsFirst}
use Rattle.merge_history.specs.Kept.{Kept, kept_by}
use Rattle.merge_history.specs.Peers.{LayoutView}
use Rattle.merge_history.specs.declared.difference.Difference.{Difference}
use Rattle.merge_history.specs.declared.difference.Difference.TheVariants as difference
use Rattle.merge_history.specs.declared.merge.Merged.{Merged}
use Rattle.merge_history.specs.Logs.{AreLogs, AreKept, AreOwn, AreTold, LogView, IsFirstFalse, kept_of}
use Rattle.merge_history.specs.Merges.{DiffersAs, IsFirstPacket, IsMerged, IsPacket, IsStrangeAt}
use Rattle.merge_history.specs.Turns.{AlikeAll, Rise}
use Rattle.merge_history.proofs.Rising.{alike_all, kept_rise, rise_is}
use Rattle.merge_history.proofs.Said.{Said, are_stood, said_fits, said_of}
use Rattle.merge_history.proofs.Judging.{first_is, kept_is}

-- the first difference of packets, with both packets
pub first_packet : (l : LayoutView) (kept : List (List Kept)) (d : PacketDifference) (sent : Option WirePacket) (taken : WirePacket) → IsFirst l kept (length kept) d
    → sent ≡ sent_there l kept d.node d.found.place d.found.peer → Takes l kept d.node d.found.place d.found.peer taken
    → IsFirstPacket l kept d.node d.found.peer d.found.index sent taken
first_packet l kept d sent taken h sent_is takes = record {
  place = d.found.place;
  takes = takes;
  index_is = h.found.index;
  sent_is = sent_is;
  differs = λ same. h.found.first.differs (sym sent_is ∙ (same ∙ (sym takes.taken ∙ (ap (λ (e : Kept). e.taken) (one_event takes h.found.first.takes) ∙ h.found.first.takes.taken))));
  first = λ m i e at before.
      elim (below_or m (length kept)) [
        | inl lt ↦ h.first m i e lt at (subst (λ (s : ℕ). ComesBefore e.stamp m s d.node) (sym (h.stamp takes.event takes.there)) before)
        | inr ge ↦ absurd (none-some e (ap (λ (xs : List Kept). slice_get xs i) (sym (nothing_past kept m ge)) ∙ at))
      ];
}
  where
    one_event : {b c : WirePacket} (t : Takes l kept d.node d.found.place d.found.peer b) (u : Takes l kept d.node d.found.place d.found.peer c) → t.event ≡ u.event
    one_event t u = same_Some t.event u.event (sym t.there ∙ u.there)

-- no log is strange
pub fits : (c : Script) (bs : List LogView) (kept : List (List Kept)) (o : Option Difference) → AreOwn c bs → (o ≡ None → (n : ℕ) → AllSent (layout_of c.setup) kept n)
    → ((d : Difference) → o ≡ Some d → IsPacket (layout_of c.setup) kept d) → DiffersAs c bs kept o
fits c bs kept None own none some = (own, none refl)
fits c bs kept (Some (difference.Config n old given)) own none some = absurd (some (difference.Config n old given) refl)
fits c bs kept (Some (difference.Packet n q index sent taken)) own none some = (own, some (difference.Packet n q index sent taken) refl)

pub strange_differs : (c : Script) (ts : List Bool) (bs : List LogView) (k : ℕ) (kept : List (List Kept)) (d : Difference) → AreTold c bs ts → IsFirstFalse ts k
    → IsStrangeAt c bs k d → DiffersAs c bs kept (Some d)
strange_differs c ts bs k kept (difference.Config n old given) told first is = first_is c ts bs n k old given told first is
strange_differs c ts bs k kept (difference.Packet n q index sent taken) told first is = absurd is

pub none_strange : (c : Script) (bs : List LogView) (kept : List (List Kept)) (l : LayoutView) (r : Result (Option Difference) Memory) → AreOwn c bs → l ≡ layout_of c.setup
    → (r ≡ Ok None → (n : ℕ) → AllSent l kept n) → IfOk r (λ o. IfSome o (IsPacket l kept)) → IfOk r (DiffersAs c bs kept)
none_strange c bs kept l (Ok o) own same none some =
    fits c bs kept o own (λ nothing n. subst (λ (l : LayoutView). AllSent l kept n) same (none (ap (λ (o : Option Difference). Ok o) nothing) n))
    (λ d is. subst (λ (l : LayoutView). IsPacket l kept d) same (subst (λ (o : Option Difference). IfSome o (IsPacket l kept)) is some))
none_strange c bs kept l (Err m) own same none some = tt

-- ---- all of it
pub merged : (c : Script) (bs : List LogView) (ts : List Bool) (st : ℕ → NodeState) (clock : ℕ → ℕ) (m : Merged) → IsScripted c.setup → length bs ≡ node_count c.setup
    → AreTold c bs ts → ((said : List (List RecordedEvent)) → AlikeAll (kept_of ts bs) said → ((n : ℕ) → Rise (history_of said n)) → m.steps ≡ steps_of (merge_of said))
    → (AreRising (kept_of ts bs) → DiffersAs c bs (kept_of ts bs) m.differs) → AreLogs bs st clock → IsMerged c bs st m
merged c bs ts st clock m scripted count told steps differs logs = record {
  kept = kept;
  counts = counts;
  said = said.list;
  stands = stood;
  steps = steps_is;
  differs = differs_is;
  moment = λ nothing ms later parts. runs_begun s l kept said.list ms later stood (all nothing) parts;
  whole = λ nothing. whole nothing;
  states = λ nothing n b at.
      (said_fits c bs kept st counts said n).state b at ((fitting nothing).0 n b at) ∙ sym ((whole nothing).states n);
}
  where
    s : Setup
    s = c.setup

    l : LayoutView
    l = layout_of c.setup

    kept : List (List Kept)
    kept = kept_of ts bs

    counts : AreKept c bs kept
    counts = kept_is c ts bs told

    said : Said c bs kept st
    said = said_of c bs kept st clock counts logs

    stood : AreStood s l kept said.list
    stood = are_stood c bs kept st scripted count counts said

    rises_all : (n : ℕ) → Rises (history_of said.list n)
    rises_all n = rises s n (opening_state s n) 0 (history_of said.list n) (stood.replay n)

    steps_is : m.steps ≡ steps_of (merge_of said.list)
    steps_is =
        steps said.list (alike_all (StandsAs s.clusters) kept said.list (counts.size ∙ sym said.many) stood.stands) (λ n. rise_is (history_of said.list n) (rises_all n))

    differs_is : DiffersAs c bs kept m.differs
    differs_is = differs (λ n. kept_rise (StandsAs s.clusters) (kept_by kept n) (history_of said.list n) (stood.stands n) (rises_all n))

    fitting : m.differs ≡ None → AreOwn c bs × ((n : ℕ) → AllSent l kept n)
    fitting nothing = subst (DiffersAs c bs kept) nothing differs_is

    all : m.differs ≡ None → (n : ℕ) → AllSent l kept n
    all nothing = (fitting nothing).1

    whole : m.differs ≡ None → IsAsRecorded s (history_of said.list) (run s m.steps)
    whole nothing =
        subst (λ (es : List Step). IsAsRecorded s (history_of said.list) (run s es)) (sym steps_is) (runs_whole s l kept said.list stood (all nothing))
