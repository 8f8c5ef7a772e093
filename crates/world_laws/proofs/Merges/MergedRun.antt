-- The law of the merge.
use Rattle.std.proofs.Common.{◌≡◌, ℕ, ◌+◌, List, [], ◌∷◌, ◌++◌, length, refl, sym, ap, subst, ◌∙◌, arith}
use Rattle.std.specs.Prelude.{None}
use Rattle.std.proofs.lemmas.List.{append-nil}
use Rattle.world_laws.proofs.Types.{Packet}
use Rattle.geo_base.specs.Agreement.{AreAlike, AreExactHistories, AreHistories, recorded_sent, recorded_taken}
use Rattle.geo_base.specs.Happening.{happens}
use Rattle.geo_base.specs.History.{RecordedEvent, last_stamp, replayed, sent_in, taken_in}
use Rattle.geo_base.specs.Link.{Link}
use Rattle.geo_base.specs.Merge.{IsMerge, IsOrdered, Merged, history_of, merge_of, of_node, steps_of}
use Rattle.geo_base.specs.NodeState.{NodeState, clock_at, opening_state, state_at}
use Rattle.geo_base.specs.Nodes.{sender_of, taker_of}
use Rattle.geo_base.specs.Run.{Ran, no_limits, run, run_from, steps}
use Rattle.geo_base.specs.Scripted.{IsScripted}
use Rattle.geo_base.specs.Setup.{Setup}
use Rattle.geo_base.specs.World.{LinkName, World, link_at, opening_world}
use Rattle.world_laws.specs.Recorded.{IsAsRecorded, merged_world}
use Rattle.world_laws.proofs.Merges.LinkTables.{moved}
use Rattle.world_laws.proofs.Merges.MergeOrder.{Rises, merge_is, rises}
use Rattle.world_laws.proofs.Merges.Merging.{Merges, Stands, after_all, merges, still_sent, still_taken}
use Rattle.world_laws.proofs.Merges.OnlyMerge.{only_merge}
use Rattle.world_laws.proofs.Merges.Opened.{opening_clock_is, opening_link, opening_stands, opening_state_is}

-- a run over plain steps without limits does their events
ran_is : (s : Setup) (w : World) (ms : List Merged)
    → run_from no_limits s (record { world = w; ended = None }) (steps_of ms) ≡ record { world = after_all s w ms; ended = None }
unfolding steps
ran_is s w [] = refl
ran_is s w (m ∷ ms) = ran_is s (happens s w m.recorded.event) ms

pub merged_is : (s : Setup) (ms : List Merged) → run s (steps_of ms) ≡ after_all s (opening_world s) ms
merged_is s ms = ap (λ (r : Ran). r.world) (ran_is s (opening_world s) ms)

-- what was taken is like itself
alike_self : (s : Setup) (ps : List Packet) → AreAlike s ps ps
alike_self s [] = tt
alike_self s (p ∷ ps) = (record { stamp = refl; acts = λ st e. refl }, alike_self s ps)

pub are_like : (s : Setup) (hs : List (List RecordedEvent)) → AreExactHistories s hs → AreHistories s hs
are_like s hs are = record {
  nodes = are.nodes;
  replay = are.replay;
  agree = λ k has.
      let b = are.agree k has in
      record { front = recorded_taken s hs k; rest = b.0; whole = b.1; alike = alike_self s (recorded_taken s hs k) };
}

pub all_rise : (s : Setup) (hs : List (List RecordedEvent)) → AreHistories s hs → (n : ℕ) → Rises (history_of hs n)
all_rise s hs are n = rises s n (opening_state s n) 0 (history_of hs n) (are.replay n)

pub is_merge : (s : Setup) (hs : List (List RecordedEvent)) → AreHistories s hs → IsMerge hs (merge_of hs)
is_merge s hs are = merge_is hs (all_rise s hs are)

pub is_only : (s : Setup) (hs : List (List RecordedEvent)) (ms : List Merged) → AreHistories s hs → IsMerge hs ms → ms ≡ merge_of hs
is_only s hs ms are is = only_merge hs ms (all_rise s hs are) is

-- a beginning of the merge, done
begun : (s : Setup) (hs : List (List RecordedEvent)) (ms later : List Merged) → IsScripted s → AreHistories s hs → merge_of hs ≡ ms ++ later
    → Merges s (opening_world s) ms (after_all s (opening_world s) ms)
begun s hs ms later scripted are parts =
    let is = is_merge s hs are in
    merges s (opening_world s) ms later (subst (Stands s (opening_world s)) parts (opening_stands s hs (merge_of hs) scripted are is)) (subst IsOrdered parts is.order)

pub has_begun : (s : Setup) (hs : List (List RecordedEvent)) (ms later : List Merged) → IsScripted s → AreHistories s hs → merge_of hs ≡ ms ++ later
    → IsAsRecorded s (λ n. of_node n ms) (run s (steps_of ms))
has_begun s hs ms later scripted are parts = record {
  states = λ n.
      ap (λ (w : World). state_at s w n) here ∙ (m.states n ∙ ap (λ (st : NodeState). replayed s st (of_node n ms)) (opening_state_is s n));
  clocks = λ n. ap (λ (w : World). clock_at s w n) here ∙ (m.clocks n ∙ ap (λ (c : ℕ). last_stamp c (of_node n ms)) (opening_clock_is s n));
  links = λ k has.
      ap (λ (w : World). link_at w.links k) here
      ∙ (m.links k has
      ∙ (ap (λ (l : Link). moved l (still_sent s ms k) (length (still_taken s (opening_world s) ms k))) (opening_link s k)
      ∙ ap (λ (i : ℕ). record { sent = still_sent s ms k; taken = i }) (taken_is k)));
}
  where
    m : Merges s (opening_world s) ms (after_all s (opening_world s) ms)
    m = begun s hs ms later scripted are parts

    here : run s (steps_of ms) ≡ after_all s (opening_world s) ms
    here = merged_is s ms

    taken_is : (k : LinkName) → 0 + length (still_taken s (opening_world s) ms k) ≡ length (taken_in s k (opening_state s (taker_of s k)) (of_node (taker_of s k) ms))
    taken_is k =
        let e : still_taken s (opening_world s) ms k ≡ taken_in s k (opening_state s (taker_of s k)) (of_node (taker_of s k) ms) =
        ap (λ (st : NodeState). taken_in s k st (of_node (taker_of s k) ms)) (opening_state_is s (taker_of s k)) in
        let l = ap (λ (ps : List Packet). length ps) e in
        omega (arith, l)

-- all of it
pub has_recorded : (s : Setup) (hs : List (List RecordedEvent)) → IsScripted s → AreHistories s hs → IsAsRecorded s (history_of hs) (merged_world s hs)
has_recorded s hs scripted are = record {
  states = λ n. h.states n ∙ ap (replayed s (opening_state s n)) (is.each n);
  clocks = λ n. h.clocks n ∙ ap (last_stamp 0) (is.each n);
  links = λ k has.
      h.links k has
      ∙ (ap (λ (ps : List Packet). record { sent = ps; taken = length (taken_in s k (opening_state s (taker_of s k)) (of_node (taker_of s k) (merge_of hs))) })
      (ap (sent_in s k) (is.each (sender_of s k)))
      ∙ ap (λ (ds : List RecordedEvent). record { sent = recorded_sent s hs k; taken = length (taken_in s k (opening_state s (taker_of s k)) ds) }) (is.each (taker_of s k)));
}
  where
    is : IsMerge hs (merge_of hs)
    is = is_merge s hs are

    h : IsAsRecorded s (λ n. of_node n (merge_of hs)) (merged_world s hs)
    h = has_begun s hs (merge_of hs) [] scripted are (sym (append-nil (merge_of hs)))

pub counted : (s : Setup) (hs : List (List RecordedEvent)) → IsScripted s → AreHistories s hs → ((merged_world s hs).idle ≡ 0) × ((merged_world s hs).events ≡ length (merge_of hs))
counted s hs scripted are =
    let m = begun s hs (merge_of hs) [] scripted are (sym (append-nil (merge_of hs))) in
    let here = merged_is s (merge_of hs) in
    let e : 0 + length (merge_of hs) ≡ length (merge_of hs) = omega arith in
    (ap (λ (w : World). w.idle) here ∙ m.idle, ap (λ (w : World). w.events) here ∙ (m.events ∙ e))
