-- What each event of a run changed of what a report shows (own): the lines of `steps`. A line of a report that is new or other than
-- before stands under its node's line, and nothing else is told. The words of an event are handed in, since
-- their table stands apart (`script_rows`).
use Rattle.std.specs.Prelude.{ℕ, zero, suc, ◌+◌, ◌==◌, Bool, true, false, not, ◌&&◌, if◌then◌else◌, List, [], ◌∷◌, ◌++◌, length, map, filter, drop, Option, Some, None, slice_index_or, is_some, codes, decimal}
use Rattle.geo_base.specs.declared.event.Event.{Event}
use Rattle.geo_base.specs.declared.event.Step.{Step}
use Rattle.geo_base.specs.declared.event.Step.TheVariants as step
use Rattle.geo_base.specs.declared.replicator.ReplicatorState.{ReplicatorState}
use Rattle.geo_base.specs.declared.replicator.ReplicatorState.TheVariants as replicator_state
use Rattle.geo_base.specs.Broker.{Broker, backlog, replicator_at, sub_named}
use Rattle.geo_base.specs.Client.{Client}
use Rattle.geo_base.specs.Cursor.{mark}
use Rattle.geo_base.specs.Nodes.{BrokerNode, ClientNode, Node, node_of}
use Rattle.geo_base.specs.Report.{client_line, entry_lines, got_line, head_line, report_lines, replicator_line, sub_line, words}
use Rattle.geo_base.specs.Run.{Limits, Ran, all_settle, budget, counting_round, pairs, resets_of, round_of, run_from, settles, steps}
use Rattle.geo_base.specs.Replicator.{Replicator}
use Rattle.geo_base.specs.Setup.{Setup, declared_at, topic_name}
use Rattle.geo_base.specs.Subscribing.{same_kind}
use Rattle.geo_base.specs.Subscription.{Subscription}
use Rattle.geo_base.specs.World.{World, client_at, topic_at}
use Rattle.script_text.specs.Said.{Said}

-- ---- what a report shows of a replicator, a subscription and a client is the same

abbrev pub same_bool : Bool → Bool → Bool
same_bool true b = b
same_bool false b = not b

abbrev pub same_state : ReplicatorState → ReplicatorState → Bool
same_state replicator_state.Closed replicator_state.Closed = true
same_state replicator_state.Opening replicator_state.Opening = true
same_state replicator_state.Open replicator_state.Open = true
same_state a b = false

abbrev pub same_replicator : Replicator → Replicator → Bool
same_replicator s q = (s.session == q.session) && same_state s.state q.state && (mark s.cursor == mark q.cursor)

-- of one name, v at the broker b before the event, and u at the broker a after it
abbrev pub same_sub : Broker → Subscription → Broker → Subscription → Bool
same_sub b v a u =
    same_kind v.kind u.kind && same_bool v.replicated u.replicated && (mark v.cursor == mark u.cursor)
    && (backlog b v == backlog a u) && (v.seeks == u.seeks)

abbrev pub same_client : Client → Client → Bool
same_client k m =
    (k.cluster == m.cluster) && (k.done == m.done) && (k.receipts == m.receipts) && (k.duplicates == m.duplicates) && (k.errors == m.errors)

-- ---- one change: a line of the report with what tells whose it is, or a subscription that is gone

pub data ReportChange : Type 0 where
  NewEntry : (line : List ℕ) → ReportChange
  ReplicatorNow : (cluster : ℕ) → (line : List ℕ) → ReportChange
  SubGone : (name : List ℕ) → ReportChange
  SubNow : (name : List ℕ) → (line : List ℕ) → ReportChange
  ClientNow : (line : List ℕ) → ReportChange
  NewGot : (line : List ℕ) → ReportChange

-- ---- at a broker, which was b and is a

abbrev pub new_entries : List (List ℕ) → Broker → Broker → List ReportChange
new_entries names b a = map (λ line. NewEntry line) (entry_lines names a.ledgers (length b.entries) (drop (length b.entries) a.entries))

-- to each other cluster, y being the number of the first one of the list
abbrev pub other_replicators : ℕ → ℕ → List (List ℕ) → Broker → Broker → List ReportChange
other_replicators own y [] b a = []
other_replicators own y (n ∷ ns) b a =
    (if (own == y) then [] else if same_replicator (replicator_at b y) (replicator_at a y) then [] else ReplicatorNow y (replicator_line n (replicator_at a y)) ∷ [])
    ++ other_replicators own (y + 1) ns b a

abbrev pub gone_subs : Broker → Broker → List ReportChange
gone_subs b a = map (λ (v : Subscription). SubGone v.name) (filter (λ (v : Subscription). not (is_some (sub_named a.subs v.name))) b.subs)

abbrev pub sub_unless_same : Broker → Option Subscription → Broker → Subscription → List ReportChange
sub_unless_same b None a u = SubNow u.name (sub_line a u) ∷ []
sub_unless_same b (Some v) a u = if same_sub b v a u then [] else SubNow u.name (sub_line a u) ∷ []

abbrev pub other_subs : Broker → Broker → List Subscription → List ReportChange
other_subs b a [] = []
other_subs b a (u ∷ us) = sub_unless_same b (sub_named b.subs u.name) a u ++ other_subs b a us

-- in the order of a report, with what is gone before what is new
abbrev pub broker_changes : List (List ℕ) → ℕ → Broker → Broker → List ReportChange
broker_changes names x b a = new_entries names b a ++ (other_replicators x 0 names b a ++ (gone_subs b a ++ other_subs b a a.subs))

-- ---- at a client, which was k and is m: its line, also where only what it got is new, and that

abbrev pub new_got : List (List ℕ) → Client → Client → List ReportChange
new_got names k m = map (λ i. NewGot (got_line names i)) (drop (length k.got) m.got)

abbrev pub is_unchanged : Client → Client → Bool
is_unchanged k m = same_client k m && (length k.got == length m.got)

abbrev pub client_changes : Setup → ℕ → Client → Client → List ReportChange
client_changes s c k m = if is_unchanged k m then [] else ClientNow (client_line s (declared_at s c) m) ∷ new_got s.clusters k m

-- ---- at a node, from the world before to the world after

pub record Changed : Type 0 where
  pub node : Node
  pub changes : List ReportChange

abbrev pub unless_none : Node → List ReportChange → List Changed
unless_none n [] = []
unless_none n (c ∷ cs) = record { node = n; changes = c ∷ cs } ∷ []

abbrev pub changed_at : Setup → World → World → Node → List Changed
changed_at s w v (BrokerNode t x) = unless_none (BrokerNode t x) (broker_changes s.clusters x (topic_at s w t x) (topic_at s v t x))
changed_at s w v (ClientNode c) = unless_none (ClientNode c) (client_changes s c (client_at s w c) (client_at s v c))

-- of all brokers, in the order of a report: what a stop of everything changes. It changes nothing that is shown of a client
abbrev pub changed_from : Setup → World → World → ℕ → ℕ → List (List ℕ) → List Changed
changed_from s w v t x [] = []
changed_from s w v t x (n ∷ ns) = changed_at s w v (BrokerNode t x) ++ changed_from s w v t (x + 1) ns

abbrev pub changed_in : Setup → World → World → ℕ → List (List ℕ) → List Changed
changed_in s w v t [] = []
changed_in s w v t (n ∷ ns) = changed_from s w v t 0 s.clusters ++ changed_in s w v (t + 1) ns

-- ---- what a step tells

-- an event that was not idle, by its number among such events
pub record ToldEvent : Type 0 where
  pub event : Event
  pub number : ℕ
  pub at : List Changed

-- head: the counts after a settle
pub data ToldStep : Type 0 where
  WasIdle : ToldStep
  Did : (at : List Changed) → ToldStep
  Settled : (events : List ToldEvent) → (head : List ℕ) → ToldStep

-- of a plain event, or of a stop in its midst: w is the world before, v the one after
abbrev pub did_or_idle : Setup → World → World → Event → ToldStep
did_or_idle s w v e = if v.events == w.events then WasIdle else Did (changed_at s w v (node_of s e))

-- of an event of settling, unless it is idle or would pass a limit
abbrev pub told_settling : Setup → World → Ran → Event → List ToldEvent
told_settling s w r e =
    if is_some r.ended then []
    else if r.world.events == w.events then []
    else record { event = e; number = r.world.events; at = changed_at s w r.world (node_of s e) } ∷ []

abbrev pub settling_told : Limits → Setup → Ran → List Event → List ToldEvent
settling_told l s r [] = []
settling_told l s r (e ∷ es) = let q = settles l s r e in told_settling s r.world q e ++ settling_told l s q es

-- rounds as settling has them: until one does nothing
abbrev pub rounds_told : ℕ → Limits → Setup → Ran → List ToldEvent
rounds_told zero l s r = []
rounds_told (suc more) l s r =
    let q = all_settle l s r (round_of (pairs s)) in
    settling_told l s r (round_of (pairs s))
    ++ (elim (not (is_some q.ended) && not (q.world.events == r.world.events)) as (λ b. List ToldEvent) [ true ↦ rounds_told more l s (counting_round q) | false ↦ [] ])

abbrev pub settle_told : Limits → Setup → Ran → List ToldEvent
settle_told l s r =
    settling_told l s r (resets_of (pairs s)) ++ rounds_told (budget s r.world + 1) l s (all_settle l s r (resets_of (pairs s)))

-- r is how far the run had come; a step that would pass a limit tells nothing, as what is refused has no steps
unfoldable pub step_told : Limits → Setup → Ran → Step → ToldStep
step_told l s r (step.Plain e) = did_or_idle s r.world (steps l s r (step.Plain e)).world e
step_told l s r (step.Halt k e) = did_or_idle s r.world (steps l s r (step.Halt k e)).world e
step_told l s r step.Settle = Settled (settle_told l s r) (head_line (steps l s r step.Settle).world)
step_told l s r step.Stop = Did (changed_in s r.world (steps l s r step.Stop).world 0 s.topics)

abbrev pub told_from : Limits → Setup → Ran → List Step → List ToldStep
told_from l s r [] = []
told_from l s r (e ∷ es) = step_told l s r e ∷ told_from l s (steps l s r e) es

-- ---- the lines

abbrev pub change_line : ReportChange → List ℕ
change_line (NewEntry line) = line
change_line (ReplicatorNow y line) = line
change_line (SubGone n) = words (codes "gone" ∷ n ∷ [])
change_line (SubNow n line) = line
change_line (ClientNow line) = line
change_line (NewGot line) = line

-- a broker's lines stand under `topic T at X`, as in a report; a client's line is its own
abbrev pub node_lines : Setup → Node → List (List ℕ)
node_lines s (BrokerNode t x) = words (codes "topic" ∷ topic_name s t ∷ codes "at" ∷ slice_index_or s.clusters x [] ∷ []) ∷ []
node_lines s (ClientNode c) = []

abbrev pub changed_lines : Setup → List Changed → List (List ℕ)
changed_lines s [] = []
changed_lines s (d ∷ ds) = node_lines s d.node ++ (map change_line d.changes ++ changed_lines s ds)

abbrev pub indented : List ℕ → List ℕ
indented line = 32 ∷ 32 ∷ line

-- event NUMBER WORDS, and what it changed
abbrev pub event_lines : (Step → List ℕ) → Setup → List ToldEvent → List (List ℕ)
event_lines wording s [] = []
event_lines wording s (d ∷ ds) =
    words (codes "event" ∷ decimal d.number ∷ wording (step.Plain d.event) ∷ []) ∷ map indented (changed_lines s d.at) ++ event_lines wording s ds

-- step NUMBER line LINE, `idle` where it was idle, and the line's words; after it what it changed, or the events of a settle and the
-- counts
abbrev pub step_head : ℕ → Said → List (List ℕ) → List ℕ
step_head n a ws = words (codes "step" ∷ decimal n ∷ codes "line" ∷ decimal a.line ∷ ws ++ a.bytes ∷ [])

abbrev pub step_lines : (Step → List ℕ) → Setup → ℕ → Said → ToldStep → List (List ℕ)
step_lines wording s n a WasIdle = step_head n a (codes "idle" ∷ []) ∷ []
step_lines wording s n a (Did at) = step_head n a [] ∷ map indented (changed_lines s at)
step_lines wording s n a (Settled events head) = step_head n a [] ∷ map indented (event_lines wording s events ++ head ∷ [])

-- n is the number of the first step; there are as many lines as steps
abbrev pub all_step_lines : (Step → List ℕ) → Setup → ℕ → List Said → List ToldStep → List (List ℕ)
all_step_lines wording s n [] ks = []
all_step_lines wording s n (a ∷ at) [] = []
all_step_lines wording s n (a ∷ at) (k ∷ ks) = step_lines wording s n a k ++ all_step_lines wording s (n + 1) at ks

-- after the line `steps`: the report of where the run begins, each step, and the counts at its end
abbrev pub steps_lines : (Step → List ℕ) → Limits → Setup → Ran → List Said → List Step → List (List ℕ)
steps_lines wording l s r at es =
    codes "steps" ∷ report_lines s r.world ++ (all_step_lines wording s 1 at (told_from l s r es) ++ head_line (run_from l s r es).world ∷ [])
