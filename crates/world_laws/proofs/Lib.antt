-- The words that every file uses.
pub mod Types
-- The walk through the branches of every event, and the shapes that it finds.
pub mod Walks
-- The induction over runs, under the program's limits too, and what an event leaves alone.
pub mod Induction
-- Once and in order.
pub mod OnceInOrder
-- Two clusters of a pair: what stands at the one of the other's topic, and what a receipt means.
pub mod Replicating
-- Numbers and counts: what rises with events, and by how much.
pub mod Counters
-- Nodes, their peers, and the merge of what each of them records.
pub mod Merges
-- Positions, and the order between the topics of clusters.
pub mod TopicOrder
-- Snapshots: answers, the second round, and the cut.
pub mod Snapshotting
-- Settling ends, and within its budget.
pub mod Budget
-- After settling all has come over.
pub mod ComesOver
-- Subscriptions: nothing due is forgotten, and offers bring all of it out.
pub mod Dispatching
-- What is in a frame and in a topic: sizes, plain entries, and what a node's bytes tell.
pub mod FrameContents
-- Settled: only what is told is acknowledged, and updates name only that.
pub mod Telling
-- Runs that begin from what was kept of another one.
pub mod KeptRuns
-- Clients: what their frames say, what a broker sends them, and what both links carry.
pub mod Clients
-- From a pub line to the client that got its message: what stands was published, receipts and counts are of what stands.
pub mod Published
-- What stands at a cluster or goes there is meant for it; marks; and what holds in one run.
pub mod Residing
