-- The types that code and definitions share, each under its own name; a variant is written after the name of its type.
--
-- Letters mean the same in all modules: s a setup (what a script declares), w a world, h a site (what a broker knows of its place),
-- b a broker, k a client, v a subscription, e an entry or an event, f a frame, p a packet or a plan, q a second one; t a topic's
-- number, x and y clusters' numbers, x the one where it happens and y the other one, c a client's number, n a name's bytes, i an
-- index of a topic, l limits. After a letter, s makes a list of it (es, ps, vs), and o is what may be None.
pub use Rattle.geo_base.specs.declared.change.Change.{Change}
pub use Rattle.geo_base.specs.declared.change.Change.TheVariants as change
pub use Rattle.geo_base.specs.declared.client.Held.{Held}
pub use Rattle.geo_base.specs.declared.client.Line.{Line}
pub use Rattle.geo_base.specs.declared.client.Line.TheVariants as line
pub use Rattle.geo_base.specs.declared.consumer.Consumer.{Consumer}
pub use Rattle.geo_base.specs.declared.consumer.Unacked.{Unacked}
pub use Rattle.geo_base.specs.declared.entry.Content.{Content}
pub use Rattle.geo_base.specs.declared.entry.Content.TheVariants as content
pub use Rattle.geo_base.specs.declared.entry.Entry.{Entry}
pub use Rattle.geo_base.specs.declared.entry.Ident.{Ident}
pub use Rattle.geo_base.specs.Metadata.{Metadata}
pub use Rattle.geo_base.specs.declared.entry.Targets.{Targets}
pub use Rattle.geo_base.specs.declared.entry.Targets.TheVariants as targets
pub use Rattle.geo_base.specs.declared.event.Event.{Event}
pub use Rattle.geo_base.specs.declared.event.Event.TheVariants as event
pub use Rattle.geo_base.specs.declared.event.Fate.{Fate}
pub use Rattle.geo_base.specs.declared.event.Fate.TheVariants as fate
pub use Rattle.geo_base.specs.declared.event.Step.{Step}
pub use Rattle.geo_base.specs.declared.event.Step.TheVariants as step
pub use Rattle.geo_base.specs.declared.frame.AckKind.{AckKind}
pub use Rattle.geo_base.specs.declared.frame.AckKind.TheVariants as ack_kind
pub use Rattle.geo_base.specs.declared.frame.Frame.{Frame}
pub use Rattle.geo_base.specs.declared.frame.Frame.TheVariants as frame
pub use Rattle.geo_base.specs.declared.frame.SubKind.{SubKind}
pub use Rattle.geo_base.specs.declared.frame.SubKind.TheVariants as sub_kind
pub use Rattle.geo_base.specs.declared.marker.ClusterPosition.{ClusterPosition}
pub use Rattle.geo_base.specs.declared.marker.Marker.{Marker}
pub use Rattle.geo_base.specs.declared.marker.Marker.TheVariants as marker
pub use Rattle.geo_base.specs.declared.marker.ClusterRef.{ClusterRef}
pub use Rattle.geo_base.specs.declared.marker.ClusterRef.TheVariants as cluster_ref
pub use Rattle.geo_base.specs.declared.packet.Out.{Out}
pub use Rattle.geo_base.specs.declared.packet.Packet.{Packet}
pub use Rattle.geo_base.specs.declared.packet.Peer.{Peer}
pub use Rattle.geo_base.specs.declared.packet.Peer.TheVariants as peer
pub use Rattle.geo_base.specs.declared.planned.Cause.{Cause}
pub use Rattle.geo_base.specs.declared.planned.Cause.TheVariants as cause
pub use Rattle.geo_base.specs.declared.position.Position.{Position}
pub use Rattle.geo_base.specs.declared.replicator.Pending.{Pending}
pub use Rattle.geo_base.specs.declared.replicator.ReplicatorState.{ReplicatorState}
pub use Rattle.geo_base.specs.declared.replicator.ReplicatorState.TheVariants as replicator_state
pub use Rattle.geo_base.specs.declared.session.AttachedProducer.{AttachedProducer}
pub use Rattle.geo_base.specs.declared.session.Session.{Session}
pub use Rattle.geo_base.specs.declared.snapshot.SnapshotBuilder.{SnapshotBuilder}
pub use Rattle.geo_base.specs.declared.snapshot.CachedSnapshot.{CachedSnapshot}
pub use Rattle.geo_base.specs.declared.snapshot.Cut.{Cut}
pub use Rattle.geo_base.specs.declared.snapshot.Progress.{Progress}
pub use Rattle.geo_base.specs.declared.snapshot.Progress.TheVariants as progress
pub use Rattle.geo_base.specs.declared.write.Write.{Write}
pub use Rattle.geo_base.specs.declared.write.Write.TheVariants as write
