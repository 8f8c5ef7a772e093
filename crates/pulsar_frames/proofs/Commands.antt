-- What the grammar of commands gives: one meaning at most, one fault at most, not both; and the canonical text.
pub use Rattle.pulsar_commands.proofs.Unique.{meaning_one as command_one, fault_one as command_fault_one, sound as command_sound}
pub use Rattle.pulsar_commands.proofs.Written.{canonical_is as command_canonical}
