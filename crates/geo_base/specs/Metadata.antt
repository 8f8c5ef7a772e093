-- The metadata that neither names an entry nor says what it is (MessageMetadata in PulsarApi.proto).
use Rattle.std.specs.Prelude.{ℕ, List, Option}

-- when a message was published, its key, the names of replicate_to as they stand, and the bytes of the fields that nobody reads
pub record Metadata : Type 0 where
  pub publish_time : ℕ
  pub key : Option (List ℕ)
  pub names : List (List ℕ)
  pub rest : List ℕ
