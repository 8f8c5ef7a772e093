-- The scenario of a generated run (own): a producer at each of three clusters, and a consumer that goes round them.
use Rattle.std.specs.Prelude.{ℕ, zero, suc, ◌+◌, ◌%◌, true, List, [], ◌∷◌, ◌++◌, None, codes, replicate}
use Rattle.geo_base.specs.declared.client.Line.{Line}
use Rattle.geo_base.specs.declared.client.Line.TheVariants as line
use Rattle.geo_base.specs.declared.entry.Targets.TheVariants as targets
use Rattle.geo_base.specs.declared.frame.SubKind.TheVariants as sub_kind
use Rattle.geo_base.specs.Setup.{Declared, Setup}

-- the first n publishes of a producer, each for all clusters
unfoldable pub publishes : ℕ → List Line
publishes zero = []
publishes (suc n) = publishes n ++ line.Pub n targets.All None (codes "x") ∷ []

unfoldable pub producer_lines : ℕ → List Line
producer_lines n = line.Produce ∷ publishes n

-- the first n stays of the consumer: lines that acknowledge, then a move to the next cluster
unfoldable pub stays : ℕ → List Line
stays zero = []
stays (suc n) = stays n ++ (replicate 30 line.AckAll ++ line.Move ((n + 1) % 3) ∷ [])

unfoldable pub consumer_lines : List Line
consumer_lines = line.Sub (codes "s") sub_kind.Exclusive true true ∷ line.Flow 1000000 ∷ stays 9

abbrev pub at : List ℕ → ℕ → List Line → Declared
at name cluster lines = record { name = name; topic = 0; cluster = cluster; lines = lines }

unfoldable pub generated_clients : List Declared
generated_clients =
    at (codes "pa") 0 (producer_lines 667) ∷ at (codes "pb") 1 (producer_lines 667) ∷ at (codes "pc") 2 (producer_lines 666) ∷ at (codes "d") 0 consumer_lines ∷ []

unfoldable pub generated_setup : Setup
generated_setup = record {
  per_ledger = 100;
  clusters = codes "a" ∷ codes "b" ∷ codes "c" ∷ [];
  topics = codes "t" ∷ [];
  clients = generated_clients;
}
