use Rattle.std.proofs.Common.{◌≡◌, ◌≤◌, ℕ, List, [], ◌++◌, length}
use Rattle.std.specs.List.{flat_map}
use Rattle.geo_base.specs.declared.entry.Entry.{Entry}
use Rattle.tiered_storage.specs.Readable.{AreReadable}
use Rattle.tiered_storage.specs.Texts.{item_text}
use Rattle.tiered_storage.proofs.Loop.{IsReadTo}
use Rattle.tiered_storage.proofs.reading.counted_entries.Given as goal

-- whatever entries the bytes are the texts of, and whatever stands after them, so many of them were read, and the rest is left; where
-- nothing stands after them, no more than they were
abbrev pub invariant-loop : goal.invariant-loop
invariant-loop l = (l.counter ≤ l.count) × ((own : ℕ) (es : List Entry) (more : List ℕ) → AreReadable l.names own es → l.bytes ≡ flat_map (item_text l.names own) es ++ more
    → (l.counter ≤ length es → IsReadTo l.names own es more l.counter l.entries.items l.rest) × (more ≡ [] → l.counter ≤ length es))
