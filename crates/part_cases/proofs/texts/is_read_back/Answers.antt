use Rattle.std.proofs.Common.{List, subst, sym}
use Rattle.geo_base.specs.declared.entry.Entry.{Entry}
use Rattle.tiered_storage.specs.Readable.{AreTellable}
use Rattle.part_cases.proofs.texts.is_read_back.Goals as goal

pub are_read_back-requires-clause-told : goal.are_read_back-requires-clause-told
are_read_back-requires-clause-told c = λ names.
    subst (λ (es : List Entry). AreTellable names 0 es) (sym c.as_slice.ensures.value) (c.in_ok-entries.ensures.told names)
