-- Each entry can be written.
use Rattle.std.proofs.Common.{ℕ, ◌<◌, List, length, get_or}
use Rattle.geo_base.specs.declared.entry.Entry.{Entry}
use Rattle.message_meta.specs.Known.{IsRest}
use Rattle.state_nodes.specs.Writing.{HaveRests}

pub has_rest : (es : List Entry) (k : ℕ) (d : Entry) → HaveRests es → k < length es → IsRest (get_or es k d).meta.rest
has_rest es k d h lt = h k d lt
