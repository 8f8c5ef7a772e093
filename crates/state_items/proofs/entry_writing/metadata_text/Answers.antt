use Rattle.std.proofs.Common.{◌≡◌, List, Option, ap, ◌∙◌}
use Rattle.state_items.proofs.Written.{metadata_has, metadata_is}
use Rattle.state_items.specs.EntryTexts.{source_of}
use Rattle.geo_base.specs.declared.marker.ClusterRef.{ClusterRef}
use Rattle.message_meta.specs.Known.{joined}
use Rattle.pb_fields.specs.declared.field.Field.{Field}
use Rattle.frame_values.specs.Texts.{metadata_of}
use Rattle.state_items.proofs.entry_writing.metadata_text.Goals as goal

pub returns-clause-text : goal.returns-clause-text
returns-clause-text c =
    let e = c.args.entry.now in
    let same : (rest : List Field) → joined c.known_of-known.result rest ≡ metadata_of c.args.names.now (source_of c.args.own e.ident.origin) e rest =
    λ rest. c.known_of-known.ensures rest ∙ ap (λ (s : Option ClusterRef). metadata_of c.args.names.now s e rest) c.source_of-source.ensures in
    metadata_is c.args.names.now c.args.own e c.known_of-known.result c.in_ok-bytes.bytes same (rw c.rest.ensures at c.in_ok-bytes.ensures)

pub returns-clause-right : goal.returns-clause-right
returns-clause-right c =
    let e = c.args.entry.now in
    let same : (rest : List Field) → joined c.known_of-known.result rest ≡ metadata_of c.args.names.now (source_of c.args.own e.ident.origin) e rest =
    λ rest. c.known_of-known.ensures rest ∙ ap (λ (s : Option ClusterRef). metadata_of c.args.names.now s e rest) c.source_of-source.ensures in
    metadata_has c.args.names.now c.args.own e c.known_of-known.result c.in_ok-bytes.bytes same (rw c.rest.ensures at c.in_ok-bytes.ensures)
