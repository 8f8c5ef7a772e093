use Rattle.std.proofs.Common.{refl, ap, ◌∙◌, List, ℕ}
use Rattle.geo_base.specs.Metadata.{Metadata}
use Rattle.state_items.proofs.Stored.{stored_is}
use Rattle.frame_values.specs.Values.{targets_of}
use Rattle.state_items.proofs.reading.read_entry.Goals as goal

pub returns-in-Ok-content_of-clause-is : goal.returns-in-Ok-content_of-clause-is
returns-in-Ok-content_of-clause-is c =
    let is = c.in-Ok.ensures.is in
    stored_is c.args.names.now c.args.meta _ c.args.origin c.args.payload _ c.meta.view_is refl c.from_text.ensures refl
    (ap (λ (m : Metadata). m.publish_time) is) (ap (λ (m : Metadata). m.key) is) (ap (λ (m : Metadata). m.names) is)
    (c.targets_of-to.ensures ∙ ap (λ (ls : List (List ℕ)). targets_of c.args.names.now ls) c.as_slice.ensures)
    (ap (λ (m : Metadata). m.rest) is) c.in-Ok-content_of.ensures

pub returns-in-Ok-content_of-clause-rest : goal.returns-in-Ok-content_of-clause-rest
returns-in-Ok-content_of-clause-rest c = record {
  fields = c.meta.inside.rest;
  is = ap (λ (m : Metadata). m.rest) c.in-Ok.ensures.is;
  writable = c.in-Ok.ensures.fields;
  unknown = c.meta.invariant;
}
