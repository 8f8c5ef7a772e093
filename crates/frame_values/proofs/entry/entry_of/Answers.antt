use Rattle.std.proofs.Common.{refl, subst}
use Rattle.message_meta.specs.Metadata.{Metadata}
use Rattle.frame_values.specs.Values.{IsContent}
use Rattle.frame_values.proofs.Entries.{headed_is}
use Rattle.frame_values.proofs.entry.entry_of.Goals as goal

pub returns-in-Ok-content_of-clause-is : goal.returns-in-Ok-content_of-clause-is
returns-in-Ok-content_of-clause-is c =
    let content = rw (c.in-Ok-content_of.content-is, c.in-Ok-content_of.payload-is) at c.in-Ok-content_of.ensures in
    let said = subst (λ (m : Metadata). IsContent c.args.names.now m.marker c.args.body.payload c.in-Ok-content_of.content c.in-Ok-content_of.payload) c.meta.view_is content in
    headed_is c.args.names.now c.args.body c.args.body.meta c.in-Ok.head c.in-Ok-content_of.content c.in-Ok-content_of.payload c.whole_entry.result refl c.in-Ok.ensures.head said c.whole_entry.ensures
