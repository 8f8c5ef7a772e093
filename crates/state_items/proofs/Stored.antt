-- The code's parts of an entry are what its metadata says.
use Rattle.std.proofs.Common.{◌≡◌, ℕ, List, subst}
use Rattle.geo_base.specs.declared.entry.Entry.{Entry}
use Rattle.message_meta.specs.Metadata.{Metadata}
use Rattle.pb_fields.specs.Canonical.{text}
use Rattle.frame_values.specs.Values.{IsContent, targets_of}
use Rattle.state_items.specs.Stored.{IsStored}

pub stored_is : (names : List (List ℕ)) (n m : Metadata) (origin : ℕ) (payload : List ℕ) (e : Entry) → m ≡ n
    → e.ident.origin ≡ origin → e.ident.producer ≡ m.producer → e.ident.seq ≡ m.seq → e.meta.publish_time ≡ m.publish_time
    → e.meta.key ≡ m.key → e.meta.names ≡ m.replicate_to → e.to ≡ targets_of names m.replicate_to
    → e.meta.rest ≡ text m.rest → IsContent names m.marker payload e.content e.payload → IsStored names n origin payload e
stored_is names n m origin payload e same o p s t k l to r c =
    subst (λ (x : Metadata). IsStored names x origin payload e) same
    (record { origin = o; producer = p; seq = s; publish_time = t; key = k; listed = l; to = to; rest = r; content = c })
