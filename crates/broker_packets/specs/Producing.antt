-- Why a producer of a client may not attach, and what one may publish.
use Rattle.std.specs.Prelude.{ℕ, ◌==◌, Bool, false, not, ◌&&◌, if◌then◌else◌, List, Option, Some, None}
use Rattle.std.specs.List.{list_any}
use Rattle.std.specs.Str.{bytes_eq}
use Rattle.geo_base.specs.declared.entry.Entry.{Entry}
use Rattle.geo_base.specs.declared.marker.ClusterRef.{ClusterRef}
use Rattle.geo_base.specs.declared.session.AttachedProducer.{AttachedProducer}
use Rattle.geo_base.specs.Answers.{producer_busy, unknown_error}
use Rattle.geo_base.specs.Broker.{Broker, Site}
use Rattle.geo_base.specs.Producing.{is_sound, is_taken, may_attach}

-- there is a producer of this id
abbrev pub has_id : ℕ → List AttachedProducer → Bool
has_id id ps = list_any (λ (p : AttachedProducer). p.id == id) ps

-- the code of the refusal of client c's producer of name n, if it is refused
abbrev pub refusal : Site → Broker → ℕ → List ℕ → List ℕ → Option ℕ
refusal h b c topic n =
    if not (bytes_eq topic h.topic && may_attach n) then Some unknown_error
    else if is_taken n c 0 b.sessions then Some producer_busy
    else None

-- the message is sound for the producer of this name, if there is one
abbrev pub published : Site → Option (List ℕ) → ℕ → Option ClusterRef → Entry → Bool
published h None seq source e = false
published h (Some n) seq source e = is_sound h n seq source e
