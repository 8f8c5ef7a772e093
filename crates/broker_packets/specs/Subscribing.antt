-- Who may join a subscription, and how it changes then.
use Rattle.std.specs.Prelude.{ℕ, Bool, not, ◌&&◌, ◌||◌, if◌then◌else◌, List, [], ◌∷◌, Option, Some, None}
use Rattle.std.specs.List.{list_any}
use Rattle.std.specs.Str.{bytes_eq}
use Rattle.geo_base.specs.declared.change.Change.TheVariants as change
use Rattle.geo_base.specs.declared.frame.SubKind.{SubKind}
use Rattle.geo_base.specs.declared.write.Write.{Write}
use Rattle.geo_base.specs.Answers.{consumer_busy, unknown_error}
use Rattle.geo_base.specs.Broker.{Broker, Site}
use Rattle.geo_base.specs.Name.{is_name}
use Rattle.geo_base.specs.Plan.{Plan, plan_of}
use Rattle.geo_base.specs.Subscribing.{has_room, same_kind}
use Rattle.geo_base.specs.Subscription.{Subscription, is_attached}
use Rattle.broker_state.specs.declared.change.StateChange.{StateChange}
use Rattle.broker_state.specs.declared.change.StateChange.TheVariants as state_change
use Rattle.broker_state.specs.declared.write.StateWrite.{StateWrite}
use Rattle.broker_state.specs.declared.write.StateWrite.TheVariants as state_write
use Rattle.broker_subs.specs.declared.changing.SubChange.TheVariants as sub_change
use Rattle.broker_subs.specs.declared.writing.SubWrite.{SubWrite}
use Rattle.broker_subs.specs.declared.writing.SubWrite.TheVariants as sub_write

-- the code of the refusal of client c's consumer at the subscription of name n, if it is refused whoever is there
abbrev pub denial : Site → Broker → ℕ → List ℕ → List ℕ → Option ℕ
denial h b c topic n =
    if not (bytes_eq topic h.topic && is_name n && has_room b n) then Some unknown_error
    else if list_any (is_attached c) b.subs then Some consumer_busy
    else None

-- the write that gives it the kind that came and the mark that it is replicated, where that changes it
abbrev pub altered : Subscription → SubKind → Bool → Option SubWrite
altered s kind replicated =
    if same_kind kind s.kind && (s.replicated || not replicated) then None else Some (sub_write.Alter kind (s.replicated || replicated))

abbrev pub alter_writes : Option SubWrite → List StateWrite
alter_writes None = []
alter_writes (Some w) = state_write.Sub w ∷ []

-- the consumer comes last in order, without permits
abbrev pub attach : ℕ → ℕ → StateChange
attach c id = state_change.Sub (sub_change.Attach (record { client = c; id = id; permits = 0 }))

-- a consumer of client c joins the subscription of name n after these writes, and is not answered yet
abbrev pub joining : ℕ → List ℕ → ℕ → List Write → Plan
joining c n id ws = plan_of ws (change.Attach n (record { client = c; id = id; permits = 0 }) ∷ []) []
