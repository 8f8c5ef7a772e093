-- What the values of a row make: an event, a step, or a client's line. A value is read by its place in the row; one of
-- another sort than the row has there is read as nothing, which never comes.
use Rattle.std.specs.Prelude.{ℕ, zero, suc, ◌==◌, List, [], ◌∷◌, slice_index_or, Option, None, ⊤}
use Rattle.geo_base.specs.declared.client.Line.{Line}
use Rattle.geo_base.specs.declared.client.Line.TheVariants as line
use Rattle.geo_base.specs.declared.entry.Ident.{Ident}
use Rattle.geo_base.specs.declared.entry.Targets.{Targets}
use Rattle.geo_base.specs.declared.entry.Targets.TheVariants as targets
use Rattle.geo_base.specs.declared.event.Event.{Event}
use Rattle.geo_base.specs.declared.event.Event.TheVariants as event
use Rattle.geo_base.specs.declared.event.Fate.{Fate}
use Rattle.geo_base.specs.declared.event.Fate.TheVariants as fate
use Rattle.geo_base.specs.declared.event.Step.{Step}
use Rattle.geo_base.specs.declared.event.Step.TheVariants as step
use Rattle.geo_base.specs.declared.frame.SubKind.{SubKind}
use Rattle.geo_base.specs.declared.frame.SubKind.TheVariants as sub_kind
use Rattle.geo_base.specs.declared.position.Position.{Position}
use Rattle.script_rows.specs.NameWords.{Word}
use Rattle.script_rows.specs.declared.act_kind.ActKind.{ActKind}
use Rattle.script_rows.specs.declared.act_kind.ActKind.TheVariants as act
use Rattle.script_rows.specs.declared.event_kind.EventKind.{EventKind}
use Rattle.script_rows.specs.declared.event_kind.EventKind.TheVariants as event_kind
use Rattle.script_rows.specs.declared.kind.Kind.{Kind}
use Rattle.script_rows.specs.declared.kind.Kind.TheVariants as kind
use Rattle.script_rows.specs.declared.line_kind.LineKind.TheVariants as line_kind
use Rattle.script_rows.specs.declared.value.Value.{Value}
use Rattle.script_rows.specs.declared.value.Value.TheVariants as value

-- ---- values by their places
abbrev pub no_value : Value
no_value = value.Item 0

abbrev pub first : List Value → Value
first [] = no_value
first (v ∷ vs) = v

abbrev pub rest : List Value → List Value
rest [] = []
rest (v ∷ vs) = vs

abbrev pub item : Value → ℕ
item (value.Item i) = i
item v = 0

abbrev pub item_at : List Value → ℕ → ℕ
item_at vs i = item (slice_index_or vs i no_value)

abbrev pub seq : Value → ℕ
seq (value.Seq i) = i
seq v = 0

abbrev pub seq_at : List Value → ℕ → ℕ
seq_at vs i = seq (slice_index_or vs i no_value)

abbrev pub place : Value → Option Position
place (value.PositionOrEnd p) = p
place v = None

abbrev pub place_at : List Value → ℕ → Option Position
place_at vs i = place (slice_index_or vs i no_value)

abbrev pub to : Value → Targets
to (value.Targets t) = t
to v = targets.All

abbrev pub to_at : List Value → ℕ → Targets
to_at vs i = to (slice_index_or vs i no_value)

abbrev pub key : Value → Option Word
key (value.Key k) = k
key v = None

abbrev pub key_at : List Value → ℕ → Option Word
key_at vs i = key (slice_index_or vs i no_value)

abbrev pub name : Value → Word
name (value.Name w) = w
name v = []

abbrev pub name_at : List Value → ℕ → Word
name_at vs i = name (slice_index_or vs i no_value)

abbrev pub text : Value → List ℕ
text (value.Text t) = t
text v = []

abbrev pub text_at : List Value → ℕ → List ℕ
text_at vs i = text (slice_index_or vs i no_value)

-- ---- events
abbrev pub fate_numbered : ℕ → Fate
fate_numbered zero = fate.Good
fate_numbered (suc zero) = fate.Lost
fate_numbered n = fate.Twice

abbrev pub event_of : EventKind → List Value → Event
event_of event_kind.Go vs = event.Go (item_at vs 0)
event_of event_kind.Get vs = event.Get (item_at vs 0)
event_of event_kind.Reconnect vs = event.Reconnect (item_at vs 0)
event_of event_kind.Serve vs = event.Serve (item_at vs 0) (item_at vs 1)
event_of event_kind.Drop vs = event.Drop (item_at vs 0) (item_at vs 1)
event_of event_kind.Reset vs = event.Reset (item_at vs 0) (item_at vs 1) (item_at vs 2)
event_of event_kind.Read vs = event.Read (item_at vs 0) (item_at vs 1) (item_at vs 2)
event_of event_kind.Take vs = event.Take (item_at vs 0) (item_at vs 1) (item_at vs 2) (fate_numbered (item_at vs 3))
event_of event_kind.Receipt vs = event.Receipt (item_at vs 0) (item_at vs 1) (item_at vs 2) (fate_numbered (item_at vs 3))
event_of event_kind.Snap vs = event.Snap (item_at vs 0) (item_at vs 1)
event_of event_kind.Offer vs = event.Offer (item_at vs 0) (item_at vs 1) (item_at vs 2)
event_of event_kind.Seek vs = event.Seek (item_at vs 0) (item_at vs 1) (item_at vs 2) (place_at vs 3)
event_of event_kind.Restart vs = event.Restart (item_at vs 0) (item_at vs 1)

-- the kinds of events between two clusters, and of those at a topic's broker alone
abbrev pub IsAtLink : EventKind → Type 0
IsAtLink event_kind.Reset = ⊤
IsAtLink event_kind.Read = ⊤
IsAtLink event_kind.Take = ⊤
IsAtLink event_kind.Receipt = ⊤
IsAtLink k = ⊥

abbrev pub IsAtBroker : EventKind → Type 0
IsAtBroker event_kind.Snap = ⊤
IsAtBroker event_kind.Offer = ⊤
IsAtBroker event_kind.Seek = ⊤
IsAtBroker event_kind.Restart = ⊤
IsAtBroker k = ⊥

-- the step of a line that schedules one; a line of another kind schedules none, and is given `settle`
abbrev pub step_of : Kind → List Value → Step
step_of (kind.Event k) vs = step.Plain (event_of k vs)
step_of (kind.Halt k) vs = step.Halt (item_at vs 0) (event_of k (rest vs))
step_of (kind.Other line_kind.Stop) vs = step.Stop
step_of k vs = step.Settle

-- ---- a client's lines
abbrev pub sub_kind_numbered : ℕ → SubKind
sub_kind_numbered zero = sub_kind.Exclusive
sub_kind_numbered (suc zero) = sub_kind.Shared
sub_kind_numbered (suc (suc zero)) = sub_kind.Failover
sub_kind_numbered n = sub_kind.KeyShared

abbrev pub ident_of : List Value → Ident
ident_of vs = record { origin = item_at vs 0; producer = name_at vs 1; seq = seq_at vs 2 }

abbrev pub line_of : ActKind → List Value → Line
line_of act.Produce vs = line.Produce
line_of act.Pub vs = line.Pub (seq_at vs 0) (to_at vs 1) (key_at vs 2) (text_at vs 3)
line_of act.Sub vs = line.Sub (name_at vs 0) (sub_kind_numbered (item_at vs 1)) (item_at vs 2 == 1) (item_at vs 3 == 1)
line_of act.Flow vs = line.Flow (item_at vs 0)
line_of act.Ack vs = line.Ack (ident_of vs)
line_of act.AckTo vs = line.AckTo (ident_of vs)
line_of act.AckAll vs = line.AckAll
line_of act.Unsub vs = line.Unsub
line_of act.Close vs = line.Close
line_of act.CloseProducer vs = line.CloseProducer
line_of act.Ping vs = line.Ping
line_of act.Move vs = line.Move (item_at vs 0)
