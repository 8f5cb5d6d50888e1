-- Events as the fields of a replay script's line, from the event's name on.
use Rattle.std.specs.Prelude.{◌≡◌, ◌≢◌, ◌⊎◌, ℕ, List, [], ◌∷◌, codes}
use Rattle.grpc_base.specs.declared.event.Event.{Event}
use Rattle.grpc_base.specs.declared.event.Event.TheVariants as event
use Rattle.script_lines.specs.declared.name.EventName.{EventName}
use Rattle.script_lines.specs.declared.name.EventName.TheVariants as name
use Rattle.script_lines.specs.Causes.{unknown_kind}
use Rattle.script_lines.specs.Fields.{AreAddresses, AreArgumentsFault, FieldKind, IsConfigOrDash, IsMessage, IsNumber, IsPiece, IsPing, IsRequestText, addresses_field, config_or_dash_field, message_field, number_field, number_limit, piece_field, ping_field, request_fields}

-- how an event is named
abbrev pub name_text : EventName → List ℕ
name_text name.Begin = codes "begin"
name_text name.Send = codes "send"
name_text name.Finish = codes "finish"
name_text name.Take = codes "take"
name_text name.Cancel = codes "cancel"
name_text name.Resolved = codes "resolved"
name_text name.Unresolved = codes "unresolved"
name_text name.Dial = codes "dial"
name_text name.Up = codes "up"
name_text name.NoDial = codes "nodial"
name_text name.Arrived = codes "arrived"
name_text name.Lost = codes "lost"
name_text name.Drain = codes "drain"
name_text name.Ping = codes "ping"
name_text name.Tick = codes "tick"
name_text name.Shutdown = codes "shutdown"

-- the fields after the name
abbrev pub event_fields : EventName → List FieldKind
event_fields name.Begin = request_fields
event_fields name.Send = number_field ∷ message_field ∷ []
event_fields name.Finish = number_field ∷ []
event_fields name.Take = number_field ∷ []
event_fields name.Cancel = number_field ∷ []
event_fields name.Resolved = addresses_field ∷ config_or_dash_field ∷ []
event_fields name.Unresolved = []
event_fields name.Dial = []
event_fields name.Up = number_field ∷ []
event_fields name.NoDial = number_field ∷ []
event_fields name.Arrived = number_field ∷ piece_field ∷ []
event_fields name.Lost = number_field ∷ []
event_fields name.Drain = number_field ∷ number_field ∷ []
event_fields name.Ping = number_field ∷ ping_field ∷ []
event_fields name.Tick = []
event_fields name.Shutdown = []

-- the event that fields give, of which the first is its name
abbrev pub IsEventText : List (List ℕ) → Event → Type 0
IsEventText texts (event.Begin r) =
    (path wait timeout meta : List ℕ) × (texts ≡ codes "begin" ∷ path ∷ wait ∷ timeout ∷ meta ∷ [])
    × IsRequestText r path wait timeout meta
IsEventText texts (event.Send n bytes) =
    (call message : List ℕ) × (texts ≡ codes "send" ∷ call ∷ message ∷ []) × IsNumber number_limit n call × IsMessage bytes message
IsEventText texts (event.Finish n) = (call : List ℕ) × (texts ≡ codes "finish" ∷ call ∷ []) × IsNumber number_limit n call
IsEventText texts (event.Take n) = (call : List ℕ) × (texts ≡ codes "take" ∷ call ∷ []) × IsNumber number_limit n call
IsEventText texts (event.Cancel n) = (call : List ℕ) × (texts ≡ codes "cancel" ∷ call ∷ []) × IsNumber number_limit n call
IsEventText texts (event.Resolved addresses bytes) =
    (items config : List ℕ) × (texts ≡ codes "resolved" ∷ items ∷ config ∷ []) × AreAddresses addresses items × IsConfigOrDash bytes config
IsEventText texts event.ResolveFailed = texts ≡ codes "unresolved" ∷ []
IsEventText texts event.TakeDial = texts ≡ codes "dial" ∷ []
IsEventText texts (event.LinkUp n) = (sub : List ℕ) × (texts ≡ codes "up" ∷ sub ∷ []) × IsNumber number_limit n sub
IsEventText texts (event.DialFailed n) = (sub : List ℕ) × (texts ≡ codes "nodial" ∷ sub ∷ []) × IsNumber number_limit n sub
IsEventText texts (event.Arrived n bytes) =
    (link piece : List ℕ) × (texts ≡ codes "arrived" ∷ link ∷ piece ∷ []) × IsNumber number_limit n link × IsPiece bytes piece
IsEventText texts (event.LinkLost n) = (link : List ℕ) × (texts ≡ codes "lost" ∷ link ∷ []) × IsNumber number_limit n link
IsEventText texts (event.Drain n m) =
    (link room : List ℕ) × (texts ≡ codes "drain" ∷ link ∷ room ∷ []) × IsNumber number_limit n link × IsNumber number_limit m room
IsEventText texts (event.Ping n w) =
    (link word : List ℕ) × (texts ≡ codes "ping" ∷ link ∷ word ∷ []) × IsNumber number_limit n link × IsPing w word
IsEventText texts event.Tick = texts ≡ codes "tick" ∷ []
IsEventText texts event.Shutdown = texts ≡ codes "shutdown" ∷ []

-- the first fault of such fields: the name, and after it what stands after it
abbrev pub IsEventFault : List (List ℕ) → ℕ → Type 0
IsEventFault (first ∷ others) c =
    (((name : EventName) → first ≢ name_text name) × (c ≡ unknown_kind))
    ⊎ ((name : EventName) × (first ≡ name_text name) × AreArgumentsFault (event_fields name) others c)
IsEventFault [] c = ⊥
