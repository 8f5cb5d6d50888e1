-- What is spelled so is read: no first fault, and one event.
use Rattle.std.proofs.Common.{◌≡◌, ℕ, suc, List, [], ◌∷◌, ◌++◌, map, length, arith, refl, ap, sym, subst, inl, inr, ◌⊎◌, ◌∙◌}
use Rattle.std.specs.Prelude.{codes, nat_eq, if◌then◌else◌}
use Rattle.std.specs.Cmp.Lexicographic.{pointwise}
use Rattle.grpc_base.specs.declared.event.Event.{Event}
use Rattle.grpc_base.specs.declared.event.Event.TheVariants as event
use Rattle.grpc_base.specs.declared.event.Stamped.{Stamped}
use Rattle.script_lines.specs.declared.name.EventName.{EventName}
use Rattle.script_lines.specs.declared.name.EventName.TheVariants as name
use Rattle.script_lines.specs.Causes.{Before}
use Rattle.script_lines.specs.Events.{IsEventFault, IsEventText, event_fields, name_text}
use Rattle.script_lines.specs.Fields.{AreArgumentsFault, AreFieldsFault, AreMessages, FieldKind, HasForm, IsFieldFault, IsGood, addresses_field, config_field, config_or_dash_field, message_field, moment_field, request_fields, timeout_field, word_field, worker_field}
use Rattle.script_lines.specs.Lines.{IsCallFault, IsCallText, IsChannelFault, IsChannelText, IsLiveFault, IsLiveLine, IsLiveText, IsLiveTextFault, IsReplayFault, IsReplayLine, IsStampedFault, IsStampedText, channel_words}
use Rattle.script_lines.specs.declared.line.ScriptLine.{ScriptLine}
use Rattle.script_lines.specs.declared.line.ScriptLine.TheVariants as line
use Rattle.grpc_base.specs.declared.script.CallLine.{CallLine}
use Rattle.resolver_core.specs.AnyTargets.{any_target_of}
use Rattle.resolver_core.specs.declared.any_target.Target.{Target}

-- a value within its limit has the form
pub good_form : (kind : FieldKind) (text : List ℕ) → IsGood kind text → HasForm kind text
good_form timeout_field text g = (g.0, g.1.0)
good_form message_field text g = (g.0, g.1.0)
good_form addresses_field text g = (g.1.0, g.1.1)
good_form config_or_dash_field text g = (g.0, g.1.0)
good_form config_field text g = (g.0, g.1.0)
good_form kind text g = g

-- a field that spells a value has no fault
pub good_field : (kind : FieldKind) (text : List ℕ) (c : ℕ) → IsGood kind text → IsFieldFault kind text c → ⊥
good_field kind text c g (inl h) = h.0 (good_form kind text g)
good_field kind text c g (inr h) = limit h.1
  where
    limit : Before (IsGood kind text) 11 c ⊥ → ⊥
    limit (inl f) = f.0 g
    limit (inr f) = f.1

-- fields that each spell a value
abbrev pub AreGood : List FieldKind → List (List ℕ) → Type 0
AreGood [] [] = Unit {0}
AreGood (kind ∷ kinds) (text ∷ texts) = IsGood kind text × AreGood kinds texts
AreGood kinds texts = ⊥

good_length : (kinds : List FieldKind) (texts : List (List ℕ)) → AreGood kinds texts → length texts ≡ length kinds
good_length [] [] g = refl
good_length [] (t ∷ texts) g = absurd g
good_length (k ∷ kinds) [] g = absurd g
good_length (k ∷ kinds) (t ∷ texts) g = ap suc (good_length kinds texts g.1)

good_fields : (kinds : List FieldKind) (texts : List (List ℕ)) (c : ℕ) → AreGood kinds texts → AreFieldsFault kinds texts c → ⊥
good_fields [] [] c g h = h
good_fields [] (t ∷ texts) c g h = h
good_fields (k ∷ kinds) [] c g h = h
good_fields (k ∷ kinds) (t ∷ texts) c g (inl h) = good_field k t c g.0 h
good_fields (k ∷ kinds) (t ∷ texts) c g (inr h) = good_fields kinds texts c g.1 h.1

pub good_arguments : (kinds : List FieldKind) (texts : List (List ℕ)) (c : ℕ) → AreGood kinds texts → AreArgumentsFault kinds texts c → ⊥
good_arguments kinds texts c g (inl h) = h.0 (good_length kinds texts g)
good_arguments kinds texts c g (inr h) = good_fields kinds texts c g h.1

-- no two events have one name
name_from : List ℕ → EventName
name_from text =
    if pointwise nat_eq text (codes "begin") then name.Begin else
    if pointwise nat_eq text (codes "send") then name.Send else
    if pointwise nat_eq text (codes "finish") then name.Finish else
    if pointwise nat_eq text (codes "take") then name.Take else
    if pointwise nat_eq text (codes "cancel") then name.Cancel else
    if pointwise nat_eq text (codes "resolved") then name.Resolved else
    if pointwise nat_eq text (codes "unresolved") then name.Unresolved else
    if pointwise nat_eq text (codes "dial") then name.Dial else
    if pointwise nat_eq text (codes "up") then name.Up else
    if pointwise nat_eq text (codes "nodial") then name.NoDial else
    if pointwise nat_eq text (codes "arrived") then name.Arrived else
    if pointwise nat_eq text (codes "lost") then name.Lost else
    if pointwise nat_eq text (codes "drain") then name.Drain else
    if pointwise nat_eq text (codes "ping") then name.Ping else
    if pointwise nat_eq text (codes "tick") then name.Tick else
    name.Shutdown

name_back : (k : EventName) → name_from (name_text k) ≡ k
unfolding name_from
name_back name.Begin = refl
name_back name.Send = refl
name_back name.Finish = refl
name_back name.Take = refl
name_back name.Cancel = refl
name_back name.Resolved = refl
name_back name.Unresolved = refl
name_back name.Dial = refl
name_back name.Up = refl
name_back name.NoDial = refl
name_back name.Arrived = refl
name_back name.Lost = refl
name_back name.Drain = refl
name_back name.Ping = refl
name_back name.Tick = refl
name_back name.Shutdown = refl

pub same_name : (a b : EventName) → name_text a ≡ name_text b → a ≡ b
same_name a b e = sym (name_back a) ∙ ap name_from e ∙ name_back b

good_event : (k : EventName) (others : List (List ℕ)) (texts : List (List ℕ)) (c : ℕ) → texts ≡ name_text k ∷ others → AreGood (event_fields k) others → IsEventFault texts c → ⊥
good_event k others texts c is g h = named (subst (λ t. IsEventFault t c) is h)
  where
    named : IsEventFault (name_text k ∷ others) c → ⊥
    named (inl f) = f.0 k refl
    named (inr f) = good_arguments (event_fields k) others c g (subst (λ j. AreArgumentsFault (event_fields j) others c) (sym (same_name k f.0 f.1)) f.2)

-- a text that spells an event has no fault
pub read_event : (texts : List (List ℕ)) (e : Event) (c : ℕ) → IsEventText texts e → IsEventFault texts c → ⊥
read_event texts (event.Begin r) c t h = good_event name.Begin (t.0 ∷ t.1 ∷ t.2 ∷ t.3 ∷ []) texts c t.4 (t.5.0, ((r.wait, t.5.2), ((r.timeout, t.5.3), ((r.meta, t.5.4), tt)))) h
read_event texts (event.Send n bytes) c t h = good_event name.Send (t.0 ∷ t.1 ∷ []) texts c t.2 ((n, t.3), ((bytes, t.4), tt)) h
read_event texts (event.Finish n) c t h = good_event name.Finish (t.0 ∷ []) texts c t.1 ((n, t.2), tt) h
read_event texts (event.Take n) c t h = good_event name.Take (t.0 ∷ []) texts c t.1 ((n, t.2), tt) h
read_event texts (event.Cancel n) c t h = good_event name.Cancel (t.0 ∷ []) texts c t.1 ((n, t.2), tt) h
read_event texts (event.Resolved addresses bytes) c t h = good_event name.Resolved (t.0 ∷ t.1 ∷ []) texts c t.2 ((addresses, t.3), ((bytes, t.4), tt)) h
read_event texts event.ResolveFailed c t h = good_event name.Unresolved [] texts c t tt h
read_event texts event.TakeDial c t h = good_event name.Dial [] texts c t tt h
read_event texts (event.LinkUp n) c t h = good_event name.Up (t.0 ∷ []) texts c t.1 ((n, t.2), tt) h
read_event texts (event.DialFailed n) c t h = good_event name.NoDial (t.0 ∷ []) texts c t.1 ((n, t.2), tt) h
read_event texts (event.Arrived n bytes) c t h = good_event name.Arrived (t.0 ∷ t.1 ∷ []) texts c t.2 ((n, t.3), ((bytes, t.4), tt)) h
read_event texts (event.LinkLost n) c t h = good_event name.Lost (t.0 ∷ []) texts c t.1 ((n, t.2), tt) h
read_event texts (event.Drain n m) c t h = good_event name.Drain (t.0 ∷ t.1 ∷ []) texts c t.2 ((n, t.3), ((m, t.4), tt)) h
read_event texts (event.Ping n w) c t h = good_event name.Ping (t.0 ∷ t.1 ∷ []) texts c t.2 ((n, t.3), ((w, t.4), tt)) h
read_event texts event.Tick c t h = good_event name.Tick [] texts c t tt h
read_event texts event.Shutdown c t h = good_event name.Shutdown [] texts c t tt h

no_nil : (x : List ℕ) (xs : List (List ℕ)) → [] ≡ x ∷ xs → ⊥
no_nil x xs e = (cc)

no_event : (e : Event) → IsEventText [] e → ⊥
no_event (event.Begin r) t = no_nil _ _ t.4
no_event (event.Send n bytes) t = no_nil _ _ t.2
no_event (event.Finish n) t = no_nil _ _ t.1
no_event (event.Take n) t = no_nil _ _ t.1
no_event (event.Cancel n) t = no_nil _ _ t.1
no_event (event.Resolved addresses bytes) t = no_nil _ _ t.2
no_event event.ResolveFailed t = no_nil _ _ t
no_event event.TakeDial t = no_nil _ _ t
no_event (event.LinkUp n) t = no_nil _ _ t.1
no_event (event.DialFailed n) t = no_nil _ _ t.1
no_event (event.Arrived n bytes) t = no_nil _ _ t.2
no_event (event.LinkLost n) t = no_nil _ _ t.1
no_event (event.Drain n m) t = no_nil _ _ t.2
no_event (event.Ping n w) t = no_nil _ _ t.2
no_event event.Tick t = no_nil _ _ t
no_event event.Shutdown t = no_nil _ _ t

-- a text that spells a moment, a random word and an event has no fault
pub read_stamped : (texts : List (List ℕ)) (s : Stamped) (c : ℕ) → IsStampedText texts s → IsStampedFault texts c → ⊥
read_stamped [] s c t h = t
read_stamped (m ∷ []) s c t h = t
read_stamped (m ∷ (w ∷ [])) s c t h = no_event s.event t.2
read_stamped (m ∷ (w ∷ (n ∷ others))) s c t (inl h) = good_field moment_field m c (s.moment, t.0) h
read_stamped (m ∷ (w ∷ (n ∷ others))) s c t (inr h) = afterwards h.1
  where
    afterwards : IsFieldFault word_field w c ⊎ (IsGood word_field w × IsEventFault (n ∷ others) c) → ⊥
    afterwards (inl f) = good_field word_field w c (s.word, t.1) f
    afterwards (inr f) = read_event (n ∷ others) s.event c t.2 f.1

pub one_target : (v w x y : List ℕ) → channel_words v x ≡ channel_words w y → x ≡ y
one_target v w x y e = (cc)

-- a channel line has no fault
pub read_channel : (texts : List (List ℕ)) (target : List ℕ) (value : Target) (c : ℕ) → IsChannelText texts target value → IsChannelFault texts c → ⊥
read_channel texts target value c t (inl f) = f.0 t.0 target t.1 t.2
read_channel texts target value c t (inr f) =
    let same : f.1 ≡ target = one_target f.0 t.0 f.1 target (sym f.3 ∙ t.2) in
    f.4 value (ap any_target_of same ∙ t.3)

-- a line of a replay script has no fault
pub read_replay : (n : ℕ) (texts : List (List ℕ)) (read : ScriptLine) (c : ℕ) → IsReplayLine n texts read → IsReplayFault n texts c → ⊥
read_replay n texts (line.Channel target value) c t (inl f) = read_channel texts target value c t.1 f.1
read_replay n texts (line.Channel target value) c t (inr f) = f.0 t.0
read_replay n texts (line.Event s) c t (inl f) = t.0 f.0
read_replay n texts (line.Event s) c t (inr f) = read_stamped texts s c t.1 f.1
read_replay n texts read c t f = t

good_messages : (messages texts : List (List ℕ)) → AreMessages messages texts → AreGood (map (λ message. message_field) texts) texts
good_messages [] [] m = tt
good_messages [] (t ∷ texts) m = absurd m
good_messages (x ∷ messages) [] m = absurd m
good_messages (x ∷ messages) (t ∷ texts) m = ((x, m.0), good_messages messages texts m.1)

-- a call has no fault
pub read_call : (texts : List (List ℕ)) (n : ℕ) (call : CallLine) (c : ℕ) → IsCallText texts n call → IsCallFault texts c → ⊥
read_call (worker ∷ (path ∷ (wait ∷ (timeout ∷ (meta ∷ messages))))) n call c t (inl f) = f.0 (omega arith, omega (arith, t.2))
read_call (worker ∷ (path ∷ (wait ∷ (timeout ∷ (meta ∷ messages))))) n call c t (inr f) =
    good_fields (worker_field ∷ request_fields ++ map (λ message. message_field) messages) (worker ∷ path ∷ wait ∷ timeout ∷ meta ∷ messages) c
    ((n, t.0), (t.1.0, ((call.request.wait, t.1.2), ((call.request.timeout, t.1.3), ((call.request.meta, t.1.4), good_messages call.messages messages t.3))))) f.1
read_call texts n call c t f = t

pub other_names : codes "config" ≡ codes "call" → ⊥
other_names e = (cc)

read_live_text : (n : ℕ) (texts : List (List ℕ)) (read : ScriptLine) (c : ℕ) → IsLiveText n texts read → IsLiveTextFault n texts c → ⊥
read_live_text n (name ∷ others) (line.Config config) c t (inl f) = f.1 t.0 t.1
read_live_text n (name ∷ others) (line.Config config) c t (inr (inl f)) =
    good_arguments (config_field ∷ []) others c (subst (AreGood (config_field ∷ [])) (sym t.3) ((config, t.4), tt)) f.2
read_live_text n (name ∷ others) (line.Config config) c t (inr (inr f)) = other_names (sym t.0 ∙ f.0)
read_live_text n (name ∷ others) (line.Call worker call) c t (inl f) = f.0 t.0
read_live_text n (name ∷ others) (line.Call worker call) c t (inr (inl f)) = other_names (sym f.0 ∙ t.0)
read_live_text n (name ∷ others) (line.Call worker call) c t (inr (inr f)) = read_call others worker call c t.1 f.1
read_live_text n texts read c t f = t

-- a line of a live script has no fault
pub read_live : (n : ℕ) (texts : List (List ℕ)) (read : ScriptLine) (c : ℕ) → IsLiveLine n texts read → IsLiveFault n texts c → ⊥
read_live n texts (line.Channel target value) c t (inl f) = read_channel texts target value c t.1 f.1
read_live n texts (line.Channel target value) c t (inr f) = f.0 t.0
read_live n texts read c t (inl f) = t.0 f.0
read_live n texts read c t (inr f) = read_live_text n texts read c t.1 f.1
