-- What bears on the open entry alone: its stage, its reply, and its number.
use Rattle.std.proofs.Common.{◌≡◌, ◌+◌, ◌∷◌, ◌||◌, ◌&&◌, ◌==◌, not, ap, refl, subst, ◌∙◌, Bool, true, false, List, [], Option, None, Some, ℕ, if◌then◌else◌, is_some, length}
use Rattle.std.proofs.lemmas.Bool.{and_right, or_from, or_parts}
use Rattle.std.specs.List.{list_any}
use Rattle.std.specs.Option.{option_and_then, option_map}
use Rattle.grpc_base.specs.declared.address.Address.{Address}
use Rattle.grpc_base.specs.declared.event.Entry.{Entry}
use Rattle.grpc_base.specs.declared.kind.Kind.{Kind}
use Rattle.session_actions.specs.AttemptEnds.{code_at_end, code_for_stream, code_to_reset}
use Rattle.session_actions.specs.CallEnds.{cancels, has_long_request, is_after_event, is_cancelled, sends_too_long}
use Rattle.session_actions.specs.Calls.{is_open_call}
use Rattle.session_actions.specs.Configs.{held_config, is_too_long}
use Rattle.session_actions.specs.Entries.{entry}
use Rattle.session_actions.specs.Links.{link_of}
use Rattle.session_actions.specs.Policies.{are_same_addresses, is_live_policy, is_other_kind, is_pending, is_same_kind, is_to_retire, result_of, wanted_kind, wants_addresses}
use Rattle.session_actions.specs.Words.{holds, last_of}
use Rattle.session_actions.specs.declared.call.Call.{Call}
use Rattle.session_actions.specs.declared.config.HeldConfig.{HeldConfig}
use Rattle.session_actions.specs.declared.entry.OpenEntry.{OpenEntry}
use Rattle.session_actions.specs.declared.policy.PolicyUse.{PolicyUse}
use Rattle.session_actions.specs.declared.seen.Seen.{Seen}
use Rattle.session_order.proofs.Aside.{aside_final, aside_request}
use Rattle.session_order.proofs.Lists.{any_same, holds_same, some_map}
use Rattle.session_order.proofs.Limits.{then_same}
use Rattle.session_order.specs.Quiescent.{IsStill, can_follow, is_to_follow_pick, is_to_reset, is_unplaced, lacks_kind}
use Rattle.session_order.specs.declared.line.Line.{Line}
use Rattle.session_order.specs.declared.line.Line.TheVariants as line

-- the entry of the session is another one, of the same number
entered_reset : (s : Seen) (entries : List Entry) (current : Option OpenEntry) → entry (record s { entries = entries; current = current }) ≡ entry s
    → list_any (is_to_reset (record s { entries = entries; current = current })) s.attempts ≡ list_any (is_to_reset s) s.attempts
entered_reset s entries current same =
    let t : Seen = record s { entries = entries; current = current } in
    any_same (is_to_reset t) (is_to_reset s)
    (λ a. ap (λ (x : Option ℕ). is_some x)
    (then_same (code_at_end a t) (code_at_end a s)
    (λ e. then_same (code_for_stream a e t) (code_for_stream a e s)
    (λ stream. ap (λ (n : ℕ). if (e.entry == n) && not a.reset then option_and_then (code_to_reset a e stream s) (link_of a s) else None) same) a.row.stream)
    a.row.ended)) s.attempts

entered_pick : (s : Seen) (entries : List Entry) (current : Option OpenEntry) → entry (record s { entries = entries; current = current }) ≡ entry s
    → holds (is_to_follow_pick (record s { entries = entries; current = current })) (last_of s.asks) ≡ holds (is_to_follow_pick s) (last_of s.asks)
entered_pick s entries current same =
    holds_same (is_to_follow_pick (record s { entries = entries; current = current })) (is_to_follow_pick s)
    (λ ask. ap (λ (n : ℕ). is_unplaced s ask.row && (ask.entry == n) && can_follow s ask.answer) same) (last_of s.asks)

pub entered : (s : Seen) (entries : List Entry) (current : Option OpenEntry) → entry (record s { entries = entries; current = current }) ≡ entry s
    → (l : Line) (o : OpenEntry) → IsStill l o s → IsStill l o (record s { entries = entries; current = current })
entered s entries current same line.Cut o h = h
entered s entries current same line.Transparent o h = h
entered s entries current same line.Inherited o h = h
entered s entries current same line.Row o h = h
entered s entries current same line.Final o h = aside_final s (record s { entries = entries; current = current }) ∙ h
entered s entries current same line.Cancelled o h = h
entered s entries current same line.Request o h = aside_request o s (record s { entries = entries; current = current }) ∙ h
entered s entries current same line.Overflow o h = h
entered s entries current same line.Head o h = h
entered s entries current same line.Response o h = h
entered s entries current same line.Pick o h = entered_pick s entries current same ∙ h
entered s entries current same line.Link o h = h
entered s entries current same line.WireEnd o h = h
entered s entries current same line.Reset o h = entered_reset s entries current same ∙ h
entered s entries current same line.Shut o h = h
entered s entries current same line.Retire o h = h
entered s entries current same line.Begin o h = h
entered s entries current same line.Give o h = h
entered s entries current same line.Drop o h = h
entered s entries current same line.Add o h = h

-- what an entry may bring by itself
abbrev pub IsQuietFor : Line → OpenEntry → Seen → Type 0
IsQuietFor line.Cancelled p s = (c : Call) → (is_after_event p && cancels p.event c.number) ≡ false
IsQuietFor line.Request p s = (c : Call) → (is_after_event p && sends_too_long p.event c s) ≡ false
IsQuietFor line.Retire p s = result_of p ≡ None
IsQuietFor line.Begin p s = result_of p ≡ None
IsQuietFor line.Give p s = result_of p ≡ None
IsQuietFor _ p s = Unit {0}

none_each : {X : Type 0} (test : X → Bool) → ((x : X) → test x ≡ false) → (xs : List X) → list_any test xs ≡ false
none_each test never [] = refl
none_each test never (x ∷ xs) = or_from (test x) (list_any test xs) (never x) (none_each test never xs)

none_less : {X : Type 0} (test wide : X → Bool) → ((x : X) → wide x ≡ false → test x ≡ false) → (xs : List X) → list_any wide xs ≡ false
    → list_any test xs ≡ false
none_less test wide restricted [] e = refl
none_less test wide restricted (x ∷ xs) e =
    let parts : (wide x ≡ false) × (list_any wide xs ≡ false) = or_parts (wide x) (list_any wide xs) e in
    or_from (test x) (list_any test xs) (restricted x parts.0) (none_less test wide restricted xs parts.1)

-- less is asked of a call, and of a policy
less_long : (free long other now : Bool) → now ≡ false → (free && (long || other)) ≡ false → (free && (long || now)) ≡ false
less_long false long other now e h = refl
less_long true false other now e h = e
less_long true true other now e h = absurd (cc)

less_live : (live shut other now : Bool) → now ≡ false → (live && (shut || other)) ≡ false → (live && (shut || now)) ≡ false
less_live live shut other now e h = less_long live shut other now e h

no_kind : (o : OpenEntry) (s : Seen) → result_of o ≡ None → wanted_kind o s ≡ None
no_kind o s none =
    ap (λ (r : Option (List Address)). if is_some r then option_map (λ (h : HeldConfig). h.config.kind) (held_config s) else None) none

not_retired : (o : OpenEntry) (s : Seen) (g : PolicyUse) → result_of o ≡ None → (is_pending g && holds (λ (k : Kind). is_other_kind k g) (wanted_kind o s)) ≡ false
not_retired o s g none =
    and_right (is_pending g) (holds (λ (k : Kind). is_other_kind k g) (wanted_kind o s))
    (ap (holds (λ (k : Kind). is_other_kind k g)) (no_kind o s none))

not_given : (o : OpenEntry) (s : Seen) (g : PolicyUse) → result_of o ≡ None → wants_addresses o s g ≡ false
not_given o s g none =
    and_right (is_live_policy g && holds (λ (k : Kind). is_same_kind g.generation.kind k) (wanted_kind o s))
    (holds (λ (addresses : List Address). not (are_same_addresses g.addresses addresses)) (result_of o))
    (ap (holds (λ (addresses : List Address). not (are_same_addresses g.addresses addresses))) none)

cancelled_by : (x y z : Bool) → (y && z) ≡ false → (x && y && z) ≡ false
cancelled_by true y z e = e
cancelled_by false y z e = refl

-- another entry that brings nothing by itself
pub quieted : (o p : OpenEntry) (s : Seen) (l : Line) → IsQuietFor l p s → IsStill l o s → IsStill l p s
quieted o p s line.Cut q h = h
quieted o p s line.Transparent q h = h
quieted o p s line.Inherited q h = h
quieted o p s line.Row q h = h
quieted o p s line.Final q h = h
quieted o p s line.Cancelled q h =
    none_each (is_cancelled p) (λ c. cancelled_by (is_open_call c) (is_after_event p) (cancels p.event c.number) (q c)) s.calls
quieted o p s line.Request q h =
    none_less (has_long_request p s) (has_long_request o s)
    (λ c. less_long (is_open_call c) (list_any (λ (m : List ℕ). is_too_long m c s) c.messages) (is_after_event o && sends_too_long o.event c s)
    (is_after_event p && sends_too_long p.event c s) (q c)) s.calls h
quieted o p s line.Overflow q h = h
quieted o p s line.Head q h = h
quieted o p s line.Response q h = h
quieted o p s line.Pick q h = h
quieted o p s line.Link q h = h
quieted o p s line.WireEnd q h = h
quieted o p s line.Reset q h = h
quieted o p s line.Shut q h = h
quieted o p s line.Retire q h =
    none_less (is_to_retire p s) (is_to_retire o s)
    (λ g. less_live (is_live_policy g) s.shut (is_pending g && holds (λ (k : Kind). is_other_kind k g) (wanted_kind o s))
    (is_pending g && holds (λ (k : Kind). is_other_kind k g) (wanted_kind p s)) (not_retired p s g q)) s.policies h
quieted o p s line.Begin q h = ap (holds (lacks_kind s)) (no_kind p s q)
quieted o p s line.Give q h = none_each (wants_addresses p s) (λ g. not_given p s g q) s.policies
quieted o p s line.Drop q h = h
quieted o p s line.Add q h = h

-- the open entry is answered, or goes on
same_number : (s : Seen) (f : OpenEntry → OpenEntry) → entry (record s { current = option_map f s.current }) ≡ entry s
same_number s f = ap (λ (b : Bool). length s.entries + (if b then 1 else 0)) (some_map f s.current)

-- the entry is this one now
pub moved_to : (f : OpenEntry → OpenEntry) (o : OpenEntry) (s : Seen) → s.current ≡ Some o → (l : Line) → IsStill l (f o) s
    → (p : OpenEntry) → option_map f s.current ≡ Some p → IsStill l p (record s { current = option_map f s.current })
moved_to f o s e l h p is =
    let there : option_map f s.current ≡ Some (f o) = ap (option_map f) e in
    let one : f o ≡ p = (cc) in
    subst (λ (x : OpenEntry). IsStill l x (record s { current = option_map f s.current })) one
    (entered s s.entries (option_map f s.current) (same_number s f) l (f o) h)

pub moved_on : (f : OpenEntry → OpenEntry) (o : OpenEntry) (s : Seen) → s.current ≡ Some o → (l : Line) → IsQuietFor l (f o) s → IsStill l o s
    → (p : OpenEntry) → option_map f s.current ≡ Some p → IsStill l p (record s { current = option_map f s.current })
moved_on f o s e l q h p is = moved_to f o s e l (quieted o (f o) s l q h) p is
