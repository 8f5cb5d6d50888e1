-- Kind by kind: no action opens a link again, or takes a link from a subchannel that goes on, but where the link goes down; and one that comes up is its subchannel's own.
use Rattle.call_actions.proofs.Lists.{changed_away, changed_here, changed_map, numbered_last}
use Rattle.channel_actions.proofs.ActionsFit.Lines.{next_actions_fit}
use Rattle.channel_actions.proofs.Links.Prefaced.Along.{prefaced_stays}
use Rattle.channel_actions.proofs.Links.Prefaced.Fits.{FitsPrefaced}
use Rattle.channel_actions.proofs.Links.Prefaced.Lines.{next_fits}
use Rattle.channel_actions.proofs.Calls.Kept.Along.{early_stays}
use Rattle.channel_actions.proofs.Calls.Kept.Fits.{FitsEarly}
use Rattle.channel_actions.proofs.Calls.Kept.Lines.{next_fits as next_early}
use Rattle.channel_actions.proofs.KeptSessions.Along.{kept_stays}
use Rattle.channel_actions.proofs.Links.Own.Owned.{but_last, link_mapped, some_same}
use Rattle.channel_actions.specs.ActionsFit.Laws.{FitsNow}
use Rattle.channel_actions.specs.PrefacedLinks.Prefaced.{LinksArePrefaced}
use Rattle.channel_actions.specs.KeptCalls.Early.{IsEarlyKept}
use Rattle.channel_actions.specs.KeptSessions.Kept.{IsKept}
use Rattle.channel_actions.specs.TheirLinks.Laws.{TheirsAlong, TheirsBegin, TheirsStay}
use Rattle.channel_actions.specs.TheirLinks.Theirs.{LinksAreTheirs}
use Rattle.grpc_base.specs.declared.address.Address.{Address}
use Rattle.grpc_base.specs.declared.event.Conn.TheVariants as conn
use Rattle.grpc_base.specs.declared.event.Conn.{Conn}
use Rattle.grpc_base.specs.declared.event.Reply.TheVariants as reply
use Rattle.session_actions.specs.Actions.{after, after_if, after_in}
use Rattle.session_actions.specs.AttemptEnds.{attempt_ended_as, stream_reset_of}
use Rattle.session_actions.specs.Commitments.{with_commitment}
use Rattle.session_actions.specs.Entries.{entry, replied}
use Rattle.session_actions.specs.Links.{is_retiring, link_over, wants_resolution}
use Rattle.session_actions.specs.Policies.{is_failure, is_shutdown, with_placing}
use Rattle.session_actions.specs.Sessions.{IsNext}
use Rattle.session_actions.specs.Subchannels.{connect_timed_out, dial_failed, dial_taken_of, gone_down, in_state, is_connecting, is_dialling, is_going_down, is_idle, is_to_go_down, link_timed_out, link_up, new_link, new_sub, noted_by_policies, sub_added, with_sub, without_link}
use Rattle.session_actions.specs.Words.{changed, holds, numbered}
use Rattle.session_actions.specs.Writing.{frame_read_on, frame_written_on, link_broken, link_lost, owed_for, with_frame_read}
use Rattle.session_actions.specs.declared.action.Action.TheVariants as action
use Rattle.session_actions.specs.declared.action.Action.{Action}
use Rattle.session_actions.specs.declared.call.MarkKind.TheVariants as mark
use Rattle.session_actions.specs.declared.entry.OpenEntry.{OpenEntry}
use Rattle.session_actions.specs.declared.link.Link.{Link}
use Rattle.session_actions.specs.declared.link.LinkOver.TheVariants as over
use Rattle.session_actions.specs.declared.link.LinkOver.{LinkOver}
use Rattle.session_actions.specs.declared.link.Traffic.TheVariants as traffic
use Rattle.session_actions.specs.declared.seen.Seen.{Seen}
use Rattle.session_actions.specs.declared.subchannel.Subchannel.{Subchannel}
use Rattle.std.proofs.Common.{Bool, List, None, Option, Some, [], ap, arith, false, is_none, is_some, length, option_and_then, refl, slice_get, subst, suc, sym, true, zero, ℕ, ◌&&◌, ◌++◌, ◌+◌, ◌==◌, ◌||◌, ◌∙◌, ◌∷◌, ◌≡◌}
use Rattle.std.proofs.lemmas.Bool.{and_parts, eqb-false, eqb-true}
use Rattle.std.specs.Option.{option_map_or}
use Rattle.channel_actions.proofs.Links.Theirs.Steadily.{begun, ended, written, row_changed, dialled, GoesOn, goes_theirs, goes_then, goes_same, goes_or, goes_sub, goes_link, left_over, retiring_less, goes_stamped, reset, config_is_read, is_made, given, took_over, arrived, pinged}

broken : (s : Seen) (link : ℕ) → GoesOn s (link_broken link s)
broken s link =
    let t : Seen = link_over over.Broken link s in
    goes_then s t (link_broken link s) (goes_link (λ (l : Link). record l { over = Some over.Broken }) (left_over over.Broken) link s) (goes_same t (link_broken link s) refl refl)

lost : (s : Seen) (link : ℕ) → GoesOn s (link_lost link s)
lost s link =
    let t : Seen = link_over over.Lost link s in
    goes_then s t (link_lost link s) (goes_link (λ (l : Link). record l { over = Some over.Lost }) (left_over over.Lost) link s) (goes_same t (link_lost link s) refl refl)

-- a subchannel more: each that was there is where it was
inside : {X : Type 0} (xs : List X) (z y : X) (i : ℕ) → slice_get xs i ≡ Some y → slice_get (xs ++ z ∷ []) i ≡ Some y
inside [] z y i e = absurd (let bad : None ≡ Some y = e in (cc))
inside (x ∷ xs) z y zero e = e
inside (x ∷ xs) z y (suc i) e = inside xs z y i e

at_more : {X : Type 0} (xs : List X) (z y : X) (n : ℕ) → numbered xs n ≡ Some y → numbered (xs ++ z ∷ []) n ≡ Some y
at_more xs z y zero e = absurd (let bad : None ≡ Some y = e in (cc))
at_more xs z y (suc i) e = inside xs z y i e

added : (s : Seen) (a : Address) → GoesOn s (sub_added a s)
added s a = record {
  links = λ k q there open_ goes. record { link = q; here = there; over = open_; retiring = goes; sub = refl };
  subs = λ n b here. record { sub = b; here = at_more s.subs (new_sub a (length s.subs + 1)) b n here; same = λ d. (d, refl) };
}

-- no subchannel that was shut down changes
idle_open : (state : Conn) → is_idle state ≡ true → is_shutdown state ≡ false
idle_open conn.Shutdown e = absurd (let bad : false ≡ true = e in (cc))
idle_open conn.Idle e = refl
idle_open conn.Connecting e = refl
idle_open conn.Ready e = refl
idle_open conn.Failure e = refl

failure_open : (state : Conn) → is_failure state ≡ true → is_shutdown state ≡ false
failure_open conn.Shutdown e = absurd (let bad : false ≡ true = e in (cc))
failure_open conn.Idle e = refl
failure_open conn.Connecting e = refl
failure_open conn.Ready e = refl
failure_open conn.Failure e = refl

connecting_open : (state : Conn) → is_connecting state ≡ true → is_shutdown state ≡ false
connecting_open conn.Shutdown e = absurd (let bad : false ≡ true = e in (cc))
connecting_open conn.Idle e = refl
connecting_open conn.Connecting e = refl
connecting_open conn.Ready e = refl
connecting_open conn.Failure e = refl

unlinked : (o : Option ℕ) → is_none o ≡ true → o ≡ None
unlinked None e = refl
unlinked (Some n) e = absurd (let bad : false ≡ true = e in (cc))

state_open : (s : Seen) (sub : ℕ) (b d : Subchannel) → numbered s.subs sub ≡ Some b → is_shutdown b.state ≡ false → numbered s.subs sub ≡ Some d → is_shutdown d.state ≡ false
state_open s sub b d there open_ here = ap (λ (z : Subchannel). is_shutdown z.state) (some_same d b (numbered s.subs sub) here there) ∙ open_

failed : (s : Seen) (sub : ℕ) (b : Subchannel) → numbered s.subs sub ≡ Some b → is_dialling b ≡ true → GoesOn s (dial_failed sub s)
failed s sub b there dials =
    let z : Seen = wants_resolution s in
    let y : Seen = with_sub (without_link conn.Failure) sub z in
    let parts = and_parts (is_connecting b.state && is_some b.until) (is_none b.link) dials in
    let opens_ : is_shutdown b.state ≡ false = connecting_open b.state (and_parts (is_connecting b.state) (is_some b.until) parts.0).0 in
    let off : b.link ≡ None = unlinked b.link parts.1 in
    goes_then s z (dial_failed sub s) (goes_same s z refl refl)
    (goes_then z y (dial_failed sub s)
    (goes_sub (without_link conn.Failure) sub z
    (λ d here e. (state_open s sub b d there opens_ here, sym (ap (λ (w : Subchannel). w.link) (some_same d b (numbered s.subs sub) here there) ∙ off))))
    (goes_same y (dial_failed sub s) refl refl))

abbrev is_apart : Action → Bool
is_apart (action.LinkUp sub) = true
is_apart (action.LinkDown sub) = true
is_apart (action.ConnectTimesOut sub) = true
is_apart _ = false

-- what the line of an action says of its subchannel
abbrev FitsSub : Action → OpenEntry → Seen → Type 0
FitsSub (action.SubchannelConnects sub) o s = FitsNow (action.SubchannelConnects sub) o s
FitsSub (action.DialFails sub) o s = FitsNow (action.DialFails sub) o s
FitsSub (action.BackoffEnds sub) o s = FitsNow (action.BackoffEnds sub) o s
FitsSub (action.SettingsArrive sub) o s = FitsNow (action.SettingsArrive sub) o s
FitsSub (action.LinkDown sub) o s = FitsNow (action.LinkDown sub) o s
FitsSub _ o s = Unit {0}

fits_sub : (o : OpenEntry) (s : Seen) (a : Action) → IsKept s → IsEarlyKept s → s.current ≡ Some o → IsNext a s → FitsSub a o s
fits_sub o s (action.SubchannelConnects sub) kept early at next = next_actions_fit o s (action.SubchannelConnects sub) kept early at next
fits_sub o s (action.DialFails sub) kept early at next = next_actions_fit o s (action.DialFails sub) kept early at next
fits_sub o s (action.BackoffEnds sub) kept early at next = next_actions_fit o s (action.BackoffEnds sub) kept early at next
fits_sub o s (action.SettingsArrive sub) kept early at next = next_actions_fit o s (action.SettingsArrive sub) kept early at next
fits_sub o s (action.LinkDown sub) kept early at next = next_actions_fit o s (action.LinkDown sub) kept early at next
fits_sub o s _ kept early at next = tt

act : (s : Seen) (o : OpenEntry) (a : Action) → is_apart a ≡ false → FitsSub a o s → GoesOn s (after_in o a s)
act s o (action.EntryOpens posted word e) off fits = goes_same s s refl refl
act s o (action.EventRefused why) off fits = goes_same s (after_in o (action.EventRefused why) s) refl refl
act s o (action.EventAnswered r) off fits = goes_same s (after_in o (action.EventAnswered r) s) refl refl
act s o action.SettlingBegins off fits = goes_same s (after_in o action.SettlingBegins s) refl refl
act s o action.EntryCloses off fits = goes_stamped s (after_in o action.EntryCloses s) refl refl
act s o action.CallBegins off fits = begun s o.event
act s o (action.MessageAccepted n) off fits = goes_same s (after_in o (action.MessageAccepted n) s) refl refl
act s o (action.RequestFinished n) off fits = goes_same s (after_in o (action.RequestFinished n) s) refl refl
act s o (action.ItemTaken n item) off fits = goes_same s (after_in o (action.ItemTaken n item) s) refl refl
act s o (action.CallEnds n why) off fits = goes_same s (after_in o (action.CallEnds n why) s) refl refl
act s o (action.ConfigRead x) off fits = config_is_read s x
act s o action.ResolutionFailed off fits = goes_same s (after_in o action.ResolutionFailed s) refl refl
act s o (action.CallConfigured n config) off fits = goes_same s (after_in o (action.CallConfigured n config) s) refl refl
act s o (action.AttemptMade n number k due) off fits = is_made s n number k due
act s o (action.HedgeWithheld n) off fits = goes_same s (after_in o (action.HedgeWithheld n) s) refl refl
act s o (action.PickRequested row generation answer) off fits = goes_same s (after_in o (action.PickRequested row generation answer) s) refl refl
act s o (action.AttemptPlaced place at) off fits = row_changed s (with_placing at) (mark.Placed place) place
act s o (action.AttemptEnds place e) off fits = goes_or s (attempt_ended_as e s) (ended s e) (numbered s.attempts place)
act s o (action.CallCommitted place why) off fits = row_changed s (with_commitment (entry s)) mark.Committed place
act s o (action.StreamReset place number) off fits = goes_or s (stream_reset_of number s) (reset s number) (numbered s.attempts place)
act s o (action.PolicyBegins k) off fits = goes_same s (after_in o (action.PolicyBegins k) s) refl refl
act s o (action.AddressesGiven g) off fits = given s g o.event
act s o (action.PolicyTakesOver g) off fits = took_over s g
act s o (action.PolicyRetired g) off fits = goes_same s (after_in o (action.PolicyRetired g) s) refl refl
act s o (action.SubchannelAdded a) off fits = added s a
act s o (action.SubchannelShut sub) off fits = goes_sub (without_link conn.Shutdown) sub s (λ b here d. absurd (let bad : true ≡ false = d in (cc)))
act s o (action.SubchannelConnects sub) off fits =
    goes_sub (in_state conn.Connecting) sub s (λ b here d. (state_open s sub fits.0 b fits.1 (idle_open fits.0.state fits.2) here, refl))
act s o (action.DialTaken sub again until) off fits = goes_or s (dial_taken_of again until s) (dialled s again until) (numbered s.subs sub)
act s o (action.DialFails sub) off fits = failed s sub fits.1 fits.2 fits.3
act s o (action.BackoffEnds sub) off fits =
    goes_sub (in_state conn.Idle) sub s (λ b here d. (state_open s sub fits.0 b fits.1 (failure_open fits.0.state fits.2) here, refl))
act s o (action.SettingsArrive sub) off fits =
    goes_sub (λ b. record b { state = conn.Ready; dials = 0; until = None }) sub s
    (λ b here d. (state_open s sub fits.0 b fits.1 (connecting_open fits.0.state fits.2) here, refl))
act s o (action.BytesArrive link) off fits = arrived s o.event link
act s o (action.FrameRead link r) off fits =
    goes_or s (frame_read_on r s)
    (λ l. goes_link (with_frame_read r (owed_for r.frame l s)) (record { sub = λ q. refl; over = λ q e. e; retiring = λ q e. retiring_less q (traffic.Read r) e }) l.number s)
    (numbered s.links link)
act s o (action.LinkBreaks link number) off fits = broken s link
act s o (action.LinkLost link) off fits = lost s link
act s o (action.PingQueued link) off fits = pinged s o.event link
act s o (action.FrameWritten link x) off fits = goes_or s (frame_written_on x s) (written s x) (numbered s.links link)
act s o action.ChannelShuts off fits = goes_same s (after_in o action.ChannelShuts s) refl refl
act s o (action.LinkUp sub) off fits = absurd (let bad : true ≡ false = off in (cc))
act s o (action.LinkDown sub) off fits = absurd (let bad : true ≡ false = off in (cc))
act s o (action.ConnectTimesOut sub) off fits = absurd (let bad : true ≡ false = off in (cc))

-- a subchannel loses its link, or gets one: of the others nothing changes
held_in : (test : Subchannel → Bool) (o : Option Subchannel) → holds test o ≡ true → (b : Subchannel) × ((o ≡ Some b) × (test b ≡ true))
held_in test None e = absurd (let bad : false ≡ true = e in (cc))
held_in test (Some b) e = (b, (refl, e))

link_open : (l : Link) → l.over ≡ None → is_retiring l ≡ false → is_going_down l ≡ true → ⊥
link_open l open_ goes down =
    let none : is_going_down l ≡ false = ap (λ (o : Option LinkOver). is_some o || is_retiring l) open_ ∙ goes in
    let bad : true ≡ false = sym down ∙ none in (cc)

module _ (s : Seen) (kept : IsKept s) (early : IsEarlyKept s) (theirs : LinksAreTheirs s) where
  -- LinkDown
  module _ (sub : ℕ) (b : Subchannel) (there : numbered s.subs sub ≡ Some b) (open_now : is_shutdown b.state ≡ false) (down : is_to_go_down s b ≡ true) where
    abbrev fallen : Seen
    fallen = record s { subs = changed gone_down sub s.subs }

    down_by : (k : ℕ) (q : Link) (c : Subchannel) (t : Bool) → (q.sub == sub) ≡ t → numbered s.links k ≡ Some q → q.over ≡ None → is_retiring q ≡ false
        → numbered (changed gone_down sub s.subs) q.sub ≡ Some c → is_shutdown c.state ≡ false → c.link ≡ Some k
    down_by k q c true is here open_ goes at shut =
        let own : b.link ≡ Some k = theirs k q b here open_ goes (ap (numbered s.subs) (eqb-true q.sub sub is) ∙ there) open_now in
        let falls : is_going_down q ≡ true
        = sym (ap (holds is_going_down) (ap (option_and_then (numbered s.links)) own ∙ here)) ∙ down in
        absurd (link_open q open_ goes falls)
    down_by k q c false is here open_ goes at shut =
        theirs k q c here open_ goes (sym (changed_away gone_down sub q.sub s.subs (eqb-false q.sub sub is)) ∙ at) shut

    fallen_theirs : LinksAreTheirs fallen
    fallen_theirs k q c here open_ goes at shut = down_by k q c (q.sub == sub) refl here open_ goes at shut

    down_theirs : LinksAreTheirs (with_sub gone_down sub s)
    down_theirs =
        by_note (numbered (changed gone_down sub s.subs) sub)
      where
        by_note : (o : Option Subchannel) → LinksAreTheirs (option_map_or (λ (d : Subchannel). noted_by_policies d fallen) o fallen)
        by_note None = fallen_theirs
        by_note (Some d) = fallen_theirs

  -- ConnectTimesOut
  module _ (sub : ℕ) (b : Subchannel) (there : numbered s.subs sub ≡ Some b) (open_now : is_shutdown b.state ≡ false) where
    abbrev timed : Option ℕ → Seen
    timed o = option_map_or (λ link. link_over over.TimedOut link s) o s

    timed_goes : (o : Option ℕ) → GoesOn s (timed o)
    timed_goes o =
        goes_or s (λ (link : ℕ). link_over over.TimedOut link s) (λ link. goes_link (λ (l : Link). record l { over = Some over.TimedOut }) (left_over over.TimedOut) link s) o

    timed_subs : (o : Option ℕ) → (timed o).subs ≡ s.subs
    timed_subs None = refl
    timed_subs (Some link) = refl

    -- its own link is over
    own_over : (o : Option ℕ) (k : ℕ) (q : Link) → o ≡ Some k → numbered (timed o).links k ≡ Some q → q.over ≡ None → ⊥
    own_over None k q e here open_ = absurd (let bad : None ≡ Some k = e in (cc))
    own_over (Some link) k q e here open_ =
        let same : link ≡ k = (cc) in
        let m = link_mapped (λ (l : Link). record l { over = Some over.TimedOut }) (numbered s.links link) q
        (sym (changed_map (λ (l : Link). record l { over = Some over.TimedOut }) link s.links)
        ∙ ap (numbered (changed (λ (l : Link). record l { over = Some over.TimedOut }) link s.links)) same ∙ here) in
        let bad : Some over.TimedOut ≡ None = ap (λ (l : Link). l.over) m.1.1 ∙ open_ in (cc)

    abbrev late : Seen
    late = record (timed b.link) { subs = changed (without_link conn.Failure) sub (timed b.link).subs }

    late_by : (k : ℕ) (q : Link) (c : Subchannel) (t : Bool) → (q.sub == sub) ≡ t → numbered (timed b.link).links k ≡ Some q → q.over ≡ None → is_retiring q ≡ false
        → numbered (changed (without_link conn.Failure) sub (timed b.link).subs) q.sub ≡ Some c → is_shutdown c.state ≡ false → c.link ≡ Some k
    late_by k q c true is here open_ goes at shut =
        let o = (timed_goes b.link).links k q here open_ goes in
        let own : b.link ≡ Some k
        = theirs k o.link b o.here o.over o.retiring (ap (numbered s.subs) (sym o.sub ∙ eqb-true q.sub sub is) ∙ there) open_now in
        absurd (own_over b.link k q own here open_)
    late_by k q c false is here open_ goes at shut =
        let o = (timed_goes b.link).links k q here open_ goes in
        let was : numbered s.subs q.sub ≡ Some c
        = ap (λ (xs : List Subchannel). numbered xs q.sub) (sym (timed_subs b.link))
        ∙ sym (changed_away (without_link conn.Failure) sub q.sub (timed b.link).subs (eqb-false q.sub sub is)) ∙ at in
        theirs k o.link c o.here o.over o.retiring (ap (numbered s.subs) (sym o.sub) ∙ was) shut

    late_theirs : LinksAreTheirs late
    late_theirs k q c here open_ goes at shut = late_by k q c (q.sub == sub) refl here open_ goes at shut

    abbrev wanted : Seen
    wanted = wants_resolution (timed b.link)

    noted_theirs : (o : Option Subchannel)
        → LinksAreTheirs (option_map_or (λ (d : Subchannel). noted_by_policies d (record wanted { subs = changed (without_link conn.Failure) sub wanted.subs })) o
        (record wanted { subs = changed (without_link conn.Failure) sub wanted.subs }))
    noted_theirs None = late_theirs
    noted_theirs (Some d) = late_theirs

    timed_theirs : LinksAreTheirs (connect_timed_out sub s)
    timed_theirs =
        subst (λ (o : Option Subchannel). LinksAreTheirs (with_sub (without_link conn.Failure) sub (wants_resolution (option_map_or (λ (d : Subchannel). link_timed_out d s) o s)))) (sym there)
        (noted_theirs (numbered (changed (without_link conn.Failure) sub wanted.subs) sub))

  -- LinkUp
  module _ (sub : ℕ) (b : Subchannel) (there : numbered s.subs sub ≡ Some b) (open_now : is_shutdown b.state ≡ false) (off : b.link ≡ None) where
    abbrev number : ℕ
    number = length s.links + 1

    abbrev new : Link
    new = new_link number sub s

    abbrev with_new : Subchannel → Subchannel
    with_new c = record c { link = Some number }

    abbrev up : Seen
    up = record s { links = s.links ++ new ∷ []; subs = changed with_new sub s.subs }

    next_is : length s.links + 1 ≡ suc (length s.links)
    next_is = omega arith

    -- the new one
    new_by : (k : ℕ) (q : Link) (c : Subchannel) → number ≡ k → numbered (s.links ++ new ∷ []) k ≡ Some q → numbered (changed with_new sub s.subs) q.sub ≡ Some c → c.link ≡ Some k
    new_by k q c is here at =
        let one : new ≡ q = some_same new q (numbered (s.links ++ new ∷ []) k) (ap (numbered (s.links ++ new ∷ [])) (sym is) ∙ numbered_last s.links new) here in
        let own : numbered (changed with_new sub s.subs) sub ≡ Some c = ap (λ (l : Link). numbered (changed with_new sub s.subs) l.sub) one ∙ at in
        let same : with_new b ≡ c = some_same (with_new b) c (numbered (changed with_new sub s.subs) sub) (changed_here with_new sub s.subs b there) own in
        sym (ap (λ (d : Subchannel). d.link) same) ∙ ap (λ (n : ℕ). Some n) is

    old_by : (k : ℕ) (q : Link) (c : Subchannel) (t : Bool) → (q.sub == sub) ≡ t → numbered s.links k ≡ Some q → q.over ≡ None → is_retiring q ≡ false
        → numbered (changed with_new sub s.subs) q.sub ≡ Some c → is_shutdown c.state ≡ false → c.link ≡ Some k
    old_by k q c true is here open_ goes at shut =
        absurd (let bad : None ≡ Some k = sym off ∙ theirs k q b here open_ goes (ap (numbered s.subs) (eqb-true q.sub sub is) ∙ there) open_now in (cc))
    old_by k q c false is here open_ goes at shut =
        theirs k q c here open_ goes (sym (changed_away with_new sub q.sub s.subs (eqb-false q.sub sub is)) ∙ at) shut

    up_by : (k : ℕ) (q : Link) (c : Subchannel) (t : Bool) → (k == suc (length s.links)) ≡ t → numbered (s.links ++ new ∷ []) k ≡ Some q → q.over ≡ None → is_retiring q ≡ false
        → numbered (changed with_new sub s.subs) q.sub ≡ Some c → is_shutdown c.state ≡ false → c.link ≡ Some k
    up_by k q c true is here open_ goes at shut = new_by k q c (next_is ∙ sym (eqb-true k (suc (length s.links)) is)) here at
    up_by k q c false is here open_ goes at shut =
        old_by k q c (q.sub == sub) refl (sym (but_last s.links new k (eqb-false k (suc (length s.links)) is)) ∙ here) open_ goes at shut

    up_so : LinksAreTheirs up
    up_so k q c here open_ goes at shut = up_by k q c (k == suc (length s.links)) refl here open_ goes at shut

    abbrev more : Seen
    more = record s { links = s.links ++ new ∷ [] }

    by_note : (o : Option Subchannel)
        → LinksAreTheirs (replied (reply.Link number) (option_map_or (λ (d : Subchannel). noted_by_policies d (record more { subs = changed with_new sub more.subs })) o
        (record more { subs = changed with_new sub more.subs })))
    by_note None = up_so
    by_note (Some d) = up_so

    up_theirs : LinksAreTheirs (link_up sub s)
    up_theirs = by_note (numbered (changed with_new sub s.subs) sub)

  -- by the kind of action
  stays_in : (o : OpenEntry) (a : Action) (t : Bool) → is_apart a ≡ t → FitsSub a o s → FitsPrefaced a s → FitsEarly a s → LinksAreTheirs (after_in o a s)
  stays_in o a false e fits prefaces is = goes_theirs s (after_in o a s) kept (act s o a e fits) theirs
  stays_in o (action.LinkDown sub) true e fits prefaces is =
      let h = held_in (is_to_go_down s) (numbered s.subs sub) prefaces in
      down_theirs sub h.0 h.1.0 (state_open s sub fits.0 h.0 fits.1 fits.2 h.1.0) h.1.1
  stays_in o (action.ConnectTimesOut sub) true e fits prefaces is =
      let h = held_in (λ (b : Subchannel). is_connecting b.state) (numbered s.subs sub) prefaces in
      timed_theirs sub h.0 h.1.0 (connecting_open h.0.state h.1.1)
  stays_in o (action.LinkUp sub) true e fits prefaces is =
      let h = held_in (λ (b : Subchannel). is_none b.link) (numbered s.subs sub) prefaces in
      let k = held_in (λ (b : Subchannel). is_connecting b.state) (numbered s.subs sub) is in
      up_theirs sub h.0 h.1.0 (state_open s sub k.0 h.0 k.1.0 (connecting_open k.0.state k.1.1) h.1.0) (unlinked h.0.link h.1.1)
  stays_in o _ true e fits prefaces is = absurd (cc)

stays_if : (s : Seen) (o : Option OpenEntry) (a : Action) → s.current ≡ o → IsKept s → IsEarlyKept s → LinksArePrefaced s → LinksAreTheirs s → IsNext a s → LinksAreTheirs (after_if o a s)
stays_if s (Some o) a at kept early prefaced theirs next =
    stays_in s kept early theirs o a (is_apart a) refl (fits_sub o s a kept early at next) (next_fits s a kept prefaced next) (next_early s a kept early next)
stays_if s None (action.EntryOpens posted word e) at kept early prefaced theirs next = theirs
stays_if s None _ at kept early prefaced theirs next = theirs

pub theirs_stay : TheirsStay
theirs_stay s a kept early prefaced theirs next = stays_if s s.current a refl kept early prefaced theirs next

pub theirs_begin : TheirsBegin
theirs_begin setup zero l b here open_ goes at shut = absurd (let bad : None ≡ Some l = here in (cc))
theirs_begin setup (suc i) l b here open_ goes at shut = absurd (let bad : None ≡ Some l = here in (cc))

pub theirs_along : TheirsAlong
theirs_along [] s t kept early prefaced theirs does = subst LinksAreTheirs (sym does) theirs
theirs_along (a ∷ actions) s t kept early prefaced theirs does =
    theirs_along actions (after a s) t (kept_stays s a kept does.0) (early_stays s a kept early does.0) (prefaced_stays s a kept prefaced does.0)
    (theirs_stay s a kept early prefaced theirs does.0) does.1
