-- An action makes no difference to the links on which it does not bear.
use Rattle.std.proofs.Common.{◌≡◌, ◌+◌, ◌++◌, ◌∷◌, ◌&&◌, ◌||◌, ap, refl, subst, sym, ◌∙◌, Bool, true, false, List, [], Option, None, Some, ℕ, zero, suc, cond, filter, is_none, map, slice_get}
use Rattle.call_actions.proofs.CallsApart.Acts.{IsIn, in_filter, others_stay}
use Rattle.call_actions.proofs.CallsApart.Plain.{still}
use Rattle.call_actions.specs.CallsApart.Apart.{IsApart}
use Rattle.channel_actions.proofs.Stamps.{counted_at}
use Rattle.grpc_base.specs.declared.event.Conn.TheVariants as conn
use Rattle.channel_actions.specs.KeptSessions.Kept.{IsKept}
use Rattle.channel_actions.proofs.Links.Frames.Changes.{all_same, links_mapped, same_so}
use Rattle.channel_actions.proofs.Links.Frames.Differences.{fewer_see_none, joined, no_difference}
use Rattle.channel_actions.specs.LinkFrames.Alike.{SeesNoDifference, Numbers, is_on}
use Rattle.channel_actions.specs.LinkFrames.Bears.{IsOrderly, bear_on, bears_on}
use Rattle.channel_actions.specs.LinkFrames.Laws.{ActionsMakeNoDifference, ListsMakeNoDifference}
use Rattle.call_actions.proofs.ReadsInOrder.Order.{links_of_addresses, links_of_config, links_of_dial, links_of_policy, links_of_sub}
use Rattle.session_actions.specs.Actions.{after, after_if, after_in}
use Rattle.session_actions.specs.Closing.{noted_gone}
use Rattle.session_actions.specs.Configs.{config_read}
use Rattle.session_actions.specs.Deliveries.{is_end, with_message}
use Rattle.session_actions.specs.Entries.{opened}
use Rattle.session_actions.specs.Links.{wants_resolution}
use Rattle.session_actions.specs.Policies.{addresses_in, current_policy}
use Rattle.session_actions.specs.Reading.{outstanding_on}
use Rattle.session_actions.specs.Refusals.{is_gone}
use Rattle.session_actions.specs.Subchannels.{gone_down, in_state, without_link}
use Rattle.session_actions.specs.Words.{numbered}
use Rattle.session_actions.specs.Writing.{ping_of, waiting_on, with_piece}
use Rattle.session_actions.specs.declared.action.Action.{Action}
use Rattle.session_actions.specs.declared.action.Action.TheVariants as action
use Rattle.session_actions.specs.declared.attempt.Attempt.{Attempt}
use Rattle.session_actions.specs.declared.call.Call.{Call}
use Rattle.session_actions.specs.declared.entry.OpenEntry.{OpenEntry}
use Rattle.session_actions.specs.declared.link.Link.{Link}
use Rattle.session_actions.specs.declared.link.LinkOver.TheVariants as over
use Rattle.session_actions.specs.declared.seen.Seen.{Seen}
use Rattle.session_actions.specs.declared.subchannel.Subchannel.{Subchannel}
use Rattle.channel_actions.proofs.Links.Frames.Acts.{attempts_of_config, begun, called, committed, config_got, configured, end_by, ended, gone_if, made, message_mild, mild, other_than, placed, read_by, reset_by, then_same, timed_out, turned_link, up_so, withheld, written_by}

-- the first that waits on a link is at its place, and on that link
if_passes : {X : Type 0} (p : X → Bool) (x : X) (xs : List X) (b : Bool) (j : ℕ) (a : X) → p x ≡ b → slice_get (cond b (x ∷ filter p xs) (filter p xs)) j ≡ Some a
    → ((i : ℕ) → slice_get (filter p xs) i ≡ Some a → p a ≡ true) → p a ≡ true
if_passes p x xs true zero a e got rest = let one : x ≡ a = (cc) in ap p (sym one) ∙ e
if_passes p x xs true (suc j) a e got rest = rest j got
if_passes p x xs false j a e got rest = rest j got

passes : {X : Type 0} (p : X → Bool) (xs : List X) (j : ℕ) (a : X) → slice_get (filter p xs) j ≡ Some a → p a ≡ true
passes p [] j a got = absurd (cc)
passes p (x ∷ xs) j a got = if_passes p x xs (p x) j a refl got (λ i e. passes p xs i a e)

module _ (s : Seen) (kept : IsKept s) where
  first_waiting : (l : Link) (a : Attempt) → slice_get (waiting_on l s) 0 ≡ Some a → (numbered s.attempts a.place ≡ Some a) × (is_on l.number a ≡ true)
  first_waiting l a got =
      let one : IsIn (outstanding_on l s) a = in_filter (λ (q : Attempt). is_none q.row.stream) (outstanding_on l s) 0 a got in
      let two : IsIn s.attempts a = in_filter (is_on l.number) s.attempts one.index a one.here in
      let own : a.place ≡ suc two.index = counted_at (λ (q : Attempt). q.place) s.attempts (suc two.index) a kept.attempts two.here in
      (ap (numbered s.attempts) own ∙ two.here, passes (is_on l.number) s.attempts one.index a one.here)

  number_of : (n : ℕ) (l : Link) → numbered s.links n ≡ Some l → l.number ≡ n
  number_of n l got = counted_at (λ (q : Link). q.number) s.links n l kept.links got

  place_of : (n : ℕ) (a : Attempt) → numbered s.attempts n ≡ Some a → numbered s.attempts a.place ≡ Some a
  place_of n a got = ap (numbered s.attempts) (counted_at (λ (q : Attempt). q.place) s.attempts n a kept.attempts got) ∙ got

  act : (o : OpenEntry) → s.current ≡ Some o → (a : Action) → IsOrderly a s → SeesNoDifference (bears_on a s) s (after_in o a s)
  act o open_ action.CallBegins fits = begun (bears_on action.CallBegins s) s o.event
  act o open_ (action.MessageAccepted n) fits =
      called (bears_on (action.MessageAccepted n) s) s (with_message o.event) n (after_in o (action.MessageAccepted n) s) (message_mild (bears_on (action.MessageAccepted n) s) o.event)
      (record { calls = refl; attempts = refl; configs = refl; links = refl })
  act o open_ (action.RequestFinished n) fits =
      called (bears_on (action.RequestFinished n) s) s (λ (c : Call). record c { finished = true }) n (after_in o (action.RequestFinished n) s)
      (mild (bears_on (action.RequestFinished n) s) (λ (c : Call). record c { finished = true }) (λ c. refl) (λ c. refl) (λ c. refl))
      (record { calls = refl; attempts = refl; configs = refl; links = refl })
  act o open_ (action.ItemTaken n item) fits =
      called (bears_on (action.ItemTaken n item) s) s (λ (c : Call). record c { taken = c.taken + 1; end_taken = is_end item }) n (after_in o (action.ItemTaken n item) s)
      (mild (bears_on (action.ItemTaken n item) s) (λ (c : Call). record c { taken = c.taken + 1; end_taken = is_end item }) (λ c. refl) (λ c. refl) (λ c. refl))
      (record { calls = refl; attempts = refl; configs = refl; links = refl })
  act o open_ (action.CallEnds n why) fits = ended (bears_on (action.CallEnds n why) s) s n why
  act o open_ (action.ConfigRead x) fits =
      let same : after (action.ConfigRead x) s ≡ config_read x s = ap (λ (c : Option OpenEntry). after_if c (action.ConfigRead x) s) open_ in
      config_got (bears_on (action.ConfigRead x) s) s (config_read x s) (attempts_of_config x s) (links_of_config x s)
      (λ c own. subst (λ (t : Seen). IsApart s t c) same (others_stay s c (action.ConfigRead x) kept.book own refl)) kept.calls
  act o open_ (action.CallConfigured n config) fits = configured (bears_on (action.CallConfigured n config) s) s n config fits
  act o open_ (action.AttemptMade n number k due) fits = made (bears_on (action.AttemptMade n number k due) s) s n number k due
  act o open_ (action.HedgeWithheld n) fits = withheld (bears_on (action.HedgeWithheld n) s) s n
  act o open_ (action.AttemptPlaced place at) fits = placed (bears_on (action.AttemptPlaced place at) s) s place at (λ link. refl) fits
  act o open_ (action.AttemptEnds place e) fits =
      end_by (bears_on (action.AttemptEnds place e) s) s place e (numbered s.attempts place) (λ link. refl) (place_of place)
  act o open_ (action.CallCommitted place why) fits = committed (bears_on (action.CallCommitted place why) s) s place
  act o open_ (action.StreamReset place number) fits = reset_by (bears_on (action.StreamReset place number) s) s number (numbered s.attempts place) (λ link. refl)
  act o open_ action.EntryCloses fits =
      let t : Seen = record s { links = map (noted_gone s) s.links } in
      then_same (bears_on action.EntryCloses s) s t (after_in o action.EntryCloses s)
      (links_mapped (bears_on action.EntryCloses s) (noted_gone s) s (λ l. gone_if s l (is_none l.gone && is_gone l s)))
      (record { calls = refl; attempts = refl; configs = refl; links = refl })
  act o open_ (action.AddressesGiven g) fits =
      all_same (bears_on (action.AddressesGiven g) s) s (after_in o (action.AddressesGiven g) s)
      (same_so s (after_in o (action.AddressesGiven g) s) (still o (action.AddressesGiven g) s refl) (links_of_addresses g s (addresses_in o.event)))
  act o open_ (action.PolicyTakesOver g) fits =
      all_same (bears_on (action.PolicyTakesOver g) s) s (after_in o (action.PolicyTakesOver g) s)
      (same_so s (after_in o (action.PolicyTakesOver g) s) (still o (action.PolicyTakesOver g) s refl) (links_of_policy s (current_policy s)))
  act o open_ (action.SubchannelShut sub) fits =
      all_same (bears_on (action.SubchannelShut sub) s) s (after_in o (action.SubchannelShut sub) s)
      (same_so s (after_in o (action.SubchannelShut sub) s) (still o (action.SubchannelShut sub) s refl) (links_of_sub (without_link conn.Shutdown) sub s))
  act o open_ (action.SubchannelConnects sub) fits =
      all_same (bears_on (action.SubchannelConnects sub) s) s (after_in o (action.SubchannelConnects sub) s)
      (same_so s (after_in o (action.SubchannelConnects sub) s) (still o (action.SubchannelConnects sub) s refl) (links_of_sub (in_state conn.Connecting) sub s))
  act o open_ (action.DialTaken sub again until) fits =
      all_same (bears_on (action.DialTaken sub again until) s) s (after_in o (action.DialTaken sub again until) s)
      (same_so s (after_in o (action.DialTaken sub again until) s) (still o (action.DialTaken sub again until) s refl) (links_of_dial again until s (numbered s.subs sub)))
  act o open_ (action.DialFails sub) fits =
      all_same (bears_on (action.DialFails sub) s) s (after_in o (action.DialFails sub) s)
      (same_so s (after_in o (action.DialFails sub) s) (still o (action.DialFails sub) s refl) (links_of_sub (without_link conn.Failure) sub (wants_resolution s)))
  act o open_ (action.ConnectTimesOut sub) fits = timed_out (bears_on (action.ConnectTimesOut sub) s) s sub (λ link. refl)
  act o open_ (action.BackoffEnds sub) fits =
      all_same (bears_on (action.BackoffEnds sub) s) s (after_in o (action.BackoffEnds sub) s)
      (same_so s (after_in o (action.BackoffEnds sub) s) (still o (action.BackoffEnds sub) s refl) (links_of_sub (in_state conn.Idle) sub s))
  act o open_ (action.LinkUp sub) fits = up_so (bears_on (action.LinkUp sub) s) s sub (λ link. refl)
  act o open_ (action.SettingsArrive sub) fits =
      all_same (bears_on (action.SettingsArrive sub) s) s (after_in o (action.SettingsArrive sub) s)
      (same_so s (after_in o (action.SettingsArrive sub) s) (still o (action.SettingsArrive sub) s refl)
      (links_of_sub (λ (b : Subchannel). record b { state = conn.Ready; dials = 0; until = None }) sub s))
  act o open_ (action.LinkDown sub) fits =
      all_same (bears_on (action.LinkDown sub) s) s (after_in o (action.LinkDown sub) s)
      (same_so s (after_in o (action.LinkDown sub) s) (still o (action.LinkDown sub) s refl) (links_of_sub gone_down sub s))
  act o open_ (action.BytesArrive n) fits =
      turned_link (bears_on (action.BytesArrive n) s) s (with_piece o.event) n (after_in o (action.BytesArrive n) s) (other_than n (bears_on (action.BytesArrive n) s) (λ link. refl))
      (record { calls = refl; attempts = refl; configs = refl; links = refl })
  act o open_ (action.FrameRead n r) fits = read_by (bears_on (action.FrameRead n r) s) s r n (numbered s.links n) (λ link. refl) (number_of n)
  act o open_ (action.FrameWritten n x) fits =
      written_by (bears_on (action.FrameWritten n x) s) s x n (numbered s.links n) (λ link. refl) (number_of n) first_waiting
  act o open_ (action.LinkBreaks n code) fits =
      turned_link (bears_on (action.LinkBreaks n code) s) s (λ (l : Link). record l { over = Some over.Broken }) n (after_in o (action.LinkBreaks n code) s)
      (other_than n (bears_on (action.LinkBreaks n code) s) (λ link. refl)) (record { calls = refl; attempts = refl; configs = refl; links = refl })
  act o open_ (action.LinkLost n) fits =
      turned_link (bears_on (action.LinkLost n) s) s (λ (l : Link). record l { over = Some over.Lost }) n (after_in o (action.LinkLost n) s)
      (other_than n (bears_on (action.LinkLost n) s) (λ link. refl)) (record { calls = refl; attempts = refl; configs = refl; links = refl })
  act o open_ (action.PingQueued n) fits =
      turned_link (bears_on (action.PingQueued n) s) s (λ (l : Link). record l { owed = l.owed ++ ping_of o.event }) n (after_in o (action.PingQueued n) s)
      (other_than n (bears_on (action.PingQueued n) s) (λ link. refl)) (record { calls = refl; attempts = refl; configs = refl; links = refl })
  act o open_ a fits = all_same (bears_on a s) s (after_in o a s) (same_so s (after_in o a s) (still o a s refl) refl)

  act_if : (o : Option OpenEntry) → s.current ≡ o → (a : Action) → IsOrderly a s → SeesNoDifference (bears_on a s) s (after_if o a s)
  act_if (Some o) e a fits = act o e a fits
  act_if None e (action.EntryOpens posted word v) fits =
      all_same (bears_on (action.EntryOpens posted word v) s) s (opened posted word v s) (record { calls = refl; attempts = refl; configs = refl; links = refl })
  act_if None e a fits = no_difference (bears_on a s) s

pub actions_make_no_difference : ActionsMakeNoDifference
actions_make_no_difference a s kept fits = act_if s kept s.current refl a fits

-- several
or_left : (a b : Bool) → (a || b) ≡ false → a ≡ false
or_left true b e = absurd (cc)
or_left false b e = refl

or_right : (a b : Bool) → (a || b) ≡ false → b ≡ false
or_right true b e = absurd (cc)
or_right false b e = e

pub lists_make_no_difference : ListsMakeNoDifference
lists_make_no_difference [] s t kept fits does = subst (SeesNoDifference (bear_on [] s) s) (sym does) (no_difference (bear_on [] s) s)
lists_make_no_difference (a ∷ actions) s t kept fits does =
    let all : Numbers = bear_on (a ∷ actions) s in
    joined all s (after a s) t
    (fewer_see_none (bears_on a s) all s (after a s) (λ link e. or_left (bears_on a s link) (bear_on actions (after a s) link) e) (actions_make_no_difference a s kept.0 fits.0))
    (fewer_see_none (bear_on actions (after a s)) all (after a s) t (λ link e. or_right (bears_on a s link) (bear_on actions (after a s) link) e)
    (lists_make_no_difference actions (after a s) t kept.1 fits.1 does.1))
