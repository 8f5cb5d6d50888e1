-- A Send that commits its call leads to the commitment of that call, which channel and session follow alike.
use Rattle.std.proofs.Common.{◌≡◌, ◌∷◌, ◌&&◌, ◌==◌, ◌++◌, ap, refl, subst, sym, ◌∙◌, Bool, true, false, List, [], Option, None, Some, ℕ, is_none, nat_lt}
use Rattle.std.proofs.lemmas.Bool.{eqb-false}
use Rattle.std.specs.List.{list_all, list_any}
use Rattle.std.specs.Option.{option_and_then, option_map_or}
use Rattle.call_actions.specs.TakeActions.Serves.{IsLeft, came}
use Rattle.call_core.specs.Laws as call_laws
use Rattle.call_core.specs.declared.inbox.Inbox.{Inbox}
use Rattle.call_cases.proofs.EndsFollow.Steps.{call_number}
use Rattle.channel_actions.proofs.Links.Settings.Slots.{asked_is}
use Rattle.channel_actions.specs.Agrees.{Agrees}
use Rattle.channel_actions.specs.Calls.{HasSlot}
use Rattle.call_cases.specs.EndsFollow.Cuts.{NoStreamIsToReset, is_unreset}
use Rattle.channel_actions.specs.Quiescent.{IsQuiescent as Quiescent}
use Rattle.attempt_cases.proofs.CallCommits.Accepting.{no_overflow}
use Rattle.attempt_cases.proofs.CallCommits.Quiescent.{committed_still, no_head, no_large}
use Rattle.attempt_cases.proofs.CallCommits.Whole.{one_call_commits}
use Rattle.call_cases.proofs.CommitsFollow.Begun.{IsToCommit}
use Rattle.call_cases.proofs.FullSends.Headless.{no_items}
use Rattle.attempt_cases.specs.CallCommits.Commits.{CommitsNext, HasCommitted, commits_with}
use Rattle.attempt_cases.specs.CallCommits.Laws.{SendsCommit}
use Rattle.call_cases.specs.CallSends.Laws.{CommitsAlike}
use Rattle.call_cases.specs.FullSends.Laws.{LeadsToCommit, commits}
use Rattle.channel_core.specs.Books.{BookActs, slot_at}
use Rattle.channel_core.specs.States.{StateSeen}
use Rattle.channel_core.specs.Steps.{call_asked, sealed, with_book}
use Rattle.channel_core.specs.declared.state.slots.CallSlot.{CallSlot}
use Rattle.grpc_base.specs.declared.event.Reply.{Reply}
use Rattle.session_actions.specs.Actions.{after, after_if, following, following_in}
use Rattle.session_actions.specs.Attempts.{commitment, is_commitment, is_of, is_outstanding}
use Rattle.session_actions.specs.Commitments.{is_headed}
use Rattle.session_actions.specs.Deliveries.{response_items, with_message}
use Rattle.session_actions.specs.Responses.{response}
use Rattle.session_actions.specs.Words.{changed, find_last, numbered}
use Rattle.session_actions.specs.Writing.{accepted_bytes}
use Rattle.session_actions.specs.declared.action.Action.TheVariants as action
use Rattle.session_actions.specs.declared.action.CommitCause.{CommitCause}
use Rattle.session_actions.specs.declared.attempt.Attempt.{Attempt}
use Rattle.session_actions.specs.declared.call.Call.{Call}
use Rattle.session_actions.specs.declared.entry.OpenEntry.{OpenEntry}
use Rattle.session_actions.specs.declared.seen.Seen.{Seen}
use Rattle.session_order.proofs.Quiescence.{quiescence_is_exact}
use Rattle.session_order.proofs.Changed.{changed_away, passes_not}
use Rattle.session_order.specs.Quiescent.{IsStill, is_overflowing}
use Rattle.session_order.specs.declared.line.Line.{Line}
use Rattle.session_order.specs.declared.line.Line.TheVariants as line

-- an entry is being made where an action follows
pub record HasEntry (s : Seen) : Type 0 where
  pub entry : OpenEntry
  pub is : s.current ≡ Some entry

entry_by : (s : Seen) (call : ℕ) (q : Option OpenEntry) → s.current ≡ q → following s ≡ Some (action.MessageAccepted call) → HasEntry s
entry_by s call None e next = absurd (let bad : None ≡ Some (action.MessageAccepted call) = sym (ap (option_and_then (following_in s)) e) ∙ next in (cc))
entry_by s call (Some o) e next = record { entry = o; is = e }

-- nothing came
nothing_left : {X : Type 0} (prefix left : List X) → [] ≡ prefix ++ left → left ≡ []
nothing_left [] left e = sym e
nothing_left (x ∷ prefix) left e = absurd (cc)

-- quiescent in the words of the definition
to_quiescent : (o : OpenEntry) (s : Seen) → ((l : Line) → IsStill l o s) → Quiescent o s
to_quiescent o s still = let parts = (quiescence_is_exact o s).1 still in record { calls = parts.0; links = parts.1; policies = parts.2 }

-- the channel's own call has the inbox
asked_same : (row n : ℕ) (z : StateSeen) (slot : CallSlot) → slot_at z.book n ≡ Some slot
    → sealed (call_asked (commits_with row slot.call.inbox z.book.moment) n z) ≡ sealed (call_asked (commits row z.book.moment) n z)
asked_same row n z slot there =
    ap (λ (b : BookActs). sealed (with_book b n z))
    (asked_is (commits_with row slot.call.inbox z.book.moment) n z.book slot there ∙ sym (asked_is (commits row z.book.moment) n z.book slot there))

module _ (n : ℕ) (why : CommitCause) (x y : StateSeen) (r : Reply) (o : OpenEntry) (s : Seen) (unreset : NoStreamIsToReset s) (led : LeadsToCommit n why x y r o s) where
  abbrev t : Seen
  t = led.seen

  abbrev p : OpenEntry
  p = led.entry

  abbrev c : Call
  c = led.call

  abbrev k : Attempt
  k = led.attempt

  abbrev z : StateSeen
  z = led.between

  accepts : following s ≡ Some (action.MessageAccepted n)
  accepts = led.does.0

  has_entry : HasEntry s
  has_entry = entry_by s n s.current refl accepts

  -- the session before it: nothing else overflowed
  seen_is : t ≡ after (action.MessageAccepted n) s
  seen_is = led.does.1

  after_is : after (action.MessageAccepted n) s ≡ after_if (Some has_entry.entry) (action.MessageAccepted n) s
  after_is = ap (λ (q : Option OpenEntry). after_if q (action.MessageAccepted n) s) has_entry.is

  attempts_are : t.attempts ≡ s.attempts
  attempts_are = ap (λ (v : Seen). v.attempts) (seen_is ∙ after_is)

  calls_are : t.calls ≡ changed (with_message has_entry.entry.event) n s.calls
  calls_are = ap (λ (v : Seen). v.calls) (seen_is ∙ after_is)

  others : (j : ℕ) (d : Call) → (j == n) ≡ false → numbered t.calls j ≡ Some d → is_overflowing t d ≡ false
  others j d off at =
      let before : numbered s.calls j ≡ Some d
      = sym (changed_away (with_message has_entry.entry.event) n j s.calls (eqb-false j n off)) ∙ sym (ap (λ (cs : List Call). numbered cs j) calls_are) ∙ at in
      ap (λ (xs : List Attempt). ((is_none d.end && is_none (find_last (λ (a : Attempt). is_commitment d a) xs)) && nat_lt 262144 (accepted_bytes d))
      && list_any (λ (a : Attempt). is_of d a && is_outstanding a) xs) attempts_are
      ∙ passes_not (is_overflowing s) s.calls j d (no_overflow has_entry.entry s n has_entry.is accepts) before

  unreset_t : NoStreamIsToReset t
  unreset_t = ap (list_all is_unreset) attempts_are ∙ unreset

  abbrev has : HasSlot z t c n
  has = led.agrees.calls.each n c led.there

  abbrev to_commit : IsToCommit n p t
  to_commit = record {
    current = led.current;
    call = c;
    there = led.there;
    attempt = k;
    can = led.can;
    book = led.agrees.kept.book;
    owned = led.agrees.kept.owned;
    orders = λ d at. (led.agrees.calls.each d.number d at).sees.order;
  }

  -- what came of it: nothing
  headless : (response k t).head ≡ None
  headless = no_head n p t to_commit (led.still line.Head refl)

  abbrev inbox : Inbox
  inbox = has.slot.call.inbox

  left : IsLeft (came c t) c.taken (call_laws.came has.slot.call)
  left = has.sees.serves.left (has.sees.serves.going led.can.open_now)

  none_came : came c t ≡ []
  none_came = ap (λ (q : Option Attempt). option_map_or (λ (a : Attempt). response_items (response a t)) q []) led.can.free

  items : response_items (response k t) ≡ call_laws.head_items inbox.head ++ call_laws.message_items inbox.messages
  items = no_items k t headless ∙ sym (nothing_left left.prefix (call_laws.came has.slot.call) (sym none_came ∙ left.joined))

  abbrev never : Line → Bool
  never l = false

  abbrev next : CommitsNext never n why inbox z p t
  next = record {
    late = λ l e. absurd (let bad : false ≡ true = e in (cc));
    current = led.current;
    agrees = led.agrees;
    unreset = unreset_t;
    call = c;
    there = led.there;
    slot = has.slot;
    slot_is = has.there;
    attempt = k;
    can = led.can;
    taken = refl;
    items = items;
    next = led.next;
    uncut = led.still line.Cut refl;
    unfollowed = led.still line.Transparent refl;
    still = λ l e w.
        committed_still n p t to_commit has.sees.turn (no_large n p t to_commit (led.still line.Head refl)) (λ m over head. led.still m over) others
        (λ i a at off. passes_not (is_headed t) t.attempts i a (led.still line.Head refl) at) l e;
  }

  abbrev done : HasCommitted never n k.place why inbox z p t
  done = one_call_commits never n why inbox z p t next

  pub commits_alike : CommitsAlike n k.place why z p t
  commits_alike = record {
    actions = done.actions;
    seen = done.seen;
    does = done.does;
    posts = done.posts;
    entries = done.entries;
    setup = done.setup;
    current = done.current;
    quiescent = to_quiescent p done.seen (λ l. done.still l refl);
    agrees = subst (λ (w : StateSeen). Agrees w done.seen) (asked_same k.place n z has.slot has.there) done.agrees;
  }

pub sends_commit : SendsCommit
sends_commit n why x y r o s unreset led = commits_alike n why x y r o s unreset led
