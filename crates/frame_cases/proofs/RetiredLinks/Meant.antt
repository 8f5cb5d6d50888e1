-- The attempts that GOAWAY ends, along what follows at once: each goes on, and is to end as GOAWAY says, until its end comes; and then it has ended by that, or cut off.
use Rattle.std.proofs.Common.{◌≡◌, ◌+◌, ◌++◌, ◌≤◌, ◌==◌, ◌∷◌, ap, refl, subst, sym, ◌∙◌, Bool, true, false, List, [], Option, None, Some, ℕ, drop, if◌then◌else◌, inl, inr, is_none, is_some, length, option_and_then, option_map}
use Rattle.std.proofs.lemmas.Bool.{eqb-true}
use Rattle.std.specs.Option.{option_map_or}
use Rattle.attempt_ledger.specs.declared.row.Placed.{Placed}
use Rattle.attempt_ledger.specs.declared.row.RowEnd.{RowEnd}
use Rattle.attempt_ledger.specs.declared.row.RowKind.{RowKind}
use Rattle.attempt_ledger.specs.Numbering.{is_transparent}
use Rattle.call_actions.proofs.Ranks.{numbered_map, numbered_more}
use Rattle.channel_actions.proofs.KeptSessions.Along.{kept_stays}
use Rattle.channel_actions.specs.KeptSessions.Kept.{IsKept}
use Rattle.event_cases.proofs.LostLinks.After.{limit_by, outcome_in, outcome_is, same_in}
use Rattle.event_cases.proofs.PassedAtOnce.Acts.{Staged, actions_leave_passed, staged}
use Rattle.event_cases.proofs.PassedAtOnce.Along.{IsOpenAs, begins_as, first_none, follows, goes_on, not_both, once_open, only_begins, settling_stays}
use Rattle.event_cases.proofs.PassedAtOnce.Lines.{at_once_settles, is_of_reply}
use Rattle.event_cases.specs.PassedAtOnce.Passed.{HasStream, IsPassedStill, is_at_once, unqueued}
use Rattle.frame_cases.proofs.PieceWalks.Unread.{IsUnread, only_replies, unread_stays}
use Rattle.frame_cases.proofs.RetiredLinks.Lines.{IsMeant, IsMeantEnd, next_is_meant}
use Rattle.frame_cases.proofs.RetiredLinks.Shapes.{IsGoawayRow, IsPlainEnd, out_for}
use Rattle.grpc_base.specs.Limits.{message_limit}
use Rattle.grpc_base.specs.declared.address.Address.{Address}
use Rattle.grpc_base.specs.declared.event.Conn.TheVariants as conn
use Rattle.link_actions.proofs.Ended.{is_ended}
use Rattle.link_actions.proofs.LossActions.Calls.{changed_any}
use Rattle.link_actions.specs.ResponseActions.Laws.{left_out_end}
use Rattle.link_actions.specs.Sees.{AttemptsStandInPlace}
use Rattle.call_cases.proofs.EndsFollow.Steps.{placed_of}
use Rattle.session_actions.specs.Actions.{after, after_if, after_in, following}
use Rattle.session_actions.specs.AttemptEnds.{attempt_ended, attempt_ended_as, cut_end, end_of, is_framing, is_reset, outcome_of, stream_reset_of, unsent_end, with_end, with_reset_queued}
use Rattle.session_actions.specs.Attempts.{marked_row, with_attempt}
use Rattle.session_actions.specs.Calls.{marked}
use Rattle.session_actions.specs.Commitments.{with_commitment}
use Rattle.session_actions.specs.Configs.{chosen_of}
use Rattle.session_actions.specs.Entries.{entry}
use Rattle.session_actions.specs.Laws.{posted_by, posted_in}
use Rattle.session_actions.specs.Links.{link_of, read_bytes}
use Rattle.session_actions.specs.Making.{attempt_made, new_row, with_row, without_turn_unless}
use Rattle.session_actions.specs.Policies.{addresses_in, given_addresses, with_placing, with_policy}
use Rattle.session_actions.specs.Responses.{limit_of_attempt}
use Rattle.session_actions.specs.Sessions.{Does, IsNext}
use Rattle.session_actions.specs.Subchannels.{gone_down, noted_by_policies, with_sub, without_link}
use Rattle.session_actions.specs.Words.{changed, numbered}
use Rattle.session_actions.specs.declared.action.Action.{Action}
use Rattle.session_actions.specs.declared.action.Action.TheVariants as action
use Rattle.session_actions.specs.declared.attempt.Attempt.{Attempt}
use Rattle.session_actions.specs.declared.call.Call.{Call}
use Rattle.session_actions.specs.declared.call.MarkKind.{MarkKind}
use Rattle.session_actions.specs.declared.call.MarkKind.TheVariants as mark
use Rattle.session_actions.specs.declared.entry.OpenEntry.{OpenEntry}
use Rattle.session_actions.specs.declared.entry.Stage.TheVariants as stage
use Rattle.grpc_base.specs.declared.event.Entry.{Entry}
use Rattle.session_actions.specs.declared.link.Link.{Link}
use Rattle.session_actions.specs.declared.response.Outcome.{Outcome}
use Rattle.session_actions.specs.declared.seen.Seen.{Seen}
use Rattle.session_actions.specs.declared.subchannel.Subchannel.{Subchannel}

-- an attempt stays where it is, as it is: placed or not, ended or not
record HasRow (b : Attempt) (o : Option Attempt) : Type 0 where
  now : Attempt
  there : o ≡ Some now
  placed : now.row.placed ≡ b.row.placed
  ended : now.row.ended ≡ b.row.ended

record RowsStay (s t : Seen) : Type 0 where
  rows : (k : ℕ) (b : Attempt) → numbered s.attempts k ≡ Some b → HasRow b (numbered t.attempts k)
  entries : t.entries ≡ s.entries

rows_same : (s t : Seen) → t.attempts ≡ s.attempts → t.entries ≡ s.entries → RowsStay s t
rows_same s t same entries = record {
  rows = λ k b there. record { now = b; there = ap (λ (xs : List Attempt). numbered xs k) same ∙ there; placed = refl; ended = refl };
  entries = entries;
}

rows_then : (s t u : Seen) → RowsStay s t → RowsStay t u → RowsStay s u
rows_then s t u one two = record {
  rows = λ k b there.
      (let a : HasRow b (numbered t.attempts k) = one.rows k b there in
      let c : HasRow a.now (numbered u.attempts k) = two.rows k a.now a.there in
      record { now = c.now; there = c.there; placed = c.placed ∙ a.placed; ended = c.ended ∙ a.ended });
  entries = two.entries ∙ one.entries;
}

rows_or : {X : Type 0} (s : Seen) (f : X → Seen) → ((x : X) → RowsStay s (f x)) → (o : Option X) → RowsStay s (option_map_or f o s)
rows_or s f each None = rows_same s s refl refl
rows_or s f each (Some x) = each x

-- one of them changes
record KeepsRows (f : Attempt → Attempt) : Type 0 where
  placed : (b : Attempt) → (f b).row.placed ≡ b.row.placed
  ended : (b : Attempt) → (f b).row.ended ≡ b.row.ended

row_by : (f : Attempt → Attempt) → KeepsRows f → (b : Attempt) (c : Bool) (o : Option Attempt) → o ≡ Some (if c then f b else b) → HasRow b o
row_by f keeps b true o e = record { now = f b; there = e; placed = keeps.placed b; ended = keeps.ended b }
row_by f keeps b false o e = record { now = b; there = e; placed = refl; ended = refl }

changed_row : (f : Attempt → Attempt) (n k : ℕ) (xs : List Attempt) (b : Attempt) → numbered xs k ≡ Some b → numbered (changed f n xs) k ≡ Some (if k == n then f b else b)
changed_row f n k xs b there = changed_any f n k xs ∙ ap (option_map (λ (x : Attempt). if k == n then f x else x)) there

rows_changed : (f : Attempt → Attempt) → KeepsRows f → (n : ℕ) (s : Seen) → RowsStay s (with_attempt f n s)
rows_changed f keeps n s = record {
  rows = λ k b there. row_by f keeps b (k == n) (numbered (changed f n s.attempts) k) (changed_row f n k s.attempts b there);
  entries = refl;
}

marks : (what : MarkKind) (place : ℕ) (s : Seen) → RowsStay s (marked_row what place s)
marks what place s = rows_or s (λ (a : Attempt). marked what a.row.call s) (λ a. rows_same s (marked what a.row.call s) refl refl) (numbered s.attempts place)

subs : (f : Subchannel → Subchannel) (n : ℕ) (s : Seen) → RowsStay s (with_sub f n s)
subs f n s =
    let t : Seen = record s { subs = changed f n s.subs } in
    rows_then s t (with_sub f n s) (rows_same s t refl refl)
    (rows_or t (λ (b : Subchannel). noted_by_policies b t) (λ b. rows_same t (noted_by_policies b t) refl refl) (numbered t.subs n))

turned : (b : Bool) (s : Seen) → RowsStay s (without_turn_unless b s)
turned true s = rows_same s s refl refl
turned false s = rows_same s (without_turn_unless false s) refl refl

joins : (s : Seen) (b : Attempt) → RowsStay s (record s { attempts = s.attempts ++ b ∷ [] })
joins s b = record {
  rows = λ k a there. record { now = a; there = numbered_more s.attempts b a k there; placed = refl; ended = refl };
  entries = refl;
}

made : (s : Seen) (n number : ℕ) (k : RowKind) (due : ℕ) → RowsStay s (attempt_made n number k due s)
made s n number k due =
    let t : Seen = with_row (new_row n number k due) s in
    let u : Seen = marked (mark.Made (length s.attempts + 1)) n t in
    rows_then s u (attempt_made n number k due s)
    (rows_then s t u (joins s (record { place = length s.attempts + 1; row = new_row n number k due; made = entry s; reset = false })) (rows_same t u refl refl))
    (turned (is_transparent k) u)

reset : (s : Seen) (number : ℕ) (a : Attempt) → RowsStay s (stream_reset_of number s a)
reset s number a =
    let t : Seen = with_attempt with_reset_queued a.place s in
    rows_then s t (stream_reset_of number s a) (rows_changed with_reset_queued (record { placed = λ b. refl; ended = λ b. refl }) a.place s) (rows_same t (stream_reset_of number s a) refl refl)

committed : (s : Seen) (row : ℕ) → RowsStay s (marked_row mark.Committed row (with_attempt (with_commitment (entry s)) row s))
committed s row =
    let t : Seen = with_attempt (with_commitment (entry s)) row s in
    rows_then s t (marked_row mark.Committed row t) (rows_changed (with_commitment (entry s)) (record { placed = λ b. refl; ended = λ b. refl }) row s) (marks mark.Committed row t)

-- the actions that follow at once, but for ends and placings
abbrev is_of_rows : Action → Bool
is_of_rows (action.AttemptEnds row e) = true
is_of_rows (action.AttemptPlaced row at) = true
is_of_rows _ = false

acts : (o : OpenEntry) (a : Action) (s : Seen) → is_at_once a ≡ true → is_of_rows a ≡ false → RowsStay s (after_in o a s)
acts o (action.CallEnds call why) s e off = rows_same s (after_in o (action.CallEnds call why) s) refl refl
acts o (action.AttemptMade call number k due) s e off = made s call number k due
acts o (action.CallCommitted row why) s e off = committed s row
acts o (action.StreamReset row number) s e off = rows_or s (stream_reset_of number s) (reset s number) (numbered s.attempts row)
acts o (action.PolicyBegins k) s e off = rows_same s (after_in o (action.PolicyBegins k) s) refl refl
acts o (action.AddressesGiven generation) s e off =
    rows_or s (λ (addresses : List Address). with_policy (given_addresses addresses s) generation s)
    (λ addresses. rows_same s (with_policy (given_addresses addresses s) generation s) refl refl) (addresses_in o.event)
acts o (action.PolicyRetired generation) s e off = rows_same s (after_in o (action.PolicyRetired generation) s) refl refl
acts o (action.SubchannelAdded address) s e off = rows_same s (after_in o (action.SubchannelAdded address) s) refl refl
acts o (action.SubchannelShut sub) s e off = subs (without_link conn.Shutdown) sub s
acts o (action.SettingsArrive sub) s e off = subs (λ (b : Subchannel). record b { state = conn.Ready; dials = 0; until = None }) sub s
acts o (action.LinkDown sub) s e off = subs gone_down sub s
acts o _ s e off = absurd (cc)

one_of : (o : Option Attempt) (x y : Attempt) → o ≡ Some x → o ≡ Some y → x ≡ y
one_of None x y e f = absurd (cc)
one_of (Some z) x y e f = (cc)

never : (b : Bool) → b ≡ true → b ≡ false → ⊥
never true e h = (cc)
never false e h = (cc)

gone_none : (e : Option RowEnd) → is_none e ≡ true → e ≡ None
gone_none None h = refl
gone_none (Some e) h = absurd (cc)

-- neither is a cause of the stream's own
plain_out : (o : Option ℕ) → (is_reset (if is_some o then left_out_end else unsent_end).cause ≡ false) × (is_framing (if is_some o then left_out_end else unsent_end).cause ≡ false)
plain_out None = (refl, refl)
plain_out (Some n) = (refl, refl)

module _ (link n row : ℕ) where
  abbrev Stays : (s u : Seen) → IsGoawayRow link n s row → Type 0
  Stays s u is = (now : IsGoawayRow link n u row) × (now.attempt.row.stream ≡ is.attempt.row.stream)

  module _ (s u : Seen) (is : IsGoawayRow link n s row) (passed : IsPassedStill s u) (same_entry : entry u ≡ entry s) where
    links_at : (k : ℕ) → option_map unqueued (numbered u.links k) ≡ option_map unqueued (numbered s.links k)
    links_at k = sym (numbered_map unqueued u.links k) ∙ ap (λ (ls : List Link). numbered ls k) passed.links ∙ numbered_map unqueued s.links k

    -- nothing of it changes
    module _ (h : HasRow is.attempt (numbered u.attempts row)) where
      abbrev c : Attempt
      c = h.now

      abbrev was : Attempt
      was = is.attempt

      hs : HasStream was (numbered u.attempts row)
      hs = passed.attempts row was is.there

      same : hs.now ≡ c
      same = one_of (numbered u.attempts row) hs.now c hs.there h.there

      stream : c.row.stream ≡ was.row.stream
      stream = ap (λ (z : Attempt). z.row.stream) (sym same) ∙ hs.stream

      call : c.row.call ≡ was.row.call
      call = ap (λ (z : Attempt). z.row.call) (sym same) ∙ hs.call

      limit : limit_of_attempt c u ≡ limit_of_attempt was s
      limit =
          ap (λ (k : ℕ). option_map_or (λ (q : Call). (chosen_of q u).response) (numbered u.calls k) message_limit) call
          ∙ limit_by s u (numbered s.calls was.row.call) (numbered u.calls was.row.call) (passed.calls was.row.call) passed.configs

      links : option_map unqueued (link_of c u) ≡ option_map unqueued (link_of was s)
      links =
          ap (λ (p : Option Placed). option_map unqueued (option_and_then (λ (q : Placed). numbered u.links q.link) p)) (h.placed ∙ is.placed)
          ∙ links_at is.at.link
          ∙ sym (ap (λ (p : Option Placed). option_map unqueued (option_and_then (λ (q : Placed). numbered s.links q.link) p)) is.placed)

      outcome : was.row.ended ≡ None → outcome_of c u ≡ outcome_of was s
      outcome going =
          outcome_is c u (h.ended ∙ going)
          ∙ ap (λ (k : ℕ). outcome_in k c.row.stream (link_of c u)) limit
          ∙ ap (λ (p : Option ℕ). outcome_in (limit_of_attempt was s) p (link_of c u)) stream
          ∙ same_in (limit_of_attempt was s) was.row.stream (link_of was s) (link_of c u) links
          ∙ sym (outcome_is was s going)

      still : Stays s u is
      still = (
        record {
          attempt = c;
          there = h.there;
          at = is.at;
          placed = h.placed ∙ is.placed;
          here = is.here;
          goes = λ e. outcome (sym h.ended ∙ e) ∙ is.goes (sym h.ended ∙ e) ∙ ap (λ (p : Option ℕ). Some (if is_some p then left_out_end else unsent_end)) (sym stream);
          over = λ e ended. subst (λ (k : ℕ). IsPlainEnd k n e) (sym same_entry) (is.over e (sym h.ended ∙ ended));
        },
        stream,
      )

    -- its end comes
    module _ (m : Link) (there_m : numbered s.links link ≡ Some m) (read : read_bytes m ≡ n) where
      link_is : link_of is.attempt s ≡ Some m
      link_is = ap (option_and_then (λ (q : Placed). numbered s.links q.link)) is.placed ∙ ap (numbered s.links) is.here ∙ there_m

      plain_of : (k : Outcome) → is_reset k.cause ≡ false → is_framing k.cause ≡ false → IsPlainEnd (entry u) n (end_of is.attempt k s)
      plain_of k unreset unbroken = record {
        entry_is = sym same_entry;
        seen_is = ap (λ (o : Option Link). option_map_or read_bytes o 0) link_is ∙ read;
        unreset = unreset;
        unbroken = unbroken;
      }

      plain : (e : RowEnd) → IsMeantEnd s is.attempt e → IsPlainEnd (entry u) n e
      plain e meant =
          elim meant.is [
            | inl cut ↦ subst (IsPlainEnd (entry u) n) (sym cut) (plain_of cut_end refl refl)
            | inr by ↦
                (let both : Some by.0 ≡ Some (out_for is.attempt) = sym by.1.0 ∙ is.goes (gone_none is.attempt.row.ended meant.going) in
                let one : by.0 ≡ out_for is.attempt = (cc) in
                let causes = plain_out is.attempt.row.stream in
                subst (IsPlainEnd (entry u) n) (sym by.1.1)
                (plain_of by.0 (ap (λ (k : Outcome). is_reset k.cause) one ∙ causes.0) (ap (λ (k : Outcome). is_framing k.cause) one ∙ causes.1)))
          ]

      ends : (e : RowEnd) → numbered u.attempts row ≡ Some (with_end e is.attempt) → IsMeantEnd s is.attempt e → Stays s u is
      ends e there meant = (
        record {
          attempt = with_end e is.attempt;
          there = there;
          at = is.at;
          placed = is.placed;
          here = is.here;
          goes = λ none. absurd (let no : ⊥ = (cc) in no);
          over = λ d ended. (let one : e ≡ d = (cc) in subst (IsPlainEnd (entry u) n) one (plain e meant));
        },
        refl,
      )

  -- by one action
  entry_by : (s u : Seen) (o p : OpenEntry) → u.entries ≡ s.entries → s.current ≡ Some o → u.current ≡ Some p → entry u ≡ entry s
  entry_by s u o p entries before after_ =
      ap (λ (es : List Entry). length es + (if is_some u.current then 1 else 0)) entries
      ∙ ap (λ (k : Option OpenEntry). length s.entries + (if is_some k then 1 else 0)) (after_)
      ∙ sym (ap (λ (k : Option OpenEntry). length s.entries + (if is_some k then 1 else 0)) before)

  off_row : (b : Attempt) (f : Attempt → Attempt) (c : Bool) (o : Option Attempt) → c ≡ false → o ≡ Some (if c then f b else b) → HasRow b o
  off_row b f true o off e = absurd (let no : ⊥ = (cc) in no)
  off_row b f false o off e = record { now = b; there = e; placed = refl; ended = refl }

  on_row : (b : Attempt) (f : Attempt → Attempt) (c : Bool) (o : Option Attempt) → c ≡ true → o ≡ Some (if c then f b else b) → o ≡ Some (f b)
  on_row b f true o on e = e
  on_row b f false o on e = absurd (let no : ⊥ = (cc) in no)

  module _ (o : OpenEntry) (s : Seen) (current : s.current ≡ Some o) (places : AttemptsStandInPlace 1 s.attempts) (m : Link) (there_m : numbered s.links link ≡ Some m) (read : read_bytes m ≡ n)
      (is : IsGoawayRow link n s row) where
    -- what is so of the session once an attempt has ended
    ended_by : (k : ℕ) (e : RowEnd) (z : Bool) (q : Option Attempt) → (row == k) ≡ z → numbered s.attempts k ≡ q → (u : Seen) (p : OpenEntry) → u ≡ attempt_ended k e s → IsPassedStill s u
        → u.current ≡ Some p → IsMeant s (action.AttemptEnds k e) → Stays s u is
    ended_by k e z None on there u p form passed now meant =
        let same : u ≡ s = form ∙ ap (λ (z : Option Attempt). option_map_or (attempt_ended_as e s) z s) there in
        still s u is passed (entry_by s u o p (ap (λ (v : Seen). v.entries) same) current now)
        (record { now = is.attempt; there = ap (λ (v : Seen). numbered v.attempts row) same ∙ is.there; placed = refl; ended = refl })
    ended_by k e z (Some a) on there u p form passed now meant =
        let same : u ≡ _ = form ∙ is_ended s k e a places there in
        let same_entry : entry u ≡ entry s = entry_by s u o p (ap (λ (v : Seen). v.entries) same) current now in
        let at_row : numbered u.attempts row ≡ Some (if row == k then with_end e is.attempt else is.attempt)
        = ap (λ (v : Seen). numbered v.attempts row) same ∙ changed_row (with_end e) k row s.attempts is.attempt is.there in
        by_row z on at_row same_entry
      where
        by_row : (d : Bool) → (row == k) ≡ d → numbered u.attempts row ≡ Some (if row == k then with_end e is.attempt else is.attempt) → entry u ≡ entry s → Stays s u is
        by_row true sure at_row same_entry =
            let one : row ≡ k = eqb-true row k sure in
            ends s u is passed same_entry m there_m read e (on_row is.attempt (with_end e) (row == k) (numbered u.attempts row) sure at_row)
            (meant is.attempt (ap (numbered s.attempts) (sym one) ∙ is.there) (ap (λ (q : Option Placed). is_some q) is.placed))
        by_row false off at_row same_entry =
            still s u is passed same_entry (off_row is.attempt (with_end e) (row == k) (numbered u.attempts row) off at_row)

    placed_by : (k : ℕ) (at : Placed) (c : Bool) → (row == k) ≡ c → (u : Seen) (p : OpenEntry) → u ≡ marked_row (mark.Placed k) k (with_attempt (with_placing at) k s) → IsPassedStill s u
        → u.current ≡ Some p → IsMeant s (action.AttemptPlaced k at) → Stays s u is
    placed_by k at true on u p form passed now meant =
        let one : row ≡ k = eqb-true row k on in
        absurd (never (is_some is.attempt.row.placed) (ap (λ (q : Option Placed). is_some q) is.placed) (meant is.attempt (ap (numbered s.attempts) (sym one) ∙ is.there)))
    placed_by k at false off u p form passed now meant =
        let t : Seen = with_attempt (with_placing at) k s in
        let here : HasRow is.attempt (numbered t.attempts row)
        = off_row is.attempt (with_placing at) (row == k) (numbered t.attempts row) off (changed_row (with_placing at) k row s.attempts is.attempt is.there) in
        let more : RowsStay t (marked_row (mark.Placed k) k t) = marks (mark.Placed k) k t in
        let then_ : HasRow here.now (numbered (marked_row (mark.Placed k) k t).attempts row) = more.rows row here.now here.there in
        still s u is passed (entry_by s u o p (ap (λ (v : Seen). v.entries) form ∙ more.entries) current now)
        (record {
          now = then_.now;
          there = ap (λ (v : Seen). numbered v.attempts row) form ∙ then_.there;
          placed = then_.placed ∙ here.placed;
          ended = then_.ended ∙ here.ended;
        })

    rows_step : (a : Action) → is_of_rows a ≡ true → (u : Seen) (p : OpenEntry) → u ≡ after_in o a s → IsPassedStill s u → u.current ≡ Some p → IsMeant s a → Stays s u is
    rows_step (action.AttemptEnds k e) sure u p form passed now meant = ended_by k e (row == k) (numbered s.attempts k) refl refl u p form passed now meant
    rows_step (action.AttemptPlaced k at) sure u p form passed now meant = placed_by k at (row == k) refl u p form passed now meant
    rows_step _ sure u p form passed now meant = absurd (cc)

    step_by : (a : Action) (b : Bool) → is_of_rows a ≡ b → is_at_once a ≡ true → (u : Seen) (p : OpenEntry) → u ≡ after_in o a s → IsPassedStill s u → u.current ≡ Some p → IsMeant s a → Stays s u is
    step_by a true sure once u p form passed now meant = rows_step a sure u p form passed now meant
    step_by a false off once u p form passed now meant =
        let rows : RowsStay s u = subst (RowsStay s) (sym form) (acts o a s once off) in
        still s u is passed (entry_by s u o p rows.entries current now) (rows.rows row is.attempt is.there)

  -- along all that follows at once
  module _ (whole : List ℕ) (bs : List ℕ) (p : OpenEntry) (t : Seen) (last : t.current ≡ Some p) (replied_ : p.stage ≡ stage.Replied) (within : n ≤ length bs) (l : Link)
      (there : numbered t.links link ≡ Some l) (left : drop (read_bytes l) l.received ≡ drop n bs) (going : is_none l.over ≡ true) where
    along_by : (a : Action) (actions : List Action) (o : OpenEntry) (s : Seen) (b : Bool) → is_at_once a ≡ b → Does actions (after a s) t → posted_in actions ≡ [] → s.current ≡ Some o
        → o.stage ≡ stage.Replied → following s ≡ Some a → IsNext a s → is_of_reply a ≡ true → IsUnread link whole n bs o s → IsKept s → (is : IsGoawayRow link n s row)
        → ((q : OpenEntry) → (after a s).current ≡ Some q → q.stage ≡ stage.Replied → IsUnread link whole n bs q (after a s) → IsKept (after a s) → (k : IsGoawayRow link n (after a s) row)
        → Stays (after a s) t k) → Stays s t is
    along_by a actions o s true once does posts current at next is_next reply unread kept is rest =
        let k : IsOpenAs (staged o) (after a s) = goes_on a o s current (at_once_settles a once) (once_open a once) in
        let passed : IsPassedStill s (after a s) = actions_leave_passed a o s current once in
        let form : after a s ≡ after_in o a s = ap (λ (c : Option OpenEntry). after_if c a s) current in
        let one : Stays s (after a s) is
        = step_by o s current (placed_of 1 s.attempts kept.book.places) unread.m unread.here unread.read is a (is_of_rows a) refl once (after a s) k.entry form passed k.current
        (next_is_meant s kept o a current at next) in
        let more : Stays (after a s) t one.0
        = rest k.entry k.current (ap (λ (z : Staged). z.stage_) k.stage_is ∙ at)
        (unread_stays link whole n bs o k.entry s (after a s) unread (ap (λ (z : Staged). z.event_) k.stage_is) passed) (kept_stays s a kept is_next) one.0 in
        (more.0, more.1 ∙ one.1)
    along_by a actions o s false off does posts current at next is_next reply unread kept is rest =
        let begins : a ≡ action.SettlingBegins = only_begins a reply off in
        absurd
        (not_both p replied_
        (settling_stays actions (record o { stage = stage.Settling }) p (after a s) t does posts
        (ap (λ (z : Action). (after z s).current) begins ∙ begins_as o s current) refl last))

    along : (actions : List Action) (o : OpenEntry) (s : Seen) → Does actions s t → posted_in actions ≡ [] → s.current ≡ Some o → o.stage ≡ stage.Replied → IsUnread link whole n bs o s
        → IsKept s → (is : IsGoawayRow link n s row) → Stays s t is
    along [] o s does posts current at unread kept is = subst (λ (v : Seen). Stays s v is) (sym does) (is, refl)
    along (a ∷ actions) o s does posts current at unread kept is =
        let none : (posted_by a ≡ None) × (posted_in actions ≡ []) = first_none (posted_by a) (posted_in actions) posts in
        let next : following s ≡ Some a = follows a s none.0 does.0 in
        along_by a actions o s (is_at_once a) refl does.1 none.1 current at next does.0
        (only_replies link whole n bs p t last replied_ within l there left going a actions o s unread current at next does.1 none.1) unread kept is
        (λ q here replied unread_ kept_ k. along actions q (after a s) does.1 none.1 here replied unread_ kept_ k)

pub goaway_rows_stay : (link : ℕ) (whole : List ℕ) (n : ℕ) (bs : List ℕ) (actions : List Action) (o p : OpenEntry) (s t : Seen) → Does actions s t → posted_in actions ≡ []
    → s.current ≡ Some o → o.stage ≡ stage.Replied → t.current ≡ Some p → p.stage ≡ stage.Replied → IsUnread link whole n bs o s → n ≤ length bs
    → (l : Link) → numbered t.links link ≡ Some l → drop (read_bytes l) l.received ≡ drop n bs → is_none l.over ≡ true
    → IsKept s → (row : ℕ) → (is : IsGoawayRow link n s row)
    → (now : IsGoawayRow link n t row) × (now.attempt.row.stream ≡ is.attempt.row.stream)
goaway_rows_stay link whole n bs actions o p s t does posts current at last replied unread within l there left going kept row is =
    along link n row whole bs p t last replied within l there left going actions o s does posts current at unread kept is
