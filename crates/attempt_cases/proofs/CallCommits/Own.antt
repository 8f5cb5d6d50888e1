-- The slot of a call that is committed, and the columns of the ledger, once its other attempts are cut off and their streams are reset.
use Rattle.std.proofs.Common.{◌≡◌, ◌-◌, ◌==◌, ◌∷◌, ap, refl, subst, sym, ◌∙◌, Bool, true, false, List, [], Option, None, Some, ℕ, eqb-true, if◌then◌else◌, is_none, length, map, take}
use Rattle.std.proofs.lemmas.Bool.{eqb-false}
use Rattle.std.specs.Option.{option_map, option_map_or}
use Rattle.a6_numbers.specs.Throttling.{Bucket}
use Rattle.attempt_ledger.specs.declared.ledger.CallEnd.{CallEnd}
use Rattle.attempt_ledger.specs.declared.ledger.CallSeen.{CallSeen}
use Rattle.attempt_ledger.specs.declared.ledger.Ledger.{Ledger}
use Rattle.attempt_ledger.specs.declared.ledger.LinkSeen.{LinkSeen}
use Rattle.call_actions.proofs.Ranks.{numbered_map}
use Rattle.call_actions.specs.CallsInTurn.Turns.{StaysSteady}
use Rattle.call_actions.specs.Order.{IsInTurn}
use Rattle.call_actions.specs.Sees.{Sees}
use Rattle.call_actions.specs.TakeActions.Serves.{Serves}
use Rattle.call_core.specs.Steps.{Stepped, commit_stamped, cut_all, cut_row, lent}
use Rattle.call_cases.proofs.OtherCalls.Rows.{columns_stay}
use Rattle.channel_actions.proofs.Links.Settings.Slots.{put_away}
use Rattle.channel_actions.proofs.Stamps.{stamp_keeps}
use Rattle.channel_actions.specs.ActsFollowed.Followed.{call_lent}
use Rattle.channel_actions.specs.Calls.{HasSlot, SeesCall, deadline_of, due_of, lent_to}
use Rattle.channel_actions.specs.Columns.{SeesColumns, links_noted}
use Rattle.channel_actions.specs.Configs.{runs_in_turn}
use Rattle.call_cases.specs.OtherCalls.Others.{GoesApart}
use Rattle.attempt_cases.proofs.CallCommits.Alone.{has_cut}
use Rattle.attempt_cases.proofs.CallCommits.Along.{same, to_end}
use Rattle.attempt_cases.proofs.CallCommits.Given.{cut_is, elses}
use Rattle.attempt_cases.proofs.CallCommits.Linked.{after_slot, f, ledger_is, rows, slot, stamped, tokens, w, y}
use Rattle.attempt_cases.proofs.CallCommits.On as on_
use Rattle.attempt_cases.proofs.CallCommits.On.{done, on, own, stepped, t}
use Rattle.call_cases.proofs.ConfiguredCalls.Lists.{other_numbers, same_numbered, same_words}
use Rattle.call_cases.proofs.OneCallEnds.Along.{config_of}
use Rattle.call_cases.proofs.OneCallEnds.Relent.{AreReadAlike, all_rest, read_alike, relent, with_links}
use Rattle.attempt_cases.specs.CallCommits.Commits.{CommitsNext, commits_with}
use Rattle.call_core.specs.Parts.{count_of, cut_end, read_of}
use Rattle.call_core.specs.declared.inbox.Inbox.{Inbox}
use Rattle.call_core.specs.declared.live.LiveRow.{LiveRow}
use Rattle.call_actions.proofs.Dues.{attempts_are_due}
use Rattle.call_actions.proofs.TakeActions.Deadlines.{deadline_is}
use Rattle.session_actions.specs.Calls.{is_open_call}
use Rattle.session_actions.specs.declared.action.CommitCause.{CommitCause}
use Rattle.call_cases.proofs.OneCallEnds.Resets.{KeepsCall, reset_keeps}
use Rattle.channel_core.proofs.BookLaws.{number_other}
use Rattle.channel_core.proofs.Places.{put_there}
use Rattle.channel_core.specs.Books.{slot_at}
use Rattle.channel_core.specs.States.{StateSeen}
use Rattle.channel_core.specs.Tables.{tokens_in}
use Rattle.channel_core.specs.declared.state.slots.CallSlot.{CallSlot}
use Rattle.grpc_base.specs.declared.event.EndCause.{EndCause}
use Rattle.ledger_stamps.specs.Steps.{changed_at, ended_row}
use Rattle.session_actions.specs.Closing.{noted_gone}
use Rattle.session_actions.specs.Configs.{deadline}
use Rattle.session_actions.specs.DueAttempts.{next_due}
use Rattle.session_actions.specs.Entries.{entry, now}
use Rattle.session_actions.specs.Links.{read_bytes}
use Rattle.session_actions.specs.Refusals.{is_gone}
use Rattle.session_actions.specs.Sessions.{call_seen, link_seen}
use Rattle.session_actions.specs.Words.{numbered}
use Rattle.session_actions.specs.declared.call.Call.{Call}
use Rattle.session_actions.specs.declared.config.HeldConfig.{HeldConfig}
use Rattle.session_actions.specs.declared.entry.OpenEntry.{OpenEntry}
use Rattle.session_actions.specs.declared.link.Link.{Link}
use Rattle.session_actions.specs.declared.policy.PolicyUse.{PolicyUse}
use Rattle.session_actions.specs.declared.seen.Seen.{Seen}
use Rattle.session_order.specs.declared.line.Line.{Line}

-- what a call did so far is of no moment to what is kept of it
serves_alone : (v : Seen) (c : Call) (z : Stepped) → Serves v c z → Serves v c (lent z.call z.ledger z.tokens [])
serves_alone v c z k =
    let sees : Sees v c (lent z.call z.ledger z.tokens []) = record {
      own = k.sees.own;
      number_is = k.sees.number_is;
      request = k.sees.request;
      begun = k.sees.begun;
      chosen = k.sees.chosen;
      finished = k.sees.finished;
      longest_is = k.sees.longest_is;
      ended = k.sees.ended;
      attempts = k.sees.attempts;
      live = k.sees.live;
      tokens = k.sees.tokens;
      entry_is = k.sees.entry_is;
      rows = k.sees.rows;
      call_is = k.sees.call_is;
    } in
    record {
      sees = sees;
      places = k.places;
      config = k.config;
      links = k.links;
      reads = k.reads;
      counted = k.counted;
      end_taken = k.end_taken;
      going = k.going;
      left = k.left;
      holds = k.holds;
    }

-- what a commitment makes of a ledger hangs of its links on how far they were read alone
module _ (ls : List LinkSeen) (moment : ℕ) (tokens : Option ℕ) where
  cut_relent : (place : ℕ) (o : Option ℕ) (ledger : Ledger) → AreReadAlike ls ledger.links
      → cut_row moment tokens place (with_links ls ledger) o ≡ with_links ls (cut_row moment tokens place ledger o)
  cut_relent place None ledger same = refl
  cut_relent place (Some link) ledger same =
      ap (λ (n : ℕ). record ledger { rows = changed_at (ended_row (cut_end ledger.entry moment n tokens)) ledger.rows place; links = ls }) (same.each link)

  links_cut : (place : ℕ) (o : Option ℕ) (ledger : Ledger) → (cut_row moment tokens place ledger o).links ≡ ledger.links
  links_cut place None ledger = refl
  links_cut place (Some link) ledger = refl

  all_relent : (live : List LiveRow) (ledger : Ledger) → AreReadAlike ls ledger.links
      → cut_all None moment tokens live (with_links ls ledger) ≡ with_links ls (cut_all None moment tokens live ledger)
  all_relent [] ledger same = refl
  all_relent (r ∷ live) ledger same =
      ap (cut_all None moment tokens live) (cut_relent r.place r.link ledger same)
      ∙ all_relent live (cut_row moment tokens r.place ledger r.link)
      (record { each = λ k. same.each k ∙ ap (λ (ks : List LinkSeen). read_of ks k) (sym (links_cut r.place r.link ledger)) })

committed_relent : (place moment : ℕ) (inbox : Inbox) (ls : List LinkSeen) (z : Stepped) → AreReadAlike ls z.ledger.links
    → commits_with place inbox moment (relent ls z) ≡ relent ls (commits_with place inbox moment z)
committed_relent place moment inbox ls z same =
    ap (λ (ledger : Ledger). record (commits_with place inbox moment z) { ledger = ledger })
    (cut_is place moment (count_of z.tokens) z.call.live (with_links ls (commit_stamped place z.ledger))
    ∙ all_relent ls moment (count_of z.tokens) (elses place z.call.live) (commit_stamped place z.ledger) same
    ∙ ap (with_links ls) (sym (cut_is place moment (count_of z.tokens) z.call.live (commit_stamped place z.ledger))))

pub none_cause : (o : Option CallEnd) (p : Option EndCause) → option_map (λ (e : CallEnd). e.cause) o ≡ p → is_none o ≡ is_none p
none_cause None p e = ap (λ (q : Option EndCause). is_none q) e
none_cause (Some k) p e = ap (λ (q : Option EndCause). is_none q) e

module _ (waits : Line → Bool) (n : ℕ) (why : CommitCause) (inbox : Inbox) (x : StateSeen) (o : OpenEntry) (s : Seen) (is : CommitsNext waits n why inbox x o s) where
  abbrev u : Seen
  u = on_.u waits n why inbox x o s is

  abbrev mid : Seen
  mid = t waits n why inbox x o s is

  abbrev at_slot : CallSlot
  at_slot = slot waits n why inbox x o s is

  abbrev pub call : Call
  call = (done waits n why inbox x o s is).committed.agrees.call

  abbrev was : Stepped
  was = stepped waits n why inbox x o s is

  call_number : call.number ≡ n
  call_number = (done waits n why inbox x o s is).committed.agrees.number_is ∙ own waits n why inbox x o s is

  turn_by : (d e : Call) → numbered mid.calls n ≡ Some d → numbered mid.calls n ≡ Some e → IsInTurn mid d → IsInTurn mid e
  turn_by d e at there k = let both : Some d ≡ Some e = sym at ∙ there in let one : d ≡ e = (cc) in subst (IsInTurn mid) one k

  steady : StaysSteady mid n
  steady = (has_cut waits n why inbox x o s is).steady

  kept_mid : KeepsCall call was mid
  kept_mid = record {
    serves = (done waits n why inbox x o s is).committed.agrees.serves;
    order = (done waits n why inbox x o s is).order;
    turn = turn_by steady.call call steady.own (ap (numbered mid.calls) (sym call_number) ∙ (done waits n why inbox x o s is).committed.agrees.serves.sees.own) steady.steady.turn;
  }

  pub kept_call : KeepsCall call was u
  kept_call = to_end waits n why inbox x o s is (KeepsCall call was) (λ v a k h. reset_keeps call was v a k h) kept_mid

  pub there : numbered u.calls n ≡ Some call
  there = ap (numbered u.calls) (sym call_number) ∙ kept_call.serves.sees.own

  -- the channel's own call, with its ledger
  abbrev ends : Stepped
  ends = f waits n why inbox x o s is (call_lent x at_slot)

  abbrev stamps : List LinkSeen
  stamps = map link_seen s.links

  read_same : AreReadAlike stamps x.book.ledger.links
  read_same =
      subst (λ (l : List LinkSeen). AreReadAlike stamps l) is.agrees.columns.links
      (read_alike link_seen (λ (l : Link). link_seen (noted_gone s l))
      (λ l. sym (stamp_keeps (λ (k : Link). is_gone k s) (λ k z. refl) read_bytes (λ k z. refl) (entry s) l)) s.links)

  was_is : was ≡ relent stamps ends
  was_is =
      ap (λ (m : ℕ). commits_with is.attempt.place inbox m (relent stamps (call_lent x at_slot))) is.agrees.clock.moment
      ∙ committed_relent is.attempt.place x.book.moment inbox stamps (call_lent x at_slot) read_same

  links_same : stamps ≡ map link_seen u.links
  links_same = sym (ap (λ (z : Stepped). z.ledger.links) was_is) ∙ sym kept_call.serves.links

  abbrev shape : List LinkSeen → Option Bucket → Stepped
  shape ls bucket = lent ends.call (record ends.ledger { links = ls }) bucket []

  abbrev pub slot_now : CallSlot
  slot_now = after_slot waits n why inbox x o s is

  pub own_serves : Serves u call (lent_to (w waits n why inbox x o s is) u slot_now)
  own_serves =
      subst (λ (l : List LinkSeen). Serves u call (shape l ends.tokens)) links_same
      (subst (λ (z : Stepped). Serves u call (lent z.call z.ledger z.tokens [])) was_is (serves_alone u call was kept_call.serves))

  pub open_same : is_open_call call ≡ is_none ends.call.ended
  open_same = none_cause call.end ends.call.ended own_serves.sees.ended

  pub due_same : due_of u call ≡ slot_now.due
  due_same =
      ap (λ (b : Bool). if b then next_due call u else None) open_same
      ∙ ap (λ (d : Option ℕ). if is_none ends.call.ended then d else None) (attempts_are_due u call (lent_to (w waits n why inbox x o s is) u slot_now) own_serves.sees)

  pub deadline_same : deadline_of u call ≡ slot_now.deadline
  deadline_same =
      ap (λ (b : Bool). if b then deadline call u else None) open_same
      ∙ ap (λ (d : Option ℕ). if is_none ends.call.ended then d else None) (deadline_is u call (lent_to (w waits n why inbox x o s is) u slot_now) own_serves)

  pub config_same : call.config ≡ is.call.config
  config_same =
      let both : Some call.config ≡ Some is.call.config
      = sym (ap (option_map config_of) there) ∙ (same waits n why inbox x o s is).config ∙ ap (option_map config_of) is.there in
      (cc)

  own_sees : SeesCall (w waits n why inbox x o s is) u call slot_now
  own_sees = record {
    bucket = ap (λ (hs : List HeldConfig). option_map_or (λ (k : ℕ). length (runs_in_turn (take k hs))) call.config 0) (on waits n why inbox x o s is).rest.configs
        ∙ ap (λ (q : Option ℕ). option_map_or (λ (k : ℕ). length (runs_in_turn (take k s.configs))) q 0) config_same
        ∙ (is.agrees.calls.each n is.call is.there).sees.bucket;
    serves = own_serves;
    order = kept_call.order;
    turn = kept_call.turn;
    due = due_same;
    deadline_is = deadline_same;
  }

  pub own_slot : (d : Call) → numbered u.calls n ≡ Some d → HasSlot (w waits n why inbox x o s is) u d n
  own_slot d e =
      let both : Some call ≡ Some d = sym there ∙ e in
      let one : call ≡ d = (cc) in
      subst (λ (k : Call). HasSlot (w waits n why inbox x o s is) u k n) one
      (record {
        slot = slot_now;
        there = put_there x.book.calls n at_slot slot_now (is.agrees.calls.each n is.call is.there).there;
        sees = own_sees;
      })

  pub others_slots : (k : ℕ) → (k == n) ≡ false → slot_at (w waits n why inbox x o s is).book k ≡ slot_at x.book k
  others_slots k e = put_away x.book.calls n k at_slot slot_now (is.agrees.calls.each n is.call is.there).there e

  -- the ledger
  abbrev cut : Ledger
  cut = cut_all None x.book.moment (tokens waits n why inbox x o s is) (rows waits n why inbox x o s is) (stamped waits n why inbox x o s is)

  cut_rest : cut ≡ record (stamped waits n why inbox x o s is) { rows = cut.rows }
  cut_rest = all_rest x.book.moment (tokens waits n why inbox x o s is) (rows waits n why inbox x o s is) (stamped waits n why inbox x o s is)

  pub calls_are : (w waits n why inbox x o s is).book.ledger.calls ≡ x.book.ledger.calls
  calls_are = ap (λ (z : Ledger). z.calls) (ledger_is waits n why inbox x o s is ∙ cut_rest)

  asks_are : (w waits n why inbox x o s is).book.ledger.asks ≡ x.book.ledger.asks
  asks_are = ap (λ (z : Ledger). z.asks) (ledger_is waits n why inbox x o s is ∙ cut_rest)

  generations_are : (w waits n why inbox x o s is).book.ledger.generations ≡ x.book.ledger.generations
  generations_are = ap (λ (z : Ledger). z.generations) (ledger_is waits n why inbox x o s is ∙ cut_rest)

  pub links_then : (f waits n why inbox x o s is (call_lent x at_slot)).ledger.links ≡ x.book.ledger.links
  links_then = ap (λ (z : Ledger). z.links) (ledger_is waits n why inbox x o s is ∙ cut_rest)

  module _ (g : GoesApart n s u) where
    calls_at : (m : ℕ) (b : Bool) → (m == n) ≡ b → numbered (map (call_seen u) u.calls) m ≡ numbered (w waits n why inbox x o s is).book.ledger.calls m
    calls_at m true e =
        ap (λ (k : ℕ). numbered (map (call_seen u) u.calls) k) (eqb-true m n e)
        ∙ numbered_map (call_seen u) u.calls n ∙ ap (option_map (call_seen u)) there
        ∙ sym (ap (λ (k : ℕ). numbered (w waits n why inbox x o s is).book.ledger.calls k) (sym call_number) ∙ own_serves.sees.call_is)
        ∙ sym (ap (λ (k : ℕ). numbered (w waits n why inbox x o s is).book.ledger.calls k) (eqb-true m n e))
    calls_at m false e =
        numbered_map (call_seen u) u.calls m ∙ columns_stay n s u g m e ∙ sym (numbered_map (call_seen s) s.calls m)
        ∙ ap (λ (l : List CallSeen). numbered l m) is.agrees.columns.calls ∙ sym (ap (λ (l : List CallSeen). numbered l m) calls_are)

    pub columns_on : links_noted u ≡ (y waits n why inbox x o s is).book.ledger.links → SeesColumns (w waits n why inbox x o s is).book.ledger u
    columns_on noted = record {
      rows = own_serves.sees.rows;
      calls = same_numbered (map (call_seen u) u.calls) (w waits n why inbox x o s is).book.ledger.calls (λ m. calls_at m (m == n) refl);
      asks = (on waits n why inbox x o s is).rest.asks ∙ is.agrees.columns.asks ∙ sym asks_are;
      generations = ap (λ (ps : List PolicyUse). map (λ (p : PolicyUse). p.generation) ps) (on waits n why inbox x o s is).rest.policies ∙ is.agrees.columns.generations ∙ sym generations_are;
      links = noted;
    }
