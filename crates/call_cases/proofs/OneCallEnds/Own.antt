-- The slot of a call that has ended, and the columns of the ledger, once its attempts are cut off and their streams are reset.
use Rattle.std.proofs.Common.{◌≡◌, ◌==◌, ap, refl, subst, sym, ◌∙◌, Bool, true, false, List, [], Option, None, Some, ℕ, eqb-true, if◌then◌else◌, is_none, length, map, take}
use Rattle.std.specs.Option.{option_map, option_map_or}
use Rattle.a6_numbers.specs.Throttling.{Bucket}
use Rattle.attempt_ledger.specs.declared.ledger.CallEnd.{CallEnd}
use Rattle.attempt_ledger.specs.declared.ledger.CallSeen.{CallSeen}
use Rattle.attempt_ledger.specs.declared.ledger.Ledger.{Ledger}
use Rattle.attempt_ledger.specs.declared.ledger.LinkSeen.{LinkSeen}
use Rattle.call_actions.proofs.Ranks.{numbered_map}
use Rattle.call_actions.specs.CallsInTurn.Turns.{StaysSteady}
use Rattle.call_actions.specs.Order.{IsInTurn}
use Rattle.call_actions.specs.Sees.{Sees}
use Rattle.call_actions.specs.TakeActions.Serves.{Serves}
use Rattle.call_core.specs.Steps.{Stepped, closed_by, cut_all, lent}
use Rattle.call_cases.proofs.OtherCalls.Rows.{columns_stay}
use Rattle.channel_actions.proofs.Links.Settings.Slots.{put_away}
use Rattle.channel_actions.proofs.Stamps.{stamp_keeps}
use Rattle.channel_actions.specs.ActsFollowed.Followed.{call_closed, call_lent, slot_closed}
use Rattle.channel_actions.specs.Calls.{HasSlot, SeesCall, lent_to}
use Rattle.channel_actions.specs.Columns.{SeesColumns, links_noted}
use Rattle.channel_actions.specs.Configs.{runs_in_turn}
use Rattle.call_cases.specs.OtherCalls.Others.{GoesApart}
use Rattle.call_cases.proofs.CallEnds.Alone.{has_cut, to}
use Rattle.call_cases.proofs.CallEnds.Linked.{closed_now, going, on, own, slot, tokens, w, y}
use Rattle.call_cases.proofs.CallEnds.On.{ended, resets, t}
use Rattle.call_cases.proofs.ConfiguredCalls.Lists.{other_numbers, same_numbered, same_words}
use Rattle.call_cases.proofs.OneCallEnds.Along.{config_of, resets_carry}
use Rattle.call_cases.proofs.OneCallEnds.Relent.{AreReadAlike, all_rest, closed_relent, read_alike, relent}
use Rattle.call_cases.proofs.OneCallEnds.Resets.{KeepsCall, reset_keeps}
use Rattle.call_cases.proofs.OneCallEnds.Rows.{same}
use Rattle.call_cases.specs.CallEnds.Ends.{IsToEnd}
use Rattle.call_cases.proofs.EndsFollow.Follow.{base}
use Rattle.channel_core.proofs.BookLaws.{number_other}
use Rattle.channel_core.proofs.Places.{put_there}
use Rattle.channel_core.specs.Books.{slot_at}
use Rattle.channel_core.specs.States.{StateSeen}
use Rattle.channel_core.specs.Tables.{tokens_in}
use Rattle.channel_core.specs.declared.state.slots.CallSlot.{CallSlot}
use Rattle.grpc_base.specs.declared.event.EndCause.{EndCause}
use Rattle.ledger_stamps.specs.Steps.{changed_at, ended_call}
use Rattle.session_actions.specs.CallEnds.{call_ended}
use Rattle.session_actions.specs.Closing.{noted_gone}
use Rattle.session_actions.specs.Configs.{deadline}
use Rattle.session_actions.specs.DueAttempts.{next_due}
use Rattle.session_actions.specs.Entries.{entry, now}
use Rattle.session_actions.specs.Links.{read_bytes}
use Rattle.session_actions.specs.Refusals.{is_gone}
use Rattle.session_actions.specs.Sessions.{call_seen, link_seen}
use Rattle.session_actions.specs.Words.{numbered}
use Rattle.session_actions.specs.declared.call.Call.{Call}
use Rattle.session_actions.specs.declared.config.HeldConfig.{HeldConfig}
use Rattle.session_actions.specs.declared.entry.OpenEntry.{OpenEntry}
use Rattle.session_actions.specs.declared.link.Link.{Link}
use Rattle.session_actions.specs.declared.policy.PolicyUse.{PolicyUse}
use Rattle.session_actions.specs.declared.seen.Seen.{Seen}
use Rattle.session_order.specs.declared.line.Line.{Line}

-- what a call did so far is of no moment to what is kept of it
serves_alone : (v : Seen) (c : Call) (z : Stepped) → Serves v c z → Serves v c (lent z.call z.ledger z.tokens [])
serves_alone v c z k =
    let sees : Sees v c (lent z.call z.ledger z.tokens []) = record {
      own = k.sees.own;
      number_is = k.sees.number_is;
      request = k.sees.request;
      begun = k.sees.begun;
      chosen = k.sees.chosen;
      finished = k.sees.finished;
      longest_is = k.sees.longest_is;
      ended = k.sees.ended;
      attempts = k.sees.attempts;
      live = k.sees.live;
      tokens = k.sees.tokens;
      entry_is = k.sees.entry_is;
      rows = k.sees.rows;
      call_is = k.sees.call_is;
    } in
    record {
      sees = sees;
      places = k.places;
      config = k.config;
      links = k.links;
      reads = k.reads;
      counted = k.counted;
      end_taken = k.end_taken;
      going = k.going;
      left = k.left;
      holds = k.holds;
    }

ended_some : (o : Option CallEnd) (why : EndCause) → option_map (λ (e : CallEnd). e.cause) o ≡ Some why → is_none o ≡ false
ended_some None why e = absurd (cc)
ended_some (Some k) why e = refl

module _ (waits : Line → Bool) (n : ℕ) (why : EndCause) (x : StateSeen) (o : OpenEntry) (s : Seen) (is : IsToEnd waits n why x o s) where
  abbrev u : Seen
  u = (resets waits n why x o s is).seen

  abbrev mid : Seen
  mid = t waits n why x o s is

  abbrev at_slot : CallSlot
  at_slot = slot waits n why x o s is

  abbrev pub call : Call
  call = (ended waits n why x o s is).ended.agrees.call

  abbrev was : Stepped
  was = closed_by why (now s) (lent_to x s at_slot)

  call_number : call.number ≡ n
  call_number = (ended waits n why x o s is).ended.agrees.number_is ∙ own waits n why x o s is

  turn_by : (d e : Call) → numbered mid.calls n ≡ Some d → numbered mid.calls n ≡ Some e → IsInTurn mid d → IsInTurn mid e
  turn_by d e at there k = let both : Some d ≡ Some e = sym at ∙ there in let one : d ≡ e = (cc) in subst (IsInTurn mid) one k

  steady : StaysSteady mid n
  steady = (has_cut waits n why x o s is).steady

  kept_mid : KeepsCall call was mid
  kept_mid = record {
    serves = (ended waits n why x o s is).ended.agrees.serves;
    order = (ended waits n why x o s is).order;
    turn = turn_by steady.call call steady.own (ap (numbered mid.calls) (sym call_number) ∙ (ended waits n why x o s is).ended.agrees.serves.sees.own) steady.steady.turn;
  }

  pub kept_call : KeepsCall call was u
  kept_call =
      resets_carry waits n o (call_ended n why s) (base waits n why o s (to waits n why x o s is)) (KeepsCall call was) (λ v a k h. reset_keeps call was v a k h)
      (resets waits n why x o s is).actions mid u (has_cut waits n why x o s is).reset (resets waits n why x o s is).resets kept_mid

  pub there : numbered u.calls n ≡ Some call
  there = ap (numbered u.calls) (sym call_number) ∙ kept_call.serves.sees.own

  -- the channel's own call, with its ledger
  abbrev ends : Stepped
  ends = call_closed why x at_slot

  abbrev stamps : List LinkSeen
  stamps = map link_seen s.links

  read_same : AreReadAlike stamps x.book.ledger.links
  read_same =
      subst (λ (l : List LinkSeen). AreReadAlike stamps l) is.agrees.columns.links
      (read_alike link_seen (λ (l : Link). link_seen (noted_gone s l))
      (λ l. sym (stamp_keeps (λ (k : Link). is_gone k s) (λ k z. refl) read_bytes (λ k z. refl) (entry s) l)) s.links)

  was_is : was ≡ relent stamps ends
  was_is =
      ap (λ (m : ℕ). closed_by why m (relent stamps (call_lent x at_slot))) is.agrees.clock.moment
      ∙ closed_relent why x.book.moment stamps (call_lent x at_slot) (going waits n why x o s is) read_same

  tokens_are : ends.tokens ≡ tokens_in x.book.buckets at_slot.bucket
  tokens_are = ap (λ (z : Stepped). z.tokens) (closed_now waits n why x o s is)

  links_same : stamps ≡ map link_seen u.links
  links_same = sym (ap (λ (z : Stepped). z.ledger.links) was_is) ∙ sym kept_call.serves.links

  abbrev shape : List LinkSeen → Option Bucket → Stepped
  shape ls bucket = lent ends.call (record ends.ledger { links = ls }) bucket []

  own_serves : Serves u call (lent_to (w waits n why x o s is) u (slot_closed why x at_slot))
  own_serves =
      subst (λ (z : Option Bucket). Serves u call (shape (map link_seen u.links) z)) tokens_are
      (subst (λ (l : List LinkSeen). Serves u call (shape l ends.tokens)) links_same
      (subst (λ (z : Stepped). Serves u call (lent z.call z.ledger z.tokens [])) was_is (serves_alone u call was kept_call.serves)))

  cause_is : ends.call.ended ≡ Some why
  cause_is = ap (λ (z : Stepped). z.call.ended) (closed_now waits n why x o s is)

  closed_too : is_none call.end ≡ false
  closed_too = ended_some call.end why (own_serves.sees.ended ∙ cause_is)

  config_same : call.config ≡ is.call.config
  config_same =
      let both : Some call.config ≡ Some is.call.config
      = sym (ap (option_map config_of) there) ∙ (same waits n why x o s is).config ∙ ap (option_map config_of) is.there in
      (cc)

  own_sees : SeesCall (w waits n why x o s is) u call (slot_closed why x at_slot)
  own_sees = record {
    bucket = ap (λ (hs : List HeldConfig). option_map_or (λ (k : ℕ). length (runs_in_turn (take k hs))) call.config 0) (on waits n why x o s is).rest.configs
        ∙ ap (λ (q : Option ℕ). option_map_or (λ (k : ℕ). length (runs_in_turn (take k s.configs))) q 0) config_same
        ∙ (is.agrees.calls.each n is.call is.there).sees.bucket;
    serves = own_serves;
    order = kept_call.order;
    turn = kept_call.turn;
    due = ap (λ (b : Bool). if b then next_due call u else None) closed_too;
    deadline_is = ap (λ (b : Bool). if b then deadline call u else None) closed_too;
  }

  pub own_slot : (d : Call) → numbered u.calls n ≡ Some d → HasSlot (w waits n why x o s is) u d n
  own_slot d e =
      let both : Some call ≡ Some d = sym there ∙ e in
      let one : call ≡ d = (cc) in
      subst (λ (k : Call). HasSlot (w waits n why x o s is) u k n) one
      (record {
        slot = slot_closed why x at_slot;
        there = put_there x.book.calls n at_slot (slot_closed why x at_slot) (is.agrees.calls.each n is.call is.there).there;
        sees = own_sees;
      })

  pub others_slots : (k : ℕ) → (k == n) ≡ false → slot_at (w waits n why x o s is).book k ≡ slot_at x.book k
  others_slots k e = put_away x.book.calls n k at_slot (slot_closed why x at_slot) (is.agrees.calls.each n is.call is.there).there e

  -- the ledger
  abbrev cut : Ledger
  cut = cut_all None x.book.moment (tokens waits n why x o s is) at_slot.call.live x.book.ledger

  cut_is : cut ≡ record x.book.ledger { rows = cut.rows }
  cut_is = all_rest x.book.moment (tokens waits n why x o s is) at_slot.call.live x.book.ledger

  abbrev end_now : CallEnd
  end_now = record { entry = cut.entry; moment = x.book.moment; cause = why }

  abbrev calls_now : List CallSeen → List CallSeen
  calls_now calls = changed_at (ended_call end_now) calls at_slot.call.number

  pub calls_are : (w waits n why x o s is).book.ledger.calls ≡ calls_now x.book.ledger.calls
  calls_are = ap (λ (z : Stepped). z.ledger.calls) (closed_now waits n why x o s is) ∙ ap (λ (z : Ledger). calls_now z.calls) cut_is

  asks_are : (w waits n why x o s is).book.ledger.asks ≡ x.book.ledger.asks
  asks_are = ap (λ (z : Stepped). z.ledger.asks) (closed_now waits n why x o s is) ∙ ap (λ (z : Ledger). z.asks) cut_is

  generations_are : (w waits n why x o s is).book.ledger.generations ≡ x.book.ledger.generations
  generations_are = ap (λ (z : Stepped). z.ledger.generations) (closed_now waits n why x o s is) ∙ ap (λ (z : Ledger). z.generations) cut_is

  module _ (g : GoesApart n s u) where
    calls_at : (m : ℕ) (b : Bool) → (m == n) ≡ b → numbered (map (call_seen u) u.calls) m ≡ numbered (w waits n why x o s is).book.ledger.calls m
    calls_at m true e =
        ap (λ (k : ℕ). numbered (map (call_seen u) u.calls) k) (eqb-true m n e)
        ∙ numbered_map (call_seen u) u.calls n ∙ ap (option_map (call_seen u)) there
        ∙ sym (ap (λ (k : ℕ). numbered (w waits n why x o s is).book.ledger.calls k) (sym call_number) ∙ own_serves.sees.call_is)
        ∙ sym (ap (λ (k : ℕ). numbered (w waits n why x o s is).book.ledger.calls k) (eqb-true m n e))
    calls_at m false e =
        numbered_map (call_seen u) u.calls m ∙ columns_stay n s u g m e ∙ sym (numbered_map (call_seen s) s.calls m)
        ∙ ap (λ (l : List CallSeen). numbered l m) is.agrees.columns.calls ∙ sym (same_words x.book.ledger.calls m)
        ∙ sym (number_other (ended_call end_now) x.book.ledger.calls at_slot.call.number m
        (λ f. other_numbers m n e (f ∙ sym (is.agrees.calls.each n is.call is.there).sees.serves.sees.number_is ∙ own waits n why x o s is)))
        ∙ same_words (calls_now x.book.ledger.calls) m ∙ sym (ap (λ (l : List CallSeen). numbered l m) calls_are)

    pub columns_on : links_noted u ≡ (y waits n why x o s is).book.ledger.links → SeesColumns (w waits n why x o s is).book.ledger u
    columns_on noted = record {
      rows = own_serves.sees.rows;
      calls = same_numbered (map (call_seen u) u.calls) (w waits n why x o s is).book.ledger.calls (λ m. calls_at m (m == n) refl);
      asks = (on waits n why x o s is).rest.asks ∙ is.agrees.columns.asks ∙ sym asks_are;
      generations = ap (λ (ps : List PolicyUse). map (λ (p : PolicyUse). p.generation) ps) (on waits n why x o s is).rest.policies ∙ is.agrees.columns.generations ∙ sym generations_are;
      links = noted;
    }
