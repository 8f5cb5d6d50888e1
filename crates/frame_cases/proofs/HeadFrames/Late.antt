-- A head comes for the attempt to which its call is committed already: nothing follows, and the application gets it.
use Rattle.std.proofs.Common.{◌≡◌, ◌-◌, ◌&&◌, ◌==◌, ◌∷◌, ap, refl, subst, sym, ◌∙◌, Bool, true, false, List, [], Option, None, Some, ℕ, drop, is_none, is_some, slice_set}
use Rattle.std.proofs.lemmas.Bool.{and_parts, eqb-true}
use Rattle.std.specs.Option.{option_map_or}
use Rattle.attempt_ledger.specs.declared.news.News.{News}
use Rattle.attempt_ledger.specs.declared.news.News.TheVariants as news
use Rattle.call_actions.specs.TakeActions.Serves.{IsLeft, came}
use Rattle.call_core.specs.Laws as call_laws
use Rattle.call_core.specs.Parts.{find_live, names}
use Rattle.call_core.specs.Steps.{received_news, is_committed_live, lent}
use Rattle.call_core.specs.declared.state.CallState.{CallState}
use Rattle.channel_actions.specs.Agrees.{Agrees}
use Rattle.channel_actions.specs.Calls.{HasSlot, SeesCall}
use Rattle.channel_actions.specs.Quiescent.{IsAt}
use Rattle.call_cases.proofs.CallPosts.Agreeing.{IsPut}
use Rattle.call_cases.proofs.CallPosts.Asked.{deadline_right, due_right}
use Rattle.channel_core.specs.Arrivals.{frame_received}
use Rattle.channel_core.specs.Books.{slot_at}
use Rattle.channel_core.specs.States.{StateSeen}
use Rattle.channel_core.specs.Steps.{next_word, reported}
use Rattle.channel_core.specs.Tables.{Received, received_in, sealed_in, tokens_in, with_call}
use Rattle.channel_core.specs.declared.state.slots.CallSlot.{CallSlot}
use Rattle.frame_cases.proofs.HeadFrames.Come as come
use Rattle.frame_cases.proofs.HeadFrames.Lists.{first_left, head_or_other}
use Rattle.frame_cases.proofs.HeadFrames.Report.{headed, receives_late, with_meta}
use Rattle.frame_cases.proofs.MessageFrames.Report as reported_
use Rattle.frame_cases.proofs.MessageFrames.Report.{is_put, recalled_so, reported_is}
use Rattle.frame_cases.proofs.OwnFrames.Frame as frame
use Rattle.frame_cases.proofs.PassedBytes.Agreeing.{HasCame, nothing_came, recalled}
use Rattle.frame_cases.proofs.QuietFrames.ReadStill as read
use Rattle.frame_cases.specs.FrameKinds.Laws.{Heads, kind_of}
use Rattle.frame_cases.specs.PassedBytes.Laws.{relinked}
use Rattle.frame_cases.specs.PieceWalks.Points.{HasReceived, IsReceiving, coming}
use Rattle.grpc_base.specs.declared.event.Reply.{Reply}
use Rattle.grpc_base.specs.declared.event.Reply.TheVariants as reply
use Rattle.grpc_base.specs.declared.fields.Field.{Field}
use Rattle.h2_frame.specs.Numbers.{goaway_type}
use Rattle.link_actions.specs.ResponseActions.Laws.{seen_at}
use Rattle.link_actions.specs.StreamActions.Laws.{IsOn}
use Rattle.session_actions.specs.Attempts.{commitment}
use Rattle.session_actions.specs.Commitments.{is_free_call, is_headed}
use Rattle.session_actions.specs.Deliveries.{response_items}
use Rattle.session_actions.specs.Responses.{response}
use Rattle.session_actions.specs.Words.{numbered}
use Rattle.session_actions.specs.Writing.{next_frame_read}
use Rattle.session_actions.specs.declared.action.Action.TheVariants as action
use Rattle.session_actions.specs.declared.attempt.Attempt.{Attempt}
use Rattle.session_actions.specs.declared.call.Call.{Call}
use Rattle.session_actions.specs.declared.entry.OpenEntry.{OpenEntry}
use Rattle.session_actions.specs.declared.entry.Stage.TheVariants as stage
use Rattle.session_actions.specs.declared.link.ReadFrame.{ReadFrame}
use Rattle.session_actions.specs.declared.seen.Seen.{Seen}
use Rattle.session_order.proofs.Quiescence.{quiescence_is_exact}
use Rattle.session_order.proofs.Changed.{none_from}
use Rattle.session_order.specs.Quiescent as order
use Rattle.session_order.specs.declared.line.Line.{Line}

module _ (link : ℕ) (piece : List ℕ) (x : StateSeen) (o : OpenEntry) (s : Seen) (is : IsReceiving link piece x o s) (h : Received) (r : ReadFrame)
    (next : next_frame_read link s ≡ Some (action.FrameRead link r)) (receives : received_in link piece x.links ≡ Some h) (no_goaway : (r.frame.kind == goaway_type) ≡ false)
    (kind : kind_of h.news ≡ Heads) where
  abbrev t : Seen
  t = read.t link piece x o s is h r next receives

  abbrev left : List ℕ
  left = drop h.taken piece

  abbrev a : Attempt
  a = come.a link piece x o s is h r next receives no_goaway kind

  abbrev c : Call
  c = come.c link piece x o s is h r next receives no_goaway kind

  abbrev number : ℕ
  number = a.row.call

  abbrev what : News
  what = news.Head a.place (come.meta link piece x o s is h r next receives no_goaway kind) (seen_at r)

  abbrev meta : List Field
  meta = come.meta link piece x o s is h r next receives no_goaway kind

  abbrev has : HasSlot (coming link piece x) s c number
  has = come.has link piece x o s is h r next receives no_goaway kind

  at : numbered s.calls number ≡ Some c
  at = come.at link piece x o s is h r next receives no_goaway kind

  abbrev on : IsOn is.l s r.frame.stream a
  on = come.on link piece x o s is h r next receives no_goaway kind

  module _ (k : Attempt) (taken : commitment c s ≡ Some k) where
    -- it is to this attempt
    committed : commitment c s ≡ Some a
    committed = taken ∙ ap (λ (q : Attempt). Some q) (frame.one_is link piece x o s is h r next receives a on k taken)

    named : is_committed_live a.place has.slot.call ≡ true
    named = frame.named link piece x o s is h r next receives a on k taken

    has_row : is_some has.slot.call.attempts.committed ≡ true
    has_row = ap (λ (q : Option ℕ). is_some q) (frame.row_taken link piece x o s is h r next receives a on k taken)

    -- so nothing follows
    not_headed : is_headed t a ≡ false
    not_headed =
        come.own_headed link piece x o s is h r next receives no_goaway kind
        ∙ ap (λ (q : Option Attempt). is_none c.end && is_none q) committed ∙ and_false (is_none c.end)
      where
        and_false : (b : Bool) → (b && false) ≡ false
        and_false true = refl
        and_false false = refl

    head_by : (i : ℕ) (b : Attempt) → numbered s.attempts i ≡ Some b → (e : Bool) → (b.place == a.place) ≡ e → is_headed t b ≡ false
    head_by i b got true e = subst (λ (q : Attempt). is_headed t q ≡ false) (come.itself link piece x o s is h r next receives no_goaway kind i b got e) not_headed
    head_by i b got false e = come.other_headed link piece x o s is h r next receives no_goaway kind i b got e

    quiescent_t : order.IsQuiescent o t
    quiescent_t =
        head_or_other (λ (q : Line). order.IsStill q o t) (none_from (is_headed t) s.attempts (λ i b got. head_by i b got (b.place == a.place) refl))
        (λ q e. come.still_t link piece x o s is h r next receives no_goaway kind q e)

    at_t : IsAt stage.Replied o t
    at_t =
        let three = (quiescence_is_exact o t).1 quiescent_t in
        record { current = refl; stage_is = is.at.stage_is; quiescent = record { calls = three.0; links = three.1; policies = three.2 } }

    -- the channel reports it
    abbrev x1 : StateSeen
    x1 = reported_.read link h x (what ∷ []) (come.single link piece x o s is h r next receives no_goaway kind) refl

    abbrev held : CallState
    held = headed meta has.slot.call

    receiving : received_news a.place what x1.book.moment (next_word x1) (lent has.slot.call x1.book.ledger (tokens_in x1.book.buckets has.slot.bucket) [])
        ≡ lent held x1.book.ledger (tokens_in x1.book.buckets has.slot.bucket) []
    receiving =
        receives_late a.place (seen_at r) x1.book.moment (next_word x1) meta has.slot.call x1.book.ledger (tokens_in x1.book.buckets has.slot.bucket) has_row
        (and_parts (names a.place has.slot.call.attempts.committed) (is_some (find_live a.place has.slot.call.live)) named).1

    abbrev now : List CallSlot
    now = slice_set x.book.calls (number - 1) (with_call held has.slot)

    reported_so : reported a.place what x1 ≡ recalled now x1
    reported_so =
        reported_is a.place number what held x1 a.row has.slot (frame.row_is link piece x o s is h r next receives a on) refl (frame.ended link piece x o s is h r next receives a on) has.there receiving
        (due_right (coming link piece x) s c has.slot has.sees) (deadline_right (coming link piece x) s c has.slot has.sees)

    put : IsPut number held has.slot x.book.calls now
    put =
        is_put a.place number what held x1 a.row has.slot (frame.row_is link piece x o s is h r next receives a on) refl (frame.ended link piece x o s is h r next receives a on) has.there receiving
        (due_right (coming link piece x) s c has.slot has.sees) (deadline_right (coming link piece x) s c has.slot has.sees)

    received_is : frame_received link h x ≡ relinked (read.slots link piece x o s is h r next receives) (read.columns link piece x o s is h r next receives) (recalled now x)
    received_is =
        recalled_so link h x (what ∷ []) (come.single link piece x o s is h r next receives no_goaway kind) refl is.agrees.sets.resets now reported_so
        ∙ ap (λ (q : Received). relinked (sealed_in link q.links) (read.columns link piece x o s is h r next receives) (recalled now x)) (read.h_is link piece x o s is h r next receives)

    -- what came for applications
    came_before : came c s ≡ []
    came_before =
        ap (λ (q : Option Attempt). option_map_or (λ (z : Attempt). response_items (response z s)) q []) committed
        ∙ come.unconfigured_before link piece x o s is h r next receives no_goaway kind

    came_now : came c t ≡ reply.Head meta ∷ []
    came_now =
        ap (λ (q : Option Attempt). option_map_or (λ (z : Attempt). response_items (response z t)) q []) committed
        ∙ come.head_now link piece x o s is h r next receives no_goaway kind

    own_came : HasCame now t number c has.slot
    own_came = record {
      inbox = with_meta meta has.slot.call.inbox;
      there = put.mine;
      end_taken = refl;
      left = λ e.
          subst (λ (all : List Reply). IsLeft all c.taken (reply.Head meta ∷ call_laws.message_items has.slot.call.inbox.messages)) (sym came_now)
          (first_left c.taken (call_laws.head_items has.slot.call.inbox.head) (call_laws.message_items has.slot.call.inbox.messages) (reply.Head meta)
          (subst (λ (all : List Reply). IsLeft all c.taken (call_laws.came has.slot.call)) came_before (has.sees.serves.left e)));
    }

    each_came : (j : ℕ) (d : Call) (z : CallSlot) → numbered s.calls j ≡ Some d → slot_at x.book j ≡ Some z → SeesCall (coming link piece x) s d z → HasCame now t j d z
    each_came j d z got there q = by (j == number) refl
      where
        by : (e : Bool) → (j == number) ≡ e → HasCame now t j d z
        by false e =
            nothing_came now s t j d z (put.others j e ∙ there)
            (frame.came_other link piece x o s is h r next receives a on (come.alone link piece x o s is h r next receives no_goaway kind).others j d got e) q.serves.left
        by true e =
            let same : number ≡ j = sym (eqb-true j number e) in
            let two : Some c ≡ Some d = sym at ∙ ap (numbered s.calls) same ∙ got in
            let slots : Some has.slot ≡ Some z = sym has.there ∙ ap (slot_at x.book) same ∙ there in
            let call_is : c ≡ d = (cc) in
            let slot_is : has.slot ≡ z = (cc) in
            subst (λ (i : ℕ). HasCame now t i d z) same
            (subst (λ (w : Call). HasCame now t number w z) call_is (subst (λ (v : CallSlot). HasCame now t number c v) slot_is own_came))

    agrees_t : Agrees (coming link left (frame_received link h x)) t
    agrees_t =
        subst (λ (v : StateSeen). Agrees (coming link left v) t) (sym received_is)
        (read.agrees_reported link piece x o s is h r next receives (come.alone link piece x o s is h r next receives no_goaway kind).streams
        (come.alone link piece x o s is h r next receives no_goaway kind).reads (come.alone link piece x o s is h r next receives no_goaway kind).retiring now put.long each_came)

    pub received_late : HasReceived link left (frame_received link h x) o s
    received_late = record {
      actions = action.FrameRead link r ∷ [];
      seen = t;
      entry = o;
      does = (read.follows link piece x o s is h r next receives, sym (read.after_is link piece x o s is h r next receives));
      posts = refl;
      same = record { moment = refl; word = refl; event = refl; entries = refl; setup = refl };
      at = at_t;
      reply = refl;
      fresh = is.fresh;
      link_ = read.m link piece x o s is h r next receives;
      here = read.there link piece x o s is h r next receives;
      fair = read.fair_now link piece x o s is h r next receives;
      few = is.few;
      left = λ e. read.left_is link piece x o s is h r next receives;
      agrees = agrees_t;
    }
