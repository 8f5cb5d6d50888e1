-- Messages of a response come in a frame, whatever else it brings: what came for the application of its call is more by these; and channel and session agree after the
-- frame in all but the link.
use Rattle.std.proofs.Common.{◌≡◌, ◌++◌, ◌||◌, ◌==◌, ◌∷◌, append_assoc, ap, refl, subst, sym, ◌∙◌, Bool, true, false, List, [], Option, None, Some, ℕ, drop, is_some, map, not, option_map}
use Rattle.std.proofs.lemmas.Bool.{eqb-true}
use Rattle.std.proofs.lemmas.List.{map-append}
use Rattle.std.specs.Option.{option_to_list}
use Rattle.attempt_ledger.specs.declared.row.Placed.{Placed}
use Rattle.attempt_ledger.specs.declared.row.RowEnd.{RowEnd}
use Rattle.call_actions.specs.TakeActions.Serves.{IsLeft, came}
use Rattle.call_cases.proofs.CallPosts.Agreeing.{IsPut}
use Rattle.call_core.specs.Laws as call_laws
use Rattle.channel_actions.proofs.Gone.{all_numbered}
use Rattle.channel_actions.specs.Calls.{HasSlot, SeesCall}
use Rattle.channel_core.specs.Arrivals.{read_to}
use Rattle.channel_core.specs.Books.{slot_at}
use Rattle.channel_core.specs.States.{StateSeen}
use Rattle.channel_core.specs.Tables.{Received, received_in}
use Rattle.channel_core.specs.declared.state.slots.CallSlot.{CallSlot}
use Rattle.end_cases.specs.AttemptEnds.Ahead.{AgreesOffLinks}
use Rattle.frame_cases.proofs.MessageFrames.Report.{with_more}
use Rattle.frame_cases.proofs.OwnFrames.Frame as frame
use Rattle.frame_cases.proofs.PassedBytes.Agreeing.{HasCame, IsReportedOff, nothing_came, recalled, reported_books}
use Rattle.frame_cases.proofs.PassedBytes.Same.{drained_through}
use Rattle.frame_cases.proofs.QuietFrames.ReadStill as read
use Rattle.frame_cases.specs.PieceWalks.Points.{IsReceiving, coming}
use Rattle.frame_cases.specs.QuietFrames.Laws.{HasNothingNew}
use Rattle.grpc_base.specs.declared.event.Reply.TheVariants as reply
use Rattle.grpc_base.specs.declared.event.Reply.{Reply}
use Rattle.grpc_base.specs.declared.fields.Field.{Field}
use Rattle.link_actions.proofs.History.{used_same}
use Rattle.link_actions.specs.StreamActions.Laws.{IsOn}
use Rattle.link_actions.specs.StreamActions.Sees.{response_of}
use Rattle.session_actions.specs.Deliveries.{response_items}
use Rattle.session_actions.specs.Links.{is_retiring}
use Rattle.session_actions.specs.Words.{holds, numbered}
use Rattle.session_actions.specs.Writing.{frame_read, next_frame_read, owed_for}
use Rattle.session_actions.specs.declared.action.Action.TheVariants as action
use Rattle.session_actions.specs.declared.attempt.Attempt.{Attempt}
use Rattle.session_actions.specs.declared.call.Call.{Call}
use Rattle.session_actions.specs.declared.entry.OpenEntry.{OpenEntry}
use Rattle.session_actions.specs.declared.link.Link.{Link}
use Rattle.session_actions.specs.declared.link.ReadFrame.{ReadFrame}
use Rattle.session_actions.specs.declared.response.Response.{Response}
use Rattle.session_actions.specs.declared.seen.Seen.{Seen}

-- where an attempt is placed
pub some_placed : (o : Option Placed) (n : ℕ) → holds (λ (at : Placed). at.link == n) o ≡ true → (at : Placed) × ((o ≡ Some at) × (at.link ≡ n))
some_placed None n e = absurd (cc)
some_placed (Some at) n e = (at, (refl, eqb-true at.link n e))

-- what came for an application is more by the messages
abbrev pub message_items : List (List ℕ) → List Reply
message_items ms = map (λ (m : List ℕ). reply.Message m) ms

pub items_more : (p q : Response) (more : List (List ℕ)) → q.head ≡ p.head → q.messages ≡ p.messages ++ more → response_items q ≡ response_items p ++ message_items more
items_more p q more head messages =
    let heads : Option (List Field) → List Reply = λ o. option_to_list (option_map (λ (meta : List Field). reply.Head meta) o) in
    ap (λ (o : Option (List Field)). heads o ++ message_items q.messages) head
    ∙ ap (λ (ms : List (List ℕ)). heads p.head ++ message_items ms) messages
    ∙ ap (λ (rs : List Reply). heads p.head ++ rs) (map-append (λ (m : List ℕ). reply.Message m) p.messages more)
    ∙ sym (append_assoc (heads p.head) (message_items p.messages) (message_items more))

left_more : (all now : List Reply) (taken : ℕ) (messages more : List (List ℕ)) (heads : List Reply) → now ≡ all ++ message_items more
    → IsLeft all taken (heads ++ call_laws.message_items messages) → IsLeft now taken (heads ++ call_laws.message_items (messages ++ more))
left_more all now taken messages more heads e is = record {
  prefix = is.prefix;
  count = is.count;
  joined = e ∙ ap (λ (rs : List Reply). rs ++ message_items more) is.joined
      ∙ append_assoc is.prefix (heads ++ message_items messages) (message_items more)
      ∙ ap (λ (rs : List Reply). is.prefix ++ rs)
      (append_assoc heads (message_items messages) (message_items more)
      ∙ ap (λ (rs : List Reply). heads ++ rs) (sym (map-append (λ (m : List ℕ). reply.Message m) messages more)));
}

module _ (link : ℕ) (piece : List ℕ) (x : StateSeen) (o : OpenEntry) (s : Seen) (is : IsReceiving link piece x o s) (h : Received) (r : ReadFrame)
    (next : next_frame_read link s ≡ Some (action.FrameRead link r)) (receives : received_in link piece x.links ≡ Some h) (a : Attempt) (on : IsOn is.l s r.frame.stream a) where
  abbrev l : Link
  l = is.l

  abbrev m : Link
  m = read.m link piece x o s is h r next receives

  abbrev t : Seen
  t = read.t link piece x o s is h r next receives

  abbrev number : ℕ
  number = a.row.call

  abbrev c : Call
  c = frame.c link piece x o s is h r next receives a on

  abbrev has : HasSlot (coming link piece x) s c number
  has = frame.has link piece x o s is h r next receives a on

  at_c : numbered s.calls number ≡ Some c
  at_c = frame.at link piece x o s is h r next receives a on

  -- no stream was reset of an attempt that goes on
  pub unreset : a.reset ≡ false
  unreset =
      not_reset (is_some a.row.ended) a.reset (ap (λ (q : Option RowEnd). is_some q) (frame.ended link piece x o s is h r next receives a on))
      (all_numbered (λ (b : Attempt). is_some b.row.ended || not b.reset) s.attempts a.place a on.there is.known.early.resets)
    where
      not_reset : (p q : Bool) → p ≡ false → (p || not q) ≡ true → q ≡ false
      not_reset true q e f = absurd (let bad : true ≡ false = e in let no : ⊥ = (cc) in no)
      not_reset false true e f = absurd (let bad : false ≡ true = f in let no : ⊥ = (cc) in no)
      not_reset false false e f = refl

  module _ (others : (k : ℕ) (b : Attempt) → IsOn l s k b → (r.frame.stream == k) ≡ false → HasNothingNew (response_of l s k b) (response_of m (frame_read l.number r s) k b))
      (more : List (List ℕ)) (calls : List CallSlot) (put : IsPut number (with_more more has.slot.call) has.slot x.book.calls calls) (came_own : came c t ≡ came c s ++ message_items more) where
    own_came : HasCame calls t number c has.slot
    own_came = record {
      inbox = record has.slot.call.inbox { messages = has.slot.call.inbox.messages ++ more };
      there = put.mine;
      end_taken = refl;
      left = λ e.
          left_more (came c s) (came c t) c.taken has.slot.call.inbox.messages more (call_laws.head_items has.slot.call.inbox.head) came_own (has.sees.serves.left e);
    }

    pub each_came : (j : ℕ) (d : Call) (held : CallSlot) → numbered s.calls j ≡ Some d → slot_at x.book j ≡ Some held → SeesCall (coming link piece x) s d held → HasCame calls t j d held
    each_came j d held got there sees = by (j == number) refl
      where
        by : (e : Bool) → (j == number) ≡ e → HasCame calls t j d held
        by false e =
            nothing_came calls s t j d held (put.others j e ∙ there) (frame.came_other link piece x o s is h r next receives a on others j d got e) sees.serves.left
        by true e =
            let same : number ≡ j = sym (eqb-true j number e) in
            let both_calls : Some c ≡ Some d = sym at_c ∙ ap (numbered s.calls) same ∙ got in
            let both_slots : Some has.slot ≡ Some held = sym has.there ∙ ap (slot_at x.book) same ∙ there in
            let call_is : c ≡ d = (cc) in
            let slot_is : has.slot ≡ held = (cc) in
            subst (λ (i : ℕ). HasCame calls t i d held) same
            (subst (λ (q : Call). HasCame calls t number q held) call_is (subst (λ (v : CallSlot). HasCame calls t number c v) slot_is own_came))

    -- the books
    abbrev z : StateSeen
    z = coming link (drop h.taken piece) (recalled calls (read_to link h.read (record x { links = h.links })))

    reported_off : is_retiring m ≡ is_retiring l → IsReportedOff link (coming link piece x) z o o s t
    reported_off retiring = record {
      state = ap (λ (rs : List ℕ). record z { resets = rs }) is.agrees.sets.resets;
      current = is.at.current;
      seen = refl;
      moment = refl;
      word = refl;
      drawn = refl;
      kept = read.kept_t link piece x o s is h r next receives;
      long = put.long;
      handled = each_came;
      drained_same = drained_through s (read.f link piece x o s is h r next receives) link (Some o) (λ stream k. used_same stream k r (owed_for r.frame l s));
      noted = read.noted_as link piece x o s is h r next receives retiring;
    }

    pub books_agree : is_retiring m ≡ is_retiring l → AgreesOffLinks z t
    books_agree retiring = reported_books link (coming link piece x) z o o s t is.agrees (reported_off retiring)
