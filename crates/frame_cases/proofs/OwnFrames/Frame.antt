-- A frame of the stream of an attempt is read: what session and channel have of this attempt, its response and its call, and that nothing came of any other attempt.
use Rattle.std.proofs.Common.{◌≡◌, ◌==◌, ap, refl, subst, sym, ◌∙◌, Bool, true, false, List, Option, None, Some, ℕ, is_none, is_some}
use Rattle.std.proofs.lemmas.Bool.{and_parts, eq-eqb, eqb-true}
use Rattle.std.specs.Option.{option_map}
use Rattle.attempt_ledger.specs.declared.row.Row.{Row}
use Rattle.attempt_ledger.specs.declared.row.RowEnd.{RowEnd}
use Rattle.call_actions.specs.TakeActions.Serves.{came}
use Rattle.call_core.specs.Parts.{find_live}
use Rattle.call_core.specs.Steps.{is_committed_live}
use Rattle.call_cases.proofs.EndsFollow.Apart.{last_passes}
use Rattle.channel_actions.proofs.Stamps.{counted_at, numbered_map}
use Rattle.channel_actions.specs.Calls.{HasSlot}
use Rattle.channel_actions.specs.GoingCalls.Going.{CallsGoOn}
use Rattle.channel_actions.specs.Links.{lines_in}
use Rattle.channel_core.specs.Books.{row_at}
use Rattle.channel_core.specs.States.{StateSeen}
use Rattle.channel_core.specs.Tables.{Received, received_in}
use Rattle.channel_core.specs.declared.state.links.LinkSlot.{LinkSlot}
use Rattle.frame_cases.proofs.OwnFrames.Calls as calls
use Rattle.frame_cases.proofs.QuietFrames.Received as quiet
use Rattle.frame_cases.proofs.QuietFrames.Lines as lines
use Rattle.frame_cases.proofs.QuietFrames.Lines.{new_self}
use Rattle.frame_cases.proofs.QuietFrames.ReadStill as read
use Rattle.frame_cases.specs.PieceWalks.Points.{IsReceiving, coming}
use Rattle.frame_cases.specs.QuietFrames.Laws.{HasNothingNew}
use Rattle.h2_frame.specs.Frames.{FrameSeen}
use Rattle.link_actions.proofs.ResponseActions.Kept.{only_one}
use Rattle.link_actions.proofs.StreamActions.Going.{response_is}
use Rattle.link_actions.specs.StreamActions.Laws.{IsOn}
use Rattle.link_actions.specs.StreamActions.Sees.{response_of}
use Rattle.session_actions.specs.Attempts.{commitment, is_commitment, is_of, is_outstanding}
use Rattle.session_actions.specs.Responses.{response}
use Rattle.session_actions.specs.Words.{numbered}
use Rattle.session_actions.specs.Writing.{frame_read, next_frame_read, owed_for}
use Rattle.session_actions.specs.declared.action.Action.TheVariants as action
use Rattle.session_actions.specs.declared.attempt.Attempt.{Attempt}
use Rattle.session_actions.specs.declared.call.Call.{Call}
use Rattle.session_actions.specs.declared.entry.OpenEntry.{OpenEntry}
use Rattle.session_actions.specs.declared.link.Link.{Link}
use Rattle.session_actions.specs.declared.link.ReadFrame.{ReadFrame}
use Rattle.session_actions.specs.declared.response.Response.{Response}
use Rattle.session_actions.specs.declared.seen.Seen.{Seen}
use Rattle.session_order.specs.Quiescent as order

none_of_it : (o : Option RowEnd) → is_none o ≡ true → o ≡ None
none_of_it None e = refl
none_of_it (Some e) f = absurd (cc)

module _ (link : ℕ) (piece : List ℕ) (x : StateSeen) (o : OpenEntry) (s : Seen) (is : IsReceiving link piece x o s) (h : Received) (r : ReadFrame)
    (next : next_frame_read link s ≡ Some (action.FrameRead link r)) (receives : received_in link piece x.links ≡ Some h) where
  abbrev l : Link
  l = is.l

  abbrev m : Link
  m = read.m link piece x o s is h r next receives

  abbrev t : Seen
  t = read.t link piece x o s is h r next receives

  abbrev slot : LinkSlot
  slot = read.slot link piece x o s is h r next receives

  abbrev frames : List FrameSeen
  frames = owed_for r.frame l s

  abbrev n : ℕ
  n = r.frame.stream

  own : l.number ≡ link
  own = read.own link piece x o s is h r next receives

  pub places : (i : ℕ) (b : Attempt) → numbered s.attempts i ≡ Some b → b.place ≡ i
  places = read.places link piece x o s is h r next receives

  read_l : frame_read l.number r s ≡ t
  read_l = read.read_l link piece x o s is h r next receives

  -- what is known of calls, while more of the piece is still to come
  pub going : CallsGoOn (coming link piece x)
  going = record { calls = is.known.going.calls; allows = is.known.going.allows }

  pub quiescent_s : order.IsQuiescent o s
  quiescent_s = quiet.quiescent_s link piece x o s is h r next receives

  module _ (a : Attempt) (on : IsOn l s n a) where
    -- the response to the attempt
    pub before_is : response a s ≡ response_of l s n a
    before_is = response_is l s n a (read.here_own link piece x o s is h r next receives) on.out on.stream

    pub after_is : response a t ≡ response_of m t n a
    after_is = response_is m t n a (ap (numbered t.links) own ∙ read.there link piece x o s is h r next receives) on.out on.stream

    -- of what it gained
    pub gained_so : (R : Response → Response → Type 0) → R (response_of l s n a) (response_of m (frame_read l.number r s) n a) → R (response a s) (response a t)
    gained_so R gains =
        subst (λ (p : Response). R p (response a t)) (sym before_is)
        (subst (R (response_of l s n a)) (sym after_is) (subst (λ (z : Seen). R (response_of l s n a) (response_of m z n a)) read_l gains))

    pub out : is_outstanding a ≡ true
    out = (and_parts (is_outstanding a) _ on.out).0

    pub ended : a.row.ended ≡ None
    ended = none_of_it a.row.ended (and_parts (is_some a.row.placed) (is_none a.row.ended) out).1

    -- its row and its call
    pub row_is : row_at x.book a.place ≡ Some a.row
    row_is =
        ap (λ (rows : List Row). numbered rows a.place) (sym is.agrees.columns.rows)
        ∙ numbered_map (λ (q : Attempt). q.row) s.attempts a.place ∙ ap (option_map (λ (q : Attempt). q.row)) on.there

    abbrev pub c : Call
    c = calls.c (coming link piece x) o s is.agrees going quiescent_s a on.there out

    pub at : numbered s.calls a.row.call ≡ Some c
    at = calls.at (coming link piece x) o s is.agrees going quiescent_s a on.there out

    abbrev pub has : HasSlot (coming link piece x) s c a.row.call
    has = calls.has (coming link piece x) o s is.agrees going quiescent_s a on.there out

    pub number_is : c.number ≡ a.row.call
    number_is = calls.number_is (coming link piece x) o s is.agrees going quiescent_s a on.there out

    pub mine : is_of c a ≡ true
    mine = calls.mine (coming link piece x) o s is.agrees going quiescent_s a on.there out

    pub open_now : c.end ≡ None
    open_now = calls.open_now (coming link piece x) o s is.agrees going quiescent_s a on.there out

    pub row_live : is_some (find_live a.place has.slot.call.live) ≡ true
    row_live = calls.row_live (coming link piece x) o s is.agrees going quiescent_s a on.there out

    -- where its call is committed, it is to this attempt; so it is where a head came
    module _ (k : Attempt) (taken : commitment c s ≡ Some k) where
      pub one_is : k ≡ a
      one_is = calls.itself (coming link piece x) o s is.agrees going quiescent_s a on.there out k taken

      pub row_taken : has.slot.call.attempts.committed ≡ Some k.place
      row_taken = calls.committed_is (coming link piece x) o s is.agrees going quiescent_s a on.there out k taken

      pub named : is_committed_live a.place has.slot.call ≡ true
      named = calls.named (coming link piece x) o s is.agrees going quiescent_s a on.there out k taken

    module _ (headed : is_some (response a s).head ≡ true) where
      pub committed : commitment c s ≡ Some a
      committed = calls.committed (coming link piece x) o s is.agrees going quiescent_s a on.there out headed

      pub committed_live : is_committed_live a.place has.slot.call ≡ true
      committed_live = calls.committed_live (coming link piece x) o s is.agrees going quiescent_s a on.there out headed

    pub itself : (i : ℕ) (b : Attempt) → numbered s.attempts i ≡ Some b → (b.place == a.place) ≡ true → a ≡ b
    itself i b got e =
        let both : Some a ≡ Some b = sym on.there ∙ ap (numbered s.attempts) (sym (eqb-true b.place a.place e) ∙ places i b got) ∙ got in (cc)

    -- of all other attempts nothing came
    module _ (others : (k : ℕ) (b : Attempt) → IsOn l s k b → (n == k) ≡ false → HasNothingNew (response_of l s k b) (response_of m (frame_read l.number r s) k b)) where
      new_on : (k : ℕ) (b : Attempt) → IsOn l s k b → (b.place == a.place) ≡ false → HasNothingNew (response_of l s k b) (response_of m t k b)
      new_on k b there off = by (n == k) refl
        where
          by : (e : Bool) → (n == k) ≡ e → HasNothingNew (response_of l s k b) (response_of m t k b)
          by false e = subst (λ (z : Seen). HasNothingNew (response_of l s k b) (response_of m z k b)) read_l (others k b there e)
          by true e =
              let here : IsOn l s n b = subst (λ (j : ℕ). IsOn l s j b) (sym (eqb-true n k e)) there in
              let one : a ≡ b = only_one l s slot.link.link.wire (lines_in l s) n a b (read.going link piece x o s is h r next receives).streams on here in
              let same : (b.place == a.place) ≡ true = eq-eqb b.place a.place (ap (λ (z : Attempt). z.place) (sym one)) in
              absurd (let bad : true ≡ false = sym same ∙ off in let no : ⊥ = (cc) in no)

      pub others_new : (i : ℕ) (b : Attempt) → numbered s.attempts i ≡ Some b → (b.place == a.place) ≡ false → HasNothingNew (response b s) (response b t)
      others_new i b got off =
          lines.each_new s link l is.here own r frames (Some o) places (read.less link piece x o s is h r next receives) (λ (z : Attempt). (z.place == a.place) ≡ false) HasNothingNew new_self
          new_on i b got off

      -- what is so of the attempt, and of all of which nothing came, is so of each
      pub each_so : (R : Response → Response → Type 0) → R (response a s) (response a t) → ((p q : Response) → HasNothingNew p q → R p q) → (i : ℕ) (b : Attempt) → numbered s.attempts i ≡ Some b
          → R (response b s) (response b t)
      each_so R its rest i b got = by (b.place == a.place) refl
        where
          by : (e : Bool) → (b.place == a.place) ≡ e → R (response b s) (response b t)
          by true e = subst (λ (z : Attempt). R (response z s) (response z t)) (itself i b got e) its
          by false e = rest (response b s) (response b t) (others_new i b got e)

      -- nothing came for the application of a call that is not committed to it
      pub came_apart : (d : Call) → ((i : ℕ) (k : Attempt) → numbered s.attempts i ≡ Some k → commitment d s ≡ Some k → (k.place == a.place) ≡ false) → came d t ≡ came d s
      came_apart d apart =
          lines.came_alike s link l is.here own r frames (Some o) places (read.less link piece x o s is h r next receives) d (λ i k there its. others_new i k there (apart i k there its))

      pub came_other : (j : ℕ) (d : Call) → numbered s.calls j ≡ Some d → (j == a.row.call) ≡ false → came d t ≡ came d s
      came_other j d got off = came_apart d (λ i k there its. apart i k there its (k.place == a.place) refl)
        where
          apart : (i : ℕ) (k : Attempt) → numbered s.attempts i ≡ Some k → commitment d s ≡ Some k → (e : Bool) → (k.place == a.place) ≡ e → (k.place == a.place) ≡ false
          apart i k there its false e = e
          apart i k there its true e =
              let passes : is_commitment d k ≡ true = last_passes (is_commitment d) s.attempts k its in
              let of_d : (k.row.call == d.number) ≡ true = (and_parts (is_of d k) (is_some k.row.committed) passes).0 in
              let same : j ≡ a.row.call
              = sym (counted_at (λ (z : Call). z.number) s.calls j d is.agrees.kept.calls got) ∙ sym (eqb-true k.row.call d.number of_d)
              ∙ ap (λ (z : Attempt). z.row.call) (sym (itself i k there e)) in
              absurd (let bad : true ≡ false = sym (eq-eqb j a.row.call same) ∙ off in let no : ⊥ = (cc) in no)
