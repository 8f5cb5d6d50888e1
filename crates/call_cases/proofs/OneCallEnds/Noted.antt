-- Once a call has ended and its acts are followed, the links of the channel's ledger are stamped as those of the session would be were the entry to close.
use Rattle.std.proofs.Common.{◌≡◌, ◌-◌, ◌&&◌, ◌∷◌, ◌++◌, not, ap, refl, sym, ◌∙◌, Bool, true, false, List, [], Option, None, Some, ℕ, if◌then◌else◌, is_none, is_some, map, slice_set}
use Rattle.attempt_ledger.specs.declared.ledger.LinkSeen.{LinkSeen}
use Rattle.call_core.specs.Steps.{Stepped, closed_by, ended_as}
use Rattle.call_core.specs.declared.act.CallAct.{CallAct}
use Rattle.call_core.specs.declared.act.CallAct.TheVariants as act
use Rattle.channel_actions.proofs.ActsFollowed.Acts.{done_append, given, reported_is}
use Rattle.channel_actions.proofs.Links.Settings.Slots.{asked_is}
use Rattle.channel_actions.specs.ActsFollowed.Followed.{call_closed, call_lent}
use Rattle.call_cases.proofs.OneCallEnds.Stamps.{stamped_if}
use Rattle.channel_core.specs.Books.{BookActs, book_asked, slot_at}
use Rattle.channel_core.specs.States.{StateSeen}
use Rattle.channel_core.specs.Steps.{acts_done, closed, links_sealed, sealed_one, with_book}
use Rattle.channel_core.specs.Tables.{with_call}
use Rattle.channel_core.specs.declared.state.book.Book.{Book}
use Rattle.channel_core.specs.declared.state.slots.CallSlot.{CallSlot}
use Rattle.grpc_base.specs.declared.event.EndCause.{EndCause}
use Rattle.session_actions.specs.Sessions.{link_seen}
use Rattle.session_actions.specs.declared.link.Link.{Link}

-- what was queued is closed: that is of links alone
sealed_book : (ls : List ℕ) (z : StateSeen) → (links_sealed ls z).book ≡ z.book
sealed_book [] z = refl
sealed_book (link ∷ ls) z = sealed_book ls (sealed_one link z)

module _ (why : EndCause) (n : ℕ) (x : StateSeen) (slot : CallSlot) (there : slot_at x.book n ≡ Some slot) (going : slot.call.ended ≡ None) where
  abbrev a : Stepped
  a = call_closed why x slot

  abbrev acts : List CallAct
  acts = map given slot.call.live ++ act.End why ∷ []

  acts_are : a.acts ≡ acts
  acts_are =
      ap (λ (o : Option EndCause). (if not (is_some o) then ended_as why x.book.moment (call_lent x slot) else call_lent x slot).acts) going
      ∙ ap (λ (xs : List CallAct). xs ++ act.End why ∷ []) (reported_is slot.call.live [])

  abbrev pub ended_book : Book
  ended_book = record x.book { calls = slice_set x.book.calls (n - 1) (with_call a.call slot); ledger = a.ledger }

  abbrev pub begun : StateSeen
  begun = record x { book = ended_book }

  book_is : book_asked (closed_by why x.book.moment) n x.book ≡ record { book = ended_book; acts = acts }
  book_is = asked_is (closed_by why x.book.moment) n x.book slot there ∙ ap (λ (xs : List CallAct). record { book = ended_book; acts = xs }) acts_are

  pub stamps_are : (closed why n x).book.ledger.links ≡ (acts_done n (map given slot.call.live) begun).book.ledger.links
  stamps_are =
      ap (λ (b : BookActs). (links_sealed (with_book b n x).resets (record (with_book b n x) { resets = [] })).book.ledger.links) book_is
      ∙ ap (λ (b : Book). b.ledger.links) (sealed_book (with_book (record { book = ended_book; acts = acts }) n x).resets (record (with_book (record { book = ended_book; acts = acts }) n x) { resets = [] }))
      ∙ ap (λ (z : StateSeen). z.book.ledger.links) (done_append n (map given slot.call.live) (act.End why ∷ []) begun)

-- a link of the session that is to be stamped as gone
abbrev pub seen_if : Bool → ℕ → Link → LinkSeen
seen_if gone entry l = link_seen (if is_none l.gone && gone then record l { gone = Some entry } else l)

abbrev raw : Link → Option ℕ → LinkSeen
raw l o = record (link_seen l) { gone = o }

seen_by : (o : Option ℕ) (gone : Bool) (entry : ℕ) (l : Link) → l.gone ≡ o → seen_if gone entry l ≡ raw l (if is_none o && gone then Some entry else o)
seen_by None true entry l e = ap (λ (q : Option ℕ). link_seen (if is_none q && true then record l { gone = Some entry } else l)) e
seen_by None false entry l e = ap (λ (q : Option ℕ). link_seen (if is_none q && false then record l { gone = Some entry } else l)) e ∙ ap (raw l) e
seen_by (Some k) gone entry l e = ap (λ (q : Option ℕ). link_seen (if is_none q && gone then record l { gone = Some entry } else l)) e ∙ ap (raw l) e

-- where it was gone before it is so after
stamp_by : (o : Option ℕ) (before after : Bool) (entry : ℕ) (l : Link) → (before ≡ true → after ≡ true)
    → raw l (if is_none o && after then Some entry else o) ≡ stamped_if after entry (raw l (if is_none o && before then Some entry else o))
stamp_by None true true entry l turn = refl
stamp_by None false true entry l turn = refl
stamp_by None true false entry l turn = absurd (let bad : false ≡ true = turn refl in (cc))
stamp_by None false false entry l turn = refl
stamp_by (Some k) before true entry l turn = refl
stamp_by (Some k) before false entry l turn = refl

pub seen_on : (before after : Bool) (entry : ℕ) (l : Link) → (before ≡ true → after ≡ true) → seen_if after entry l ≡ stamped_if after entry (seen_if before entry l)
seen_on before after entry l turn =
    seen_by l.gone after entry l refl ∙ stamp_by l.gone before after entry l turn
    ∙ ap (stamped_if after entry) (sym (seen_by l.gone before entry l refl))
