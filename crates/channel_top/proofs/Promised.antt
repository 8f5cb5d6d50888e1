-- Every session that is reported keeps the promise.
use Rattle.std.proofs.Common.{◌≡◌, ◌<◌, ◌≤◌, ◌⊎◌, ◌∙◌, ℕ, ◌+◌, true, List, [], ◌∷◌, ◌++◌, ap, arith, inl, inr, length, map, refl, subst, sym}
use Rattle.std.specs.Prelude.{nat_le, nat_lt}
use Rattle.std.proofs.lemmas.Bool.{and_from, cases_lt, le-leb, lt-ltb}
use Rattle.std.proofs.lemmas.List.Sums.{sum_by-cons}
use Rattle.attempt_ledger.specs.declared.journal.Journal.{Journal}
use Rattle.attempt_ledger.specs.declared.ledger.Ledger.{Ledger}
use Rattle.grpc_base.specs.Posts.{event_bytes}
use Rattle.grpc_base.specs.declared.event.Entry.{Entry}
use Rattle.grpc_base.specs.declared.event.Event.{Event}
use Rattle.grpc_base.specs.declared.event.Event.TheVariants as event
use Rattle.grpc_base.specs.declared.event.Reply.{Reply}
use Rattle.grpc_base.specs.declared.event.Reply.TheVariants as reply
use Rattle.grpc_base.specs.declared.event.Stamped.{Stamped}
use Rattle.grpc_base.specs.declared.kind.Kind.{Kind}
use Rattle.channel_actions.specs.Laws as runs
use Rattle.channel_actions.specs.Laws.{EveryRunIsASession, is_room}
use Rattle.channel_core.specs.Core.{CoreSeen, ledger_in}
use Rattle.channel_core.specs.Sizes as core
use Rattle.channel_core.specs.Sizes.{kept_bytes}
use Rattle.journal_room.specs.Rooms.{HadRoomAfter, HasRoom}
use Rattle.journal_room.specs.Runs.{HasRunBy, looks_of}
use Rattle.lb_policy.specs.Table.{PolicySeen}
use Rattle.net_actions.specs.Sees.{KindsAgree}
use Rattle.session_actions.specs.Entries.{entry_bytes, journal_bytes}
use Rattle.session_actions.specs.Laws.{PostsDecideSession}
use Rattle.session_actions.specs.declared.seen.Setup.{Setup}
use Rattle.session_text.specs.Sessions.{IsSession}
use Rattle.channel_top.specs.Promise.{ChannelsKeepThePromise, KeepsThePromise, setup_of}

-- ---- the bytes of a journal, by the channel and by the definition

entry_same : (e : Event) (r : Reply) → entry_bytes e r ≡ kept_bytes e r
entry_same (event.Drain link room) (reply.Octets octets) = refl
entry_same (event.Drain link room) r = refl
entry_same e r = refl

bytes_same : (entries : List Entry) → journal_bytes entries ≡ core.journal_bytes entries
bytes_same [] = refl
bytes_same (e ∷ entries) =
    let here : entry_bytes e.event e.reply ≡ kept_bytes e.event e.reply = entry_same e.event e.reply in
    let rest : journal_bytes entries ≡ core.journal_bytes entries = bytes_same entries in
    let one : journal_bytes (e ∷ entries) ≡ entry_bytes e.event e.reply + journal_bytes entries = sum_by-cons (λ (x : Entry). entry_bytes x.event x.reply) e entries in
    let other : core.journal_bytes (e ∷ entries) ≡ kept_bytes e.event e.reply + core.journal_bytes entries = sum_by-cons (λ (x : Entry). kept_bytes x.event x.reply) e entries in
    omega (arith, here, rest, one, other)

-- ---- room, by both

room_at : (entries : List Entry) (e : Event) → HasRoom entries e → is_room entries e ≡ true
room_at entries e room = by (cases_lt (length entries) 1048576) (cases_lt 268435456 (core.journal_bytes entries + event_bytes e))
  where
    by : (length entries < 1048576) ⊎ (1048576 ≤ length entries) → (268435456 < core.journal_bytes entries + event_bytes e) ⊎ (core.journal_bytes entries + event_bytes e ≤ 268435456) → is_room entries e ≡ true
    by (inr many) small = absurd (room (inl many))
    by (inl few) (inl much) = absurd (room (inr much))
    by (inl few) (inr small) =
        let same : journal_bytes entries ≡ core.journal_bytes entries = bytes_same entries in
        and_from (nat_lt (length entries) 1048576) (nat_le (journal_bytes entries + event_bytes e) 268435456)
        (lt-ltb (length entries) 1048576 few) (le-leb (journal_bytes entries + event_bytes e) 268435456 (omega (arith, small, same)))

room_after : (before entries : List Entry) → HadRoomAfter before entries → runs.HadRoom before entries
room_after before [] had = tt
room_after before (e ∷ entries) had = (room_at before e.event had.0, room_after (before ++ e ∷ []) entries had.1)

-- ---- policies that look alike

kinds_of_looks : (own policies : List PolicySeen) → looks_of own ≡ looks_of policies → KindsAgree (map (λ (p : PolicySeen). record { kind = p.kind; width = p.width }) policies) own
kinds_of_looks [] [] same = tt
kinds_of_looks [] (p ∷ policies) same = absurd (cc)
kinds_of_looks (q ∷ own) [] same = absurd (cc)
kinds_of_looks (q ∷ own) (p ∷ policies) same =
    let here : ◌≡◌ {A = Kind × ℕ} (q.kind, q.width) (p.kind, p.width) = (cc) in
    let rest : looks_of own ≡ looks_of policies = (cc) in
    (sym (ap (λ (x : Kind × ℕ). x.0) here), sym (ap (λ (x : Kind × ℕ). x.1) here), kinds_of_looks own policies rest)

-- ---- the promise

pub channels_keep_the_promise : EveryRunIsASession → PostsDecideSession → ChannelsKeepThePromise
channels_keep_the_promise every decide authority policies events core run =
    let setup : Setup = setup_of authority policies in
    let is : runs.IsSession setup events core =
    every setup run.own run.alloc events run.new core (kinds_of_looks run.own policies run.alike) run.ready run.is_new run.posted run.runs
    (room_after [] core.journal.entries run.room) in
    record {
      consistent = is.consistent;
      posted = is.posted;
      only = λ entries other that posted. decide setup entries core.journal.entries other (ledger_in core) that is.consistent (posted ∙ sym is.posted);
    }

-- so do a journal and a ledger that are named
pub named_promise : ChannelsKeepThePromise → (authority : List ℕ) (policies : List PolicySeen) (events : List Stamped) (core : CoreSeen) (journal : Journal) (ledger : Ledger)
    → HasRunBy authority policies events core → journal ≡ core.journal → ledger ≡ ledger_in core → KeepsThePromise authority policies events journal ledger
named_promise keep authority policies events core journal ledger run journal_is ledger_is =
    subst (λ (j : Journal). KeepsThePromise authority policies events j ledger) (sym journal_is)
    (subst (λ (l : Ledger). KeepsThePromise authority policies events core.journal l) (sym ledger_is) (keep authority policies events core run))

-- and a session
pub sessions_keep_the_promise : ChannelsKeepThePromise → (authority : List ℕ) (policies : List PolicySeen) (events : List Stamped) (journal : Journal) (ledger : Ledger)
    → IsSession authority policies events journal ledger → KeepsThePromise authority policies events journal ledger
sessions_keep_the_promise keep authority policies events journal ledger session =
    named_promise keep authority policies events session.core journal ledger session.run session.journal_is session.ledger_is
