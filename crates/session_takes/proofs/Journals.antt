-- So along every list of actions the journal, and the entry that is being made, show just what was taken.
use Rattle.attempt_ledger.specs.Journals.{taken as reported, taken_by as reported_by}
use Rattle.channel_actions.proofs.Calls.Few.Reached.{reached_on}
use Rattle.channel_actions.specs.FewCalls.Reached.{IsReached}
use Rattle.grpc_base.specs.declared.event.Entry.{Entry}
use Rattle.grpc_base.specs.declared.event.Event.{Event}
use Rattle.grpc_base.specs.declared.event.Reply.{Reply}
use Rattle.session_actions.specs.Actions.{after, after_if, after_in, following, following_in}
use Rattle.session_actions.specs.Closing.{made_entry}
use Rattle.session_actions.specs.Entries.{has_room, may_open}
use Rattle.session_actions.specs.Sessions.{Does, IsNext, new_session}
use Rattle.session_actions.specs.declared.action.Action.{Action}
use Rattle.session_actions.specs.declared.entry.OpenEntry.{OpenEntry}
use Rattle.session_actions.specs.declared.seen.Seen.{Seen}
use Rattle.session_order.proofs.SessionLaws.Found.{none_of}
use Rattle.session_takes.proofs.CommitmentPassesAlong.{after_then}
use Rattle.session_takes.proofs.Pending.{is_unanswered, pending}
use Rattle.session_takes.proofs.Report.{ReportsThat, act, closes_by, is_closing}
use Rattle.session_takes.specs.Takes.{JournalsReport, taken_by, taken_in}
use Rattle.std.proofs.Common.{Bool, List, None, Option, Some, [], ap, append-nil, append_assoc, false, is_none, refl, subst, sym, true, unwrap_or, ℕ, ◌++◌, ◌∙◌, ◌∷◌, ◌≡◌}
use Rattle.std.proofs.lemmas.Bool.{and_parts}
use Rattle.std.proofs.lemmas.Grind.{flat_map-append}
use Rattle.std.specs.Prelude.{option_and_then}
use Rattle.session_actions.specs.declared.action.Action.TheVariants as action
use Rattle.grpc_base.specs.declared.event.Reply.TheVariants as reply

record IsReporting (k : ℕ) (before : List Reply) (s : Seen) : Type 0 where
  reports_that : reported k s.entries ++ pending k s.current ≡ before
  fresh : is_unanswered s.current ≡ true

-- an entry begins, or closes
opens : (k : ℕ) (before : List Reply) (s : Seen) (posted word : ℕ) (e : Event) → s.current ≡ None → IsReporting k before s → IsReporting k (before ++ []) (after (action.EntryOpens posted word e) s)
opens k before s posted word e none h =
    subst (IsReporting k (before ++ [])) (sym (ap (λ (c : Option OpenEntry). after_if c (action.EntryOpens posted word e) s) none))
    (record { reports_that = ap (λ (c : Option OpenEntry). reported k s.entries ++ pending k c) (sym none) ∙ h.reports_that ∙ sym (append-nil before); fresh = refl })

closes : (k : ℕ) (before : List Reply) (s : Seen) (o : OpenEntry) → s.current ≡ Some o → IsReporting k before s → IsReporting k (before ++ []) (after_in o action.EntryCloses s)
closes k before s o current h = record {
  reports_that = append-nil (reported k (s.entries ++ made_entry o s ∷ []))
      ∙ flat_map-append (λ (e : Entry). reported_by k e.event e.reply) s.entries (made_entry o s ∷ [])
      ∙ ap (λ (l : List Reply). reported k s.entries ++ l) (append-nil (reported_by k o.event (unwrap_or o.reply reply.Done)) ∙ closes_by k o.event o.reply)
      ∙ ap (λ (c : Option OpenEntry). reported k s.entries ++ pending k c) (sym current) ∙ h.reports_that ∙ sym (append-nil before);
  fresh = refl;
}

pub closing_is : (a : Action) → is_closing a ≡ true → a ≡ action.EntryCloses
closing_is action.EntryCloses e = refl
closing_is _ e = absurd (let bad : false ≡ true = e in (cc))

moves : (k : ℕ) (before : List Reply) (s : Seen) (reached : IsReached s) (o : OpenEntry) (current : s.current ≡ Some o) (a : Action) → following s ≡ Some a → (b : Bool) → is_closing a ≡ b
    → IsReporting k before s → IsReporting k (before ++ taken_by k a) (after_in o a s)
moves k before s reached o current a next true is h =
    subst (λ (x : Action). IsReporting k (before ++ taken_by k x) (after_in o x s)) (sym (closing_is a is)) (closes k before s o current h)
moves k before s reached o current a next false is h =
    let g : ReportsThat k s reached o current h.fresh a (after_in o a s) = act k s reached o current h.fresh a next is in
    record {
      reports_that = ap (λ (es : List Entry). reported k es ++ pending k (after_in o a s).current) g.entries
          ∙ ap (λ (l : List Reply). reported k s.entries ++ l) g.pends
          ∙ sym (append_assoc (reported k s.entries) (pending k s.current) (taken_by k a))
          ∙ ap (λ (l : List Reply). l ++ taken_by k a) h.reports_that;
      fresh = g.later;
    }

never_idle : (s : Seen) (a : Action) → s.current ≡ None → following s ≡ Some a → ⊥
never_idle s a none next = let bad : ◌≡◌ {A = Option Action} None (Some a) = sym (ap (option_and_then (following_in s)) none) ∙ next in (cc)

goes_on : (k : ℕ) (before : List Reply) (s : Seen) (a : Action) → IsReached s → following s ≡ Some a → (c : Option OpenEntry) → s.current ≡ c → IsReporting k before s
    → IsReporting k (before ++ taken_by k a) (after a s)
goes_on k before s a reached next None e h = absurd (never_idle s a e next)
goes_on k before s a reached next (Some o) e h =
    subst (IsReporting k (before ++ taken_by k a)) (sym (after_then s a o e)) (moves k before s reached o e a next (is_closing a) refl h)

opens_on : (k : ℕ) (before : List Reply) (s : Seen) (posted word : ℕ) (x : Event) → may_open x s ≡ true → IsReporting k before s → IsReporting k (before ++ []) (after (action.EntryOpens posted word x) s)
opens_on k before s posted word x may h =
    opens k before s posted word x (none_of s.current (and_parts (is_none s.current) (has_room x s) may).0) h

step : (k : ℕ) (before : List Reply) (s : Seen) (a : Action) → IsReached s → IsNext a s → IsReporting k before s → IsReporting k (before ++ taken_by k a) (after a s)
step k before s (action.EntryOpens posted word x) reached next h = opens_on k before s posted word x next h
step k before s a reached next h = goes_on k before s a reached next s.current refl h

along : (k : ℕ) (actions : List Action) (s t : Seen) (before : List Reply) → IsReached s → IsReporting k before s → Does actions s t → IsReporting k (before ++ taken_in k actions) t
along k [] s t before reached h does =
    subst (IsReporting k (before ++ [])) (sym does) (subst (λ (l : List Reply). IsReporting k l s) (sym (append-nil before)) h)
along k (a ∷ actions) s t before reached h does =
    subst (λ (l : List Reply). IsReporting k l t) (append_assoc before (taken_by k a) (taken_in k actions))
    (along k actions (after a s) t (before ++ taken_by k a) (reached_on s (after a s) (a ∷ []) reached (does.0, refl)) (step k before s a reached does.0 h) does.1)

pub journals_report : JournalsReport
journals_report setup actions s does between k =
    let h : IsReporting k (taken_in k actions) s
    = along k actions (new_session setup) s [] (record { setup = setup; actions = []; does = refl }) (record { reports_that = refl; fresh = refl }) does in
    sym (append-nil (reported k s.entries)) ∙ ap (λ (c : Option OpenEntry). reported k s.entries ++ pending k c) (sym between) ∙ h.reports_that
