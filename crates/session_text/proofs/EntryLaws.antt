-- What a run leaves in the journal.
use Rattle.std.proofs.Common.{◌≡◌, ℕ, ◌+◌, ◌-◌, List, [], ◌∷◌, ◌++◌, map, length, length-append, refl, ap, ◌∙◌, sym, slice_get, arith, append_assoc, append-nil}
use Rattle.std.specs.Option.{option_map_or}
use Rattle.std.proofs.lemmas.List.{map-append}
use Rattle.std.specs.Prelude.{Option, Some}
use Rattle.grpc_base.specs.declared.event.Entry.{Entry}
use Rattle.grpc_base.specs.declared.event.Reply.{Reply}
use Rattle.grpc_base.specs.declared.event.Stamped.{Stamped}
use Rattle.channel_core.specs.Applying.{conn_of}
use Rattle.channel_core.specs.Core.{CoreSeen, Runs, Steps, last_moment, moment_of}
use Rattle.journal_room.specs.Runs.{HasRunBy}
use Rattle.lb_policy.specs.Table.{PolicySeen}
use Rattle.session_text.specs.Sessions.{AreEntriesOf, highest_so_far}

-- the entry of a step
abbrev entry_of : (old new : CoreSeen) (s : Stamped) (r : Reply) → Steps old new s r → Entry
entry_of old new s r step = record { moment = moment_of old.journal.entries s; word = s.word; event = s.event; reply = r; state = conn_of new.state }

-- the last moment of a journal with one entry more
at_last : (xs : List Entry) (e : Entry) → slice_get (xs ++ e ∷ []) (length xs) ≡ Some e
at_last [] e = refl
at_last (x ∷ xs) e = at_last xs e

last_made : (xs : List Entry) (e : Entry) → last_moment (xs ++ e ∷ []) ≡ e.moment
last_made xs e =
    let longer : length (xs ++ e ∷ []) ≡ length xs + 1 = length-append xs (e ∷ []) in
    let place : length (xs ++ e ∷ []) - 1 ≡ length xs = omega arith in
    ap (λ (o : Option Entry). option_map_or (λ (x : Entry). x.moment) o 0)
    (ap (slice_get (xs ++ e ∷ [])) place ∙ at_last xs e)

-- what is reported of the entries after one entry more
reported_step : {X : Type 0} → (f : Entry → X) (before : List Entry) (e : Entry) (rest : List X) → map f (before ++ e ∷ []) ++ rest ≡ map f before ++ f e ∷ rest
reported_step f before e rest =
    ap (λ (t : List _). t ++ rest) (map-append f before (e ∷ []))
    ∙ append_assoc (map f before) (f e ∷ []) rest

-- what a run adds to a journal
record Adds (old : CoreSeen) (events : List Stamped) (new : CoreSeen) : Type 0 where
  events_are : map (λ e. e.event) new.journal.entries ≡ map (λ e. e.event) old.journal.entries ++ map (λ s. s.event) events
  words_are : map (λ e. e.word) new.journal.entries ≡ map (λ e. e.word) old.journal.entries ++ map (λ s. s.word) events
  moments_are : map (λ e. e.moment) new.journal.entries ≡ map (λ e. e.moment) old.journal.entries ++ highest_so_far (last_moment old.journal.entries) (map (λ s. s.moment) events)

adds : (old : CoreSeen) (events : List Stamped) (new : CoreSeen) → Runs old events new → Adds old events new
adds old [] new same = record {
  events_are = ap (λ (c : CoreSeen). map (λ (x : Entry). x.event) c.journal.entries) same ∙ sym (append-nil (map (λ (x : Entry). x.event) old.journal.entries));
  words_are = ap (λ (c : CoreSeen). map (λ (x : Entry). x.word) c.journal.entries) same ∙ sym (append-nil (map (λ (x : Entry). x.word) old.journal.entries));
  moments_are = ap (λ (c : CoreSeen). map (λ (x : Entry). x.moment) c.journal.entries) same ∙ sym (append-nil (map (λ (x : Entry). x.moment) old.journal.entries));
}
adds old (s ∷ events) new runs =
    let next : CoreSeen = runs.0 in
    let step : Steps old next s runs.1 = runs.2 in
    let before : List Entry = old.journal.entries in
    let made : Entry = entry_of old next s runs.1 step in
    let more : Adds next events new = adds next events new runs.3 in
    let last : last_moment next.journal.entries ≡ made.moment = ap last_moment step.journal ∙ last_made before made in
    record {
      events_are =
          more.events_are
          ∙ ap (λ (es : List Entry). map (λ (x : Entry). x.event) es ++ map (λ (x : Stamped). x.event) events) step.journal
          ∙ reported_step (λ (x : Entry). x.event) before made (map (λ (x : Stamped). x.event) events);
      words_are =
          more.words_are
          ∙ ap (λ (es : List Entry). map (λ (x : Entry). x.word) es ++ map (λ (x : Stamped). x.word) events) step.journal
          ∙ reported_step (λ (x : Entry). x.word) before made (map (λ (x : Stamped). x.word) events);
      moments_are =
          more.moments_are
          ∙ ap (λ (m : ℕ). map (λ (x : Entry). x.moment) next.journal.entries ++ highest_so_far m (map (λ (x : Stamped). x.moment) events)) last
          ∙ ap (λ (es : List Entry). map (λ (x : Entry). x.moment) es ++ highest_so_far made.moment (map (λ (x : Stamped). x.moment) events)) step.journal
          ∙ reported_step (λ (x : Entry). x.moment) before made (highest_so_far made.moment (map (λ (x : Stamped). x.moment) events));
    }

-- and to that of a new channel
pub entries_of : (authority : List ℕ) (policies : List PolicySeen) (events : List Stamped) (core : CoreSeen) → HasRunBy authority policies events core → AreEntriesOf events core.journal
entries_of authority policies events core run =
    let more : Adds run.new events core = adds run.new events core run.runs in
    record {
      events_are = more.events_are ∙ ap (λ (es : List Entry). map (λ (x : Entry). x.event) es ++ map (λ (x : Stamped). x.event) events) run.is_new.journal;
      words_are = more.words_are ∙ ap (λ (es : List Entry). map (λ (x : Entry). x.word) es ++ map (λ (x : Stamped). x.word) events) run.is_new.journal;
      moments_are =
          more.moments_are
          ∙ ap (λ (es : List Entry). map (λ (x : Entry). x.moment) es ++ highest_so_far (last_moment es) (map (λ (x : Stamped). x.moment) events)) run.is_new.journal;
    }
