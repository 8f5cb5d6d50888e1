-- What attempts are fed with changes with their call and with the moment.
use Rattle.std.proofs.Common.{◌≡◌, ◌≤◌, ◌∷◌, ◌++◌, ◌==◌, append-nil, ap, arith, length-append, refl, subst, sym, ◌∙◌, Bool, true, false, List, [], Option, None, Some, ℕ, ◌+◌, ◌-◌, drop, if◌then◌else◌, length, option_map}
use Rattle.std.proofs.lemmas.List.{drop-append-le}
use Rattle.std.proofs.lemmas.List.Concat.{flat_map-append}
use Rattle.std.specs.List.{AllByRecursion}
use Rattle.std.specs.Option.{option_map_or}
use Rattle.grpc_base.specs.declared.event.Event.TheVariants as event
use Rattle.grpc_frame.specs.Messages.{framed, framed_all}
use Rattle.grpc_meta.specs.RequestFields.{fields_of_request}
use Rattle.h2_link.specs.Feeds.{Line}
use Rattle.h2_link.specs.Wire.{Wire}
use Rattle.link_actions.specs.Sees.{IsFed, written_for}
use Rattle.link_actions.proofs.LossActions.Calls.{changed_any, limit_in, limit_kept}
use Rattle.link_actions.proofs.LossActions.Losses.{all_there}
use Rattle.session_actions.specs.Attempts.{call_of}
use Rattle.session_actions.specs.Configs.{chosen_of, deadline}
use Rattle.session_actions.specs.Deliveries.{with_message}
use Rattle.session_actions.specs.Entries.{opened, with_entry}
use Rattle.session_actions.specs.Responses.{limit_of_attempt}
use Rattle.session_actions.specs.Words.{changed, numbered}
use Rattle.session_actions.specs.Writing.{time_left}
use Rattle.session_actions.specs.declared.attempt.Attempt.{Attempt}
use Rattle.session_actions.specs.declared.call.Call.{Call}
use Rattle.grpc_base.specs.declared.event.Reply.TheVariants as reply
use Rattle.session_actions.specs.declared.entry.OpenEntry.{OpenEntry}
use Rattle.session_actions.specs.declared.entry.Stage.TheVariants as stage
use Rattle.session_actions.specs.declared.link.Link.{Link}
use Rattle.session_actions.specs.declared.seen.Seen.{Seen}
use Rattle.link_actions.proofs.SteadyLinks.Calls.{AreAllFed, all_are_fed, left_by}
use Rattle.link_actions.proofs.SteadyLinks.Left.{links_are_left}
use Rattle.link_actions.specs.SteadyLinks.Fed.{with_end, with_message_left}
use Rattle.link_actions.specs.SteadyLinks.Laws.{EntriesLeaveLinks, FinishesFeed, MessagesFeed, MomentsFeed}
use Rattle.link_actions.specs.SteadyLinks.Same.{LinesAreSameOn}
use Rattle.link_actions.specs.StreamActions.Sees.{SeesStreams}

-- of another list of calls and another entry
abbrev other : List Call → Option OpenEntry → Seen → Seen
other cs o s = record s { calls = cs; current = o }

abbrev FeedsAgain : Link → Seen → Seen → (ℕ → Line) → (ℕ → Line) → Attempt → Type 0
FeedsAgain l s t g h a = numbered s.attempts a.place ≡ Some a → IsFed l s a (g a.place) → IsFed l t a (h a.place)

again_same : (l : Link) (s : Seen) (cs : List Call) (o : Option OpenEntry) (g h : ℕ → Line) (xs : List Attempt) → ((a : Attempt) → limit_of_attempt a (other cs o s) ≡ limit_of_attempt a s)
    → ((a : Attempt) → FeedsAgain l s (other cs o s) g h a) → AllByRecursion (λ a. numbered s.attempts a.place ≡ Some a) xs → AreAllFed l s g xs
    → LinesAreSameOn l l s (other cs o s) h xs xs
again_same l s cs o g h [] limits feeds there fed_ = tt
again_same l s cs o g h (a ∷ xs) limits feeds there fed_ = (
  record { place = refl; placed = refl; stream = refl; ended = refl; limit = λ e. limits a; fed = λ e. feeds a there.0 (fed_.0 e) },
  again_same l s cs o g h xs limits feeds there.1 fed_.1,
)

again_left : (l : Link) (s : Seen) (cs : List Call) (o : Option OpenEntry) (w : Wire) (g h : ℕ → Line) → ((a : Attempt) → limit_of_attempt a (other cs o s) ≡ limit_of_attempt a s)
    → ((a : Attempt) → FeedsAgain l s (other cs o s) g h a) → SeesStreams l s w g → SeesStreams l (other cs o s) w h
again_left l s cs o w g h limits feeds is =
    links_are_left l l s (other cs o s) w g h is (record { number = refl; traffic_ = refl; owed = refl }) is.sees.at
    (again_same l s cs o g h s.attempts limits feeds (all_there s is.sees.places) (all_are_fed l s w g is.sees)) is.sees.places

-- the entry
moment_kept : (f : OpenEntry → OpenEntry) (o : Option OpenEntry) (last : ℕ) → ((x : OpenEntry) → (f x).moment ≡ x.moment)
    → option_map_or (λ (x : OpenEntry). x.moment) (option_map f o) last ≡ option_map_or (λ (x : OpenEntry). x.moment) o last
moment_kept f None last keeps = refl
moment_kept f (Some x) last keeps = keeps x

noted_entry : (l : Link) (s : Seen) (f : OpenEntry → OpenEntry) (a : Attempt) (line : Line) → ((x : OpenEntry) → (f x).moment ≡ x.moment) → IsFed l s a line
    → IsFed l (with_entry f s) a line
noted_entry l s f a line keeps is = record {
  call = is.call;
  call_is = is.call_is;
  fields = is.fields
      ∙ ap (λ (n : ℕ). fields_of_request is.call.request s.setup.authority (option_map (λ moment. moment - n) (deadline is.call s)) a.row.number) (sym (moment_kept f s.current _ keeps));
  written = is.written;
  left = is.left;
  finished = is.finished;
}

entry_same : (l : Link) (s : Seen) (f : OpenEntry → OpenEntry) (g : ℕ → Line) (xs : List Attempt) → ((x : OpenEntry) → (f x).moment ≡ x.moment) → AreAllFed l s g xs
    → LinesAreSameOn l l s (with_entry f s) g xs xs
entry_same l s f g [] keeps fed_ = tt
entry_same l s f g (a ∷ xs) keeps fed_ = (
  record { place = refl; placed = refl; stream = refl; ended = refl; limit = λ e. refl; fed = λ e. noted_entry l s f a (g a.place) keeps (fed_.0 e) },
  entry_same l s f g xs keeps fed_.1,
)

pub entries_leave_links : EntriesLeaveLinks
entries_leave_links s f keeps = left_by s (with_entry f s) refl (λ l g fed_. entry_same l s f g s.attempts keeps fed_) (λ places. places)

-- a call that is changed
call_limit : (s : Seen) (f : Call → Call) (number : ℕ) (a : Attempt) → ((c : Call) → (chosen_of (f c) s).response ≡ (chosen_of c s).response)
    → limit_in s (numbered (changed f number s.calls) a.row.call) ≡ limit_in s (call_of a s)
call_limit s f number a keeps =
    ap (limit_in s) (changed_any f number a.row.call s.calls) ∙ limit_kept s f (a.row.call == number) (call_of a s) keeps

call_now : (s : Seen) (f : Call → Call) (number : ℕ) (a : Attempt) (c : Call) (b : Bool) → (a.row.call == number) ≡ b → call_of a s ≡ Some c
    → numbered (changed f number s.calls) a.row.call ≡ Some (if b then f c else c)
call_now s f number a c b e is =
    changed_any f number a.row.call s.calls ∙ ap (option_map (λ x. if a.row.call == number then f x else x)) is ∙ ap (λ (d : Bool). Some (if d then f c else c)) e

-- one that is changed no more than by what was noted of the entry
same_fed : (l : Link) (s : Seen) (cs : List Call) (f : OpenEntry → OpenEntry) (a : Attempt) (line next : Line) → ((x : OpenEntry) → (f x).moment ≡ x.moment) → (is : IsFed l s a line)
    → numbered cs a.row.call ≡ Some is.call → next ≡ line → IsFed l (other cs (option_map f s.current) s) a next
same_fed l s cs f a line next keeps is at e = subst (IsFed l (other cs (option_map f s.current) s) a) (sym e) (record {
  call = is.call;
  call_is = at;
  fields = is.fields
      ∙ ap (λ (n : ℕ). fields_of_request is.call.request s.setup.authority (option_map (λ moment. moment - n) (deadline is.call s)) a.row.number) (sym (moment_kept f s.current _ keeps));
  written = is.written;
  left = is.left;
  finished = is.finished;
})

-- a message that is accepted
framed_more : (messages : List (List ℕ)) (m : List ℕ) → framed_all (messages ++ m ∷ []) ≡ framed_all messages ++ framed m
framed_more messages m = flat_map-append framed messages (m ∷ []) ∙ ap (λ (xs : List ℕ). framed_all messages ++ xs) (append-nil (framed m))

longer : (n : ℕ) (xs ys : List ℕ) → n ≤ length xs → n ≤ length (xs ++ ys)
longer n xs ys within = (let long : length (xs ++ ys) ≡ length xs + length ys = length-append xs ys in omega (arith, within, long))

message_fed : (l : Link) (s : Seen) (cs : List Call) (f : OpenEntry → OpenEntry) (message : List ℕ) (a : Attempt) (line next : Line) → ((x : OpenEntry) → (f x).moment ≡ x.moment)
    → (is : IsFed l s a line) → numbered cs a.row.call ≡ Some (record is.call { messages = is.call.messages ++ message ∷ [] }) → next ≡ with_message_left message line
    → IsFed l (other cs (option_map f s.current) s) a next
message_fed l s cs f message a line next keeps is at e = subst (IsFed l (other cs (option_map f s.current) s) a) (sym e) (record {
  call = record is.call { messages = is.call.messages ++ message ∷ [] };
  call_is = at;
  fields = is.fields
      ∙ ap (λ (n : ℕ). fields_of_request is.call.request s.setup.authority (option_map (λ moment. moment - n) (deadline is.call s)) a.row.number) (sym (moment_kept f s.current _ keeps));
  written = subst (λ (xs : List ℕ). written_for l a ≤ length xs) (sym (framed_more is.call.messages message))
      (longer (written_for l a) (framed_all is.call.messages) (framed message) is.written);
  left = ap (λ (xs : List ℕ). xs ++ framed message) is.left ∙ sym (drop-append-le (written_for l a) (framed_all is.call.messages) (framed message) is.written)
      ∙ ap (λ (xs : List ℕ). drop (written_for l a) xs) (sym (framed_more is.call.messages message));
  finished = is.finished;
})

finish_fed : (l : Link) (s : Seen) (cs : List Call) (f : OpenEntry → OpenEntry) (a : Attempt) (line next : Line) → ((x : OpenEntry) → (f x).moment ≡ x.moment)
    → (is : IsFed l s a line) → numbered cs a.row.call ≡ Some (record is.call { finished = true }) → next ≡ with_end line → IsFed l (other cs (option_map f s.current) s) a next
finish_fed l s cs f a line next keeps is at e = subst (IsFed l (other cs (option_map f s.current) s) a) (sym e) (record {
  call = record is.call { finished = true };
  call_is = at;
  fields = is.fields
      ∙ ap (λ (n : ℕ). fields_of_request is.call.request s.setup.authority (option_map (λ moment. moment - n) (deadline is.call s)) a.row.number) (sym (moment_kept f s.current _ keeps));
  written = is.written;
  left = is.left;
  finished = refl;
})

by_call : (l : Link) (s : Seen) (F : Call → Call) (K : Line → Line) (f : OpenEntry → OpenEntry) (number : ℕ) (a : Attempt) (line next : Line) (b : Bool) → (a.row.call == number) ≡ b
    → ((x : OpenEntry) → (f x).moment ≡ x.moment) → (is : IsFed l s a line) → next ≡ (if b then K line else line)
    → (numbered (changed F number s.calls) a.row.call ≡ Some (F is.call) → next ≡ K line → IsFed l (other (changed F number s.calls) (option_map f s.current) s) a next)
    → IsFed l (other (changed F number s.calls) (option_map f s.current) s) a next
by_call l s F K f number a line next true e keeps is line_is own = own (call_now s F number a is.call true e is.call_is) line_is
by_call l s F K f number a line next false e keeps is line_is own =
    same_fed l s (changed F number s.calls) f a line next keeps is (call_now s F number a is.call false e is.call_is) line_is

abbrev done_entry : OpenEntry → OpenEntry
done_entry o = record o { stage = stage.Replied; reply = Some reply.Done }

pub messages_feed : MessagesFeed
messages_feed l s w g h call message is lines =
    let F : Call → Call = with_message (event.Send call message) in
    again_left l s (changed F call s.calls) (option_map done_entry s.current) w g h (λ a. call_limit s F call a (λ c. refl))
    (λ a there fed_. by_call l s F (with_message_left message) done_entry call a (g a.place) (h a.place) (a.row.call == call) refl (λ x. refl) fed_ (lines a there)
    (λ at e. message_fed l s (changed F call s.calls) done_entry message a (g a.place) (h a.place) (λ x. refl) fed_ at e)) is

pub finishes_feed : FinishesFeed
finishes_feed l s w g h call is lines =
    let F : Call → Call = λ c. record c { finished = true } in
    again_left l s (changed F call s.calls) (option_map done_entry s.current) w g h (λ a. call_limit s F call a (λ c. refl))
    (λ a there fed_. by_call l s F with_end done_entry call a (g a.place) (h a.place) (a.row.call == call) refl (λ x. refl) fed_ (lines a there)
    (λ at e. finish_fed l s (changed F call s.calls) done_entry a (g a.place) (h a.place) (λ x. refl) fed_ at e)) is

-- an entry that opens
moment_fed : (l : Link) (s : Seen) (o : Option OpenEntry) (a : Attempt) (line next : Line) → (is : IsFed l s a line)
    → next ≡ record line { fields = fields_of_request is.call.request s.setup.authority (time_left is.call (other s.calls o s)) a.row.number } → IsFed l (other s.calls o s) a next
moment_fed l s o a line next is e = subst (IsFed l (other s.calls o s) a) (sym e) (record {
  call = is.call;
  call_is = is.call_is;
  fields = refl;
  written = is.written;
  left = is.left;
  finished = is.finished;
})

pub moments_feed : MomentsFeed
moments_feed l s w g h posted word e is lines =
    let o : Option OpenEntry = (opened posted word e s).current in
    again_left l s s.calls o w g h (λ a. refl)
    (λ a there fed_. moment_fed l s o a (g a.place) (h a.place) fed_ (lines a fed_.call there fed_.call_is)) is
