-- The link of an attempt that is placed: the attempt waits there for a stream, and has a reader. The other links are as before.
use Rattle.std.proofs.Common.{◌≡◌, ◌≤◌, ◌==◌, ◌∙◌, ap, arith, eq-eqb, eqb-true, refl, subst, sym, true, false, Option, None, Some, ℕ, is_some, option_map}
use Rattle.std.specs.Option.{option_map_or}
use Rattle.call_actions.proofs.Places.{place_is}
use Rattle.call_actions.proofs.Ranks.{numbered_map}
use Rattle.call_actions.proofs.TakeActions.Retold.{read_same}
use Rattle.channel_actions.proofs.Stamps.{counted_at}
use Rattle.channel_actions.specs.LinkFrames.Alike.{SeesNoDifference}
use Rattle.channel_actions.specs.LinkFrames.Bears.{bears_on}
use Rattle.channel_actions.specs.Links.{HasLink, IsGoing, SeesLinks, line_of, lines_in, no_line}
use Rattle.channel_actions.specs.Readers.{SeesReaders}
use Rattle.call_cases.proofs.ConfiguredCalls.Lists.{equal_numbers, same_words}
use Rattle.attempt_cases.proofs.DrainEvents.Links.{read_so, read_then}
use Rattle.attempt_cases.proofs.MakingSteps.Quiescent.{two_off}
use Rattle.attempt_cases.proofs.ServeSteps.Lasts.{same_some, unsome}
use Rattle.attempt_cases.proofs.ServeSteps.OutBase as base
use Rattle.attempt_cases.proofs.ServeSteps.OutBase.{OutLaws, OutNext}
use Rattle.attempt_cases.proofs.ServeSteps.OutCall.{kept}
use Rattle.channel_core.proofs.BookLaws.{number_changed, number_other}
use Rattle.channel_core.proofs.Resting.{changed_length as stamped_length}
use Rattle.channel_core.specs.Books.{limit_in}
use Rattle.channel_core.specs.States.{StateSeen}
use Rattle.channel_core.specs.Tables.{placed_link, with_link}
use Rattle.channel_core.specs.declared.state.links.LinkSlot.{LinkSlot}
use Rattle.grpc_base.specs.Limits.{message_limit}
use Rattle.grpc_link.specs.Links.{placed_reader}
use Rattle.h2_link.specs.Feeds.{Line}
use Rattle.h2_link.specs.Steps as h2
use Rattle.ledger_stamps.specs.Steps.{changed_at}
use Rattle.link_actions.specs.Sees as link_sees
use Rattle.link_actions.specs.SteadyLinks.Laws.{CanPlace}
use Rattle.link_actions.specs.StreamActions.Sees.{SeesStreams}
use Rattle.service_config.specs.Choice.{chosen_for}
use Rattle.session_actions.specs.Attempts.{call_of}
use Rattle.session_actions.specs.Configs.{chosen_of, config_of_call, no_choice}
use Rattle.session_actions.specs.Links.{is_retiring}
use Rattle.session_actions.specs.Policies.{attempt_placed}
use Rattle.session_actions.specs.Reading.{used}
use Rattle.session_actions.specs.Responses.{limit_of_attempt}
use Rattle.session_actions.specs.Words.{numbered}
use Rattle.session_actions.specs.Writing.{accepted_bytes}
use Rattle.session_actions.specs.declared.attempt.Attempt.{Attempt}
use Rattle.session_actions.specs.declared.call.Call.{Call}
use Rattle.session_actions.specs.declared.config.HeldConfig.{HeldConfig}
use Rattle.session_actions.specs.declared.link.Link.{Link}
use Rattle.session_actions.specs.declared.seen.Seen.{Seen}

other_way : (n m : ℕ) → m ≡ n → (n == m) ≡ false → ⊥
other_way n m same e = let bad : false ≡ true = sym e ∙ eq-eqb n m (sym same) in (cc)

-- the limit of its messages is in its config
limit_by : (c : Call) (o : Option HeldConfig) → is_some o ≡ true
    → (option_map_or (λ (q : HeldConfig). chosen_for q.config c.request.path) o no_choice).response ≡ limit_in (option_map (λ (q : HeldConfig). chosen_for q.config c.request.path) o)
limit_by c None e = absurd (let bad : false ≡ true = e in (cc))
limit_by c (Some q) e = refl

module _ (x : StateSeen) (s : Seen) (is : OutNext x s) where
  abbrev c : Call
  c = is.call

  abbrev row : ℕ
  row = is.row

  abbrev a : Attempt
  a = is.attempt

  abbrev l : Link
  l = is.link

  abbrev g : Attempt → Attempt
  g = base.g x s is

  abbrev t : Seen
  t = base.t x s is

  abbrev y : StateSeen
  y = base.y x s is

  own_link : HasLink x s l is.at.link
  own_link = is.agrees.links.each is.at.link l is.link_there

  over_none : l.over ≡ None
  over_none = unsome l.over (two_off (is_some l.over) (is_retiring l) is.up).0

  going : IsGoing l s own_link.slot
  going = own_link.sees.going over_none

  link_number_is : is.at.link ≡ l.number
  link_number_is = sym (counted_at (λ (j : Link). j.number) s.links is.at.link l is.agrees.kept.links is.link_there)

  can : CanPlace l a is.at
  can = record { unplaced = base.unplaced x s is; streamless = is.streamless; going = base.unended x s is; link = link_number_is }

  -- what the attempts of the link are fed with
  line_same : (z : Attempt) → option_map_or (line_of l t z) (call_of z t) no_line ≡ option_map_or (line_of l s z) (call_of z s) no_line
  line_same z = read_same (base.noted x s is) c.number s.calls (line_of l s z) no_line (λ k. refl) z.row.call

  lines_by : (k : ℕ) (o : Option Attempt) → (k == row) ≡ false → numbered s.attempts k ≡ o
      → option_map_or (λ (z : Attempt). option_map_or (line_of l t z) (call_of z t) no_line) (option_map g o) no_line
      ≡ option_map_or (λ (z : Attempt). option_map_or (line_of l s z) (call_of z s) no_line) o no_line
  lines_by k None other got = refl
  lines_by k (Some z) other got =
      let place : z.place ≡ k = place_is k s.attempts z is.sees.order.places got in
      ap (λ (q : Attempt). option_map_or (line_of l t q) (call_of q t) no_line) (base.g_off x s is z (ap (λ (n : ℕ). n == row) place ∙ other)) ∙ line_same z

  lines_same : (k : ℕ) → (k == row) ≡ false → lines_in l t k ≡ lines_in l s k
  lines_same k other =
      ap (λ (o : Option Attempt). option_map_or (λ (z : Attempt). option_map_or (line_of l t z) (call_of z t) no_line) o no_line) (numbered_map g s.attempts k)
      ∙ lines_by k (numbered s.attempts k) other refl

  own_line : lines_in l t row ≡ line_of l s a c
  own_line =
      ap (λ (o : Option Attempt). option_map_or (λ (z : Attempt). option_map_or (line_of l t z) (call_of z t) no_line) o no_line) (base.here_now x s is)
      ∙ ap (λ (o : Option Call). option_map_or (line_of l t (g a)) o no_line) (ap (numbered t.calls) (eqb-true a.row.call c.number is.own) ∙ base.own_now x s is)

  written_none : link_sees.written_for l a ≡ 0
  written_none = ap (λ (o : Option ℕ). option_map_or (λ (n : ℕ). used n l) o 0) is.streamless

  fed_line : link_sees.IsFed l s a (lines_in l t row)
  fed_line =
      subst (λ (v : Line). link_sees.IsFed l s a v) (sym own_line)
      (record {
        call = c;
        call_is = base.call_is x s is;
        fields = refl;
        written = subst (λ (n : ℕ). n ≤ accepted_bytes c) (sym written_none) (omega arith);
        left = refl;
        finished = refl;
      })

  limit_is : limit_of_attempt a s ≡ limit_in is.slot.call.chosen
  limit_is =
      ap (λ (o : Option Call). option_map_or (λ (k : Call). (chosen_of k s).response) o message_limit) (base.call_is x s is)
      ∙ limit_by c (config_of_call c s) (sym is.sees.serves.config ∙ is.configured) ∙ ap limit_in is.sees.serves.sees.chosen

  abbrev put_link : LinkSlot → LinkSlot
  put_link = with_link (placed_link row (limit_in is.slot.call.chosen))

  module _ (laws : OutLaws) where
    streams_now : SeesStreams l t (h2.placed own_link.slot.link.link.wire row) (lines_in l t)
    streams_now =
        subst (λ (u : Seen). SeesStreams l u (h2.placed own_link.slot.link.link.wire row) (lines_in l t)) (base.placed_is x s is)
        (laws.waits l s own_link.slot.link.link.wire (lines_in l s) (lines_in l t) row a is.at going.streams is.here can lines_same fed_line)

    readers_now : SeesReaders l t (placed_reader row (limit_in is.slot.call.chosen) own_link.slot.link.readers)
    readers_now =
        subst (λ (n : ℕ). SeesReaders l t (placed_reader row n own_link.slot.link.readers)) limit_is
        (subst (λ (u : Seen). SeesReaders l u (placed_reader row (limit_of_attempt a s) own_link.slot.link.readers)) (base.placed_is x s is)
        (read_then l (attempt_placed is.row is.at s) (placed_reader row (limit_of_attempt a s) own_link.slot.link.readers)
        (laws.gives l s own_link.slot.link.readers row a is.at (read_so l s own_link.slot.link.readers going.readers) is.here can)))

    here_link : HasLink y t l is.at.link
    here_link = record {
      slot = put_link own_link.slot;
      there =
          sym (same_words (changed_at put_link x.links is.at.link) is.at.link) ∙ number_changed put_link x.links is.at.link
          ∙ ap (option_map put_link) (same_words x.links is.at.link ∙ own_link.there);
      sees = record {
        over = own_link.sees.over;
        retiring = own_link.sees.retiring;
        going = λ e. record { streams = streams_now; readers = readers_now; rest = going.rest; closed = going.closed };
      };
    }

    touched_link : (link : ℕ) (m : Link) → (is.at.link == link) ≡ true → numbered t.links link ≡ Some m → HasLink y t m link
    touched_link link m same got =
        let here_is : is.at.link ≡ link = equal_numbers is.at.link link same in
        let one : l ≡ m = same_some l m (numbered s.links is.at.link) is.link_there (ap (numbered s.links) here_is ∙ got) in
        subst (λ (n : ℕ). HasLink y t m n) here_is (subst (λ (q : Link). HasLink y t q is.at.link) one here_link)

    cannot : SeesNoDifference (bears_on (base.does_it x s is) s) s t
    cannot =
        subst (λ (u : Seen). SeesNoDifference (bears_on (base.does_it x s is) s) s u) (base.after_is x s is)
        (laws.frames.no_difference (base.does_it x s is) s is.agrees.kept
        (λ z got. ap (λ (q : Attempt). q.row.placed) (same_some z a (numbered s.attempts row) got is.here) ∙ base.unplaced x s is))

    others_stay : (link : ℕ) → (is.at.link == link) ≡ false → numbered y.links link ≡ numbered x.links link
    others_stay link e =
        sym (same_words (changed_at put_link x.links is.at.link) link) ∙ number_other put_link x.links is.at.link link (λ same. other_way is.at.link link same e) ∙ same_words x.links link

    pub links_now : SeesLinks (base.y x s is) (base.t x s is)
    links_now =
        laws.frames.links (bears_on (base.does_it x s is) s) x y s t is.agrees.links is.agrees.kept (kept x s is laws) others_stay cannot
        (is.agrees.links.count ∙ sym (stamped_length put_link x.links is.at.link)) touched_link
