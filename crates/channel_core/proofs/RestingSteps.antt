-- What holds of each single thing that is done to a channel, but for what its applications send and finish, what its links take and what comes
-- on them, holds of a whole step without these. A step is its events, the settling, and all of it.
use Rattle.std.proofs.Common.{if◌then◌else◌, ◌≡◌, ℕ, zero, suc, ◌+◌, Bool, true, false, nat_lt, ◌==◌, min, length, Option, Some, None, is_some, List, [], ◌∷◌, Result, Ok, Err, refl, sym, subst}
use Rattle.grpc_base.specs.Requests.{RequestSeen}
use Rattle.grpc_base.specs.Kinds.{KindsSeen, has_kind}
use Rattle.grpc_base.specs.declared.address.Address.{Address}
use Rattle.grpc_base.specs.declared.event.ConfigFault.{ConfigFault}
use Rattle.grpc_base.specs.declared.event.EndCause.TheVariants as ends
use Rattle.grpc_base.specs.declared.event.Event.{Event}
use Rattle.grpc_base.specs.declared.event.Event.TheVariants as event
use Rattle.grpc_base.specs.declared.event.Refusal.{Refusal}
use Rattle.grpc_base.specs.declared.event.Reply.{Reply}
use Rattle.grpc_base.specs.declared.kind.Kind.{Kind}
use Rattle.grpc_base.specs.declared.kind.Pick.{Pick}
use Rattle.grpc_base.specs.declared.kind.Pick.TheVariants as pick
use Rattle.grpc_base.specs.declared.plan.Chosen.{Chosen}
use Rattle.attempt_ledger.specs.declared.ledger.Generation.{Generation}
use Rattle.attempt_ledger.specs.declared.row.Placed.{Placed}
use Rattle.policy_rack.specs.Kinds.{first_place, kinds_of}
use Rattle.policy_rack.specs.Steps.{RackSeen, adopted_number, live_of, may_take_over}
use Rattle.subchannel.specs.Boards.{numbered}
use Rattle.service_config.specs.declared.config.Config.{Config}
use Rattle.channel_net.specs.declared.replies.Asked.{Asked}
use Rattle.channel_net.specs.declared.replies.Dialing.{Dialing}
use Rattle.channel_net.specs.Lists as net_lists
use Rattle.channel_net.specs.Stamps as stamps
use Rattle.channel_net.specs.Steps as net
use Rattle.channel_net.specs.Steps.{NetLeft, NetSeen}
use Rattle.call_core.specs.Steps as call
use Rattle.channel_core.specs.Applying as applying
use Rattle.channel_core.specs.Applying.{AnswersBy, Applies, config_read}
use Rattle.channel_core.specs.Arrivals as arrivals
use Rattle.channel_core.specs.Books.{book_asked, book_begun, book_configured, book_placed, limit_at, slot_at}
use Rattle.channel_core.specs.Settling as settling
use Rattle.channel_core.specs.Settling.{passed, rounds}
use Rattle.channel_core.specs.States.{StateSeen}
use Rattle.channel_core.specs.Steps as step
use Rattle.channel_core.specs.Steps.{Moved, unconfigured_served, chosen_in, clocked, net_settled, next_word, overdue_ended, with_generations}
use Rattle.channel_core.specs.Tables.{marked_dead_in, takes_rows, marked_dead, pinged_link, placed_link, with_link}
use Rattle.channel_core.specs.Timing.{due_keys, later, number_of, sorted_into}
use Rattle.channel_core.proofs.Resting.{Begins, Gone, IsQuietActionInvariant, ComesUp, Configures, Holds, after_book, close, either, fail, gone_all, gone_one, overdue, same, then_seal, timers_of, with_book, changed_length}
use Rattle.ledger_stamps.specs.Steps.{changed_at}
use Rattle.channel_core.specs.declared.state.links.LinkSlot.{LinkSlot}

-- as many links as before
placed_length : (takes : Bool) (link row limit : ℕ) (links : List LinkSlot) → length (if takes then changed_at (with_link (placed_link row limit)) links link else links) ≡ length links
placed_length true link row limit links = changed_length (with_link (placed_link row limit)) links link
placed_length false link row limit links = refl

module _ (R : StateSeen → StateSeen → Type 0) (c : IsQuietActionInvariant R) where
  -- generations
  gen_activated : (s : StateSeen) (g : List Generation) (number : ℕ) → R s (with_generations g s) → R s (with_generations (stamps.activated s.book.ledger.entry number g) s)
  gen_activated s g number h = c.joined s (with_generations g s) _ h (c.activated number (with_generations g s))

  gen_retired : (s : StateSeen) (g : List Generation) (number : ℕ) → R s (with_generations g s) → R s (with_generations (stamps.retired s.book.ledger.entry number g) s)
  gen_retired s g number h = c.joined s (with_generations g s) _ h (c.retired number (with_generations g s))

  gen_added : (s : StateSeen) (g : List Generation) (kind : Kind) → R s (with_generations g s) → R s (with_generations (stamps.added kind g) s)
  gen_added s g kind h = c.joined s (with_generations g s) _ h (c.added kind (with_generations g s))

  gen_if : (b : Bool) (s : StateSeen) (g h : List Generation) → R s (with_generations g s) → R s (with_generations h s) → R s (with_generations (if b then g else h) s)
  gen_if true s g h first second = first
  gen_if false s g h first second = second

  gen_retired_live : (s : StateSeen) (live : Option (ℕ × Kind)) (g : List Generation) → R s (with_generations g s) → R s (with_generations (stamps.retired_live s.book.ledger.entry live g) s)
  gen_retired_live s None g h = h
  gen_retired_live s (Some live) g h = gen_retired s g live.0 h

  gen_activated_live : (s : StateSeen) (live : Option (ℕ × Kind)) (g : List Generation) → R s (with_generations g s) → R s (with_generations (stamps.activated_live s.book.ledger.entry live g) s)
  gen_activated_live s None g h = h
  gen_activated_live s (Some live) g h = gen_activated s g live.0 h

  gen_dropped : (s : StateSeen) (kept : ℕ) (live : Option (ℕ × Kind)) (g : List Generation) → R s (with_generations g s) → R s (with_generations (stamps.dropped s.book.ledger.entry kept live g) s)
  gen_dropped s kept None g h = h
  gen_dropped s kept (Some live) g h = gen_if (live.0 == kept) s g _ h (gen_retired s g live.0 h)

  gen_over : (s : StateSeen) (n : NetSeen) (g : List Generation) → R s (with_generations g s) → R s (with_generations (net.taken_over_stamps s.book.ledger.entry n g) s)
  gen_over s n g h =
      let current : Option (ℕ × Kind) = live_of n.asker.rack.policies n.asker.rack.current in
      let pending : Option (ℕ × Kind) = live_of n.asker.rack.policies n.asker.rack.pending in
      gen_if (may_take_over n.asker.rack) s _ g (gen_activated_live s pending _ (gen_retired_live s current g h)) h

  gen_begun : (s : StateSeen) (kind : Kind) (is_current : Bool) (number : ℕ) (g : List Generation) → R s (with_generations g s) → R s (with_generations (net.begun_stamps s.book.ledger.entry kind is_current number g) s)
  gen_begun s kind is_current number g h = gen_if is_current s _ _ (gen_activated s _ number (gen_added s g kind h)) (gen_added s g kind h)

  gen_adopted : (s : StateSeen) (kind : Kind) (r t : RackSeen) (number : ℕ) (g : List Generation) → R s (with_generations g s) → R s (with_generations (net.adopted_stamps s.book.ledger.entry kind r t number g) s)
  gen_adopted s kind r t number g h =
      let dropped : R s (with_generations (stamps.dropped s.book.ledger.entry number (live_of r.policies r.pending) g) s) = gen_dropped s number (live_of r.policies r.pending) g h in
      gen_if (nat_lt r.made number) s _ _ (gen_begun s kind (stamps.is_numbered number (live_of t.policies t.current)) number _ dropped) dropped

  gen_resolved : (s : StateSeen) (kind : Kind) (n t : NetSeen) → R s (with_generations (net.resolved_stamps s.book.ledger.entry kind n t s.book.ledger.generations) s)
  gen_resolved s kind n t =
      gen_if (has_kind (kinds_of n.asker.rack.policies) kind) s _ _ (gen_adopted s kind n.asker.rack t.asker.rack (adopted_number (first_place kind n.asker.rack.policies) n.asker.rack) s.book.ledger.generations (same R c s)) (same R c s)

  -- a net, with what its generations were stamped with and the links that it left
  left_net : (n : NetSeen) (g : List Generation) (links : List ℕ) (s : StateSeen) → R s (with_generations g s) → R s (step.all_stamped_gone links (with_generations g (record s { net = n })))
  left_net n g links s h =
      let t : StateSeen = with_generations g (record s { net = n }) in
      c.joined s t _ (c.joined s (with_generations g s) t h (c.beside (with_generations g s) t refl refl refl (λ e. e))) (gone_all R c links t)

  -- a result of the resolver
  pub readdress : (kind : Option Kind) (addresses : List Address) (s : StateSeen) → R s (applying.readdressed_by kind addresses s)
  readdress None addresses s = same R c s
  readdress (Some kind) addresses s =
      let n : NetSeen = net.net_resolved kind addresses s.net in
      left_net n _ (net.resolved_shut kind addresses s.net) s (gen_resolved s kind s.net n)

  pub take_config : (kinds : KindsSeen) (text : Option (List ℕ)) (read : Result Config ConfigFault) (s : StateSeen) → Holds R text → config_read kinds text ≡ read → R s (applying.config_taken read s).state
  take_config kinds text (Ok config) s holds e = holds config kinds s e
  take_config kinds text (Err fault) s holds e = c.beside s _ refl refl refl (λ e. e)

  pub resolve : (addresses : List Address) (text : Option (List ℕ)) (s : StateSeen) → Holds R text → R s (applying.resolved addresses text s).state
  resolve addresses text s holds =
      let kinds : KindsSeen = kinds_of s.net.asker.rack.policies in
      let t : StateSeen = applying.answered_question s in
      let u : StateSeen = (applying.config_taken (config_read kinds text) t).state in
      c.joined s t _ (c.beside s t refl refl refl (λ e. e)) (c.joined t u _ (take_config kinds text (config_read kinds text) t holds refl) (readdress (applying.kind_held u) addresses u))

  -- a Shutdown
  pub close_all : (more index : ℕ) (s : StateSeen) → R s (applying.calls_closed more index s)
  close_all zero index s = same R c s
  close_all (suc more) index s =
      let t : StateSeen = applying.closed_at index s in
      c.joined s t _ (close R c ends.Shut (min (number_of index + 1) 4294967295) s refl) (close_all more (index + 1) t)

  pub close_net : (s : StateSeen) → R s (applying.net_closed s)
  close_net s =
      let r : RackSeen = s.net.asker.rack in
      left_net (net.net_shut s.net).net _ (net.net_shut s.net).gone s (gen_retired_live s (live_of r.policies r.pending) _ (gen_retired_live s (live_of r.policies r.current) s.book.ledger.generations (same R c s)))

  pub shut_off : (s : StateSeen) → R s (applying.shut_off s)
  shut_off s =
      let t : StateSeen = record s { shut = true } in
      let u : StateSeen = applying.all_closed t in
      c.joined s t _ (c.beside s t refl refl refl (λ e. refl)) (c.joined t u _ (close_all (length t.book.calls) 0 t) (close_net u))

  pub shut_down : (s : StateSeen) → R s (applying.shut_down s)
  shut_down s = either R c s.shut s s _ (same R c s) (shut_off s)

  -- a link comes up, a dial is taken
  pub link_up : (refused : Option Refusal) (sub : ℕ) (s : StateSeen) → ComesUp R sub → R s (arrivals.linked_for refused sub s).state
  link_up None sub s up = up s
  link_up (Some why) sub s up = same R c s

  pub dial_down : (refused : Option Refusal) (sub : ℕ) (s : StateSeen) → R s (arrivals.dial_failed_for refused sub s).state
  dial_down None sub s = c.beside s _ refl refl refl (λ e. e)
  dial_down (Some why) sub s = same R c s

  pub dial_drawn : (d : Option Dialing) (s t : StateSeen) → R s t → R s (step.dial_draw d t)
  dial_drawn None s t h = h
  dial_drawn (Some d) s t h = c.joined s t _ h (c.beside t _ refl refl refl (λ e. e))

  -- an event
  pub begin : (request : RequestSeen) (s : StateSeen) → Begins R request → R s (arrivals.begun_by request s).state
  begin request s begins =
      let number : ℕ = length s.book.ledger.calls + 1 in
      let t : StateSeen = with_book (book_begun request s.book) s in
      let u : StateSeen = step.unconfigured_added number (step.says_yes request.wait) t in
      c.joined s t _ (begins s) (c.joined t u _ (c.beside t u refl refl refl (λ e. e)) (timers_of R c number u))

  applied : (e : Event) (s t : StateSeen) (r : Reply) → Gone R e → Applies e s t r → R s t
  applied (event.Begin request) s t r k g = subst (λ (x : StateSeen). R s x) (sym g.0) (begin request s k)
  applied (event.Send number message) s t r k g =
      subst (λ (x : StateSeen). R s x) (sym g.0) (then_seal R c s _ (after_book R c (book_asked (call.sent message s.book.moment) number s.book) number s s refl refl (λ e. e) (k s)))
  applied (event.Finish number) s t r k g = subst (λ (x : StateSeen). R s x) (sym g.0) (k s)
  applied (event.Take number) s t r k g = subst (λ (x : StateSeen). R s x) (sym g.0) (c.taken number s)
  applied (event.Cancel number) s t r k g = subst (λ (x : StateSeen). R s x) (sym g.0) (close R c ends.Cancelled number s refl)
  applied (event.Resolved addresses text) s t r k g = subst (λ (x : StateSeen). R s x) (sym g.0) (resolve addresses text s k)
  applied event.ResolveFailed s t r k g = subst (λ (x : StateSeen). R s x) (sym g.0) (c.beside s _ refl refl refl (λ e. e))
  applied event.TakeDial s t r k g =
      subst (λ (x : StateSeen). R s x) (sym g.0) (dial_drawn (net.dial_answer s.book.moment (next_word s) s.net) s (step.dialed s) (c.beside s _ refl refl refl (λ e. e)))
  applied (event.LinkUp sub) s t r k g = subst (λ (x : StateSeen). R s x) (sym g.0) (link_up (net.dial_refusal (numbered s.net.board sub)) sub s k)
  applied (event.DialFailed sub) s t r k g = subst (λ (x : StateSeen). R s x) (sym g.0) (dial_down (net.dial_refusal (numbered s.net.board sub)) sub s)
  applied (event.Arrived link piece) s t r k g = subst (λ (x : StateSeen). R s x) (sym g.0) (k s)
  applied (event.LinkLost link) s t r k g = subst (λ (x : StateSeen). R s x) (sym g.0) (k s)
  applied (event.Drain link room) s t r k g = k s t r g
  applied (event.Ping link word) s t r k g = subst (λ (x : StateSeen). R s x) (sym g.0) (c.beside s _ refl refl (changed_length (with_link (pinged_link word)) s.links link) (λ e. e))
  applied event.Tick s t r k g = subst (λ (x : StateSeen). R s x) (sym g.0) (same R c s)
  applied event.Shutdown s t r k g = subst (λ (x : StateSeen). R s x) (sym g.0) (shut_down s)

  pub answered : (refused : Option Refusal) (e : Event) (s t : StateSeen) (r : Reply) → Gone R e → AnswersBy refused e s t r → R s t
  answered (Some why) e s t r k g = subst (λ (x : StateSeen). R s x) (sym g.0) (same R c s)
  answered None e s t r k g = applied e s t r k g

  -- the settling: the clock and the policies
  pub limit_all : (links : List ℕ) (s : StateSeen) → R s (step.limits_passed links s)
  limit_all [] s = same R c s
  limit_all (link ∷ links) s =
      let t : StateSeen = record s { links = marked_dead_in link s.links; resolver = true } in
      let u : StateSeen = step.limit_passed link s in
      c.joined s u _ (c.joined s t u (c.beside s t refl refl (changed_length marked_dead s.links link) (λ e. e)) (gone_one R c link t)) (limit_all links u)

  pub clock : (s : StateSeen) → R s (clocked s)
  unfolding clocked
  clock s =
      let l : NetLeft = net.net_clocked s.book.moment s.net in
      let t : StateSeen = record s { net = l.net } in
      c.joined s t _ (c.beside s t refl refl refl (λ e. e)) (limit_all l.gone t)

  pub settle_net : (s : StateSeen) → R s (net_settled s)
  unfolding net_settled
  settle_net s =
      let l : NetLeft = net.net_settled s.net in
      let n : NetSeen = (net.settle_round (net.left_of s.net)).net in
      left_net l.net _ l.gone s (gen_over s n _ (gen_over s s.net s.book.ledger.generations (same R c s)))

  -- calls without a configuration
  pub configure : (chosen : Option Chosen) (number : ℕ) (s : StateSeen) → Configures R → chosen_in s.held (slot_at s.book number) ≡ chosen → R s (step.configured_as number chosen s)
  configure None number s f e = same R c s
  configure (Some chosen) number s f e = after_book R c (book_configured chosen number s.book) number s s refl refl (λ e. e) (f chosen number s e)

  pub configure_all : (calls : List ℕ) (s : StateSeen) → Configures R → R s (step.all_configured calls s)
  configure_all [] s f = same R c s
  configure_all (key ∷ calls) s f =
      let number : ℕ = number_of key in
      let t : StateSeen = step.configured_call number s in
      c.joined s t _ (configure (chosen_in s.held (slot_at s.book number)) number s f refl) (configure_all calls t f)

  pub unconfigure_all : (calls : List ℕ) (s : StateSeen) → R s (step.all_unconfigured calls s)
  unconfigure_all [] s = same R c s
  unconfigure_all (key ∷ calls) s =
      let t : StateSeen = step.closed ends.NoConfig (number_of key) s in
      c.joined s t _ (close R c ends.NoConfig (number_of key) s refl) (unconfigure_all calls t)

  pub serve_unconfigured : (s : StateSeen) → Configures R → R s (unconfigured_served s)
  unfolding unconfigured_served
  serve_unconfigured s f =
      let t : StateSeen = record s { awaiting_config = later 0 s.awaiting_config; fail_fast = [] } in
      let u : StateSeen = record s { fail_fast = later 0 s.fail_fast } in
      either R c (is_some s.held) s _ _ (c.joined s t _ (c.beside s t refl refl refl (λ e. e)) (configure_all (due_keys 0 s.awaiting_config) t f))
      (either R c s.unconfigured s _ s (c.joined s u _ (c.beside s u refl refl refl (λ e. e)) (unconfigure_all (due_keys 0 s.fail_fast) u)) (same R c s))

  -- due attempts
  pub make_all : (calls : List ℕ) (s : StateSeen) → R s (step.all_made calls s)
  make_all [] s = same R c s
  make_all (key ∷ calls) s =
      let number : ℕ = number_of key in
      let t : StateSeen = step.made_one number s in
      c.joined s t _ (then_seal R c s _ (after_book R c (book_asked (call.made_due s.book.moment) number s.book) number s s refl refl (λ e. e) (c.made number s))) (make_all calls t)

  pub forget_all : (calls : List ℕ) (s : StateSeen) → R s (step.dues_forgotten calls s)
  forget_all [] s = same R c s
  forget_all (key ∷ calls) s =
      let t : StateSeen = step.due_gone (number_of key) s in
      c.joined s t _ (c.forgotten (number_of key) s) (forget_all calls t)

  pub make_round : (s : StateSeen) → R s (step.round_made s).state
  make_round s =
      let keys : List ℕ = due_keys s.book.moment s.dues in
      let t : StateSeen = record s { dues = later s.book.moment s.dues } in
      let u : StateSeen = step.dues_forgotten keys t in
      c.joined s t _ (c.beside s t refl refl refl (λ e. e)) (c.joined t u _ (forget_all keys t) (make_all (due_keys 0 (sorted_into [] keys)) u))

  -- the queue
  pub place_if : (takes : Bool) (number row : ℕ) (at : Placed) (s : StateSeen) → at.entry ≡ s.book.ledger.entry → at.moment ≡ s.book.moment → R s (settling.placed_if takes number row at s).state
  place_if true number row at s entry moment =
      after_book R c (book_placed row at number s.book) number s (settling.outstanding_on at.link row (step.unqueued number row s)) refl refl (λ e. e) (c.placed row at number s entry moment)
  place_if false number row at s entry moment = same R c s

  pub place_on : (number row generation sub : ℕ) (link : Option ℕ) (s : StateSeen) → R s (settling.placed_on number row generation sub link s).state
  place_on number row generation sub None s = same R c s
  place_on number row generation sub (Some link) s =
      let t : StateSeen = settling.offered link row (limit_at (slot_at s.book number)) s in
      c.joined s t _ (c.beside s t refl refl (placed_length (takes_rows link s.links) link row (limit_at (slot_at s.book number)) s.links) (λ e. e)) (place_if (takes_rows link s.links) number row (settling.place_at generation sub link s) t refl refl)

  pub pick_for : (number row generation : ℕ) (p : Pick) (s : StateSeen) → R s (settling.picked number row generation p s).state
  pick_for number row generation (pick.Place sub) s = place_on number row generation sub (net_lists.link_of s.net.links sub) s
  pick_for number row generation pick.Wait s = same R c s
  pick_for number row generation pick.Fail s = fail R c number row s

  pub serve_by : (number row : ℕ) (a : Option Asked) (s : StateSeen) → R s (settling.served_by number row a s).state
  serve_by number row None s = same R c s
  serve_by number row (Some a) s =
      let t : StateSeen = step.asked_by row a s in
      c.joined s t _ (c.asked (record { entry = s.book.ledger.entry; generation = a.generation; row = row; answer = a.pick }) s refl) (pick_for number row a.generation a.pick t)

  pub serve : (number row : ℕ) (s : StateSeen) → R s (settling.served number row s).state
  serve number row s =
      let t : StateSeen = settling.asked s in
      c.joined s t _ (c.beside s t refl refl refl (λ e. e)) (serve_by number row (net.net_answer s.net) t)

  pass_on : (further : ℕ × ℕ → Moved → Moved) (next : Option (ℕ × ℕ)) (m : Moved) → ((p : ℕ × ℕ) (m : Moved) → R m.state (further p m).state) → R m.state (settling.passed_on further next m).state
  pass_on further None m more = same R c m.state
  pass_on further (Some p) m more =
      let after : Moved = settling.also m.moved (settling.served p.0 p.1 m.state) in
      c.joined m.state after.state _ (serve p.0 p.1 m.state) (more p after)

  pub pass : (k : ℕ) (last : ℕ × ℕ) (m : Moved) → R m.state (passed k last m).state
  unfolding passed
  pass zero last m = same R c m.state
  pass (suc k) last m = pass_on (passed k) (step.next_served last m.state) m (pass k)

  -- rounds until nothing moves
  pub one_round : (s : StateSeen) → R s (settling.round s).state
  one_round s =
      let t : StateSeen = (step.round_made s).state in
      c.joined s t _ (make_round s) (pass settling.most (0, 0) (settling.stays t))

  rounds_on : (further : StateSeen → StateSeen) (m : Moved) → ((s : StateSeen) → R s (further s)) → R m.state (settling.rounds_on further m)
  rounds_on further m more = either R c m.moved m.state (further m.state) m.state (more m.state) (same R c m.state)

  pub all_rounds : (k : ℕ) (s : StateSeen) → R s (rounds k s)
  unfolding rounds
  all_rounds zero s = same R c s
  all_rounds (suc k) s =
      let m : Moved = settling.round s in
      c.joined s m.state _ (one_round s) (rounds_on (rounds k) m (all_rounds k))

  pub settle : (s : StateSeen) → Configures R → R s (settling.settled s)
  settle s f =
      let t : StateSeen = clocked s in
      let u : StateSeen = net_settled t in
      let v : StateSeen = unconfigured_served u in
      c.joined s t _ (clock s) (c.joined t u _ (settle_net t) (c.joined u v _ (serve_unconfigured u f) (all_rounds settling.most v)))

  -- a whole step, from where it begins
  pub walked : (entry moment word : ℕ) (e : Event) (old new : StateSeen) (r : Reply) → Configures R → Gone R e → applying.Stepped entry moment word e old new r → R (applying.begun_at entry moment word old) new
  walked entry moment word e old new r f k h =
      let s : StateSeen = applying.begun_at entry moment word old in
      let t : StateSeen = overdue_ended s in
      let settles : R h.answered new = subst (λ (x : StateSeen). R h.answered x) (sym h.settles) (settle h.answered f) in
      c.joined s t new (overdue R c s) (c.joined t h.answered new (answered (applying.refusal_of e t) e t h.answered r k h.answers) settles)
