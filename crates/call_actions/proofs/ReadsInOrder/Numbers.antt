-- The links of a session have the numbers of their places.
use Rattle.attempt_ledger.specs.Numbering.{is_transparent}
use Rattle.grpc_base.specs.declared.event.Conn.TheVariants as conn
use Rattle.grpc_base.specs.declared.event.Event.TheVariants as event
use Rattle.grpc_base.specs.declared.event.Event.{Event}
use Rattle.h2_frame.specs.Sent.{rst_stream_frame}
use Rattle.session_actions.specs.Actions.{after_if, after_in}
use Rattle.session_actions.specs.AttemptEnds.{attempt_ended, stream_reset_of}
use Rattle.session_actions.specs.Attempts.{with_attempt}
use Rattle.session_actions.specs.Calls.{marked}
use Rattle.session_actions.specs.Closing.{noted_gone}
use Rattle.session_actions.specs.Commitments.{call_committed, with_commitment}
use Rattle.session_actions.specs.Configs.{config_read}
use Rattle.session_actions.specs.Deliveries.{call_begun_by}
use Rattle.session_actions.specs.Entries.{entry, opened}
use Rattle.session_actions.specs.Links.{link_number, link_over, stream_number, wants_resolution}
use Rattle.session_actions.specs.Making.{attempt_made, new_row, with_row}
use Rattle.session_actions.specs.Policies.{addresses_given, addresses_in, attempt_placed, current_policy, policy_took_over, with_placing}
use Rattle.session_actions.specs.Refusals.{is_gone}
use Rattle.session_actions.specs.Subchannels.{dial_failed, dial_taken, gone_down, in_state, link_timed_out, new_link, settings_arrived, without_link}
use Rattle.session_actions.specs.Words.{changed, numbered}
use Rattle.session_actions.specs.Writing.{frame_read_on, frame_written_on, owed_for, ping_of, with_frame_read, with_piece}
use Rattle.session_actions.specs.declared.action.Action.TheVariants as action
use Rattle.session_actions.specs.declared.action.Action.{Action}
use Rattle.session_actions.specs.declared.attempt.Attempt.{Attempt}
use Rattle.session_actions.specs.declared.call.MarkKind.TheVariants as mark
use Rattle.session_actions.specs.declared.entry.OpenEntry.{OpenEntry}
use Rattle.session_actions.specs.declared.link.Link.{Link}
use Rattle.session_actions.specs.declared.link.LinkOver.TheVariants as over
use Rattle.session_actions.specs.declared.link.ReadFrame.{ReadFrame}
use Rattle.session_actions.specs.declared.link.Sent.{Sent}
use Rattle.session_actions.specs.declared.link.Traffic.TheVariants as traffic
use Rattle.session_actions.specs.declared.seen.Seen.{Seen}
use Rattle.session_actions.specs.declared.subchannel.Subchannel.{Subchannel}
use Rattle.session_actions.specs.Words.{changed_if}
use Rattle.std.proofs.Common.{arith, Bool, List, None, Option, Some, [], false, if◌then◌else◌, is_none, length, map, refl, slice_get, slice_set, suc, sym, true, zero, ℕ, ◌&&◌, ◌++◌, ◌+◌, ◌∙◌, ◌∷◌, ◌≡◌, ap, subst}
use Rattle.std.specs.Option.{option_map_or}
use Rattle.call_actions.proofs.ReadsInOrder.Order.{frames_come_after, links_of_addresses, links_of_config, links_of_dial, links_of_end, links_of_event, links_of_mark, links_of_opened, links_of_policy, links_of_sub, links_of_turn}
use Rattle.call_actions.specs.ReadsInOrder.Laws.{LinksAreNumbered, LinksBegin, LinksStay, NextReadsOn}

set_links : (f : Link → Link) → ((l : Link) → (f l).number ≡ l.number) → (n : ℕ) (xs : List Link) (i : ℕ) (x : Link) → LinksAreNumbered n xs → slice_get xs i ≡ Some x → LinksAreNumbered n (slice_set xs i (f x))
set_links f k n [] i x e got = e
set_links f k n (y ∷ xs) zero x e got = let one : y ≡ x = (cc) in (k x ∙ ap (λ (l : Link). l.number) (sym one) ∙ e.0, e.1)
set_links f k n (y ∷ xs) (suc i) x e got = (e.0, set_links f k (suc n) xs i x e.1 got)

links_if : (f : Link → Link) → ((l : Link) → (f l).number ≡ l.number) → (xs : List Link) (i : ℕ) (o : Option Link) → LinksAreNumbered 1 xs → slice_get xs i ≡ o → LinksAreNumbered 1 (changed_if f (suc i) xs o)
links_if f k xs i None e got = e
links_if f k xs i (Some x) e got = set_links f k 1 xs i x e got

links_changed : (f : Link → Link) → ((l : Link) → (f l).number ≡ l.number) → (n : ℕ) (xs : List Link) → LinksAreNumbered 1 xs → LinksAreNumbered 1 (changed f n xs)
links_changed f k zero xs e = e
links_changed f k (suc i) xs e = links_if f k xs i (slice_get xs i) e refl

links_mapped : (f : Link → Link) → ((l : Link) → (f l).number ≡ l.number) → (n : ℕ) (xs : List Link) → LinksAreNumbered n xs → LinksAreNumbered n (map f xs)
links_mapped f k n [] e = e
links_mapped f k n (x ∷ xs) e = (k x ∙ e.0, links_mapped f k (suc n) xs e.1)

links_snoc : (n : ℕ) (xs : List Link) (y : Link) → LinksAreNumbered n xs → y.number ≡ n + length xs → LinksAreNumbered n (xs ++ y ∷ [])
links_snoc n [] y e at = (let here : y.number ≡ n = omega (arith, at) in (here, tt))
links_snoc n (x ∷ xs) y e at = let next : y.number ≡ suc n + length xs = omega (arith, at) in (e.0, links_snoc (suc n) xs y e.1 next)

number_from : (n i : ℕ) (xs : List Link) (l : Link) → LinksAreNumbered n xs → slice_get xs i ≡ Some l → l.number ≡ n + i
number_from n i [] l e got = absurd (cc)
number_from n zero (x ∷ xs) l e got = let one : x ≡ l = (cc) in let at : x.number ≡ n = e.0 in let same : l.number ≡ n = ap (λ (z : Link). z.number) (sym one) ∙ at in omega (arith, same)
number_from n (suc i) (x ∷ xs) l e got = let rest : l.number ≡ suc n + i = number_from (suc n) i xs l e.1 got in omega (arith, rest)

number_at : (k : ℕ) (xs : List Link) (l : Link) → LinksAreNumbered 1 xs → numbered xs k ≡ Some l → l.number ≡ k
number_at zero xs l e got = absurd (cc)
number_at (suc i) xs l e got = let at : l.number ≡ 1 + i = number_from 1 i xs l e got in omega (arith, at)

piece_keeps : (e : Event) (l : Link) → (with_piece e l).number ≡ l.number
piece_keeps (event.Arrived link piece) l = refl
piece_keeps _ l = refl

gone_if : (s : Seen) (l : Link) (b : Bool) → (if b then record l { gone = Some (entry s) } else l).number ≡ l.number
gone_if s l true = refl
gone_if s l false = refl

abbrev AreNumberedIn : Seen → Type 0
AreNumberedIn t = LinksAreNumbered 1 t.links

module _ (s : Seen) (e : LinksAreNumbered 1 s.links) where
  same_then : (t : Seen) → t.links ≡ s.links → LinksAreNumbered 1 t.links
  same_then t f = subst (LinksAreNumbered 1) (sym f) e

  kept_then : (f : Link → Link) → ((l : Link) → (f l).number ≡ l.number) → (n : ℕ) → LinksAreNumbered 1 (changed f n s.links)
  kept_then f k n = links_changed f k n s.links e

  over_by : (o : Option ℕ) → AreNumberedIn (option_map_or (λ (link : ℕ). link_over over.TimedOut link s) o s)
  over_by None = e
  over_by (Some n) = kept_then (λ (l : Link). record l { over = Some over.TimedOut }) (λ l. refl) n

  timed_out_by : (o : Option Subchannel) → AreNumberedIn (option_map_or (λ (b : Subchannel). link_timed_out b s) o s)
  timed_out_by None = e
  timed_out_by (Some b) = over_by b.link

  reset_by : (number : ℕ) (o : Option Attempt) → AreNumberedIn (option_map_or (stream_reset_of number s) o s)
  reset_by number None = e
  reset_by number (Some q) = kept_then (λ (l : Link). record l { owed = l.owed ++ rst_stream_frame (stream_number q) number ∷ [] }) (λ l. refl) (link_number q)

  read_by : (r : ReadFrame) (o : Option Link) → AreNumberedIn (option_map_or (frame_read_on r s) o s)
  read_by r None = e
  read_by r (Some l) = kept_then (with_frame_read r (owed_for r.frame l s)) (λ k. refl) l.number

  written_by : (x : Sent) (o : Option Link) → AreNumberedIn (option_map_or (frame_written_on x s) o s)
  written_by x None = e
  written_by x (Some l) =
      subst (λ (ls : List Link). LinksAreNumbered 1 (changed (λ (k : Link). record k { traffic = k.traffic ++ traffic.Written x ∷ [] }) l.number ls)) (sym (links_of_opened x l s))
      (kept_then (λ (k : Link). record k { traffic = k.traffic ++ traffic.Written x ∷ [] }) (λ k. refl) l.number)

  up_number : length s.links + 1 ≡ 1 + length s.links
  up_number = omega arith

  act : (o : OpenEntry) (x : Action) → AreNumberedIn (after_in o x s)
  act o action.CallBegins = same_then (call_begun_by o.event s) (links_of_event o.event s)
  act o (action.ConfigRead x) = same_then (config_read x s) (links_of_config x s)
  act o (action.AttemptMade n number k due) = same_then (attempt_made n number k due s) (links_of_turn (is_transparent k) (marked (mark.Made (length s.attempts + 1)) n (with_row (new_row n number k due) s)))
  act o (action.AttemptPlaced row where_to) =
      same_then (attempt_placed row where_to s) (links_of_mark (with_attempt (with_placing where_to) row s) (mark.Placed row) (numbered (with_attempt (with_placing where_to) row s).attempts row))
  act o (action.AttemptEnds row e) = same_then (attempt_ended row e s) (links_of_end s e (numbered s.attempts row))
  act o (action.CallCommitted row why) =
      same_then (call_committed row s) (links_of_mark (with_attempt (with_commitment (entry s)) row s) mark.Committed (numbered (with_attempt (with_commitment (entry s)) row s).attempts row))
  act o (action.StreamReset row number) = reset_by number (numbered s.attempts row)
  act o action.EntryCloses = links_mapped (noted_gone s) (λ l. gone_if s l (is_none l.gone && is_gone l s)) 1 s.links e
  act o (action.AddressesGiven g) = same_then (addresses_given g o.event s) (links_of_addresses g s (addresses_in o.event))
  act o (action.PolicyTakesOver g) = same_then (policy_took_over g s) (links_of_policy s (current_policy s))
  act o (action.SubchannelShut sub) = same_then (after_in o (action.SubchannelShut sub) s) (links_of_sub (without_link conn.Shutdown) sub s)
  act o (action.SubchannelConnects sub) = same_then (after_in o (action.SubchannelConnects sub) s) (links_of_sub (in_state conn.Connecting) sub s)
  act o (action.DialTaken sub again until) = same_then (dial_taken sub again until s) (links_of_dial again until s (numbered s.subs sub))
  act o (action.DialFails sub) = same_then (dial_failed sub s) (links_of_sub (without_link conn.Failure) sub (wants_resolution s))
  act o (action.ConnectTimesOut sub) =
      subst (LinksAreNumbered 1)
      (sym (links_of_sub (without_link conn.Failure) sub (wants_resolution (option_map_or (λ (b : Subchannel). link_timed_out b s) (numbered s.subs sub) s)))) (timed_out_by (numbered s.subs sub))
  act o (action.BackoffEnds sub) = same_then (after_in o (action.BackoffEnds sub) s) (links_of_sub (in_state conn.Idle) sub s)
  act o (action.LinkUp sub) =
      subst (LinksAreNumbered 1)
      (sym (links_of_sub (λ (b : Subchannel). record b { link = Some (length s.links + 1) }) sub (record s { links = s.links ++ new_link (length s.links + 1) sub s ∷ [] })))
      (links_snoc 1 s.links (new_link (length s.links + 1) sub s) e up_number)
  act o (action.SettingsArrive sub) = same_then (settings_arrived sub s) (links_of_sub (λ (b : Subchannel). record b { state = conn.Ready; dials = 0; until = None }) sub s)
  act o (action.LinkDown sub) = same_then (after_in o (action.LinkDown sub) s) (links_of_sub gone_down sub s)
  act o (action.BytesArrive link) = kept_then (with_piece o.event) (piece_keeps o.event) link
  act o (action.FrameRead link r) = read_by r (numbered s.links link)
  act o (action.FrameWritten link x) = written_by x (numbered s.links link)
  act o (action.LinkBreaks link number) = kept_then (λ (l : Link). record l { over = Some over.Broken }) (λ l. refl) link
  act o (action.LinkLost link) = kept_then (λ (l : Link). record l { over = Some over.Lost }) (λ l. refl) link
  act o (action.PingQueued link) = kept_then (λ (l : Link). record l { owed = l.owed ++ ping_of o.event }) (λ l. refl) link
  act o x = same_then (after_in o x s) refl

  act_if : (o : Option OpenEntry) (x : Action) → AreNumberedIn (after_if o x s)
  act_if (Some o) x = act o x
  act_if None (action.EntryOpens posted word e) = same_then (opened posted word e s) refl
  act_if None x = same_then s refl

pub links_stay : LinksStay
links_stay s x e = act_if s e s.current x

pub links_begin : LinksBegin
links_begin setup = tt

pub next_reads_on : NextReadsOn
next_reads_on s link r e shown = λ l got. (number_at link s.links l e got, frames_come_after s link l r got shown)
