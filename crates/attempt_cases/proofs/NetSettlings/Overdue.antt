-- A connection that took too long stirs no line: its subchannel has no link then, and no attempt is on the link that is given up.
use Rattle.std.proofs.Common.{◌≡◌, ◌&&◌, ◌==◌, ◌||◌, ap, refl, subst, sym, ◌∙◌, Bool, true, false, List, [], None, Option, Some, ℕ, if◌then◌else◌, is_some, not}
use Rattle.std.proofs.lemmas.Bool.{eqb-false, eqb-true}
use Rattle.std.specs.Option.{option_map, option_map_or, option_or}
use Rattle.std.specs.Prelude.{option_and_then}
use Rattle.attempt_ledger.specs.declared.row.Placed.{Placed}
use Rattle.grpc_base.specs.declared.event.Conn.TheVariants as conn
use Rattle.channel_actions.specs.PrefacedLinks.Joined.{PrefacedLinksAreJoined}
use Rattle.channel_actions.proofs.BoardActions.Boards.{subbed}
use Rattle.attempt_cases.proofs.NetSteps.Subbed.{subbed_links, subbed_subs}
use Rattle.session_actions.specs.AttemptEnds.{lost_end, outcome_on}
use Rattle.session_actions.specs.Attempts.{is_outstanding, is_over}
use Rattle.session_actions.specs.Links.{has_settings, link_of, link_over, wants_resolution}
use Rattle.session_actions.specs.Policies.{is_shutdown}
use Rattle.session_actions.specs.Responses.{no_response, response, response_by, response_on}
use Rattle.session_actions.specs.Subchannels.{connect_timed_out, is_connecting, is_going_down, link_timed_out, noted_by_policies, with_sub, without_link}
use Rattle.session_actions.specs.Words.{changed, changed_if, holds, numbered}
use Rattle.session_actions.specs.declared.attempt.Attempt.{Attempt}
use Rattle.session_actions.specs.declared.entry.OpenEntry.{OpenEntry}
use Rattle.session_actions.specs.declared.link.Link.{Link}
use Rattle.session_actions.specs.declared.link.LinkOver.TheVariants as over
use Rattle.session_actions.specs.declared.response.Outcome.{Outcome}
use Rattle.session_actions.specs.declared.response.Response.{Response}
use Rattle.session_actions.specs.declared.seen.Seen.{Seen}
use Rattle.session_actions.specs.declared.subchannel.Subchannel.{Subchannel}
use Rattle.session_order.proofs.Boards.{StaysLive, connecting_live, same_sub, with_sub_still}
use Rattle.session_order.proofs.Changed.{changed_away, changed_map, passes_not}
use Rattle.session_order.proofs.Limits.{then_same}
use Rattle.session_order.proofs.Lists.{any_in}
use Rattle.session_order.proofs.Overs.{over_still}
use Rattle.session_order.proofs.Posts.{wanted_still}
use Rattle.session_order.specs.Quiescent as order
use Rattle.session_order.specs.Quiescent.{IsStill, is_link_new, is_to_end}
use Rattle.session_order.specs.declared.line.Line.{Line}
use Rattle.session_order.specs.declared.line.Line.TheVariants as line

-- the link of a subchannel, and what it is given up with
abbrev pub fails : Subchannel → Subchannel
fails b = without_link conn.Failure b

abbrev pub gives_up : Link → Link
gives_up l = record l { over = Some over.TimedOut }

fails_live : (s : Seen) (n : ℕ) (b : Subchannel) → numbered s.subs n ≡ Some b → is_connecting b.state ≡ true → StaysLive s n fails
fails_live s n b e connects = record {
  address = λ c. refl;
  shut = λ c f. sym (ap (λ (x : Subchannel). is_shutdown x.state) (same_sub c b (numbered s.subs n) f e) ∙ connecting_live b.state connects);
  link = λ c f g. refl;
}

-- links that are changed beside
beside_by : (L : List Link) (z : Seen) (n : ℕ) (o : Option Subchannel)
    → option_map_or (λ (b : Subchannel). noted_by_policies b (record z { subs = changed fails n z.subs; links = L })) o (record z { subs = changed fails n z.subs; links = L })
    ≡ record (option_map_or (λ (b : Subchannel). noted_by_policies b (record z { subs = changed fails n z.subs })) o (record z { subs = changed fails n z.subs })) { links = L }
beside_by L z n None = refl
beside_by L z n (Some b) = refl

beside : (L : List Link) (z : Seen) (n : ℕ) → with_sub fails n (record z { links = L }) ≡ record (with_sub fails n z) { links = L }
beside L z n = beside_by L z n (numbered (changed fails n z.subs) n)

and_no : (a b c : Bool) → a ≡ true → ((a && b) || c) ≡ false → b ≡ false
and_no true true c e h = absurd (cc)
and_no true false c e h = refl
and_no false b c e h = absurd (cc)

module _ (t : Seen) (o : OpenEntry) (n : ℕ) (b : Subchannel) (at : numbered t.subs n ≡ Some b) (connects : is_connecting b.state ≡ true) (joined : PrefacedLinksAreJoined t)
    (still : order.IsQuiescent o t) where
  abbrev v : Seen
  v = with_sub fails n (wants_resolution t)

  v_still : (l : Line) → IsStill l o v
  v_still l = with_sub_still (wants_resolution t) n fails (fails_live (wants_resolution t) n b at connects) l o (wanted_still t l o (still l))

  v_links : v.links ≡ t.links
  v_links = subbed_links fails n (wants_resolution t)

  v_subs : v.subs ≡ changed fails n t.subs
  v_subs = subbed_subs fails n (wants_resolution t)

  not_ready : (k : ℕ) (l : Link) → b.link ≡ Some k → numbered t.links k ≡ Some l → has_settings l ≡ false
  not_ready k l own there =
      and_no (is_connecting b.state) (has_settings l) (holds is_going_down (option_and_then (numbered t.links) b.link)) connects
      (sym (ap (λ (x : Option Link). (is_connecting b.state && holds has_settings x) || holds is_going_down (option_and_then (numbered t.links) b.link)) (ap (option_and_then (numbered t.links)) own ∙ there))
      ∙ passes_not (is_link_new t) t.subs n b (still line.Link) at)

  module _ (k : ℕ) (own : b.link ≡ Some k) (l : Link) (there : numbered t.links k ≡ Some l) where
    abbrev w : Seen
    w = link_over over.TimedOut k v

    away : (m : ℕ) → (m ≡ k → ⊥) → numbered w.links m ≡ numbered v.links m
    away m off = changed_away gives_up k m v.links off

    -- no other subchannel has it
    other_sub : (j : ℕ) (c : Subchannel) (d : Bool) → (j == n) ≡ d → numbered v.subs j ≡ Some c → c.link ≡ Some k → ⊥
    other_sub j c true is here has =
        let mine : numbered v.subs n ≡ Some (fails b) = ap (λ (bs : List Subchannel). numbered bs n) v_subs ∙ changed_map fails n t.subs ∙ ap (option_map fails) at in
        let same : numbered v.subs n ≡ Some c = ap (numbered v.subs) (sym (eqb-true j n is)) ∙ here in
        let one : fails b ≡ c = same_sub (fails b) c (numbered v.subs n) mine same in
        let none : None ≡ Some k = ap (λ (x : Subchannel). x.link) one ∙ has in absurd (cc)
    other_sub j c false is here has =
        let theirs : numbered t.subs j ≡ Some c = sym (changed_away fails n j t.subs (eqb-false j n is)) ∙ ap (λ (bs : List Subchannel). numbered bs j) (sym v_subs) ∙ here in
        eqb-false j n is (sym (joined.own j k c l theirs has there) ∙ joined.own n k b l at own there)

    sub_by : (j : ℕ) (c : Subchannel) → numbered v.subs j ≡ Some c → (p : Option ℕ) → c.link ≡ p → option_and_then (numbered w.links) p ≡ option_and_then (numbered v.links) p
    sub_by j c here None has = refl
    sub_by j c here (Some m) has = away m (λ e. other_sub j c (j == n) refl here (has ∙ ap (λ (i : ℕ). Some i) e))

    link_one : (j : ℕ) (c : Subchannel) → numbered v.subs j ≡ Some c → is_link_new w c ≡ is_link_new v c
    link_one j c here =
        ap (λ (x : Option Link). (is_connecting c.state && holds has_settings x) || holds is_going_down x) (sub_by j c here c.link refl)

    -- no attempt is on it
    rows : v.attempts ≡ t.attempts
    rows = ap (λ (z : Seen). z.attempts) (subbed fails n (wants_resolution t))

    off_link : (row : ℕ) (a : Attempt) (p : Placed) → numbered v.attempts row ≡ Some a → a.row.placed ≡ Some p → p.link ≡ k → ⊥
    off_link row a p here placed is =
        let came : has_settings l ≡ true
        = joined.prefaced row a p l (ap (λ (xs : List Attempt). numbered xs row) (sym rows) ∙ here) placed (ap (numbered t.links) is ∙ there) in
        let bad : true ≡ false = sym came ∙ not_ready k l own there in absurd (cc)

    placed_by : (row : ℕ) (a : Attempt) → numbered v.attempts row ≡ Some a → (p : Option Placed) → a.row.placed ≡ p
        → option_and_then (λ (q : Placed). numbered w.links q.link) p ≡ option_and_then (λ (q : Placed). numbered v.links q.link) p
    placed_by row a here None is = refl
    placed_by row a here (Some q) is = away q.link (off_link row a q here is)

    same_link : (row : ℕ) (a : Attempt) → numbered v.attempts row ≡ Some a → link_of a w ≡ link_of a v
    same_link row a here = placed_by row a here a.row.placed refl

    response_one : (row : ℕ) (a : Attempt) → numbered v.attempts row ≡ Some a → (p : Option ℕ) → response_by a w p ≡ response_by a v p
    response_one row a here None = refl
    response_one row a here (Some stream) = ap (λ (x : Option Link). option_map_or (response_on a stream v) x no_response) (same_link row a here)

    outcome_one : (a : Attempt) → response a w ≡ response a v → (p : Option ℕ) (m : Link) → outcome_on a w p m ≡ outcome_on a v p m
    outcome_one a same None m = refl
    outcome_one a same (Some stream) m = ap (λ (r : Response). option_or r.end (if is_some m.over then Some lost_end else None)) same

    end_one : (row : ℕ) (a : Attempt) → numbered v.attempts row ≡ Some a → is_to_end w a ≡ is_to_end v a
    end_one row a here =
        ap (λ (x : Option Outcome). (is_outstanding a && not (is_over a v)) && is_some x)
        (ap (option_and_then (outcome_on a w a.row.stream)) (same_link row a here)
        ∙ then_same (outcome_on a w a.row.stream) (outcome_on a v a.row.stream) (outcome_one a (response_one row a here a.row.stream) a.row.stream) (link_of a v))

    w_still : (l : Line) → IsStill l o w
    w_still line.Link = any_in (is_link_new w) (is_link_new v) v.subs link_one ∙ v_still line.Link
    w_still line.WireEnd = any_in (is_to_end w) (is_to_end v) v.attempts end_one ∙ v_still line.WireEnd
    w_still line.Cut = over_still v k over.TimedOut line.Cut o refl (v_still line.Cut)
    w_still line.Transparent = over_still v k over.TimedOut line.Transparent o refl (v_still line.Transparent)
    w_still line.Inherited = over_still v k over.TimedOut line.Inherited o refl (v_still line.Inherited)
    w_still line.Row = over_still v k over.TimedOut line.Row o refl (v_still line.Row)
    w_still line.Final = over_still v k over.TimedOut line.Final o refl (v_still line.Final)
    w_still line.Cancelled = over_still v k over.TimedOut line.Cancelled o refl (v_still line.Cancelled)
    w_still line.Request = over_still v k over.TimedOut line.Request o refl (v_still line.Request)
    w_still line.Overflow = over_still v k over.TimedOut line.Overflow o refl (v_still line.Overflow)
    w_still line.Head = over_still v k over.TimedOut line.Head o refl (v_still line.Head)
    w_still line.Response = over_still v k over.TimedOut line.Response o refl (v_still line.Response)
    w_still line.Pick = over_still v k over.TimedOut line.Pick o refl (v_still line.Pick)
    w_still line.Reset = over_still v k over.TimedOut line.Reset o refl (v_still line.Reset)
    w_still line.Shut = over_still v k over.TimedOut line.Shut o refl (v_still line.Shut)
    w_still line.Retire = over_still v k over.TimedOut line.Retire o refl (v_still line.Retire)
    w_still line.Begin = over_still v k over.TimedOut line.Begin o refl (v_still line.Begin)
    w_still line.Give = over_still v k over.TimedOut line.Give o refl (v_still line.Give)
    w_still line.Drop = over_still v k over.TimedOut line.Drop o refl (v_still line.Drop)
    w_still line.Add = over_still v k over.TimedOut line.Add o refl (v_still line.Add)

  -- what times out is this
  pub timed_none : b.link ≡ None → connect_timed_out n t ≡ v
  timed_none none =
      ap (λ (x : Option Subchannel). with_sub fails n (wants_resolution (option_map_or (λ (c : Subchannel). link_timed_out c t) x t))) at
      ∙ ap (λ (p : Option ℕ). with_sub fails n (wants_resolution (option_map_or (λ (k : ℕ). link_over over.TimedOut k t) p t))) none

  pub timed_some : (k : ℕ) → b.link ≡ Some k → connect_timed_out n t ≡ link_over over.TimedOut k v
  timed_some k own =
      ap (λ (x : Option Subchannel). with_sub fails n (wants_resolution (option_map_or (λ (c : Subchannel). link_timed_out c t) x t))) at
      ∙ ap (λ (p : Option ℕ). with_sub fails n (wants_resolution (option_map_or (λ (k : ℕ). link_over over.TimedOut k t) p t))) own
      ∙ beside (changed gives_up k t.links) (wants_resolution t) n
      ∙ ap (λ (ls : List Link). record v { links = changed gives_up k ls }) (sym v_links)

  pub none_still : b.link ≡ None → order.IsQuiescent o (connect_timed_out n t)
  none_still none l = subst (IsStill l o) (sym (timed_none none)) (v_still l)

  pub some_still : (k : ℕ) (own : b.link ≡ Some k) (l : Link) → numbered t.links k ≡ Some l → order.IsQuiescent o (connect_timed_out n t)
  some_still k own l there x = subst (IsStill x o) (sym (timed_some k own)) (w_still k own l there x)
