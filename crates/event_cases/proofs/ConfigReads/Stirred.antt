-- What a config that is read stirs: the lines of policies alone.
use Rattle.std.proofs.Common.{◌≡◌, ◌&&◌, ◌++◌, ◌+◌, ◌∷◌, ap, append-nil, refl, subst, sym, ◌∙◌, Bool, true, false, Err, List, [], None, Ok, Option, Result, Some, ℕ, length}
use Rattle.std.specs.Option.{option_map}
use Rattle.call_actions.specs.CallsApart.Apart.{IsBook}
use Rattle.event_cases.proofs.ConfigReads.After.{longer}
use Rattle.event_cases.proofs.ConfigReads.Still.{longer_still}
use Rattle.event_cases.specs.ConfigReads.Laws.{ReadsStirPolicies}
use Rattle.attempt_cases.specs.NetChains.Chains.{IsApartQuiescent}
use Rattle.grpc_base.specs.declared.address.Address.{Address}
use Rattle.grpc_base.specs.declared.event.ConfigFault.{ConfigFault}
use Rattle.grpc_base.specs.declared.event.Event.TheVariants as event
use Rattle.grpc_base.specs.declared.event.Event.{Event}
use Rattle.grpc_base.specs.declared.event.Reply.TheVariants as reply
use Rattle.grpc_base.specs.declared.event.Reply.{Reply}
use Rattle.grpc_base.specs.declared.plan.Throttle.{Throttle}
use Rattle.service_config.specs.declared.config.Config.{Config}
use Rattle.session_actions.specs.CallEnds.{cancels, is_after_event, sends_too_long}
use Rattle.session_actions.specs.Configs.{config_read, resolver_answered, run_to_join, with_config, with_held, with_run, with_throttled}
use Rattle.session_actions.specs.Entries.{replied}
use Rattle.session_actions.specs.declared.call.Call.{Call}
use Rattle.session_actions.specs.declared.config.HeldConfig.{HeldConfig}
use Rattle.session_actions.specs.declared.config.ThrottleRun.{ThrottleRun}
use Rattle.session_actions.specs.declared.entry.OpenEntry.{OpenEntry}
use Rattle.session_actions.specs.declared.seen.Seen.{Seen}
use Rattle.session_order.proofs.Entered.{IsQuietFor, moved_on}
use Rattle.session_order.proofs.Posts.{answered_still, answered_with}
use Rattle.session_order.specs.Quiescent.{IsQuiescent, IsStill}
use Rattle.session_order.specs.Lines.{is_of_policies}
use Rattle.session_order.specs.declared.line.Line.TheVariants as line
use Rattle.session_order.specs.declared.line.Line.{Line}

-- what a session is once a config is held from now on: one config more, and maybe one run more
pub record IsLonger (config : Config) (s t : Seen) : Type 0 where
  pub held : HeldConfig
  pub more : List ThrottleRun
  pub is : t ≡ longer held more s
  pub config_is : held.config ≡ config

without_run : (config : Config) (run : Option ℕ) (s : Seen) → with_config config run s ≡ longer (record { config = config; run = run }) [] s
without_run config run s =
    ap (λ (l : List ThrottleRun). record s { configs = s.configs ++ record { config = config; run = run } ∷ []; runs = l }) (sym (append-nil s.runs))

throttled_by : (config : Config) (t : Throttle) (o : Option ℕ) (s : Seen) → IsLonger config s (with_throttled config t o s)
throttled_by config t (Some run) s = record { held = record { config = config; run = Some run }; more = []; is = without_run config (Some run) s; config_is = refl }
throttled_by config t None s =
    record { held = record { config = config; run = Some (length s.runs + 1) }; more = record { throttle = t; ends = [] } ∷ []; is = refl; config_is = refl }

pub held_by : (config : Config) (o : Option Throttle) (s : Seen) → IsLonger config s (with_held config o s)
held_by config None s = record { held = record { config = config; run = None }; more = []; is = without_run config None s; config_is = refl }
held_by config (Some t) s = throttled_by config t (run_to_join t s) s

and_off : (b : Bool) → (b && false) ≡ false
and_off true = refl
and_off false = refl

-- the event cancels no call and sends nothing
module _ (o : OpenEntry) (s : Seen) (addresses : List Address) (config : Option (List ℕ)) (current : s.current ≡ Some o) (brings : o.event ≡ event.Resolved addresses config)
    (quiescent : IsQuiescent o s) (r : Reply) where
  abbrev p : OpenEntry
  p = answered_with r o

  not_cancelled : (c : Call) → (is_after_event p && cancels p.event c.number) ≡ false
  not_cancelled c = ap (λ (e : Event). is_after_event p && cancels e c.number) brings ∙ and_off (is_after_event p)

  not_sent : (c : Call) → (is_after_event p && sends_too_long p.event c (resolver_answered s)) ≡ false
  not_sent c = ap (λ (e : Event). is_after_event p && sends_too_long e c (resolver_answered s)) brings ∙ and_off (is_after_event p)

  quiet : (l : Line) → is_of_policies l ≡ false → IsQuietFor l p (resolver_answered s)
  quiet line.Cut off = tt
  quiet line.Transparent off = tt
  quiet line.Inherited off = tt
  quiet line.Row off = tt
  quiet line.Final off = tt
  quiet line.Cancelled off = not_cancelled
  quiet line.Request off = not_sent
  quiet line.Overflow off = tt
  quiet line.Head off = tt
  quiet line.Response off = tt
  quiet line.Pick off = tt
  quiet line.Link off = tt
  quiet line.WireEnd off = tt
  quiet line.Reset off = tt
  quiet line.Shut off = tt
  quiet line.Retire off = absurd (cc)
  quiet line.Begin off = absurd (cc)
  quiet line.Give off = absurd (cc)
  quiet line.Drop off = absurd (cc)
  quiet line.Add off = absurd (cc)

  pub answered_apart : (q : OpenEntry) → option_map (answered_with r) s.current ≡ Some q → IsApartQuiescent q (replied r (resolver_answered s))
  answered_apart q is l off =
      moved_on (answered_with r) o (resolver_answered s) current l (quiet l off) (answered_still s l o (quiescent l)) q is

longer_apart : (config : Config) (q : OpenEntry) (u t : Seen) → IsLonger config u t → IsBook u → IsApartQuiescent q u → IsApartQuiescent q t
longer_apart config q u t k book quiescent l off = subst (λ (v : Seen). IsStill l q v) (sym k.is) (longer_still u k.held k.more book l q off (quiescent l off))

pub longer_current : (config : Config) (u t : Seen) → IsLonger config u t → t.current ≡ u.current
longer_current config u t k = ap (λ (v : Seen). v.current) k.is

book_replied : (r : Reply) (s : Seen) → IsBook s → IsBook (replied r (resolver_answered s))
book_replied r s b = record { calls = b.calls; places = b.places; configs = b.configs; runs = b.runs; counted = b.counted }

pub reads_stir_policies : ReadsStirPolicies
reads_stir_policies (Ok config) o p s addresses text current brings book quiescent now =
    let u : Seen = replied reply.Done (resolver_answered s) in
    let k : IsLonger config u (with_held config config.throttle u) = held_by config config.throttle u in
    longer_apart config p u (with_held config config.throttle u) k (book_replied reply.Done s book)
    (answered_apart o s addresses text current brings quiescent reply.Done p (sym (longer_current config u (with_held config config.throttle u) k) ∙ now))
reads_stir_policies (Err fault) o p s addresses text current brings book quiescent now =
    answered_apart o s addresses text current brings quiescent (reply.BadConfig fault) p now
