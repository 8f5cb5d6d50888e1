-- A subchannel that becomes READY or loses its link, and a channel that is shut down.
use Rattle.std.proofs.Common.{◌≡◌, ap, refl, sym, ◌∙◌, Bool, true, false, None, Some, ℕ, if◌then◌else◌}
use Rattle.std.proofs.lemmas.Bool.{or_parts}
use Rattle.lb_policy.specs.Table.{is_ready}
use Rattle.session_actions.specs.Policies.{is_shutdown}
use Rattle.session_actions.specs.Subchannels.{gone_down, is_connecting, is_to_be_ready, is_to_go_down, with_sub, without_link}
use Rattle.session_actions.specs.Words.{numbered}
use Rattle.session_actions.specs.declared.entry.OpenEntry.{OpenEntry}
use Rattle.session_actions.specs.declared.seen.Seen.{Seen}
use Rattle.session_actions.specs.declared.subchannel.Subchannel.{Subchannel}
use Rattle.session_order.proofs.Aside.{aside_final, aside_request}
use Rattle.session_order.proofs.Boards.{StaysLive, connecting_live, goes_on, same_sub, with_sub_current, with_sub_still}
use Rattle.session_order.proofs.Posts.{IsPlain, plain_answered, plain_as}
use Rattle.session_order.specs.Quiescent.{IsStill, is_link_new}
use Rattle.session_order.specs.Laws.{StirsOnly}
use Rattle.session_order.specs.Stirs.{stirs}
use Rattle.session_order.specs.declared.line.Line.{Line}
use Rattle.session_actions.specs.declared.action.Action.TheVariants as action
use Rattle.grpc_base.specs.declared.event.Conn.TheVariants as conn
use Rattle.grpc_base.specs.declared.event.Event.TheVariants as event
use Rattle.session_order.specs.declared.line.Line.TheVariants as line
use Rattle.grpc_base.specs.declared.event.Reply.TheVariants as reply

abbrev made_ready : Subchannel → Subchannel
made_ready b = record b { state = conn.Ready; dials = 0; until = None }

ready_live : (s : Seen) (n : ℕ) (b : Subchannel) → numbered s.subs n ≡ Some b → is_connecting b.state ≡ true → StaysLive s n made_ready
ready_live s n b e connecting = record {
  address = λ c. refl;
  shut = λ c f. sym (ap (λ (x : Subchannel). is_shutdown x.state) (same_sub c b (numbered s.subs n) f e) ∙ connecting_live b.state connecting);
  link = λ c f g. (or_parts (is_to_be_ready s c) (is_to_go_down s c) g).1;
}

pub ready_leaves : (sub : ℕ) → StirsOnly (action.SettingsArrive sub)
ready_leaves sub o s e fits l p is not_stirred h =
    goes_on o (with_sub made_ready sub s) (with_sub_current s sub made_ready ∙ e) l
    (with_sub_still s sub made_ready (ready_live s sub fits.0 fits.1 fits.2) l o h) p is

down_live_by : (b : Bool) → is_shutdown (if b then conn.Idle else conn.Failure) ≡ false
down_live_by true = refl
down_live_by false = refl

no_link_new : (s : Seen) (c : Subchannel) (b : Bool) → is_link_new s (without_link (if b then conn.Idle else conn.Failure) c) ≡ false
no_link_new s c true = refl
no_link_new s c false = refl

down_live : (s : Seen) (n : ℕ) (b : Subchannel) → numbered s.subs n ≡ Some b → is_shutdown b.state ≡ false → StaysLive s n gone_down
down_live s n b e live = record {
  address = λ c. refl;
  shut = λ c f.
      down_live_by (is_ready c.state) ∙ sym (ap (λ (x : Subchannel). is_shutdown x.state) (same_sub c b (numbered s.subs n) f e) ∙ live);
  link = λ c f g. no_link_new s c (is_ready c.state);
}

pub down_leaves : (sub : ℕ) → StirsOnly (action.LinkDown sub)
down_leaves sub o s e fits l p is not_stirred h =
    goes_on o (with_sub gone_down sub s) (with_sub_current s sub gone_down ∙ e) l
    (with_sub_still s sub gone_down (down_live s sub fits.0 fits.1 fits.2) l o h) p is

-- the channel is shut down
shut_still : (s : Seen) (l : Line) (o : OpenEntry) → stirs action.ChannelShuts l ≡ false → IsStill l o s → IsStill l o (record s { shut = true })
shut_still s line.Cut o e h = h
shut_still s line.Transparent o e h = h
shut_still s line.Inherited o e h = h
shut_still s line.Row o e h = h
shut_still s line.Final o e h = aside_final s (record s { shut = true }) ∙ h
shut_still s line.Cancelled o e h = h
shut_still s line.Request o e h = aside_request o s (record s { shut = true }) ∙ h
shut_still s line.Overflow o e h = h
shut_still s line.Head o e h = h
shut_still s line.Response o e h = h
shut_still s line.Pick o e h = h
shut_still s line.Link o e h = h
shut_still s line.WireEnd o e h = h
shut_still s line.Reset o e h = h
shut_still s line.Shut o e h = absurd (cc)
shut_still s line.Retire o e h = absurd (cc)
shut_still s line.Begin o e h = h
shut_still s line.Give o e h = h
shut_still s line.Drop o e h = h
shut_still s line.Add o e h = h

plain_shutdown : IsPlain event.Shutdown
plain_shutdown = record { cancels = λ call. refl; sends = λ c s. refl; addresses = refl }

pub shut_leaves : StirsOnly action.ChannelShuts
shut_leaves o s e fits l p is not_stirred h =
    plain_answered reply.Done o (record s { shut = true }) e (plain_as o.event event.Shutdown fits plain_shutdown) l (shut_still s l o not_stirred h) p is
