-- The report of a relay is that of a session that keeps the promise.
use Rattle.std.proofs.Common.{ℕ, Option, List, inl, inr}
use Rattle.lb_policy.specs.Table.{PolicySeen}
use Rattle.relay_mode.specs.Relayed.{EndsRelayFull, IsRelayText, IsRelayed}
use Rattle.resolver_core.specs.AnyTargets.{authority_of}
use Rattle.channel_top.specs.Promise.{ChannelsKeepThePromise}
use Rattle.channel_top.specs.Relay.{EndsRelayAsPromised, IsPromisedRelayText, IsRelayedAsPromised}
use Rattle.channel_top.proofs.Promised.{sessions_keep_the_promise}

pub relayed_promised : ChannelsKeepThePromise → (policies : List PolicySeen) (held : List (Option (List (List ℕ)))) (links : ℕ) (left left' : Option (List ℕ)) (text : List ℕ) → IsRelayed policies held links left left' text → IsRelayedAsPromised policies held links left left' text
relayed_promised keep policies held links left left' text relayed = record {
  relayed = relayed;
  promise = sessions_keep_the_promise keep (authority_of relayed.script.value) policies relayed.report.events relayed.report.journal relayed.report.ledger relayed.report.session;
}

pub relay_full_promised : ChannelsKeepThePromise → (policies : List PolicySeen) (held : List (Option (List (List ℕ)))) (links : ℕ) (left left' : Option (List ℕ)) (text : List ℕ) → EndsRelayFull policies held links left left' text → EndsRelayAsPromised policies held links left left' text
relay_full_promised keep policies held links left left' text ends = record {
  ends = ends;
  promise = sessions_keep_the_promise keep (authority_of ends.script.value) policies ends.report.events ends.report.journal ends.report.ledger ends.report.session;
}

pub relay_text_promised : ChannelsKeepThePromise → (policies : List PolicySeen) (held : List (Option (List (List ℕ)))) (links : ℕ) (left left' : Option (List ℕ)) (text : List ℕ) → IsRelayText policies held links left left' text → IsPromisedRelayText policies held links left left' text
relay_text_promised keep policies held links left left' text (inl (inl relayed)) = inl (inl (relayed_promised keep policies held links left left' text relayed))
relay_text_promised keep policies held links left left' text (inl (inr ends)) = inl (inr (relay_full_promised keep policies held links left left' text ends))
relay_text_promised keep policies held links left left' text (inr bad) = inr bad
