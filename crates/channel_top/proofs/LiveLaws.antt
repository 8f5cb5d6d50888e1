-- The report of a live run is that of a session that keeps the promise.
use Rattle.std.proofs.Common.{ℕ, Option, List, inl, inr}
use Rattle.lb_policy.specs.Table.{PolicySeen}
use Rattle.live_mode.specs.Live.{EndsLiveFull, IsLiveText, IsLived}
use Rattle.resolver_core.specs.AnyTargets.{authority_of}
use Rattle.channel_top.specs.Live.{EndsFullAsPromised, IsLivedAsPromised, IsPromisedLiveText}
use Rattle.channel_top.specs.Promise.{ChannelsKeepThePromise}
use Rattle.channel_top.proofs.Promised.{sessions_keep_the_promise}

pub lived_promised : ChannelsKeepThePromise → (policies : List PolicySeen) (held : List (Option (List (List ℕ)))) (left left' : Option (List ℕ)) (text : List ℕ) → IsLived policies held left left' text → IsLivedAsPromised policies held left left' text
lived_promised keep policies held left left' text lived = record {
  lived = lived;
  promise = sessions_keep_the_promise keep (authority_of lived.script.value) policies lived.report.events lived.report.journal lived.report.ledger lived.report.session;
}

pub full_promised : ChannelsKeepThePromise → (policies : List PolicySeen) (held : List (Option (List (List ℕ)))) (left left' : Option (List ℕ)) (text : List ℕ) → EndsLiveFull policies held left left' text → EndsFullAsPromised policies held left left' text
full_promised keep policies held left left' text ends = record {
  ends = ends;
  promise = sessions_keep_the_promise keep (authority_of ends.script.value) policies ends.report.events ends.report.journal ends.report.ledger ends.report.session;
}

pub text_promised : ChannelsKeepThePromise → (policies : List PolicySeen) (held : List (Option (List (List ℕ)))) (left left' : Option (List ℕ)) (text : List ℕ) → IsLiveText policies held left left' text → IsPromisedLiveText policies held left left' text
text_promised keep policies held left left' text (inl (inl lived)) = inl (inl (lived_promised keep policies held left left' text lived))
text_promised keep policies held left left' text (inl (inr ends)) = inl (inr (full_promised keep policies held left left' text ends))
text_promised keep policies held left left' text (inr bad) = inr bad
