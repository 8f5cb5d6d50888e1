-- The server's connection preface: its first SETTINGS are read, and the subchannel of the link becomes READY (RFC 9113, section 3.4; "gRPC Connectivity Semantics and
-- API"). Where that subchannel has the link no more, as after it was shut down, nothing follows.
-- Example: subchannel 1 is CONNECTING and has link 1, on which the first SETTINGS come. FrameRead; SettingsArrive 1. The net of the channel has subchannel 1 READY.
use Rattle.channel_actions.specs.PrefacedLinks.Prefaced.{LinksArePrefaced}
use Rattle.frame_cases.specs.FrameKinds.Laws.{Prefaces, IsOfKind}
use Rattle.frame_cases.specs.PieceWalks.Laws.{ReceivedOf}

-- (a READY subchannel has a link whose SETTINGS came: every session keeps this)
abbrev pub PrefacedFramesAreHandled : Type 0
PrefacedFramesAreHandled = ReceivedOf (λ link s a h. IsOfKind Prefaces link s a h × LinksArePrefaced s)
