use Rattle.std.proofs.Common.{refl}
use Rattle.live_pump.proofs.PumpLaws.{pumps_out_nothing, pumps_out_written}
use Rattle.live_pump.proofs.pumps.drain_out.Goals as goal

pub returns-in-Ok-clause-posted : goal.returns-in-Ok-clause-posted
returns-in-Ok-clause-posted g c = pumps_out_written _ _ _ _ _ _ _ _ _ _ (record { made = c.post-came.ensures.made; errors = c.post-came.ensures.errors }) c.in-Ok.ensures c.as_slice.ensures c.write_out.ensures.posted

pub returns-in-Err-clause-posted : goal.returns-in-Err-clause-posted
returns-in-Err-clause-posted g c = pumps_out_nothing _ _ _ _ _ _ (record { made = c.post-came.ensures.made; errors = c.post-came.ensures.errors }) c.in-Err.ensures (record { taken = refl; faults = refl }) (record { made = refl; errors = refl; last = refl })
