use Rattle.std.proofs.Common.{inl, inr, refl, sym, ap, ◌∙◌}
use Rattle.live_pump.specs.Runs.{end_of}
use Rattle.live_pump.proofs.HandleLaws.{same_handle}
use Rattle.live_pump.proofs.rounds.round.Goals as goal

pub returns-then-is_shut-clause-parts : goal.returns-then-is_shut-clause-parts
returns-then-is_shut-clause-parts g c = inl (record {
  view = c.glance-view.result;
  looks = record { shows = c.glance-view.ensures.looks.1; handle = same_handle _ _ _ _ _ _ c.glance-view.ensures.made c.glance-view.ensures.errors.0 c.glance-view.ensures.errors.1 };
  shut = c.is_shut.ensures.shut c.if-is_shut.true;
  tender = refl;
  dialer = refl;
  links = refl;
  ends = refl;
})

pub returns-in-Some-clause-parts : goal.returns-in-Some-clause-parts
returns-in-Some-clause-parts g c = inr (inl (record {
  view = c.glance-view.result;
  looked = c.glance-view.new.self;
  error = c.in-Some.error;
  looks = record { shows = c.glance-view.ensures.looks.1; handle = same_handle _ _ _ _ _ _ c.glance-view.ensures.made c.glance-view.ensures.errors.0 c.glance-view.ensures.errors.1 };
  open_still = sym c.is_shut.ensures.value ∙ c.if-is_shut.false;
  dials = c.in-Some.ensures.dialled;
  ends = refl;
}))

pub returns-in-Some-links_part-clause-parts : goal.returns-in-Some-links_part-clause-parts
returns-in-Some-links_part-clause-parts g c = inr (inr (inl (record {
  view = c.glance-view.result;
  looked = c.glance-view.new.self;
  dialled = record { site = record { post = c.dial_part.new.post; tender = c.dial_part.new.tender }; dialer = c.dial_part.new.dialer; links = c.dial_part.new.links.items };
  error = c.in-Some-links_part.error;
  looks = record { shows = c.glance-view.ensures.looks.1; handle = same_handle _ _ _ _ _ _ c.glance-view.ensures.made c.glance-view.ensures.errors.0 c.glance-view.ensures.errors.1 };
  open_still = sym c.is_shut.ensures.value ∙ c.if-is_shut.false;
  dials = c.in_default.ensures.dialled;
  turns = c.in-Some-links_part.ensures.turned;
  dialer = refl;
  ends = refl;
})))

pub returns-in-Ok-clause-parts : goal.returns-in-Ok-clause-parts
returns-in-Ok-clause-parts g c = inr (inr (inr (record {
  view = c.glance-view.result;
  looked = c.glance-view.new.self;
  dialled = record { site = record { post = c.dial_part.new.post; tender = c.dial_part.new.tender }; dialer = c.dial_part.new.dialer; links = c.dial_part.new.links.items };
  turned = record { post = c.links_part.new.post; tender = c.links_part.new.tender };
  looks = record { shows = c.glance-view.ensures.looks.1; handle = same_handle _ _ _ _ _ _ c.glance-view.ensures.made c.glance-view.ensures.errors.0 c.glance-view.ensures.errors.1 };
  open_still = sym c.is_shut.ensures.value ∙ c.if-is_shut.false;
  dials = c.in_default.ensures.dialled;
  turns = c.in_default-links_part.ensures.turned;
  ticks = (c.tick_if_due-ticked.ensures.posted.0, c.tick_if_due-ticked.ensures.posted.1, c.tick_if_due-ticked.result, c.tick_if_due-ticked.ensures.posted.2, c.tick_if_due-ticked.ensures.posted.3, c.tick_if_due-ticked.ensures.posted.4, sym (ap end_of c.in-Ok.is));
  tender = refl;
  dialer = refl;
})))

pub returns-in-Err-clause-parts : goal.returns-in-Err-clause-parts
returns-in-Err-clause-parts g c = inr (inr (inr (record {
  view = c.glance-view.result;
  looked = c.glance-view.new.self;
  dialled = record { site = record { post = c.dial_part.new.post; tender = c.dial_part.new.tender }; dialer = c.dial_part.new.dialer; links = c.dial_part.new.links.items };
  turned = record { post = c.links_part.new.post; tender = c.links_part.new.tender };
  looks = record { shows = c.glance-view.ensures.looks.1; handle = same_handle _ _ _ _ _ _ c.glance-view.ensures.made c.glance-view.ensures.errors.0 c.glance-view.ensures.errors.1 };
  open_still = sym c.is_shut.ensures.value ∙ c.if-is_shut.false;
  dials = c.in_default.ensures.dialled;
  turns = c.in_default-links_part.ensures.turned;
  ticks = (c.tick_if_due-ticked.ensures.posted.0, c.tick_if_due-ticked.ensures.posted.1, c.tick_if_due-ticked.result, c.tick_if_due-ticked.ensures.posted.2, c.tick_if_due-ticked.ensures.posted.3, c.tick_if_due-ticked.ensures.posted.4, sym (ap end_of c.in-Err.is));
  tender = refl;
  dialer = refl;
})))
