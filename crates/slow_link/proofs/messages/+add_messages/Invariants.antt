use Rattle.slow_link.proofs.messages.+add_messages.Given as goal

-- one message less
abbrev pub decreases-add_messages : goal.decreases-add_messages
decreases-add_messages l = l.most
