use Rattle.control_link.proofs.sending.+send_pending.Given as goal

abbrev pub decreases-send_pending : goal.decreases-send_pending
decreases-send_pending g l = l.left
