-- Counts of faults that began earlier.
use Rattle.std.proofs.Common.{ℕ, ◌≤◌, List, arith}
use Rattle.std.specs.Prelude.{Option, Some, None}
use Rattle.vpn_base.specs.Answers.{Rose}
use Rattle.vpn_base.specs.Files.{Holding}
use Rattle.vpn_top.specs.declared.refusal.Refusal.{Refusal}
use Rattle.vpn_top.specs.declared.refusal.Refusal.TheVariants as refusals
use Rattle.vpn_top.specs.internal.Ends.{Ended}

pub rose_since : (earlier before after : ℕ) → earlier ≤ before → Rose before after → Rose earlier after
rose_since earlier before after falls rose = omega arith

-- an end says the same of counts from an earlier moment on
pub ended_since : (r : Option Refusal) (h : Holding) (before after : Option (List ℕ)) (files_earlier files_before files_after out_earlier out_before out_after : ℕ) →
    files_earlier ≤ files_before → out_earlier ≤ out_before →
    Ended r h before after (record { files_before = files_before; files_after = files_after; out_before = out_before; out_after = out_after }) →
    Ended r h before after (record { files_before = files_earlier; files_after = files_after; out_before = out_earlier; out_after = out_after })
ended_since None h before after fe fb fa oe ob oa files out end = end
ended_since (Some refusals.Usage) h before after fe fb fa oe ob oa files out end = end
ended_since (Some refusals.NotServer) h before after fe fb fa oe ob oa files out end = end
ended_since (Some (refusals.Schedule number kind)) h before after fe fb fa oe ob oa files out end = end
ended_since (Some refusals.TurnsSpent) h before after fe fb fa oe ob oa files out end = end
ended_since (Some (refusals.Line fault)) h before after fe fb fa oe ob oa files out end = end
ended_since (Some (refusals.Config number kind)) h before after fe fb fa oe ob oa files out end = end
ended_since (Some (refusals.Key fault)) h before after fe fb fa oe ob oa files out end = end
ended_since (Some refusals.Missing) h before after fe fb fa oe ob oa files out end = end
ended_since (Some refusals.Unreadable) h before after fe fb fa oe ob oa files out end = (rose_since fe fb fa files end.0, end.1, end.2)
ended_since (Some refusals.Output) h before after fe fb fa oe ob oa files out end = (rose_since oe ob oa out end.0, end.1)
ended_since (Some refusals.NoMemory) h before after fe fb fa oe ob oa files out end = end
