use Rattle.std.proofs.Common.{◌≡◌, ℕ, sym, subst}
use Rattle.std.specs.Prelude.{◌⊎◌, Option}
use Rattle.vpn_base.specs.Answers.{Rose}
use Rattle.replay_links.specs.Schedule.{spells}
use Rattle.vpn_top.specs.Words.{Command}
use Rattle.vpn_top.specs.Answer.{IsCutOff, Ran}
use Rattle.vpn_top.specs.Replay.{HoldHalt}
use Rattle.vpn_top.specs.Written.{Run}
use Rattle.vpn_top.proofs.CheckEnds.{checked_end}
use Rattle.vpn_top.proofs.ReplayEnds.{keyless_by, lacking_end, misconfigured_end, miskeyed_by, not_server_end, refused_end, replayed_end, unscheduled_end}
use Rattle.vpn_top.proofs.top.vpn_main.Goals as goal

pub returns-clause-checked : goal.returns-clause-checked
returns-clause-checked g c = λ name s given is keyed.
    let fin = c.run-refusal.ensures.finished in
    let holds = g.F.Files.holds c.args.outside.files in
    let files : ℕ × ℕ = (g.F.Files.faults c.args.outside.files, g.F.Files.faults c.run-refusal.result.1) in
    let out : ℕ × ℕ = (g.S.Sink.faults c.args.outside.out, g.S.Sink.faults c.run-refusal.result.2) in
    let err : ℕ × ℕ = (g.E.Sink.faults c.args.outside.err, g.E.Sink.faults c.run-refusal.new.err) in
    let run : Run = record { before = g.S.Sink.contents c.args.outside.out; after = g.S.Sink.contents c.run-refusal.result.2; files = files; out = out; err = err } in
    let ran = subst (λ (x : Option Command). Ran x holds c.run-refusal.result.0 fin.subject run) given fin.ran in
    subst (λ (n : ℕ). (n ≡ 0) ⊎ ((n ≡ 3) × Rose files.0 files.1) ⊎ IsCutOff n out err) (sym c.exit_status.ensures)
    (checked_end holds name fin.subject s c.run-refusal.result.0 run ran is keyed)

pub returns-clause-misconfigured : goal.returns-clause-misconfigured
returns-clause-misconfigured g c = λ command name fault given named bad.
    let fin = c.run-refusal.ensures.finished in
    let holds = g.F.Files.holds c.args.outside.files in
    let files : ℕ × ℕ = (g.F.Files.faults c.args.outside.files, g.F.Files.faults c.run-refusal.result.1) in
    let out : ℕ × ℕ = (g.S.Sink.faults c.args.outside.out, g.S.Sink.faults c.run-refusal.result.2) in
    let err : ℕ × ℕ = (g.E.Sink.faults c.args.outside.err, g.E.Sink.faults c.run-refusal.new.err) in
    let run : Run = record { before = g.S.Sink.contents c.args.outside.out; after = g.S.Sink.contents c.run-refusal.result.2; files = files; out = out; err = err } in
    let ran = subst (λ (x : Option Command). Ran x holds c.run-refusal.result.0 fin.subject run) given fin.ran in
    subst (λ (n : ℕ). (n ≡ 2) ⊎ ((n ≡ 3) × Rose files.0 files.1) ⊎ IsCutOff n out err) (sym c.exit_status.ensures)
    (misconfigured_end command holds name fin.subject fault c.run-refusal.result.0 run ran named bad)

pub returns-clause-miskeyed : goal.returns-clause-miskeyed
returns-clause-miskeyed g c = λ command name s fault given named is takes bad.
    let fin = c.run-refusal.ensures.finished in
    let holds = g.F.Files.holds c.args.outside.files in
    let files : ℕ × ℕ = (g.F.Files.faults c.args.outside.files, g.F.Files.faults c.run-refusal.result.1) in
    let out : ℕ × ℕ = (g.S.Sink.faults c.args.outside.out, g.S.Sink.faults c.run-refusal.result.2) in
    let err : ℕ × ℕ = (g.E.Sink.faults c.args.outside.err, g.E.Sink.faults c.run-refusal.new.err) in
    let run : Run = record { before = g.S.Sink.contents c.args.outside.out; after = g.S.Sink.contents c.run-refusal.result.2; files = files; out = out; err = err } in
    let ran = subst (λ (x : Option Command). Ran x holds c.run-refusal.result.0 fin.subject run) given fin.ran in
    subst (λ (n : ℕ). (n ≡ 2) ⊎ ((n ≡ 3) × Rose files.0 files.1) ⊎ IsCutOff n out err) (sym c.exit_status.ensures)
    (miskeyed_by command holds name fin.subject s fault c.run-refusal.result.0 run ran named is bad)

pub returns-clause-lacking : goal.returns-clause-lacking
returns-clause-lacking g c = λ command name given named absent.
    let fin = c.run-refusal.ensures.finished in
    let holds = g.F.Files.holds c.args.outside.files in
    let files : ℕ × ℕ = (g.F.Files.faults c.args.outside.files, g.F.Files.faults c.run-refusal.result.1) in
    let out : ℕ × ℕ = (g.S.Sink.faults c.args.outside.out, g.S.Sink.faults c.run-refusal.result.2) in
    let err : ℕ × ℕ = (g.E.Sink.faults c.args.outside.err, g.E.Sink.faults c.run-refusal.new.err) in
    let run : Run = record { before = g.S.Sink.contents c.args.outside.out; after = g.S.Sink.contents c.run-refusal.result.2; files = files; out = out; err = err } in
    let ran = subst (λ (x : Option Command). Ran x holds c.run-refusal.result.0 fin.subject run) given fin.ran in
    subst (λ (n : ℕ). (n ≡ 3) ⊎ IsCutOff n out err) (sym c.exit_status.ensures)
    (lacking_end command holds name fin.subject c.run-refusal.result.0 run ran named absent)

pub returns-clause-keyless : goal.returns-clause-keyless
returns-clause-keyless g c = λ command name file s given named is takes key absent.
    let fin = c.run-refusal.ensures.finished in
    let holds = g.F.Files.holds c.args.outside.files in
    let files : ℕ × ℕ = (g.F.Files.faults c.args.outside.files, g.F.Files.faults c.run-refusal.result.1) in
    let out : ℕ × ℕ = (g.S.Sink.faults c.args.outside.out, g.S.Sink.faults c.run-refusal.result.2) in
    let err : ℕ × ℕ = (g.E.Sink.faults c.args.outside.err, g.E.Sink.faults c.run-refusal.new.err) in
    let run : Run = record { before = g.S.Sink.contents c.args.outside.out; after = g.S.Sink.contents c.run-refusal.result.2; files = files; out = out; err = err } in
    let ran = subst (λ (x : Option Command). Ran x holds c.run-refusal.result.0 fin.subject run) given fin.ran in
    subst (λ (n : ℕ). (n ≡ 3) ⊎ IsCutOff n out err) (sym c.exit_status.ensures)
    (keyless_by command holds name fin.subject file s c.run-refusal.result.0 run ran named is takes key absent)

pub returns-clause-not_server : goal.returns-clause-not_server
returns-clause-not_server g c = λ config schedule s given is client.
    let fin = c.run-refusal.ensures.finished in
    let holds = g.F.Files.holds c.args.outside.files in
    let files : ℕ × ℕ = (g.F.Files.faults c.args.outside.files, g.F.Files.faults c.run-refusal.result.1) in
    let out : ℕ × ℕ = (g.S.Sink.faults c.args.outside.out, g.S.Sink.faults c.run-refusal.result.2) in
    let err : ℕ × ℕ = (g.E.Sink.faults c.args.outside.err, g.E.Sink.faults c.run-refusal.new.err) in
    let run : Run = record { before = g.S.Sink.contents c.args.outside.out; after = g.S.Sink.contents c.run-refusal.result.2; files = files; out = out; err = err } in
    let ran = subst (λ (x : Option Command). Ran x holds c.run-refusal.result.0 fin.subject run) given fin.ran in
    subst (λ (n : ℕ). (n ≡ 2) ⊎ ((n ≡ 3) × Rose files.0 files.1) ⊎ IsCutOff n out err) (sym c.exit_status.ensures)
    (not_server_end holds config schedule fin.subject s c.run-refusal.result.0 run ran is client)

pub returns-clause-replayed : goal.returns-clause-replayed
returns-clause-replayed g c = λ config schedule text s given is role keyed told none few.
    let fin = c.run-refusal.ensures.finished in
    let holds = g.F.Files.holds c.args.outside.files in
    let files : ℕ × ℕ = (g.F.Files.faults c.args.outside.files, g.F.Files.faults c.run-refusal.result.1) in
    let out : ℕ × ℕ = (g.S.Sink.faults c.args.outside.out, g.S.Sink.faults c.run-refusal.result.2) in
    let err : ℕ × ℕ = (g.E.Sink.faults c.args.outside.err, g.E.Sink.faults c.run-refusal.new.err) in
    let run : Run = record { before = g.S.Sink.contents c.args.outside.out; after = g.S.Sink.contents c.run-refusal.result.2; files = files; out = out; err = err } in
    let ran = subst (λ (x : Option Command). Ran x holds c.run-refusal.result.0 fin.subject run) given fin.ran in
    subst (λ (n : ℕ). (n ≡ 0) ⊎ ((n ≡ 3) × Rose files.0 files.1) ⊎ IsCutOff n out err) (sym c.exit_status.ensures)
    (replayed_end holds config schedule fin.subject text s c.run-refusal.result.0 run ran is role keyed told none few)

pub returns-clause-refused : goal.returns-clause-refused
returns-clause-refused g c = λ config schedule text s given is role keyed told some few.
    let fin = c.run-refusal.ensures.finished in
    let holds = g.F.Files.holds c.args.outside.files in
    let files : ℕ × ℕ = (g.F.Files.faults c.args.outside.files, g.F.Files.faults c.run-refusal.result.1) in
    let out : ℕ × ℕ = (g.S.Sink.faults c.args.outside.out, g.S.Sink.faults c.run-refusal.result.2) in
    let err : ℕ × ℕ = (g.E.Sink.faults c.args.outside.err, g.E.Sink.faults c.run-refusal.new.err) in
    let run : Run = record { before = g.S.Sink.contents c.args.outside.out; after = g.S.Sink.contents c.run-refusal.result.2; files = files; out = out; err = err } in
    let ran = subst (λ (x : Option Command). Ran x holds c.run-refusal.result.0 fin.subject run) given fin.ran in
    subst (λ (n : ℕ). (n ≡ 5) ⊎ ((n ≡ 0) × HoldHalt (spells text).events) ⊎ ((n ≡ 3) × Rose files.0 files.1) ⊎ IsCutOff n out err) (sym c.exit_status.ensures)
    (refused_end holds config schedule fin.subject text s c.run-refusal.result.0 run ran is role keyed told few)

pub returns-clause-unscheduled : goal.returns-clause-unscheduled
returns-clause-unscheduled g c = λ config schedule s given is role keyed absent.
    let fin = c.run-refusal.ensures.finished in
    let holds = g.F.Files.holds c.args.outside.files in
    let files : ℕ × ℕ = (g.F.Files.faults c.args.outside.files, g.F.Files.faults c.run-refusal.result.1) in
    let out : ℕ × ℕ = (g.S.Sink.faults c.args.outside.out, g.S.Sink.faults c.run-refusal.result.2) in
    let err : ℕ × ℕ = (g.E.Sink.faults c.args.outside.err, g.E.Sink.faults c.run-refusal.new.err) in
    let run : Run = record { before = g.S.Sink.contents c.args.outside.out; after = g.S.Sink.contents c.run-refusal.result.2; files = files; out = out; err = err } in
    let ran = subst (λ (x : Option Command). Ran x holds c.run-refusal.result.0 fin.subject run) given fin.ran in
    subst (λ (n : ℕ). (n ≡ 3) ⊎ IsCutOff n out err) (sym c.exit_status.ensures)
    (unscheduled_end holds config schedule fin.subject s c.run-refusal.result.0 run ran is role keyed absent)
