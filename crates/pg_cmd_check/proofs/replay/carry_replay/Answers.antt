use Rattle.std.proofs.Common.{◌≡◌, ◌∙◌, Result, Err, refl, sym, ap}
use Rattle.pg_report.specs.declared.replay.ReplayFault.{ReplayFault}
use Rattle.pg_report.specs.declared.replay.ReplayFault.TheVariants.{Failed, Memory}
use Rattle.pg_cmd_base.specs.declared.status.Status.TheVariants.{Done}
use Rattle.pg_cmd_certs.specs.Views.{judged}
use Rattle.pg_cmd_check.specs.Replay.{replay_command, replayed}
use Rattle.pg_cmd_base.specs.World.{IsUntouched, around}
use Rattle.pg_cmd_base.proofs.CarryLemmas.{carries-done, carries-broken, carries-starved}
use Rattle.pg_cmd_check.proofs.ReplayLemmas.{replay-ends, replay-states}
use Rattle.pg_cmd_check.proofs.replay.carry_replay.Goals as goal

pub put_replay-requires-clause-states : goal.put_replay-requires-clause-states
put_replay-requires-clause-states g c =
    let r = c.args.words.now in
    replay-states (g.F.Shelf.files c.args.shelf.now) r.desc r.cert (judged c.in-Ok.judged) c.in-Ok.ensures.comes

pub returns-in-Ok-put_replay-clause-carries : goal.returns-in-Ok-put_replay-clause-carries
returns-in-Ok-put_replay-clause-carries g c =
    let r = c.args.words.now in
    let j = judged c.in-Ok.judged in
    let told = g.F.Shelf.files c.args.shelf.now in
    let old = around g.F.Shelf g.S.Sink g.H.Hardware c.args.shelf.now c.args.out.now c.args.hw.now in
    let new = around g.F.Shelf g.S.Sink g.H.Hardware c.load_judged.new.shelf c.put_replay.new.out c.args.hw.now in
    let same : IsUntouched old new = record { files = c.load_judged.ensures.reads.same_files; saves = c.load_judged.ensures.reads.same_saves; hw = refl } in
    carries-done (replay_command r) old new j (replayed j) c.in-Ok.ensures.comes (replay-ends told r.desc r.cert j old new c.in-Ok.ensures.comes same)
    c.in-Ok-put_replay.ensures.whole

pub returns-in-Err-Failed-clause-carries : goal.returns-in-Err-Failed-clause-carries
returns-in-Err-Failed-clause-carries g c =
    let r = c.args.words.now in
    let j = judged c.in-Ok.judged in
    let told = g.F.Shelf.files c.args.shelf.now in
    let old = around g.F.Shelf g.S.Sink g.H.Hardware c.args.shelf.now c.args.out.now c.args.hw.now in
    let new = around g.F.Shelf g.S.Sink g.H.Hardware c.load_judged.new.shelf c.put_replay.new.out c.args.hw.now in
    let same : IsUntouched old new = record { files = c.load_judged.ensures.reads.same_files; saves = c.load_judged.ensures.reads.same_saves; hw = refl } in
    carries-broken (replay_command r) old new j Done (replayed j) c.in-Ok.ensures.comes (replay-ends told r.desc r.cert j old new c.in-Ok.ensures.comes same)
    (record { cause = c.in-Err-Failed.ensures.cause (ap Err c.in-Err-Failed.field-0-is); front = c.in-Err-Failed.ensures.front })

pub returns-clause-carries : goal.returns-clause-carries
returns-clause-carries g c =
    let r = c.args.words.now in
    let j = judged c.in-Ok.judged in
    let told = g.F.Shelf.files c.args.shelf.now in
    let old = around g.F.Shelf g.S.Sink g.H.Hardware c.args.shelf.now c.args.out.now c.args.hw.now in
    let new = around g.F.Shelf g.S.Sink g.H.Hardware c.load_judged.new.shelf c.put_replay.new.out c.args.hw.now in
    let same : IsUntouched old new = record { files = c.load_judged.ensures.reads.same_files; saves = c.load_judged.ensures.reads.same_saves; hw = refl } in
    carries-starved (replay_command r) old new j c.in-Ok.ensures.comes
    (record { quiet = c.in-Err-Memory.ensures.quiet (λ h. absurd (let no : ◌≡◌ {A = Result (Unit {0}) ReplayFault} (Err Memory) (Err Failed) = sym (ap Err c.in-Err-Memory.field-0-is) ∙ h in cc)); front = c.in-Err-Memory.ensures.front; untouched = same })
