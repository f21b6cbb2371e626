use Rattle.std.proofs.Common.{refl}
use Rattle.pg_cert.specs.declared.cert.Family.TheVariants.{Plain}
use Rattle.pg_cmd_certs.specs.Views.{judged}
use Rattle.pg_cmd_certs.proofs.JudgedLemmas.{judged-read}
use Rattle.pg_cmd_certs.proofs.TellingLemmas.{carries-told, verdict-ends}
use Rattle.pg_cmd_base.specs.World.{IsUntouched, around}
use Rattle.pg_cmd_check.specs.Verify.{verify_command}
use Rattle.pg_cmd_check.proofs.verify.carry_verify.Goals as goal

pub returns-in-Ok-clause-carries : goal.returns-in-Ok-clause-carries
returns-in-Ok-clause-carries g c =
    let v = c.args.words.now in
    let j = judged c.in-Ok.judged in
    let old = around g.F.Shelf g.S.Sink g.H.Hardware c.args.shelf.now c.args.out.now c.args.hw.now in
    let new = around g.F.Shelf g.S.Sink g.H.Hardware c.load_judged.new.shelf c.tell_verdict.new.out c.args.hw.now in
    let same : IsUntouched old new = record { files = c.load_judged.ensures.reads.same_files; saves = c.load_judged.ensures.reads.same_saves; hw = refl } in
    let read = judged-read Plain (g.F.Shelf.files c.args.shelf.now) v.desc v.cert j c.in-Ok.ensures.comes in
    carries-told (verify_command v) j old new j c.tell_verdict.result c.in-Ok.ensures.comes (verdict-ends Plain j old new read same) c.tell_verdict.ensures.told
