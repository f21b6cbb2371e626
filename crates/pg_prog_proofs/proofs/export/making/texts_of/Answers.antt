use Rattle.pg_cert.specs.Texts.{heading_of}
use Rattle.pg_prog_base.proofs.Texts.{if_ok}
use Rattle.pg_prog_proofs.proofs.LogLemmas.{log_closed, are_of, are_texts_at}
use Rattle.pg_prog_proofs.proofs.export.making.texts_of.Goals as goal

pub both_of-requires : goal.both_of-requires
both_of-requires c =
    let d = c.args.machine.now.desc in
    let cert = c.args.cert.now in
    let clauses = c.in-Ok.asked.cnf.clauses in
    log_closed d (heading_of cert.family) cert c.args.place c.args.acts.now clauses c.requires.made.migrated.now c.requires.at
    (are_of d cert c.args.place c.instr_of-instr.result c.kind_of-kind.result clauses c.instr_of-instr.ensures c.kind_of-kind.ensures c.in-Ok.ensures.question)

pub returns-in-Ok : goal.returns-in-Ok
returns-in-Ok c =
    let d = c.args.machine.now.desc in
    let cert = c.args.cert.now in
    let clauses = c.in-Ok.asked.cnf.clauses in
    let same = are_of d cert c.args.place c.instr_of-instr.result c.kind_of-kind.result clauses c.instr_of-instr.ensures c.kind_of-kind.ensures c.in-Ok.ensures.question in
    if_ok c.both_of.result (λ t known. are_texts_at d cert c.args.place c.args.acts.now clauses t.log.items t.clauses.items c.requires.at same known) c.both_of.ensures
