use Rattle.std.proofs.Common.{◌<◌, ◌∷◌, [], length, ap, sym, subst, ◌∙◌, arith, length-append}
use Rattle.pg_cert.specs.Texts.{instr_of}
use Rattle.pg_cert.proofs.Fits.{instr_within}
use Rattle.pg_cert_migrate.proofs.MadeLemmas.{shorter, at_last, next_made, log_closed, made_at}
use Rattle.pg_cert_migrate.proofs.migrating.findings.Goals as goal

pub finding-requires-clause-there : goal.finding-requires-clause-there
finding-requires-clause-there c =
    let d = c.args.machine.now.desc in
    let family = c.args.family in
    let count = ap length c.in-Some.ensures ∙ length-append c.pop.new.self (c.in-Some.log ∷ []) in
    let below : length c.pop.new.self < length c.args.marks.now = omega (arith, count, c.loop-log.invariant.count, c.requires.one_each) in
    subst (λ n. n < length d.instrs) (sym (c.instr_of-instr.ensures ∙ ap (instr_of family) c.len-number.ensures))
    (instr_within family (length c.pop.new.self) (length c.args.marks.now) (length d.instrs) c.requires.whole below)

pub finding-requires-clause-few : goal.finding-requires-clause-few
finding-requires-clause-few c =
    c.requires.few (length c.pop.new.self) c.in-Some.log
    (at_last c.args.logs c.loop-log.left c.pop.new.self c.in-Some.log c.in-Some.ensures c.loop-log.invariant.front)

pub finding-requires-clause-closed : goal.finding-requires-clause-closed
finding-requires-clause-closed c =
    let count = ap length c.in-Some.ensures ∙ length-append c.pop.new.self (c.in-Some.log ∷ []) in
    let below : length c.pop.new.self < length c.args.marks.now = omega (arith, count, c.loop-log.invariant.count, c.requires.one_each) in
    log_closed c.args.machine.now.desc c.args.family c.args.marks.now c.args.logs c.in-Some.log (length c.pop.new.self) c.len-number.result
    c.instr_of-instr.result c.kind_of-kind.result c.index-marks-number.result c.requires c.len-number.ensures c.instr_of-instr.ensures
    c.kind_of-kind.ensures below c.index-marks-number.is
    (at_last c.args.logs c.loop-log.left c.pop.new.self c.in-Some.log c.in-Some.ensures c.loop-log.invariant.front)

pub loop-log-preserved : goal.loop-log-preserved
loop-log-preserved c =
    let d = c.args.machine.now.desc in
    let family = c.args.family in
    let count = ap length c.in-Some.ensures ∙ length-append c.pop.new.self (c.in-Some.log ∷ []) in
    let made = ap length c.in_ok-push.ensures.items ∙ length-append c.loop-log.made.items (c.in_ok-finding.field-0 ∷ []) in
    let below : length c.pop.new.self < length c.args.marks.now = omega (arith, count, c.loop-log.invariant.count, c.requires.one_each) in
    record {
      front = shorter c.args.logs c.loop-log.left c.pop.new.self c.in-Some.log c.in-Some.ensures c.loop-log.invariant.front;
      count = omega (arith, count, made, c.loop-log.invariant.count);
      made = next_made d family c.args.marks.now c.args.logs c.loop-log.left c.pop.new.self c.in-Some.log c.loop-log.made.items
          c.push.new.self.items c.len-number.result c.index-marks-number.result c.in_ok-finding.field-0 c.in-Some.ensures c.in_ok-push.ensures.items
          c.len-number.ensures below c.index-marks-number.is
          (at_last c.args.logs c.loop-log.left c.pop.new.self c.in-Some.log c.in-Some.ensures c.loop-log.invariant.front)
          (made_at d family c.len-number.result c.instr_of-instr.result c.kind_of-kind.result c.index-marks-number.result c.in-Some.log
          c.in_ok-finding.field-0 c.instr_of-instr.ensures c.kind_of-kind.ensures c.in_ok-finding.ensures)
          c.loop-log.invariant.made;
    }
