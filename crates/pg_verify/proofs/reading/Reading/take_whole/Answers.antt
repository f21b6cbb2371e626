use Rattle.std.proofs.Common.{◌≡◌, suc, ◌+◌, arith}
use Rattle.pg_verify.specs.Reader.{Progress}
use Rattle.pg_verify.proofs.Standing.{Keeps}
use Rattle.pg_verify.proofs.FeedLemmas.{told_kept, OnOk-weaker}
use Rattle.pg_verify.proofs.reading.Reading.take_whole.Goals as goal

pub returns-clause-fed : goal.returns-clause-fed
returns-clause-fed c =
    let p : Progress = c.args.self.now in
    let q : Progress = c.take_line.new.self in
    let kept = told_kept p q c.args.bytes.now c.take_line.result c.take_line.ensures in
    OnOk-weaker {P = Keeps (record p { lines = suc p.lines }) q} {Q = q.fed ≡ p.fed} c.take_line.result (λ k. k.fed) kept

pub returns-clause-lines : goal.returns-clause-lines
returns-clause-lines c =
    let p : Progress = c.args.self.now in
    let q : Progress = c.take_line.new.self in
    let kept = told_kept p q c.args.bytes.now c.take_line.result c.take_line.ensures in
    OnOk-weaker {P = Keeps (record p { lines = suc p.lines }) q} {Q = q.lines ≡ p.lines + 1} c.take_line.result (λ k. omega (arith, k.lines)) kept

pub returns-clause-rest : goal.returns-clause-rest
returns-clause-rest c =
    let p : Progress = c.args.self.now in
    let q : Progress = c.take_line.new.self in
    let kept = told_kept p q c.args.bytes.now c.take_line.result c.take_line.ensures in
    OnOk-weaker {P = Keeps (record p { lines = suc p.lines }) q} {Q = q.rest ≡ p.rest} c.take_line.result (λ k. k.rest) kept
