use Rattle.std.proofs.Common.{ap, sym, subst, ◌∙◌, ◌+◌, take, arith}
use Rattle.pg_cert.specs.Parsing.{said}
use Rattle.pg_cert_migrate.specs.Logs.{with_said}
use Rattle.pg_cert_migrate.proofs.ReadLemmas.{IsReadSoFar, read_none, read_next, read_all}
use Rattle.pg_cert_migrate.proofs.logs.logs_of.Goals as goal

pub loop-end-init : goal.loop-end-init
loop-end-init c =
    let shape = c.args.shape.now in
    let bytes = c.args.bytes.now in
    record {
      short = omega arith;
      read = subst (λ logs. IsReadSoFar shape bytes logs bytes) (sym c.new-logs.ensures) (read_none shape bytes);
    }

pub loop-end-preserved : goal.loop-end-preserved
loop-end-preserved c =
    let shape = c.args.shape.now in
    let bytes = c.args.bytes.now in
    let logs = c.loop-end.logs in
    let left = c.loop-end.left.now in
    let taken = c.in_ok-take_line.ensures ∙ ap (λ bs. with_said logs (said shape bs)) c.split_at.ensures.front in
    record {
      short = omega (arith, c.split_at.ensures.back_len, c.loop-end.invariant.short);
      read = subst (λ ls. IsReadSoFar shape bytes ls c.split_at.result.1.now) (sym taken)
          (subst (λ bs. IsReadSoFar shape bytes (with_said logs (said shape (take (c.in-Some.end + 1) left))) bs)
          (sym c.split_at.ensures.back)
          (read_next shape c.requires bytes logs left c.in-Some.end (sym c.place_of_lf.ensures.place ∙ c.in-Some.is)
          c.loop-end.invariant.read));
    }

pub returns : goal.returns
returns c =
    read_all c.args.shape.now c.requires c.args.bytes.now c.loop-end.logs c.loop-end.left.now
    (sym c.place_of_lf.ensures.place ∙ c.in_default.is) c.loop-end.invariant.read
