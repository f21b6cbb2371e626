use Rattle.std.proofs.Common.{arith, ap, sym, subst, ◌∙◌, ◌+◌, ◌*◌, List, [], ◌∷◌, length, length-append}
use Rattle.pg_type.specs.declared.kind.Kind.{Kind}
use Rattle.pg_cert.specs.Texts.{instr_of, kind_of}
use Rattle.pg_classify.specs.Classified.{IsFoundAt, AreFound}
use Rattle.pg_classify.proofs.AllLemmas.{one_more_found}
use Rattle.pg_classify.proofs.CountLemmas.{small_count}
use Rattle.pg_classify.proofs.classifying.findings.Goals as goal

pub overflow_mul-all : goal.overflow_mul-all
overflow_mul-all g c =
    let m = c.args.machine.now in
    omega (
      arith,
      small_count m.desc c.args.family m.valid,
      ap (λ (ks : List Kind). c.count.result * length ks) c.kinds.ensures,
      ap (λ n. n * length c.kinds.result.now) c.count.ensures,
      ap (λ (ks : List Kind). length m.desc.instrs * length ks) c.kinds.ensures,
    )

pub loop-number-preserved : goal.loop-number-preserved
loop-number-preserved g c =
    let d = c.args.machine.now.desc in
    let family = c.args.family in
    let f = c.in_ok-finding.field-0 in
    let before = c.loop-number.findings in
    let one : IsFoundAt d (instr_of family c.loop-number.number) (kind_of family c.loop-number.number) c.args.budget f =
    subst (λ k. IsFoundAt d (instr_of family c.loop-number.number) k c.args.budget f) c.kind_of-kind.ensures
    (subst (λ i. IsFoundAt d i c.kind_of-kind.result c.args.budget f) c.instr_of-instr.ensures c.in_ok-finding.ensures) in
    record {
      count = ap length c.in_ok-push.ensures.ok ∙ length-append before (f ∷ []) ∙ ap (λ n. n + 1) c.loop-number.invariant.count;
      found = subst (λ fs. AreFound d family c.args.budget fs) (sym c.in_ok-push.ensures.ok)
          (one_more_found d family c.args.budget c.loop-number.number before f c.loop-number.invariant.count
          c.loop-number.invariant.found one);
    }
