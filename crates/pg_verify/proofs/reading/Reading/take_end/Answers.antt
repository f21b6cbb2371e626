use Rattle.std.proofs.Common.{arith, ap, ◌*◌, List, length}
use Rattle.pg_type.specs.declared.kind.Kind.{Kind}
use Rattle.pg_verify.proofs.NameLemmas.{small_count}
use Rattle.pg_verify.proofs.reading.Reading.take_end.Goals as goal

pub overflow_mul-count : goal.overflow_mul-count
overflow_mul-count c =
    let i = c.self-2.inside in
    omega (
      arith,
      small_count i.machine.now.desc i.family i.machine.now.valid,
      ap (λ (ks : List Kind). c.count.result * length ks) c.kinds.ensures,
      ap (λ n. n * length c.kinds.result.now) c.count.ensures,
      ap (λ (ks : List Kind). length i.machine.now.desc.instrs * length ks) c.kinds.ensures,
    )
