use Rattle.std.proofs.Common.{arith, ap, ◌*◌, List, length}
use Rattle.pg_type.specs.declared.kind.Kind.{Kind}
use Rattle.pg_cert.specs.Verdicts.{kind_count}
use Rattle.pg_verify.specs.Reader.{Progress}
use Rattle.pg_verify.proofs.NameLemmas.{small_number}
use Rattle.pg_verify.proofs.reading.Reading.place.Goals as goal

pub overflow_mul-number : goal.overflow_mul-number
overflow_mul-number c =
    let i = c.self.inside in
    let instrs = ap (λ (p : Progress). length p.desc.instrs) c.self.view_is in
    let kinds = ap (λ (p : Progress). kind_count p.family) c.self.view_is in
    let small = small_number i.machine.now.desc i.family c.args.instr c.args.place i.machine.now.valid (omega (arith, c.requires.instr, instrs)) (omega (arith, c.requires.place, kinds)) in
    omega (arith, small, ap (λ (ks : List Kind). c.args.instr * length ks) c.kinds.ensures)

pub overflow_add-number : goal.overflow_add-number
overflow_add-number c =
    let i = c.self.inside in
    let instrs = ap (λ (p : Progress). length p.desc.instrs) c.self.view_is in
    let kinds = ap (λ (p : Progress). kind_count p.family) c.self.view_is in
    let small = small_number i.machine.now.desc i.family c.args.instr c.args.place i.machine.now.valid (omega (arith, c.requires.instr, instrs)) (omega (arith, c.requires.place, kinds)) in
    omega (arith, small, ap (λ (ks : List Kind). c.args.instr * length ks) c.kinds.ensures)
