use Rattle.std.proofs.Common.{arith, ap, ◌∙◌, slice_get}
use Rattle.pg_cert_drawn.specs.Drawn.{drawn_of}
use Rattle.pg_verify.specs.Reader.{Progress}
use Rattle.pg_verify.specs.Taking.{shows_at, due_kind, due_instr}
use Rattle.pg_verify.proofs.NameLemmas.{some_at, told_shown}
use Rattle.pg_verify.proofs.reading.Reading.shows_due.Goals as goal

pub returns : goal.returns
returns c =
    let d = c.self.inside.machine.now.desc in
    let s = drawn_of c.args.s.now in
    let t = drawn_of c.args.t.now in
    let at = some_at d.instrs c.due_instr-instr.result (omega (arith, c.count.ensures)) in
    told_shown d c.due_kind.result (slice_get d.instrs c.due_instr-instr.result) at.0 c.replay.result s t at.1 (c.replay.ensures at.0 at.1)
    ∙ ap (λ k. shows_at d k (slice_get d.instrs c.due_instr-instr.result) s t) c.due_kind.ensures
    ∙ ap (λ n. shows_at d (due_kind c.args.self.now) (slice_get d.instrs n) s t) c.due_instr-instr.ensures
    ∙ ap (λ (p : Progress). shows_at p.desc (due_kind c.args.self.now) (slice_get p.desc.instrs (due_instr c.args.self.now)) s t) c.self.view_is
