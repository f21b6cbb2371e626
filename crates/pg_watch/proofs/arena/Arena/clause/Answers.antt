use Rattle.std.proofs.Common.{◌<◌, ap, arith}
use Rattle.std.specs.Prelude.{length}
use Rattle.pg_watch.proofs.SpanLemmas.{lies, clauses_in-at, length-clauses_in}
use Rattle.pg_watch.proofs.arena.Arena.clause.Goals as goal

pub part-requires : goal.part-requires
part-requires c =
    let ss = c.self.inside.spans.items in
    let within : c.args.place < length ss = omega (arith, length-clauses_in c.self.inside.literals.items ss, ap length c.self.view_is) in
    let h = lies _ ss c.args.place _ c.self.invariant within c.index-span.ensures in
    record { start = h.start; end = omega (arith, h.end) }

pub returns : goal.returns
returns c =
    let xs = c.self.inside.literals.items in
    let ss = c.self.inside.spans.items in
    let within : c.args.place < length ss = omega (arith, length-clauses_in xs ss, ap length c.self.view_is) in
    let read = clauses_in-at xs ss c.args.place _ within c.index-span.ensures in
    rw (← c.self.view_is) cc
