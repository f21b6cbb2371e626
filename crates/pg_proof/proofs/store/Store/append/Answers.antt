use Rattle.std.proofs.Common.{arith, ap, ◌∙◌, ◌++◌, ◌∷◌, [], Some}
use Rattle.pg_proof.specs.declared.store.Span.{Span}
use Rattle.pg_proof.proofs.SpanLemmas.{grown, grown_by}
use Rattle.pg_proof.proofs.store.Store.append.Goals as goal
use Rattle.pg_proof.proofs.store.Store.append.Goals.{in-Ok, in-Err}

pub invariant_of-self-2 : goal.invariant_of-self-2
invariant_of-self-2 c =
    let xs = c.self.inside.literals.items in
    let more = c.in_ok-extend_from_slice.ensures.items in
    elim c.match-push.branch [
      | in-Ok w ↦ (
          let s : Span = record { start = c.len-start.result; end = c.len-end.result } in
          (grown_by xs c.extend_from_slice.new.self.items c.args.literals.now c.self.inside.spans.items c.push.new.self.items s c.self.invariant
          (omega (arith, c.len-start.ensures, c.self.inside.literals.ok.0)) (omega (arith, c.len-end.ensures, c.extend_from_slice.new.self.ok.0)) more (w.in-Ok.ensures.items ∙ ap (λ ss. ss ++ Some s ∷ []) c.reserve.ensures.items)).spans)
      | in-Err w ↦
          (grown xs c.extend_from_slice.new.self.items c.args.literals.now c.self.inside.spans.items c.push.new.self.items c.self.invariant
          more (w.in-Err.ensures.items ∙ c.reserve.ensures.items)).spans
    ]

pub returns-clause-ok : goal.returns-clause-ok
returns-clause-ok c =
    let xs = c.self.inside.literals.items in
    let more = c.in_ok-extend_from_slice.ensures.items in
    elim c.match-push.branch [
      | in-Ok w ↦ (
          let s : Span = record { start = c.len-start.result; end = c.len-end.result } in
          let g = grown_by xs c.extend_from_slice.new.self.items c.args.literals.now c.self.inside.spans.items c.push.new.self.items s c.self.invariant
          (omega (arith, c.len-start.ensures, c.self.inside.literals.ok.0)) (omega (arith, c.len-end.ensures, c.extend_from_slice.new.self.ok.0)) more (w.in-Ok.ensures.items ∙ ap (λ ss. ss ++ Some s ∷ []) c.reserve.ensures.items) in
          rw w.result-is (g.clauses ∙ ap (λ cs. cs ++ Some c.args.literals.now ∷ []) c.self.view_is))
      | in-Err w ↦ rw w.result-is tt
    ]
