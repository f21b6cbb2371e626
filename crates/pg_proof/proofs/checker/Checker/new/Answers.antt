use Rattle.std.proofs.Common.{◌+◌, ◌*◌, false, length, map, Some, arith, subst, sym, ap, ◌∙◌}
use Rattle.std.proofs.lemmas.List.{length-replicate, length-map}
use Rattle.pg_proof.specs.State.{AreHeldWithin, variables_of}
use Rattle.pg_proof.specs.Kept.{state_of}
use Rattle.pg_proof.specs.Sound.{IsSound}
use Rattle.pg_proof.proofs.KeptLemmas.{AreHeldWithin-begun}
use Rattle.pg_proof.proofs.SoundLemmas.{IsSound-begun}
use Rattle.pg_proof.proofs.CoverLemmas.{IsHung-begun}
use Rattle.pg_proof.proofs.checker.Checker.new.Goals as goal
use Rattle.pg_proof.proofs.checker.Checker.new.Goals.{After-greatest_variable-variables}

-- what is copied is over the variables
within : (c : After-greatest_variable-variables) → AreHeldWithin (2 * c.greatest_variable-variables.result + 2) c.in_ok-clauses.clauses
within c =
    rw (c.in_ok-clauses.ensures, c.greatest_variable-variables.ensures, c.as_slice.ensures, c.as_slice-2.ensures)
    (AreHeldWithin-begun c.args.cnf.now.variables c.args.cnf.now.clauses c.args.cnf.now.are_clauses)

pub invariant_of-result : goal.invariant_of-result
invariant_of-result c =
    let copied = ap length (c.in_ok-clauses.ensures ∙ ap (map Some) c.as_slice.ensures) ∙ length-map c.args.cnf.now.clauses Some in
    record {
      places = ap length c.in_ok-literals.ensures ∙ length-replicate (2 * c.greatest_variable-variables.result + 2) false;
      standing_places = ap length c.in_ok-standing.ensures ∙ length-replicate (2 * c.greatest_variable-variables.result + 2) false;
      lists = ap length c.in_ok-hung.ensures.heads ∙ length-replicate (2 * c.greatest_variable-variables.result + 2) 0;
      hangs = IsHung-begun c.in_ok-hung.hung.heads.items c.in_ok-hung.hung.links.items _ _ c.in_ok-hung.hung.made c.in_ok-clauses.clauses c.in_ok-hung.ensures.heads
          c.in_ok-hung.ensures.links c.in_ok-hung.ensures.made (sym c.len-2.ensures);
      few = omega (arith, copied, c.args.cnf.now.few_clauses);
      numbered = omega (arith, ap length c.in_ok-numbers.ensures, length-replicate c.len.result false, c.len.ensures);
      within = within (goal.at.invariant_of-result c).After-greatest_variable-variables;
    }

pub returns-clause-sound : goal.returns-clause-sound
returns-clause-sound c =
    subst (IsSound c.args.cnf.now.clauses)
    (λ i. state_of (sym (c.greatest_variable-variables.ensures ∙ ap variables_of c.as_slice-2.ensures) i) (sym (c.in_ok-clauses.ensures ∙ ap (map Some) c.as_slice.ensures) i) false)
    (IsSound-begun c.args.cnf.now.clauses)
