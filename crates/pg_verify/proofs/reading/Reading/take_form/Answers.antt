use Rattle.std.proofs.Common.{◌≡◌, ℕ, List, sym, subst, ap, ◌∙◌}
use Rattle.std.specs.Prelude.{Result}
use Rattle.pg_cert.specs.declared.line.Line.{Line}
use Rattle.pg_cert.specs.declared.line.Line.TheVariants as line
use Rattle.pg_verify.specs.declared.fault.VerifyFault.{VerifyFault}
use Rattle.pg_verify.specs.Reader.{Progress}
use Rattle.pg_verify.specs.Seen.{IsTold}
use Rattle.pg_verify.specs.Taking.{reopened, after_state_line, with_cells, after_form}
use Rattle.pg_verify.proofs.reading.Reading.take_form.Goals as goal

told_cells : {A : Type 0} (p q : Progress) (l : Line) (first : ℕ) (words slice : List ℕ) (r : Result A VerifyFault) → l ≡ line.Cells first words → slice ≡ words →
    IsTold (reopened p (after_state_line p.lines (with_cells first slice) p.opened)) q r → IsTold (after_form p l) q r
unfolding after_form
told_cells p q l first words slice r e s h =
    subst (λ x. IsTold x q r) (sym (ap (after_form p) e ∙ ap (λ ws. reopened p (after_state_line p.lines (with_cells first ws) p.opened)) (sym s))) h

pub returns-in-Cells : goal.returns-in-Cells
returns-in-Cells c =
    told_cells c.args.self.now c.draw-in-Cells.new.self c.args.line.now c.in-Cells.first c.in-Cells.words c.as_slice-in-Cells.result.now c.draw-in-Cells.result
    c.in-Cells.is c.as_slice-in-Cells.ensures c.draw-in-Cells.ensures
