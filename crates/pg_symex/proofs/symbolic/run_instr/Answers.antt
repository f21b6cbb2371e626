use Rattle.std.proofs.Common.{◌∙◌, ◌^◌, length, subst, sym, ap, arith}
use Rattle.pg_word.specs.declared.shape.Shape.{Shape}
use Rattle.pg_vec.specs.There.{AreThere}
use Rattle.pg_symex.specs.Exprs.{literal_bits}
use Rattle.pg_symex.specs.Body.{sym_entry}
use Rattle.pg_symex.specs.RunView.{run_as}
use Rattle.pg_symex.proofs.LeafLaws.{length-literal, literal-there}
use Rattle.pg_cells.specs.View.{View}
use Rattle.pg_vec.proofs.Kept.{front_then}
use Rattle.pg_symex.proofs.StmtCosts.{few_fetch, few_fetched, few_run}
use Rattle.pg_symex.proofs.RunSteps.{begun, run_done, view_done, entry_is, ready_as, fares_as, done_as, outcome_done}
use Rattle.pg_symex.proofs.symbolic.run_instr.Goals as goal

pub add-requires-clause-right : goal.add-requires-clause-right
add-requires-clause-right c = subst (AreThere (length c.touch.new.circuit.nodes)) (sym (c.in_ok-one.ensures ∙ ap (literal_bits 1) (c.from.ensures ∙ (ap (λ (s : Shape). s.a) c.shape-shape.ensures.numbers)))) (literal-there c.args.m.now.desc.address 1 (length c.touch.new.circuit.nodes) c.touch.new.circuit.circuit.begun)

pub add-requires-clause-same_width : goal.add-requires-clause-same_width
add-requires-clause-same_width c = c.requires.may.are_regs.p.wide ∙ sym (ap length (c.in_ok-one.ensures ∙ ap (literal_bits 1) (c.from.ensures ∙ (ap (λ (s : Shape). s.a) c.shape-shape.ensures.numbers))) ∙ length-literal c.args.m.now.desc.address 1)

pub in_order-requires-clause-ready : goal.in_order-requires-clause-ready
in_order-requires-clause-ready c =
    ready_as _ (sym_entry c.args.m.now.desc c.args.instr.now c.args.regs.now c.in_ok-word.word) c.add.new.circuit.nodes c.touch.new.self c.in_ok-run.run' (entry_is c.args.m.now.desc c.args.instr.now c.args.regs.now c.in_ok-word.word c.shape-shape.result.now.w c.shape-shape.result.now.a c.as_bytes.result.now (ap (λ (s : Shape). s.w) c.shape-shape.ensures.numbers) (ap (λ (s : Shape). s.a) c.shape-shape.ensures.numbers) c.as_bytes.ensures) ((begun c.args.m.now.desc c.args.instr.now c.args.decoder.now c.args.regs.now c.args.c.now.nodes c.touch.new.circuit.nodes c.add.new.circuit.nodes c.args.t.now c.touch.new.self c.in_ok-word.word c.in_ok-one.one c.in_ok-p.p c.in_ok-run.run' c.args.m.now.valid c.args.c.now.circuit c.requires.may c.in_ok-word.ensures.made c.in_ok-word.ensures.cells (c.in_ok-one.ensures ∙ ap (literal_bits 1) (c.from.ensures ∙ (ap (λ (s : Shape). s.a) c.shape-shape.ensures.numbers))) c.in_ok-p.ensures.made c.in_ok-run.ensures).ready)

pub in_order-requires-clause-typed : goal.in_order-requires-clause-typed
in_order-requires-clause-typed c =
    fares_as _ (sym_entry c.args.m.now.desc c.args.instr.now c.args.regs.now c.in_ok-word.word) c.as_slice.result.now c.args.instr.now.body c.in_ok-run.run' (entry_is c.args.m.now.desc c.args.instr.now c.args.regs.now c.in_ok-word.word c.shape-shape.result.now.w c.shape-shape.result.now.a c.as_bytes.result.now (ap (λ (s : Shape). s.w) c.shape-shape.ensures.numbers) (ap (λ (s : Shape). s.a) c.shape-shape.ensures.numbers) c.as_bytes.ensures) c.as_slice.ensures ((begun c.args.m.now.desc c.args.instr.now c.args.decoder.now c.args.regs.now c.args.c.now.nodes c.touch.new.circuit.nodes c.add.new.circuit.nodes c.args.t.now c.touch.new.self c.in_ok-word.word c.in_ok-one.one c.in_ok-p.p c.in_ok-run.run' c.args.m.now.valid c.args.c.now.circuit c.requires.may c.in_ok-word.ensures.made c.in_ok-word.ensures.cells (c.in_ok-one.ensures ∙ ap (literal_bits 1) (c.from.ensures ∙ (ap (λ (s : Shape). s.a) c.shape-shape.ensures.numbers))) c.in_ok-p.ensures.made c.in_ok-run.ensures).fares)

pub returns-clause-made : goal.returns-clause-made
returns-clause-made c =
    outcome_done c.outcome.result _ c.in_order.new.c.nodes c.in_order.new.t c.in_order.new.run
    (run_done c.args.m.now.desc c.args.instr.now c.args.decoder.now c.args.regs.now c.args.c.now.nodes c.touch.new.circuit.nodes c.add.new.circuit.nodes c.in_order.new.c.nodes c.args.t.now c.touch.new.self c.in_order.new.t c.in_ok-word.word c.in_ok-one.one c.in_ok-p.p c.in_ok-run.run' c.in_order.new.run c.requires.may c.in_ok-word.ensures.made c.in_ok-word.ensures.cells (c.in_ok-one.ensures ∙ ap (literal_bits 1) (c.from.ensures ∙ (ap (λ (s : Shape). s.a) c.shape-shape.ensures.numbers))) c.in_ok-p.ensures.made c.in_ok-run.ensures
    (done_as _ (sym_entry c.args.m.now.desc c.args.instr.now c.args.regs.now c.in_ok-word.word) c.as_slice.result.now c.args.instr.now.body (run_as c.add.new.circuit.nodes c.touch.new.self c.in_ok-run.run') c.touch.new.self c.in_order.new.c.nodes c.in_order.new.t c.in_order.new.run (entry_is c.args.m.now.desc c.args.instr.now c.args.regs.now c.in_ok-word.word c.shape-shape.result.now.w c.shape-shape.result.now.a c.as_bytes.result.now (ap (λ (s : Shape). s.w) c.shape-shape.ensures.numbers) (ap (λ (s : Shape). s.a) c.shape-shape.ensures.numbers) c.as_bytes.ensures) c.as_slice.ensures c.in_ok-in_order.ensures.made))
    c.outcome.ensures

pub returns-clause-view : goal.returns-clause-view
returns-clause-view c = view_done c.outcome.result _ c.in_order.new.c.nodes c.args.t.now c.touch.new.self c.in_order.new.t _ c.in_order.new.run c.in_ok-word.ensures.cells c.in_ok-in_order.ensures.made

pub returns-in_err-word-clause-kept : goal.returns-in_err-word-clause-kept
returns-in_err-word-clause-kept c = c.touch.ensures.grows.front

pub returns-in_err-word-clause-few : goal.returns-in_err-word-clause-few
returns-in_err-word-clause-few c = few_fetch _ _ _ _ (2 ^ 15) _ (omega arith) c.touch.ensures.few

pub returns-in_err-one-clause-kept : goal.returns-in_err-one-clause-kept
returns-in_err-one-clause-kept c = c.touch.ensures.grows.front

pub returns-in_err-one-clause-few : goal.returns-in_err-one-clause-few
returns-in_err-one-clause-few c = few_fetch _ _ _ _ (2 ^ 15) _ (omega arith) c.touch.ensures.few

pub returns-in_err-p-clause-kept : goal.returns-in_err-p-clause-kept
returns-in_err-p-clause-kept c = front_then _ _ _ c.touch.ensures.grows.front c.add.ensures.kept.front

pub returns-in_err-p-clause-few : goal.returns-in_err-p-clause-few
returns-in_err-p-clause-few c = few_fetched _ _ _ _ _ (2 ^ 15) (2 ^ 15) _ (omega arith) c.touch.ensures.few c.add.ensures.kept

pub returns-in_err-run-clause-kept : goal.returns-in_err-run-clause-kept
returns-in_err-run-clause-kept c = front_then _ _ _ c.touch.ensures.grows.front c.add.ensures.kept.front

pub returns-in_err-run-clause-few : goal.returns-in_err-run-clause-few
returns-in_err-run-clause-few c = few_fetched _ _ _ _ _ (2 ^ 15) (2 ^ 15) _ (omega arith) c.touch.ensures.few c.add.ensures.kept

pub returns-in_err-in_order-clause-kept : goal.returns-in_err-in_order-clause-kept
returns-in_err-in_order-clause-kept c = front_then _ _ _ (front_then _ _ _ c.touch.ensures.grows.front c.add.ensures.kept.front) c.in_order.ensures.kept

pub returns-clause-kept : goal.returns-clause-kept
returns-clause-kept c = front_then _ _ _ (front_then _ _ _ c.touch.ensures.grows.front c.add.ensures.kept.front) c.in_order.ensures.kept

pub returns-clause-few : goal.returns-clause-few
returns-clause-few c =
    few_run c.args.instr.now c.as_slice.result.now c.args.t.now.writes c.touch.new.self.writes _ _ _ (2 ^ 16) c.as_slice.ensures (ap (λ (v : View). v.writes) c.in_ok-word.ensures.cells)
    (few_fetched _ _ _ _ _ (2 ^ 15) (2 ^ 15) (2 ^ 16) (omega arith) c.touch.ensures.few c.add.ensures.kept) c.in_order.ensures.few

pub returns-in_err-in_order-clause-few : goal.returns-in_err-in_order-clause-few
returns-in_err-in_order-clause-few c =
    few_run c.args.instr.now c.as_slice.result.now c.args.t.now.writes c.touch.new.self.writes _ _ _ (2 ^ 16) c.as_slice.ensures (ap (λ (v : View). v.writes) c.in_ok-word.ensures.cells)
    (few_fetched _ _ _ _ _ (2 ^ 15) (2 ^ 15) (2 ^ 16) (omega arith) c.touch.ensures.few c.add.ensures.kept) c.in_order.ensures.few
