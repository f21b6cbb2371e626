use Rattle.std.proofs.Common.{◌++◌, ◌∙◌, ap, length}
use Rattle.pg_out_steps.proofs.TraceLemmas.{pushed}
use Rattle.pg_out_steps.specs.Dump.{begin_text, head_text, instrs_text, scope_end_text, scope_text, signals_text}
use Rattle.pg_out_steps.specs.Values.{signals_of}
use Rattle.pg_out_steps.proofs.head.push_head.Goals as goal

pub returns : goal.returns
unfolding head_text
returns c =
    let d = c.args.m.now.desc in
    let before = c.args.text.now.items in
    let begun = c.extend_from_slice.new.self.items in
    let listed = c.push_instrs.new.text.items in
    let scoped = c.extend_from_slice-2.new.self.items in
    let all = c.extend_from_slice-3.new.self.items in
    let instrs = instrs_text d (length d.instrs) in
    let signals = signals_text (signals_of c.args.monitor) in
    pushed before begun all begin_text (instrs ++ (scope_text ++ (signals ++ scope_end_text))) c.in_ok-extend_from_slice.ensures.items
    (pushed begun listed all instrs (scope_text ++ (signals ++ scope_end_text)) c.in_ok-push_instrs.ensures
    (pushed listed scoped all scope_text (signals ++ scope_end_text) c.in_ok-extend_from_slice-2.ensures.items
    (pushed scoped c.push_signals.new.text.items all signals scope_end_text (c.in_ok-push_signals.ensures ∙ ap (λ ss. scoped ++ signals_text ss) c.signals_of.ensures)
    c.in_ok-extend_from_slice-3.ensures.items)))
