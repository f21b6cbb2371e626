use Rattle.std.proofs.Common.{List, ap, ◌++◌, ◌∙◌, length}
use Rattle.std.specs.Prelude.{ℕ, codes}
use Rattle.std.proofs.lemmas.Result.{on_ok_weaker}
use Rattle.pg_out_steps.specs.Lines.{count_line, met_line, instr_lines, counts_text}
use Rattle.pg_out_steps.proofs.TraceLemmas.{pushed}
use Rattle.pg_out_steps.proofs.counts.push_counts.Goals as goal

pub returns : goal.returns
unfolding counts_text
returns c =
    let d = c.args.m.now.desc in
    let t = c.args.tally.now in
    let before = c.args.text.now.items in
    let instrs = c.push_instrs.new.text.items in
    let met = c.push_met.new.text.items in
    let memory = c.push_count.new.text.items in
    let trap = c.push_count-2.new.text.items in
    let no_pattern = c.push_count-3.new.text.items in
    let all = c.push_count-4.new.text.items in
    let steps = count_line (codes "steps") t.steps in
    let no_patterns = count_line (codes "trap (no pattern)") t.no_pattern in
    let traps = count_line (codes "trap (trap)") t.trap in
    let memories = count_line (codes "trap (memory)") t.memory in
    let others = met_line (codes "no instr") t.others in
    on_ok_weaker c.push_count-4.result
    (λ last. pushed before instrs all (instr_lines d t.instrs.items (length d.instrs)) (others ++ (memories ++ (traps ++ (no_patterns ++ steps))))
    (c.in_ok-push_instrs.ensures ∙ ap (λ (counts : List ℕ). before ++ instr_lines d counts (length d.instrs)) c.as_slice.ensures.value)
    (pushed instrs met all others (memories ++ (traps ++ (no_patterns ++ steps))) c.in_ok-push_met.ensures
    (pushed met memory all memories (traps ++ (no_patterns ++ steps)) c.in_ok-push_count.ensures
    (pushed memory trap all traps (no_patterns ++ steps) c.in_ok-push_count-2.ensures
    (pushed trap no_pattern all no_patterns steps c.in_ok-push_count-3.ensures last)))))
    c.push_count-4.ensures
