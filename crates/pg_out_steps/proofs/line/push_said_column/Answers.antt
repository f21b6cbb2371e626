use Rattle.std.proofs.Common.{rules, ◌≡◌, ◌-◌, ◌++◌, length, length-append, ap, ◌∙◌, arith}
use Rattle.std.specs.Prelude.{vec_len}
use Rattle.std.proofs.lemmas.Result.{on_ok_weaker}
use Rattle.pg_out_steps.specs.Lines.{filling, said_text}
use Rattle.pg_out_steps.proofs.TraceLemmas.{pushed}
use Rattle.pg_out_steps.proofs.line.push_said_column.Goals as goal

pub returns : goal.returns
returns c =
    let said = said_text c.args.m.now.desc c.args.word c.args.instr in
    let before : vec_len c.args.text.now ≡ length c.args.text.now.items = search rules in
    let behind : vec_len c.push_said.new.text ≡ length c.push_said.new.text.items = search rules in
    let len : c.len.result - c.len-begun.result ≡ length said =
    omega (arith, c.len.ensures, c.len-begun.ensures, before, behind, ap length c.in_ok-push_said.ensures, length-append c.args.text.now.items said) in
    on_ok_weaker c.push_filling.result (λ last. pushed _ _ _ _ _ c.in_ok-push_said.ensures (last ∙ ap (λ n. c.push_said.new.text.items ++ filling 24 n) len)) c.push_filling.ensures
