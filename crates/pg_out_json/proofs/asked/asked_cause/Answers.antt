use Rattle.std.proofs.Common.{◌+◌, ◌≤◌, length, sym, subst, arith}
use Rattle.pg_word.specs.Psw.{IsPsw}
use Rattle.pg_mon_control.proofs.StateLemmas.{composed-fits}
use Rattle.pg_out_json.proofs.asked.asked_cause.Goals as goal

pub step_in-ended-requires-clause-fields : goal.step_in-ended-requires-clause-fields
step_in-ended-requires-clause-fields g c =
    let d = c.args.m.now.desc in
    let s = (g.H.Hardware.machinery c.args.hw.now).state in
    let within : 0 + length s.cells ≤ d.size = omega (arith, c.requires.state.size_most) in
    subst (IsPsw d.address) (sym c.guest_psw-psw.ensures) (composed-fits d s.psw 0 (length s.cells) c.args.m.now.valid within c.requires.state.fields)
