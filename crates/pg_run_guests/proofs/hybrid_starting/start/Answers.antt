use Rattle.std.proofs.Common.{◌∙◌, ℕ, ap, sym, subst, length, take, arith}
use Rattle.pg_word.specs.declared.shape.Shape.{Shape}
use Rattle.pg_word.specs.Psw.{packed, power_on_psw}
use Rattle.pg_lang_meaning.specs.States.{IsState}
use Rattle.pg_lang_valid.proofs.ValidFacts.{IsShape-of_valid}
use Rattle.pg_hw.specs.Machinery.{Machinery, poked_at}
use Rattle.pg_hw.specs.Serving.{blank}
use Rattle.pg_hw.proofs.ServingLaws.{blank-state}
use Rattle.pg_alloc.specs.Fit.{kept_cells}
use Rattle.pg_mon_control.proofs.LoadLemmas.{shape-same}
use Rattle.pg_run_guests.specs.Runs.{switched_on}
use Rattle.pg_run_guests.specs.Setting.{Loaded, loaded_from}
use Rattle.pg_run_guests.proofs.SettingLemmas.{blank-size}
use Rattle.pg_run_guests.proofs.hybrid_starting.start.Goals as goal

pub new-requires-clause-size : goal.new-requires-clause-size
new-requires-clause-size g c =
    let q = ap (λ (s : Shape). s.q) (shape-same _ _ _ c.shape.ensures.numbers c.machine.ensures.same) in
    ap (λ (h : Machinery). length h.state.cells) c.in-Ok.ensures.installed ∙ blank-size c.shape.result.now.q ∙ q

pub new-requires-clause-state : goal.new-requires-clause-state
new-requires-clause-state g c =
    let m = c.args.accepted.machine.now in
    let q = ap (λ (s : Shape). s.q) (shape-same _ _ _ c.shape.ensures.numbers c.machine.ensures.same) in
    let shape = IsShape-of_valid m.desc m.valid in
    subst (IsState m.desc) (sym (ap (λ (h : Machinery). h.state) c.in-Ok.ensures.installed))
    (blank-state m.desc c.shape.result.now.q m.valid (omega (arith, q, shape.size_least)) (omega (arith, q)))

pub returns-clause-set_up : goal.returns-clause-set_up
returns-clause-set_up g c =
    let m = c.args.accepted.machine.now in
    let d = m.desc in
    let old = g.H.Hardware.machinery c.args.hw.now in
    let q = ap (λ (s : Shape). s.q) (shape-same _ _ _ c.shape.ensures.numbers c.machine.ensures.same) in
    let of_size : ℕ → Machinery = λ k. record old { state = blank k } in
    let installed = c.in-Ok.ensures.installed ∙ ap of_size q in
    let some = c.in-Err-load_all.ensures.refused in
    Loaded some.some (some.loaded ∙ ap (loaded_from kept_cells (take some.some (switched_on c.args.images.now))) (c.in-Ok-new.ensures.taken ∙ ap (poked_at 1 (packed d.address (power_on_psw d.size))) installed))
