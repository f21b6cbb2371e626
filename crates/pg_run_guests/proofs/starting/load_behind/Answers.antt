use Rattle.std.proofs.Common.{◌≡◌, ◌∙◌, ◌+◌, ℕ, List, [], ◌∷◌, Option, length, ap, sym, subst, arith}
use Rattle.std.proofs.lemmas.List.Elements.{All-head}
use Rattle.pg_alloc.specs.Fit.{kept_cells}
use Rattle.pg_ast.specs.declared.tree.Desc.{Desc}
use Rattle.pg_mon_control.specs.declared.guest.Guest.{Guest}
use Rattle.pg_mon_control.specs.Guests.{grants_of}
use Rattle.pg_mon_control.specs.Standing.{Stands}
use Rattle.pg_hw.specs.Serving.{IsServed}
use Rattle.pg_mach_ready.specs.declared.machine.Machine.{Machine}
use Rattle.pg_lang_meaning.specs.States.{State, IsState}
use Rattle.pg_monitor.specs.Monitors.{desc_of, kept_by}
use Rattle.pg_run_guests.specs.Setting.{HaveRoom}
use Rattle.pg_type.specs.Listed.{state_of}
use Rattle.pg_word.proofs.SparseLemmas.{length-storage_of}
use Rattle.pg_run_guests.proofs.HeldLemmas.{state-small, behind-fits, behind-begun, behind-made}
use Rattle.pg_run_guests.proofs.starting.load_behind.Goals as goal

pub hold_before-requires-clause-none : goal.hold_before-requires-clause-none
hold_before-requires-clause-none g c = c.requires.no_more.granted ∙ ap grants_of c.requires.begun.guests

pub hold_before-requires-clause-fits : goal.hold_before-requires-clause-fits
hold_before-requires-clause-fits g c =
    let small = state-small (desc_of c.args.monitor.now) c.args.skip (state_of c.args.state.now) c.requires.fit in
    omega (arith, small.1)

pub load_state-requires-clause-state : goal.load_state-requires-clause-state
load_state-requires-clause-state g c =
    let s : State = state_of c.args.state.now in
    subst (λ (m : Machine). IsState m.desc s) (sym c.hold_before.ensures.machine) (All-head (IsState (desc_of c.args.monitor.now)) s [] c.requires.fit.each)

pub load_state-requires-clause-stands : goal.load_state-requires-clause-stands
load_state-requires-clause-stands g c =
    let before = c.args.monitor.now in
    let after = c.hold_before.new.monitor in
    let real = (g.H.Hardware.machinery c.args.hw.now).state in
    subst (λ (m : Machine). Stands m.desc real after.guests after.current) (sym c.hold_before.ensures.machine)
    (subst (λ (gs : List Guest). Stands (desc_of before) real gs after.current) (sym c.hold_before.ensures.guests)
    (subst (λ (k : Option ℕ). Stands (desc_of before) real before.guests k) (sym c.hold_before.ensures.current) c.requires.begun.stands))

-- there is room
pub unreachable-requires : goal.unreachable-requires
unreachable-requires g c =
    let state = c.args.state.now in
    behind-fits (desc_of c.args.monitor.now) c.args.skip state.size (state_of state) (kept_by c.hold_before.new.monitor) (ap (λ (m : Machine). m.desc) c.hold_before.ensures.machine)
    (sym (length-storage_of state.size state.cells)) c.requires.fit c.in-Ok.ensures.held (c.in-Err-NoRoom.ensures.no_room c.in-Err-NoRoom.field-0-is)

pub returns-in-Ok-load_state-clause-begun : goal.returns-in-Ok-load_state-clause-begun
returns-in-Ok-load_state-clause-begun g c =
    let s : State = state_of c.args.state.now in
    let desc = ap (λ (m : Machine). m.desc) c.hold_before.ensures.machine in
    behind-begun c.args.skip s (kept_by c.hold_before.new.monitor) (kept_by c.load_state.new.self) (g.H.Hardware.machinery c.args.hw.now) (g.H.Hardware.machinery c.load_state.new.hw)
    (record {
      fit = subst (λ (d : Desc). HaveRoom d (kept_cells + c.args.skip) (s ∷ [])) (sym desc) c.requires.fit;
      guests = c.hold_before.ensures.guests ∙ c.requires.begun.guests;
      current = c.hold_before.ensures.current ∙ c.requires.begun.current;
      held = c.in-Ok.ensures.held;
      admitted = c.in-Ok-load_state.ensures.admitted;
      stands = c.load_state.ensures.stands;
    })

pub returns-in-Ok-load_state-clause-made : goal.returns-in-Ok-load_state-clause-made
returns-in-Ok-load_state-clause-made g c =
    let s : State = state_of c.args.state.now in
    let desc = ap (λ (m : Machine). m.desc) c.hold_before.ensures.machine in
    behind-made c.args.skip s (kept_by c.hold_before.new.monitor) (kept_by c.load_state.new.self) (g.H.Hardware.machinery c.args.hw.now) (g.H.Hardware.machinery c.load_state.new.hw)
    (record {
      fit = subst (λ (d : Desc). HaveRoom d (kept_cells + c.args.skip) (s ∷ [])) (sym desc) c.requires.fit;
      guests = c.hold_before.ensures.guests ∙ c.requires.begun.guests;
      current = c.hold_before.ensures.current ∙ c.requires.begun.current;
      held = c.in-Ok.ensures.held;
      admitted = c.in-Ok-load_state.ensures.admitted;
      stands = c.load_state.ensures.stands;
    })
