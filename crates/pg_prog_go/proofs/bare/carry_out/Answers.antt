use Rattle.std.proofs.Common.{ℕ, List, inl, refl, sym, subst, arith}
use Rattle.pg_edge.specs.Sink.{Puts}
use Rattle.pg_edge.specs.declared.shelf.Failed.{Failed}
use Rattle.pg_cmd_base.specs.declared.status.Status.TheVariants.{Done}
use Rattle.pg_cmd_base.specs.World.{around}
use Rattle.pg_cmd_base.proofs.AbleLemmas.{size-small}
use Rattle.pg_cmd_base.proofs.CarryLemmas.{carries-done, carries-broken}
use Rattle.pg_lang_meaning.specs.Steps.{bare}
use Rattle.pg_run_still.specs.Bare.{CanStand, Stood, stood_text}
use Rattle.pg_run_still.specs.Running.{steps_of_rest}
use Rattle.pg_prog_go.specs.Bare.{bare_go_command}
use Rattle.pg_prog_go.specs.Plans.{bare_go}
use Rattle.pg_prog_go.proofs.BareLemmas.{stood-end, stood-said, stood-state, stood-views}
use Rattle.pg_prog_go.proofs.bare.carry_out.Goals as goal

pub run_bare_until_still-requires-clause-room : goal.run_bare_until_still-requires-clause-room
run_bare_until_still-requires-clause-room g c =
    let p = c.in-Ok.plan in
    let small = size-small p.machine.desc p.machine.valid in
    let most = p.can_stand.most in
    omega (arith, most, small, c.requires.able.room)

pub run_bare_until_still-requires-clause-can_stand : goal.run_bare_until_still-requires-clause-can_stand
run_bare_until_still-requires-clause-can_stand g c =
    let p = c.in-Ok.plan in
    subst (λ (xs : List ℕ). CanStand p.machine.desc p.grant xs) (sym c.as_slice-image.ensures) p.can_stand

-- memory was refused for its cells
pub returns-in-Err-run_bare_until_still-clause-carries : goal.returns-in-Err-run_bare_until_still-clause-carries
returns-in-Err-run_bare_until_still-clause-carries g c = record {
  by_class = inl (record {
    silent = refl;
    untouched = record {
      files = c.prepare_bare.ensures.reads.same_files;
      saves = c.prepare_bare.ensures.reads.same_saves;
      hw = c.in-Err-run_bare_until_still.ensures.refused;
    };
  });
}

pub put_stood-requires-clause-state : goal.put_stood-requires-clause-state
put_stood-requires-clause-state g c =
    let p = c.in-Ok.plan in
    let still = c.in-Ok-run_bare_until_still.still in
    let now = (g.H.Hardware.machinery c.run_bare_until_still.new.hw).state in
    let stood = subst (λ (xs : List ℕ). Stood p.machine.desc p.grant p.steps xs still now) c.as_slice-image.ensures c.in-Ok-run_bare_until_still.ensures.stood in
    stood-state (bare_go p) still now p.machine.valid p.can_stand stood

pub put_stood-requires-clause-views : goal.put_stood-requires-clause-views
put_stood-requires-clause-views g c =
    let p = c.in-Ok.plan in
    let still = c.in-Ok-run_bare_until_still.still in
    let now = (g.H.Hardware.machinery c.run_bare_until_still.new.hw).state in
    let stood = subst (λ (xs : List ℕ). Stood p.machine.desc p.grant p.steps xs still now) c.as_slice-image.ensures c.in-Ok-run_bare_until_still.ensures.stood in
    stood-views (g.F.Shelf.files c.args.shelf.now) c.args.words.now (bare_go p) c.as_slice-views.result.now still now p.machine.valid p.can_stand stood c.in-Ok.ensures.comes
    c.as_slice-views.ensures.value

pub returns-in-Ok-put_stood-clause-carries : goal.returns-in-Ok-put_stood-clause-carries
returns-in-Ok-put_stood-clause-carries g c =
    let p = c.in-Ok.plan in
    let r = bare_go p in
    let vs = c.args.words.now.views.items in
    let still = c.in-Ok-run_bare_until_still.still in
    let old = around g.F.Shelf g.S.Sink g.H.Hardware c.args.shelf.now c.args.out.now c.args.hw.now in
    let new = around g.F.Shelf g.S.Sink g.H.Hardware c.prepare_bare.new.shelf c.put_stood.new.out c.run_bare_until_still.new.hw in
    let stood = subst (λ (xs : List ℕ). Stood p.machine.desc p.grant p.steps xs still new.hw.state) c.as_slice-image.ensures c.in-Ok-run_bare_until_still.ensures.stood in
    let text = stood_text r.desc.word vs r.steps still (bare r.desc r.image r.grant (steps_of_rest r.steps still)) in
    let put : Puts {T = Unit {0}} {E = Failed} old.out.written new.out.written old.out.faults new.out.faults text c.put_stood.result =
    subst (λ t. Puts {T = Unit {0}} {E = Failed} old.out.written new.out.written old.out.faults new.out.faults t c.put_stood.result)
    (stood-said vs c.as_slice-views.result.now r still new.hw.state c.as_slice-views.ensures.value stood) c.put_stood.ensures in
    let whole = subst (λ x. Puts {T = Unit {0}} {E = Failed} old.out.written new.out.written old.out.faults new.out.faults text x) c.in-Ok-put_stood.is put in
    carries-done (bare_go_command c.args.words.now) old new r text c.in-Ok.ensures.comes
    (stood-end vs r still old new stood c.prepare_bare.ensures.reads.same_files c.prepare_bare.ensures.reads.same_saves) whole.whole

pub returns-clause-carries : goal.returns-clause-carries
returns-clause-carries g c =
    let p = c.in-Ok.plan in
    let r = bare_go p in
    let vs = c.args.words.now.views.items in
    let still = c.in-Ok-run_bare_until_still.still in
    let old = around g.F.Shelf g.S.Sink g.H.Hardware c.args.shelf.now c.args.out.now c.args.hw.now in
    let new = around g.F.Shelf g.S.Sink g.H.Hardware c.prepare_bare.new.shelf c.put_stood.new.out c.run_bare_until_still.new.hw in
    let stood = subst (λ (xs : List ℕ). Stood p.machine.desc p.grant p.steps xs still new.hw.state) c.as_slice-image.ensures c.in-Ok-run_bare_until_still.ensures.stood in
    let text = stood_text r.desc.word vs r.steps still (bare r.desc r.image r.grant (steps_of_rest r.steps still)) in
    let put : Puts {T = Unit {0}} {E = Failed} old.out.written new.out.written old.out.faults new.out.faults text c.put_stood.result =
    subst (λ t. Puts {T = Unit {0}} {E = Failed} old.out.written new.out.written old.out.faults new.out.faults t c.put_stood.result)
    (stood-said vs c.as_slice-views.result.now r still new.hw.state c.as_slice-views.ensures.value stood) c.put_stood.ensures in
    let broken = subst (λ x. Puts {T = Unit {0}} {E = Failed} old.out.written new.out.written old.out.faults new.out.faults text x) c.in-Err-put_stood.is put in
    carries-broken (bare_go_command c.args.words.now) old new r Done text c.in-Ok.ensures.comes
    (stood-end vs r still old new stood c.prepare_bare.ensures.reads.same_files c.prepare_bare.ensures.reads.same_saves) (record { cause = broken.cause; front = broken.front })
