use Rattle.std.proofs.Common.{◌≡◌, ◌+◌, All, None, List, ◌++◌, take, drop, length, refl, sym, ◌∙◌, ap, subst, arith}
use Rattle.std.proofs.lemmas.List.{length-map, take-append-le, take_all}
use Rattle.std.proofs.lemmas.List.Elements.{All-same}
use Rattle.pg_mach_ready.specs.declared.machine.Machine.{Machine}
use Rattle.pg_mon_control.proofs.GuestLemmas.{All-at}
use Rattle.pg_mon_control.specs.Guests.{virtual, virtuals}
use Rattle.pg_mon_control.specs.Standing.{Stands}
use Rattle.pg_run_still.specs.declared.rounds.Rest.{Rest}
use Rattle.pg_run_still.specs.Resting.{AfterRound, IsBefore}
use Rattle.pg_run_still.proofs.GoingLemmas.{Going, Going-none, Going-before, Going-round, Going-end}
use Rattle.pg_run_still.proofs.rounds.run_rounds.Goals as goal

-- the guests of a list that was lent and given back
refilled : (xs ys : List Rest) → length ys ≡ length xs → take (length xs) (ys ++ drop (length ys) xs) ≡ ys
refilled xs ys same = take-append-le (length xs) ys (drop (length ys) xs) (omega (arith, same)) ∙ take_all (length xs) ys (omega (arith, same))

pub loop-done-init : goal.loop-done-init
loop-done-init g c =
    let m = c.args.monitor.now.accepted.machine.now in
    record {
      machine = refl;
      granted = refl;
      stands = c.requires.stands;
      number = refl;
      fixed = refl;
      most = omega arith;
      going = Going-none m.desc c.args.slice c.args.steps (g.H.Hardware.machinery c.args.hw.now) c.args.monitor.now.guests c.args.monitor.now.current c.none_had-rests.result.items
          (c.none_had-rests.ensures.count ∙ c.len.ensures) c.none_had-rests.ensures.each;
    }

pub go_round-requires-clause-before : goal.go_round-requires-clause-before
go_round-requires-clause-before g c =
    let m = c.args.monitor.now.accepted.machine.now in
    let before = c.loop-done.invariant in
    let old = g.H.Hardware.machinery c.args.hw.now in
    All-same (λ (rest : Rest). IsBefore c.loop-done.done rest.still) _ _ c.as_mut_slice.ensures.value
    (Going-before m.desc c.args.slice c.args.steps c.loop-done.done _ _ c.args.monitor.now.guests _ _ _ _ (length-map c.args.monitor.now.guests (virtual old.state.cells)) before.going)

pub returns-then-not-is_any_going-clause-ran : goal.returns-then-not-is_any_going-clause-ran
returns-then-not-is_any_going-clause-ran g c =
    let m = c.args.monitor.now.accepted.machine.now in
    let before = c.loop-done.invariant in
    let old = g.H.Hardware.machinery c.args.hw.now in
    let none : All (λ (rest : Rest). rest.still ≡ None → ⊥) c.loop-done.rests.items =
    All-same (λ (rest : Rest). rest.still ≡ None → ⊥) _ _ (sym c.as_slice-in-loop-done.ensures.value) (c.is_any_going.ensures.none c.if-not-is_any_going.true) in
    Going-end m.desc c.args.slice c.args.steps c.loop-done.done _ _ c.args.monitor.now.guests _ _ _ _ (length-map c.args.monitor.now.guests (virtual old.state.cells)) before.going
    (λ rest held on. absurd (All-at (λ (r : Rest). r.still ≡ None → ⊥) c.loop-done.rests.items held.0 rest none held.1 on))

pub returns-clause-ran : goal.returns-clause-ran
returns-clause-ran g c =
    let m = c.args.monitor.now.accepted.machine.now in
    let before = c.loop-done.invariant in
    let old = g.H.Hardware.machinery c.args.hw.now in
    Going-end m.desc c.args.slice c.args.steps c.loop-done.done _ _ c.args.monitor.now.guests _ _ _ _ (length-map c.args.monitor.now.guests (virtual old.state.cells)) before.going
    (λ rest held on. omega (arith, before.most, c.loop-done-test.false))

pub loop-done-preserved : goal.loop-done-preserved
loop-done-preserved g c =
    let m = c.args.monitor.now.accepted.machine.now in
    let before = c.loop-done.invariant in
    let same = ap (λ (x : Machine). x.desc) before.machine in
    let old = g.H.Hardware.machinery c.args.hw.now in
    let mid = g.H.Hardware.machinery c.loop-done.hw in
    let new = g.H.Hardware.machinery c.go_round.new.hw in
    let round = subst (λ xs. AfterRound m.desc c.loop-done.done c.min-turns.result mid new c.loop-done.monitor.guests c.go_round.new.monitor.guests c.loop-done.monitor.current c.go_round.new.monitor.current xs c.go_round.new.rests) c.as_mut_slice.ensures.value
    (subst (λ x. AfterRound x c.loop-done.done c.min-turns.result mid new c.loop-done.monitor.guests c.go_round.new.monitor.guests c.loop-done.monitor.current c.go_round.new.monitor.current c.as_mut_slice.result.now c.go_round.new.rests) same c.go_round.ensures.round) in
    let long = length-map c.args.monitor.now.guests (virtual old.state.cells) in
    let long' : length (virtuals mid.state.cells c.loop-done.monitor.guests) ≡ length c.args.monitor.now.guests = length-map c.loop-done.monitor.guests (virtual mid.state.cells) ∙ before.number in
    record {
      machine = c.go_round.ensures.machine ∙ before.machine;
      granted = c.go_round.ensures.granted ∙ before.granted;
      stands = subst (λ x. Stands x new.state c.go_round.new.monitor.guests c.go_round.new.monitor.current) same c.go_round.ensures.stands;
      number = c.go_round.ensures.number ∙ before.number;
      fixed = c.go_round.ensures.fixed ∙ before.fixed;
      most = omega (arith, c.min-turns.ensures, before.most);
      going = subst (Going m.desc c.args.slice c.args.steps (c.loop-done.done + c.min-turns.result) old new c.args.monitor.now.guests c.go_round.new.monitor.guests c.args.monitor.now.current c.go_round.new.monitor.current)
          (sym (refilled c.loop-done.rests.items c.go_round.new.rests (round.count)))
          (Going-round m.desc c.args.slice c.args.steps c.loop-done.done c.min-turns.result old mid new c.args.monitor.now.guests c.loop-done.monitor.guests c.go_round.new.monitor.guests c.args.monitor.now.current c.loop-done.monitor.current
          c.go_round.new.monitor.current c.loop-done.rests.items c.go_round.new.rests long long' c.loop-done-test.true c.min-turns.ensures before.going round);
    }
