use Rattle.std.proofs.Common.{◌≡◌, ℕ, ◌<◌, inl, inr, List, length, take, Some, slice_get, slice_set, slice_index_or, [], ◌∷◌, sym, ◌∙◌, ap, subst, arith, take_all}
use Rattle.std.proofs.lemmas.Bool.{cases_lt}
use Rattle.std.proofs.lemmas.List.{length-map, length-set, length-take-le}
use Rattle.std.proofs.lemmas.Option.{same_Some, slice_get-get_or, slice_get_within}
use Rattle.pg_mach_ready.specs.declared.machine.Machine.{Machine}
use Rattle.pg_mon_control.specs.Guests.{virtuals}
use Rattle.pg_mon_control.specs.Standing.{Stands}
use Rattle.pg_monitor.specs.Schedules.{Begun}
use Rattle.pg_monitor.proofs.ScheduleLemmas.{Begun-then}
use Rattle.pg_run_still.specs.declared.rounds.Rest.{Rest}
use Rattle.pg_run_still.specs.Rounds.{round_behind}
use Rattle.pg_run_still.specs.Resting.{AfterSlice, firsts}
use Rattle.pg_run_still.proofs.GoingLemmas.{no_turns, round-before, round-more, set-same, set-other}
use Rattle.pg_run_still.proofs.rounds.go_round.Goals as goal

pub loop-k-preserved : goal.loop-k-preserved
loop-k-preserved g c =
    let m = c.args.monitor.now.accepted.machine.now in
    let d = m.desc in
    let l = c.loop-k in
    let before = l.invariant in
    let same = ap (λ (x : Machine). x.desc) before.machine in
    let given = c.give_slice.ensures in
    let rests = l.rests in
    let within : l.k < length rests = omega (arith, before.count, c.loop-k-test.true) in
    let old = g.H.Hardware.machinery c.args.hw.now in
    let mid = g.H.Hardware.machinery l.hw in
    let new = g.H.Hardware.machinery c.give_slice.new.hw in
    let begun = subst (λ x. Begun x (round_behind c.args.done c.args.turns l.k (c.give_slice.result.still ∷ [])) mid new l.monitor.guests c.give_slice.new.monitor.guests l.monitor.current c.give_slice.new.monitor.current) same given.begun in
    record {
      machine = given.machine ∙ before.machine;
      granted = given.granted ∙ before.granted;
      stands = subst (λ x. Stands x new.state c.give_slice.new.monitor.guests c.give_slice.new.monitor.current) same given.stands;
      number = given.number ∙ before.number;
      fixed = given.fixed ∙ before.fixed;
      count = length-set rests l.k c.give_slice.result ∙ before.count;
      others = λ j behind. set-other rests l.k j c.give_slice.result (λ e. omega (arith, e, behind)) ∙ before.others j (omega (arith, behind));
      begun = subst (λ p. Begun d p old new c.args.monitor.now.guests c.give_slice.new.monitor.guests c.args.monitor.now.current c.give_slice.new.monitor.current)
          (round-more c.args.done c.args.turns l.k rests c.give_slice.result within)
          (Begun-then d (round_behind c.args.done c.args.turns 0 (firsts (take l.k rests))) (round_behind c.args.done c.args.turns l.k (c.give_slice.result.still ∷ []))
          old mid new c.args.monitor.now.guests l.monitor.guests c.give_slice.new.monitor.guests c.args.monitor.now.current l.monitor.current c.give_slice.new.monitor.current before.begun begun);
      each = λ j s x y below from is is'. elim (cases_lt j l.k) [
        | inl less ↦ before.each j s x y less from is (sym (set-other rests l.k j c.give_slice.result (λ e. omega (arith, e, less))) ∙ is')
        | inr more ↦
            let here : j ≡ l.k = omega (arith, below, more) in
            let fs = firsts (take l.k rests) in
            let long : length fs ≡ l.k = length-map (take l.k rests) (λ (z : Rest). z.still) ∙ length-take-le l.k rests (omega (arith, within)) in
            let from_here = subst (λ i. slice_get (virtuals old.state.cells c.args.monitor.now.guests) i ≡ Some s) here from in
            let there : slice_get (virtuals mid.state.cells l.monitor.guests) l.k ≡ Some s =
            round-before d c.args.done c.args.turns l.k fs old mid c.args.monitor.now.guests l.monitor.guests c.args.monitor.now.current l.monitor.current (omega (arith, long)) before.begun ∙ from_here in
            let x_is : rests_at rests l.k ≡ x = same_Some (rests_at rests l.k) x (sym (slice_get-get_or rests l.k no_turns within) ∙ before.others l.k (omega arith) ∙ subst (λ i. slice_get c.args.rests.now i ≡ Some x) here is) in
            let y_is : c.give_slice.result ≡ y = same_Some c.give_slice.result y (sym (set-same rests l.k c.give_slice.result within) ∙ subst (λ i. slice_get (slice_set rests l.k c.give_slice.result) i ≡ Some y) here is') in
            subst (λ z. AfterSlice d c.args.done c.args.turns s x z) y_is
            (subst (λ z. AfterSlice d c.args.done c.args.turns s z c.give_slice.result) x_is
            (subst (λ e. AfterSlice e c.args.done c.args.turns s (rests_at rests l.k) c.give_slice.result) same (given.rest s there)))
      ];
    }
  where
    rests_at : List Rest → ℕ → Rest
    rests_at rests k = slice_index_or rests k no_turns

pub returns-clause-round : goal.returns-clause-round
returns-clause-round g c =
    let l = c.loop-k in
    let before = l.invariant in
    let d = c.args.monitor.now.accepted.machine.now.desc in
    let all : take l.k l.rests ≡ l.rests = take_all l.k l.rests (omega (arith, before.count, c.loop-k-test.false)) in
    record {
      count = before.count;
      begun = subst (λ rs. Begun d (round_behind c.args.done c.args.turns 0 (firsts rs)) (g.H.Hardware.machinery c.args.hw.now) (g.H.Hardware.machinery l.hw) c.args.monitor.now.guests l.monitor.guests
          c.args.monitor.now.current l.monitor.current) all before.begun;
      each = λ j s x y from is is'. before.each j s x y (let within = slice_get_within l.rests j y is' in omega (arith, within, before.count, c.loop-k-test.false)) from is is';
    }
