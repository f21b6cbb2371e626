use Rattle.std.proofs.Common.{◌≡◌, ◌+◌, ◌≤◌, ◌++◌, ◌∙◌, ap, subst, take, drop, get_or, length, List, ℕ, Ok, Err, arith}
use Rattle.std.proofs.lemmas.List.{length-map, take_all}
use Rattle.std.proofs.lemmas.Option.{slice_get-get_or}
use Rattle.pg_edge.specs.Sink.{Puts}
use Rattle.pg_edge.specs.declared.shelf.Failed.{Failed}
use Rattle.pg_edge.proofs.PutsLaws.{Puts-then, Puts-stopped}
use Rattle.pg_lang_meaning.specs.States.{State}
use Rattle.pg_mon_control.specs.Guests.{virtual, virtuals}
use Rattle.pg_run_guests.proofs.TellLemmas.{no_guest, virtuals-of}
use Rattle.pg_run_still.specs.declared.rounds.Rest.{Rest}
use Rattle.pg_run_still.specs.Running.{rests_text}
use Rattle.pg_run_still.specs.Views.{guest_text}
use Rattle.pg_run_still.proofs.GoingLemmas.{no_turns}
use Rattle.pg_run_still.proofs.TellLemmas.{told-next, told-front}
use Rattle.pg_run_still.proofs.telling.put_guests.Goals as goal

pub loop-k-preserved : goal.loop-k-preserved
loop-k-preserved g c =
    let w = c.args.machine.now.desc.word in
    let vs = c.args.views.now in
    let cells = (g.H.Hardware.machinery c.args.hw.now).state.cells in
    let states = virtuals cells c.args.guests.now in
    let rests = c.args.rests.now in
    let k = c.loop-k.k in
    let x = get_or c.args.guests.now k no_guest in
    let rest = get_or rests k no_turns in
    let rest_is = slice_get-get_or rests k no_turns (omega (arith, c.requires.count, c.loop-k-test.true)) in
    let before = rests_text w vs 0 (take k states) (take k rests) in
    record {
      put = subst (λ t. Puts {T = Unit {0}} {E = Failed} (g.S.Sink.written c.args.out.now) (g.S.Sink.written c.put_one.new.out) (g.S.Sink.faults c.args.out.now) (g.S.Sink.faults c.put_one.new.out) t (Ok tt))
          (ap (λ (h : List ℕ). before ++ (h ++ guest_text w vs (virtual cells x))) c.head_of.ensures
          ∙ told-next w vs states rests k (virtual cells x) rest (virtuals-of cells c.args.guests.now k c.loop-k-test.true) rest_is)
          (Puts-then _ _ _ _ _ _ before (c.head_of.result.items ++ guest_text w vs (virtual cells x)) tt (Ok tt) c.loop-k.invariant.put c.in-Ok.ensures);
    }

-- a guest's text was not put whole, and what stands behind it was not begun
pub returns-in-Err : goal.returns-in-Err
returns-in-Err g c =
    let w = c.args.machine.now.desc.word in
    let vs = c.args.views.now in
    let cells = (g.H.Hardware.machinery c.args.hw.now).state.cells in
    let states = virtuals cells c.args.guests.now in
    let rests = c.args.rests.now in
    let k = c.loop-k.k in
    let x = get_or c.args.guests.now k no_guest in
    let rest = get_or rests k no_turns in
    let rest_is = slice_get-get_or rests k no_turns (omega (arith, c.requires.count, c.loop-k-test.true)) in
    let before = rests_text w vs 0 (take k states) (take k rests) in
    let within : k + 1 ≤ length states = (let len = length-map c.args.guests.now (virtual cells) in omega (arith, len, c.loop-k-test.true)) in
    let same : length rests ≡ length states = (let len = length-map c.args.guests.now (virtual cells) in omega (arith, len, c.requires.count)) in
    let front : Puts {T = Unit {0}} {E = Failed} (g.S.Sink.written c.args.out.now) (g.S.Sink.written c.put_one.new.out) (g.S.Sink.faults c.args.out.now) (g.S.Sink.faults c.put_one.new.out)
    (rests_text w vs 0 (take (k + 1) states) (take (k + 1) rests)) (Err c.in-Err.failed) =
    subst (λ t. Puts {T = Unit {0}} {E = Failed} (g.S.Sink.written c.args.out.now) (g.S.Sink.written c.put_one.new.out) (g.S.Sink.faults c.args.out.now) (g.S.Sink.faults c.put_one.new.out) t (Err c.in-Err.failed))
    (ap (λ (h : List ℕ). before ++ (h ++ guest_text w vs (virtual cells x))) c.head_of.ensures
    ∙ told-next w vs states rests k (virtual cells x) rest (virtuals-of cells c.args.guests.now k c.loop-k-test.true) rest_is)
    (Puts-then _ _ _ _ _ _ before (c.head_of.result.items ++ guest_text w vs (virtual cells x)) tt (Err c.in-Err.failed) c.loop-k.invariant.put c.in-Err.ensures) in
    subst (λ t. Puts {T = Unit {0}} {E = Failed} (g.S.Sink.written c.args.out.now) (g.S.Sink.written c.put_one.new.out) (g.S.Sink.faults c.args.out.now) (g.S.Sink.faults c.put_one.new.out) t (Err c.in-Err.failed))
    (told-front w vs states rests (k + 1) within same)
    (Puts-stopped _ _ _ _ (rests_text w vs 0 (take (k + 1) states) (take (k + 1) rests)) (rests_text w vs (k + 1) (drop (k + 1) states) (drop (k + 1) rests))
    c.in-Err.failed c.in-Err.failed front)

pub returns : goal.returns
returns g c =
    let w = c.args.machine.now.desc.word in
    let vs = c.args.views.now in
    let cells = (g.H.Hardware.machinery c.args.hw.now).state.cells in
    let states = virtuals cells c.args.guests.now in
    let rests = c.args.rests.now in
    let k = c.loop-k.k in
    let len = length-map c.args.guests.now (virtual cells) in
    let all : take k states ≡ states = take_all k states (omega (arith, len, c.loop-k-test.false)) in
    let all' : take k rests ≡ rests = take_all k rests (omega (arith, c.requires.count, c.loop-k-test.false)) in
    subst (λ t. Puts {T = Unit {0}} {E = Failed} (g.S.Sink.written c.args.out.now) (g.S.Sink.written c.loop-k.out) (g.S.Sink.faults c.args.out.now) (g.S.Sink.faults c.loop-k.out) t (Ok tt))
    (ap (λ (ss : List State). rests_text w vs 0 ss (take k rests)) all ∙ ap (λ (rs : List Rest). rests_text w vs 0 states rs) all') c.loop-k.invariant.put
