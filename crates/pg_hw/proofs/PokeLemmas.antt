-- Pokes of cell after cell, and a machine that is switched on.
use Rattle.std.proofs.Common.{◌≡◌, ℕ, ◌+◌, ◌-◌, List, length, refl, sym, ◌∙◌, ap, arith}
use Rattle.std.proofs.lemmas.List.{take_all, append-nil}
use Rattle.pg_word.specs.declared.psw.Psw.{Psw}
use Rattle.pg_word.specs.Psw.{power_on_psw}
use Rattle.pg_lang_meaning.specs.States.{State}
use Rattle.pg_lang_meaning.specs.Steps.{power_on}
use Rattle.pg_hw.specs.declared.counts.Counts.{Counts}
use Rattle.pg_hw.specs.Tallies.{Bottom, after_poke, after_load}
use Rattle.pg_hw.specs.Machinery.{Machinery, loaded_with}
use Rattle.pg_hw.specs.Running.{after_pokes, Poked}
use Rattle.pg_hw.proofs.TallyLaws.{raised_by-zero, raised_by-add}

pub after_pokes-none : (c : Counts) → c ≡ after_pokes c 0
after_pokes-none c = rw (raised_by-zero c.pokes) refl

pub after_pokes-next : (n : ℕ) (c : Counts) → after_poke (after_pokes c n) ≡ after_pokes c (n + 1)
after_pokes-next n c = rw (raised_by-add n 1 c.pokes) refl

-- a hardware all of whose cells were poked holds the words
Poked-all : (words : List ℕ) (old new : Machinery) → Poked words (length words) old new → length words ≡ length old.state.cells → new.state.cells ≡ words
Poked-all words old new p e =
    sym (take_all (length words) new.state.cells (omega (arith, p.size, e))) ∙ p.cells ∙ take_all (length words) words (omega arith)

power_on-of : (words : List ℕ) → record { cells = words; psw = power_on_psw (length words) } ≡ power_on words (length words)
unfolding power_on
power_on-of words =
    let none : length words - length words ≡ 0 = omega arith in
    rw (none, append-nil words) refl

-- and is switched on where the program status word of so many cells is loaded then
pub Poked-switched_on : (words : List ℕ) (old mid new : Machinery) (size : ℕ) (psw : Psw) → Poked words (length words) old mid → length words ≡ length old.state.cells →
    size ≡ length mid.state.cells → psw ≡ power_on_psw size → new ≡ loaded_with psw mid →
    new ≡ record old { state = power_on words (length words); tally = after_load (after_pokes old.tally (length words)) }
Poked-switched_on words old mid new size psw p e size_is psw_is is =
    let state : new.state ≡ power_on words (length words) =
    ap (λ (h : Machinery). h.state) is
    ∙ ap (λ xs. let s : State = record { cells = xs; psw = psw } in s) (Poked-all words old mid p e)
    ∙ ap (λ x. let s : State = record { cells = words; psw = x } in s) (psw_is ∙ ap power_on_psw (size_is ∙ p.size ∙ sym e))
    ∙ power_on-of words in
    let tally : new.tally ≡ after_load (after_pokes old.tally (length words)) = ap (λ (h : Machinery). h.tally) is ∙ ap after_load p.tally in
    same new old _ _ state tally (ap (λ (h : Machinery). h.bottom) is ∙ p.bottom)
  where
    same : (new old : Machinery) (s : State) (t : Counts) → new.state ≡ s → new.tally ≡ t → new.bottom ≡ old.bottom →
        new ≡ record old { state = s; tally = t }
    same new old s t a b c =
        ap (λ x. let h : Machinery = record { state = x; tally = new.tally; bottom = new.bottom } in h) a
        ∙ ap (λ x. let h : Machinery = record { state = s; tally = x; bottom = new.bottom } in h) b
        ∙ ap (λ (x : Bottom). let h : Machinery = record { state = s; tally = t; bottom = x } in h) c
