-- Words that are poked into a grant, and a monitor that takes a storage.
use Rattle.std.proofs.Common.{◌≡◌, ℕ, ◌+◌, ◌-◌, ◌*◌, ◌<◌, ◌≤◌, ◌^◌, Bool, true, false, pow_mono, List, [], ◌∷◌, ◌++◌, length, take, drop, replicate, All, None, Some, slice_set, slice_get, refl, sym, ◌∙◌, ap, subst, arith, append_assoc, length-append}
use Rattle.std.proofs.lemmas.List.{append-nil, take-append-drop, length-take-le, set-append_right, drop_more, length-set, get_or-set_same}
use Rattle.std.proofs.lemmas.Option.{slice_get-get_or}
use Rattle.std.proofs.lemmas.List.Elements.{All-nil, All-set}
use Rattle.pg_word.specs.declared.shape.Shape.{Shape}
use Rattle.pg_word.specs.declared.psw.Psw.{Psw}
use Rattle.pg_word.specs.Psw.{IsPsw, packed, power_on_psw}
use Rattle.pg_word.specs.Shape.{bits_above}
use Rattle.pg_ast.specs.declared.tree.Desc.{Desc}
use Rattle.pg_mach_ready.specs.declared.machine.Machine.{Machine}
use Rattle.pg_lang_meaning.specs.States.{State, IsState, shape_of}
use Rattle.pg_lang_meaning.specs.Steps.{power_on}
use Rattle.pg_lang_valid.specs.Valid.{IsValid}
use Rattle.pg_lang_valid.proofs.ValidFacts.{IsShape-of_valid}
use Rattle.pg_hw.specs.Tallies.{after_poke}
use Rattle.pg_hw.specs.Machinery.{Machinery, poked_at}
use Rattle.pg_hw.specs.Running.{after_pokes}
use Rattle.pg_hw.proofs.PokeLemmas.{after_pokes-none, after_pokes-next}
use Rattle.pg_routine.specs.Granting.{with_grant}
use Rattle.pg_mon_control.specs.Guests.{IsGrant}
use Rattle.pg_mon_control.specs.Standing.{Stands}
use Rattle.pg_mon_control.specs.Loading.{with_words}

-- ---- words, poked one after another

grant_none : (cells : List ℕ) (base : ℕ) → with_grant cells base [] ≡ cells
grant_none cells base =
    let end : base + 0 ≡ base = omega arith in
    ap (λ xs. xs ++ drop (base + 0) cells) (append-nil (take base cells)) ∙ ap (λ n. take base cells ++ drop n cells) end ∙ take-append-drop base cells

grant_more : (cells new : List ℕ) (base w : ℕ) → base + length new < length cells →
    slice_set (with_grant cells base new) (base + length new) w ≡ with_grant cells base (new ++ w ∷ [])
grant_more cells new base w within =
    let front = length-take-le base cells (omega arith) in
    let both : length (take base cells ++ new) ≡ base + length new = length-append (take base cells) new ∙ omega (arith, front) in
    let first : base + length new - (base + length new) ≡ 0 = omega arith in
    let next : base + length (new ++ w ∷ []) ≡ base + length new + 1 = omega (arith, length-append new (w ∷ [])) in
    set-append_right (take base cells ++ new) (drop (base + length new) cells) (base + length new) (base + length new) w both (omega arith)
    ∙ ap (λ n. take base cells ++ new ++ slice_set (drop (base + length new) cells) n w) first
    ∙ ap (λ xs. take base cells ++ new ++ slice_set xs 0 w) (drop_more cells (base + length new) 0 within)
    ∙ ap (λ n. take base cells ++ new ++ w ∷ drop n cells) (sym next)
    ∙ regroup (take base cells) new w (drop (base + length (new ++ w ∷ [])) cells)
  where
    regroup : (a b : List ℕ) (w : ℕ) (c : List ℕ) → (a ++ b) ++ w ∷ c ≡ (a ++ (b ++ w ∷ [])) ++ c
    regroup a b w c = sym (ap (λ xs. xs ++ c) (sym (append_assoc a b (w ∷ []))) ∙ append_assoc (a ++ b) (w ∷ []) c)

pub with_words-none : (base : ℕ) (h : Machinery) → h ≡ with_words base [] h
with_words-none base h =
    ap (λ xs. let k : Machinery = record h { state = record h.state { cells = xs } } in k) (sym (grant_none h.state.cells base))
    ∙ ap (λ c. let k : Machinery = record h { state = record h.state { cells = with_grant h.state.cells base [] }; tally = c } in k) (after_pokes-none h.tally)

pub with_words-next : (base : ℕ) (words : List ℕ) (n word : ℕ) (old mid new : Machinery) → mid ≡ with_words base (take n words) old → n < length words →
    base + length words ≤ length old.state.cells → take (n + 1) words ≡ take n words ++ word ∷ [] → new ≡ poked_at (base + n) word mid →
    new ≡ with_words base (take (n + 1) words) old
with_words-next base words n word old mid new p few within one more =
    let len : length (take n words) ≡ n = length-take-le n words (omega arith) in
    more ∙ ap (poked_at (base + n) word) p
    ∙ ap (λ k. poked_at (base + k) word (with_words base (take n words) old)) (sym len)
    ∙ ap (λ xs. let h : Machinery = record old { state = record old.state { cells = xs }; tally = after_poke (after_pokes old.tally (length (take n words))) } in h)
    (grant_more old.state.cells (take n words) base word (omega (arith, len)))
    ∙ ap (λ c. let h : Machinery = record old { state = record old.state { cells = with_grant old.state.cells base (take n words ++ word ∷ []) }; tally = c } in h)
    (after_pokes-next (length (take n words)) old.tally ∙ ap (after_pokes old.tally) (sym (length-append (take n words) (word ∷ []))))
    ∙ ap (λ xs. with_words base xs old) (sym one)

-- ---- a monitor that takes the storage

-- the word that a trap loads is a word
pub control-word : (d : Desc) (word : ℕ) → IsValid d → word < 2 ^ (3 * d.address + 1) → word < 2 ^ d.word
control-word d word valid h =
    let shape = IsShape-of_valid d valid in
    let few : 3 * d.address + 1 ≤ d.word = bits_few d.causes (3 * d.address) d.word shape.psw_fits in
    let most : 2 ^ (3 * d.address + 1) ≤ 2 ^ d.word = pow_mono few in
    omega (arith, most)
  where
    bits_few : (b : Bool) (n w : ℕ) → n + bits_above b ≤ w → n + 1 ≤ w
    bits_few true n w h = omega arith
    bits_few false n w h = h

pub Stands-new : (d : Desc) (before after : Machinery) (word : ℕ) → IsValid d → IsState d before.state → length before.state.cells ≡ d.size → after ≡ poked_at 1 word before →
    word ≡ packed d.address (power_on_psw d.size) → word < 2 ^ d.word → Stands d after.state [] None
Stands-new d before after word valid h size poked word_is fits =
    let old = before.state in
    let now = after.state in
    let is : now ≡ record old { cells = slice_set old.cells 1 word } = ap (λ (x : Machinery). x.state) poked in
    let same : length now.cells ≡ length old.cells = ap (λ (t : State). length t.cells) is ∙ length-set old.cells 1 word in
    let fields : IsPsw d.address now.psw = subst (λ (t : State). IsPsw d.address t.psw) (sym is) h.fields in
    record {
      stands = record {
        size = same ∙ size;
        grants = All-nil (IsGrant d.size);
        disjoint = tt;
        guests = refl;
        control = ap (λ (t : State). slice_get t.cells 1) is
            ∙ slice_get-get_or (slice_set old.cells 1 word) 1 0 (omega (arith, length-set old.cells 1 word, h.size_least))
            ∙ ap Some (get_or-set_same old.cells 1 word 0 (omega (arith, h.size_least)) ∙ word_is);
        under = tt;
      };
      real_state = record {
        size_least = omega (arith, same, h.size_least);
        size_most = omega (arith, same, h.size_most);
        words = subst (λ (t : State). All (λ c. c < 2 ^ d.word) t.cells) (sym is) (All-set (λ c. c < 2 ^ d.word) old.cells 1 word fits h.words);
        fields = fields;
      };
      virtual_states = All-nil (IsState d);
    }

-- ---- an image that a machine is switched on with

pub power_on-whole : (image : List ℕ) → power_on image (length image) ≡ record { cells = image; psw = power_on_psw (length image) }
unfolding power_on
power_on-whole image =
    let none : length image - length image ≡ 0 = omega arith in
    ap (λ (k : ℕ). let t : State = record { cells = image ++ replicate k 0; psw = power_on_psw (length image) } in t) none
    ∙ ap (λ xs. let t : State = record { cells = xs; psw = power_on_psw (length image) } in t) (append-nil image)

-- ---- the shape of the machine

pub shape-same : (shape : Shape) (m n : Machine) → shape ≡ shape_of m.desc → m ≡ n → shape ≡ shape_of n.desc
shape-same shape m n is same = is ∙ ap (λ (x : Machine). shape_of x.desc) same

pub control-is : (d : Desc) (shape : Shape) (word : ℕ) (psw : Psw) → shape ≡ shape_of d → word ≡ packed shape.a psw → psw ≡ power_on_psw shape.q → word ≡ packed d.address (power_on_psw d.size)
control-is d shape word psw same is psw_is =
    is ∙ ap (packed shape.a) psw_is ∙ ap (λ (s : Shape). packed s.a (power_on_psw s.q)) same
