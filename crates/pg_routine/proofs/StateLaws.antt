-- Guests and storages stay at states, and a guest keeps its size.
use Rattle.std.proofs.Common.{◌≡◌, ℕ, ◌+◌, ◌<◌, ◌≤◌, ◌^◌, List, ◌++◌, length, take, drop, refl, sym, ◌∙◌, ap, arith}
use Rattle.std.proofs.lemmas.List.{length-take-le, length-append, length-drop, take_at, drop_at, append_assoc}
use Rattle.std.proofs.lemmas.List.Elements.{All-append, All-take, All-drop}
use Rattle.pg_word.specs.declared.psw.Psw.{Psw}
use Rattle.pg_word.specs.Psw.{IsPsw}
use Rattle.pg_ast.specs.declared.tree.Desc.{Desc}
use Rattle.pg_lang_meaning.specs.States.{State, IsState}
use Rattle.pg_lang_meaning.specs.Steps.{step}
use Rattle.pg_lang_valid.specs.Valid.{IsValid}
use Rattle.pg_lang_valid.proofs.StepSound.{step-length, step-state}
use Rattle.pg_routine.specs.Granting.{guest_at, with_grant}
use Rattle.pg_routine.proofs.GrantLaws.{guest-length}

-- a grant of a storage of words
pub guest-state : (d : Desc) (s : State) (base size : ℕ) (psw : Psw) → IsState d s → 2 ≤ size → base + size ≤ length s.cells → IsPsw d.address psw → IsState d (guest_at s.cells base size psw)
guest-state d s base size psw h least within fields =
    let n = guest-length s.cells base size within in
    record {
      size_least = omega (arith, n, least);
      size_most = omega (arith, n, within, h.size_most);
      words = All-take (λ c. c < 2 ^ d.word) size (drop base s.cells) (All-drop (λ c. c < 2 ^ d.word) base s.cells h.words);
      fields = fields;
    }

-- ---- a step keeps the size of a storage, and so a guest keeps its own

pub guest-step_length : (d : Desc) (cells : List ℕ) (base size : ℕ) (psw : Psw) → IsValid d → base + size ≤ length cells → IsState d (guest_at cells base size psw) →
    length (step d (guest_at cells base size psw)).cells ≡ size
guest-step_length d cells base size psw v within h = step-length d (guest_at cells base size psw) v h ∙ guest-length cells base size within

-- ---- a storage with other cells in a grant

pub with_grant-length : (cells new : List ℕ) (base : ℕ) → base + length new ≤ length cells → length (with_grant cells base new) ≡ length cells
with_grant-length cells new base h =
    omega (
      arith,
      length-append (take base cells ++ new) (drop (base + length new) cells),
      length-append (take base cells) new,
      length-take-le base cells (omega arith),
      length-drop (base + length new) cells,
    )

-- the grant holds them
pub with_grant-held : (cells new : List ℕ) (base : ℕ) → base + length new ≤ length cells → take (length new) (drop base (with_grant cells base new)) ≡ new
with_grant-held cells new base h =
    let rest = new ++ drop (base + length new) cells in
    ap (λ xs. take (length new) (drop base xs)) (append_assoc (take base cells) new (drop (base + length new) cells))
    ∙ ap (take (length new)) (drop_at (take base cells) rest base (length-take-le base cells (omega arith)))
    ∙ take_at new (drop (base + length new) cells) (length new) refl

-- and all of it is words
pub with_grant-state : (d : Desc) (s guest : State) (base : ℕ) → IsState d s → IsState d guest → base + length guest.cells ≤ length s.cells →
    IsState d (record s { cells = with_grant s.cells base guest.cells })
with_grant-state d s guest base h g within =
    let same = with_grant-length s.cells guest.cells base within in
    record {
      size_least = omega (arith, same, h.size_least);
      size_most = omega (arith, same, h.size_most);
      words = All-append (λ c. c < 2 ^ d.word) (take base s.cells ++ guest.cells) (drop (base + length guest.cells) s.cells)
          (All-append (λ c. c < 2 ^ d.word) (take base s.cells) guest.cells (All-take (λ c. c < 2 ^ d.word) base s.cells h.words) g.words)
          (All-drop (λ c. c < 2 ^ d.word) (base + length guest.cells) s.cells h.words);
      fields = h.fields;
    }

-- ---- a step of a guest, interpreted

pub interpreted-guest : (d : Desc) (cells : List ℕ) (base size : ℕ) (psw : Psw) → IsValid d → base + size ≤ length cells → IsState d (guest_at cells base size psw) →
    guest_at (with_grant cells base (step d (guest_at cells base size psw)).cells) base size (step d (guest_at cells base size psw)).psw ≡ step d (guest_at cells base size psw)
interpreted-guest d cells base size psw v within h =
    let t = step d (guest_at cells base size psw) in
    let n = guest-step_length d cells base size psw v within h in
    ap (λ cs. let u : State = record { cells = cs; psw = t.psw } in u)
    (ap (λ k. take k (drop base (with_grant cells base t.cells))) (sym n) ∙ with_grant-held cells t.cells base (omega (arith, n, within)))

pub interpreted-storage : (d : Desc) (s : State) (base size : ℕ) (psw : Psw) → IsValid d → IsState d s → base + size ≤ length s.cells → IsState d (guest_at s.cells base size psw) →
    IsState d (record s { cells = with_grant s.cells base (step d (guest_at s.cells base size psw)).cells })
interpreted-storage d s base size psw v h within g =
    let n = guest-step_length d s.cells base size psw v within g in
    with_grant-state d s (step d (guest_at s.cells base size psw)) base h (step-state d (guest_at s.cells base size psw) v g) (omega (arith, n, within))

pub interpreted-length : (d : Desc) (cells : List ℕ) (base size : ℕ) (psw : Psw) → IsValid d → base + size ≤ length cells → IsState d (guest_at cells base size psw) →
    length (with_grant cells base (step d (guest_at cells base size psw)).cells) ≡ length cells
interpreted-length d cells base size psw v within h =
    let n = guest-step_length d cells base size psw v within h in
    with_grant-length cells (step d (guest_at cells base size psw)).cells base (omega (arith, n, within))
