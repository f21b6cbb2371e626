-- The cells of a guest, listed one after another.
use Rattle.std.proofs.Common.{◌≡◌, ◌≢◌, ℕ, suc, ◌+◌, ◌<◌, ◌≤◌, Bool, true, false, if◌then◌else◌, List, [], ◌∷◌, ◌++◌, length, take, drop, get_or, Option, Some, All, sym, ap, subst, ◌∙◌, arith, append-nil, length-drop}
use Rattle.std.specs.Prelude.{◌==◌, slice_get}
use Rattle.std.proofs.lemmas.Bool.{eq-eqb, ne_eqb}
use Rattle.std.proofs.lemmas.List.{take_more, take_all, length-take, length-take-le, get_or-take, get_or-drop}
use Rattle.std.proofs.lemmas.Option.{get_or_from_slice_get}
use Rattle.pg_word.specs.declared.psw.Psw.{Psw}
use Rattle.pg_word.specs.declared.sparse.Sparse.{Sparse}
use Rattle.pg_word.specs.Sparse.{IsPastLast, storage_of}
use Rattle.pg_lang_meaning.specs.States.{State, shape_of}
use Rattle.pg_type.specs.Listed.{state_of}
use Rattle.pg_ast.specs.declared.tree.Desc.{Desc}
use Rattle.pg_mon_control.specs.declared.guest.Guest.{Guest}
use Rattle.pg_mon_control.specs.Guests.{virtual}
use Rattle.pg_mon_control.specs.Standing.{Stands}
use Rattle.pg_mon_control.proofs.GuestLemmas.{Holds-of}
use Rattle.pg_move.specs.Texts.{most_steps, IsSaved}
use Rattle.pg_cert_drawn.specs.Drawn.{listed}
use Rattle.pg_cert_drawn.proofs.RowLemmas.{listed_until}
use Rattle.pg_move.proofs.StorageLemmas.{listed_again}

listed_push : (at : ℕ) (words : List ℕ) (w : ℕ) → listed at (words ++ w ∷ []) ≡ listed at words ++ listed (at + length words) (w ∷ [])
listed_push at [] w = let e : at ≡ at + 0 = omega arith in ap (λ k. listed k (w ∷ [])) e
listed_push at (x ∷ xs) w = by (x == 0) (listed_push (suc at) xs w)
  where
    k : suc at + length xs ≡ at + suc (length xs)
    k = omega arith

    by : (b : Bool) → listed (suc at) (xs ++ w ∷ []) ≡ listed (suc at) xs ++ listed (suc at + length xs) (w ∷ []) →
        (if b then listed (suc at) (xs ++ w ∷ []) else (at, x) ∷ listed (suc at) (xs ++ w ∷ [])) ≡
        (if b then listed (suc at) xs else (at, x) ∷ listed (suc at) xs) ++ listed (at + suc (length xs)) (w ∷ [])
    by true rest = rest ∙ ap (λ n. listed (suc at) xs ++ listed n (w ∷ [])) k
    by false rest = ap (λ cs. (at, x) ∷ cs) (rest ∙ ap (λ n. listed (suc at) xs ++ listed n (w ∷ [])) k)

listed_next : (storage : List ℕ) (at : ℕ) → at < length storage →
    listed 0 (take (at + 1) storage) ≡ listed 0 (take at storage) ++ listed at (get_or storage at 0 ∷ [])
listed_next storage at l =
    let n : 0 + length (take at storage) ≡ at = omega (arith, length-take-le at storage (omega arith)) in
    ap (listed 0) (take_more storage at 0 l) ∙ listed_push 0 (take at storage) (get_or storage at 0)
    ∙ ap (λ k. listed 0 (take at storage) ++ listed k (get_or storage at 0 ∷ [])) n

-- the cells of a grant that were listed so far
pub record IsCaptured (held : List ℕ) (base size : ℕ) (psw : Psw) (state : Sparse) (at : ℕ) : Type 0 where
  pub size_is : state.size ≡ size
  pub psw_is : state.psw ≡ psw
  pub cells_are : state.cells ≡ listed 0 (take at (take size (drop base held)))

module _ (held : List ℕ) (base size : ℕ) (psw : Psw) (within : base + size ≤ length held) where
  abbrev storage : List ℕ
  storage = take size (drop base held)

  len : length storage ≡ size
  len = omega (arith, length-take size (drop base held), length-drop base held, within)

  pub captured-none : (state : Sparse) → state.size ≡ size → state.psw ≡ psw → state.cells ≡ [] → IsCaptured held base size psw state 0
  captured-none state s p c = record { size_is = s; psw_is = p; cells_are = c }

  pub captured-past : (state : Sparse) (at : ℕ) → IsCaptured held base size psw state at → IsPastLast state.cells at
  captured-past state at h =
      let all : All (λ c. c.0 < at) (listed 0 (take at storage)) =
      listed_until 0 at (take at storage) (omega (arith, length-take at storage)) in
      subst (λ cs. IsPastLast cs at) (sym h.cells_are) (λ i e. all i (0, 0) (omega arith))

  word_is : (at word : ℕ) → at < size → slice_get held (base + at) ≡ Some word → get_or storage at 0 ≡ word
  word_is at word l e = get_or-take size (drop base held) at 0 l ∙ get_or-drop base held at 0 ∙ get_or_from_slice_get held (base + at) word 0 e

  next : (state : Sparse) (at word : ℕ) → at < size → slice_get held (base + at) ≡ Some word → IsCaptured held base size psw state at →
      listed 0 (take (at + 1) storage) ≡ state.cells ++ listed at (word ∷ [])
  next state at word l e h =
      let n = len in
      listed_next storage at (omega arith) ∙ ap (λ w. listed 0 (take at storage) ++ listed at (w ∷ [])) (word_is at word l e)
      ∙ ap (λ cs. cs ++ listed at (word ∷ [])) (sym h.cells_are)

  pub captured-zero : (state : Sparse) (at word : ℕ) → at < size → slice_get held (base + at) ≡ Some word → word ≡ 0 →
      IsCaptured held base size psw state at → IsCaptured held base size psw state (at + 1)
  captured-zero state at word l e z h =
      let none : listed at (word ∷ []) ≡ [] = ap (λ (b : Bool). if b then [] else (at, word) ∷ []) (eq-eqb word 0 z) in
      record {
        size_is = h.size_is;
        psw_is = h.psw_is;
        cells_are = sym (next state at word l e h ∙ ap (λ cs. state.cells ++ cs) none ∙ append-nil state.cells);
      }

  pub captured-word : (state after : Sparse) (at word : ℕ) → at < size → slice_get held (base + at) ≡ Some word → word ≢ 0 →
      after.size ≡ state.size → after.psw ≡ state.psw → after.cells ≡ state.cells ++ (at, word) ∷ [] →
      IsCaptured held base size psw state at → IsCaptured held base size psw after (at + 1)
  captured-word state after at word l e some s p c h =
      let one : listed at (word ∷ []) ≡ (at, word) ∷ [] = ap (λ (b : Bool). if b then [] else (at, word) ∷ []) (ne_eqb word 0 some) in
      record {
        size_is = s ∙ h.size_is;
        psw_is = p ∙ h.psw_is;
        cells_are = sym (next state at word l e h ∙ ap (λ cs. state.cells ++ cs) one ∙ sym c);
      }

  pub captured-all : (state : Sparse) (at : ℕ) → size ≤ at → IsCaptured held base size psw state at →
      state_of state ≡ record { cells = storage; psw = psw }
  captured-all state at l h =
      let n = len in
      let cells : state.cells ≡ listed 0 storage = h.cells_are ∙ ap (listed 0) (take_all at storage (omega arith)) in
      let words : storage_of state.size state.cells ≡ storage =
      ap (λ cs. storage_of state.size cs) cells ∙ ap (λ k. storage_of k (listed 0 storage)) (h.size_is ∙ sym n) ∙ listed_again storage in
      ap (λ (cs : List ℕ). record { cells = cs; psw = state.psw }) words ∙ ap (λ (x : Psw). record { cells = storage; psw = x }) h.psw_is

-- what is captured of a guest is in range
pub captured-saved : (d : Desc) (real : State) (gs : List Guest) (current : Option ℕ) (k : ℕ) (g : Guest) (steps : ℕ) (s : State) →
    Stands d real gs current → slice_get gs k ≡ Some g → steps ≤ most_steps → s ≡ virtual real.cells g →
    IsSaved (shape_of d) (record { steps = steps; state = s })
captured-saved d real gs current k g steps s stands e most same =
    let state = (Holds-of d real gs current k g stands e).virtual_state in
    subst (λ x. IsSaved (shape_of d) (record { steps = steps; state = x })) (sym same) (record {
      steps = most;
      least = state.size_least;
      most = state.size_most;
      words = state.words;
      fields = state.fields;
    })
