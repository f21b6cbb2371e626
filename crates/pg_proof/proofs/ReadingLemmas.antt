-- A clause that is read literal by literal.
use Rattle.std.proofs.Common.{◌≡◌, ℕ, ◌+◌, ◌<◌, Bool, true, false, not, if◌then◌else◌, cond, ℤ, pos, neg_ℤ, List, [], ◌∷◌, length, get_or, drop, refl, sym, ap, subst, ◌∙◌}
use Rattle.std.proofs.lemmas.List.{at_drop_more}
use Rattle.pg_proof.specs.Places.{IsWithin, AreWithin}
use Rattle.pg_proof.proofs.WithinLemmas.{AreWithin-drop}
use Rattle.pg_proof.specs.declared.propagation.Reading.{Reading}
use Rattle.pg_proof.specs.declared.propagation.Reading.TheVariants.{Falsified, Unit, Neither}
use Rattle.pg_proof.specs.Reading.{open_of, reading_of, reading}
use Rattle.pg_proof.specs.Marked.{with_open, with_literal, IsReadWithin}

-- the reading of a clause's rest, after a part that was read
abbrev pub read_on : (ℤ → Bool) → Reading → List ℤ → Reading
read_on is_true r [] = r
read_on is_true r (z ∷ zs) = read_on is_true (with_literal is_true r z) zs

module _ (t : ℤ → Bool) where
  one_neither : (f s : Bool) (zs : List ℤ) → read_on t Neither zs ≡ Neither → read_on t (if f then Neither else (if s then Neither else Neither)) zs ≡ Neither
  one_neither true s zs h = h
  one_neither false true zs h = h
  one_neither false false zs h = h

  read_on-neither : (zs : List ℤ) → read_on t Neither zs ≡ Neither
  read_on-neither [] = refl
  read_on-neither (z ∷ zs) = one_neither (t (neg_ℤ z)) (t z) zs (read_on-neither zs)

  unset : (b : Bool) (y : ℤ) → b ≡ false → Unit y ≡ (if b then Neither else Unit y)
  unset true y e = cc
  unset false y e = refl

  one_unit : (f s : Bool) (y z : ℤ) (zs : List ℤ) → read_on t (Unit y) zs ≡ reading_of t (y ∷ open_of t zs) →
      read_on t (if f then Unit y else (if s then Neither else Neither)) zs ≡ reading_of t (y ∷ cond (not f) (z ∷ open_of t zs) (open_of t zs))
  one_unit true s y z zs h = h
  one_unit false true y z zs h = read_on-neither zs
  one_unit false false y z zs h = read_on-neither zs

  read_on-unit : (y : ℤ) (zs : List ℤ) → t y ≡ false → read_on t (Unit y) zs ≡ reading_of t (y ∷ open_of t zs)
  read_on-unit y [] e = unset (t y) y e
  read_on-unit y (z ∷ zs) e = one_unit (t (neg_ℤ z)) (t z) y z zs (read_on-unit y zs e)

  set_already : (b : Bool) (z : ℤ) → b ≡ true → (if b then Neither else Unit z) ≡ Neither
  set_already true z e = refl
  set_already false z e = cc

  neither_first : (z : ℤ) (zs : List ℤ) → t z ≡ true → reading_of t (z ∷ zs) ≡ Neither
  neither_first z [] e = set_already (t z) z e
  neither_first z (y ∷ zs) e = refl

  one_open : (f s : Bool) (z : ℤ) (zs : List ℤ) → t z ≡ s → read_on t Falsified zs ≡ reading t zs →
      read_on t (if f then Falsified else (if s then Neither else Unit z)) zs ≡ reading_of t (cond (not f) (z ∷ open_of t zs) (open_of t zs))
  one_open true s z zs e h = h
  one_open false true z zs e h = read_on-neither zs ∙ sym (neither_first z (open_of t zs) e)
  one_open false false z zs e h = read_on-unit z zs e

  -- from the start, it is what the clause says
  pub read_on-reading : (zs : List ℤ) → read_on t Falsified zs ≡ reading t zs
  read_on-reading [] = refl
  read_on-reading (z ∷ zs) = one_open (t (neg_ℤ z)) (t z) z zs refl (read_on-reading zs)

  within : (n : ℕ) (f s : Bool) (r : Reading) (z : ℤ) → IsReadWithin n r → IsWithin n z → IsReadWithin n (if f then r else (if s then Neither else with_open r z))
  within n true s r z h lt = h
  within n false true r z h lt = tt
  within n false false Falsified z h lt = lt
  within n false false (Unit y) z h lt = tt
  within n false false Neither z h lt = tt

  pub IsReadWithin-literal : (n : ℕ) (r : Reading) (z : ℤ) → IsReadWithin n r → IsWithin n z → IsReadWithin n (with_literal t r z)
  IsReadWithin-literal n r z h lt = within n (t (neg_ℤ z)) (t z) r z h lt

-- one literal
pub read_on-next : (t : ℤ → Bool) (c : List ℤ) (i : ℕ) (r : Reading) (x : ℤ) → i < length c → x ≡ get_or c i (pos 0) →
    read_on t (with_literal t r x) (drop (i + 1) c) ≡ read_on t r (drop i c)
read_on-next t c i r x lt e =
    ap (λ y. read_on t (with_literal t r y) (drop (i + 1) c)) e ∙ sym (at_drop_more (read_on t r) c i (pos 0) lt)

-- the record of one step of the loop
pub record IsReadOn (t : ℤ → Bool) (c : List ℤ) (n i : ℕ) (r : Reading) : Type 0 where
  pub rest : read_on t r (drop i c) ≡ reading t c
  pub within : AreWithin n (drop i c)
  pub set_within : IsReadWithin n r

pub IsReadOn-next : (t : ℤ → Bool) (c : List ℤ) (n i : ℕ) (r s : Reading) (x : ℤ) → i < length c → x ≡ get_or c i (pos 0) →
    s ≡ with_literal t r x → IsReadOn t c n i r → IsReadOn t c n (i + 1) s
IsReadOn-next t c n i r s x lt e m h =
    let w = AreWithin-drop n c i (pos 0) lt h.within in
    let at_x : IsWithin n x = subst (IsWithin n) (sym e) w.0 in
    record {
      rest = ap (λ q. read_on t q (drop (i + 1) c)) m ∙ read_on-next t c i r x lt e ∙ h.rest;
      within = w.1;
      set_within = subst (IsReadWithin n) (sym m) (IsReadWithin-literal t n r x h.set_within at_x);
    }
