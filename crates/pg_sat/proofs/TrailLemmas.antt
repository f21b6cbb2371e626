-- The literal at a place of a trail, and its reason.
use Rattle.std.proofs.Common.{◌≡◌, ◌≢◌, ℕ, zero, suc, ◌+◌, ◌-◌, ◌*◌, ◌<◌, true, false, List, [], ◌∷◌, ◌++◌, length, get_or, take, map, Option, Some, None, slice_get, refl, sym, subst, ◌∙◌, arith, ℤ, append_assoc}
use Rattle.std.specs.Prelude.{Contains}
use Rattle.std.specs.Option.{option_and_then}
use Rattle.std.proofs.lemmas.List.{append-nil}
use Rattle.pg_cnf.specs.Literals.{IsLiteral, AreLiterals, IsClause, AreClauses}
use Rattle.pg_watch.specs.Trail.{value_of, AreFalse, AreFalseBut, AreSet, HaveReasons, HasReason, IsNumber}
use Rattle.pg_watch.specs.Trail as trails
use Rattle.pg_watch.proofs.Steps.{AreClauses-at}
use Rattle.pg_proof.specs.Places.{has, AreWithin}
use Rattle.pg_proof.specs.State.{clause_at}
use Rattle.pg_sat.proofs.ReadingLemmas.{has-first, has-later, by_member}

-- it was unset before
pub record IsAt (variables : ℕ) (before : List ℤ) (z : ℤ) : Type 0 where
  pub literal : IsLiteral variables z
  pub unset : value_of before z ≡ None

seam : (before : List ℤ) (z : ℤ) (zs : List ℤ) (q : ℕ) → (before ++ z ∷ []) ++ take q zs ≡ before ++ take (suc q) (z ∷ zs)
seam before z zs q = append_assoc before (z ∷ []) (take q zs)

AreSet-from : (n : ℕ) (before zs : List ℤ) (q : ℕ) (d : ℤ) → AreSet n before zs → q < length zs → IsAt n (before ++ take q zs) (get_or zs q d)
AreSet-from n before [] q d h lt = absurd (omega arith)
AreSet-from n before (z ∷ zs) zero d h lt = record { literal = h.0; unset = subst (λ (xs : List ℤ). value_of xs z ≡ None) (sym (append-nil before)) h.1 }
AreSet-from n before (z ∷ zs) (suc q) d h lt =
    subst (λ (xs : List ℤ). IsAt n xs (get_or zs q d)) (seam before z zs q) (AreSet-from n (before ++ z ∷ []) zs q d h.2 (omega arith))

pub AreSet-at : (n : ℕ) (zs : List ℤ) (q : ℕ) (d : ℤ) → AreSet n [] zs → q < length zs → IsAt n (take q zs) (get_or zs q d)
AreSet-at n zs q d h lt = AreSet-from n [] zs q d h lt

HaveReasons-from : (cs : List (List ℤ)) (before zs : List ℤ) (rs : List (Option ℕ)) (q : ℕ) (d : ℤ) → HaveReasons cs before zs rs → q < length zs →
    HasReason cs (before ++ take q zs) (get_or zs q d) (get_or rs q None)
HaveReasons-from cs before [] rs q d h lt = absurd (omega arith)
HaveReasons-from cs before (z ∷ zs) [] q d h lt = absurd h
HaveReasons-from cs before (z ∷ zs) (r ∷ rs) zero d h lt = subst (λ (xs : List ℤ). HasReason cs xs z r) (sym (append-nil before)) h.0
HaveReasons-from cs before (z ∷ zs) (r ∷ rs) (suc q) d h lt =
    subst (λ (xs : List ℤ). HasReason cs xs (get_or zs q d) (get_or rs q None)) (seam before z zs q)
    (HaveReasons-from cs (before ++ z ∷ []) zs rs q d h.1 (omega arith))

pub HaveReasons-at : (cs : List (List ℤ)) (zs : List ℤ) (rs : List (Option ℕ)) (q : ℕ) (d : ℤ) → HaveReasons cs [] zs rs → q < length zs →
    HasReason cs (take q zs) (get_or zs q d) (get_or rs q None)
HaveReasons-at cs zs rs q d h lt = HaveReasons-from cs [] zs rs q d h lt

-- members of clauses
pub has-at : (c : List ℤ) (k : ℕ) (d : ℤ) → k < length c → has c (get_or c k d) ≡ true
has-at [] k d lt = absurd (omega arith)
has-at (x ∷ xs) zero d lt = has-first x xs
has-at (x ∷ xs) (suc k) d lt = has-later x xs (get_or xs k d) (has-at xs k d (omega arith))

pub has-contains : (c : List ℤ) (z : ℤ) → Contains c z → has c z ≡ true
has-contains c z there = subst (λ (x : ℤ). has c x ≡ true) there.2 (has-at c there.0 z there.1)

pub AreFalse-has : (set c : List ℤ) (y : ℤ) → AreFalse set c → has c y ≡ true → value_of set y ≡ Some false
AreFalse-has set [] y h m = cc
AreFalse-has set (x ∷ xs) y h m =
    by_member x xs y m (λ e. subst (λ (w : ℤ). value_of set w ≡ Some false) e h.0) (λ e. AreFalse-has set xs y h.1 e)

pub AreFalseBut-has : (set : List ℤ) (z : ℤ) (c : List ℤ) (y : ℤ) → AreFalseBut set z c → has c y ≡ true → y ≢ z → value_of set y ≡ Some false
AreFalseBut-has set z [] y h m d = cc
AreFalseBut-has set z (x ∷ xs) y h m d =
    by_member x xs y m
    (λ e. subst (λ (w : ℤ). value_of set w ≡ Some false) e (h.0 (λ s. d (sym e ∙ s))))
    (λ e. AreFalseBut-has set z xs y h.1 e d)

-- clauses by their numbers
held-from : (cs : List (List ℤ)) (k : ℕ) → k < length cs → option_and_then (λ c. c) (slice_get (map Some cs) k) ≡ Some (get_or cs k [])
held-from [] k lt = absurd (omega arith)
held-from (c ∷ cs) zero lt = refl
held-from (c ∷ cs) (suc k) lt = held-from cs k (omega arith)

pub held-at : (cs : List (List ℤ)) (n : ℕ) → IsNumber cs n → clause_at (map Some cs) n ≡ Some (trails.clause_at cs n)
held-at cs zero h = absurd (omega (arith, h.from_one))
held-at cs (suc k) h =
    let e : k ≡ suc k - 1 = omega arith in
    subst (λ (i : ℕ). clause_at (map Some cs) (suc k) ≡ Some (get_or cs i [])) e (held-from cs k (omega (arith, h.there)))

pub IsClause-at : (n : ℕ) (cs : List (List ℤ)) (number : ℕ) → AreClauses n cs → IsNumber cs number → IsClause n (trails.clause_at cs number)
IsClause-at n cs number h k = AreClauses-at n cs (number - 1) h (omega (arith, k.from_one, k.there))

pub AreWithin-literals : (n : ℕ) (zs : List ℤ) → AreLiterals n zs → AreWithin (2 * n + 2) zs
AreWithin-literals n [] h = tt
AreWithin-literals n (z ∷ zs) h = (record { nonzero = h.0.0; within = omega (arith, h.0.1) }, AreWithin-literals n zs h.1)
