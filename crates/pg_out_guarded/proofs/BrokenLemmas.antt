-- Each instruction has its marks.
use Rattle.std.proofs.Common.{◌≡◌, ℕ, zero, suc, ◌+◌, ◌*◌, ◌<◌, Bool, List, [], ◌∷◌, ◌++◌, length, slice_get, Some, refl, ap, ◌∙◌, subst, below_more, arith}
use Rattle.pg_cert.specs.declared.cert.Family.{Family}
use Rattle.pg_cert.specs.declared.cert.Family.TheVariants.{Plain, Hybrid}
use Rattle.pg_cert.specs.declared.report.Mark.{Mark}
use Rattle.pg_cert.specs.Verdicts.{kind_count, instr_count}

pub counted-instr : (family : Family) (marks : List Mark) (count instr : ℕ) → length marks ≡ count * kind_count family → instr < count → instr < instr_count family marks
counted-instr Plain marks count instr whole l = omega arith
counted-instr Hybrid marks count instr whole l = omega arith

get-front : (xs ys : List Bool) (k : ℕ) (x : Bool) → slice_get xs k ≡ Some x → slice_get (xs ++ ys) k ≡ Some x
get-front [] ys k x e = absurd (cc)
get-front (z ∷ xs) ys zero x e = e
get-front (z ∷ xs) ys (suc k) x e = get-front xs ys k x e

get-last : (xs : List Bool) (x : Bool) → slice_get (xs ++ x ∷ []) (length xs) ≡ Some x
get-last [] x = refl
get-last (z ∷ xs) x = get-last xs x

-- one answer more
pub each-next : (xs : List Bool) (x : Bool) (n : ℕ) (f : ℕ → Bool) → length xs ≡ n → ((k : ℕ) → k < n → slice_get xs k ≡ Some (f k)) → x ≡ f n →
    (k : ℕ) → k < n + 1 → slice_get (xs ++ x ∷ []) k ≡ Some (f k)
each-next xs x n f whole h e =
    below_more (λ k. slice_get (xs ++ x ∷ []) k ≡ Some (f k)) n (λ k l. get-front xs (x ∷ []) k (f k) (h k l))
    (subst (λ k. slice_get (xs ++ x ∷ []) k ≡ Some (f n)) whole (get-last xs x ∙ ap Some e))
