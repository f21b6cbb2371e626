-- Literals that ascend by variable are a clause.
use Rattle.std.proofs.Common.{◌≡◌, ℕ, ◌<◌, ◌≤◌, true, ltb, leb, ◌&&◌, List, [], ◌∷◌, ap, arith, ℤ, nat_abs, leb-true}
use Rattle.pg_cnf.specs.Literals.{AreLiterals, IsAbsent, AreDistinct, IsClause}
use Rattle.pg_cnf.proofs.LiteralLemmas.{IsClause-more}
use Rattle.pg_proof.specs.Refutation.{are_ascending}
use Rattle.pg_proof.proofs.WithinLemmas.{both, less}

absent-above : (n a : ℕ) (z : ℤ) (zs : List ℤ) → are_ascending n a zs ≡ true → nat_abs z ≤ a → IsAbsent z zs
absent-above n a z [] h le = tt
absent-above n a z (y ∷ ys) h le =
    let p = both (ltb a (nat_abs y)) (leb (nat_abs y) n && are_ascending n (nat_abs y) ys) h in
    let q = both (leb (nat_abs y) n) (are_ascending n (nat_abs y) ys) p.1 in
    let more : a < nat_abs y = less a (nat_abs y) p.0 in
    ((λ e. (let same : nat_abs z ≡ nat_abs y = ap nat_abs e in omega arith)), absent-above n (nat_abs y) z ys q.1 (omega arith))

distinct-ascending : (n a : ℕ) (zs : List ℤ) → are_ascending n a zs ≡ true → AreDistinct zs
distinct-ascending n a [] h = tt
distinct-ascending n a (y ∷ ys) h =
    let p = both (ltb a (nat_abs y)) (leb (nat_abs y) n && are_ascending n (nat_abs y) ys) h in
    let q = both (leb (nat_abs y) n) (are_ascending n (nat_abs y) ys) p.1 in
    (absent-above n (nat_abs y) y ys q.1 (omega arith), distinct-ascending n (nat_abs y) ys q.1)

literals-ascending : (n a : ℕ) (zs : List ℤ) → are_ascending n a zs ≡ true → AreLiterals n zs
literals-ascending n a [] h = tt
literals-ascending n a (y ∷ ys) h =
    let p = both (ltb a (nat_abs y)) (leb (nat_abs y) n && are_ascending n (nat_abs y) ys) h in
    let q = both (leb (nat_abs y) n) (are_ascending n (nat_abs y) ys) p.1 in
    let more : a < nat_abs y = less a (nat_abs y) p.0 in
    ((omega arith, leb-true (nat_abs y) n q.0), literals-ascending n (nat_abs y) ys q.1)

pub ascending_clause : (n : ℕ) (zs : List ℤ) → are_ascending n 0 zs ≡ true → IsClause n zs
ascending_clause n zs h = record { within = literals-ascending n 0 zs h; distinct = distinct-ascending n 0 zs h }

pub ascending_most : (n : ℕ) (zs : List ℤ) → n < 2147483648 → are_ascending n 0 zs ≡ true → IsClause 2147483647 zs
ascending_most n zs few h = IsClause-more n 2147483647 zs (omega (arith, few)) (ascending_clause n zs h)
