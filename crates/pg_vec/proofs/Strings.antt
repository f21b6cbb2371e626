-- The numbers of strings that are cut, joined and moved.
use Rattle.std.proofs.Common.{◌≡◌, ℕ, zero, ◌+◌, ◌*◌, ◌/◌, ◌%◌, ◌^◌, ◌<◌, Bool, false, List, [], ◌∷◌, ◌++◌, length, take, drop, refl, sym, ap, ◌∙◌, arith, suc, add-zero, zero-add, length-append, length-drop}
use Rattle.std.proofs.Math.Nat.{mod-one, zero-mod, mod-eq_of_lt, mul_assoc, zero-mul, div-one, zero-div}
use Rattle.std.proofs.lemmas.List.{length-take, length-replicate}
use Rattle.std.proofs.lemmas.List.Elements.{All-take, All-drop, All-append, All-replicate}
use Rattle.std.proofs.lemmas.Nat.{shr_high, shr-shr, shr_le}
use Rattle.pg_circuit.specs.declared.node.Gate.{Gate}
use Rattle.pg_circuit.specs.Values.{gate_value, IsThere}
use Rattle.pg_circuit.specs.Made.{constant_gate}
use Rattle.pg_vec.specs.Number.{bit_of, number}
use Rattle.pg_vec.specs.There.{AreThere}
use Rattle.pg_vec.specs.Strings.{zeros, moved_up, moved_down}
use Rattle.pg_vec.proofs.Sums.{bit_of-below, pow-more, mod-bit}
use Rattle.pg_vec.proofs.EachLaws.{number-below}

pub number-append : (values : List Bool) (xs ys : List Gate) → number values (xs ++ ys) ≡ number values ys * 2 ^ length xs + number values xs
number-append values [] ys = omega arith
number-append values (x ∷ xs) ys =
    let h = number-append values xs ys in
    let e : number values ys * 2 ^ suc (length xs) ≡ number values ys * 2 ^ length xs * 2 =
    ap (λ p. number values ys * p) (pow-more (length xs)) ∙ sym (mul_assoc (number values ys) (2 ^ length xs) 2) in
    omega arith

pub number-zeros : (values : List Bool) (k : ℕ) → gate_value values (constant_gate false) ≡ false → number values (zeros k) ≡ 0
number-zeros values zero z = refl
number-zeros values (suc k) z =
    ap (λ n. n * 2 + bit_of (gate_value values (constant_gate false))) (number-zeros values k z) ∙ ap (λ b. 0 * 2 + bit_of b) z

pub number-take : (values : List Bool) (k : ℕ) (xs : List Gate) → number values (take k xs) ≡ number values xs % 2 ^ k
number-take values zero xs = sym (mod-one _)
number-take values (suc k) [] = sym (zero-mod (2 ^ suc k))
number-take values (suc k) (x ∷ xs) =
    ap (λ n. n * 2 + bit_of (gate_value values x)) (number-take values k xs)
    ∙ sym (mod-bit k (number values xs) (bit_of (gate_value values x)) (bit_of-below (gate_value values x)))

pub number-drop : (values : List Bool) (k : ℕ) (xs : List Gate) → number values (drop k xs) ≡ number values xs / 2 ^ k
number-drop values zero xs = sym (div-one _)
number-drop values (suc k) [] = sym (zero-div (2 ^ suc k))
number-drop values (suc k) (x ∷ xs) =
    number-drop values k xs
    ∙ ap (λ n. n / 2 ^ k) (sym (shr_high (number values xs) 1 (bit_of (gate_value values x)) (bit_of-below (gate_value values x))))
    ∙ shr-shr (number values xs * 2 ^ 1 + bit_of (gate_value values x)) 1 k
    ∙ ap (λ n. (number values xs * 2 + bit_of (gate_value values x)) / 2 ^ n) (omega arith)

-- ---- moved

pub length-moved_up : (k : ℕ) (xs : List Gate) → length (moved_up k xs) ≡ length xs
length-moved_up k xs = omega (arith, length-take (length xs) (zeros k ++ xs), length-append (zeros k) xs)

pub length-moved_down : (k : ℕ) (xs : List Gate) → length (moved_down k xs) ≡ length xs
length-moved_down k xs =
    omega (arith, length-take (length xs) (drop k xs ++ zeros k), length-append (drop k xs) (zeros k), length-drop k xs, length-replicate k (constant_gate false))

pub zeros-there : (places k : ℕ) → 0 < places → AreThere places (zeros k)
zeros-there places k h = All-replicate (IsThere places) k (constant_gate false) h

pub moved_up-there : (places k : ℕ) (xs : List Gate) → 0 < places → AreThere places xs → AreThere places (moved_up k xs)
moved_up-there places k xs h t = All-take (IsThere places) (length xs) (zeros k ++ xs) (All-append (IsThere places) (zeros k) xs (zeros-there places k h) t)

pub moved_down-there : (places k : ℕ) (xs : List Gate) → 0 < places → AreThere places xs → AreThere places (moved_down k xs)
moved_down-there places k xs h t =
    All-take (IsThere places) (length xs) (drop k xs ++ zeros k) (All-append (IsThere places) (drop k xs) (zeros k) (All-drop (IsThere places) k xs t) (zeros-there places k h))

pub number-moved_up : (values : List Bool) (k : ℕ) (xs : List Gate) → gate_value values (constant_gate false) ≡ false → number values (moved_up k xs) ≡ number values xs * 2 ^ k % 2 ^ length xs
number-moved_up values k xs z =
    number-take values (length xs) (zeros k ++ xs)
    ∙ ap (λ n. n % 2 ^ length xs)
    (number-append values (zeros k) xs
    ∙ ap (λ n. number values xs * 2 ^ n + number values (zeros k)) (length-replicate k (constant_gate false))
    ∙ ap (λ n. number values xs * 2 ^ k + n) (number-zeros values k z)
    ∙ add-zero (number values xs * 2 ^ k))

pub number-moved_down : (values : List Bool) (k : ℕ) (xs : List Gate) → gate_value values (constant_gate false) ≡ false → number values (moved_down k xs) ≡ number values xs / 2 ^ k
number-moved_down values k xs z =
    let below : number values xs / 2 ^ k < 2 ^ length xs =
    let l = shr_le (number values xs) k in let m = number-below values xs in omega arith in
    number-take values (length xs) (drop k xs ++ zeros k)
    ∙ ap (λ n. n % 2 ^ length xs)
    (number-append values (drop k xs) (zeros k)
    ∙ ap (λ n. n * 2 ^ length (drop k xs) + number values (drop k xs)) (number-zeros values k z)
    ∙ ap (λ n. n + number values (drop k xs)) (zero-mul (2 ^ length (drop k xs)))
    ∙ zero-add (number values (drop k xs))
    ∙ number-drop values k xs)
    ∙ mod-eq_of_lt below
