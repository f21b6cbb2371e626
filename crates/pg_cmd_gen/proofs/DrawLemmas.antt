-- States and draws behind other ones.
use Rattle.std.proofs.Common.{◌≡◌, ℕ, zero, suc, ◌+◌, refl, ap, arith}
use Rattle.pg_cmd_gen.specs.Draws.{next_state, state_behind, draw}

-- the state behind a state is one that is further on
pub state_behind-further : (number m n : ℕ) → state_behind (state_behind number m) n ≡ state_behind number (m + n)
unfolding state_behind
state_behind-further number m zero = ap (state_behind number) (omega arith)
state_behind-further number m (suc n) =
    let e : m + suc n ≡ suc (m + n) = omega arith in
    rw e (ap next_state (state_behind-further number m n))

pub state_behind-next : (number n : ℕ) → next_state (state_behind number n) ≡ state_behind number (n + 1)
unfolding state_behind
state_behind-next number n =
    let e : n + 1 ≡ suc n = omega arith in
    rw e

-- and so is the draw
pub draw-further : (number m n : ℕ) → draw (state_behind number m) n ≡ draw number (m + n)
draw-further number m n =
    let e : m + suc n ≡ suc (m + n) = omega arith in
    rw (state_behind-further, e)

pub first_of_0 : draw 0 0 ≡ 335903614
unfolding state_behind next_state
first_of_0 = refl

pub first_of_2 : draw 2 0 ≡ 3299435481
unfolding state_behind next_state
first_of_2 = refl
