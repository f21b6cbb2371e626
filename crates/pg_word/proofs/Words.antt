-- Words that hold a program status word.
use Rattle.std.proofs.Common.{◌≡◌, ℕ, ◌+◌, ◌*◌, ◌/◌, ◌%◌, ◌^◌, ◌<◌, ◌≤◌, true, false, refl, ap, ◌∙◌, arith, inl, inr, lit<, zero-add}
use Rattle.std.proofs.Math.Pow.{pow-add}
use Rattle.std.proofs.lemmas.Bool.{cases_Bool}
use Rattle.std.proofs.lemmas.Nat.{shr_high, mod_low}
use Rattle.pg_word.specs.declared.shape.Shape.{Shape}
use Rattle.pg_word.specs.declared.psw.Psw.{Psw}
use Rattle.pg_word.specs.declared.psw.Mode.{Mode}
use Rattle.pg_word.specs.declared.psw.Mode.TheVariants.{S, U}
use Rattle.pg_word.specs.Shape.{IsShape}
use Rattle.pg_word.specs.Psw.{IsPsw, bit_of, mode_of, packed, packed_trap, unpacked}
use Rattle.pg_word.proofs.Numbers.{below_pow_wider, mul_pow_add_below}

bit_of_below : (m : Mode) → bit_of m < 2 ^ 1
bit_of_below S = lit< tt
bit_of_below U = lit< tt

mode_of_bit : (m : Mode) → mode_of (bit_of m % 2) ≡ m
mode_of_bit S = refl
mode_of_bit U = refl

-- a number above a mode keeps the mode
mode_of_bit_of : (c : ℕ) (m : Mode) → mode_of ((c * 2 + bit_of m) % 2) ≡ m
mode_of_bit_of c S = ap mode_of (mod_low c 1 0 (lit< tt))
mode_of_bit_of c U = ap mode_of (mod_low c 1 1 (lit< tt))

-- ---- with P, l and b of a bits each under any number

fields_below : (k a h p l b : ℕ) → h < 2 ^ k → p < 2 ^ a → l < 2 ^ a → b < 2 ^ a → ((h * 2 ^ a + p) * 2 ^ a + l) * 2 ^ a + b < 2 ^ (3 * a + k)
fields_below k a h p l b hh hp hl hb =
    let e : k + a + a + a ≡ 3 * a + k = omega arith in
    let f : ((h * 2 ^ a + p) * 2 ^ a + l) * 2 ^ a + b < 2 ^ (k + a + a + a) =
    mul_pow_add_below (k + a + a) a _ b (mul_pow_add_below (k + a) a _ l (mul_pow_add_below k a h p hh hp) hl) hb in
    rw e at f

unpacked_fields : (a h p l b : ℕ) → p < 2 ^ a → l < 2 ^ a → b < 2 ^ a → unpacked a (((h * 2 ^ a + p) * 2 ^ a + l) * 2 ^ a + b) ≡ record { mode = mode_of (h % 2); p = p; l = l; b = b }
unpacked_fields a h p l b hp hl hb = simp (shr_high, mod_low)

-- a number above the mode
add_fields : (c t q p l b : ℕ) → c * (2 * q * q * q) + (((t * q + p) * q + l) * q + b) ≡ (((c * 2 + t) * q + p) * q + l) * q + b
add_fields c t q p l b = omega arith

pow_word : (a : ℕ) → 2 ^ (3 * a + 1) ≡ 2 * 2 ^ a * 2 ^ a * 2 ^ a
pow_word a =
    let e : 3 * a + 1 ≡ 1 + a + a + a = omega arith in
    ap (λ k. 2 ^ k) e ∙ simp pow-add

-- ---- what holds of words

pub packed_below : (a : ℕ) (x : Psw) → IsPsw a x → packed a x < 2 ^ (3 * a + 1)
packed_below a x h = fields_below 1 a (bit_of x.mode) x.p x.l x.b (bit_of_below x.mode) h.p h.l h.b

-- a cause above the mode fits three bits above the fields
pub cause_above_below : (a w c word : ℕ) → word < 2 ^ (3 * a + 1) → c ≤ 3 → 3 * a + 3 ≤ w → c * 2 ^ (3 * a + 1) + word < 2 ^ w
cause_above_below a w c word below most fits =
    let f : c * 2 ^ (3 * a + 1) + word < 2 ^ (2 + (3 * a + 1)) = mul_pow_add_below 2 (3 * a + 1) c word (omega arith) below in
    below_pow_wider _ _ _ f (omega arith)

pub unpacked_packed : (a : ℕ) (x : Psw) → IsPsw a x → unpacked a (packed a x) ≡ x
unpacked_packed a x h =
    unpacked_fields a (bit_of x.mode) x.p x.l x.b h.p h.l h.b ∙ ap (λ m. record x { mode = m }) (mode_of_bit x.mode)

packed_trap_on : (s : Shape) (x : Psw) (c : ℕ) → s.causes ≡ true → packed_trap s x c ≡ c * 2 ^ (3 * s.a + 1) + packed s.a x
packed_trap_on s x c e = rw e

packed_trap_off : (s : Shape) (x : Psw) (c : ℕ) → s.causes ≡ false → packed_trap s x c ≡ packed s.a x
packed_trap_off s x c e = rw e (zero-add _)

pub packed_trap_below : (s : Shape) (x : Psw) (c : ℕ) → IsShape s → IsPsw s.a x → c ≤ 3 → packed_trap s x c < 2 ^ s.w
packed_trap_below s x c hs h most =
    elim (cases_Bool s.causes) [
      | inl e ↦ rw (packed_trap_on s x c e) (cause_above_below s.a s.w c (packed s.a x) (packed_below s.a x h) most (rw e at hs.psw_fits))
      | inr e ↦ rw (packed_trap_off s x c e) (below_pow_wider _ _ _ (packed_below s.a x h) (rw e at hs.psw_fits))
    ]

pub packed_trap_cause : (s : Shape) (x : Psw) (c : ℕ) → s.causes ≡ true → IsPsw s.a x → packed_trap s x c / 2 ^ (3 * s.a + 1) ≡ c
packed_trap_cause s x c e h = rw (packed_trap_on s x c e) (shr_high c (3 * s.a + 1) (packed s.a x) (packed_below s.a x h))

-- a cause is ignored
unpacked_cause_above : (a c : ℕ) (x : Psw) → IsPsw a x → unpacked a (c * 2 ^ (3 * a + 1) + packed a x) ≡ x
unpacked_cause_above a c x h =
    ap (λ t. unpacked a (c * t + packed a x)) (pow_word a)
    ∙ ap (unpacked a) (add_fields c (bit_of x.mode) (2 ^ a) x.p x.l x.b)
    ∙ unpacked_fields a (c * 2 + bit_of x.mode) x.p x.l x.b h.p h.l h.b
    ∙ ap (λ m. record x { mode = m }) (mode_of_bit_of c x.mode)

pub unpacked_packed_trap : (s : Shape) (x : Psw) (c : ℕ) → IsPsw s.a x → unpacked s.a (packed_trap s x c) ≡ x
unpacked_packed_trap s x c h =
    elim (cases_Bool s.causes) [
      | inl e ↦ ap (unpacked s.a) (packed_trap_on s x c e) ∙ unpacked_cause_above s.a c x h
      | inr e ↦ ap (unpacked s.a) (packed_trap_off s x c e) ∙ unpacked_packed s.a x h
    ]
