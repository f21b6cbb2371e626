-- The program status word under which a guest runs on the hardware below.
use Rattle.std.specs.Prelude.{ℕ, ◌+◌, ◌-◌, min, nat_lt, if◌then◌else◌}
use Rattle.pg_word.specs.declared.psw.Psw.{Psw}
use Rattle.pg_word.specs.declared.psw.Mode.TheVariants.{U}

-- *ComposedPsw*: of a guest's PSW in a grant of `size` cells from `base` on: user mode, the same P, and for R
-- (l + base, min(b, size - l)) where l is within the grant, else (base, 0)
abbrev pub composed : Psw → ℕ → ℕ → Psw
composed psw base size = record {
  mode = U;
  p = psw.p;
  l = (if nat_lt psw.l size then psw.l + base else base);
  b = (if nat_lt psw.l size then min psw.b (size - psw.l) else 0);
}
