-- Which machines a hardware may run, what it may be given, and the state that it begins with.
use Rattle.std.specs.Prelude.{ℕ, ◌^◌, ◌<◌, replicate}
use Rattle.pg_word.specs.declared.psw.Psw.{Psw}
use Rattle.pg_word.specs.Psw.{IsPsw, power_on_psw}
use Rattle.pg_ast.specs.declared.tree.Desc.{Desc}
use Rattle.pg_lang_meaning.specs.States.{State}

-- a machine may be run, however that is known
abbrev pub IsServed : (Desc → Type 0) → Desc → Type 0
IsServed serves d = ∥ serves d ∥₁

-- a word of some machine that may be run
pub record IsServedWord (serves : Desc → Type 0) (word : ℕ) : Type 0 where
  pub machine : Desc
  pub served : IsServed serves machine
  pub fits : word < 2 ^ machine.word

-- a program status word of some machine that may be run
pub record IsServedPsw (serves : Desc → Type 0) (psw : Psw) : Type 0 where
  pub machine : Desc
  pub served : IsServed serves machine
  pub fits : IsPsw machine.address psw

-- the state of n cells that a hardware begins with: zeros, and the PSW of a machine that is switched on
unfoldable pub blank : ℕ → State
blank n = record { cells = replicate n 0; psw = power_on_psw n }
