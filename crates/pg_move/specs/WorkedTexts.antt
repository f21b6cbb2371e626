-- Saved texts, worked out by hand: each is a law of the crate.
use Rattle.std.specs.Prelude.{◌≡◌, ℕ, false, List, [], ◌∷◌, ◌++◌, replicate, codes, Err}
use Rattle.pg_word.specs.declared.shape.Shape.{Shape}
use Rattle.pg_word.specs.declared.psw.Mode.TheVariants.{S}
use Rattle.pg_lang_meaning.specs.States.{State}
use Rattle.pg_move.specs.declared.fault.SavedFault.TheVariants.{Token, Grammar, Version}
use Rattle.pg_move.specs.Texts.{saved_text}
use Rattle.pg_move.specs.Reading.{saved_due}

-- words of 32 bits, addresses of 8, and 64 cells
abbrev row_shape : Shape
row_shape = record { w = 32; a = 8; q = 64; causes = false }

-- a guest of 16 cells behind its third step
abbrev row_state : State
row_state = record { cells = 6 ∷ 0 ∷ 16778244 ∷ 33554434 ∷ 3 ∷ replicate 11 0; psw = record { mode = S; p = 3; l = 0; b = 16 } }

abbrev row_front : List ℕ
row_front =
    codes "pgguest 1" ++ 10 ∷ codes "steps 3" ++ 10 ∷ codes "size 16" ++ 10 ∷ codes "psw s 3 0 16" ++ 10
    ∷ codes "0: 00000006 00000000 01000404 02000002 00000003 00000000 00000000 00000000" ++ 10 ∷ []

abbrev pub TextOfThreeSteps : Type 0
TextOfThreeSteps = saved_text row_shape 3 row_state ≡ row_front ++ codes "end" ++ 10 ∷ []

abbrev pub AnotherVersion : Type 0
AnotherVersion = saved_due row_shape (codes "pgguest 2" ++ 10 ∷ []) ≡ Err (Version 1)

abbrev pub NothingAtAll : Type 0
NothingAtAll = saved_due row_shape [] ≡ Err (Grammar 1)

abbrev pub ForeignByte : Type 0
ForeignByte = saved_due row_shape (codes "pgguest 1" ++ 10 ∷ 9 ∷ []) ≡ Err (Token 2)
