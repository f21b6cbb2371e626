-- The numbers of a machine: the widths of its words and addresses, and its greatest size.
use Rattle.std.specs.Prelude.{◌≡◌, ℕ, ◌+◌, ◌*◌, ◌%◌, ◌^◌, ◌<◌, ◌≤◌, Bool, if◌then◌else◌}
use Rattle.pg_word.specs.declared.shape.Shape.{Shape}

-- how many bits a word keeps above P, l and b: the mode, and two for a cause where causes are on
abbrev pub bits_above : Bool → ℕ
bits_above causes = (if causes then 3 else 1)

-- the numbers of a machine that there can be
pub record AreShapeNumbers (w a q : ℕ) (causes : Bool) : Type 0 where
  pub whole_bytes : w % 8 ≡ 0
  pub word_least : 16 ≤ w
  pub word_most : w ≤ 64
  pub address_least : 4 ≤ a
  pub address_most : a ≤ 20
  pub psw_fits : 3 * a + bits_above causes ≤ w
  pub size_least : 4 ≤ q
  pub size_most : q < 2 ^ a

-- the condition of every call that is lent a shape
abbrev pub IsShape : Shape → Type 0
IsShape s = AreShapeNumbers s.w s.a s.q s.causes
