-- Where first fit places a grant, worked out by hand: each is a law of the crate.
use Rattle.std.specs.Prelude.{◌≡◌, [], ◌∷◌, None, Some}
use Rattle.pg_alloc.specs.Fit.{free_base}

-- the first grant lies behind the two cells of traps
abbrev pub FirstGrant : Type 0
FirstGrant = free_base 64 [] 31 ≡ Some 2

-- it may fill the storage
abbrev pub WholeStorage : Type 0
WholeStorage = free_base 64 [] 62 ≡ Some 2

-- and not a cell more
abbrev pub OneCellTooMany : Type 0
OneCellTooMany = free_base 64 [] 63 ≡ None

-- the second lies behind the first
abbrev pub SecondGrant : Type 0
SecondGrant = free_base 64 ((2, 31) ∷ []) 31 ≡ Some 33

-- then the storage is full
abbrev pub FullStorage : Type 0
FullStorage = free_base 64 ((2, 31) ∷ (33, 31) ∷ []) 1 ≡ None

-- a grant that lies far behind leaves the cells before it
abbrev pub BeforeAnother : Type 0
BeforeAnother = free_base 64 ((33, 31) ∷ []) 10 ≡ Some 2

-- as many cells as the gap between two grants has
abbrev pub GapBetween : Type 0
GapBetween = free_base 64 ((2, 8) ∷ (20, 8) ∷ []) 10 ≡ Some 10

-- one more, which lie behind both
abbrev pub GapTooSmall : Type 0
GapTooSmall = free_base 64 ((20, 8) ∷ (2, 8) ∷ []) 11 ≡ Some 28
