-- What whole reads and writes move, where the bytes are known.
use Rattle.std.specs.Prelude.{ℕ, ◌≡◌, ◌≤◌, List, ◌++◌, length, take, Option}
use Rattle.std.specs.Io.KnownBytes.{Appends, Consumes}

-- known bytes grew by a front of these, all or nothing of it among them
abbrev pub AppendsFront : Option (List ℕ) → Option (List ℕ) → List ℕ → Type 0
AppendsFront old new bytes = (n : ℕ) × Appends old new (take n bytes)

-- a buffer grew by at most so many bytes, which a reader lost
abbrev pub Gains : Option (List ℕ) → Option (List ℕ) → List ℕ → List ℕ → ℕ → Type 0
Gains left_before left_now before now most = (piece : List ℕ) × (now ≡ before ++ piece) × (length piece ≤ most) × Consumes left_before left_now piece
