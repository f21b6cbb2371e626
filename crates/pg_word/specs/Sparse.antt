-- States of which only the cells that are not zero are listed.
use Rattle.std.specs.Prelude.{◌≡◌, ◌≢◌, ℕ, ◌+◌, ◌<◌, ◌≤◌, List, [], ◌∷◌, length, replicate, slice_set, slice_index_or}
use Rattle.std.specs.List.{All}
use Rattle.std.proofs.Props.{props}

-- the address of the cell at place i of a list of addresses and words
abbrev pub address_at : List (ℕ × ℕ) → ℕ → ℕ
address_at cells i = let cell = slice_index_or cells i (0, 0) in cell.0

-- addresses ascend, so none is there twice, and no word is zero
pub record IsCellList (cells : List (ℕ × ℕ)) : Type 0 where
  pub ascending : (i j : ℕ) → i < j → j < length cells → address_at cells i < address_at cells j
  pub not_zero : All (λ cell. cell.1 ≢ 0) cells

-- an address is above the last one
abbrev pub IsPastLast : List (ℕ × ℕ) → ℕ → Type 0
IsPastLast cells at = (i : ℕ) → i + 1 ≡ length cells → address_at cells i < at

-- the cells are among so many
abbrev pub AreWithin : ℕ → List (ℕ × ℕ) → Type 0
AreWithin size cells = All (λ cell. cell.0 < size) cells

-- the storage of so many words in which the listed words stand at their addresses, and all others are zero
abbrev pub storage_of : ℕ → List (ℕ × ℕ) → List ℕ
storage_of size [] = replicate size 0
storage_of size (cell ∷ cells) = slice_set (storage_of size cells) cell.0 cell.1

-- the cell at place i has the address
pub record IsListedAt (cells : List (ℕ × ℕ)) (at i : ℕ) : Type 0 where
  pub in_range : i < length cells
  pub has_address : address_at cells i ≡ at

-- no cell has the address, which would stand at place i
pub record IsNotListed (cells : List (ℕ × ℕ)) (at i : ℕ) : Type 0 where
  pub below : (j : ℕ) → j < i → address_at cells j < at
  pub above : (j : ℕ) → i ≤ j → j < length cells → at < address_at cells j

pub AreWithin-prop : (size : ℕ) (cells : List (ℕ × ℕ)) → IsProp (AreWithin size cells)
AreWithin-prop size cells = hlevel props
