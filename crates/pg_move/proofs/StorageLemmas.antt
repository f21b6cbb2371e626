-- Storages, and the cells of them that are listed.
use Rattle.std.proofs.Common.{◌≡◌, ◌≢◌, ℕ, suc, ◌^◌, ◌<◌, Bool, true, false, if◌then◌else◌, List, [], ◌∷◌, length, All, arith}
use Rattle.std.specs.Prelude.{◌==◌}
use Rattle.std.proofs.lemmas.Grind.{same_number_lists}
use Rattle.std.proofs.lemmas.List.Elements.{All-nil, All-cons, All-head, All-tail, All-set, All-replicate}
use Rattle.pg_word.specs.Sparse.{IsCellList, AreWithin, storage_of}
use Rattle.pg_word.proofs.SparseLemmas.{length-storage_of}
use Rattle.pg_cert_drawn.specs.Drawn.{listed}
use Rattle.pg_cert_drawn.proofs.RowLemmas.{listed_more, within_more, row_holds}

-- the words of a storage whose listed words fit
pub storage_fits : (w size : ℕ) (cells : List (ℕ × ℕ)) → All (λ cell. cell.1 < 2 ^ w) cells → 0 < 2 ^ w →
    All (λ x. x < 2 ^ w) (storage_of size cells)
storage_fits w size [] h p = All-replicate (λ x. x < 2 ^ w) size 0 p
storage_fits w size (cell ∷ cells) h p =
    All-set (λ x. x < 2 ^ w) (storage_of size cells) cell.0 cell.1 (All-head (λ c. c.1 < 2 ^ w) cell cells h)
    (storage_fits w size cells (All-tail (λ c. c.1 < 2 ^ w) cell cells h) p)

-- the listed words of a row whose words fit
pub listed_fit : (w at : ℕ) (words : List ℕ) → All (λ x. x < 2 ^ w) words → All (λ cell. cell.1 < 2 ^ w) (listed at words)
listed_fit w at [] h = All-nil (λ (c : ℕ × ℕ). c.1 < 2 ^ w)
listed_fit w at (x ∷ xs) h = by (x == 0) (listed_fit w (suc at) xs (All-tail (λ y. y < 2 ^ w) x xs h))
  where
    by : (b : Bool) → All (λ c. c.1 < 2 ^ w) (listed (suc at) xs) →
        All (λ c. c.1 < 2 ^ w) (if b then listed (suc at) xs else (at, x) ∷ listed (suc at) xs)
    by true rest = rest
    by false rest = All-cons (λ (c : ℕ × ℕ). c.1 < 2 ^ w) (at, x) (listed (suc at) xs) (All-head (λ y. y < 2 ^ w) x xs h) rest

no_cells : IsCellList []
no_cells = record { ascending = λ i j l m. absurd (omega arith); not_zero = All-nil (λ (c : ℕ × ℕ). c.1 ≢ 0) }

-- a storage is that of its words, listed from cell 0 on
module _ (storage : List ℕ) where
  pub listed_all : IsCellList (listed 0 storage)
  listed_all = listed_more 0 storage [] no_cells (All-nil (λ (c : ℕ × ℕ). c.0 < 0))

  pub listed_within : AreWithin (length storage) (listed 0 storage)
  listed_within = within_more (length storage) 0 storage [] (All-nil (λ (c : ℕ × ℕ). c.0 < length storage)) (omega arith)

  pub listed_again : storage_of (length storage) (listed 0 storage) ≡ storage
  listed_again =
      let n = length-storage_of (length storage) (listed 0 storage) in
      same_number_lists (storage_of (length storage) (listed 0 storage)) storage n
      (λ j l. row_holds (length storage) 0 storage j j (omega arith) (omega (arith, l, n)))
