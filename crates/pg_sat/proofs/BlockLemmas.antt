-- Blocks of flags that cover those that are up.
use Rattle.std.proofs.Common.{◌≡◌, ◌≢◌, ◌⊎◌, inl, inr, ℕ, ◌+◌, ◌/◌, ◌<◌, ◌≤◌, Bool, true, false, List, length, get_or, set, replicate, refl, sym, ap, ◌∙◌, arith}
use Rattle.std.proofs.lemmas.Bool.{cases_lt}
use Rattle.std.proofs.lemmas.List.{get_or-set_same, get_or-set_other, get_or_past, set_past, get_or-replicate, length-replicate}
use Rattle.pg_sat.specs.Blocks.{AreCovered}
use Rattle.pg_sat.specs.Listed.{AreDownWithin}
use Rattle.pg_watch.proofs.Moves.{same_number}

-- none is up
lowered : (m n : ℕ) → get_or (replicate m false) n false ≡ false
lowered m n = by (cases_lt n m)
  where
    by : (n < m) ⊎ (m ≤ n) → get_or (replicate m false) n false ≡ false
    by (inl lt) = get_or-replicate m n false false lt
    by (inr le) = get_or_past (replicate m false) n false (omega (arith, le, length-replicate m false))

pub covered_down : (flags blocks : List Bool) (m : ℕ) → flags ≡ replicate m false → AreCovered flags blocks
unfolding AreCovered
covered_down flags blocks m e n up = absurd (cc (up, ap (λ (fs : List Bool). get_or fs n false) e ∙ lowered m n))

-- the flag of a block goes up
raised_same : (blocks : List Bool) (k : ℕ) → get_or (set blocks k true) k true ≡ true
raised_same blocks k = by (cases_lt k (length blocks))
  where
    by : (k < length blocks) ⊎ (length blocks ≤ k) → get_or (set blocks k true) k true ≡ true
    by (inl lt) = get_or-set_same blocks k true true lt
    by (inr le) = ap (λ (bs : List Bool). get_or bs k true) (set_past blocks k true le) ∙ get_or_past blocks k true le

raised_any : (blocks : List Bool) (k j : ℕ) → get_or blocks j true ≡ true → get_or (set blocks k true) j true ≡ true
raised_any blocks k j e = by (same_number j k)
  where
    by : (j ≡ k) ⊎ (j ≢ k) → get_or (set blocks k true) j true ≡ true
    by (inl s) = ap (λ (i : ℕ). get_or (set blocks k true) i true) s ∙ raised_same blocks k
    by (inr d) = get_or-set_other blocks k j true true d ∙ e

-- a flag is put
pub covered_put : (flags blocks : List Bool) (at : ℕ) (up : Bool) → AreCovered flags blocks → AreCovered (set flags at up) (set blocks (at / 64) true)
unfolding AreCovered
covered_put flags blocks at up h n e = by (same_number n at)
  where
    by : (n ≡ at) ⊎ (n ≢ at) → get_or (set blocks (at / 64) true) (n / 64) true ≡ true
    by (inl s) = ap (λ (i : ℕ). get_or (set blocks (at / 64) true) (i / 64) true) s ∙ raised_same blocks (at / 64)
    by (inr d) = raised_any blocks (at / 64) (n / 64) (h n (sym (get_or-set_other flags at n up false d) ∙ e))

-- no flag of blocks that are down is up
up_or_down : (b : Bool) → (b ≡ true) ⊎ (b ≡ false)
up_or_down true = inl refl
up_or_down false = inr refl

pub down_within : (flags blocks : List Bool) (from to : ℕ) → AreCovered flags blocks →
    ((j : ℕ) → from / 64 ≤ j → j < to / 64 + 1 → get_or blocks j true ≡ false) → AreDownWithin flags from to
unfolding AreCovered AreDownWithin
down_within flags blocks from to h down n le lt = by (up_or_down (get_or flags n false))
  where
    by : (get_or flags n false ≡ true) ⊎ (get_or flags n false ≡ false) → get_or flags n false ≡ false
    by (inl up) = absurd (cc (h n up, down (n / 64) (omega (arith, le)) (omega (arith, lt))))
    by (inr e) = e
