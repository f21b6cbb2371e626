-- Windows that are the first cells of a storage.
use Rattle.std.proofs.Common.{◌≡◌, ℕ, ◌<◌, ◌≤◌, Bool, true, false, nat_lt, if◌then◌else◌, List, [], ◌∷◌, length, take, set, get_or, slice_get, None, Some, refl, ap, ◌∙◌, arith}
use Rattle.std.proofs.lemmas.Bool.{ltb-true, ltb-false}
use Rattle.std.proofs.lemmas.List.{length-take, length-set, get_or-take}
use Rattle.std.proofs.lemmas.Option.{slice_get_past, slice_get-get_or}
use Rattle.pg_lang_meaning.specs.Values.{bits, loaded}
use Rattle.pg_cells.specs.Storage.{Put, after_put, written}

-- a load from the first v cells, where the address is one of the storage
pub loaded-first : (w v : ℕ) (storage : List ℕ) (at : ℕ) (b : Bool) → at < length storage → nat_lt at v ≡ b →
    loaded w (take v storage) at ≡ (if b then Some (bits w (get_or storage at 0)) else None)
loaded-first w v storage at true l e =
    let below : at < v = ltb-true at v e in
    let size = length-take v storage in
    let got : slice_get (take v storage) at ≡ Some (get_or storage at 0) =
    slice_get-get_or (take v storage) at 0 (omega (arith, size)) ∙ ap (λ k. Some k) (get_or-take v storage at 0 below) in
    rw got refl
loaded-first w v storage at false l e =
    let above : v ≤ at = ltb-false at v e in
    let size = length-take v storage in
    let got : slice_get (take v storage) at ≡ None = slice_get_past (take v storage) at (omega (arith, size)) in
    rw got refl

length-after_put : (guard : Bool) (storage : List ℕ) (address word : ℕ) → length (if guard then set storage address word else storage) ≡ length storage
length-after_put true storage address word = length-set storage address word
length-after_put false storage address word = refl

-- writes keep the size
pub length-written : (xs : List Put) (storage : List ℕ) → length (written storage xs) ≡ length storage
length-written [] storage = refl
length-written (x ∷ xs) storage = length-written xs (after_put storage x) ∙ length-after_put x.guard storage x.address x.word
