-- Lists that are parted where the first element passes a test.
use Rattle.std.proofs.Common.{◌≡◌, Bool, true, false, List, [], ◌∷◌, ◌++◌, refl, sym, ap, ◌∙◌, true≢false}
use Rattle.std.specs.List.{list_any}
use Rattle.std.proofs.lemmas.Bool.{or_parts}

module _ {X : Type 0} (p : X → Bool) where
  abbrev pub starts : List X → Bool
  starts [] = false
  starts (x ∷ xs) = p x

  -- what stands before the first element that passes, and what begins with it
  pub parted : (xs zs rest left : List X) → list_any p xs ≡ false → list_any p zs ≡ false →
      starts rest ≡ true → starts left ≡ true → xs ++ rest ≡ zs ++ left → (xs ≡ zs) × (rest ≡ left)
  parted [] [] rest left nx nz sx sz e = (refl, e)
  parted [] (z ∷ zs) rest left nx nz sx sz e =
      absurd (true≢false (sym sx ∙ ap starts e ∙ (or_parts (p z) (list_any p zs) nz).0))
  parted (x ∷ xs) [] rest left nx nz sx sz e =
      absurd (true≢false (sym sz ∙ ap starts (sym e) ∙ (or_parts (p x) (list_any p xs) nx).0))
  parted (x ∷ xs) (z ∷ zs) rest left nx nz sx sz e =
      let head : x ≡ z = cc in
      let tail : xs ++ rest ≡ zs ++ left = cc in
      let none_x = or_parts (p x) (list_any p xs) nx in
      let none_z = or_parts (p z) (list_any p zs) nz in
      let more = parted xs zs rest left none_x.1 none_z.1 sx sz tail in
      let front : xs ≡ zs = more.0 in
      let whole : x ∷ xs ≡ z ∷ zs = cc in
      (whole, more.1)
