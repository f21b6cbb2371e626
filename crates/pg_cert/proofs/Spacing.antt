-- The text of parts, from left to right.
use Rattle.std.proofs.Common.{◌≡◌, ℕ, ◌+◌, ◌<◌, ◌/◌, ℤ, List, [], ◌∷◌, ◌++◌, length, get_or, drop, map, sym, ap, ◌∙◌, refl, append_assoc}
use Rattle.std.specs.List.{join_with_byte}
use Rattle.std.specs.Fmt.{decimal, signed_decimal}
use Rattle.std.proofs.lemmas.List.{append-nil, drop_more}
use Rattle.pg_text.specs.Printing.{hex_text}
use Rattle.pg_type.specs.declared.kind.Kind.{Kind}
use Rattle.pg_cert.specs.declared.line.Found.{Found}
use Rattle.pg_cert.specs.Lines.{kind_text, found_parts, header_parts, step_parts, removal_parts, cells_parts, parts_text, spaced}

pub spaced-append : (xs ys : List (List ℕ)) → spaced (xs ++ ys) ≡ spaced xs ++ spaced ys
unfolding spaced
spaced-append [] ys = refl
spaced-append (x ∷ xs) ys = ap (λ s. (32 ∷ x) ++ s) (spaced-append xs ys) ∙ sym (append_assoc (32 ∷ x) (spaced xs) (spaced ys))

join_spaced : (part : List ℕ) (parts : List (List ℕ)) → join_with_byte 32 (part ∷ parts) ≡ part ++ spaced parts
unfolding spaced
join_spaced part [] = sym (append-nil part)
join_spaced part (next ∷ parts) = ap (λ s. part ++ 32 ∷ s) (join_spaced next parts)

pub parts_spaced : (part : List ℕ) (parts : List (List ℕ)) → parts_text (part ∷ parts) ≡ part ++ spaced parts ++ 10 ∷ []
parts_spaced part parts = ap (λ s. s ++ 10 ∷ []) (join_spaced part parts)

-- one part more of those that are put, each with its space
pub spaced_more : {A : Type 0} (f : A → List ℕ) (xs : List A) (i : ℕ) (d : A) (old new due : List ℕ) → i < length xs → new ≡ old ++ 32 ∷ f (get_or xs i d) → old ++ spaced (map f (drop i xs)) ≡ due →
    new ++ spaced (map f (drop (i + 1) xs)) ≡ due
unfolding spaced
spaced_more f xs i d old new due lt e h =
    ap (λ z. z ++ spaced (map f (drop (i + 1) xs))) e ∙ append_assoc old (32 ∷ f (get_or xs i d)) (spaced (map f (drop (i + 1) xs)))
    ∙ ap (λ z. old ++ spaced (map f z)) (sym (drop_more xs i d lt)) ∙ h

-- the parts in front of LF, put one after another
module _ (old : List ℕ) where
  numbers_then : (one two : List (List ℕ)) → spaced (one ++ (48 ∷ []) ∷ two) ≡ spaced one ++ 32 ∷ 48 ∷ spaced two
  unfolding spaced
  numbers_then one two = spaced-append one ((48 ∷ []) ∷ two)

  last_zero : (one : List (List ℕ)) → spaced (one ++ (48 ∷ []) ∷ []) ≡ spaced one ++ 32 ∷ 48 ∷ []
  unfolding spaced
  last_zero one = spaced-append one ((48 ∷ []) ∷ [])

  pub step_text : (lits : List ℤ) (hints : List ℕ) →
      (((((old ++ 115 ∷ []) ++ spaced (map signed_decimal lits)) ++ 32 ∷ 48 ∷ []) ++ spaced (map decimal hints)) ++ 32 ∷ 48 ∷ []) ++ 10 ∷ [] ≡ old ++ parts_text (step_parts lits hints)
  step_text lits hints =
      let one : List (List ℕ) = map signed_decimal lits in
      let two : List (List ℕ) = map decimal hints in
      let parts : spaced (one ++ (48 ∷ []) ∷ two ++ (48 ∷ []) ∷ []) ≡ (spaced one ++ 32 ∷ 48 ∷ spaced two) ++ 32 ∷ 48 ∷ [] =
      last_zero (one ++ (48 ∷ []) ∷ two) ∙ ap (λ s. s ++ 32 ∷ 48 ∷ []) (numbers_then one two) in
      sym (ap (λ s. old ++ s) (parts_spaced (115 ∷ []) (one ++ (48 ∷ []) ∷ two ++ (48 ∷ []) ∷ []) ∙ ap (λ s. 115 ∷ s ++ 10 ∷ []) parts) ∙ simp append_assoc)

  pub removal_text : (numbers : List ℕ) → (((old ++ 100 ∷ []) ++ spaced (map decimal numbers)) ++ 32 ∷ 48 ∷ []) ++ 10 ∷ [] ≡ old ++ parts_text (removal_parts numbers)
  removal_text numbers =
      let one : List (List ℕ) = map decimal numbers in
      sym (ap (λ s. old ++ s) (parts_spaced (100 ∷ []) (one ++ (48 ∷ []) ∷ []) ∙ ap (λ s. 100 ∷ s ++ 10 ∷ []) (last_zero one)) ∙ simp append_assoc)

  pub header_text : (name : List ℕ) (kind : Kind) (found : Found) →
      ((((old ++ 102 ∷ 105 ∷ 110 ∷ 100 ∷ 105 ∷ 110 ∷ 103 ∷ []) ++ 32 ∷ name) ++ 32 ∷ kind_text kind) ++ spaced (found_parts found)) ++ 10 ∷ [] ≡ old ++ parts_text (header_parts name kind found)
  unfolding spaced
  header_text name kind found =
      sym (ap (λ s. old ++ s) (parts_spaced (102 ∷ 105 ∷ 110 ∷ 100 ∷ 105 ∷ 110 ∷ 103 ∷ []) (name ∷ kind_text kind ∷ found_parts found)) ∙ simp append_assoc)

  pub cells_text : (w first : ℕ) (words : List ℕ) →
      (((old ++ decimal first) ++ 58 ∷ []) ++ spaced (map (hex_text (w / 4)) words)) ++ 10 ∷ [] ≡ old ++ parts_text (cells_parts w first words)
  cells_text w first words =
      sym (ap (λ s. old ++ s) (parts_spaced (decimal first ++ 58 ∷ []) (map (hex_text (w / 4)) words)) ∙ simp append_assoc)
