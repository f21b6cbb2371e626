-- What a save of a shelf in memory does to the content of each name.
use Rattle.std.proofs.Common.{◌≡◌, ◌≢◌, ◌⊎◌, ℕ, List, [], ◌∷◌, length, take, Option, Some, None, Bool, true, false, cond, Ok, Err, inl, inr, refl, sym, ◌∙◌, ap, subst}
use Rattle.std.specs.Str.{bytes_eq}
use Rattle.std.specs.Prelude.{nat_le, IsSome, IsSomeAnd}
use Rattle.std.proofs.lemmas.Slice.Eq.{bytes_eq-Decides}
use Rattle.std.proofs.lemmas.List.{length-take, take_min}
use Rattle.pg_edge.specs.Shelf.{Saves, HasOldOrFront, SameBut, IsPrefix}
use Rattle.pg_edge.specs.ShelfView.{content_of, with_content, cut_short, files_left}

-- ---- the name itself

-- this content, if there is a file
abbrev put_in : List ℕ → Option (List ℕ) → Option (List ℕ)
put_in bytes None = None
put_in bytes (Some was) = Some bytes

same_at : (b : Bool) (file : List ℕ × List ℕ) (rest : List (List ℕ × List ℕ)) (name bytes : List ℕ) → bytes_eq file.0 name ≡ b → content_of (with_content rest name bytes) name ≡ put_in bytes (content_of rest name) → content_of (cond b ((file.0, bytes) ∷ rest) (file ∷ with_content rest name bytes)) name ≡ put_in bytes (cond b (Some file.1) (content_of rest name))
same_at true file rest name bytes is next = rw is refl
same_at false file rest name bytes is next = rw is next

content_of-with_content : (files : List (List ℕ × List ℕ)) (name bytes : List ℕ) → content_of (with_content files name bytes) name ≡ put_in bytes (content_of files name)
content_of-with_content [] name bytes = refl
content_of-with_content (file ∷ rest) name bytes =
    same_at (bytes_eq file.0 name) file rest name bytes refl (content_of-with_content rest name bytes)

-- ---- another name

false_unless : (b : Bool) (P : Type 0) → (b ≡ true → P) → (P → ⊥) → b ≡ false
false_unless true P holds never = absurd (never (holds refl))
false_unless false P holds never = refl

differs_too : (at name other : List ℕ) → other ≢ name → bytes_eq at name ≡ true → bytes_eq at other ≡ false
differs_too at name other differs is =
    let same : at ≡ name = (bytes_eq-Decides at name).0 is in
    false_unless (bytes_eq at other) (at ≡ other) (bytes_eq-Decides at other).0 (λ (e : at ≡ other). differs (sym e ∙ same))

other_at : (b : Bool) (file : List ℕ × List ℕ) (rest : List (List ℕ × List ℕ)) (name bytes other : List ℕ) → other ≢ name → bytes_eq file.0 name ≡ b → content_of (with_content rest name bytes) other ≡ content_of rest other → content_of (cond b ((file.0, bytes) ∷ rest) (file ∷ with_content rest name bytes)) other ≡ content_of (file ∷ rest) other
other_at true file rest name bytes other differs is next = rw (differs_too file.0 name other differs is) refl
other_at false file rest name bytes other differs is next = rw next refl

pub SameBut-with_content : (files : List (List ℕ × List ℕ)) (name bytes : List ℕ) → SameBut name (content_of files) (content_of (with_content files name bytes))
SameBut-with_content [] name bytes other differs = refl
SameBut-with_content (file ∷ rest) name bytes other differs =
    other_at (bytes_eq file.0 name) file rest name bytes other differs refl (SameBut-with_content rest name bytes other differs)

-- ---- a save

put_in-there : (held : Option (List ℕ)) (bytes : List ℕ) → IsSome held → put_in bytes held ≡ Some bytes
put_in-there None bytes there = cc
put_in-there (Some was) bytes there = refl

pub Saves-whole : {T E : Type 0} (files after : List (List ℕ × List ℕ)) (name bytes : List ℕ) (done : T) → IsSome (content_of files name) → after ≡ with_content files name bytes → Saves {E = E} (Some (content_of files)) (Some (content_of after)) name bytes (Ok done)
Saves-whole files after name bytes done there is = record {
  whole = ap (λ held. content_of held name) is ∙ content_of-with_content files name bytes ∙ put_in-there (content_of files name) bytes there;
  front = tt;
  others = let P : List (List ℕ × List ℕ) → Type 0 = λ held. SameBut name (content_of files) (content_of held) in
      subst P (sym is) (SameBut-with_content files name bytes);
}

-- what a save that failed leaves
record Left (files after : List (List ℕ × List ℕ)) (name bytes : List ℕ) : Type 0 where
  front : HasOldOrFront name bytes (content_of files) (content_of after)
  others : SameBut name (content_of files) (content_of after)

Left-nothing : (files : List (List ℕ × List ℕ)) (name bytes : List ℕ) → Left files files name bytes
Left-nothing files name bytes = record { front = inl refl; others = λ other differs. refl }

IsPrefix-take : (n : ℕ) (bytes : List ℕ) → IsPrefix (take n bytes) bytes
IsPrefix-take n bytes = rw length-take (take_min n bytes)

old_or_front : (n : ℕ) (held now : Option (List ℕ)) (bytes : List ℕ) → now ≡ put_in (take n bytes) held → (now ≡ held) ⊎ IsSomeAnd now (λ front. IsPrefix front bytes)
old_or_front n None now bytes is = inl is
old_or_front n (Some was) now bytes is =
    let P : Option (List ℕ) → Type 0 = λ o. IsSomeAnd o (λ front. IsPrefix front bytes) in
    inr (subst P (sym is) (IsPrefix-take n bytes))

Left-cut_short : (files : List (List ℕ × List ℕ)) (failing : Option ℕ) (name bytes : List ℕ) → Left files (cut_short files failing name bytes) name bytes
Left-cut_short files None name bytes = Left-nothing files name bytes
Left-cut_short files (Some taken) name bytes = record {
  front = old_or_front taken (content_of files name) _ bytes (content_of-with_content files name (take taken bytes));
  others = SameBut-with_content files name (take taken bytes);
}

Left-cond : (fits : Bool) (files : List (List ℕ × List ℕ)) (failing : Option ℕ) (name bytes : List ℕ) → Left files (cond fits (cut_short files failing name bytes) files) name bytes
Left-cond true files failing name bytes = Left-cut_short files failing name bytes
Left-cond false files failing name bytes = Left-nothing files name bytes

pub Saves-front : {T E : Type 0} (files after : List (List ℕ × List ℕ)) (room : ℕ) (failing : Option ℕ) (name bytes : List ℕ) (fault : E) → after ≡ files_left files room failing name bytes → Saves {T = T} (Some (content_of files)) (Some (content_of after)) name bytes (Err fault)
Saves-front files after room failing name bytes fault is =
    let P : List (List ℕ × List ℕ) → Type 0 = λ held. Left files held name bytes in
    let left : P after = subst P (sym is) (Left-cond (nat_le (length bytes) room) files failing name bytes) in
    record { whole = tt; front = left.front; others = left.others }
