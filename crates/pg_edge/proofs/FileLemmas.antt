-- The files that a shelf in memory keeps, found by the place of a name.
use Rattle.std.proofs.Common.{◌≡◌, ℕ, zero, suc, ◌<◌, List, [], ◌∷◌, length, position, Some, None, Bool, true, false, cond, is_some, string_bytes, refl, sym, ◌∙◌, ap, arith, get_or, set}
use Rattle.std.specs.Str.{bytes_eq}
use Rattle.std.specs.List.{position_or_len}
use Rattle.std.specs.Prelude.{nat_lt}
use Rattle.std.proofs.lemmas.Bool.Decides.{nat_tests}
use Rattle.std.proofs.lemmas.List.Quantifiers.{position-Some}
use Rattle.std.proofs.lemmas.List.Sums.{fails_before_first}
use Rattle.std.proofs.lemmas.List.Recursion.{found_at, found_nowhere}
use Rattle.pg_edge.specs.declared.mem_file.MemFile.{MemFile}
use Rattle.pg_edge.specs.MemFile.{shown, all_shown}
use Rattle.pg_edge.specs.ShelfView.{content_of, with_content}

-- the file has this name
abbrev pub has_name : List ℕ → MemFile → Bool
has_name name file = bytes_eq (string_bytes file.name) name

false_from_none : (b : Bool) (n : ℕ) → cond b (Some n) None ≡ None → b ≡ false
false_from_none true n none = cc
false_from_none false n none = refl

-- where no place is found, no element passes
pub position-None : {X : Type 0} (p : X → Bool) (xs : List X) → position p xs ≡ None → (k : ℕ) (d : X) → k < length xs → p (get_or xs k d) ≡ false
position-None p xs none k d within =
    let past : nat_lt (position_or_len p xs) (length xs) ≡ false = false_from_none _ _ none in
    let before : k < position_or_len p xs = grind (arith, nat_tests) in
    fails_before_first p xs k d before

-- ---- the content of a name

pub content_of-found : (files : List MemFile) (name : List ℕ) (i : ℕ) (d : MemFile) → position (has_name name) files ≡ Some i → content_of (all_shown files) name ≡ Some (get_or files i d).bytes.items
content_of-found files name i d found =
    let at = position-Some (has_name name) files i d found in
    found_at (λ all. content_of (all_shown all) name) (has_name name) (λ file. Some file.bytes.items) None refl (λ _ _. refl) files i d at.0 at.2 at.1

pub content_of-lost : (files : List MemFile) (name : List ℕ) → position (has_name name) files ≡ None → content_of (all_shown files) name ≡ None
content_of-lost [] name none = refl
content_of-lost (file ∷ rest) name none =
    found_nowhere (λ all. content_of (all_shown all) name) (has_name name) (λ held. Some held.bytes.items) None refl (λ _ _. refl) (file ∷ rest) file (λ k within. position-None (has_name name) (file ∷ rest) none k file within)

-- ---- other content under a name

with_content-at : (files : List MemFile) (name bytes : List ℕ) (i : ℕ) (d : MemFile) → i < length files → ((k : ℕ) → k < i → has_name name (get_or files k d) ≡ false) → has_name name (get_or files i d) ≡ true → with_content (all_shown files) name bytes ≡ set (all_shown files) i (string_bytes (get_or files i d).name, bytes)
with_content-at [] name bytes i d within before here = absurd (omega arith)
with_content-at (file ∷ rest) name bytes zero d within before here = rw here refl
with_content-at (file ∷ rest) name bytes (suc i) d within before here =
    let next = with_content-at rest name bytes i d (omega arith) (λ k below. before (suc k) (omega arith)) here in
    rw (before 0 (omega arith)) (ap (λ all. shown file ∷ all) next)

pub with_content-found : (files : List MemFile) (name bytes : List ℕ) (i : ℕ) (d : MemFile) → position (has_name name) files ≡ Some i → with_content (all_shown files) name bytes ≡ set (all_shown files) i (string_bytes (get_or files i d).name, bytes)
with_content-found files name bytes i d found =
    let at = position-Some (has_name name) files i d found in
    with_content-at files name bytes i d at.0 at.2 at.1

with_content-nowhere : (files : List MemFile) (name bytes : List ℕ) → ((k : ℕ) (d : MemFile) → k < length files → has_name name (get_or files k d) ≡ false) → with_content (all_shown files) name bytes ≡ all_shown files
with_content-nowhere [] name bytes nowhere = refl
with_content-nowhere (file ∷ rest) name bytes nowhere =
    let next = with_content-nowhere rest name bytes (λ k d within. nowhere (suc k) d (omega arith)) in
    rw (nowhere 0 file (omega arith)) (ap (λ all. shown file ∷ all) next)

pub with_content-lost : (files : List MemFile) (name bytes : List ℕ) → position (has_name name) files ≡ None → with_content (all_shown files) name bytes ≡ all_shown files
with_content-lost files name bytes none = with_content-nowhere files name bytes (position-None (has_name name) files none)

-- ---- the same, with no element to stand for one past the end

pub is_some-content_of-found : (files : List MemFile) (name : List ℕ) (i : ℕ) → position (has_name name) files ≡ Some i → true ≡ is_some (content_of (all_shown files) name)
is_some-content_of-found [] name i found = cc
is_some-content_of-found (file ∷ rest) name i found = ap is_some (sym (content_of-found (file ∷ rest) name i file found))

pub with_content-from_set : (files : List MemFile) (name bytes : List ℕ) (i : ℕ) (after : List (List ℕ × List ℕ)) → position (has_name name) files ≡ Some i → ((d : MemFile) → after ≡ set (all_shown files) i (string_bytes (get_or files i d).name, bytes)) → after ≡ with_content (all_shown files) name bytes
with_content-from_set [] name bytes i after found changed = cc
with_content-from_set (file ∷ rest) name bytes i after found changed =
    changed file ∙ sym (with_content-found (file ∷ rest) name bytes i file found)
