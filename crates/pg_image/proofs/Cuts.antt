-- A line taken off a text, and a part off a line.
use Rattle.std.proofs.Common.{◌≡◌, ℕ, suc, ◌+◌, ◌<◌, ◌≤◌, Bool, true, false, not, cond, List, [], ◌∷◌, length, get_or, take, drop, sym, ap, subst, ◌∙◌, refl, arith, ⊎_elim, length-take}
use Rattle.std.specs.List.{filter, prefix_len, slice_split}
use Rattle.std.specs.Prelude.{nat_lt, ◌==◌}
use Rattle.std.proofs.lemmas.List.{take_all, drop_all, drop_more}
use Rattle.std.proofs.lemmas.List.Sums.{fails_before_first, passes_at_first, prefix_len_stops}
use Rattle.std.proofs.lemmas.List.Splits.{slice_split_first, slice_split_none, slice_split-cons_yes}
use Rattle.std.proofs.lemmas.Bool.{lt-ltb, cases_lt}
use Rattle.pg_image.specs.Images.{lines_of, parts_of, is_gap}

-- a text with an LF: the line before it, and the lines behind it
pub lines_first : (text : List ℕ) → prefix_len (λ c. not (c == 10)) text < length text
    → lines_of text ≡ take (prefix_len (λ c. not (c == 10)) text) text ∷ lines_of (drop (prefix_len (λ c. not (c == 10)) text + 1) text)
unfolding lines_of
lines_first text lt = slice_split_first (λ c. c == 10) text 0 lt

-- one without
pub lines_last : (text : List ℕ) → length text ≤ prefix_len (λ c. not (c == 10)) text → lines_of text ≡ text ∷ []
unfolding lines_of
lines_last text le = slice_split_none (λ c. c == 10) text (λ k d lt. fails_before_first (λ c. c == 10) text k d (omega arith))

-- what is kept of the parts
abbrev pub kept : (ℕ → Bool) → List ℕ → List (List ℕ)
kept p text = filter (λ part. nat_lt 0 (length part)) (slice_split p text)

kept_skip : (p : ℕ → Bool) (x : ℕ) (xs : List ℕ) → p x ≡ true → kept p (x ∷ xs) ≡ kept p xs
kept_skip p x xs e = ap (filter (λ part. nat_lt 0 (length part))) (slice_split-cons_yes p x xs e)

skip_step : (p : ℕ → Bool) (x : ℕ) (xs : List ℕ) (b : Bool) → p x ≡ b → kept p (drop (prefix_len p xs) xs) ≡ kept p xs → kept p (drop (cond b (1 + prefix_len p xs) 0) (x ∷ xs)) ≡ kept p (x ∷ xs)
skip_step p x xs true e ih =
    let s : 1 + prefix_len p xs ≡ suc (prefix_len p xs) = omega arith in
    ap (λ k. kept p (drop k (x ∷ xs))) s ∙ ih ∙ sym (kept_skip p x xs e)
skip_step p x xs false e ih = refl

-- separators in front make no part
kept_behind : (p : ℕ → Bool) (text : List ℕ) → kept p (drop (prefix_len p text) text) ≡ kept p text
kept_behind p [] = refl
kept_behind p (x ∷ xs) = skip_step p x xs (p x) refl (kept_behind p xs)

pub keep_some : (part : List ℕ) (parts : List (List ℕ)) → 0 < length part → filter (λ xs. nat_lt 0 (length xs)) (part ∷ parts) ≡ part ∷ filter (λ xs. nat_lt 0 (length xs)) parts
keep_some part parts some =
    ap (λ b. cond b (part ∷ filter (λ xs. nat_lt 0 (length xs)) parts) (filter (λ xs. nat_lt 0 (length xs)) parts)) (lt-ltb 0 (length part) some)

-- a part in front, and those behind it
kept_inner : (p : ℕ → Bool) (text : List ℕ) (n : ℕ) → n ≡ prefix_len (λ c. not (p c)) text → 0 < n → n < length text → kept p text ≡ take n text ∷ kept p (drop n text)
kept_inner p text n is some lt =
    let inside : prefix_len (λ c. not (p c)) text < length text = omega arith in
    let m : ℕ = prefix_len (λ c. not (p c)) text in
    let long : 0 < length (take m text) = omega (arith, length-take m text) in
    let behind : kept p (drop m text) ≡ kept p (drop (m + 1) text) =
    ap (kept p) (drop_more text m 0 inside) ∙ kept_skip p (get_or text m 0) (drop (m + 1) text) (passes_at_first p text 0 inside) in
    let cut : kept p text ≡ take m text ∷ kept p (drop m text) =
    ap (filter (λ part. nat_lt 0 (length part))) (slice_split_first p text 0 inside)
    ∙ keep_some (take m text) (slice_split p (drop (m + 1) text)) long
    ∙ ap (λ parts. take m text ∷ parts) (sym behind) in
    let back : m ≡ n = sym is in
    subst (λ k. kept p text ≡ take k text ∷ kept p (drop k text)) back cut

kept_last : (p : ℕ → Bool) (text : List ℕ) (n : ℕ) → n ≡ prefix_len (λ c. not (p c)) text → 0 < n → length text ≤ n → 0 < length text → kept p text ≡ take n text ∷ kept p (drop n text)
kept_last p text n is some le long =
    let one : slice_split p text ≡ text ∷ [] = slice_split_none p text (λ k d lt. fails_before_first p text k d (omega arith)) in
    ap (filter (λ part. nat_lt 0 (length part))) one
    ∙ keep_some text [] long
    ∙ ap (λ part. part ∷ []) (sym (take_all n text le))
    ∙ ap (λ rest. take n text ∷ kept p rest) (sym (drop_all n text le))

kept_first : (p : ℕ → Bool) (text : List ℕ) (n : ℕ) → n ≡ prefix_len (λ c. not (p c)) text → 0 < n → 0 < length text → kept p text ≡ take n text ∷ kept p (drop n text)
kept_first p text n is some long =
    ⊎_elim (λ lt. kept_inner p text n is some lt) (λ le. kept_last p text n is some le long) (cases_lt n (length text))

-- what stands behind the separators in front, where it does not begin with a part, is nothing
stops_at_end : (p : ℕ → Bool) (x : ℕ) (xs : List ℕ) → p x ≡ false → prefix_len (λ c. not (p c)) (x ∷ xs) ≡ 0 → ⊥
stops_at_end p x xs e h =
    let h' : cond (not false) (1 + prefix_len (λ c. not (p c)) xs) 0 ≡ 0 = subst (λ b. cond (not b) (1 + prefix_len (λ c. not (p c)) xs) 0 ≡ 0) e h in
    omega (arith, h')

kept_none : (p : ℕ → Bool) (line : List ℕ) → prefix_len (λ c. not (p c)) (drop (prefix_len p line) line) ≡ 0 → kept p line ≡ []
kept_none p line h =
    ⊎_elim
    (λ lt. absurd (stops_at_end p (get_or line (prefix_len p line) 0) (drop (prefix_len p line + 1) line) (prefix_len_stops p line 0 lt)
    (ap (prefix_len (λ c. not (p c))) (sym (drop_more line (prefix_len p line) 0 lt)) ∙ h)))
    (λ le. sym (kept_behind p line) ∙ ap (kept p) (drop_all (prefix_len p line) line le))
    (cases_lt (prefix_len p line) (length line))

-- the first part of a line, and those behind it
pub parts_first : (line : List ℕ) (n : ℕ) → n ≡ prefix_len (λ c. not (is_gap c)) (drop (prefix_len is_gap line) line) → 0 < n → n ≤ length (drop (prefix_len is_gap line) line)
    → parts_of line ≡ take n (drop (prefix_len is_gap line) line) ∷ parts_of (drop n (drop (prefix_len is_gap line) line))
unfolding parts_of
parts_first line n is some within =
    sym (kept_behind is_gap line) ∙ kept_first is_gap (drop (prefix_len is_gap line) line) n is some (omega arith)

-- a line without parts
pub parts_none : (line : List ℕ) → prefix_len (λ c. not (is_gap c)) (drop (prefix_len is_gap line) line) ≡ 0 → parts_of line ≡ []
unfolding parts_of
parts_none line h = kept_none is_gap line h

-- the same of slices
pub parts_first_at : (line front : List ℕ) (g n : ℕ) → g ≡ prefix_len is_gap line → front ≡ drop g line → n ≡ prefix_len (λ c. not (is_gap c)) front → (n ≡ 0 → ⊥) → n ≤ length front
    → parts_of line ≡ take n front ∷ parts_of (drop n front)
parts_first_at line front g n gap behind part some within =
    let is : front ≡ drop (prefix_len is_gap line) line = behind ∙ ap (λ k. drop k line) gap in
    let m : n ≡ prefix_len (λ c. not (is_gap c)) (drop (prefix_len is_gap line) line) = part ∙ ap (prefix_len (λ c. not (is_gap c))) is in
    let len : length front ≡ length (drop (prefix_len is_gap line) line) = ap length is in
    subst (λ xs. parts_of line ≡ take n xs ∷ parts_of (drop n xs)) (sym is) (parts_first line n m (omega arith) (omega arith))
