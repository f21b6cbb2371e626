-- Bytes that are cut into lines.
use Rattle.std.proofs.Common.{◌≡◌, ◌≢◌, ℕ, suc, ◌+◌, min, Bool, true, false, if◌then◌else◌, List, [], ◌∷◌, ◌++◌, length, take, drop, All, refl, ap, ◌∙◌, arith}
use Rattle.std.specs.Prelude.{◌==◌, not}
use Rattle.std.specs.List.{prefix_len}
use Rattle.std.proofs.lemmas.Bool.{ne_eqb}
use Rattle.std.proofs.lemmas.List.Elements.{All-head, All-tail}
use Rattle.pg_move.specs.Reading.{before_lines, cut_lines}

-- how many bytes the first line has
abbrev pub line_len : List ℕ → ℕ
line_len bytes = min (prefix_len (λ c. not (c == 10)) bytes + 1) (length bytes)

-- the first line is taken off
pub first_cut : (bytes : List ℕ) → bytes ≢ [] →
    cut_lines bytes ≡ take (line_len bytes) bytes ∷ cut_lines (drop (line_len bytes) bytes)
unfolding cut_lines
first_cut [] some = absurd (some refl)
first_cut (c ∷ []) some = by (c == 10)
  where
    by : (b : Bool) → (if b then (c ∷ []) ∷ [] else (c ∷ []) ∷ []) ≡ take (min ((if not b then 1 + 0 else 0) + 1) 1) (c ∷ []) ∷
        cut_lines (drop (min ((if not b then 1 + 0 else 0) + 1) 1) (c ∷ []))
    by true = refl
    by false = refl
first_cut (c ∷ d ∷ ds) some = by (c == 10) (first_cut (d ∷ ds) (λ e. absurd cc))
  where
    cs : List ℕ
    cs = d ∷ ds

    n : ℕ
    n = prefix_len (λ x. not (x == 10)) cs

    by : (b : Bool) → cut_lines cs ≡ take (line_len cs) cs ∷ cut_lines (drop (line_len cs) cs) →
        (if b then (c ∷ []) ∷ cut_lines cs else before_lines c (cut_lines cs)) ≡
        take (min ((if not b then 1 + n else 0) + 1) (suc (length cs))) (c ∷ cs) ∷
        cut_lines (drop (min ((if not b then 1 + n else 0) + 1) (suc (length cs))) (c ∷ cs))
    by true rest =
        let one : min (0 + 1) (suc (length cs)) ≡ 1 = omega arith in
        rw one refl
    by false rest =
        let more : min ((1 + n) + 1) (suc (length cs)) ≡ suc (line_len cs) = omega arith in
        rw more (ap (before_lines c) rest)

-- bytes with one LF, at their end, are the first line of what they begin
pub line_cut : (body rest : List ℕ) → All (λ c. c ≢ 10) body →
    cut_lines ((body ++ 10 ∷ []) ++ rest) ≡ (body ++ 10 ∷ []) ∷ cut_lines rest
unfolding cut_lines
line_cut [] rest once = refl
line_cut (c ∷ body) rest once =
    let other : (c == 10) ≡ false = ne_eqb c 10 (All-head (λ x. x ≢ 10) c body once) in
    ap (λ (b : Bool). if b then (c ∷ []) ∷ cut_lines ((body ++ 10 ∷ []) ++ rest) else before_lines c (cut_lines ((body ++ 10 ∷ []) ++ rest))) other
    ∙ ap (before_lines c) (line_cut body rest (All-tail (λ x. x ≢ 10) c body once))

-- lines, one after another
abbrev pub joined : List (List ℕ) → List ℕ
joined [] = []
joined (l ∷ ls) = l ++ joined ls

before_joined : (c : ℕ) (ls : List (List ℕ)) → joined (before_lines c ls) ≡ c ∷ joined ls
before_joined c [] = refl
before_joined c (l ∷ ls) = refl

pub cut_joined : (bytes : List ℕ) → joined (cut_lines bytes) ≡ bytes
unfolding cut_lines
cut_joined [] = refl
cut_joined (c ∷ cs) = by (c == 10) (cut_joined cs)
  where
    by : (b : Bool) → joined (cut_lines cs) ≡ cs →
        joined (if b then (c ∷ []) ∷ cut_lines cs else before_lines c (cut_lines cs)) ≡ c ∷ cs
    by true rest = ap (λ bs. c ∷ bs) rest
    by false rest = before_joined c (cut_lines cs) ∙ ap (λ bs. c ∷ bs) rest
