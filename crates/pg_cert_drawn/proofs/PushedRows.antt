-- Rows of cells that come behind those of a state.
use Rattle.std.proofs.Common.{◌≡◌, ◌≢◌, ℕ, suc, ◌+◌, ◌-◌, ◌<◌, ◌≤◌, Bool, true, false, List, [], ◌∷◌, ◌++◌, length, get_or, drop, refl, sym, ap, subst, ◌∙◌, arith, cond, append_assoc, ◌⊎◌, inl, inr}
use Rattle.std.specs.Prelude.{nat_lt, ◌==◌}
use Rattle.std.specs.List.{All, list_all}
use Rattle.std.proofs.lemmas.List.{drop_more, drop_all, append-nil}
use Rattle.std.proofs.lemmas.List.Folds.{list_all_at}
use Rattle.std.proofs.lemmas.List.Sums.{AllPass-from_list_all, list_all-from_AllPass}
use Rattle.std.proofs.lemmas.List.Elements.{All-from_get_or, All-weaker, All-append, All-nil, All-cons}
use Rattle.std.proofs.lemmas.Bool.{ltb-true, lt-ltb, cases_Bool, eq-eqb, ne_eqb}
use Rattle.pg_word.specs.Sparse.{address_at, IsCellList, IsPastLast}
use Rattle.pg_cert_drawn.specs.Drawn.{listed}

below_all : (cells : List (ℕ × ℕ)) (first : ℕ) → IsCellList cells → 0 < length cells → address_at cells (length cells - 1) < first → All (λ cell. cell.0 < first) cells
below_all cells first h some last = All-from_get_or (λ cell. cell.0 < first) cells (0, 0) (λ i l.
    grind (arith, h.ascending i (length cells - 1), λ (same : i ≡ length cells - 1). ap (address_at cells) same))

pub last_below : (cells : List (ℕ × ℕ)) (first : ℕ) → IsCellList cells → 0 < length cells →
    nat_lt (address_at cells (length cells - 1)) first ≡ list_all (λ cell. nat_lt cell.0 first) cells
last_below cells first h some = by (cases_Bool (nat_lt (address_at cells (length cells - 1)) first))
  where
    by : (nat_lt (address_at cells (length cells - 1)) first ≡ true) ⊎ (nat_lt (address_at cells (length cells - 1)) first ≡ false) →
        nat_lt (address_at cells (length cells - 1)) first ≡ list_all (λ cell. nat_lt cell.0 first) cells
    by (inl e) =
        let below : All (λ cell. cell.0 < first) cells = below_all cells first h some (ltb-true (address_at cells (length cells - 1)) first e) in
        e ∙ sym (list_all-from_AllPass (λ cell. nat_lt cell.0 first) cells
        (All-weaker (λ cell. cell.0 < first) (λ cell. nat_lt cell.0 first ≡ true) (λ cell l. lt-ltb cell.0 first l) cells below))
    by (inr e) = e ∙ sym (list_all_at (λ cell. nat_lt cell.0 first) cells (length cells - 1) (0, 0) (omega arith) e)

pub all_lie_below : (cells : List (ℕ × ℕ)) (first : ℕ) → list_all (λ cell. nat_lt cell.0 first) cells ≡ true → All (λ cell. cell.0 < first) cells
all_lie_below cells first e =
    All-weaker (λ cell. nat_lt cell.0 first ≡ true) (λ cell. cell.0 < first) (λ cell t. ltb-true cell.0 first t) cells
    (AllPass-from_list_all (λ cell. nat_lt cell.0 first) cells e)

-- the cells of a row so far stand behind the others, and those that are left behind them
pub record IsListedSoFar (before cells : List (ℕ × ℕ)) (first : ℕ) (words : List ℕ) (at i : ℕ) : Type 0 where
  pub at_is : at ≡ first + i
  pub below : All (λ cell. cell.0 < at) cells
  pub listed_are : cells ++ listed at (drop i words) ≡ before ++ listed first words

pub IsListedSoFar-begun : (before : List (ℕ × ℕ)) (first : ℕ) (words : List ℕ) → All (λ cell. cell.0 < first) before → IsListedSoFar before before first words first 0
IsListedSoFar-begun before first words h = record { at_is = omega arith; below = h; listed_are = refl }

pub past : (cells : List (ℕ × ℕ)) (at : ℕ) → All (λ cell. cell.0 < at) cells → IsPastLast cells at
past cells at all i e = all i (0, 0) (omega arith)

none_behind : (cells : List (ℕ × ℕ)) (at word : ℕ) → word ≡ 0 → listed at (word ∷ []) ≡ []
none_behind cells at word e = ap (λ b. cond b [] ((at, word) ∷ [])) (eq-eqb word 0 e)

pub zero_passed : (cells : List (ℕ × ℕ)) (at word : ℕ) → word ≡ 0 → cells ≡ cells ++ listed at (word ∷ [])
zero_passed cells at word e = sym (ap (λ xs. cells ++ xs) (none_behind cells at word e) ∙ append-nil cells)

pub word_listed : (at word : ℕ) → word ≢ 0 → listed at (word ∷ []) ≡ (at, word) ∷ []
word_listed at word some = ap (λ b. cond b [] ((at, word) ∷ [])) (ne_eqb word 0 some)

listed-below : (at word : ℕ) → All (λ (cell : ℕ × ℕ). cell.0 < at + 1) (listed at (word ∷ []))
listed-below at word = by (word == 0)
  where
    by : (b : Bool) → All (λ (cell : ℕ × ℕ). cell.0 < at + 1) (cond b [] ((at, word) ∷ []))
    by true = All-nil (λ (cell : ℕ × ℕ). cell.0 < at + 1)
    by false = All-cons (λ (cell : ℕ × ℕ). cell.0 < at + 1) (at, word) [] (omega arith) (All-nil (λ (cell : ℕ × ℕ). cell.0 < at + 1))

listed-cons : (at word : ℕ) (words : List ℕ) → listed at (word ∷ words) ≡ listed at (word ∷ []) ++ listed (suc at) words
listed-cons at word words = by (word == 0)
  where
    by : (b : Bool) → cond b (listed (suc at) words) ((at, word) ∷ listed (suc at) words) ≡ cond b [] ((at, word) ∷ []) ++ listed (suc at) words
    by true = refl
    by false = refl

pub row_goes_on : (before cells after : List (ℕ × ℕ)) (first : ℕ) (words : List ℕ) (at i : ℕ) → i < length words →
    after ≡ cells ++ listed at (get_or words i 0 ∷ []) → IsListedSoFar before cells first words at i → IsListedSoFar before after first words (at + 1) (i + 1)
row_goes_on before cells after first words at i l e h =
    let word : ℕ = get_or words i 0 in
    let next : suc at ≡ at + 1 = omega arith in
    let rest : List ℕ = drop (i + 1) words in
    let here : listed at (drop i words) ≡ listed at (word ∷ []) ++ listed (at + 1) rest =
    ap (listed at) (drop_more words i 0 l) ∙ listed-cons at word rest ∙ ap (λ k. listed at (word ∷ []) ++ listed k rest) next in
    record {
      at_is = omega (arith, h.at_is);
      below = subst (All (λ (cell : ℕ × ℕ). cell.0 < at + 1)) (sym e)
          (All-append (λ (cell : ℕ × ℕ). cell.0 < at + 1) cells (listed at (word ∷ []))
          (All-weaker (λ cell. cell.0 < at) (λ (cell : ℕ × ℕ). cell.0 < at + 1) (λ cell m. omega arith) cells h.below) (listed-below at word));
      listed_are = ap (λ xs. xs ++ listed (at + 1) rest) e ∙ append_assoc cells (listed at (word ∷ [])) (listed (at + 1) rest)
          ∙ ap (λ xs. cells ++ xs) (sym here) ∙ h.listed_are;
    }

pub row_listed : (before cells : List (ℕ × ℕ)) (first : ℕ) (words : List ℕ) (at i : ℕ) → length words ≤ i → IsListedSoFar before cells first words at i →
    cells ≡ before ++ listed first words
row_listed before cells first words at i l h =
    sym (append-nil cells) ∙ ap (λ ws. cells ++ listed at ws) (sym (drop_all i words l)) ∙ h.listed_are
