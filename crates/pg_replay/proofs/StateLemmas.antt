-- The words of a storage, and those that are listed.
use Rattle.std.proofs.Common.{◌≡◌, ℕ, ◌<◌, ◌≤◌, ◌/◌, ◌^◌, List, [], ◌∷◌, refl, sym, subst, arith}
use Rattle.std.specs.List.{All}
use Rattle.std.proofs.lemmas.Nat.{pow_pos, div_below}
use Rattle.std.proofs.lemmas.List.Elements.{All-head, All-tail, All-set, All-replicate, All-from_get_or}
use Rattle.pg_word.specs.Sparse.{address_at, IsCellList, AreWithin, storage_of}
use Rattle.pg_word.proofs.SparseLemmas.{length-storage_of, listed_holds}
use Rattle.pg_word.specs.Psw.{IsPsw}
use Rattle.pg_word.specs.declared.psw.Psw.{Psw}
use Rattle.pg_ast.specs.declared.tree.Desc.{Desc}
use Rattle.pg_lang_meaning.specs.States.{IsState}

-- words that are listed, with zeros elsewhere
pub words-stored : (w size : ℕ) (cells : List (ℕ × ℕ)) → All (λ cell. cell.1 < 2 ^ w) cells → 0 < 2 ^ w → All (λ c. c < 2 ^ w) (storage_of size cells)
words-stored w size [] h p = All-replicate (λ c. c < 2 ^ w) size 0 p
words-stored w size (c ∷ cells) h p =
    All-set (λ c. c < 2 ^ w) (storage_of size cells) c.0 c.1 (All-head (λ cell. cell.1 < 2 ^ w) c cells h) (words-stored w size cells (All-tail (λ cell. cell.1 < 2 ^ w) c cells h) p)

-- and the other way
pub words-listed : (w size : ℕ) (cells : List (ℕ × ℕ)) → IsCellList cells → AreWithin size cells → All (λ c. c < 2 ^ w) (storage_of size cells) → All (λ cell. cell.1 < 2 ^ w) cells
words-listed w size cells listed within words = All-from_get_or (λ cell. cell.1 < 2 ^ w) cells (0, 0) (λ i l.
    let at : address_at cells i < size = within i (0, 0) l in
    let stored = words (address_at cells i) 0 (omega (arith, length-storage_of size cells)) in
    subst (λ c. c < 2 ^ w) (listed_holds size cells (address_at cells i) i at listed l refl) stored)

-- a number has at most so many bits where nothing is above them
pub below_of_none : (x bits : ℕ) → x / 2 ^ bits ≡ 0 → x < 2 ^ bits
below_of_none x bits e = let p : 0 < 2 ^ bits = pow_pos bits in grind (arith, e)

pub none_of_below : (x bits : ℕ) → x < 2 ^ bits → x / 2 ^ bits ≡ 0
none_of_below x bits l = let z : x / 2 ^ bits < 1 = div_below x (2 ^ bits) 1 (pow_pos bits) (omega arith) in omega arith

-- ---- a state, by its parts

pub state-of : (d : Desc) (size : ℕ) (psw : Psw) (cells items : List (ℕ × ℕ)) → 2 ≤ size → size ≤ d.size → IsPsw d.address psw → items ≡ cells →
    All (λ cell. cell.1 < 2 ^ d.word) items → IsState d (record { cells = storage_of size cells; psw = psw })
state-of d size psw cells items least most fields same words = record {
  size_least = omega (arith, length-storage_of size cells);
  size_most = omega (arith, length-storage_of size cells);
  words = words-stored d.word size cells (subst (All (λ cell. cell.1 < 2 ^ d.word)) same words) (pow_pos d.word);
  fields = fields;
}

pub state-least : (d : Desc) (size : ℕ) (psw : Psw) (cells : List (ℕ × ℕ)) → IsState d (record { cells = storage_of size cells; psw = psw }) → 2 ≤ size
state-least d size psw cells h = omega (arith, length-storage_of size cells, h.size_least)

pub state-most : (d : Desc) (size : ℕ) (psw : Psw) (cells : List (ℕ × ℕ)) → IsState d (record { cells = storage_of size cells; psw = psw }) → size ≤ d.size
state-most d size psw cells h = omega (arith, length-storage_of size cells, h.size_most)

pub listed-of : (d : Desc) (size : ℕ) (psw : Psw) (cells items : List (ℕ × ℕ)) → items ≡ cells → IsCellList cells → AreWithin size cells →
    IsState d (record { cells = storage_of size cells; psw = psw }) → All (λ cell. cell.1 < 2 ^ d.word) items
listed-of d size psw cells items same listed within h = subst (All (λ cell. cell.1 < 2 ^ d.word)) (sym same) (words-listed d.word size cells listed within h.words)
