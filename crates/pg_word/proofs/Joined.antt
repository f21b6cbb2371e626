-- Bytes of numbers: those of 64 bits as std reads and writes them.
use Rattle.std.proofs.Common.{◌≡◌, ℕ, zero, suc, ◌+◌, ◌-◌, ◌/◌, ◌%◌, ◌^◌, ◌≤◌, List, [], ◌∷◌, ◌++◌, length, drop, replicate, refl, sym, ap, ◌∙◌, arith}
use Rattle.std.proofs.Math.Nat.{pow-suc, div-div-eq-div-mul, mul_comm}
use Rattle.std.proofs.lemmas.List.{take-replicate, drop_all, length-drop, append-nil, length-append, length-replicate}
use borrow.Rule.Slice.PartMut.{put_mid}
use Rattle.std.specs.Int.{w64, byte_at, bytes_high_first, from_be_bytes}
use Rattle.pg_word.specs.Bytes.{bytes_value, low_bytes}

-- zeros in front say nothing
zeros_first : (k : ℕ) (bytes : List ℕ) → bytes_value (replicate k 0 ++ bytes) ≡ bytes_value bytes
zeros_first zero bytes = refl
zeros_first (suc k) bytes = zeros_first k bytes

-- the last of eight zeros written over
pub behind_zeros : (k : ℕ) (written bytes : List ℕ) → k ≤ 8 → written ≡ bytes → put_mid k (8 - k) (replicate 8 0) written ≡ replicate k 0 ++ bytes
behind_zeros k written bytes h same =
    let zeros : List ℕ = replicate 8 0 in
    let none : drop (8 - k) (drop k zeros) ≡ [] = drop_all (8 - k) (drop k zeros) (omega (arith, length-drop k zeros)) in
    rw (take-replicate {X = ℕ} k 8 0 h, none, append-nil written, same) refl

-- eight bytes, as std joins them
eight : (a b c d e f g h : ℕ) → from_be_bytes w64 (a ∷ b ∷ c ∷ d ∷ e ∷ f ∷ g ∷ h ∷ []) ≡ bytes_value (a ∷ b ∷ c ∷ d ∷ e ∷ f ∷ g ∷ h ∷ [])
eight a b c d e f g h = omega arith

joined : (bytes : List ℕ) → length bytes ≡ 8 → from_be_bytes w64 bytes ≡ bytes_value bytes
joined (a ∷ b ∷ c ∷ d ∷ e ∷ f ∷ g ∷ h ∷ []) len = eight a b c d e f g h
joined [] len = absurd (omega arith)
joined (a ∷ []) len = absurd (omega arith)
joined (a ∷ b ∷ []) len = absurd (omega arith)
joined (a ∷ b ∷ c ∷ []) len = absurd (omega arith)
joined (a ∷ b ∷ c ∷ d ∷ []) len = absurd (omega arith)
joined (a ∷ b ∷ c ∷ d ∷ e ∷ []) len = absurd (omega arith)
joined (a ∷ b ∷ c ∷ d ∷ e ∷ f ∷ []) len = absurd (omega arith)
joined (a ∷ b ∷ c ∷ d ∷ e ∷ f ∷ g ∷ []) len = absurd (omega arith)
joined (a ∷ b ∷ c ∷ d ∷ e ∷ f ∷ g ∷ h ∷ i ∷ more) len = absurd (omega arith)

-- bytes behind zeros, eight in all
pub joined_behind_zeros : (k : ℕ) (bytes whole : List ℕ) → k + length bytes ≡ 8 → whole ≡ replicate k 0 ++ bytes → from_be_bytes w64 whole ≡ bytes_value bytes
joined_behind_zeros k bytes whole len is =
    let all : length whole ≡ 8 = rw is (omega (arith, length-append (replicate k 0) bytes, length-replicate {A = ℕ} k 0)) in
    joined whole all ∙ ap bytes_value is ∙ zeros_first k bytes

-- byte k + 1 is byte k without the lowest
next_byte : (k n : ℕ) → byte_at (suc k) n ≡ byte_at k (n / 256)
next_byte zero n = refl
next_byte (suc k) n =
    let e : n / 256 ^ suc (suc k) ≡ n / 256 / 256 ^ suc k = ap (λ x. n / x) (pow-suc 256 (suc k) ∙ mul_comm (256 ^ suc k) 256) ∙ sym (div-div-eq-div-mul n 256 (256 ^ suc k)) in
    ap (λ x. x % 256) e

-- the lowest bytes, of which the last is split off
pub bytes_high_first-last : (k n : ℕ) → bytes_high_first (suc k) n ≡ bytes_high_first k (n / 256) ++ n % 256 ∷ []
bytes_high_first-last zero n = refl
bytes_high_first-last (suc k) n = ap (λ b. b ∷ bytes_high_first (suc k) n) (next_byte k n) ∙ ap (λ bs. byte_at k (n / 256) ∷ bs) (bytes_high_first-last k n)

low_bytes_are : (k n : ℕ) → low_bytes k n ≡ bytes_high_first k n
unfolding low_bytes
low_bytes_are zero n = refl
low_bytes_are (suc k) n = ap (λ bs. bs ++ n % 256 ∷ []) (low_bytes_are k (n / 256)) ∙ sym (bytes_high_first-last k n)

-- the end of more bytes
end_of_bytes : (j k m n : ℕ) → m ≡ j + k → drop j (bytes_high_first m n) ≡ bytes_high_first k n
end_of_bytes zero k m n h =
    let e : m ≡ k = omega arith in
    ap (λ x. bytes_high_first x n) e
end_of_bytes (suc j) k zero n h = absurd (omega arith)
end_of_bytes (suc j) k (suc m) n h = end_of_bytes j k m n (omega arith)

pub low_end : (n value : ℕ) → n ≤ 8 → drop (8 - n) (bytes_high_first 8 value) ≡ low_bytes n value
low_end n value h = end_of_bytes (8 - n) n 8 value (omega arith) ∙ sym (low_bytes_are n value)
