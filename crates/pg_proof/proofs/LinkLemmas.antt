-- Lists by links: each number links to a lesser one.
use Rattle.std.proofs.Common.{◌≡◌, ℕ, zero, suc, ◌-◌, ◌<◌, ◌≤◌, List, [], ◌∷◌, ◌++◌, length, get_or, set, replicate, refl, sym, ap, subst, ◌∙◌, arith}
use Rattle.std.proofs.lemmas.List.{length-map, length-set, get_or-set_same, get_or-set_other, get_or-map, map-set}
use Rattle.pg_proof.specs.Covered.{chain, hung_of, with_hung, AreLinksBelow, AreLinked}

get_or-zeros : (n k : ℕ) → get_or (replicate n zero) k zero ≡ zero
get_or-zeros zero k = refl
get_or-zeros (suc n) zero = refl
get_or-zeros (suc n) (suc k) = get_or-zeros n k

-- a list with one number set keeps a bound that depends on the place
set-below : (xs : List ℕ) (i v : ℕ) (bound : ℕ → ℕ) → v ≤ bound i → ((k : ℕ) → get_or xs k 0 ≤ bound k) → (k : ℕ) → get_or (set xs i v) k 0 ≤ bound k
set-below [] i v bound le h k = h k
set-below (x ∷ xs) zero v bound le h zero = le
set-below (x ∷ xs) zero v bound le h (suc k) = h (suc k)
set-below (x ∷ xs) (suc i) v bound le h zero = h zero
set-below (x ∷ xs) (suc i) v bound le h (suc k) = set-below xs i v (λ j. bound (suc j)) le (λ j. h (suc j)) k

-- how many numbers a list may have at most does not matter, where that is no less than the first
chain-most : (m n : ℕ) (links : List ℕ) (first : ℕ) → AreLinksBelow links → first ≤ m → first ≤ n → chain m links first ≡ chain n links first
chain-most zero zero links first below l r = refl
chain-most zero (suc n) links zero below l r = refl
chain-most zero (suc n) links (suc k) below l r = absurd (omega (arith, l))
chain-most (suc m) zero links zero below l r = refl
chain-most (suc m) zero links (suc k) below l r = absurd (omega (arith, r))
chain-most (suc m) (suc n) links zero below l r = refl
chain-most (suc m) (suc n) links (suc k) below l r =
    let less = below k in
    ap (λ ns. suc k ∷ ns) (chain-most m n links (get_or links k 0) below (omega (arith, less, l)) (omega (arith, less, r)))

-- nor do links of numbers above the first
chain-agree : (m : ℕ) (a b : List ℕ) (first top : ℕ) → AreLinksBelow a → first ≤ top → ((k : ℕ) → k < top → get_or a k 0 ≡ get_or b k 0) →
    chain m a first ≡ chain m b first
chain-agree zero a b first top below le same = refl
chain-agree (suc m) a b zero top below le same = refl
chain-agree (suc m) a b (suc k) top below le same =
    let less = below k in
    ap (λ ns. suc k ∷ ns) (chain-agree m a b (get_or a k 0) top below (omega (arith, less, le)) same
    ∙ ap (chain m b) (same k (omega (arith, le))))

pub chain-next : (links : List ℕ) (number : ℕ) → 0 < number → AreLinksBelow links →
    chain number links number ≡ number ∷ chain (get_or links (number - 1) 0) links (get_or links (number - 1) 0)
chain-next links zero lt below = absurd (omega (arith, lt))
chain-next links (suc k) lt below =
    let p : k ≡ suc k - 1 = omega arith in
    ap (λ ns. suc k ∷ ns) (chain-most k (get_or links k 0) links (get_or links k 0) below (below k) (omega arith)
    ∙ ap (λ j. chain (get_or links j 0) links (get_or links j 0)) p)

hung_of-agree : (heads a b : List ℕ) (top : ℕ) → AreLinksBelow a → ((p : ℕ) → get_or heads p 0 ≤ top) → ((k : ℕ) → k < top → get_or a k 0 ≡ get_or b k 0) →
    hung_of heads a ≡ hung_of heads b
hung_of-agree [] a b top below le same = refl
hung_of-agree (h ∷ heads) a b top below le same =
    let e = chain-agree h a b h top below (le 0) same in let f = hung_of-agree heads a b top below (λ p. le (suc p)) same in
    λ i. e i ∷ f i

-- the lists at places
pub hung_of-at : (heads links : List ℕ) (p : ℕ) → p < length heads → get_or (hung_of heads links) p [] ≡ chain (get_or heads p 0) links (get_or heads p 0)
hung_of-at heads links p lt = get_or-map (λ n. chain n links n) heads p 0 [] lt

pub hung_of-out : (heads links : List ℕ) (p : ℕ) → length heads ≤ p → get_or (hung_of heads links) p [] ≡ []
hung_of-out [] links p le = refl
hung_of-out (h ∷ heads) links zero le = absurd (omega (arith, le))
hung_of-out (h ∷ heads) links (suc p) le = hung_of-out heads links p (omega (arith, le))

pub length-hung_of : (heads links : List ℕ) → length (hung_of heads links) ≡ length heads
length-hung_of heads links = length-map heads (λ n. chain n links n)

-- a number is put into a list
module _ (heads links heads' links' : List ℕ) (p number : ℕ) (lt : p < length heads) (least : 0 < number) (most : number ≤ length links)
    (linked : AreLinked heads links (number - 1)) (put : heads' ≡ set heads p number) (link : links' ≡ set links (number - 1) (get_or heads p 0)) where
  pub linked-hang : AreLinked heads' links' number
  linked-hang = record {
    first = (λ q. subst (λ hs. get_or hs q 0 ≤ number) (sym put) (set-below heads p number (λ j. number) (omega arith)
        (λ j. let le = linked.first j in omega (arith, le)) q));
    below = (λ k. subst (λ ls. get_or ls k 0 ≤ k) (sym link) (set-below links (number - 1) (get_or heads p 0) (λ j. j) (linked.first p) linked.below k));
    room = omega (arith, most, ap length link, length-set links (number - 1) (get_or heads p 0));
  }

  own : chain number links' number ≡ number ∷ get_or (hung_of heads links) p []
  own =
      let there : get_or links' (number - 1) 0 ≡ get_or heads p 0 =
      ap (λ ls. get_or ls (number - 1) 0) link ∙ get_or-set_same links (number - 1) (get_or heads p 0) 0 (omega (arith, least, most)) in
      chain-next links' number least linked-hang.below
      ∙ ap (λ h. number ∷ chain h links' h) there
      ∙ ap (λ ns. number ∷ ns) (sym (chain-agree (get_or heads p 0) links links' (get_or heads p 0) (number - 1) linked.below (linked.first p) stays)
      ∙ sym (hung_of-at heads links p lt))
    where
      stays : (k : ℕ) → k < number - 1 → get_or links k 0 ≡ get_or links' k 0
      stays k less = sym (ap (λ ls. get_or ls k 0) link ∙ get_or-set_other links (number - 1) k (get_or heads p 0) 0 (λ e. absurd (omega (arith, e, less))))

  pub hung_of-hang : hung_of heads' links' ≡ with_hung (hung_of heads links) p number
  hung_of-hang =
      ap (λ hs. hung_of hs links') put
      ∙ map-set (λ n. chain n links' n) heads p number
      ∙ (λ i. set (sym (hung_of-agree heads links links' (number - 1) linked.below linked.first stays) i) p (own i))
    where
      stays : (k : ℕ) → k < number - 1 → get_or links k 0 ≡ get_or links' k 0
      stays k less = sym (ap (λ ls. get_or ls k 0) link ∙ get_or-set_other links (number - 1) k (get_or heads p 0) 0 (λ e. absurd (omega (arith, e, less))))

-- the greatest number rises, or a link comes
pub linked-more : (heads links : List ℕ) (m n : ℕ) → m ≤ n → n ≤ length links → AreLinked heads links m → AreLinked heads links n
linked-more heads links m n le room h = record { first = (λ p. let l = h.first p in omega (arith, l, le)); below = h.below; room = room }

pub linked-same : (heads heads' links links' : List ℕ) (m : ℕ) → heads' ≡ heads → ((k : ℕ) → get_or links' k 0 ≡ get_or links k 0) → length links ≤ length links' →
    AreLinked heads links m → AreLinked heads' links' m
linked-same heads heads' links links' m e same le h = record {
  first = (λ p. subst (λ hs. get_or hs p 0 ≤ m) (sym e) (h.first p));
  below = (λ k. subst (λ n. n ≤ k) (sym (same k)) (h.below k));
  room = omega (arith, le, h.room);
}

pub hung_of-same : (heads heads' links links' : List ℕ) (m : ℕ) → heads' ≡ heads → ((k : ℕ) → get_or links' k 0 ≡ get_or links k 0) → AreLinked heads links m →
    hung_of heads' links' ≡ hung_of heads links
hung_of-same heads heads' links links' m e same h =
    ap (λ hs. hung_of hs links') e ∙ sym (hung_of-agree heads links links' m h.below h.first (λ k lt. sym (same k)))

pub more-zero : (xs : List ℕ) (k : ℕ) → get_or (xs ++ 0 ∷ []) k 0 ≡ get_or xs k 0
more-zero [] zero = refl
more-zero [] (suc k) = refl
more-zero (x ∷ xs) zero = refl
more-zero (x ∷ xs) (suc k) = more-zero xs k

-- no list yet
pub linked-zeros : (heads links : List ℕ) (n m k : ℕ) → heads ≡ replicate n 0 → links ≡ replicate m 0 → k ≤ length links → AreLinked heads links k
linked-zeros heads links n m k e f le = record {
  first = (λ p. let z = ap (λ hs. get_or hs p 0) e ∙ get_or-zeros n p in omega (arith, z));
  below = (λ p. let z = ap (λ ls. get_or ls p 0) f ∙ get_or-zeros m p in omega (arith, z));
  room = le;
}

pub linked-cleared : (heads links : List ℕ) (n : ℕ) → heads ≡ replicate n 0 → AreLinksBelow links → AreLinked heads links 0
linked-cleared heads links n e below = record {
  first = (λ p. let z = ap (λ hs. get_or hs p 0) e ∙ get_or-zeros n p in omega (arith, z));
  below = below;
  room = omega arith;
}
