-- Names in order.
use Rattle.std.proofs.Common.{◌≡◌, ℕ, ◌+◌, ◌-◌, ◌≤◌, ◌<◌, min, List, [], ◌∷◌, ◌++◌, length, take, drop, map, reverse, get_or, refl, ap, sym, ◌∙◌, arith, append_assoc, append-nil}
use Rattle.std.proofs.lemmas.List.{length-take, take-take, take_more, map-append, reverse-append}

-- a list that another begins with begins what that one begins
pub begun_twice : (a b c : List (List ℕ)) → take (length a) b ≡ a → take (length b) c ≡ b → take (length a) c ≡ a
begun_twice a b c e f =
    let room : length a ≤ length b = omega (arith, length-take (length a) b, ap length e) in
    sym (take-take (length a) (length b) c room) ∙ ap (take (length a)) f ∙ e

-- the last of a list, seen from its end
pub newest : {X Y : Type 0} (f : X → Y) (xs : List X) (j : ℕ) (d : X) → j < length xs →
    reverse (map f (take (j + 1) xs)) ≡ f (get_or xs j d) ∷ reverse (map f (take j xs))
newest f xs j d h =
    ap (λ ys. reverse (map f ys)) (take_more xs j d h)
    ∙ ap reverse (map-append f (take j xs) (get_or xs j d ∷ []))
    ∙ reverse-append (map f (take j xs)) (f (get_or xs j d) ∷ [])

pub ruleset name_rules = (append_assoc, append-nil)
