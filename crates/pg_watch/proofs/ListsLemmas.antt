-- One list of many is written.
use Rattle.std.proofs.Common.{◌≡◌, ℕ, zero, suc, ◌<◌, List, [], ◌∷◌, length, get_or, set, refl, sym, ap, ◌∙◌, arith}
use Rattle.std.proofs.lemmas.List.{get_or-map, length-map}
use Rattle.std.specs.declared.vec.Vec.{Vec}
use Rattle.std.specs.declared.alloc.Global.{Global}
use Rattle.pg_watch.specs.declared.lists.Watch.{Watch}
use Rattle.pg_watch.specs.Lists.{lists_in}

lists_in-set : (ls : List (Vec Watch Global)) (at : ℕ) (v : Vec Watch Global) → lists_in (set ls at v) ≡ set (lists_in ls) at v.items
lists_in-set [] at v = refl
lists_in-set (l ∷ ls) zero v = refl
lists_in-set (l ∷ ls) (suc at) v = ap (λ xs. l.items ∷ xs) (lists_in-set ls at v)

set-same : {A : Type 0} (xs : List A) (i : ℕ) (d : A) → set xs i (get_or xs i d) ≡ xs
set-same [] i d = refl
set-same (x ∷ xs) zero d = refl
set-same (x ∷ xs) (suc i) d = ap (λ ys. x ∷ ys) (set-same xs i d)

-- the list that is read
pub read_list : (ls : List (Vec Watch Global)) (all : List (List Watch)) (at : ℕ) (v : Vec Watch Global) → lists_in ls ≡ all → at < length all →
    v ≡ get_or ls at v → get_or all at [] ≡ v.items
read_list ls all at v e lt f =
    let within : at < length ls = omega (arith, ap length e, length-map ls (λ (l : Vec Watch Global). l.items)) in
    ap (λ (xs : List (List Watch)). get_or xs at []) (sym e) ∙ get_or-map (λ (l : Vec Watch Global). l.items) ls at v [] within
    ∙ ap (λ (l : Vec Watch Global). l.items) (sym f)

pub write_list : (ls : List (Vec Watch Global)) (all : List (List Watch)) (at : ℕ) (w : Vec Watch Global) (ws : List Watch) → lists_in ls ≡ all →
    w.items ≡ ws → lists_in (set ls at w) ≡ set all at ws
write_list ls all at w ws e f = lists_in-set ls at w ∙ (λ i. set (e i) at (f i))

pub write_same : (ls : List (Vec Watch Global)) (all : List (List Watch)) (at : ℕ) (v w : Vec Watch Global) → lists_in ls ≡ all → at < length all →
    v ≡ get_or ls at v → w.items ≡ v.items → lists_in (set ls at w) ≡ all
write_same ls all at v w e lt f g =
    write_list ls all at w (get_or all at []) e (g ∙ sym (read_list ls all at v e lt f)) ∙ set-same all at []
