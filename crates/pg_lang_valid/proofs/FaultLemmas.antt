-- The first fault of several classes.
use Rattle.std.proofs.Common.{◌≡◌, inl, inr, ℕ, List, [], Option, None, Some, refl, ap, ◌∙◌}
use Rattle.pg_ast.specs.declared.tree.Desc.{Desc}
use Rattle.pg_lang_valid.specs.declared.fault.TypeFault.{TypeFault}
use Rattle.pg_lang_valid.specs.declared.fault.TypeFault.TheVariants.{Memory}
use Rattle.pg_lang_valid.specs.Twice.{first_of_two, first_twice, instr_names, let_twice_among}
use Rattle.pg_lang_valid.specs.Valid.{shape_fault, limit_fault, as_twice, twice_fault, pattern_fault, overlap_fault, name_fault, width_fault, IsValid, fault_of}
use Rattle.pg_lang_valid.specs.Verdicts.{IsFaultOf, IsFault, part_fault}

-- where an earlier class has a fault, it is the first
pub first_here : (early late : Option TypeFault) (fault : TypeFault) → IsFaultOf early fault → IsFaultOf (first_of_two early late) fault
first_here early late fault (inl m) = inl m
first_here early late fault (inr e) = inr (ap (λ x. first_of_two x late) e)

-- where it has none, the first is that of the later classes
pub first_later : (early late : Option TypeFault) (fault : TypeFault) → early ≡ None → IsFaultOf late fault → IsFaultOf (first_of_two early late) fault
first_later early late fault none (inl m) = inl m
first_later early late fault none (inr e) = inr (ap (λ x. first_of_two x late) none ∙ e)

-- a name of an instruction given twice comes before that of a let
as_twice-first : (x y : Option (List ℕ)) → as_twice (first_of_two x y) ≡ first_of_two (as_twice x) (as_twice y)
as_twice-first None y = refl
as_twice-first (Some n) y = refl

pub twice_here : (d : Desc) (fault : TypeFault) → IsFaultOf (as_twice (first_twice [] (instr_names d.instrs))) fault → IsFaultOf (twice_fault d) fault
twice_here d fault h =
    let names = first_twice [] (instr_names d.instrs) in
    let lets = let_twice_among d.instrs in
    rw (as_twice-first names lets) (first_here (as_twice names) (as_twice lets) fault h)

pub twice_later : (d : Desc) (fault : TypeFault) → as_twice (first_twice [] (instr_names d.instrs)) ≡ None →
    IsFaultOf (as_twice (let_twice_among d.instrs)) fault → IsFaultOf (twice_fault d) fault
twice_later d fault none h =
    let names = first_twice [] (instr_names d.instrs) in
    let lets = let_twice_among d.instrs in
    rw (as_twice-first names lets) (first_later (as_twice names) (as_twice lets) fault none h)

pub twice_none : (d : Desc) → as_twice (first_twice [] (instr_names d.instrs)) ≡ None → as_twice (let_twice_among d.instrs) ≡ None → twice_fault d ≡ None
twice_none d none lets_none =
    as_twice-first (first_twice [] (instr_names d.instrs)) (let_twice_among d.instrs)
    ∙ ap (λ x. first_of_two x (as_twice (let_twice_among d.instrs))) none ∙ lets_none

pub ruleset twice_rules = (twice_here, twice_later, twice_none)

pub of_shape : (d : Desc) (fault : TypeFault) → IsFaultOf (shape_fault d) fault → IsFault d fault
unfolding fault_of
of_shape d fault h = first_here _ _ fault h

pub of_limits : (d : Desc) (fault : TypeFault) → shape_fault d ≡ None → IsFaultOf (limit_fault d) fault → IsFault d fault
unfolding fault_of
of_limits d fault a h = first_later _ _ fault a (first_here _ _ fault h)

pub of_names_once : (d : Desc) (fault : TypeFault) → shape_fault d ≡ None → limit_fault d ≡ None → IsFaultOf (twice_fault d) fault → IsFault d fault
unfolding fault_of
of_names_once d fault a b h = first_later _ _ fault a (first_later _ _ fault b (first_here _ _ fault h))

pub of_parts : (d : Desc) (fault : TypeFault) → shape_fault d ≡ None → limit_fault d ≡ None → twice_fault d ≡ None → IsFaultOf (part_fault d) fault → IsFault d fault
unfolding fault_of part_fault
of_parts d fault a b e h = first_later _ _ fault a (first_later _ _ fault b (first_later _ _ fault e h))

pub part_patterns : (d : Desc) (fault : TypeFault) → IsFaultOf (pattern_fault d) fault → IsFaultOf (part_fault d) fault
unfolding part_fault
part_patterns d fault h = first_here _ _ fault h

pub part_overlaps : (d : Desc) (fault : TypeFault) → pattern_fault d ≡ None → IsFaultOf (overlap_fault d) fault → IsFaultOf (part_fault d) fault
unfolding part_fault
part_overlaps d fault a h = first_later _ _ fault a (first_here _ _ fault h)

pub part_names_known : (d : Desc) (fault : TypeFault) → pattern_fault d ≡ None → overlap_fault d ≡ None → IsFaultOf (name_fault d) fault → IsFaultOf (part_fault d) fault
unfolding part_fault
part_names_known d fault a b h = first_later _ _ fault a (first_later _ _ fault b (first_here _ _ fault h))

pub part_widths : (d : Desc) (fault : TypeFault) → pattern_fault d ≡ None → overlap_fault d ≡ None → name_fault d ≡ None → IsFaultOf (width_fault d) fault → IsFaultOf (part_fault d) fault
unfolding part_fault
part_widths d fault a b e h = first_later _ _ fault a (first_later _ _ fault b (first_later _ _ fault e h))

pub part_none : (d : Desc) → pattern_fault d ≡ None → overlap_fault d ≡ None → name_fault d ≡ None → width_fault d ≡ None → part_fault d ≡ None
unfolding part_fault
part_none d a b e g =
    let late : Option TypeFault = first_of_two (name_fault d) (width_fault d) in
    ap (λ x. first_of_two x (first_of_two (overlap_fault d) late)) a ∙ ap (λ x. first_of_two x late) b ∙ ap (λ x. first_of_two x (width_fault d)) e ∙ g

none_both : {X : Type 0} (x y : Option X) → first_of_two x y ≡ None → (x ≡ None) × (y ≡ None)
none_both None y e = (refl, e)
none_both (Some v) y e = cc

-- a description that is valid has no fault
pub no_fault : (d : Desc) → IsValid d → fault_of d ≡ None
unfolding fault_of
no_fault d v =
    let late : Option TypeFault = first_of_two (name_fault d) (width_fault d) in
    let fifth : Option TypeFault = first_of_two (overlap_fault d) late in
    let fourth : Option TypeFault = first_of_two (pattern_fault d) fifth in
    let third : Option TypeFault = first_of_two (twice_fault d) fourth in
    let second : Option TypeFault = first_of_two (limit_fault d) third in
    ap (λ x. first_of_two x second) v.shape ∙ ap (λ x. first_of_two x third) v.limits ∙ ap (λ x. first_of_two x fourth) v.names_once
    ∙ ap (λ x. first_of_two x fifth) v.patterns ∙ ap (λ x. first_of_two x late) v.apart
    ∙ ap (λ x. first_of_two x (width_fault d)) v.names_known ∙ v.widths

-- where the first three classes have none, and the last four have none
pub valid_of : (d : Desc) → shape_fault d ≡ None → limit_fault d ≡ None → twice_fault d ≡ None → part_fault d ≡ None → IsValid d
unfolding part_fault
valid_of d a b e none =
    let g = none_both (pattern_fault d) _ none in
    let i = none_both (overlap_fault d) _ g.1 in
    let j = none_both (name_fault d) _ i.1 in
    record { shape = a; limits = b; names_once = e; patterns = g.0; apart = i.0; names_known = j.0; widths = j.1 }

-- and one that has none is valid
pub is_valid : (d : Desc) → fault_of d ≡ None → IsValid d
unfolding fault_of
is_valid d none =
    let a = none_both (shape_fault d) _ none in
    let b = none_both (limit_fault d) _ a.1 in
    let e = none_both (twice_fault d) _ b.1 in
    let g = none_both (pattern_fault d) _ e.1 in
    let i = none_both (overlap_fault d) _ g.1 in
    let j = none_both (name_fault d) _ i.1 in
    record { shape = a.0; limits = b.0; names_once = e.0; patterns = g.0; apart = i.0; names_known = j.0; widths = j.1 }

-- of a valid description only memory is refused
pub valid_memory : (d : Desc) (fault : TypeFault) → IsFault d fault → IsValid d → fault ≡ Memory
valid_memory d fault (inl m) v = m
valid_memory d fault (inr e) v = let none = no_fault d v in cc
