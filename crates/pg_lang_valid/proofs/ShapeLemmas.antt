-- The test of a shape, and its numbers.
use Rattle.std.proofs.Common.{◌≡◌, ℕ, Bool, true, false, if◌then◌else◌, None, Some, refl, ap, sym, ◌∙◌}
use Rattle.std.proofs.lemmas.Bool.{leb-true, ltb-true, eqb-true}
use Rattle.pg_word.specs.Shape.{AreShapeNumbers}
use Rattle.pg_ast.specs.declared.tree.Desc.{Desc}
use Rattle.pg_lang_valid.specs.declared.fault.TypeFault.TheVariants.{Shape}
use Rattle.pg_lang_valid.specs.Valid.{has_shape, shape_fault}
use Rattle.pg_lang_valid.proofs.CheckLemmas.{and_both}

-- the test passes at the numbers of a machine
pub has_shape-true : (w a q : ℕ) (causes : Bool) → has_shape w a q causes ≡ true → AreShapeNumbers w a q causes
has_shape-true w a q causes e =
    let h7 = and_both _ _ e in
    let h6 = and_both _ _ h7.0 in
    let h5 = and_both _ _ h6.0 in
    let h4 = and_both _ _ h5.0 in
    let h3 = and_both _ _ h4.0 in
    let h2 = and_both _ _ h3.0 in
    let h1 = and_both _ _ h2.0 in
    record {
      whole_bytes = eqb-true _ _ h1.0;
      word_least = leb-true _ _ h1.1;
      word_most = leb-true _ _ h2.1;
      address_least = leb-true _ _ h3.1;
      address_most = leb-true _ _ h4.1;
      psw_fits = leb-true _ _ h5.1;
      size_least = leb-true _ _ h6.1;
      size_most = ltb-true _ _ h7.1;
    }

pub none_where : (b : Bool) (d : Desc) → has_shape d.word d.address d.size d.causes ≡ b → shape_fault d ≡ None → b ≡ true
none_where true d e none = refl
none_where false d e none =
    let faulty : (if false then None else Some Shape) ≡ None = sym (ap (λ x. if x then None else Some Shape) e) ∙ none in cc

-- the numbers of a description whose head has no fault
pub shape_valid : (d : Desc) → shape_fault d ≡ None → AreShapeNumbers d.word d.address d.size d.causes
shape_valid d none =
    has_shape-true d.word d.address d.size d.causes (none_where (has_shape d.word d.address d.size d.causes) d refl none)
