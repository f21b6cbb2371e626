-- A text reads as a description exactly where what it reads as is printed alike.
use Rattle.std.proofs.Common.{◌≡◌, ◌≢◌, ℕ, Bool, false, List, Some, Result, Ok, Err, ap, sym, ◌∙◌}
use Rattle.std.specs.Prelude.{◌↔◌, IsTrue, IfOk, bytes_eq}
use Rattle.std.specs.declared.alloc.AllocError.{AllocError}
use Rattle.std.proofs.lemmas.Slice.Eq.{bytes_eq-Decides}
use Rattle.pg_ast.specs.declared.tree.Desc.{Desc}
use Rattle.pg_ast.specs.Tokens.{tokens_of}
use Rattle.pg_text.specs.Cutting.{tokens_in}
use Rattle.pg_lang_print.specs.Layout.{printed}
use Rattle.pg_read.specs.Answer.{IsAnswer}
use Rattle.pg_read.specs.declared.fault.DescFault.{DescFault}
use Rattle.pg_read.specs.declared.fault.DescFault.TheVariants.{Memory}
use Rattle.pg_read.proofs.OneAnswer.{one_answer}

-- it is read as another description that is printed alike
pub reads-alike : (text xs ys : List ℕ) (d e : Desc) → IsAnswer text (Ok d) → tokens_in xs ≡ Some (tokens_of d) →
    tokens_in ys ≡ Some (tokens_of e) → xs ≡ ys → IsAnswer text (Ok e)
reads-alike text xs ys d e read first second same = (read.0, read.1 ∙ sym first ∙ ap tokens_in same ∙ second)

abbrev ok : Desc → Result Desc DescFault
ok d = Ok d

abbrev err : DescFault → Result Desc DescFault
err f = Err f

ok-no-err : (d : Desc) (f : DescFault) → ok d ≢ err f
ok-no-err d f e = absurd (cc e)

err-no-memory : (f : DescFault) → f ≢ Memory → err f ≢ err Memory
err-no-memory f l e = l (cc e)

same-ok : (d e : Desc) → ok d ≡ ok e → d ≡ e
same-ok d e h = cc h

-- one description is read
pub read-same : (text : List ℕ) (d e : Desc) → IsAnswer text (Ok d) → IsAnswer text (Ok e) → printed d ≡ printed e
read-same text d e x y = ap printed (same-ok d e (one_answer text (Ok d) (Ok e) (ok-no-err d Memory) (ok-no-err e Memory) x y))

-- a text that is refused reads as none
pub read-none : (text : List ℕ) (d : Desc) (f : DescFault) → f ≢ Memory → IsAnswer text (Err f) → IsAnswer text (Ok d) → ⊥
read-none text d f l refused read = ok-no-err d f (one_answer text (Ok d) (Err f) (ok-no-err d Memory) (err-no-memory f l) read refused)

-- whether a text that is read reads as a description, by how both are printed
pub reads_decided : (text xs ys : List ℕ) (d e : Desc) (r : Bool) → r ≡ bytes_eq xs ys → IsAnswer text (Ok d) → xs ≡ printed d → ys ≡ printed e →
    tokens_in xs ≡ Some (tokens_of d) → tokens_in ys ≡ Some (tokens_of e) → IsTrue r ↔ IsAnswer text (Ok e)
reads_decided text xs ys d e r is read x y first second = (
  λ t. reads-alike text xs ys d e read first second ((bytes_eq-Decides xs ys).0 (sym is ∙ t)),
  λ other. is ∙ (bytes_eq-Decides xs ys).1 (x ∙ read-same text d e read other ∙ sym y),
)

-- a text that is refused reads as none
pub refused_decided : (text : List ℕ) (d : Desc) (f : DescFault) (r : Result Bool AllocError) → IfOk r (λ is. (is ≡ false) × (f ≢ Memory)) → IsAnswer text (Err f) →
    IfOk r (λ is. IsTrue is ↔ IsAnswer text (Ok d))
refused_decided text d f (Ok is) h refused = (λ t. absurd (cc (t, h.0)), λ read. absurd (read-none text d f h.1 refused read))
refused_decided text d f (Err e) h refused = tt
