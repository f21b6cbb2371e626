-- What a run that was told leaves.
use Rattle.std.proofs.Common.{◌≡◌, ℕ, List, length, Result, Ok, Err, ◌∙◌, ap}
use Rattle.std.specs.Prelude.{OnOk}
use Rattle.pg_ast.specs.declared.tree.Desc.{Desc}
use Rattle.pg_lang_meaning.specs.Steps.{steps, power_on, bare}
use Rattle.pg_hw.specs.Machinery.{Machinery}
use Rattle.pg_hw.specs.Running.{Ran}

-- a hardware that was switched on with an image, and made n steps, is where the bare machine is, however the text was put
pub reached-anyway : {T E : Type 0} (d : Desc) (image : List ℕ) (n : ℕ) (old new : Machinery) (r : Result T E) → old.state ≡ power_on image (length image) → Ran d n old new →
    OnOk r (new.state ≡ bare d image (length image) n)
unfolding bare
reached-anyway d image n old new (Ok x) is ran = ran.state ∙ ap (steps d n) is
reached-anyway d image n old new (Err e) is ran = tt
